use Rattle.std.proofs.Common.{inl}
use Rattle.psg_lint.specs.Judged.{def_of, fresh_of, tree_in}
use Rattle.psg_lint.proofs.TellLaws.{tells_name}
use Rattle.psg_lint.proofs.blaming.told_place.Goals as goal

pub tell_node-requires-clause-path : goal.tell_node-requires-clause-path
tell_node-requires-clause-path g c = inl c.in-Node.is

pub returns-in_ok-told-in-Node : goal.returns-in_ok-told-in-Node
returns-in_ok-told-in-Node g c = λ r is. (c.place_at-place.result.now, c.place_at-place.ensures, c.in_ok-told-in-Node.ensures r is)

pub returns-in_ok-told-in-Element : goal.returns-in_ok-told-in-Element
returns-in_ok-told-in-Element g c = λ r is.
    (c.place_at-place.result.now, c.place_at-place.ensures, c.in_ok-told-in-Element.ensures r is)

pub returns-in_ok-told-in-End : goal.returns-in_ok-told-in-End
returns-in_ok-told-in-End g c = λ r is. (c.place_at-place.result.now, c.place_at-place.ensures, c.in_ok-told-in-End.ensures r is)

pub returns-in_ok-told-in-Name : goal.returns-in_ok-told-in-Name
returns-in_ok-told-in-Name g c = λ r is.
    let w = c.args.wrong in
    let (message, h, e) = c.in_ok-told-in-Name.ensures r is in (
      c.place_at-place.result.now,
      c.place_at-place.ensures,
      tells_name (def_of w) w.judged.text.now (tree_in w) r (fresh_of w) w.kept.now c.args.number _ c.place_at-place.result.now
          _ c.in_ok-told-in-Name.told message c.in-Name.is h e,
    )
