use Rattle.std.proofs.Common.{◌<◌, ◌≤◌, ◌++◌, [], length, append-nil, append_assoc, ap, sym, ◌∙◌, arith, rules}
use Rattle.psg_lint.specs.Judged.{def_of, fresh_of, tree_in}
use Rattle.psg_lint.specs.Suspects.{one_or_none}
use Rattle.psg_places.specs.Blame.{blamed_in}
use Rattle.psg_lint.proofs.SuspectLaws.{few_blamed, suspected_all, suspected_more, suspected_none}
use Rattle.psg_lint.proofs.suspects.tell_suspects.Goals as goal

pub returns-then-blamed-lt2 : goal.returns-then-blamed-lt2
returns-then-blamed-lt2 g c = λ r is. (
  [],
  sym (append-nil c.args.found.now.items),
  few_blamed (def_of c.args.wrong) (tree_in c.args.wrong) r (fresh_of c.args.wrong) c.args.wrong.kept.now c.args.wrong.places.now
      (let few : blamed_in c.args.wrong.kept.now < 2 = omega (arith, c.blamed_in-blamed.ensures, c.if-blamed-lt2.true) in few),
)

pub loop-number-init : goal.loop-number-init
loop-number-init g c = λ r is. (
  [],
  sym (append-nil c.args.found.now.items),
  suspected_none (def_of c.args.wrong) (tree_in c.args.wrong) r (fresh_of c.args.wrong) c.args.wrong.kept.now c.args.wrong.places.now,
)

pub loop-number-preserved : goal.loop-number-preserved
loop-number-preserved g c = λ r is.
    let (told, e, h) = c.loop-number.invariant r is in
    let own = one_or_none c.in_ok-told.told in
    let lt : c.loop-number.number < length c.args.wrong.places.now = search rules in (
      told ++ own,
      c.in_ok-push_some.ensures ∙ ap (λ xs. xs ++ own) e ∙ append_assoc c.args.found.now.items told own,
      suspected_more (def_of c.args.wrong) (tree_in c.args.wrong) r (fresh_of c.args.wrong) c.args.wrong.kept.now c.args.wrong.places.now
          c.loop-number.number told own lt (c.in_ok-told.ensures r is) h,
    )

pub returns : goal.returns
returns g c = λ r is.
    let (told, e, h) = c.loop-number.invariant r is in
    let le : length c.args.wrong.places.now ≤ c.loop-number.number = search rules in (
      told,
      e,
      suspected_all (def_of c.args.wrong) (tree_in c.args.wrong) r (fresh_of c.args.wrong) c.args.wrong.kept.now c.args.wrong.places.now
          c.loop-number.number told le h,
    )
