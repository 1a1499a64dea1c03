use Rattle.std.proofs.Common.{◌≡◌, ◌∷◌, [], true, false, append-nil, sym, ◌∙◌, rules}
use Rattle.psg_lint.specs.OpenPlaces.{not_open}
use Rattle.psg_lint.proofs.EndLaws.{list_formed, list_there, listed_is}
use Rattle.psg_lint.proofs.NotedLaws.{list_noted, no_hole}
use Rattle.psg_lint.proofs.open_places.tell_list.Goals as goal

pub as_list-known-requires-clause-formed : goal.as_list-known-requires-clause-formed
as_list-known-requires-clause-formed g c =
    let j = c.args.own.judged in
    list_formed j.definition.now j.tree.now c.args.path.now c.args.tree.now c.requires.there c.requires.program.judged.formed

pub unreachable-requires : goal.unreachable-requires
unreachable-requires g c = c.as_list-known.ensures.none c.in_default.is c.requires.list

pub returns-then-not-list : goal.returns-then-not-list
returns-then-not-list g c = λ r is.
    let j = c.args.own.judged in
    let own = listed_is j.definition.now c.args.tree.now c.as_list-known.result c.in-Some.list c.in-Some.is c.as_list-known.ensures.some in
    let no : c.in-Some.list.unfinished ≡ false = search rules in (
      [],
      sym (append-nil c.args.found.now.items),
      not_open c.args.path.now c.args.tree.now (sym own.unfinished ∙ no) (no_hole c.args.tree.now c.requires.list),
    )

pub told_list-requires-clause-there : goal.told_list-requires-clause-there
told_list-requires-clause-there g c =
    let j = c.args.own.judged in
    list_there j.definition.now j.tree.now c.args.path.now c.args.tree.now c.requires.there c.in-Some.list
    (listed_is j.definition.now c.args.tree.now c.as_list-known.result c.in-Some.list c.in-Some.is c.as_list-known.ensures.some)

pub returns : goal.returns
returns g c = λ r is.
    let j = c.args.own.judged in
    let own = listed_is j.definition.now c.args.tree.now c.as_list-known.result c.in-Some.list c.in-Some.is c.as_list-known.ensures.some in
    let yes : c.in-Some.list.unfinished ≡ true = search rules in
    let (ops, menu, e) = c.in_ok-told.ensures r is in (
      c.in_ok-told.told ∷ [],
      c.in_ok-push.ensures.items,
      list_noted c.args.own c.requires.program r c.args.path.now c.args.tree.now c.in-Some.list ops c.in_ok-told.told own yes menu e,
    )
