use Rattle.std.proofs.Common.{◌≡◌, ap, slice_get, sym, ◌∙◌, true, false, rules}
use Rattle.psg_grammar.specs.Paths.{node_at}
use Rattle.psg_lint.specs.Judged.{def_of, tree_in}
use Rattle.psg_lint.proofs.TellLaws.{element_list, none_told, told_if}
use Rattle.psg_lint.proofs.blaming.is_told_before.Goals as goal

pub returns-then-not-is_blamed_before : goal.returns-then-not-is_blamed_before
returns-then-not-is_blamed_before c =
    let w = c.args.wrong in
    none_told (def_of w) (tree_in w) w.kept.now w.places.now c.requires.wrong.places c.args.number c.args.element.now c.list_of-list.result.now
    c.is_blamed_before.result c.list_of-list.ensures c.is_blamed_before.ensures (let none : c.is_blamed_before.result ≡ false = search rules in none)

pub is_declaring_list-declaring-requires-clause-there : goal.is_declaring_list-declaring-requires-clause-there
is_declaring_list-declaring-requires-clause-there c =
    let w = c.args.wrong in
    let (list, at, is) = element_list (def_of w) (tree_in w) c.requires.wrong.judged.formed c.args.number c.args.element.now
    (ap (λ ps. slice_get ps c.args.number) (sym c.requires.wrong.places) ∙ c.requires.place) in
    (list, ap (node_at (tree_in w)) (c.in_ok-path.ensures ∙ c.list_of-list.ensures) ∙ at, is)

pub returns : goal.returns
returns c =
    let w = c.args.wrong in
    told_if (def_of w) (tree_in w) w.kept.now w.places.now c.requires.wrong.places c.args.number c.args.element.now c.list_of-list.result.now
    c.in_ok-path.path c.is_blamed_before.result c.is_declaring_list-declaring.result c.list_of-list.ensures c.in_ok-path.ensures
    c.is_blamed_before.ensures (let so : c.is_blamed_before.result ≡ true = search rules in so) c.is_declaring_list-declaring.ensures
