use Rattle.std.proofs.Common.{◌≡◌, true, false, Some, inr, ap, sym, ◌∙◌, true≢false, rules}
use Rattle.psg_lint.specs.Judged.{def_of, fresh_of, tree_in}
use Rattle.psg_lint.proofs.TellLaws.{tells_nothing}
use Rattle.psg_lint.proofs.blaming.tell_element.Goals as goal

pub is_told_before-requires-clause-place : goal.is_told_before-requires-clause-place
is_told_before-requires-clause-place g c = c.requires.place ∙ ap Some c.requires.path

pub returns-then-before : goal.returns-then-before
returns-then-before g c = λ r is.
    tells_nothing (def_of c.args.wrong) c.args.wrong.judged.text.now (tree_in c.args.wrong) r (fresh_of c.args.wrong) c.args.wrong.kept.now
    c.args.number c.args.place.now c.args.path.now c.requires.path (c.in_ok-before.ensures.0 (let yes : c.in_ok-before.before ≡ true = search rules in yes))

pub tell_node-requires-clause-path : goal.tell_node-requires-clause-path
tell_node-requires-clause-path g c = inr c.requires.path

pub tell_node-requires-clause-first : goal.tell_node-requires-clause-first
tell_node-requires-clause-first g c = λ e before.
    let no : c.in_ok-before.before ≡ false = search rules in true≢false (sym (c.in_ok-before.ensures.1 before) ∙ no)
