use Rattle.std.proofs.Common.{rules, get_or, ◌∙◌, sym, ◌-◌, length, take, drop, arith}
use Rattle.std.proofs.lemmas.List.Sums.{prefix_len-le-length}
use Rattle.std.proofs.lemmas.Bool.{false≢true}
use Rattle.std.proofs.lemmas.List.{take_rest}
use Rattle.psg_deflines.specs.Parts.{goes_behind}
use Rattle.psg_deflines.proofs.PartLaws.{named_first-text, named_not_first-text, begins-drop, begins-end}
use Rattle.psg_deflines.proofs.parts.sigil_len.Goals as goal
use Rattle.psg_deflines.proofs.parts.sigil_len.Goals.{else-len-name-via-then-len-name+else-goes_on, else-len-name-via-else-len-name}

pub returns-then-len-eq0 : goal.returns-then-len-eq0
returns-then-len-eq0 c =
    named_not_first-text c.args.text.now _ c.name_len-len.result c.requires.long c.requires.sigil (take_rest c.args.text.now 1) c.name_len-len.ensures
    (λ positive ends. omega (arith, c.if-len-eq0.true))

pub returns-then-goes_on : goal.returns-then-goes_on
returns-then-goes_on c =
    named_not_first-text c.args.text.now _ c.name_len-len.result c.requires.long c.requires.sigil (take_rest c.args.text.now 1) c.name_len-len.ensures
    (λ positive ends. false≢true (sym ends ∙ begins-drop _ c.name_len-len.result c.if-len-name.true ∙ sym c.if-goes_on.ensures))

pub overflow_add-result : goal.overflow_add-result
overflow_add-result c = search (rules, prefix_len-le-length (goes_behind (get_or c.args.text.now 0 0)) (take (length c.args.text.now - 1) (drop 1 c.args.text.now)))

pub returns : goal.returns
returns c =
    named_first-text c.args.text.now _ c.name_len-len.result c.requires.long c.requires.sigil (take_rest c.args.text.now 1) c.name_len-len.ensures
    (omega (arith, c.if-len-eq0.false))
    (elim c.else-len-name.branch [
      | else-len-name-via-then-len-name+else-goes_on w ↦ begins-drop _ c.name_len-len.result w.if-len-name.true ∙ sym w.if-goes_on.ensures
      | else-len-name-via-else-len-name w ↦ begins-end _ c.name_len-len.result (omega (arith, w.if-len-name.false))
    ])
