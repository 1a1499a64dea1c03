use Rattle.std.proofs.Common.{length, length-drop, arith, ap, sym}
use Rattle.std.proofs.lemmas.Bool.{false≢true, eqb-true}
use Rattle.std.proofs.lemmas.List.{take_rest}
use Rattle.psg_deflines.proofs.FormLaws.{sort-long, sort-equals}
use Rattle.psg_deflines.proofs.forms.line_sort.Goals.{then-not-is-via-then-not-is, then-not-is-via-else-not-is+then-is_empty}
use Rattle.psg_deflines.proofs.forms.line_sort.Goals as goal

pub returns-in_default : goal.returns-in_default
returns-in_default c = λ line h. omega (arith, sort-long c.args.parts.now line h)

pub returns-then-not-is : goal.returns-then-not-is
returns-then-not-is c = λ line h. elim c.then-not-is.branch [
  | then-not-is-via-then-not-is w ↦ false≢true (w.if-not-is.ensures.1 (sort-equals c.args.parts.now line c.in-len2-up.len_at_least h))
  | then-not-is-via-else-not-is+then-is_empty w ↦ omega (arith, sort-long c.args.parts.now line h, eqb-true _ 0 (sym w.if-is_empty.ensures), ap length (take_rest c.args.parts.now 2), length-drop 2 c.args.parts.now)
]
