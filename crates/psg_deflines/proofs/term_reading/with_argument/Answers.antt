use Rattle.std.proofs.Common.{ap, sym, ◌∙◌}
use Rattle.std.proofs.lemmas.Bool.{false≢true}
use Rattle.psg_deflines.specs.WrittenTerms.{applied, named}
use Rattle.psg_deflines.proofs.TermStepLaws.{applied-snoc}
use Rattle.psg_deflines.proofs.term_reading.with_argument.Goals.{then-not-deep+in_ok-push, else-not-deep}
use Rattle.psg_deflines.proofs.term_reading.with_argument.Goals as goal

pub returns : goal.returns
returns c = λ n. elim c.if-not-deep.branch [
  | then-not-deep+in_ok-push w ↦ ap (λ v. applied (named c.args.frame.name) v.items) w.args-is ∙ ap (applied (named c.args.frame.name)) w.in_ok-push.ensures.items ∙ applied-snoc (named c.args.frame.name) c.args.frame.args.items c.args.term
  | else-not-deep w ↦ absurd (false≢true (sym n ∙ w.if-not-deep.false))
]
