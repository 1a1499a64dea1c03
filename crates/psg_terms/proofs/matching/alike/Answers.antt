use Rattle.std.proofs.Common.{◌∙◌, min, ap, sym}
use Rattle.std.proofs.lemmas.Bool.{false≢true}
use Rattle.psg_terms.specs.Weight.{symbols_of}
use Rattle.psg_terms.proofs.matching.alike.Goals as goal

pub returns-then-size-other : goal.returns-then-size-other
returns-then-size-other c = (
  λ h. absurd (false≢true h),
  λ e. absurd (c.if-size-other.true (c.symbols-size.ensures ∙ ap (λ t. min (symbols_of t) 18446744073709551615) e ∙ sym c.symbols-other.ensures)),
)
