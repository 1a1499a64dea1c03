use Rattle.std.proofs.Common.{◌≡◌, inl, inr, true, arith, sym, subst, ◌∙◌}
use Rattle.std.proofs.lemmas.Bool.{cases_lt}
use Rattle.psg_places.specs.Blame.{kept_in}
use Rattle.psg_places.proofs.sharing.keeps_all.Goals as goal

pub loop-place-init : goal.loop-place-init
loop-place-init c = λ m low high. absurd (omega (arith, low, high))

pub loop-place-preserved : goal.loop-place-preserved
loop-place-preserved c = λ m low high. elim (cases_lt m c.loop-place.place) [
  | inl below ↦ c.loop-place.invariant m low below
  | inr above ↦
      let same : c.loop-place.place ≡ m = omega (arith, high, above) in
      subst (λ i. kept_in c.args.keep.now i ≡ true) same (sym c.keeps.ensures ∙ c.if-not-keeps.false)
]

pub returns : goal.returns
returns c = λ yes m low high. c.loop-place.invariant m low (omega arith)
