use Rattle.std.proofs.Common.{◌≡◌, take}
use Rattle.psg_specimen.specs.Shown.{value_terms}
use Rattle.psg_specimen.proofs.showing.terms_of.Given as goal

abbrev pub invariant-loop-place : goal.invariant-loop-place
invariant-loop-place l = l.terms.items ≡ value_terms l.value (take l.place-index l.places)
