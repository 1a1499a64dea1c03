use Rattle.std.proofs.Common.{◌≡◌, ℕ, List, Bool, true, false, refl, codes, ◌∷◌}
use Rattle.std.specs.Prelude.{MatchBool, IsTrue, ◌↔◌}
use Rattle.std.proofs.lemmas.Bool.{false≢true}
use Rattle.psg_deflines.specs.Parts.{texts}
use Rattle.psg_deflines.specs.TermWalks.{Parts, IsOpened, IsNotOpened}
use Rattle.psg_deflines.proofs.TermStepLaws.{texts-first, opened-first, not-opened-first}
use Rattle.psg_deflines.proofs.term_reading.is_opened.Goals as goal

answer : (b : Bool) (ps rest : Parts) (p : List ℕ) → ps ≡ p ∷ rest → (IsTrue b ↔ (p ≡ codes "(")) → MatchBool b (IsOpened ps) (IsNotOpened ps)
answer true ps rest p e h = opened-first ps rest p e (h.0 refl)
answer false ps rest p e h = not-opened-first ps rest p e (λ o. false≢true (h.1 o))

pub returns : goal.returns
returns c = answer c.is.result (texts c.args.parts.now) (texts c.in-Some.field-0-1.now) c.in-Some.first.now.now (texts-first c.args.parts.now c.in-Some.field-0-1.now c.in-Some.first.now c.in-Some.ensures.cases.0) c.is.ensures
