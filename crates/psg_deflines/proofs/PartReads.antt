-- Parts of a line at their indices.
use Rattle.std.proofs.Common.{◌≡◌, ℕ, ◌+◌, ◌<◌, ◌≤◌, zero, suc, List, [], ◌∷◌, drop, get_or, length, refl, ap, ◌∙◌, arith}
use Rattle.std.specs.Borrow.{Bor}
use Rattle.psg_deflines.specs.Parts.{texts}
use Rattle.psg_deflines.specs.TermWalks.{Parts}

abbrev pub Slices : Type 0
Slices = List (Bor (List ℕ))

abbrev pub no-slice : Bor (List ℕ)
no-slice = record { ref_ptr = (0, 0); now = [] }

pub left-one : (ts : Slices) (n : ℕ) (d : Bor (List ℕ)) → n < length ts → drop n (texts ts) ≡ (get_or ts n d).now ∷ drop (n + 1) (texts ts)
left-one [] n d h = absurd (omega arith)
left-one (t ∷ ts) zero d h = refl
left-one (t ∷ ts) (suc n) d h = left-one ts n d (omega arith) ∙ ap (λ m. (get_or ts n d).now ∷ drop m (texts (t ∷ ts))) (plus-one n)
  where
    plus-one : (m : ℕ) → suc (m + 1) ≡ suc m + 1
    plus-one m = omega arith

pub left-two : (ts : Slices) (n : ℕ) (d : Bor (List ℕ)) → n + 2 ≤ length ts → drop n (texts ts) ≡ (get_or ts n d).now ∷ (get_or ts (n + 1) d).now ∷ drop (n + 2) (texts ts)
left-two ts n d h =
    left-one ts n d (omega arith) ∙ ap (λ xs. (get_or ts n d).now ∷ xs) (left-one ts (n + 1) d (omega arith) ∙ ap (λ m. (get_or ts (n + 1) d).now ∷ drop m (texts ts)) (omega arith))

-- the first bytes of the first two parts
abbrev pub byte_of : List ℕ → ℕ
byte_of [] = 0
byte_of (c ∷ cs) = c

abbrev pub first_byte : Parts → ℕ
first_byte [] = 0
first_byte (p ∷ ps) = byte_of p

abbrev pub rest_of : Parts → Parts
rest_of [] = []
rest_of (p ∷ ps) = ps

abbrev pub first_of : Parts → List ℕ
first_of [] = []
first_of (p ∷ ps) = p
