-- Texts that are cut at a line feed.
use Rattle.std.proofs.Common.{◌≡◌, ℕ, zero, suc, ◌<◌, List, [], ◌∷◌, length, take, drop, get_or, ap, arith}
use Rattle.std.proofs.lemmas.List.Elements.{All-cons, All-from_get_or, All-nil}
use Rattle.psg_unparse.specs.Splicing.{IsOneLine}

-- no byte is a line feed
pub one_line : (bs : List ℕ) → ((i : ℕ) → i < length bs → get_or bs i 0 ≡ 10 → ⊥) → IsOneLine bs
one_line bs h = All-from_get_or (λ b. b ≡ 10 → ⊥) bs 0 h

-- what is cut in front of the last line feed
pub last_line : (bs : List ℕ) (k : ℕ) → k < length bs → get_or bs k 0 ≡ 10
    → ((i : ℕ) → k < i → i < length bs → get_or bs i 0 ≡ 10 → ⊥)
    → (rest : List ℕ) × (drop k bs ≡ 10 ∷ rest) × IsOneLine rest
last_line [] k lt e h = absurd (omega (arith, lt))
last_line (b ∷ bs) zero lt e h =
    (bs, ap (λ x. x ∷ bs) e, one_line bs (λ i within got. h (suc i) (omega arith) (omega (arith, within)) got))
last_line (b ∷ bs) (suc k) lt e h =
    last_line bs k (omega (arith, lt)) e (λ i after within got. h (suc i) (omega (arith, after)) (omega (arith, within)) got)

-- what is in front of the first one
pub first_line : (bs : List ℕ) (k : ℕ) → ((i : ℕ) → i < k → get_or bs i 0 ≡ 10 → ⊥) → IsOneLine (take k bs)
first_line bs zero h = All-nil (λ b. b ≡ 10 → ⊥)
first_line [] (suc k) h = All-nil (λ b. b ≡ 10 → ⊥)
first_line (b ∷ bs) (suc k) h =
    All-cons (λ b. b ≡ 10 → ⊥) b (take k bs) (h 0 (omega arith))
    (first_line bs k (λ i lt got. h (suc i) (omega (arith, lt)) got))
