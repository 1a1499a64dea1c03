-- Tokens before a place, as they are counted on.
use Rattle.std.proofs.Common.{◌≡◌, inl, inr, ℕ, suc, zero, ◌+◌, ◌≤◌, cond, List, [], ◌∷◌, take, drop, ap, ◌∙◌, arith}
use Rattle.std.specs.Prelude.{nat_le}
use Rattle.std.specs.List.{count_by}
use Rattle.std.proofs.Math.Seq.{take-add}
use Rattle.std.proofs.lemmas.Bool.{cases_Bool}
use Rattle.std.proofs.lemmas.Bool.Decides.{nat_tests}
use Rattle.std.proofs.lemmas.List.Sums.{sum_by-append}
use Rattle.psg_lexis.specs.declared.token.Spanned.{Spanned}
use Rattle.psg_commented.specs.Noting.{counts, ended_by}

-- before a later place as many tokens end, or more
pub ended_more : (ts : List Spanned) (a b : ℕ) → a ≤ b → ended_by ts a ≤ ended_by ts b
ended_more [] a b h = omega arith
ended_more (t ∷ ts) a b h = grind (arith, nat_tests, ended_more ts a b h)

-- after some of the tokens that end before the place come the others of them
pub ended_rest : (ts : List Spanned) (k place : ℕ) → k ≤ ended_by ts place → ended_by ts place ≡ k + ended_by (drop k ts) place
ended_rest ts zero place h = omega arith
ended_rest [] (suc k) place h = absurd (omega (arith, h))
ended_rest (t ∷ ts) (suc k) place h =
    elim (cases_Bool (nat_le t.end place)) [
      | inl e ↦
          let s : ended_by (t ∷ ts) place ≡ 1 + ended_by ts place = ap (λ b. cond b (1 + ended_by ts place) 0) e in
          let r : ended_by ts place ≡ k + ended_by (drop k ts) place = ended_rest ts k place (omega (arith, s, h)) in
          omega (arith, s, r)
      | inr e ↦
          let s : ended_by (t ∷ ts) place ≡ 0 = ap (λ b. cond b (1 + ended_by ts place) 0) e in
          absurd (omega (arith, s, h))
    ]

-- tokens after others are counted with them
pub counted_more : (ts : List Spanned) (k m : ℕ)
    → count_by counts (take (k + m) ts) ≡ count_by counts (take k ts) + count_by counts (take m (drop k ts))
counted_more ts k m =
    ap (count_by counts) (take-add k m ts)
    ∙ sum_by-append (λ t. cond (counts t) 1 0) (take k ts) (take m (drop k ts))
