-- A text cut at its first line feed.
use Rattle.std.proofs.Common.{◌≡◌, ℕ, ◌+◌, ◌≤◌, nat_lt, not, Bool, true, false, cond, List, [], ◌∷◌, take, drop, length, Some, None, refl, sym, ◌∙◌, ap, subst, arith}
use Rattle.std.specs.List.{slice_split, onto_first, position, position_or_len}
use Rattle.std.proofs.lemmas.Option.{none-some, cond_some}
use Rattle.std.proofs.lemmas.Bool.Decides.{nat_tests}
use Rattle.std.proofs.lemmas.List.Splits.{slice_split_first, slice_split-cons_no}
use Rattle.psg_run.specs.Scripts.{is_feed}

none_of_cond : (b : Bool) (m : ℕ) → cond b (Some m) None ≡ None → b ≡ false
none_of_cond true m e = absurd (none-some m (sym e))
none_of_cond false m e = refl

no_feed : (bs : List ℕ) → length bs ≤ position_or_len is_feed bs → slice_split is_feed bs ≡ bs ∷ []
no_feed [] h = refl
no_feed (b ∷ bs) h = go (is_feed b) refl (no_feed bs) where
  go : (t : Bool) → is_feed b ≡ t → (length bs ≤ position_or_len is_feed bs → slice_split is_feed bs ≡ bs ∷ []) → slice_split is_feed (b ∷ bs) ≡ (b ∷ bs) ∷ []
  go true e rest = absurd (let none : position_or_len is_feed (b ∷ bs) ≡ 0 = ap (λ t. cond (not t) (1 + position_or_len is_feed bs) 0) e in omega (arith, h, none))
  go false e rest =
      let more : position_or_len is_feed (b ∷ bs) ≡ 1 + position_or_len is_feed bs = ap (λ t. cond (not t) (1 + position_or_len is_feed bs) 0) e in
      slice_split-cons_no is_feed b bs e ∙ ap (onto_first b) (rest (omega (arith, h, more)))

pub cut_some : (bs : List ℕ) (n : ℕ) → position is_feed bs ≡ Some n → slice_split is_feed bs ≡ take n bs ∷ slice_split is_feed (drop (n + 1) bs)
cut_some bs n e =
    let (test, same) = cond_some (nat_lt (position_or_len is_feed bs) (length bs)) (position_or_len is_feed bs) n e in
    subst (λ k. slice_split is_feed bs ≡ take k bs ∷ slice_split is_feed (drop (k + 1) bs)) same (slice_split_first is_feed bs 0 (grind (arith, nat_tests)))

pub cut_none : (bs : List ℕ) → position is_feed bs ≡ None → slice_split is_feed bs ≡ bs ∷ []
cut_none bs e =
    let test : nat_lt (position_or_len is_feed bs) (length bs) ≡ false = none_of_cond (nat_lt (position_or_len is_feed bs) (length bs)) (position_or_len is_feed bs) e in
    no_feed bs (grind (arith, nat_tests))
