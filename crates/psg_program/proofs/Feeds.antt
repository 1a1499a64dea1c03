-- Bytes, or a text, cut at the first line feed.
use Rattle.std.proofs.Common.{◌≡◌, ◌≢◌, inl, inr, ℕ, suc, ◌+◌, ◌<◌, ◌≤◌, nat_lt, not, Bool, true, false, cond, List, [], ◌∷◌, ◌++◌, take, drop, length, get_or, Some, None, refl, sym, ◌∙◌, ap, subst, arith, length-append}
use Rattle.std.specs.List.{slice_split, onto_first, position, position_or_len}
use Rattle.std.specs.Str.{IsUtf8}
use Rattle.std.proofs.lemmas.Option.{none-some, cond_some}
use Rattle.std.proofs.lemmas.Str.{IsCharBoundary-after_ascii, IsUtf8-drop}
use Rattle.std.proofs.lemmas.Bool.Decides.{eqb_tells, nat_tests}
use Rattle.std.proofs.lemmas.List.Splits.{slice_split_first, slice_split-cons_no}
use Rattle.psg_program.specs.Formatted.{is_feed, pieces}

none_of_cond : (b : Bool) (m : ℕ) → cond b (Some m) None ≡ None → b ≡ false
none_of_cond true m e = absurd (none-some m (sym e))
none_of_cond false m e = refl

no_feed : (bs : List ℕ) → length bs ≤ position_or_len is_feed bs → slice_split is_feed bs ≡ bs ∷ []
no_feed [] h = refl
no_feed (b ∷ bs) h = go (is_feed b) refl (no_feed bs) where
  go : (t : Bool) → is_feed b ≡ t → (length bs ≤ position_or_len is_feed bs → slice_split is_feed bs ≡ bs ∷ []) → slice_split is_feed (b ∷ bs) ≡ (b ∷ bs) ∷ []
  go true e rest = absurd (let none : position_or_len is_feed (b ∷ bs) ≡ 0 = ap (λ t. cond (not t) (1 + position_or_len is_feed bs) 0) e in omega (arith, h, none))
  go false e rest =
      let more : position_or_len is_feed (b ∷ bs) ≡ 1 + position_or_len is_feed bs = ap (λ t. cond (not t) (1 + position_or_len is_feed bs) 0) e in
      slice_split-cons_no is_feed b bs e ∙ ap (onto_first b) (rest (omega (arith, h, more)))

pub cut_some : (bs : List ℕ) (n : ℕ) → position is_feed bs ≡ Some n → slice_split is_feed bs ≡ take n bs ∷ slice_split is_feed (drop (n + 1) bs)
cut_some bs n e =
    let (test, same) = cond_some (nat_lt (position_or_len is_feed bs) (length bs)) (position_or_len is_feed bs) n e in
    subst (λ k. slice_split is_feed bs ≡ take k bs ∷ slice_split is_feed (drop (k + 1) bs)) same (slice_split_first is_feed bs 0 (grind (arith, nat_tests)))

pub cut_none : (bs : List ℕ) → position is_feed bs ≡ None → slice_split is_feed bs ≡ bs ∷ []
cut_none bs e =
    let test : nat_lt (position_or_len is_feed bs) (length bs) ≡ false = none_of_cond (nat_lt (position_or_len is_feed bs) (length bs)) (position_or_len is_feed bs) e in
    no_feed bs (grind (arith, nat_tests))

-- ---- by what no place has

not_feed : (b : ℕ) → b ≢ 10 → is_feed b ≡ false
not_feed b other = elim (eqb_tells b 10) [ inl e ↦ absurd (other e.1) | inr e ↦ e.0 ]

onto : (b : ℕ) (bs line : List ℕ) (rest : List (List ℕ)) → b ≢ 10 → pieces bs ≡ line ∷ rest
    → pieces (b ∷ bs) ≡ (b ∷ line) ∷ rest
onto b bs line rest other e = slice_split-cons_no is_feed b bs (not_feed b other) ∙ ap (onto_first b) e

pub pieces_at : (line rest : List ℕ) → ((i : ℕ) → i < length line → get_or line i 0 ≢ 10)
    → pieces (line ++ 10 ∷ rest) ≡ line ∷ pieces rest
pieces_at [] rest none = refl
pieces_at (b ∷ line) rest none =
    onto b (line ++ 10 ∷ rest) line (pieces rest) (none 0 (omega arith))
    (pieces_at line rest (λ i lt. none (suc i) (omega (arith, lt))))

pub one_piece : (line : List ℕ) → ((i : ℕ) → i < length line → get_or line i 0 ≢ 10) → pieces line ≡ line ∷ []
one_piece [] none = refl
one_piece (b ∷ line) none =
    onto b line line [] (none 0 (omega arith)) (one_piece line (λ i lt. none (suc i) (omega (arith, lt))))

pub feed_inside : (bs : List ℕ) (n : ℕ) → position is_feed bs ≡ Some n → n < length bs
feed_inside bs n e =
    let (test, same) = cond_some (nat_lt (position_or_len is_feed bs) (length bs)) (position_or_len is_feed bs) n e in
    subst (λ k. k < length bs) same (grind (arith, nat_tests))

-- ---- what is after a line feed is text

behind : (line rest : List ℕ) → drop (suc (length line)) (line ++ 10 ∷ rest) ≡ rest
behind [] rest = refl
behind (b ∷ line) rest = behind line rest

behind_feed : (line rest : List ℕ) → drop (length line + 1) (line ++ 10 ∷ rest) ≡ rest
behind_feed line rest =
    let next : length line + 1 ≡ suc (length line) = omega arith in
    ap (λ n. drop n (line ++ 10 ∷ rest)) next ∙ behind line rest

at_feed : (line rest : List ℕ) → get_or (line ++ 10 ∷ rest) (length line) 0 ≡ 10
at_feed [] rest = refl
at_feed (b ∷ line) rest = at_feed line rest

pub utf8_after : (text line rest : List ℕ) → IsUtf8 text → text ≡ line ++ 10 ∷ rest → IsUtf8 rest
utf8_after text line rest utf8 is =
    let whole : IsUtf8 (line ++ 10 ∷ rest) = subst IsUtf8 is utf8 in
    let long : length (line ++ 10 ∷ rest) ≡ length line + suc (length rest) = length-append line (10 ∷ rest) in
    subst IsUtf8 (behind_feed line rest)
    (IsUtf8-drop (line ++ 10 ∷ rest) (length line + 1) whole
    (IsCharBoundary-after_ascii (line ++ 10 ∷ rest) (length line) whole (omega (arith, long))
    (omega (arith, at_feed line rest))))
