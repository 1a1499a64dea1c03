-- Bytes and a text, compared piece by piece.
use Rattle.std.proofs.Common.{◌≡◌, ℕ, zero, suc, ◌+◌, ◌<◌, List, [], ◌∷◌, ◌++◌, length, get_or, slice_get, Option, Some, None, refl, sym, ◌∙◌, ap, arith, append_assoc, length-append}
use Rattle.std.specs.Prelude.{MatchOption}
use Rattle.std.specs.List.{join_with_byte}
use Rattle.std.proofs.lemmas.List.Splits.{join_with_byte-slice_split, length-slice_split}
use Rattle.std.proofs.lemmas.Option.{none-some}
use Rattle.psg_program.specs.Formatted.{IsFirstDifference, is_feed, pieces}
use Rattle.psg_program.specs.Compared.{EndsBehind}
use Rattle.psg_program.specs.declared.comparing.Difference.{Difference}

-- ---- lists

in_front : (xs ys : List (List ℕ)) (k : ℕ) → k < length xs → slice_get (xs ++ ys) k ≡ slice_get xs k
in_front [] ys k lt = absurd (omega (arith, lt))
in_front (x ∷ xs) ys zero lt = refl
in_front (x ∷ xs) ys (suc k) lt = in_front xs ys k (omega (arith, lt))

at_seam : (xs ys : List (List ℕ)) → slice_get (xs ++ ys) (length xs) ≡ slice_get ys 0
at_seam [] ys = refl
at_seam (x ∷ xs) ys = at_seam xs ys

or_at_seam : (xs ys : List (List ℕ)) → get_or (xs ++ ys) (length xs) [] ≡ get_or ys 0 []
or_at_seam [] ys = refl
or_at_seam (x ∷ xs) ys = or_at_seam xs ys

-- ---- what was compared so far

-- these pieces are the same in both, and the others are left
pub record HaveSame (bytes wanted rest left : List ℕ) (line : ℕ) : Type 0 where
  pub before : List (List ℕ)
  pub first : pieces bytes ≡ before ++ pieces rest
  pub second : pieces wanted ≡ before ++ pieces left
  pub count : line ≡ length before + 1

pub none_before : (bytes wanted : List ℕ) → HaveSame bytes wanted bytes wanted 1
none_before bytes wanted = record { before = []; first = refl; second = refl; count = refl }

-- the same pieces, whatever is left of both
module _ (bytes wanted : List ℕ) (before xs ys : List (List ℕ)) (first : pieces bytes ≡ before ++ xs)
    (second : pieces wanted ≡ before ++ ys) where
  differs_there : (slice_get xs 0 ≡ slice_get ys 0 → ⊥) → (line : ℕ) (text : List ℕ) → line ≡ length before + 1
      → text ≡ get_or ys 0 [] → IsFirstDifference bytes wanted line text
  differs_there other line text at is = record {
    before = length before;
    line_is = at;
    same = λ k lt. ap (λ l. slice_get l k) first ∙ in_front before xs k lt
        ∙ sym (ap (λ l. slice_get l k) second ∙ in_front before ys k lt);
    differs = λ e. other (sym (ap (λ l. slice_get l (length before)) first ∙ at_seam before xs) ∙ e
        ∙ (ap (λ l. slice_get l (length before)) second ∙ at_seam before ys));
    text_is = is ∙ sym (ap (λ l. get_or l (length before) []) second ∙ or_at_seam before ys);
  }

whole : (bytes : List ℕ) → join_with_byte 10 (pieces bytes) ≡ bytes
whole bytes = join_with_byte-slice_split 10 bytes

pub same_pieces : (bytes wanted : List ℕ) → pieces bytes ≡ pieces wanted → bytes ≡ wanted
same_pieces bytes wanted e = sym (whole bytes) ∙ ap (join_with_byte 10) e ∙ whole wanted

one_more : (before rest : List (List ℕ)) (own : List ℕ) → before ++ own ∷ rest ≡ (before ++ own ∷ []) ++ rest
one_more before rest own = sym (append_assoc before (own ∷ []) rest)

longer : (before : List (List ℕ)) (own : List ℕ) → length (before ++ own ∷ []) ≡ length before + 1
longer before own = length-append before (own ∷ [])

module _ (bytes wanted rest left : List ℕ) (line : ℕ) (h : HaveSame bytes wanted rest left line) (own : List ℕ)
    (xs ys : List (List ℕ)) (own_is : pieces rest ≡ own ∷ xs) where
  first_is : pieces bytes ≡ h.before ++ own ∷ xs
  first_is = h.first ∙ ap (λ l. h.before ++ l) own_is

  -- the pieces are not the same
  pub other_piece : (text : List ℕ) → pieces left ≡ text ∷ ys → (own ≡ text → ⊥)
      → IsFirstDifference bytes wanted line text
  other_piece text text_is other =
      differs_there bytes wanted h.before (own ∷ xs) (text ∷ ys) first_is
      (h.second ∙ ap (λ l. h.before ++ l) text_is) (λ e. other (let s : Some own ≡ Some text = e in cc)) line text h.count refl

  -- they are
  module _ (text_is : pieces left ≡ own ∷ ys) where
    first_more : pieces bytes ≡ (h.before ++ own ∷ []) ++ xs
    first_more = first_is ∙ one_more h.before xs own

    second_more : pieces wanted ≡ (h.before ++ own ∷ []) ++ ys
    second_more = h.second ∙ ap (λ l. h.before ++ l) text_is ∙ one_more h.before ys own

    count_more : line + 1 ≡ length (h.before ++ own ∷ []) + 1
    count_more = ap (λ n. n + 1) (h.count ∙ sym (longer h.before own))

    pub both_more : (after more : List ℕ) → xs ≡ pieces after → ys ≡ pieces more
        → HaveSame bytes wanted after more (line + 1)
    both_more after more a b = record {
      before = h.before ++ own ∷ [];
      first = first_more ∙ ap (λ l. (h.before ++ own ∷ []) ++ l) a;
      second = second_more ∙ ap (λ l. (h.before ++ own ∷ []) ++ l) b;
      count = count_more;
    }

    -- the bytes go on, and are to end
    pub bytes_more : (x : List ℕ) (more : List (List ℕ)) → xs ≡ x ∷ more → ys ≡ []
        → IsFirstDifference bytes wanted (line + 1) []
    bytes_more x more a b =
        differs_there bytes wanted (h.before ++ own ∷ []) (x ∷ more) [] (first_more ∙ ap (λ l. (h.before ++ own ∷ []) ++ l) a)
        (second_more ∙ ap (λ l. (h.before ++ own ∷ []) ++ l) b) (λ e. none-some x (sym e)) (line + 1) [] count_more refl

    -- the bytes end, and are to go on, or are to end too
    pub ends_behind : xs ≡ [] → (d : Option Difference) → EndsBehind line ys d
        → MatchOption d (bytes ≡ wanted) (λ d. IsFirstDifference bytes wanted d.line d.text.now)
    ends_behind a None none =
        same_pieces bytes wanted
        (first_more ∙ ap (λ l. (h.before ++ own ∷ []) ++ l) (a ∙ sym none) ∙ sym second_more)
    ends_behind a (Some d) (at, (more, is)) =
        differs_there bytes wanted (h.before ++ own ∷ []) [] (d.text.now ∷ more)
        (first_more ∙ ap (λ l. (h.before ++ own ∷ []) ++ l) a) (second_more ∙ ap (λ l. (h.before ++ own ∷ []) ++ l) is)
        (λ e. none-some d.text.now e) d.line d.text.now (at ∙ count_more) refl

-- some piece is always there
head_of : (xs : List (List ℕ)) → 0 < length xs → (x : List ℕ) × ((more : List (List ℕ)) × (xs ≡ x ∷ more))
head_of [] lt = absurd (omega (arith, lt))
head_of (x ∷ xs) lt = (x, (xs, refl))

pub some_piece : (bytes : List ℕ) → (x : List ℕ) × ((more : List (List ℕ)) × (pieces bytes ≡ x ∷ more))
some_piece bytes = head_of (pieces bytes) (omega (arith, length-slice_split is_feed bytes))
