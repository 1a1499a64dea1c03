-- What is left of a row of cells where columns are taken from its front, and where what is left of a cell is torn.
use Rattle.std.proofs.Common.{◌≡◌, ℕ, zero, suc, ◌+◌, ◌-◌, ◌<◌, Bool, true, false, cond, List, [], ◌∷◌, ◌++◌, map, length, drop, replicate, refl, sym, ap, ◌∙◌, arith, Option, Some, None}
use Rattle.std.specs.Prelude.{slice_get}
use Rattle.std.proofs.lemmas.Bool.{true≢false}
use Rattle.std.proofs.lemmas.List.{map-append, length-map, length-replicate, length-append, nil_from_length, drop_at}
use Rattle.std.proofs.lemmas.Option.{none-some, same_Some}
use Rattle.psg_canvas.specs.Cells.{Slot, rest, columns, columns_of, width_of_text}
use Rattle.psg_canvas.specs.Terminal.{is_loose, is_inside, torn}

-- each of the columns is no beginning of a cell, or isn't known
abbrev pub AreLoose : List (Option Slot) → Type 0
AreLoose [] = Unit {0}
AreLoose (slot ∷ slots) = (is_loose slot ≡ true) × AreLoose slots

-- each of the cells begins with a column of its own
abbrev pub AreStarts : List Slot → Type 0
AreStarts [] = Unit {0}
AreStarts (cell ∷ cells) = (is_loose (Some cell) ≡ false) × AreStarts cells

-- The columns that are shown are left of these old ones: those of a cell that began before, and whole cells.
record IsLeft (old : List Slot) (shown : List (Option Slot)) : Type 0 where
  pub loose : List (Option Slot)
  pub cells : List Slot
  pub seen : shown ≡ loose ++ map Some (columns cells)
  pub were : old ≡ replicate (length loose) rest ++ columns cells
  pub free : AreLoose loose
  pub starts : AreStarts cells

-- the same where the columns of the cell that began before are not known
pub record IsTail (old : List Slot) (shown : List (Option Slot)) : Type 0 where
  pub lost : ℕ
  pub cells : List Slot
  pub seen : shown ≡ replicate lost None ++ map Some (columns cells)
  pub were : old ≡ replicate lost rest ++ columns cells
  pub starts : AreStarts cells

loose_rests : (n : ℕ) → AreLoose (map Some (replicate n rest))
loose_rests zero = tt
loose_rests (suc n) = (refl, loose_rests n)

loose_nones : (n : ℕ) → AreLoose (replicate n None)
loose_nones zero = tt
loose_nones (suc n) = (refl, loose_nones n)

-- what is left after one column more
next_left : (old : List Slot) (shown : List (Option Slot)) → IsLeft old shown → IsLeft (drop 1 old) (drop 1 shown)
next_left old shown left = step left.loose left.cells left.seen left.were left.free left.starts
  where
    step : (loose : List (Option Slot)) (cells : List Slot) → shown ≡ loose ++ map Some (columns cells)
        → old ≡ replicate (length loose) rest ++ columns cells → AreLoose loose → AreStarts cells
        → IsLeft (drop 1 old) (drop 1 shown)
    step (slot ∷ slots) cells seen were free starts = record {
      loose = slots;
      cells = cells;
      seen = ap (drop 1) seen;
      were = ap (drop 1) were;
      free = free.1;
      starts = starts;
    }
    step [] [] seen were free starts = record {
      loose = [];
      cells = [];
      seen = ap (drop 1) seen;
      were = ap (drop 1) were;
      free = tt;
      starts = tt;
    }
    step [] (cell ∷ cells) seen were free starts =
        let n : ℕ = width_of_text cell.text - 1 in
        let count : length (map Some (replicate n rest)) ≡ n = length-map (replicate n rest) Some ∙ length-replicate n rest in
        record {
          loose = map Some (replicate n rest);
          cells = cells;
          seen = ap (drop 1) seen ∙ map-append Some (replicate n rest) (columns cells);
          were = ap (drop 1) were ∙ ap (λ m. replicate m rest ++ columns cells) (sym count);
          free = loose_rests n;
          starts = starts.1;
        }

drop_suc : {A : Type 0} (n : ℕ) (xs : List A) → drop (suc n) xs ≡ drop n (drop 1 xs)
drop_suc zero [] = refl
drop_suc (suc n) [] = refl
drop_suc n (x ∷ xs) = refl

same_left : (old other : List Slot) (shown seen : List (Option Slot)) → other ≡ old → seen ≡ shown → IsLeft old shown → IsLeft other seen
same_left old other shown seen e f left = record {
  loose = left.loose;
  cells = left.cells;
  seen = f ∙ left.seen;
  were = e ∙ left.were;
  free = left.free;
  starts = left.starts;
}

drop_left : (n : ℕ) (old : List Slot) (shown : List (Option Slot)) → IsLeft old shown → IsLeft (drop n old) (drop n shown)
drop_left zero old shown left = left
drop_left (suc n) old shown left =
    same_left (drop n (drop 1 old)) (drop (suc n) old) (drop n (drop 1 shown)) (drop (suc n) shown) (drop_suc n old) (drop_suc n shown)
    (drop_left n (drop 1 old) (drop 1 shown) (next_left old shown left))

torn_start : (b : Bool) (slot : Option Slot) (slots : List (Option Slot)) → b ≡ false
    → cond b (None ∷ torn slots) (slot ∷ slots) ≡ slot ∷ slots
torn_start b slot slots is = ap (λ t. cond t (None ∷ torn slots) (slot ∷ slots)) is

torn_cells : (cells : List Slot) → AreStarts cells → torn (map Some (columns cells)) ≡ map Some (columns cells)
torn_cells [] starts = refl
torn_cells (cell ∷ cells) starts =
    torn_start (is_loose (Some cell)) (Some cell) (map Some (replicate (width_of_text cell.text - 1) rest ++ columns cells)) starts.0

-- what is torn is not known, and the whole cells are as they were
torn_left : (loose : List (Option Slot)) (cells : List Slot) → AreLoose loose → AreStarts cells
    → torn (loose ++ map Some (columns cells)) ≡ replicate (length loose) None ++ map Some (columns cells)
torn_left [] cells free starts = torn_cells cells starts
torn_left (slot ∷ slots) cells free starts =
    ap (λ b. cond b (None ∷ torn (slots ++ map Some (columns cells))) (slot ∷ (slots ++ map Some (columns cells)))) free.0
    ∙ ap (λ r. None ∷ r) (torn_left slots cells free.1 starts)

-- what is left after columns were written over the first ones
pub cut_tail : (n : ℕ) (old : List Slot) (shown : List (Option Slot)) → IsTail old shown → IsTail (drop n old) (torn (drop n shown))
cut_tail n old shown tail =
    let whole : IsLeft old shown = record {
      loose = replicate tail.lost None;
      cells = tail.cells;
      seen = tail.seen;
      were = tail.were ∙ ap (λ m. replicate m rest ++ columns tail.cells) (sym (length-replicate tail.lost None));
      free = loose_nones tail.lost;
      starts = tail.starts;
    } in
    let left : IsLeft (drop n old) (drop n shown) = drop_left n old shown whole in
    record {
      lost = length left.loose;
      cells = left.cells;
      seen = ap torn left.seen ∙ torn_left left.loose left.cells left.free left.starts;
      were = left.were;
      starts = left.starts;
    }

-- a cell may be written where it begins: the column is not inside of an old one
pub tail_outside : (old : List Slot) (shown : List (Option Slot)) → IsTail old shown → 0 < length old → is_inside (slice_get shown 0) ≡ false
tail_outside old shown tail some = at tail.lost tail.cells tail.seen tail.were tail.starts
  where
    at : (lost : ℕ) (cells : List Slot) → shown ≡ replicate lost None ++ map Some (columns cells)
        → old ≡ replicate lost rest ++ columns cells → AreStarts cells → is_inside (slice_get shown 0) ≡ false
    at (suc lost) cells seen were starts = ap (λ xs. is_inside (slice_get xs 0)) seen
    at zero [] seen were starts = let none : length old ≡ 0 = ap length were in absurd (omega (arith, none, some))
    at zero (cell ∷ cells) seen were starts = ap (λ xs. is_inside (slice_get xs 0)) seen ∙ starts.0

-- what is left after an old cell that the new picture has too
pub record Skips (old : List Slot) (shown : List (Option Slot)) (cell : Slot) (width : ℕ) : Type 0 where
  pub rest_shown : List (Option Slot)
  pub seen : shown ≡ map Some (columns_of cell) ++ rest_shown
  pub left : IsTail (drop width old) rest_shown

pub length_columns : (cell : Slot) (width : ℕ) → width ≡ width_of_text cell.text → 0 < width → length (columns_of cell) ≡ width
length_columns cell width is some =
    let n : ℕ = width_of_text cell.text - 1 in
    let count : length (replicate n rest) ≡ n = length-replicate n rest in
    omega (arith, count, is, some)

pub skip_tail : (old : List Slot) (shown : List (Option Slot)) (cell : Slot) (width : ℕ) → width ≡ width_of_text cell.text → 0 < width
    → is_loose (Some cell) ≡ false → slice_get old 0 ≡ Some cell → IsTail old shown → Skips old shown cell width
skip_tail old shown cell width is some start first tail = at tail.lost tail.cells tail.seen tail.were tail.starts
  where
    long : length (columns_of cell) ≡ width
    long = length_columns cell width is some

    at : (lost : ℕ) (cells : List Slot) → shown ≡ replicate lost None ++ map Some (columns cells)
        → old ≡ replicate lost rest ++ columns cells → AreStarts cells → Skips old shown cell width
    at (suc lost) cells seen were starts =
        let same : rest ≡ cell = same_Some rest cell (sym (ap (λ xs. slice_get xs 0) were) ∙ first) in
        absurd (true≢false (ap (λ s. is_loose (Some s)) same ∙ start))
    at zero [] seen were starts = absurd (none-some cell (sym (ap (λ xs. slice_get xs 0) were) ∙ first))
    at zero (one ∷ cells) seen were starts =
        let same : one ≡ cell = same_Some one cell (sym (ap (λ xs. slice_get xs 0) were) ∙ first) in
        record {
          rest_shown = map Some (columns cells);
          seen = seen ∙ map-append Some (columns_of one) (columns cells) ∙ ap (λ s. map Some (columns_of s) ++ map Some (columns cells)) same;
          left = record {
            lost = 0;
            cells = cells;
            seen = refl;
            were = ap (drop width) (were ∙ ap (λ s. columns_of s ++ columns cells) same) ∙ drop_at (columns_of cell) (columns cells) width long;
            starts = starts.1;
          };
        }

-- nothing is left
pub tail_end : (shown : List (Option Slot)) (old : List Slot) → length old ≡ 0 → IsTail old shown → shown ≡ []
tail_end shown old none tail =
    let n : ℕ = tail.lost in
    let count : length old ≡ length (replicate n rest) + length (columns tail.cells) =
    ap length tail.were ∙ length-append (replicate n rest) (columns tail.cells) in
    let rests : length (replicate n rest) ≡ n = length-replicate n rest in
    let nones : List (Option Slot) = replicate n None in
    let lost : length nones ≡ n = length-replicate n None in
    let long : length shown ≡ length nones + length (map Some (columns tail.cells)) =
    ap length tail.seen ∙ length-append nones (map Some (columns tail.cells)) in
    let same : length (map Some (columns tail.cells)) ≡ length (columns tail.cells) = length-map (columns tail.cells) Some in
    nil_from_length shown (omega (arith, none, count, rests, lost, long, same))
