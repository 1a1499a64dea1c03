-- How long the texts of a file are, and how many there are.
use Rattle.std.proofs.Common.{◌≡◌, ◌==◌, ◌-◌, ℕ, ◌+◌, ◌≤◌, Bool, true, false, cond, List, [], ◌∷◌, ◌++◌, take, length, length-append, replicate, refl, ap, arith}
use Rattle.std.specs.List.{slice_split, onto_first}
use Rattle.std.specs.Str.Lines.{lines, lines_of_parts, strip_carriage_return}
use Rattle.std.specs.Prelude.{slice_index, if◌then◌else◌, codes}
use Rattle.std.proofs.lemmas.List.{length-take}
use Rattle.psg_deflines.specs.Written.{IsWritten}
use Rattle.psg_deflines.specs.Versions.{IsVersion}
use Rattle.psg_deflines.specs.Entries.{Entry, HasHead, behind_head, head_parts, AreEntries}
use Rattle.psg_deflines.specs.declared.lines.Line.{Line}
use Rattle.psg_defnumber.specs.Soundness.{total}

-- the bytes of the parts, and one for each
abbrev weight : List (List ℕ) → ℕ
weight parts = total parts + length parts

onto_weight : (x : ℕ) (parts : List (List ℕ)) → 1 ≤ length parts → weight (onto_first x parts) ≤ weight parts + 1
onto_weight x [] h = absurd (omega (arith, h))
onto_weight x (y ∷ more) h = omega arith

split_long : (p : ℕ → Bool) (xs : List ℕ) → 1 ≤ length (slice_split p xs)
split_long p [] = omega arith
split_long p (x ∷ xs) = elim (p x) as (λ b. 1 ≤ length (cond b ([] ∷ slice_split p xs) (onto_first x (slice_split p xs)))) [
  | true ↦ omega arith
  | false ↦ onto_long (slice_split p xs)
]
  where
    onto_long : (parts : List (List ℕ)) → 1 ≤ length (onto_first x parts)
    onto_long [] = omega arith
    onto_long (y ∷ more) = omega arith

split_weight : (p : ℕ → Bool) (xs : List ℕ) → weight (slice_split p xs) ≤ length xs + 1
split_weight p [] = omega arith
split_weight p (x ∷ xs) = elim (p x) as (λ b. weight (cond b ([] ∷ slice_split p xs) (onto_first x (slice_split p xs))) ≤ length (x ∷ xs) + 1) [
  | true ↦ omega (arith, split_weight p xs)
  | false ↦ omega (arith, split_weight p xs, onto_weight x (slice_split p xs) (split_long p xs))
]

strip_short : (xs : List ℕ) → length (strip_carriage_return xs) ≤ length xs
strip_short xs = elim (slice_index xs (length xs - 1) == 13) as (λ b. length (if b then take (length xs - 1) xs else xs) ≤ length xs) [
  | true ↦ omega (arith, length-take (length xs - 1) xs)
  | false ↦ omega arith
]

parts_weight : (parts : List (List ℕ)) → weight (lines_of_parts parts) ≤ weight parts
parts_weight [] = omega arith
parts_weight (x ∷ []) = elim (length x == 0) as (λ b. weight (if b then [] else x ∷ []) ≤ weight (x ∷ [])) [ true ↦ omega arith | false ↦ omega arith ]
parts_weight (x ∷ y ∷ more) = omega (arith, strip_short x, parts_weight (y ∷ more))

lines_weight : (bytes : List ℕ) → weight (lines bytes) ≤ length bytes + 1
lines_weight bytes = omega (arith, parts_weight (slice_split (λ b. b == 10) bytes), split_weight (λ b. b == 10) bytes)

entries_count : (above : List Line) (texts : List (List ℕ)) (entries : List Entry) → AreEntries above texts entries → length entries ≡ length texts
entries_count above [] [] h = refl
entries_count above [] (e ∷ entries) h = absurd h
entries_count above (t ∷ texts) [] h = absurd h
entries_count above (t ∷ texts) (e ∷ entries) h = omega (arith, entries_count _ texts entries h.1)

head_long : (version : ℕ) (text : List ℕ) → IsVersion version × IsWritten (head_parts version) text → 4 ≤ length text
head_long version text (is, (n, rest, e, a, w)) =
    omega (arith, ap length e, length-append (codes "psg") (replicate n 32 ++ rest), length-append (replicate n 32) rest, ap length w)

-- there are fewer entries than bytes, and the texts behind the head are no longer than the bytes
pub few_entries : (version : ℕ) (bytes : List ℕ) (entries : List Entry) → HasHead version (lines bytes) → AreEntries [] (behind_head (lines bytes)) entries
    → (length entries + 4 ≤ length bytes) × (total (behind_head (lines bytes)) ≤ length bytes)
few_entries version bytes entries head each = go (lines bytes) head each (lines_weight bytes)
  where
    go : (texts : List (List ℕ)) → HasHead version texts → AreEntries [] (behind_head texts) entries → weight texts ≤ length bytes + 1
        → (length entries + 4 ≤ length bytes) × (total (behind_head texts) ≤ length bytes)
    go [] h k w = absurd h
    go (t ∷ texts) h k w = (
      omega (arith, w, head_long version t h, entries_count [] texts entries k),
      omega (arith, w, head_long version t h),
    )

pub head_version : (version : ℕ) (texts : List (List ℕ)) → HasHead version texts → IsVersion version
head_version version [] h = absurd h
head_version version (t ∷ texts) h = h.0
