-- How many lines a text has.
use Rattle.std.proofs.Common.{◌≡◌, ◌==◌, ℕ, ◌+◌, ◌<◌, ◌≤◌, Bool, true, false, cond, List, [], ◌∷◌, ◌++◌, take, get_or, length, inl, inr, refl, ap, ◌∙◌, arith}
use Rattle.std.specs.Prelude.{if◌then◌else◌}
use Rattle.std.specs.Str.Lines.{lines, lines_of_parts}
use Rattle.std.specs.List.{slice_split, onto_first}
use Rattle.std.proofs.lemmas.Bool.Decides.{eqb_tells}
use Rattle.psg_terms.proofs.Lists.{take_item}
use Rattle.psg_deflines.specs.Refusals.{line_feeds}

-- the bytes of the parts, and one for each part
abbrev weight : List (List ℕ) → ℕ
weight [] = 0
weight (x ∷ xs) = 1 + length x + weight xs

split-long : (p : ℕ → Bool) (xs : List ℕ) → 1 ≤ length (slice_split p xs)
split-long p [] = omega arith
split-long p (x ∷ xs) = elim (p x) as (λ b. 1 ≤ length (cond b ([] ∷ slice_split p xs) (onto_first x (slice_split p xs)))) [
  | true ↦ omega arith
  | false ↦ onto-long (slice_split p xs)
]
  where
    onto-long : (parts : List (List ℕ)) → 1 ≤ length (onto_first x parts)
    onto-long [] = omega arith
    onto-long (y ∷ more) = omega arith

onto-weight : (x : ℕ) (parts : List (List ℕ)) → 1 ≤ length parts → weight (onto_first x parts) ≤ weight parts + 1
onto-weight x [] h = absurd (omega arith)
onto-weight x (y ∷ more) h = omega arith

split-weight : (p : ℕ → Bool) (xs : List ℕ) → weight (slice_split p xs) ≤ length xs + 1
split-weight p [] = omega arith
split-weight p (x ∷ xs) = elim (p x) as (λ b. weight (cond b ([] ∷ slice_split p xs) (onto_first x (slice_split p xs))) ≤ length (x ∷ xs) + 1) [
  | true ↦ omega (arith, split-weight p xs)
  | false ↦ omega (arith, split-weight p xs, onto-weight x (slice_split p xs) (split-long p xs))
]

lines-weight : (parts : List (List ℕ)) → 1 ≤ length parts → length (lines_of_parts parts) + 1 ≤ weight parts
lines-weight [] h = absurd (omega arith)
lines-weight (x ∷ []) h = elim (eqb_tells (length x) 0) as (λ _. length (lines_of_parts (x ∷ [])) + 1 ≤ weight (x ∷ [])) [
  | inl e ↦ omega (arith, ap (λ b. length (if b then [] else x ∷ [])) e.0)
  | inr e ↦ omega (arith, ap (λ b. length (if b then [] else x ∷ [])) e.0, e.1)
]
lines-weight (x ∷ y ∷ more) h = omega (arith, lines-weight (y ∷ more) (omega arith))

pub lines-few : (bytes : List ℕ) → length (lines bytes) ≤ length bytes
lines-few bytes =
    let parts = slice_split (λ b. b == 10) bytes in
    omega (arith, lines-weight parts (split-long (λ b. b == 10) bytes), split-weight (λ b. b == 10) bytes)

-- ---- line feeds

pub feeds-few : (bytes : List ℕ) → line_feeds bytes ≤ length bytes
feeds-few [] = omega arith
feeds-few (c ∷ cs) = elim (c == 10) as (λ b. cond b (1 + line_feeds cs) (line_feeds cs) ≤ length (c ∷ cs)) [
  | true ↦ omega (arith, feeds-few cs)
  | false ↦ omega (arith, feeds-few cs)
]

feeds-append : (xs ys : List ℕ) → line_feeds (xs ++ ys) ≡ line_feeds xs + line_feeds ys
feeds-append [] ys = omega arith
feeds-append (c ∷ xs) ys = elim (c == 10) as (λ b. cond b (1 + line_feeds (xs ++ ys)) (line_feeds (xs ++ ys)) ≡ cond b (1 + line_feeds xs) (line_feeds xs) + line_feeds ys) [
  | true ↦ omega (arith, feeds-append xs ys)
  | false ↦ feeds-append xs ys
]

pub feeds-next : (bytes : List ℕ) (i c : ℕ) → i < length bytes → c ≡ get_or bytes i c → line_feeds (take (i + 1) bytes) ≡ line_feeds (take i bytes) + cond (c == 10) 1 0
feeds-next bytes i c h e =
    ap line_feeds (take_item bytes i c h e) ∙ feeds-append (take i bytes) (c ∷ []) ∙ ap (λ n. line_feeds (take i bytes) + n) (one (c == 10))
  where
    one : (b : Bool) → cond b (1 + 0) 0 ≡ cond b 1 0
    one true = omega arith
    one false = refl
