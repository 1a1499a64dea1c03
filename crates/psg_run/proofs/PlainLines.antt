-- The lines of a made script are those of its bytes.
use Rattle.std.proofs.Common.{◌≡◌, inl, inr, ℕ, ◌-◌, zero, suc, ◌<◌, ◌≤◌, ◌^◌, ◌==◌, nat_lt, Bool, true, false, cond, if◌then◌else◌, List, [], ◌∷◌, ◌++◌, length, take, get_or, true≢false, refl, sym, ◌∙◌, ap, arith, lit<}
use Rattle.std.specs.Prelude.{codes, decimal, slice_index}
use Rattle.std.specs.List.{All, AllByRecursion, flat_map, list_all, slice_split}
use Rattle.std.specs.Str.Lines.{strip_carriage_return}
use Rattle.std.specs.Str.Parse.{AllDigits}
use Rattle.std.proofs.lemmas.Bool.Decides.{eqb_tells, leb_tells}
use Rattle.std.proofs.lemmas.Fmt.{decimal_is_IsNumeral}
use Rattle.std.proofs.lemmas.List.Folds.{list_all-append}
use Rattle.std.proofs.lemmas.List.Splits.{slice_split_at}
use Rattle.std.proofs.lemmas.List.Sums.{AllPass-from_list_all}
use Rattle.std.proofs.lemmas.Str.Parse.{digit_from_value}
use Rattle.std.proofs.lemmas.Bool.{and_from}
use Rattle.psg_script.specs.Script.{numbers_down, declare_lines, assign_lines, with_feeds, script_lines as made_lines}
use Rattle.psg_run.specs.Scripts.{is_empty, is_feed, kept_lines, script_lines}

-- ---- bytes

-- a byte above those that end a line
abbrev pub is_plain : ℕ → Bool
is_plain b = nat_lt 13 b

plain_above : (b : ℕ) → is_plain b ≡ true → 13 < b
plain_above b h = elim (leb_tells 14 b) as (λ _. 13 < b) [
  | inl p ↦ p.1
  | inr p ↦ absurd (true≢false (sym h ∙ p.0))
]

above_plain : (b : ℕ) → 13 < b → is_plain b ≡ true
above_plain b h = elim (leb_tells 14 b) as (λ _. is_plain b ≡ true) [
  | inl p ↦ p.0
  | inr p ↦ absurd (let less = p.1 in omega (arith, h, less))
]

-- a plain byte ends no line
plain_other : (b c : ℕ) → c ≤ 13 → is_plain b ≡ true → (b == c) ≡ false
plain_other b c low h = elim (eqb_tells b c) as (λ _. (b == c) ≡ false) [
  | inl p ↦ absurd (let e = p.1 in let more = plain_above b h in omega (arith, low, e, more))
  | inr p ↦ p.0
]

digits_plain : (ds : List ℕ) → AllDigits 10 ds → list_all is_plain ds ≡ true
digits_plain [] h = refl
digits_plain (d ∷ ds) h =
    let r = digit_from_value d h.0 in
    and_from (is_plain d) (list_all is_plain ds) (above_plain d (let p : 13 < d = omega arith in p)) (digits_plain ds h.1)

pub with_number : (text : List ℕ) (n : ℕ) → list_all is_plain text ≡ true → n ≤ 1000
    → list_all is_plain (text ++ decimal n) ≡ true
with_number text n plain few =
    let d = decimal_is_IsNumeral n (let p : n < 2 ^ 64 = omega (arith, few) in p) in
    list_all-append is_plain text (decimal n)
    ∙ and_from (list_all is_plain text) (list_all is_plain (decimal n)) plain (digits_plain (decimal n) d.0.1)

no_feeds : (line : List ℕ) → list_all is_plain line ≡ true → All (λ b. is_feed b ≡ false) line
no_feeds line plain k d less =
    plain_other (get_or line k d) 10 (omega arith) (AllPass-from_list_all is_plain line plain k d less)

no_return : (line : List ℕ) → 0 < length line → list_all is_plain line ≡ true → strip_carriage_return line ≡ line
no_return line some plain =
    let other : (slice_index line (length line - 1) == 13) ≡ false =
    plain_other (get_or line (length line - 1) 0) 13 (omega arith)
    (AllPass-from_list_all is_plain line plain (length line - 1) 0 (omega (arith, some))) in
    ap (λ b. if b then take (length line - 1) line else line) other

-- ---- lines

-- a line that is read back from a script
pub record IsPlain (line : List ℕ) : Type 0 where
  pub some : 0 < length line
  pub plain : list_all is_plain line ≡ true

split_lines : (lines : List (List ℕ)) → AllByRecursion IsPlain lines
    → slice_split is_feed (with_feeds lines) ≡ lines ++ [] ∷ []
split_lines [] all = refl
split_lines (line ∷ lines) (one, all) =
    slice_split_at is_feed line 10 (with_feeds lines) (no_feeds line one.plain) refl
    ∙ ap (λ pieces. line ∷ pieces) (split_lines lines all)

not_empty : (line : List ℕ) → 0 < length line → is_empty line ≡ false
not_empty [] some = absurd (omega (arith, some))
not_empty (b ∷ bs) some = refl

kept : (lines : List (List ℕ)) → AllByRecursion IsPlain lines → kept_lines (lines ++ [] ∷ []) ≡ lines
kept [] all = refl
kept (line ∷ lines) (one, all) =
    ap (λ l. cond (is_empty l) (kept_lines (lines ++ [] ∷ [])) (l ∷ kept_lines (lines ++ [] ∷ [])))
    (no_return line one.some one.plain)
    ∙ ap (λ b. cond b (kept_lines (lines ++ [] ∷ [])) (line ∷ kept_lines (lines ++ [] ∷ []))) (not_empty line one.some)
    ∙ ap (λ ls. line ∷ ls) (kept lines all)

read_back : (lines : List (List ℕ)) → AllByRecursion IsPlain lines → script_lines (with_feeds lines) ≡ lines
read_back lines all = ap kept_lines (split_lines lines all) ∙ kept lines all

-- ---- the made script

all_append : (xs ys : List (List ℕ)) → AllByRecursion IsPlain xs → AllByRecursion IsPlain ys → AllByRecursion IsPlain (xs ++ ys)
all_append [] ys all more = more
all_append (x ∷ xs) ys (one, all) more = (one, all_append xs ys all more)

each_plain : (f : ℕ → List (List ℕ)) → ((i : ℕ) → i ≤ 1000 → AllByRecursion IsPlain (f i)) → (n : ℕ) → n ≤ 1000
    → AllByRecursion IsPlain (flat_map f (numbers_down n))
each_plain f each zero few = tt
each_plain f each (suc i) few =
    let less : i ≤ 1000 = omega (arith, few) in
    all_append (f i) (flat_map f (numbers_down i)) (each i less) (each_plain f each i less)

longer : (text more : List ℕ) → 0 < length text → 0 < length (text ++ more)
longer [] more some = absurd (omega (arith, some))
longer (b ∷ bs) more some = let s : 0 < suc (length (bs ++ more)) = omega arith in s

fixed : (line : List ℕ) → 0 < length line → list_all is_plain line ≡ true → IsPlain line
fixed line some plain = record { some = some; plain = plain }

numbered : (text : List ℕ) (n : ℕ) → n ≤ 1000 → 0 < length text → list_all is_plain text ≡ true → IsPlain (text ++ decimal n)
numbered text n few some plain = record { some = longer text (decimal n) some; plain = with_number text n plain few }

declares : (i : ℕ) → i ≤ 1000 → AllByRecursion IsPlain (declare_lines i)
declares i few = (
  numbered (codes "insert /0 0 vardecl v") i few (lit< tt) refl,
  (fixed (codes "refine /0/0/0 tint") (lit< tt) refl, tt),
)

assigns : (i : ℕ) → i ≤ 1000 → AllByRecursion IsPlain (assign_lines i)
assigns i few = (
  numbered (codes "insert /1 0 assign v") i few (lit< tt) refl,
  (
    fixed (codes "refine /1/0/0 plus") (lit< tt) refl,
    (
      numbered (codes "refine /1/0/0/0 ref v") i few (lit< tt) refl,
      (numbered (codes "refine /1/0/0/1 num ") i few (lit< tt) refl, tt),
    ),
  ),
)

made_plain : (n : ℕ) → n ≤ 1000 → AllByRecursion IsPlain (made_lines n)
made_plain n few = (
  fixed (codes "new Stat") (lit< tt) refl,
  (
    fixed (codes "refine / block") (lit< tt) refl,
    all_append (flat_map declare_lines (numbers_down n)) _ (each_plain declare_lines declares n few) (
      fixed (codes "close /0") (lit< tt) refl,
      all_append (flat_map assign_lines (numbers_down n)) _ (each_plain assign_lines assigns n few) (
        fixed (codes "insert /1 0 while") (lit< tt) refl,
        (fixed (codes "menu /1/0/0") (lit< tt) refl, tt),
      ),
    ),
  ),
)

-- the bytes of the script have its lines
pub made_back : (n : ℕ) → n ≤ 1000 → script_lines (with_feeds (made_lines n)) ≡ made_lines n
made_back n few = read_back (made_lines n) (made_plain n few)
