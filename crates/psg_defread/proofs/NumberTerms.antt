-- A term that is in a file is written again with numbers for its variables' names. A row whose variables are numbered by
-- first occurrence has small numbers where it has few variables.
use Rattle.std.proofs.Common.{◌≡◌, inl, inr, ℕ, zero, suc, ◌+◌, ◌<◌, ◌^◌, List, [], ◌∷◌, length, map, Some, None, slice_get, refl, sym, subst, arith, ◌≤◌, ◌||◌, true, false, if◌then◌else◌, ◌++◌, length-append, ap, ◌∙◌, append-nil, append_assoc}
use Rattle.std.specs.List.{AllByRecursion}
use Rattle.psg_terms.specs.Names.{Name}
use Rattle.psg_terms.specs.Terms.{Term}
use Rattle.psg_terms.specs.Terms as terms
use Rattle.psg_terms.specs.Signature.{Signature, Symbol, HasSymbol, AreClosed, sole, constructors_of, only_constructor}
use Rattle.psg_terms.specs.Sound.{IsSound as IsSoundSignature}
use Rattle.psg_terms.proofs.SoundChoices.{IsListed, AreListed, listed}
use Rattle.psg_grammar.specs.declared.types.Definition.{Definition}
use Rattle.psg_deflines.specs.WrittenTerms.{WrittenTerm, variable, named, apply}
use Rattle.psg_defnumber.specs.Numbers.{IsTerm, AreTerms}
use Rattle.psg_defread.specs.WrittenLines.{term_written, constructor_name}
use Rattle.psg_defread.proofs.NumberNames.{number_names, number-at, name-found}
use Rattle.std.proofs.lemmas.Bool.Decides.{nat_tests}
use Rattle.std.proofs.lemmas.Bool.{cases_Bool}
use Rattle.psg_terms.specs.Canonical.{Variable, variables, variables_of, same_variable, is_noted, noted, noted_all, first_occurrences, IsNumberedFrom}
use Rattle.psg_terms.proofs.RenamingLaws.{noted_all-append}
use Rattle.psg_defread.proofs.NumberAll.{all-front, all-behind}

-- the numbers of its variables are small
abbrev pub IsSmallTerm : Term → Type 0
IsSmallTerm (terms.variable s n) = n < 2 ^ 63
IsSmallTerm (terms.symbol c) = Unit {0}
IsSmallTerm (terms.apply f a) = IsSmallTerm f × IsSmallTerm a

-- ---- a constant of a one-constant sort

pub closed-sort : (sig : Signature) (xs : List Symbol) (k : ℕ) (s : Symbol) → AreClosed sig xs → slice_get xs k ≡ Some s
    → s.sort < length sig.sorts
closed-sort sig [] k s h e = absurd (let f : None ≡ Some s = e in cc)
closed-sort sig (x ∷ xs) zero s h e =
    let same : x ≡ s = let f : Some x ≡ Some s = e in cc in
    subst (λ (y : Symbol). y.sort < length sig.sorts) same h.1
closed-sort sig (x ∷ xs) (suc k) s h e = closed-sort sig xs k s h.2 e

pub sole-listed : (sort n c : ℕ) (ids : List ℕ) (xs : List Symbol) → AreListed sort n ids xs → sole ids ≡ Some c
    → IsListed sort n c xs
sole-listed sort n c [] xs h e = absurd (let f : None ≡ Some c = e in cc)
sole-listed sort n c (d ∷ []) xs h e =
    let same : d ≡ c = let f : Some d ≡ Some c = e in cc in
    subst (λ i. IsListed sort n i xs) same h.0
sole-listed sort n c (d ∷ f ∷ rest) xs h e = absurd (let g : None ≡ Some c = e in cc)

only-symbol : (sig : Signature) → IsSoundSignature sig → (sort c : ℕ) → only_constructor sig sort ≡ Some c
    → HasSymbol sig c [] sort
only-symbol sig sound sort c e =
    let l = sole-listed sort 0 c (constructors_of sig sort) sig.symbols (listed 0 sort sig.symbols) e in
    let inside : l.found.sort < length sig.sorts = closed-sort sig sig.symbols l.place l.found sound.closed l.at in
    let makes = l.makes in
    sound.constant sort c (omega arith) e

module _ (def : Definition) (sound : IsSoundSignature def.signature) (names : List Name) where
  -- the symbol is written by its name
  symbol-again : (arguments : List ℕ) (sort c : ℕ) → HasSymbol def.signature c arguments sort
      → IsTerm def.signature number_names arguments sort (named (constructor_name def c)) (terms.symbol c)
  symbol-again arguments sort c (s, at, takes, of) =
      let name = sym (name-found (λ (x : Symbol). x.name) def.signature.symbols c s at) in
      (c, s, at, name, takes, of, refl)

  abbrev IsAgain : List ℕ → ℕ → Term → Type 0
  IsAgain arguments sort t = IsTerm def.signature number_names arguments sort (term_written def t) t

  variable-again : (sort k : ℕ) → k + 1 < 2 ^ 63 → only_constructor def.signature sort ≡ None
      → IsAgain [] sort (terms.variable sort (k + 1))
  variable-again sort k small many = (refl, inr (k, many, number-at k (omega arith), refl))

  pub term-again : (w : WrittenTerm) (arguments : List ℕ) (sort : ℕ) (t : Term) → IsSmallTerm t
      → IsTerm def.signature names arguments sort w t
      → IsTerm def.signature number_names arguments sort (term_written def t) t
  term-again (variable n) arguments sort t small (none, inl (c, only, is)) =
      subst (IsAgain arguments sort) (sym is) (
      symbol-again arguments sort c (
      subst (λ sorts. HasSymbol def.signature c sorts sort) (sym none) (only-symbol def.signature sound sort c only)
      )
      )
  term-again (variable n) arguments sort t small (none, inr (k, many, at, is)) =
      let few : k + 1 < 2 ^ 63 = subst IsSmallTerm is small in
      subst (IsAgain arguments sort) (sym is) (
      subst (λ sorts. IsAgain sorts sort (terms.variable sort (k + 1))) (sym none) (variable-again sort k few many)
      )
  term-again (named n) arguments sort t small (c, s, at, name, takes, of, is) =
      subst (IsAgain arguments sort) (sym is) (symbol-again arguments sort c (s, at, takes, of))
  term-again (apply f a) arguments sort t small (first, g, b, hf, ha, is) =
      let both : IsSmallTerm g × IsSmallTerm b = subst IsSmallTerm is small in
      let function = term-again f (first ∷ arguments) sort g both.0 hf in
      let argument = term-again a [] first b both.1 ha in
      subst (IsAgain arguments sort) (sym is) (first, g, b, function, argument, refl)

  -- place by place
  pub terms-again : (sorts : List ℕ) (ws : List WrittenTerm) (row : List Term) → AllByRecursion IsSmallTerm row
      → AreTerms def.signature names sorts ws row
      → AreTerms def.signature number_names sorts (map (term_written def) row) row
  terms-again [] [] row small e =
      subst (λ r. AreTerms def.signature number_names [] (map (term_written def) r) r) (sym e) refl
  terms-again [] (w ∷ ws) row small h = absurd h
  terms-again (s ∷ sorts) [] row small h = absurd h
  terms-again (s ∷ sorts) (w ∷ ws) row small (t, rest, h, hs, e) =
      let both : AllByRecursion IsSmallTerm (t ∷ rest) = subst (AllByRecursion IsSmallTerm) e small in
      let first = term-again w [] s t both.0 h in
      let behind = terms-again sorts ws rest both.1 hs in
      subst (λ r. AreTerms def.signature number_names (s ∷ sorts) (map (term_written def) r) r) (sym e) (
        t,
        rest,
        first,
        behind,
        refl,
      )

-- ---- rows with few variables

-- fewer than this
abbrev pub HasFewVariables : List Term → Type 0
HasFewVariables row = length (variables_of row) < 2 ^ 63

-- ---- the front of a row is numbered where the row is

noted-front : (seen : List Variable) (x : Variable) → (more : List Variable) × (noted seen x ≡ seen ++ more)
noted-front seen x =
    elim (is_noted x seen) as (λ b. (more : List Variable) × ((if b then seen else seen ++ x ∷ []) ≡ seen ++ more)) [
      | true ↦ ([], sym (append-nil seen))
      | false ↦ (x ∷ [], refl)
    ]

pub noted-all-front : (seen xs : List Variable) → (more : List Variable) × (noted_all seen xs ≡ seen ++ more)
noted-all-front seen [] = ([], sym (append-nil seen))
noted-all-front seen (x ∷ xs) =
    let (first, e) = noted-front seen x in
    let (more, f) = noted-all-front (noted seen x) xs in
    (first ++ more, f ∙ (ap (λ l. l ++ more) e ∙ append_assoc seen first more))

pub numbered-front : (n : ℕ) (xs ys : List Variable) → IsNumberedFrom n (xs ++ ys) → IsNumberedFrom n xs
numbered-front n [] ys h = tt
numbered-front n (x ∷ xs) ys h = (h.0, numbered-front (n + 1) xs ys h.1)

pub first-numbered : (t : Term) (rest : List Term) → IsNumberedFrom 1 (first_occurrences (t ∷ rest))
    → IsNumberedFrom 1 (first_occurrences (t ∷ []))
first-numbered t rest h =
    let alone = ap (noted_all []) (append-nil (variables t)) in
    let (more, e) = noted-all-front (noted_all [] (variables t)) (variables_of rest) in
    let whole = noted_all-append [] (variables t) (variables_of rest) ∙ e in
    subst (IsNumberedFrom 1) (sym alone) (
    numbered-front 1 (noted_all [] (variables t)) more (subst (IsNumberedFrom 1) whole h)
    )

-- ---- numbers below a bound

abbrev IsUnder : ℕ → Variable → Type 0
IsUnder bound x = x.1 < bound

pub noted-short : (seen xs : List Variable) → length (noted_all seen xs) ≤ length seen + length xs
noted-short seen [] = omega arith
noted-short seen (x ∷ xs) = omega (arith, noted-short (noted seen x) xs, one-more seen x)
  where
    one-more : (seen : List Variable) (x : Variable) → length (noted seen x) ≤ length seen + 1
    one-more seen x =
        elim (is_noted x seen) as (λ b. length (if b then seen else seen ++ x ∷ []) ≤ length seen + 1) [
          | true ↦ omega arith
          | false ↦ omega (arith, length-append seen (x ∷ []))
        ]

numbered-under : (bound n : ℕ) (xs : List Variable) → n + length xs ≤ bound → IsNumberedFrom n xs
    → AllByRecursion (IsUnder bound) xs
numbered-under bound n [] limit h = tt
numbered-under bound n (x ∷ xs) limit h =
    let e = h.0 in (omega (arith, e), numbered-under bound (n + 1) xs (omega arith) h.1)

noted-under : (bound : ℕ) (x : Variable) (ys : List Variable) → is_noted x ys ≡ true
    → AllByRecursion (IsUnder bound) ys → x.1 < bound
noted-under bound x [] e h = absurd (let f : false ≡ true = e in cc)
noted-under bound x (y ∷ ys) e h =
    elim (cases_Bool (same_variable x y)) [
      | inl same ↦ let k = h.0 in let f : x.1 ≡ y.1 = same-number x y same in omega (arith, k, f)
      | inr other ↦ noted-under bound x ys (sym (ap (λ b. b || is_noted x ys) other) ∙ e) h.1
    ]
  where
    same-number : (x y : Variable) → same_variable x y ≡ true → x.1 ≡ y.1
    same-number x y h = grind (arith, nat_tests)

first-under : (bound : ℕ) (seen : List Variable) (x : Variable) → AllByRecursion (IsUnder bound) (noted seen x)
    → x.1 < bound
first-under bound seen x h =
    elim (cases_Bool (is_noted x seen)) [
      | inl e ↦ noted-under bound x seen e
          (subst (λ b. AllByRecursion (IsUnder bound) (if b then seen else seen ++ x ∷ [])) e h)
      | inr e ↦
          let all = subst (λ b. AllByRecursion (IsUnder bound) (if b then seen else seen ++ x ∷ [])) e h in
          (all-behind (IsUnder bound) seen (x ∷ []) all).0
    ]

all-under : (bound : ℕ) (seen xs : List Variable) → AllByRecursion (IsUnder bound) (noted_all seen xs)
    → AllByRecursion (IsUnder bound) xs
all-under bound seen [] h = tt
all-under bound seen (x ∷ xs) h =
    let (more, e) = noted-all-front (noted seen x) xs in
    let front = all-front (IsUnder bound) (noted seen x) more (subst (AllByRecursion (IsUnder bound)) e h) in
    (first-under bound seen x front, all-under bound (noted seen x) xs h)

abbrev IsSmall : Variable → Type 0
IsSmall x = x.1 < 2 ^ 63

term-small : (t : Term) → AllByRecursion IsSmall (variables t) → IsSmallTerm t
term-small (terms.variable s n) h = h.0
term-small (terms.symbol c) h = tt
term-small (terms.apply f a) h = (
  term-small f (all-front IsSmall (variables f) (variables a) h),
  term-small a (all-behind IsSmall (variables f) (variables a) h),
)

row-terms-small : (row : List Term) → AllByRecursion IsSmall (variables_of row) → AllByRecursion IsSmallTerm row
row-terms-small [] h = tt
row-terms-small (t ∷ rest) h = (
  term-small t (all-front IsSmall (variables t) (variables_of rest) h),
  row-terms-small rest (all-behind IsSmall (variables t) (variables_of rest) h),
)

pub small-row : (row : List Term) → HasFewVariables row → IsNumberedFrom 1 (first_occurrences row)
    → AllByRecursion IsSmallTerm row
small-row row few h =
    let xs = first_occurrences row in
    let short = noted-short [] (variables_of row) in
    let under = numbered-under (2 ^ 63) 1 xs (omega (arith, short, few)) h in
    row-terms-small row (all-under (2 ^ 63) [] (variables_of row) under)
