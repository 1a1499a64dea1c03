-- A term as it is written passes the tests of its meaning, where variables have the sorts of their places.
use Rattle.std.proofs.Common.{◌≡◌, is_some, ℕ, ◌+◌, List, [], ◌∷◌, length, map, refl, ap, ap₂, sym, ◌∙◌, subst, arith, ◌||◌, true, cond, inl, inr, ◌<◌, ◌≤◌, ◌^◌}
use Rattle.std.specs.Prelude.{decimal, bytes_eq}
use Rattle.std.specs.List.{AllByRecursion}
use Rattle.std.proofs.lemmas.List.{length-map}
use Rattle.std.proofs.lemmas.Bool.{cases_Bool}
use Rattle.psg_terms.specs.Names.{Name}
use Rattle.psg_terms.specs.Terms.{Term}
use Rattle.psg_terms.specs.Terms as terms
use Rattle.psg_terms.specs.Signature.{Takes, HaveSorts, AreSorts, Symbol}
use Rattle.psg_terms.proofs.SoundChoices.{closed_at}
use Rattle.psg_grammar.specs.declared.types.Definition.{Definition}
use Rattle.psg_grammar.specs.Sound.{IsSound}
use Rattle.psg_deflines.specs.WrittenTerms.{WrittenTerm}
use Rattle.psg_deflines.specs.declared.lines.Line.{Line}
use Rattle.psg_defcheck.specs.Scopes.{Place, sort_place, constructor_declared}
use Rattle.psg_defcheck.specs.Meanings.{KnowsTerm, CountsTerm, IsArity, Accepts, SortsTerm, SortAll}
use Rattle.psg_defread.specs.WrittenLines.{sort_name, term_written}
use Rattle.psg_defread.proofs.NumberNames.{name-found, decimals-apart}
use Rattle.psg_defread.proofs.PassedDeclared.{Declares, place_of, sort-placed}
use Rattle.psg_terms.specs.Canonical.{Variable, variables, variables_of, same_variable, is_noted, first_occurrences, IsNumberedFrom}
use Rattle.psg_terms.proofs.Variables.{same_variable-true, true_false}
use Rattle.psg_terms.proofs.Unique.{Each, each-front}
use Rattle.psg_terms.proofs.RenamingLaws.{IsAmong, among-noted_all}
use Rattle.psg_terms.proofs.DeclareLaws.{bytes_eq-refl}
use Rattle.psg_defread.proofs.NumberTerms.{HasFewVariables, noted-short}

-- these sorts are those of the term's variables, by their numbers
abbrev pub HasNames : Definition → (Name → Name) → Term → Type 0
HasNames def sorts (terms.variable s n) = sorts (decimal n) ≡ sort_name def s
HasNames def sorts (terms.symbol c) = Unit {0}
HasNames def sorts (terms.apply f a) = HasNames def sorts f × HasNames def sorts a

more-counted : (file : List Line) (k m : ℕ) (w : WrittenTerm) → k ≡ m → CountsTerm file k w → CountsTerm file m w
more-counted file k m w e h = subst (λ n. CountsTerm file n w) e h

module _ (def : Definition) (sound : IsSound def) (file : List Line) (declares : Declares def file)
    (sorts : Name → Name) where
  -- with arguments of these sorts behind it, the term stands at a place of the sort
  pub record PassesTerm (arguments : List ℕ) (sort : ℕ) (t : Term) : Type 0 where
    pub known : KnowsTerm file (term_written def t)
    pub counted : CountsTerm file (length arguments) (term_written def t)
    pub sorted : SortsTerm file sorts (map (place_of def) arguments) (place_of def sort) (term_written def t)

  places-are : (ss : List ℕ) → AreSorts def.signature ss
      → map (sort_place file) (map (sort_name def) ss) ≡ map (place_of def) ss
  places-are [] h = refl
  places-are (s ∷ ss) h =
      ap₂ (λ (p : Place) (ps : List Place). p ∷ ps) (sort-placed def sound file declares s h.0) (places-are ss h.1)

  symbol-passes : (c : ℕ) (arguments : List ℕ) (sort : ℕ) → Takes def.signature (terms.symbol c) arguments sort
      → PassesTerm arguments sort (terms.symbol c)
  symbol-passes c arguments sort (s, at, takes, of) =
      let behind = map (place_of def) arguments in
      let named = name-found (λ (x : Symbol). x.name) def.signature.symbols c s at in
      let is = ap (constructor_declared file) named ∙ declares.symbol_is c s at in
      let closed = closed_at def.signature def.signature.symbols c s sound.signature.closed at in
      let size : length (map (sort_name def) s.arguments) ≡ length arguments =
      length-map s.arguments (sort_name def) ∙ ap length takes in
      let places : behind ≡ map (sort_place file) (map (sort_name def) s.arguments) =
      sym (places-are s.arguments closed ∙ ap (map (place_of def)) takes) in
      record {
        known = ap is_some is;
        counted = subst (λ o. IsArity o (length arguments)) (sym is) size;
        sorted = subst (λ o. Accepts file sorts o behind (place_of def sort)) (sym is) (places, ap (sort_name def) of);
      }

  pub term-passes : (t : Term) (arguments : List ℕ) (sort : ℕ) → HasNames def sorts t
      → Takes def.signature t arguments sort → PassesTerm arguments sort t
  term-passes (terms.variable s n) arguments sort named h =
      record { known = tt; counted = tt; sorted = named ∙ ap (sort_name def) h.2 }
  term-passes (terms.symbol c) arguments sort named h = symbol-passes c arguments sort h
  term-passes (terms.apply f a) arguments sort named (first, hf, ha) =
      let function = term-passes f (first ∷ arguments) sort named.0 hf in
      let argument = term-passes a [] first named.1 ha in
      let size : length (first ∷ arguments) ≡ length arguments + 1 = omega arith in
      record {
        known = (function.known, argument.known);
        counted = (
          more-counted file (length (first ∷ arguments)) (length arguments + 1) (term_written def f) size
              function.counted,
          argument.counted,
        );
        sorted = (place_of def first, function.sorted, argument.sorted);
      }

  -- place by place
  pub record PassesTerms (columns : List ℕ) (row : List Term) : Type 0 where
    pub known : AllByRecursion (KnowsTerm file) (map (term_written def) row)
    pub counted : AllByRecursion (CountsTerm file 0) (map (term_written def) row)
    pub sorted : SortAll file sorts (map (place_of def) columns) (map (term_written def) row)

  pub terms-pass : (columns : List ℕ) (row : List Term) → AllByRecursion (HasNames def sorts) row
      → HaveSorts def.signature row columns → PassesTerms columns row
  terms-pass [] [] named h = record { known = tt; counted = tt; sorted = tt }
  terms-pass (s ∷ columns) [] named h = absurd h
  terms-pass [] (t ∷ row) named h = absurd h
  terms-pass (s ∷ columns) (t ∷ row) named h =
      let first = term-passes t [] s named.0 h.0 in
      let rest = terms-pass columns row named.1 h.1 in
      record {
        known = (first.known, rest.known);
        counted = (first.counted, rest.counted);
        sorted = (first.sorted, rest.sorted);
      }

-- ---- the sorts of variables

-- the number of a variable that is noted is one of those that count up
record IsBetween (low : ℕ) (xs : List Variable) (x : Variable) : Type 0 where
  above : low ≤ x.1
  below : x.1 < low + length xs

number-between : (n : ℕ) (xs : List Variable) (x : Variable) → IsNumberedFrom n xs → is_noted x xs ≡ true
    → IsBetween n xs x
number-between n [] x h i = absurd (true_false (sym i))
number-between n (y ∷ ys) x h i =
    elim (cases_Bool (same_variable x y)) [
      | inl e ↦
          let same : x.1 ≡ y.1 = ap (λ (v : Variable). v.1) (same_variable-true x y e) in
          let first = h.0 in
          record { above = omega (arith, same, first); below = omega (arith, same, first) }
      | inr e ↦
          let rest = number-between (n + 1) ys x h.1 (ap (λ b. b || is_noted x ys) (sym e) ∙ i) in
          let low = rest.above in
          let high = rest.below in
          record { above = omega (arith, low); below = omega (arith, high) }
    ]

module _ (def : Definition) where
  -- the sort of the first variable whose number is written so
  abbrev named_sort : List Variable → Name → Name
  named_sort [] n = []
  named_sort (x ∷ xs) n = cond (bytes_eq (decimal x.1) n) (sort_name def x.0) (named_sort xs n)

  abbrev IsNamed : (Name → Name) → Variable → Type 0
  IsNamed sorts x = sorts (decimal x.1) ≡ sort_name def x.0

  sort-named : (n : ℕ) (xs : List Variable) (x : Variable) → n + length xs ≤ 2 ^ 64 → IsNumberedFrom n xs
      → is_noted x xs ≡ true → named_sort xs (decimal x.1) ≡ sort_name def x.0
  sort-named n [] x limit h i = absurd (true_false (sym i))
  sort-named n (y ∷ ys) x limit h i =
      elim (cases_Bool (same_variable x y)) [
        | inl e ↦
            let same : x ≡ y = same_variable-true x y e in
            subst (λ (v : Variable). named_sort (y ∷ ys) (decimal v.1) ≡ sort_name def v.0) (sym same) (
            ap (λ b. cond b (sort_name def y.0) (named_sort ys (decimal y.1))) (bytes_eq-refl (decimal y.1))
            )
        | inr e ↦
            let later = ap (λ b. b || is_noted x ys) (sym e) ∙ i in
            let place = number-between (n + 1) ys x h.1 later in
            let low = place.above in
            let high = place.below in
            let first = h.0 in
            let other = decimals-apart y.1 x.1 (λ f. omega (arith, low, first, f)) (omega (arith, first, limit))
            (omega (arith, high, limit)) in
            ap (λ b. cond b (sort_name def y.0) (named_sort ys (decimal x.1))) other
            ∙ sort-named (n + 1) ys x (omega (arith, limit)) h.1 later
      ]

  each-named : (all : List Variable) → 1 + length all ≤ 2 ^ 64 → IsNumberedFrom 1 all → (xs : List Variable)
      → Each (IsAmong all) xs → Each (IsNamed (named_sort all)) xs
  each-named all limit h [] k = tt
  each-named all limit h (x ∷ xs) k = (sort-named 1 all x limit h k.0, each-named all limit h xs k.1)

  term-named : (sorts : Name → Name) (t : Term) → Each (IsNamed sorts) (variables t) → HasNames def sorts t
  term-named sorts (terms.variable s n) h = h.0
  term-named sorts (terms.symbol c) h = tt
  term-named sorts (terms.apply f a) h =
      let both = each-front (IsNamed sorts) (variables f) (variables a) h in
      (term-named sorts f both.0, term-named sorts a both.1)

  row-named : (sorts : Name → Name) (row : List Term) → Each (IsNamed sorts) (variables_of row)
      → AllByRecursion (HasNames def sorts) row
  row-named sorts [] h = tt
  row-named sorts (t ∷ row) h =
      let both = each-front (IsNamed sorts) (variables t) (variables_of row) h in
      (term-named sorts t both.0, row-named sorts row both.1)

  -- sorts that are those of all variables of the row
  pub record HasSorts (row : List Term) : Type 0 where
    pub sorts : Name → Name
    pub each : AllByRecursion (HasNames def sorts) row

  pub row-sorts : (row : List Term) → HasFewVariables row → IsNumberedFrom 1 (first_occurrences row) → HasSorts row
  row-sorts row few h =
      let all = first_occurrences row in
      let short = noted-short [] (variables_of row) in
      let limit : 1 + length all ≤ 2 ^ 64 = omega (arith, short, few) in
      record {
        sorts = named_sort all;
        each = row-named (named_sort all) row (each-named all limit h (variables_of row)
            (among-noted_all [] (variables_of row)));
      }
