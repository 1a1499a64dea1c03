-- The sorts of constructors, kinds and spaces are those that the lines say.
use Rattle.std.proofs.Common.{◌≡◌, ℕ, zero, suc, ◌+◌, true, false, cond, List, [], ◌∷◌, ◌++◌, map, slice_get, refl, ap, sym, ◌∙◌, subst, inl, inr, Option, Some, None, arith}
use Rattle.std.specs.List.{AllByRecursion}
use Rattle.std.specs.Option.{option_and_then}
use Rattle.std.specs.Str.{bytes_eq}
use Rattle.std.proofs.lemmas.Bool.{or_parts, false≢true, cases_Bool}
use Rattle.std.proofs.lemmas.Option.{same_Some}
use Rattle.psg_terms.specs.Names.{Name, is_among, has_twice}
use Rattle.psg_terms.specs.Signature.{Signature, Symbol}
use Rattle.psg_terms.specs.Declarations.{Numbered, with_sort, in_order, AreNamed, AreSpelled}
use Rattle.psg_terms.specs.declared.declare.ConDecl.{ConDecl}
use Rattle.psg_terms.proofs.DeclareLaws.{is_among-at, bytes_eq-refl, bytes_eq-same}
use Rattle.psg_terms.proofs.Spelled.{one_place}
use Rattle.psg_terms.proofs.Lists.{slice_get-map_some}
use Rattle.psg_grammar.specs.declared.types.Space.{Space}
use Rattle.psg_grammar.specs.declared.types.Phylum.{Phylum}
use Rattle.psg_grammar.specs.declared.types.ListKind.{ListKind}
use Rattle.psg_grammar.specs.declared.types.Definition.{Definition}
use Rattle.psg_deflines.specs.declared.lines.Line.{Line}
use Rattle.psg_deflines.specs.declared.lines.Line.TheVariants as lines
use Rattle.psg_defcheck.specs.Scopes.{Constructor, constructor_among, constructor_declared, constructor_names, sort_names, sort_place, sort_told, value_place, entity_place, entity_sort, space_names, space_declared, spaces}
use Rattle.psg_defnumber.specs.Declaring.{HasSorts, IsSpaceAt}
use Rattle.psg_defnumber.specs.Numbers.{sort_decls, ArePhyla, AreLists, AreSpaces}
use Rattle.psg_defnumber.specs.Sorts.{IsSortOf, AreSortsOf, IsSymbolOf}
use Rattle.psg_defnumber.proofs.PlacingLaws.{AreMeant}

-- a sort that the lines have at a position is the sort of its name's place
pub sort-placed : (file : List Line) (s : ℕ) (n : Name) → slice_get (sort_names file) s ≡ Some n → IsSortOf file (sort_place file n) s
sort-placed file s n at = subst (λ b. IsSortOf file (cond b (Some n) None) s) (sym (is_among-at (sort_names file) s n at)) at

-- ---- constructors

-- a symbol of the name has the sorts that the constructor has, among sorts of these names
abbrev Found : List Name → List Symbol → Name → Constructor → Type 0
Found sorts xs n c = (p : ℕ) × (s : Symbol) × (slice_get xs p ≡ Some s) × (s.name ≡ n) × (slice_get sorts s.sort ≡ Some c.0) × AreNamed sorts c.1.args s.arguments

found-later : (sorts : List Name) (x : Symbol) (xs : List Symbol) (n : Name) (c : Constructor) → Found sorts xs n c → Found sorts (x ∷ xs) n c
found-later sorts x xs n c (p, s, at, same, of_sort, of_arguments) = (suc p, s, at, same, of_sort, of_arguments)

found-among : (sorts : List Name) (n : Name) (c : Constructor) (sort : Name) (k : ℕ) → slice_get sorts k ≡ Some sort → (o : Option Constructor) (more : List Numbered)
    → ((ys : List Symbol) → AreSpelled sorts more ys → o ≡ Some c → Found sorts ys n c)
    → (cs : List ConDecl) (xs : List Symbol) → AreSpelled sorts (with_sort k cs ++ more) xs → constructor_among sort cs n o ≡ Some c → Found sorts xs n c
found-among sorts n c sort k at o more later [] xs h e = later xs h e
found-among sorts n c sort k at o more later (d ∷ cs) [] h e = absurd h
found-among sorts n c sort k at o more later (d ∷ cs) (x ∷ xs) h e =
    elim (cases_Bool (bytes_eq d.name n)) [
      | inl t ↦
          let says : (sort, d) ≡ c = same_Some (sort, d) c (sym (ap (λ b. cond b (Some (sort, d)) (constructor_among sort cs n o)) t) ∙ e) in
          subst (Found sorts (x ∷ xs) n) says (zero, x, refl, h.0.name ∙ bytes_eq-same d.name n t, subst (λ q. slice_get sorts q ≡ Some sort) (sym h.0.sort) at, h.0.arguments)
      | inr f ↦
          found-later sorts x xs n c (found-among sorts n c sort k at o more later cs xs h.1 (sym (ap (λ b. cond b (Some (sort, d)) (constructor_among sort cs n o)) f) ∙ e))
    ]

-- the names from a position on
abbrev AreFrom : List Name → ℕ → List Name → Type 0
AreFrom sorts k names = (i : ℕ) (m : Name) → slice_get names i ≡ Some m → slice_get sorts (k + i) ≡ Some m

found-declared : (sorts : List Name) (n : Name) (c : Constructor) (file : List Line) (k : ℕ) (xs : List Symbol) → AreSpelled sorts (in_order k (sort_decls file)) xs → AreFrom sorts k (sort_names file)
    → constructor_declared file n ≡ Some c → Found sorts xs n c
found-declared sorts n c [] k xs h from e = absurd (cc)
found-declared sorts n c (lines.Sort d ∷ rest) k xs h from e =
    let here : k + 0 ≡ k = omega arith in
    let later : (i : ℕ) → k + suc i ≡ k + 1 + i = λ i. omega arith in
    found-among sorts n c d.name k (subst (λ q. slice_get sorts q ≡ Some d.name) here (from 0 d.name refl)) (constructor_declared rest n) (in_order (k + 1) (sort_decls rest))
    (λ ys g is. found-declared sorts n c rest (k + 1) ys g (λ i m at. subst (λ q. slice_get sorts q ≡ Some m) (later i) (from (suc i) m at)) is) d.constructors xs h e
found-declared sorts n c (line ∷ rest) k xs h from e = found-declared sorts n c rest k xs h from e

named-places : (file : List Line) (names : List Name) (ss : List ℕ) → AreNamed (sort_names file) names ss → AreSortsOf file (map (sort_place file) names) ss
named-places file [] [] h = tt
named-places file [] (s ∷ ss) h = absurd h
named-places file (n ∷ names) [] h = absurd h
named-places file (n ∷ names) (s ∷ ss) h = (sort-placed file s n h.0, named-places file names ss h.1)

-- the symbol of a constructor's name is the constructor's
pub symbols-sorted : (file : List Line) (sig : Signature) → AreSpelled (sort_names file) (in_order 0 (sort_decls file)) sig.symbols → map (λ (s : Symbol). s.name) sig.symbols ≡ constructor_names file
    → has_twice (constructor_names file) ≡ false → (n : Name) (c : Constructor) → constructor_declared file n ≡ Some c → (p : ℕ) (s : Symbol) → slice_get sig.symbols p ≡ Some s → s.name ≡ n → IsSymbolOf file c s
symbols-sorted file sig spelled names once n c says p s at named =
    let found = found-declared (sort_names file) n c file 0 sig.symbols spelled (λ i m h. let same : 0 + i ≡ i = omega arith in subst (λ q. slice_get (sort_names file) q ≡ Some m) (sym same) h) says in
    let same : p ≡ found.0 = one_place (constructor_names file) p found.0 n once (place p s at named) (place found.0 found.1 found.2 found.3) in
    let one : found.1 ≡ s = same_Some found.1 s (sym found.2 ∙ ap (slice_get sig.symbols) (sym same) ∙ at) in
    subst (IsSymbolOf file c) one (record { sort = found.4; arguments = named-places file c.1.args found.1.arguments found.5 })
  where
    place : (q : ℕ) (x : Symbol) → slice_get sig.symbols q ≡ Some x → x.name ≡ n → slice_get (constructor_names file) q ≡ Some n
    place q x there is = ap (λ l. slice_get l q) (sym names) ∙ slice_get-map_some (λ (s : Symbol). s.name) sig.symbols q x there ∙ ap Some is

-- ---- kinds

-- what is read of a sort's name
sort-there : (file : List Line) (def : Definition) → HasSorts file def → (s : ℕ) (n : Name) → slice_get def.signature.sorts s ≡ Some n → slice_get (sort_names file) s ≡ Some n
sort-there file def has s n at = ap (λ l. slice_get l s) (sym has) ∙ at

pub phyla-sorted : (whole : List Line) (def : Definition) → HasSorts whole def → (file : List Line) (phyla : List Phylum) → AreMeant whole file → ArePhyla def file phyla
    → AllByRecursion (λ (p : Phylum). IsSortOf whole (value_place whole p.name) p.sort.0) phyla
phyla-sorted whole def has [] phyla meant h = subst (AllByRecursion (λ (p : Phylum). IsSortOf whole (value_place whole p.name) p.sort.0)) (sym h) tt
phyla-sorted whole def has (lines.Phylum name sort bracketed ∷ file) phyla meant (p, rest, e, is, more) =
    subst (AllByRecursion (λ (p : Phylum). IsSortOf whole (value_place whole p.name) p.sort.0)) (sym e) (
      subst (λ at. IsSortOf whole at p.sort.0) (sym (ap (value_place whole) is.named ∙ ap (option_and_then (λ d. sort_place whole (sort_told d))) meant.0)) (sort-placed whole p.sort.0 sort (sort-there whole def has p.sort.0 sort is.of_sort)),
      phyla-sorted whole def has file rest meant.1 more,
    )
phyla-sorted whole def has (lines.List name sort element separator on unfinished ∷ file) phyla meant h = phyla-sorted whole def has file phyla meant.1 h
phyla-sorted whole def has (_ ∷ file) phyla meant h = phyla-sorted whole def has file phyla meant h

pub lists-sorted : (whole : List Line) (def : Definition) → HasSorts whole def → (rows file : List Line) (lists : List ListKind) → AreMeant whole file → AreLists def rows file lists
    → AllByRecursion (λ (l : ListKind). IsSortOf whole (value_place whole l.name) l.sort.0) lists
lists-sorted whole def has rows [] lists meant h = subst (AllByRecursion (λ (l : ListKind). IsSortOf whole (value_place whole l.name) l.sort.0)) (sym h) tt
lists-sorted whole def has rows (lines.List name sort element separator on unfinished ∷ file) lists meant (l, rest, e, is, more) =
    subst (AllByRecursion (λ (l : ListKind). IsSortOf whole (value_place whole l.name) l.sort.0)) (sym e) (
      subst (λ at. IsSortOf whole at l.sort.0) (sym (ap (value_place whole) is.named ∙ ap (option_and_then (λ d. sort_place whole (sort_told d))) meant.0)) (sort-placed whole l.sort.0 sort (sort-there whole def has l.sort.0 sort is.of_sort)),
      lists-sorted whole def has rows file rest meant.1 more,
    )
lists-sorted whole def has rows (lines.Phylum name sort bracketed ∷ file) lists meant h = lists-sorted whole def has rows file lists meant.1 h
lists-sorted whole def has rows (_ ∷ file) lists meant h = lists-sorted whole def has rows file lists meant h

-- ---- spaces

-- the first line of the space's name says its sort
space-found : (whole : List Line) (def : Definition) → HasSorts whole def → (n : Name) (file : List Line) (all : List Space) → AreSpaces def (spaces file) all → has_twice (space_names file) ≡ false
    → (p : ℕ) (s : Space) → slice_get (space_names file) p ≡ Some n → slice_get all p ≡ Some s
    → (sort : Name) × (space_declared file n ≡ Some sort) × (slice_get (sort_names whole) s.sort.0 ≡ Some sort)
space-found whole def has n [] all h once p s named at = absurd (cc)
space-found whole def has n (lines.Space name sort ∷ file) all (x, rest, e, is, of_sort, more) once p s named at = go (space-found whole def has n file rest more both.1) p named (subst (λ l. slice_get l p ≡ Some s) e at)
  where
    both : (is_among (space_names file) name ≡ false) × (has_twice (space_names file) ≡ false)
    both = or_parts (is_among (space_names file) name) (has_twice (space_names file)) once

    go : ((q : ℕ) (t : Space) → slice_get (space_names file) q ≡ Some n → slice_get rest q ≡ Some t
        → (sort : Name) × (space_declared file n ≡ Some sort) × (slice_get (sort_names whole) t.sort.0 ≡ Some sort))
        → (p : ℕ) → slice_get (name ∷ space_names file) p ≡ Some n → slice_get (x ∷ rest) p ≡ Some s
        → (found : Name) × (cond (bytes_eq name n) (Some sort) (space_declared file n) ≡ Some found) × (slice_get (sort_names whole) s.sort.0 ≡ Some found)
    go later zero named at =
        let test : bytes_eq name n ≡ true = ap (bytes_eq name) (sym (same_Some name n named)) ∙ bytes_eq-refl name in (
          sort,
          ap (λ b. cond b (Some sort) (space_declared file n)) test,
          subst (λ (y : Space). slice_get (sort_names whole) y.sort.0 ≡ Some sort) (same_Some x s at) (sort-there whole def has x.sort.0 sort of_sort),
        )
    go later (suc q) named at =
        elim (cases_Bool (bytes_eq name n)) [
          | inl t ↦ absurd (false≢true (sym both.0 ∙ ap (is_among (space_names file)) (bytes_eq-same name n t) ∙ is_among-at (space_names file) q n named))
          | inr f ↦
              let found = later q s named at in
              (found.0, ap (λ b. cond b (Some sort) (space_declared file n)) f ∙ found.1, found.2)
        ]
space-found whole def has n (_ ∷ file) all h once p s named at = space-found whole def has n file all h once p s named at

-- and the first line of a space says that of the first space
space-first : (whole : List Line) (def : Definition) → HasSorts whole def → (file : List Line) (all : List Space) → AreSpaces def (spaces file) all → (s : Space) → slice_get all 0 ≡ Some s
    → (sort : Name) × (entity_sort file ≡ Some sort) × (slice_get (sort_names whole) s.sort.0 ≡ Some sort)
space-first whole def has [] all h s at = let none = subst (λ l. slice_get l 0 ≡ Some s) h at in absurd (cc)
space-first whole def has (lines.Space name sort ∷ file) all (x, rest, e, is, of_sort, more) s at =
    let same = same_Some x s (subst (λ l. slice_get l 0 ≡ Some s) e at) in
    (sort, refl, subst (λ (y : Space). slice_get (sort_names whole) y.sort.0 ≡ Some sort) same (sort-there whole def has x.sort.0 sort of_sort))
space-first whole def has (_ ∷ file) all h s at = space-first whole def has file all h s at

-- each space is of the sort that its line says
pub spaces-sorted : (whole : List Line) (def : Definition) → HasSorts whole def → (all : List Space) → AreSpaces def (spaces whole) all → has_twice (space_names whole) ≡ false → (n : Name) (p : ℕ) (s : Space) → IsSpaceAt whole n p
    → slice_get all p ≡ Some s → IsSortOf whole (entity_place whole n) s.sort.0
spaces-sorted whole def has all h once [] p s at there =
    let found = space-first whole def has whole all h s (subst (λ q. slice_get all q ≡ Some s) at there) in
    subst (λ o. IsSortOf whole (option_and_then (sort_place whole) o) s.sort.0) (sym found.1) (sort-placed whole s.sort.0 found.0 found.2)
spaces-sorted whole def has all h once (c ∷ cs) p s at there =
    let found = space-found whole def has (c ∷ cs) whole all h once p s at there in
    subst (λ o. IsSortOf whole (option_and_then (sort_place whole) o) s.sort.0) (sym found.1) (sort-placed whole s.sort.0 found.0 found.2)
