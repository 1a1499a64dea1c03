-- The lines of sorts, spaces, phyla and lists pass the tests of their meaning.
use Rattle.std.proofs.Common.{◌≡◌, true, false, cond, inl, inr, ℕ, zero, suc, ◌+◌, ◌<◌, ◌==◌, Some, None, List, [], ◌∷◌, length, map, slice_get, refl, ap, sym, ◌∙◌, subst, arith, ◌++◌}
use Rattle.std.specs.List.{Contains, AllByRecursion}
use Rattle.std.proofs.lemmas.Bool.{eq-eqb, cases_Bool}
use Rattle.std.proofs.lemmas.List.Elements.{Contains-append_left, Contains-append_right, Contains-push}
use Rattle.psg_terms.specs.Terms.{Term}
use Rattle.psg_terms.specs.Terms as terms
use Rattle.psg_terms.specs.Signature.{Symbol, Takes, AreClosed, constructors_from, only_constructor, sole, AreSorts}
use Rattle.psg_terms.specs.Instances.{IsGround}
use Rattle.psg_terms.specs.declared.declare.ConDecl.{ConDecl}
use Rattle.psg_grammar.specs.declared.types.Definition.{Definition}
use Rattle.psg_grammar.specs.Sound.{IsSound, IsPhylum, IsListKind}
use Rattle.psg_deflines.specs.declared.lines.Line.{Line}
use Rattle.psg_defcheck.specs.Meanings.{AreInhabited, none, more, IsChoice, KnowsSort}
use Rattle.psg_defcheck.proofs.GroundLaws.{inhabited-more}
use Rattle.psg_defread.specs.WrittenLines.{sort_name, constructors_written, sort_lines, space_line, phylum_line, list_line}
use Rattle.psg_defread.proofs.NumberTerms.{closed-sort}
use Rattle.psg_defread.proofs.PassedDeclared.{Declares, constructor_written, of_sort, with_front, sort_written, sort-at, sort-known, phylum-known}
use Rattle.std.proofs.lemmas.Option.{slice_get_within}
use Rattle.psg_terms.proofs.Lists.{slice_get_once}
use Rattle.psg_terms.specs.Names.{Name}
use Rattle.psg_grammar.specs.declared.types.Phylum.{Phylum}
use Rattle.psg_grammar.specs.declared.types.ListKind.{ListKind}
use Rattle.psg_grammar.specs.declared.types.Space.{Space}
use Rattle.psg_deflines.specs.declared.lines.Line.TheVariants as lines
use Rattle.psg_defread.proofs.NumberNames.{name-found}
use Rattle.psg_defread.proofs.PassedTests.{PassesRest, AreRight, IsRight}

module _ (def : Definition) where
  abbrev one : Symbol → ConDecl
  one s = constructor_written def s

  -- a constructor of the sort is in the sort's line
  own-contains : (n : ℕ) (xs : List Symbol) (c : ℕ) (s : Symbol) → slice_get xs c ≡ Some s → s.sort ≡ n
      → Contains (of_sort def n xs) (one s)
  own-contains n [] c s e of = absurd (let f : None ≡ Some s = e in cc)
  own-contains n (x ∷ xs) zero s e of =
      let same : s ≡ x = let f : Some x ≡ Some s = e in cc in
      let test = eq-eqb x.sort n (ap (λ (y : Symbol). y.sort) (sym same) ∙ of) in
      subst (λ b. Contains (with_front def b x n xs) (one s)) (sym test) (
      subst (λ y. Contains (one x ∷ of_sort def n xs) (one y)) (sym same) (
      Contains-append_left (one x ∷ []) (of_sort def n xs) (one x) (Contains-push [] (one x))
      )
      )
  own-contains n (x ∷ xs) (suc c) s e of =
      let rest = own-contains n xs c s e of in
      elim (x.sort == n) as (λ b. Contains (with_front def b x n xs) (one s)) [
        | true ↦ Contains-append_right (one x ∷ []) (of_sort def n xs) (one s) rest
        | false ↦ rest
      ]

  module _ (sound : IsSound def) (file : List Line) (declares : Declares def file) where
    symbol-inhabited : (c : ℕ) (s : Symbol) → slice_get def.signature.symbols c ≡ Some s
        → AreInhabited file (map (sort_name def) s.arguments) → AreInhabited file (sort_name def s.sort ∷ [])
    symbol-inhabited c s at arguments =
        let inside = closed-sort def.signature def.signature.symbols c s sound.signature.closed at in
        let name = sort_name def s.sort in
        let found = declares.sort_is s.sort name (sort-at def s.sort inside) in
        let member = own-contains s.sort def.signature.symbols c s at refl in
        more name [] (sort_written def s.sort name) (one s) found member arguments none

    -- of the sort of a term without variables, where its missing arguments have such terms
    term-inhabited : (t : Term) (arguments : List ℕ) (sort : ℕ) → IsGround t → Takes def.signature t arguments sort
        → AreInhabited file (map (sort_name def) arguments) → AreInhabited file (sort_name def sort ∷ [])
    term-inhabited (terms.variable s n) arguments sort ground h k = absurd ground
    term-inhabited (terms.symbol c) arguments sort ground (s, at, takes, of) k =
        let behind = subst (λ ss. AreInhabited file (map (sort_name def) ss)) (sym takes) k in
        subst (λ n. AreInhabited file (sort_name def n ∷ [])) of (symbol-inhabited c s at behind)
    term-inhabited (terms.apply f a) arguments sort ground (first, hf, ha) k =
        let argument = term-inhabited a [] first ground.1 ha none in
        let behind = inhabited-more file (sort_name def first) (map (sort_name def) arguments) argument k in
        term-inhabited f (first ∷ arguments) sort ground.0 hf behind

    pub sort-inhabited : (s : ℕ) → s < length def.signature.sorts → AreInhabited file (sort_name def s ∷ [])
    sort-inhabited s inside =
        let (t, ground, of) = sound.signature.inhabited s inside in
        term-inhabited t [] s ground of none

  -- ---- an only constructor

  abbrev numbered : ℕ → ℕ → List Symbol → List ℕ
  numbered m n xs = constructors_from m n xs

  none-numbered : (m n : ℕ) (xs : List Symbol) → of_sort def n xs ≡ [] → numbered m n xs ≡ []
  none-numbered m n [] h = refl
  none-numbered m n (x ∷ xs) h =
      elim (cases_Bool (x.sort == n)) [
        | inl e ↦
            let bad : one x ∷ of_sort def n xs ≡ [] =
            ap (λ b. with_front def b x n xs) (sym e) ∙ h in
            absurd (cc)
        | inr e ↦
            ap (λ b. cond b (m ∷ numbered (m + 1) n xs) (numbered (m + 1) n xs)) e
            ∙ none-numbered (m + 1) n xs (ap (λ b. with_front def b x n xs) (sym e) ∙ h)
      ]

  record IsOnlyOne (m n : ℕ) (xs : List Symbol) (c : ConDecl) : Type 0 where
    place : ℕ
    found : Symbol
    only : sole (numbered m n xs) ≡ Some (m + place)
    at : slice_get xs place ≡ Some found
    is : one found ≡ c

  only-one : (m n : ℕ) (xs : List Symbol) (c : ConDecl) → of_sort def n xs ≡ c ∷ [] → IsOnlyOne m n xs c
  only-one m n [] c h = absurd (cc)
  only-one m n (x ∷ xs) c h =
      elim (cases_Bool (x.sort == n)) [
        | inl e ↦
            let both : one x ∷ of_sort def n xs ≡ c ∷ [] =
            ap (λ b. with_front def b x n xs) (sym e) ∙ h in
            let rest : of_sort def n xs ≡ [] = cc in
            let zero_more : m ≡ m + 0 = omega arith in
            record {
              place = 0;
              found = x;
              only = ap (λ b. sole (cond b (m ∷ numbered (m + 1) n xs) (numbered (m + 1) n xs))) e
                  ∙ ap (λ l. sole (m ∷ l)) (none-numbered (m + 1) n xs rest)
                  ∙ ap Some zero_more;
              at = refl;
              is = cc;
            }
        | inr e ↦
            let r = only-one (m + 1) n xs c (ap (λ b. with_front def b x n xs) (sym e) ∙ h) in
            let later : (m + 1) + r.place ≡ m + suc r.place = omega arith in
            record {
              place = suc r.place;
              found = r.found;
              only = ap (λ b. sole (cond b (m ∷ numbered (m + 1) n xs) (numbered (m + 1) n xs))) e
                  ∙ r.only
                  ∙ ap Some later;
              at = r.at;
              is = r.is;
            }
      ]

  pub sort-choice : IsSound def → (n : ℕ) → n < length def.signature.sorts
      → IsChoice (constructors_written def n def.signature.symbols)
  sort-choice sound n inside = go (of_sort def n def.signature.symbols) refl
    where
      go : (cs : List ConDecl) → of_sort def n def.signature.symbols ≡ cs → IsChoice cs
      go [] e = tt
      go (c ∷ []) e =
          let r = only-one 0 n def.signature.symbols c e in
          let place : 0 + r.place ≡ r.place = omega arith in
          let only : only_constructor def.signature n ≡ Some r.place = r.only ∙ ap Some place in
          let (s, at, takes, of) = sound.signature.constant n r.place inside only in
          let same = slice_get_once def.signature.symbols r.place r.found s r.at at in
          let args = ap (λ (y : Symbol). map (sort_name def) y.arguments) same ∙ ap (map (sort_name def)) takes in
          ap (λ (d : ConDecl). d.args) (sym r.is) ∙ args
      go (c ∷ d ∷ rest) e = tt

-- ---- lines

module _ (def : Definition) (sound : IsSound def) (file : List Line) (declares : Declares def file) where
  abbrev KnowsArguments : ConDecl → Type 0
  KnowsArguments c = AllByRecursion (KnowsSort file) c.args

  arguments-known : (ss : List ℕ) → AreSorts def.signature ss → AllByRecursion (KnowsSort file) (map (sort_name def) ss)
  arguments-known [] h = tt
  arguments-known (s ∷ ss) h = (sort-known def sound file declares s h.0, arguments-known ss h.1)

  constructors-known : (n : ℕ) (xs : List Symbol) → AreClosed def.signature xs
      → AllByRecursion KnowsArguments (constructors_written def n xs)
  constructors-known n [] h = tt
  constructors-known n (x ∷ xs) h =
      let rest = constructors-known n xs h.2 in
      elim (x.sort == n) as (λ b. AllByRecursion KnowsArguments (with_front def b x n xs)) [
        | true ↦ (arguments-known x.arguments h.0, rest)
        | false ↦ rest
      ]

  sort-right : (n : ℕ) (name : Name) → slice_get def.signature.sorts n ≡ Some name
      → (above : List Line) → PassesRest file above (lines.Sort (sort_written def n name))
  sort-right n name at above =
      let inside = slice_get_within def.signature.sorts n name at in
      let named = name-found (λ m. m) def.signature.sorts n name at in
      record {
        known = constructors-known n def.signature.symbols sound.signature.closed;
        counted = tt;
        sorted = ((λ m. m), tt);
        entity = tt;
        ground = subst (λ m. AreInhabited file (m ∷ [])) named (sort-inhabited def sound file declares n inside);
        choice = sort-choice def sound n inside;
      }

  pub sorts-right : (n : ℕ) (names : List Name)
      → ((i : ℕ) (m : Name) → slice_get names i ≡ Some m → slice_get def.signature.sorts (n + i) ≡ Some m)
      → (above : List Line) → AreRight file above (sort_lines def n names)
  sorts-right n [] each above = tt
  sorts-right n (name ∷ names) each above =
      let first : n + 0 ≡ n = omega arith in
      let here = subst (λ k. slice_get def.signature.sorts k ≡ Some name) first (each 0 name refl) in (
        sort-right n name here above,
        sorts-right (n + 1) names (λ i m e. later i m (each (suc i) m e))
            (above ++ lines.Sort (sort_written def n name) ∷ []),
      )
    where
      later : (i : ℕ) (m : Name) → slice_get def.signature.sorts (n + suc i) ≡ Some m
          → slice_get def.signature.sorts ((n + 1) + i) ≡ Some m
      later i m h =
          let place : n + suc i ≡ (n + 1) + i = omega arith in
          subst (λ k. slice_get def.signature.sorts k ≡ Some m) place h

  -- ---- the entity and kinds

  abbrev HasSpaceWithin : Space → Type 0
  HasSpaceWithin s = s.sort.0 < length def.signature.sorts

  pub entities-right : (all : List Space) → AllByRecursion HasSpaceWithin all
      → AllByRecursion (λ s. IsRight file (space_line def s)) all
  entities-right [] h = tt
  entities-right (s ∷ all) h = (
    λ above. record {
      known = sort-known def sound file declares s.sort.0 h.0;
      counted = tt;
      sorted = ((λ m. m), tt);
      entity = tt;
      ground = tt;
      choice = tt;
    },
    entities-right all h.1,
  )

  pub phyla-right : (all : List Phylum) → AllByRecursion (IsPhylum def) all
      → AllByRecursion (λ p. IsRight file (phylum_line def p)) all
  phyla-right [] h = tt
  phyla-right (p ∷ all) h = (
    λ above. record {
      known = sort-known def sound file declares p.sort.0 h.0.sort;
      counted = tt;
      sorted = ((λ m. m), tt);
      entity = tt;
      ground = tt;
      choice = tt;
    },
    phyla-right all h.1,
  )

  pub lists-right : (all : List ListKind) → AllByRecursion (IsListKind def) all
      → AllByRecursion (λ l. IsRight file (list_line def l)) all
  lists-right [] h = tt
  lists-right (l ∷ all) h = (
    λ above. record {
      known = (
        sort-known def sound file declares l.sort.0 h.0.sort,
        phylum-known def sound file declares l.element h.0.element h.0.element_sort,
      );
      counted = tt;
      sorted = ((λ m. m), tt);
      entity = tt;
      ground = tt;
      choice = tt;
    },
    lists-right all h.1,
  )
