-- The spaces, the phyla and the names of kinds in the lines that write a definition.
use Rattle.std.proofs.Common.{◌≡◌, ◌≢◌, ℕ, false, List, [], ◌∷◌, ◌++◌, map, Some, refl, ap, ap₂, sym, ◌∙◌, subst, arith}
use Rattle.std.specs.List.{AllByRecursion}
use Rattle.psg_terms.specs.Names.{Name, has_twice}
use Rattle.psg_terms.specs.declared.sorts.SortId.{SortId}
use Rattle.psg_grammar.specs.declared.types.Phylum.{Phylum}
use Rattle.psg_grammar.specs.declared.types.ListKind.{ListKind}
use Rattle.psg_grammar.specs.declared.types.Space.{Space}
use Rattle.psg_grammar.specs.declared.types.Definition.{Definition}
use Rattle.psg_grammar.specs.Sound.{IsSound}
use Rattle.psg_grammar.specs.Sound as sound
use Rattle.psg_deflines.specs.declared.lines.Line.{Line}
use Rattle.psg_deflines.specs.declared.lines.Line.TheVariants as lines
use Rattle.psg_defcheck.specs.Scopes.{kind_names, spaces, space_names}
use Rattle.psg_defnumber.specs.Numbers.{IsSort, IsPhylum, ArePhyla, AreSpaces, IsNumbered}
use Rattle.psg_defnumber.proofs.KindLaws.{names-declared}
use Rattle.psg_defread.specs.Layout.{rank}
use Rattle.psg_defread.specs.WrittenLines.{lines_of, sort_name, space_line, phylum_line, list_line}
use Rattle.psg_defread.proofs.NumberNames.{name-found}
use Rattle.psg_defread.proofs.Blocks.{from_phyla, from_lists, from_operators, last-blocks, first-blocks}

module _ (def : Definition) where
  -- a sort has the name that is written for it
  pub sort-again : (n : Name) (s : SortId) → IsSort def n s → IsSort def (sort_name def s.0) s
  sort-again n s h = h ∙ ap Some (sym (name-found (λ m. m) def.signature.sorts s.0 n h))

  -- ---- spaces

  abbrev space_pair : Space → Name × Name
  space_pair s = (s.name, sort_name def s.sort.0)

  pairs-back : (ds : List (Name × Name)) (all : List Space) → AreSpaces def ds all → map space_pair all ≡ ds
  pairs-back [] all e = ap (map space_pair) e
  pairs-back (d ∷ ds) all (s, rest, e, name, of, h) =
      let sort = name-found (λ n. n) def.signature.sorts s.sort.0 d.1 of in
      let same : space_pair s ≡ d = ap₂ (λ m n. (m, n)) name sort in
      ap (map space_pair) e ∙ ap₂ (λ x xs. x ∷ xs) same (pairs-back ds rest h)

  spaces-in : (all : List Space) (tail : List Line) → spaces tail ≡ []
      → spaces (map (space_line def) all ++ tail) ≡ map space_pair all
  spaces-in [] tail none = none
  spaces-in (s ∷ rest) tail none = ap (λ l. space_pair s ∷ l) (spaces-in rest tail none)

  spaces-step : (ds : List (Name × Name)) (line : Line) (rest : List Line) → rank line ≢ 1 → spaces rest ≡ ds
      → spaces (line ∷ rest) ≡ ds
  spaces-step ds (lines.Space name sort) rest h e = absurd (h refl)
  spaces-step ds line rest h e = e

  abbrev IsNoSpace : ℕ → Type 0
  IsNoSpace r = r ≢ 1

  pairs-are : spaces (lines_of def) ≡ map space_pair def.spaces
  pairs-are =
      let none = last-blocks 2 IsNoSpace (λ ls. spaces ls ≡ []) (spaces-step []) def
      (λ r h e. omega (arith, h, e)) refl in
      first-blocks 1 IsNoSpace (λ ls. spaces ls ≡ map space_pair def.spaces)
      (spaces-step (map space_pair def.spaces)) def (λ r h e. omega (arith, h, e))
      (spaces-in def.spaces (from_phyla def) none)

  module _ {version : ℕ} (file : List Line) (numbered : IsNumbered version file def) where
    pairs-same : spaces (lines_of def) ≡ spaces file
    pairs-same = pairs-are ∙ pairs-back (spaces file) def.spaces numbered.spaces

    pub spaces-are : AreSpaces def (spaces (lines_of def)) def.spaces
    spaces-are = subst (λ ds. AreSpaces def ds def.spaces) (sym pairs-same) numbered.spaces

    pub spaces-once : has_twice (space_names (lines_of def)) ≡ false
    spaces-once =
        ap has_twice (sym (names-declared (lines_of def)) ∙ ap (map (λ (d : Name × Name). d.0)) pairs-same
        ∙ names-declared file) ∙ numbered.spaces_once

  -- ---- phyla

  abbrev IsPhylumAgain : Phylum → Type 0
  IsPhylumAgain p = IsPhylum def p.name (sort_name def p.sort.0) p.bracketed p

  each-phylum : (file : List Line) (all : List Phylum) → ArePhyla def file all → AllByRecursion IsPhylumAgain all
  each-phylum [] all e = subst (AllByRecursion IsPhylumAgain) (sym e) tt
  each-phylum (lines.Phylum name sort bracketed ∷ behind) all (p, rest, e, h, hs) =
      subst (AllByRecursion IsPhylumAgain) (sym e) (
        record { named = refl; of_sort = sort-again sort p.sort h.of_sort; same_brackets = refl },
        each-phylum behind rest hs,
      )
  each-phylum (line ∷ behind) all h = each-phylum behind all h

  phyla-in : (all : List Phylum) (tail : List Line) → AllByRecursion IsPhylumAgain all → ArePhyla def tail []
      → ArePhyla def (map (phylum_line def) all ++ tail) all
  phyla-in [] tail h none = none
  phyla-in (p ∷ rest) tail h none = (p, rest, refl, h.0, phyla-in rest tail h.1 none)

  phyla-step : (all : List Phylum) (line : Line) (rest : List Line) → rank line ≢ 2 → ArePhyla def rest all
      → ArePhyla def (line ∷ rest) all
  phyla-step all (lines.Phylum name sort bracketed) rest h w = absurd (h refl)
  phyla-step all line rest h w = w

  abbrev IsNoPhylum : ℕ → Type 0
  IsNoPhylum r = r ≢ 2

  pub phyla-are : (file : List Line) → ArePhyla def file def.phyla → ArePhyla def (lines_of def) def.phyla
  phyla-are file h =
      let none =
      last-blocks 3 IsNoPhylum (λ ls. ArePhyla def ls []) (phyla-step []) def (λ r k e. omega (arith, k, e)) refl in
      first-blocks 2 IsNoPhylum (λ ls. ArePhyla def ls def.phyla) (phyla-step def.phyla) def
      (λ r k e. omega (arith, k, e))
      (phyla-in def.phyla (from_lists def) (each-phylum file def.phyla h) none)

  -- ---- names

  abbrev phyla_named : List Phylum → List Name
  phyla_named all = map (λ (p : Phylum). p.name) all

  abbrev lists_named : List ListKind → List Name
  lists_named all = map (λ (l : ListKind). l.name) all

  kinds-step : (names : List Name) (line : Line) (rest : List Line) → (rank line ≢ 2) × (rank line ≢ 3)
      → kind_names rest ≡ names → kind_names (line ∷ rest) ≡ names
  kinds-step names (lines.Phylum name sort bracketed) rest h e = absurd (h.0 refl)
  kinds-step names (lines.List name sort elements separator on_lines unfinished) rest h e = absurd (h.1 refl)
  kinds-step names line rest h e = e

  phyla-named : (all : List Phylum) (tail : List Line)
      → kind_names (map (phylum_line def) all ++ tail) ≡ phyla_named all ++ kind_names tail
  phyla-named [] tail = refl
  phyla-named (p ∷ rest) tail = ap (λ l. p.name ∷ l) (phyla-named rest tail)

  lists-named : (all : List ListKind) (tail : List Line) → kind_names tail ≡ []
      → kind_names (map (list_line def) all ++ tail) ≡ lists_named all
  lists-named [] tail none = none
  lists-named (l ∷ rest) tail none = ap (λ ls. l.name ∷ ls) (lists-named rest tail none)

  abbrev IsNoKind : ℕ → Type 0
  IsNoKind r = (r ≢ 2) × (r ≢ 3)

  kind-names-are : kind_names (lines_of def) ≡ sound.kind_names def
  kind-names-are =
      let names = sound.kind_names def in
      first-blocks 2 IsNoKind (λ ls. kind_names ls ≡ names) (kinds-step names) def
      (λ r k. ((λ e. omega (arith, k, e)), (λ e. omega (arith, k, e))))
      (phyla-named def.phyla (from_lists def)
      ∙ ap (λ l. phyla_named def.phyla ++ l) (lists-named def.lists (from_operators def)
      (last-blocks 4 IsNoKind (λ ls. kind_names ls ≡ []) (kinds-step []) def
      (λ r k. ((λ e. omega (arith, k, e)), (λ e. omega (arith, k, e)))) refl)))

  pub kinds-once : IsSound def → has_twice (kind_names (lines_of def)) ≡ false
  kinds-once h = ap has_twice kind-names-are ∙ h.kind_names
