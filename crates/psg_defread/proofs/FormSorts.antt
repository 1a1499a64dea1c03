-- The lines of sorts, spaces and phyla are those of the file, so what is said of each line of the file is said of them.
-- The names of spaces in other lines are those of the version.
use Rattle.std.proofs.Common.{◌≡◌, ℕ, ◌+◌, List, [], ◌∷◌, map, ap₂, sym, subst, ◌==◌, ◌||◌, true, false, zero, suc, inl, inr, refl, ap, ◌∙◌, Some, slice_get}
use Rattle.std.specs.List.{AllByRecursion, list_any}
use Rattle.psg_terms.specs.Names.{Name}
use Rattle.psg_terms.specs.Declarations.{IsSpelled}
use Rattle.psg_terms.specs.declared.declare.SortDecl.{SortDecl}
use Rattle.psg_grammar.specs.declared.types.Phylum.{Phylum}
use Rattle.psg_grammar.specs.declared.types.Space.{Space}
use Rattle.psg_grammar.specs.declared.types.Definition.{Definition}
use Rattle.psg_deflines.specs.declared.lines.Line.{Line}
use Rattle.psg_deflines.specs.declared.lines.Line.TheVariants as lines
use Rattle.psg_defcheck.specs.Scopes.{spaces}
use Rattle.psg_defnumber.specs.Numbers.{sort_decls, AreSpaces, ArePhyla}
use Rattle.psg_defread.specs.WrittenLines.{sort_lines, space_line, phylum_line, name_at, space_name, item_written}
use Rattle.psg_defread.proofs.NumberNames.{name-found}
use Rattle.psg_defread.proofs.NumberSorts.{decls, decls-same}
use Rattle.std.specs.Prelude.{not}
use Rattle.std.proofs.lemmas.Bool.{false≢true}
use Rattle.psg_terms.proofs.Lists.{each_at}
use Rattle.psg_grammar.specs.declared.types.Item.{Item}
use Rattle.psg_grammar.specs.declared.types.Item.TheVariants as made
use Rattle.psg_grammar.specs.Sound.{IsOwnName, AreSpaceNames}
use Rattle.psg_deflines.specs.Forms.{IsSpaceName}
use Rattle.psg_deflines.specs.Versions.{is_named, names_rightly, names_space}

module _ (def : Definition) (P : Line → Type 0) where
  abbrev OfSort : SortDecl → Type 0
  OfSort d = P (lines.Sort d)

  sorts-given : (file : List Line) → AllByRecursion P file → AllByRecursion OfSort (sort_decls file)
  sorts-given [] g = tt
  sorts-given (lines.Sort d ∷ rest) g = (g.0, sorts-given rest g.1)
  sorts-given (line ∷ rest) g = sorts-given rest g.1

  sorts-from : (n : ℕ) (names : List Name) → AllByRecursion OfSort (decls def n names)
      → AllByRecursion P (sort_lines def n names)
  sorts-from n [] g = tt
  sorts-from n (name ∷ rest) g = (g.0, sorts-from (n + 1) rest g.1)

  pub sorts-keep : (file : List Line) → AllByRecursion P file → IsSpelled (sort_decls file) def.signature
      → AllByRecursion P (sort_lines def 0 def.signature.sorts)
  sorts-keep file g spelled =
      sorts-from 0 def.signature.sorts
      (subst (AllByRecursion OfSort) (sym (decls-same def file spelled)) (sorts-given file g))

  abbrev OfSpace : Name × Name → Type 0
  OfSpace d = P (lines.Space d.0 d.1)

  spaces-given : (file : List Line) → AllByRecursion P file → AllByRecursion OfSpace (spaces file)
  spaces-given [] g = tt
  spaces-given (lines.Space name sort ∷ rest) g = (g.0, spaces-given rest g.1)
  spaces-given (line ∷ rest) g = spaces-given rest g.1

  spaces-from : (ds : List (Name × Name)) (all : List Space) → AllByRecursion OfSpace ds → AreSpaces def ds all
      → AllByRecursion P (map (space_line def) all)
  spaces-from [] all g e = subst (λ ss. AllByRecursion P (map (space_line def) ss)) (sym e) tt
  spaces-from (d ∷ ds) all g (s, rest, e, name, of, h) =
      let sort = name-found (λ n. n) def.signature.sorts s.sort.0 d.1 of in
      let same : space_line def s ≡ lines.Space d.0 d.1 = ap₂ lines.Space name sort in
      subst (λ ss. AllByRecursion P (map (space_line def) ss)) (sym e)
      (subst P (sym same) g.0, spaces-from ds rest g.1 h)

  pub spaces-keep : (file : List Line) → AllByRecursion P file → AreSpaces def (spaces file) def.spaces
      → AllByRecursion P (map (space_line def) def.spaces)
  spaces-keep file g h = spaces-from (spaces file) def.spaces (spaces-given file g) h

  pub phyla-keep : (file : List Line) (all : List Phylum) → AllByRecursion P file → ArePhyla def file all
      → AllByRecursion P (map (phylum_line def) all)
  phyla-keep [] all g e = subst (λ ps. AllByRecursion P (map (phylum_line def) ps)) (sym e) tt
  phyla-keep (lines.Phylum name sort bracketed ∷ behind) all g (p, rest, e, h, hs) =
      let named = h.named in
      let of = name-found (λ n. n) def.signature.sorts p.sort.0 sort h.of_sort in
      let brackets = h.same_brackets in
      let same : phylum_line def p ≡ lines.Phylum name sort bracketed =
      λ i. lines.Phylum (named i) (of i) (brackets i) in
      subst (λ ps. AllByRecursion P (map (phylum_line def) ps)) (sym e)
      (subst P (sym same) g.0, phyla-keep behind rest g.1 hs)
  phyla-keep (line ∷ behind) all g h = phyla-keep behind all g.1 h

-- ---- the names of spaces

own-formed : (n : Name) → IsOwnName n → IsSpaceName n
own-formed [] h = tt
own-formed (c ∷ cs) h = h

own-named : (n : Name) → IsOwnName n → is_named n ≡ true
own-named [] h = absurd (false≢true h)
own-named (c ∷ cs) h = refl

abbrev IsFormed : Space → Type 0
IsFormed s = IsSpaceName s.name

abbrev IsBare : Space → Type 0
IsBare s = s.name ≡ []

abbrev IsOwned : Space → Type 0
IsOwned s = IsOwnName s.name

bare-formed : (ss : List Space) → AllByRecursion IsBare ss → AllByRecursion IsFormed ss
bare-formed [] h = tt
bare-formed (s ∷ ss) h = (subst IsSpaceName (sym h.0) tt, bare-formed ss h.1)

owned-formed : (ss : List Space) → AllByRecursion IsOwned ss → AllByRecursion IsFormed ss
owned-formed [] h = tt
owned-formed (s ∷ ss) h = (own-formed s.name h.0, owned-formed ss h.1)

-- the name at a position has a form, also where none is there
formed-at : (ss : List Space) → AllByRecursion IsFormed ss → (n : ℕ) → IsSpaceName (name_at (λ (s : Space). s.name) ss n)
formed-at [] h n = tt
formed-at (s ∷ ss) h zero = h.0
formed-at (s ∷ ss) h (suc n) = formed-at ss h.1 n

bare-at : (ss : List Space) → AllByRecursion IsBare ss → (n : ℕ) → name_at (λ (s : Space). s.name) ss n ≡ []
bare-at [] h n = refl
bare-at (s ∷ ss) h zero = h.0
bare-at (s ∷ ss) h (suc n) = bare-at ss h.1 n

module _ (def : Definition) (version : ℕ) (same : def.version ≡ version) (names : AreSpaceNames def.version def.spaces) where
  spaces-formed : AllByRecursion IsFormed def.spaces
  spaces-formed = elim names [
    | inl h ↦ bare-formed def.spaces h.2
    | inr h ↦ owned-formed def.spaces h.1
  ]

  pub space-formed : (n : ℕ) → IsSpaceName (space_name def n)
  space-formed n = formed-at def.spaces spaces-formed n

  pub space-rightly : (n : ℕ) (k : Space) → slice_get def.spaces n ≡ Some k → names_rightly version k.name ≡ true
  space-rightly n k at = elim names [
    | inl h ↦
        subst (λ v. names_rightly v k.name ≡ true) (sym (sym same ∙ h.0)) (subst (λ m. names_rightly 1 m ≡ true) (sym (each_at IsBare def.spaces h.2 n k at)) refl)
    | inr h ↦
        subst (λ v. names_rightly v k.name ≡ true) (sym (sym same ∙ h.0)) (own-named k.name (each_at IsOwned def.spaces h.1 n k at))
  ]

  any-named : (is : List Item) → ((n : ℕ) → space_name def n ≡ []) → list_any names_space (map (item_written def) is) ≡ false
  any-named [] none = refl
  any-named (made.Refers n ∷ is) none = ap (λ b. b || list_any names_space (map (item_written def) is)) (ap is_named (none n)) ∙ any-named is none
  any-named (made.Declares n ∷ is) none = ap (λ b. b || list_any names_space (map (item_written def) is)) (ap is_named (none n)) ∙ any-named is none
  any-named (_ ∷ is) none = any-named is none

  pub items-rightly : (is : List Item) → ((version == 2) || not (list_any names_space (map (item_written def) is))) ≡ true
  items-rightly is = elim names [
    | inl h ↦
        subst (λ v. ((v == 2) || not (list_any names_space (map (item_written def) is))) ≡ true) (sym (sym same ∙ h.0)) (ap not (any-named is (bare-at def.spaces h.2)))
    | inr h ↦ subst (λ v. ((v == 2) || not (list_any names_space (map (item_written def) is))) ≡ true) (sym (sym same ∙ h.0)) refl
  ]
