-- The phyla and the spaces of a file's lines, and the sorts of all kinds.
use Rattle.std.proofs.Common.{◌≡◌, ℕ, true, false, inl, inr, ◌≤◌, List, [], ◌∷◌, length, map, refl, ap, ap₂, sym, ◌∙◌, subst, arith}
use Rattle.std.specs.List.{AllByRecursion}
use Rattle.std.proofs.lemmas.Option.{slice_get_within}
use Rattle.std.proofs.lemmas.Bool.{false≢true}
use Rattle.psg_terms.specs.Names.{Name, has_twice}
use Rattle.psg_terms.specs.declared.sorts.SortId.{SortId}
use Rattle.psg_grammar.specs.declared.types.Phylum.{Phylum}
use Rattle.psg_grammar.specs.declared.types.ListKind.{ListKind}
use Rattle.psg_grammar.specs.declared.types.Space.{Space}
use Rattle.psg_grammar.specs.declared.types.Definition.{Definition}
use Rattle.psg_grammar.specs.Sound.{IsKindName, IsOwnName, IsPhylum, AreSpaceNames}
use Rattle.psg_deflines.specs.Forms.{HasForm}
use Rattle.psg_deflines.specs.declared.lines.Line.{Line}
use Rattle.psg_deflines.specs.declared.lines.Line.TheVariants as lines
use Rattle.psg_deflines.specs.Versions.{IsVersion, is_of}
use Rattle.psg_defcheck.specs.Scopes.{spaces, space_names}
use Rattle.psg_defnumber.specs.Numbers.{IsSort, ArePhyla, AreLists, AreSpaces, IsNumbered}
use Rattle.psg_defnumber.proofs.SpecimenLaws.{AreInside, IsInside, HasPhylumInside, HasListInside, HasSpaceInside}
use Rattle.psg_defnumber.proofs.NamedLaws.{spaces-names}

-- ---- names of spaces

abbrev space_name : Space → Name
space_name s = s.name

pub names-declared : (file : List Line) → map (λ (d : Name × Name). d.0) (spaces file) ≡ space_names file
names-declared [] = refl
names-declared (lines.Space name sort ∷ rest) = ap (λ ns. name ∷ ns) (names-declared rest)
names-declared (_ ∷ rest) = names-declared rest

few-declared : (file : List Line) → length (spaces file) ≤ length file
few-declared [] = omega arith
few-declared (lines.Space name sort ∷ rest) = omega (arith, few-declared rest)
few-declared (_ ∷ rest) = omega (arith, few-declared rest)

map-length : (ss : List Space) → length (map space_name ss) ≡ length ss
map-length [] = refl
map-length (s ∷ ss) = omega (arith, map-length ss)

by-names : (P : Name → Type 0) (ss : List Space) → AllByRecursion P (map space_name ss) → AllByRecursion (λ (s : Space). P s.name) ss
by-names P [] h = tt
by-names P (s ∷ ss) h = (h.0, by-names P ss h.1)

unnamed : (file : List Line) → AllByRecursion (λ line. is_of 1 line ≡ true) file → AllByRecursion (λ n. n ≡ []) (space_names file)
unnamed [] h = tt
unnamed (lines.Space [] sort ∷ rest) h = (refl, unnamed rest h.1)
unnamed (lines.Space (c ∷ cs) sort ∷ rest) h = absurd (false≢true h.0)
unnamed (_ ∷ rest) h = unnamed rest h.1

named : (file : List Line) → AllByRecursion (λ line. is_of 2 line ≡ true) file → AllByRecursion HasForm file → AllByRecursion IsOwnName (space_names file)
named [] h f = tt
named (lines.Space [] sort ∷ rest) h f = absurd (false≢true h.0)
named (lines.Space (c ∷ cs) sort ∷ rest) h f = (f.0.0, named rest h.1 f.1)
named (_ ∷ rest) h f = named rest h.1 f.1

few-unnamed : (ns : List Name) → AllByRecursion (λ n. n ≡ []) ns → has_twice ns ≡ false → length ns ≤ 1
few-unnamed [] h k = omega arith
few-unnamed (n ∷ []) h k = omega arith
few-unnamed (n ∷ m ∷ rest) h k = absurd (false≢true (sym k ∙ ap₂ (λ x y. has_twice (x ∷ y ∷ rest)) h.0 h.1.0))

module _ (def : Definition) where
  pub sort-inside : (n : Name) (s : SortId) → IsSort def n s → IsInside def s.0
  sort-inside n s h = slice_get_within def.signature.sorts s.0 n h

  -- ---- phyla

  pub phyla-sound : (file : List Line) (all : List Phylum) → AllByRecursion HasForm file → ArePhyla def file all
      → AllByRecursion (IsPhylum def) all
  phyla-sound [] all form e = subst (AllByRecursion (IsPhylum def)) (sym e) tt
  phyla-sound (lines.Phylum name sort bracketed ∷ behind) all form (p, rest, e, h, hs) =
      subst (AllByRecursion (IsPhylum def)) (sym e) (
        record { name = subst IsKindName (sym h.named) form.0.0; sort = sort-inside sort p.sort h.of_sort },
        phyla-sound behind rest form.1 hs,
      )
  phyla-sound (line ∷ behind) all form h = phyla-sound behind all form.1 h

  pub few-phyla : (file : List Line) (all : List Phylum) → ArePhyla def file all → length all ≤ length file
  few-phyla [] all e = omega (arith, ap length e)
  few-phyla (lines.Phylum name sort bracketed ∷ behind) all (p, rest, e, h, hs) =
      omega (arith, ap length e, few-phyla behind rest hs)
  few-phyla (line ∷ behind) all h = omega (arith, few-phyla behind all h)

  phyla-inside : (file : List Line) (all : List Phylum) → ArePhyla def file all
      → AllByRecursion (HasPhylumInside def) all
  phyla-inside [] all e = subst (AllByRecursion (HasPhylumInside def)) (sym e) tt
  phyla-inside (lines.Phylum name sort bracketed ∷ behind) all (p, rest, e, h, hs) =
      subst (AllByRecursion (HasPhylumInside def)) (sym e) (
        sort-inside sort p.sort h.of_sort,
        phyla-inside behind rest hs,
      )
  phyla-inside (line ∷ behind) all h = phyla-inside behind all h

  lists-inside : (file behind : List Line) (all : List ListKind) → AreLists def file behind all
      → AllByRecursion (HasListInside def) all
  lists-inside file [] all e = subst (AllByRecursion (HasListInside def)) (sym e) tt
  lists-inside file (lines.List name sort elements separator on_lines unfinished ∷ behind) all (l, rest, e, h, hs) =
      subst (AllByRecursion (HasListInside def)) (sym e) (
        sort-inside sort l.sort h.of_sort,
        lists-inside file behind rest hs,
      )
  lists-inside file (line ∷ behind) all h = lists-inside file behind all h

  -- ---- spaces

  spaces-length : (ds : List (Name × Name)) (all : List Space) → AreSpaces def ds all → length all ≡ length ds
  spaces-length [] all e = ap length e
  spaces-length (d ∷ ds) all (s, rest, e, name, of, h) = omega (arith, ap length e, spaces-length ds rest h)

  pub spaces-inside : (ds : List (Name × Name)) (all : List Space) → AreSpaces def ds all
      → AllByRecursion (HasSpaceInside def) all
  spaces-inside [] all e = subst (AllByRecursion (HasSpaceInside def)) (sym e) tt
  spaces-inside (d ∷ ds) all (s, rest, e, name, of, h) =
      subst (AllByRecursion (HasSpaceInside def)) (sym e) (sort-inside d.1 s.sort of, spaces-inside ds rest h)

  module _ {version : ℕ} (file : List Line) (numbered : IsNumbered version file def) where
    pub few-spaces : length def.spaces ≤ length file
    few-spaces = omega (arith, spaces-length (spaces file) def.spaces numbered.spaces, few-declared file)

    pub names-are : map space_name def.spaces ≡ space_names file
    names-are = spaces-names def file def.spaces numbered.spaces

    -- version 1 has one space at most, without a name, and version 2 names each
    pub space-names : IsVersion version → AllByRecursion (λ line. is_of version line ≡ true) file → AllByRecursion HasForm file → AreSpaceNames def.version def.spaces
    space-names (inl e) right form =
        let none = unnamed file (subst (λ v. AllByRecursion (λ line. is_of v line ≡ true) file) e right) in
        let few = few-unnamed (space_names file) none numbered.spaces_once in
        inl (numbered.same_version ∙ e, omega (arith, few, ap length names-are, map-length def.spaces), by-names (λ n. n ≡ []) def.spaces (subst (AllByRecursion (λ n. n ≡ [])) (sym names-are) none))
    space-names (inr e) right form =
        let own = named file (subst (λ v. AllByRecursion (λ line. is_of v line ≡ true) file) e right) form in
        inr (numbered.same_version ∙ e, by-names IsOwnName def.spaces (subst (AllByRecursion IsOwnName) (sym names-are) own), ap has_twice names-are ∙ numbered.spaces_once)

    pub are-inside : AreInside def
    are-inside = record {
      phyla = phyla-inside file def.phyla numbered.phyla;
      lists = lists-inside file file def.lists numbered.lists;
      spaces = spaces-inside (spaces file) def.spaces numbered.spaces;
    }
