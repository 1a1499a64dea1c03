-- How the sorts of a line's variables are found.
use Rattle.std.specs.Prelude.{ℕ, ◌≡◌, ◌↔◌, Bool, true, false, List, [], ◌∷◌, map, Option, Some, None, MatchOption}
use Rattle.std.specs.Option.{option_map}
use Rattle.std.specs.Borrow.{Bor}
use Rattle.psg_terms.specs.Names.{Name}
use Rattle.psg_deflines.specs.declared.lines.Line.{Line}
use Rattle.psg_deflines.specs.declared.trees.LinePlace.{LinePlace}
use Rattle.psg_deflines.specs.declared.trees.LinePart.{LinePart}
use Rattle.psg_deflines.specs.declared.trees.LinePart.TheVariants as parts
use Rattle.psg_defcheck.specs.Scopes.{Place, value_place}
use Rattle.psg_defcheck.specs.Meanings as meanings
use Rattle.psg_defcheck.specs.Tables.{Table, found, name_told}
use Rattle.psg_defcheck.specs.declared.places.PartPlace.{PartPlace}
use Rattle.psg_defcheck.specs.declared.places.PartPlace.TheVariants as places

-- the place that the program's place is
abbrev pub place_told : Option (Bor (List ℕ)) → Place
place_told p = option_map name_told p

-- the places, one by one
abbrev pub places_told : List (Option (Bor (List ℕ))) → List Place
places_told ps = map place_told ps

-- the place of a part that the program's place is
abbrev pub part_place_told : PartPlace → meanings.PartPlace
part_place_told (places.Tree kind) = meanings.for_tree (place_told kind)
part_place_told places.Name = meanings.for_name
part_place_told places.Number = meanings.for_number
part_place_told places.Text = meanings.for_text

-- the places of parts, one by one
abbrev pub part_places_told : List PartPlace → List meanings.PartPlace
part_places_told ps = map part_place_told ps

-- these sorts of the variables are those of the table, where it has one
abbrev pub Agrees : Table (Bor (List ℕ)) → (Name → Name) → Type 0
Agrees m sorts = (n : Name) → MatchOption (found m n) (Unit {0}) (λ s. sorts n ≡ s.now)

-- What is wanted leaves, of the sorts that agree with the old table, those that agree with the new one, or none.
abbrev pub Narrows : ((Name → Name) → Type 0) → Table (Bor (List ℕ)) → Table (Bor (List ℕ)) → Bool → Type 0
Narrows Wanted old new true = (sorts : Name → Name) → Agrees new sorts ↔ (Agrees old sorts × Wanted sorts)
Narrows Wanted old new false = (sorts : Name → Name) → Agrees old sorts → Wanted sorts → ⊥

module _ (file : List Line) (sorts : Name → Name) where
  -- the part may be at the place
  abbrev pub PartStands : meanings.PartPlace → LinePart → Type 0
  PartStands (meanings.for_tree kind) (parts.Tree t) = meanings.SortsTree file sorts [] kind t
  PartStands meanings.for_name (parts.Name n) = Unit {0}
  PartStands meanings.for_number (parts.Number d) = Unit {0}
  PartStands meanings.for_text (parts.Text w) = Unit {0}
  PartStands _ _ = ⊥

  abbrev pub PartsStand : List meanings.PartPlace → List LinePart → Type 0
  PartsStand [] [] = Unit {0}
  PartsStand [] (p ∷ ps) = ⊥
  PartsStand (at ∷ places) [] = ⊥
  PartsStand (at ∷ places) (p ∷ ps) = PartStands at p × PartsStand places ps

  -- the rest of a list may be at the place
  abbrev pub EndStands : Place → Option LinePlace → Type 0
  EndStands at None = Unit {0}
  EndStands at (Some p) = meanings.MayStand at p.kind
      × meanings.SortsTerm file sorts [] (value_place file p.kind) p.term
