-- The items of an operator as they are written: their parts, their columns and what they name.
use Rattle.std.proofs.Common.{◌≡◌, ◌⊎◌, inl, inr, false, IsTrue, is_some, Some, ℕ, ◌+◌, ◌<◌, List, [], ◌∷◌, length, map, refl, ap, ap₂, sym, ◌∙◌, subst, arith}
use Rattle.psg_terms.proofs.Lists.{each_at}
use Rattle.std.specs.List.{AllByRecursion, list_any}
use Rattle.psg_grammar.specs.declared.types.Item.{Item}
use Rattle.psg_grammar.specs.declared.types.Item.TheVariants as made
use Rattle.psg_grammar.specs.declared.types.Space.{Space}
use Rattle.psg_grammar.specs.declared.types.Definition.{Definition}
use Rattle.psg_grammar.specs.Lookups.{part_items}
use Rattle.psg_terms.specs.Names.{Name}
use Rattle.psg_grammar.specs.Sound.{IsSound, IsItem, AreColumns, HasSpaceSort}
use Rattle.psg_deflines.specs.declared.lines.LineItem.{LineItem}
use Rattle.psg_deflines.specs.declared.lines.LineItem.TheVariants as items
use Rattle.psg_deflines.specs.declared.lines.Line.{Line}
use Rattle.psg_defcheck.specs.Scopes.{Place, entity_sort, space_sort, kind_place, value_place, entity_place}
use Rattle.psg_defcheck.specs.Meanings.{KnowsItem, KnowsSpace, has_part, has_column, is_name_item, count_of, PartPlace, for_tree, for_name, for_number, for_text, part_places, column_places}
use Rattle.psg_defread.specs.WrittenLines.{kind_name, space_name, sort_name, item_written}
use Rattle.psg_defread.proofs.PassedDeclared.{Declares, place_of, kind-known, value-placed, entity-placed}

pub parts-counted : (file : List Line) (ws : List LineItem) → count_of has_part ws ≡ length (part_places file ws)
parts-counted file [] = refl
parts-counted file (items.Slot k ∷ ws) = omega (arith, parts-counted file ws)
parts-counted file (items.Refers spot ∷ ws) = omega (arith, parts-counted file ws)
parts-counted file (items.Declares spot ∷ ws) = omega (arith, parts-counted file ws)
parts-counted file (items.Number ∷ ws) = omega (arith, parts-counted file ws)
parts-counted file (items.Text ∷ ws) = omega (arith, parts-counted file ws)
parts-counted file (w ∷ ws) = parts-counted file ws

module _ (def : Definition) (file : List Line) where
  abbrev pub item_places : List Item → List PartPlace
  item_places is = part_places file (map (item_written def) is)

  pub parts-same : (is : List Item) → item_places (part_items is) ≡ item_places is
  parts-same [] = refl
  parts-same (made.Slot k ∷ is) =
      ap (λ (ps : List PartPlace). for_tree (kind_place file (kind_name def k)) ∷ ps) (parts-same is)
  parts-same (made.Refers s ∷ is) = ap (λ (ps : List PartPlace). for_name ∷ ps) (parts-same is)
  parts-same (made.Declares s ∷ is) = ap (λ (ps : List PartPlace). for_name ∷ ps) (parts-same is)
  parts-same (made.Number ∷ is) = ap (λ (ps : List PartPlace). for_number ∷ ps) (parts-same is)
  parts-same (made.Text ∷ is) = ap (λ (ps : List PartPlace). for_text ∷ ps) (parts-same is)
  parts-same (i ∷ is) = parts-same is

pub all-parts : (def : Definition) (is : List Item) → AllByRecursion (IsItem def) is
    → AllByRecursion (IsItem def) (part_items is)
all-parts def [] h = tt
all-parts def (made.Slot k ∷ is) h = (h.0, all-parts def is h.1)
all-parts def (made.Refers s ∷ is) h = (h.0, all-parts def is h.1)
all-parts def (made.Declares s ∷ is) h = (h.0, all-parts def is h.1)
all-parts def (made.Number ∷ is) h = (h.0, all-parts def is h.1)
all-parts def (made.Text ∷ is) h = (h.0, all-parts def is h.1)
all-parts def (i ∷ is) h = all-parts def is h.1

module _ (def : Definition) (sound : IsSound def) (file : List Line) (declares : Declares def file) where
  pub space-known : (n s : ℕ) → HasSpaceSort def n s → KnowsSpace file (space_name def n)
  space-known n s h = by_name (space_name def n) (declares.space_is n s h)
    where
      by_name : (m : Name) → space_sort file m ≡ Some (sort_name def s) → KnowsSpace file m
      by_name [] e = tt
      by_name (c ∷ cs) e = ap is_some e

  pub items-known : (is : List Item) → AllByRecursion (IsItem def) is
      → AllByRecursion (KnowsItem file) (map (item_written def) is)
  items-known [] h = tt
  items-known (made.Slot k ∷ is) h = (kind-known def sound file declares k h.0.0 h.0.1, items-known is h.1)
  items-known (made.Refers n ∷ is) h = (space-known n h.0.0 h.0.1, items-known is h.1)
  items-known (made.Declares n ∷ is) h = (space-known n h.0.0 h.0.1, items-known is h.1)
  items-known (i ∷ is) h = (tt, items-known is h.1)

  -- a name position has a space
  pub items-entity : (is : List Item) → AllByRecursion (IsItem def) is
      → (list_any is_name_item (map (item_written def) is) ≡ false) ⊎ IsTrue (is_some (entity_sort file))
  items-entity [] h = inl refl
  items-entity (made.Refers n ∷ is) h = inr (declares.entity_there n h.0.0 h.0.1)
  items-entity (made.Declares n ∷ is) h = inr (declares.entity_there n h.0.0 h.0.1)
  items-entity (i ∷ is) h = items-entity is h.1

  -- ---- columns

  abbrev column_places_of : List Item → List Place
  column_places_of is = column_places file (map (item_written def) is)

  pub space-within : (n s : ℕ) → HasSpaceSort def n s → s < length def.signature.sorts
  space-within n s (k, at, e) =
      subst (λ m. m < length def.signature.sorts) e
      (each_at (λ (x : Space). x.sort.0 < length def.signature.sorts) def.spaces sound.space_sorts n k at)

  more-columns : (p : Place) (ps : List Place) (s : ℕ) (more columns : List ℕ) → columns ≡ s ∷ more → p ≡ place_of def s
      → ps ≡ map (place_of def) more → p ∷ ps ≡ map (place_of def) columns
  more-columns p ps s more columns e here rest =
      ap₂ (λ (x : Place) (xs : List Place). x ∷ xs) here rest ∙ sym (ap (map (place_of def)) e)

  -- the places of the columns are of their sorts
  pub columns-placed : (is : List Item) (columns : List ℕ) → AreColumns def (part_items is) columns
      → column_places file (map (item_written def) is) ≡ map (place_of def) columns
  columns-placed [] columns e = sym (ap (map (place_of def)) e)
  columns-placed (made.Slot k ∷ is) columns (s, more, e, h, hs) =
      more-columns (value_place file (kind_name def k)) (column_places_of is) s more columns e
      (value-placed def sound file declares k s h) (columns-placed is more hs)
  columns-placed (made.Refers n ∷ is) columns (s, more, e, h, hs) =
      more-columns (entity_place file (space_name def n)) (column_places_of is) s more columns e
      (entity-placed def sound file declares n s (space-within n s h) h) (columns-placed is more hs)
  columns-placed (made.Declares n ∷ is) columns (s, more, e, h, hs) =
      more-columns (entity_place file (space_name def n)) (column_places_of is) s more columns e
      (entity-placed def sound file declares n s (space-within n s h) h) (columns-placed is more hs)
  columns-placed (i ∷ is) columns h = columns-placed is columns h

  abbrev columns_in : List Item → ℕ
  columns_in is = count_of has_column (map (item_written def) is)

  counted-more : (k s : ℕ) (more columns : List ℕ) → columns ≡ s ∷ more → k ≡ length more → k + 1 ≡ length columns
  counted-more k s more columns e h = omega (arith, h, ap length e)

  pub columns-counted : (is : List Item) (columns : List ℕ) → AreColumns def (part_items is) columns
      → count_of has_column (map (item_written def) is) ≡ length columns
  columns-counted [] columns e = sym (ap length e)
  columns-counted (made.Slot k ∷ is) columns (s, more, e, h, hs) =
      counted-more (columns_in is) s more columns e (columns-counted is more hs)
  columns-counted (made.Refers n ∷ is) columns (s, more, e, h, hs) =
      counted-more (columns_in is) s more columns e (columns-counted is more hs)
  columns-counted (made.Declares n ∷ is) columns (s, more, e, h, hs) =
      counted-more (columns_in is) s more columns e (columns-counted is more hs)
  columns-counted (i ∷ is) columns h = columns-counted is columns h
