-- The tree of a specimen by its parts and elements, and the trees of a tree that fits.
use mathlib.Core.Former.{Count}
use Rattle.std.proofs.Common.{◌≡◌, inl, inr, ℕ, List, [], ◌∷◌, Option, refl, ap, ◌∙◌, subst}
use Rattle.std.specs.List.{AllByRecursion}
use Rattle.psg_grammar.specs.declared.types.Kind.{Kind}
use Rattle.psg_grammar.specs.declared.types.Kind.TheVariants as kinds
use Rattle.psg_grammar.specs.declared.types.Item.{Item}
use Rattle.psg_grammar.specs.declared.types.Item.TheVariants as items
use Rattle.psg_grammar.specs.declared.types.SpecimenHole.{SpecimenHole}
use Rattle.psg_grammar.specs.declared.types.Specimen.{Specimen, Op, Op', List as ListOf, List', Row_of-Specimen, end_of-Specimen, more_of-Specimen, Row_of-SpecimenPart, end_of-SpecimenPart, more_of-SpecimenPart, items-the_row-SpecimenPart, items_hidden-the_row-SpecimenPart-0, items-the_row-Specimen, items_hidden-the_row-Specimen-1}
use Rattle.psg_grammar.specs.declared.types.SpecimenPart.{SpecimenPart, Sub, Name, Number, Text}
use Rattle.psg_grammar.specs.declared.types.Definition.{Definition}
use Rattle.psg_grammar.specs.Fragments.{Fragment, cell, operator}
use Rattle.psg_grammar.specs.Placed.{FitsPlaces}
use Rattle.psg_grammar.specs.Specimens.{tree_of, part_of, with_row, list_of, end_tree}
use Rattle.psg_specimen.specs.Patterns.{parts_on, cells_on, IsSomeTree, IsTreePart}

part_row : (n : Count) (f : Fragment) (row : Row_of-SpecimenPart n) → with_row f row ≡ parts_on f (items-the_row-SpecimenPart n row)
part_row n f end_of-SpecimenPart = refl
part_row n f (more_of-SpecimenPart p rest) = part_row _ (part_of p f) rest

abbrev parts_row : Specimen → (n : Count) × Row_of-SpecimenPart n
parts_row (Op' o shape row) = (_, row)
parts_row _ = (_, end_of-SpecimenPart)

pub op_tree : (o : ℕ) (ps : List SpecimenPart) → tree_of (Op o ps) ≡ parts_on (operator o) ps
op_tree o ps = let row = parts_row (Op o ps) in part_row row.0 (operator o) row.1 ∙ ap (parts_on (operator o)) (items_hidden-the_row-SpecimenPart-0 ps)

element_row : (n : Count) (l : ℕ) (end : Fragment) (row : Row_of-Specimen n) → list_of l end row ≡ cells_on l end (items-the_row-Specimen n row)
element_row n l end end_of-Specimen = refl
element_row n l end (more_of-Specimen s rest) = ap (λ x. cell l (tree_of s) x) (element_row _ l end rest)

abbrev elements_row : Specimen → (n : Count) × Row_of-Specimen n
elements_row (List' l shape row end) = (_, row)
elements_row _ = (_, end_of-Specimen)

pub list_tree : (l : ℕ) (es : List Specimen) (rest : Option SpecimenHole) → tree_of (ListOf l es rest) ≡ cells_on l (end_tree l rest) es
list_tree l es rest = let row = elements_row (ListOf l es rest) in element_row row.0 l (end_tree l rest) row.1 ∙ ap (cells_on l (end_tree l rest)) (items_hidden-the_row-Specimen-1 es)

module _ (def : Definition) where
  abbrev pub Fits : Fragment → List Item → Kind → List Kind → List Kind → Type 0
  Fits f more kind places left = FitsPlaces def ⊥ f more kind places left

  -- the tree fits, with some parts still to come
  pub record HasFit (f : Fragment) : Type 0 where
    pub more : List Item
    pub kind : Kind
    pub places : List Kind
    pub left : List Kind
    pub fits : Fits f more kind places left

  one_part : (p : SpecimenPart) (f : Fragment) → HasFit (part_of p f) → HasFit f × IsTreePart def p
  one_part (Sub s) f h =
      let (k, mid, hf, ht) = h.fits in
      (record { more = items.Slot k ∷ h.more; kind = h.kind; places = h.places; left = mid; fits = hf }, (k, (mid, h.left, ht)))
  one_part (Name n) f h = elim h.fits [
    | inl hf ↦ (record { more = items.Refers hf.0 ∷ h.more; kind = h.kind; places = h.places; left = h.left; fits = hf.1 }, tt)
    | inr hf ↦ (record { more = items.Declares hf.0 ∷ h.more; kind = h.kind; places = h.places; left = h.left; fits = hf.1 }, tt)
  ]
  one_part (Number n) f h = (record { more = items.Number ∷ h.more; kind = h.kind; places = h.places; left = h.left; fits = h.fits.0 }, tt)
  one_part (Text t) f h = (record { more = items.Text ∷ h.more; kind = h.kind; places = h.places; left = h.left; fits = h.fits.0 }, tt)

  all_parts : (ps : List SpecimenPart) (f : Fragment) → HasFit (parts_on f ps) → HasFit f × AllByRecursion (IsTreePart def) ps
  all_parts [] f h = (h, tt)
  all_parts (p ∷ ps) f h =
      let (front, rest) = all_parts ps (part_of p f) h in
      let (own, part) = one_part p f front in
      (own, (part, rest))

  pub parts_fit : (o : ℕ) (ps : List SpecimenPart) → IsSomeTree def (tree_of (Op o ps)) → AllByRecursion (IsTreePart def) ps
  parts_fit o ps (kind, (places, left, h)) =
      (all_parts ps (operator o) (record { more = []; kind = kind; places = places; left = left; fits = subst (λ f. Fits f [] kind places left) (op_tree o ps) h })).1

  all_elements : (l : ℕ) (end : Fragment) (ss : List Specimen) → IsSomeTree def (cells_on l end ss) → AllByRecursion (λ s. IsSomeTree def (tree_of s)) ss
  all_elements l end [] h = tt
  all_elements l end (s ∷ ss) (kind, (places, left, (none, is, mid, k, at, he, hr))) =
      ((kinds.Phylum k.element, (places, mid, he)), all_elements l end ss (kinds.List l, (mid, left, hr)))

  pub elements_fit : (l : ℕ) (es : List Specimen) (rest : Option SpecimenHole) → IsSomeTree def (tree_of (ListOf l es rest)) → AllByRecursion (λ s. IsSomeTree def (tree_of s)) es
  elements_fit l es rest h = all_elements l (end_tree l rest) es (subst (IsSomeTree def) (list_tree l es rest) h)
