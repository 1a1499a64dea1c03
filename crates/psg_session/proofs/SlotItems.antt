-- Slots and name positions among the items of an operator.
use Rattle.std.proofs.Common.{◌≡◌, List, [], ◌∷◌, ◌++◌, refl, ap}
use Rattle.psg_grammar.specs.declared.types.Item.{Item}
use Rattle.psg_grammar.specs.declared.types.Item.TheVariants as items
use Rattle.psg_grammar.specs.declared.types.Definition.{Definition}
use Rattle.psg_grammar.specs.Lookups.{part_items}
use Rattle.psg_eval.specs.Summaries.{are_names, slot_kinds}

module _ (def : Definition) where
  pub slots-append : (xs ys : List Item) → slot_kinds def (xs ++ ys) ≡ slot_kinds def xs ++ slot_kinds def ys
  slots-append [] ys = refl
  slots-append (items.Slot k ∷ xs) ys = ap (λ l. k ∷ l) (slots-append xs ys)
  slots-append (_ ∷ xs) ys = slots-append xs ys

  pub slots-parts : (xs : List Item) → slot_kinds def (part_items xs) ≡ slot_kinds def xs
  slots-parts [] = refl
  slots-parts (items.Slot k ∷ xs) = ap (λ l. k ∷ l) (slots-parts xs)
  slots-parts (_ ∷ xs) = slots-parts xs

  pub names-append : (xs ys : List Item) → are_names def (xs ++ ys) ≡ are_names def xs ++ are_names def ys
  names-append [] ys = refl
  names-append (items.Refers s ∷ xs) ys = ap (λ l. items.Refers s ∷ l) (names-append xs ys)
  names-append (items.Declares s ∷ xs) ys = ap (λ l. items.Declares s ∷ l) (names-append xs ys)
  names-append (_ ∷ xs) ys = names-append xs ys

  pub names-parts : (xs : List Item) → are_names def (part_items xs) ≡ are_names def xs
  names-parts [] = refl
  names-parts (items.Refers s ∷ xs) = ap (λ l. items.Refers s ∷ l) (names-parts xs)
  names-parts (items.Declares s ∷ xs) = ap (λ l. items.Declares s ∷ l) (names-parts xs)
  names-parts (_ ∷ xs) = names-parts xs
