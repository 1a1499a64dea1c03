-- The phyla that can be reached from a phylum, one after the other.
use Rattle.std.specs.Prelude.{ℕ, ◌≡◌, ◌==◌, ◌||◌, Bool, true, false, List, [], ◌∷◌, Option, None, Some, slice_get}
use Rattle.std.specs.List.{AllByRecursion}
use Rattle.psg_grammar.specs.declared.types.Kind.{Kind}
use Rattle.psg_grammar.specs.declared.types.Kind.TheVariants as kinds
use Rattle.psg_grammar.specs.declared.types.Item.{Item}
use Rattle.psg_grammar.specs.declared.types.Item.TheVariants as items
use Rattle.psg_grammar.specs.declared.types.ListKind.{ListKind}
use Rattle.psg_grammar.specs.declared.types.Operator.{Operator}
use Rattle.psg_grammar.specs.declared.types.Definition.{Definition}
use Rattle.psg_grammar.specs.Declaring.{Declares, AnyDeclares}
use Rattle.psg_tree.specs.declared.reach.PhylumChain.{PhylumChain, Only, More'}
use Rattle.psg_tree.specs.declared.reach.Step.{Step}
use Rattle.psg_tree.specs.declared.reach.Step.TheVariants as next

-- whether the number is in the list
abbrev pub is_in : ℕ → List ℕ → Bool
is_in p [] = false
is_in p (q ∷ qs) = (q == p) || is_in p qs

-- the phyla that are found, the last one first
abbrev pub chain_phyla : PhylumChain → List ℕ
chain_phyla (Only p) = p ∷ []
chain_phyla (More' p pointer before) = p ∷ chain_phyla before

-- the phylum of the elements of a list that is there
abbrev pub element_of : Option ListKind → Option ℕ
element_of None = None
element_of (Some l) = Some l.element

-- the phylum whose trees are at places of the kind
abbrev pub phylum_of : Definition → Kind → Option ℕ
phylum_of def (kinds.Phylum p) = Some p
phylum_of def (kinds.List l) = element_of (slice_get def.lists l)

-- some phylum of these declares a name, or this one does
abbrev pub AnyDeclare : Definition → List ℕ → Type 0
AnyDeclare def found = (s q : ℕ) × (is_in q found ≡ true) × Declares def s (kinds.Phylum q)

-- the phylum declares in some space
abbrev pub PhylumDeclares : Definition → ℕ → Type 0
PhylumDeclares def p = (s : ℕ) × Declares def s (kinds.Phylum p)

module _ (def : Definition) (found : List ℕ) where
  -- no place is reached that is not found yet
  abbrev pub IsFoundAt : Option ℕ → Type 0
  IsFoundAt None = Unit {0}
  IsFoundAt (Some p) = is_in p found ≡ true

  abbrev pub IsClosedItem : Item → Type 0
  IsClosedItem (items.Declares s) = ⊥
  IsClosedItem (items.Slot k) = IsFoundAt (phylum_of def k)
  IsClosedItem _ = Unit {0}

  abbrev pub IsClosedOperator : Operator → Type 0
  IsClosedOperator o = o.scope ≡ false → is_in o.phylum found ≡ true → AllByRecursion IsClosedItem o.items

  abbrev pub IsKindStep : Kind → Step → Type 0
  IsKindStep k next.Declares = ⊥
  IsKindStep k (next.To p) = (phylum_of def k ≡ Some p) × (is_in p found ≡ false)
  IsKindStep k next.Closed = IsFoundAt (phylum_of def k)

  abbrev pub IsItemStep : Item → Step → Type 0
  IsItemStep i next.Declares = (s : ℕ) × (i ≡ items.Declares s)
  IsItemStep i (next.To p) = (k : Kind) × (i ≡ items.Slot k) × (phylum_of def k ≡ Some p) × (is_in p found ≡ false)
  IsItemStep i next.Closed = IsClosedItem i

  -- what the phylum declares the items declare
  abbrev pub IsItemsStep : List Item → Step → Type 0
  IsItemsStep is next.Declares = (s : ℕ) × AnyDeclares def s is
  IsItemsStep is (next.To p) = (is_in p found ≡ false)
      × ((s : ℕ) → Declares def s (kinds.Phylum p) → AnyDeclares def s is)
  IsItemsStep is next.Closed = AllByRecursion IsClosedItem is

  abbrev pub IsOperatorsStep : List Operator → Step → Type 0
  IsOperatorsStep os next.Declares = (o : ℕ) × (op : Operator) × (slice_get os o ≡ Some op) × (op.scope ≡ false)
      × (is_in op.phylum found ≡ true) × (s : ℕ) × AnyDeclares def s op.items
  IsOperatorsStep os (next.To p) =
      (is_in p found ≡ false) × (o : ℕ) × (op : Operator) × (slice_get os o ≡ Some op) × (op.scope ≡ false)
      × (is_in op.phylum found ≡ true)
      × ((s : ℕ) → Declares def s (kinds.Phylum p) → AnyDeclares def s op.items)
  IsOperatorsStep os next.Closed = AllByRecursion IsClosedOperator os
