-- Which phyla and lists can declare a name of a space in the region in which they are.
use Rattle.std.specs.Prelude.{ℕ, ◌≡◌, zero, suc, ◌+◌, ◌==◌, ◌&&◌, ◌||◌, not, Bool, false, List, [], ◌∷◌, length, Option}
use Rattle.std.specs.Prelude.{Some, None, slice_get}
use Rattle.psg_grammar.specs.declared.types.Kind.{Kind}
use Rattle.psg_grammar.specs.declared.types.Kind.TheVariants as kinds
use Rattle.psg_grammar.specs.declared.types.Item.{Item}
use Rattle.psg_grammar.specs.declared.types.Item.TheVariants as items
use Rattle.psg_grammar.specs.declared.types.Operator.{Operator}
use Rattle.psg_grammar.specs.declared.types.ListKind.{ListKind}
use Rattle.psg_grammar.specs.declared.types.Definition.{Definition}

-- A declaring position can be reached without passing a scope operator.
mutual
  pub data Declares (def : Definition) (space : ℕ) : Kind → Type 0 where
    by_list : {list : ℕ} (kind : ListKind) → slice_get def.lists list ≡ Some kind
        → Declares def space (kinds.Phylum kind.element) → Declares def space (kinds.List list)
    by_operator : {phylum : ℕ} (o : ℕ) (operator : Operator) → slice_get def.operators o ≡ Some operator
        → operator.phylum ≡ phylum → operator.scope ≡ false → AnyDeclares def space operator.items
        → Declares def space (kinds.Phylum phylum)

  pub data AnyDeclares (def : Definition) (space : ℕ) : List Item → Type 0 where
    here : {rest : List Item} → AnyDeclares def space (items.Declares space ∷ rest)
    slot : {kind : Kind} {rest : List Item} → Declares def space kind → AnyDeclares def space (items.Slot kind ∷ rest)
    later : {item : Item} {rest : List Item} → AnyDeclares def space rest → AnyDeclares def space (item ∷ rest)

-- the phylum of the elements of a list that is there
abbrev pub element_of : Option ListKind → Option ℕ
element_of None = None
element_of (Some l) = Some l.element

-- whether an item of the list declares, or is a slot that does by the test
abbrev pub any_item : ℕ → (Kind → Bool) → List Item → Bool
any_item space test [] = false
any_item space test (items.Declares s ∷ rest) = (s == space) || any_item space test rest
any_item space test (items.Slot k ∷ rest) = test k || any_item space test rest
any_item space test (_ ∷ rest) = any_item space test rest

-- whether some operator of the phylum, which is no scope operator, has an item that declares by the test
abbrev pub any_operator : ℕ → (Kind → Bool) → ℕ → List Operator → Bool
any_operator space test p [] = false
any_operator space test p (o ∷ rest) = ((o.phylum == p) && (not o.scope) && any_item space test o.items)
    || any_operator space test p rest

-- whether the list is there and its elements declare by the test
abbrev pub element_declares : (Kind → Bool) → Option ListKind → Bool
element_declares test None = false
element_declares test (Some l) = test (kinds.Phylum l.element)

-- whether the kind declares in the space; the test says which kinds below it do
abbrev pub declares_by : Definition → ℕ → (Kind → Bool) → Kind → Bool
declares_by def space test (kinds.Phylum p) = any_operator space test p def.operators
declares_by def space test (kinds.List l) = element_declares test (slice_get def.lists l)

-- whether the kind declares in the space by a chain of fewer than that many kinds
abbrev pub declares_within : Definition → ℕ → ℕ → Kind → Bool
declares_within def space zero kind = false
declares_within def space (suc n) kind = declares_by def space (declares_within def space n) kind

-- as many steps as there are kinds are enough
abbrev pub is_declaring : Definition → ℕ → Kind → Bool
is_declaring def space kind = declares_within def space (length def.phyla + length def.lists) kind

-- trees of the kind declare in no space: such a phylum has placeholders
abbrev pub HasHoles : Definition → Kind → Type 0
HasHoles def kind = (s : ℕ) → is_declaring def s kind ≡ false
