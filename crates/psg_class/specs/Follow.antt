-- What a tree can begin with, and what can follow it.
use Rattle.std.specs.Prelude.{ℕ, ◌≡◌, ◌⊎◌, true, false, List, [], ◌∷◌, ◌++◌, Some, slice_get}
use Rattle.psg_grammar.specs.declared.types.Kind.{Kind}
use Rattle.psg_grammar.specs.declared.types.Kind.TheVariants as kinds
use Rattle.psg_grammar.specs.declared.types.Item.{Item}
use Rattle.psg_grammar.specs.declared.types.Item.TheVariants as items
use Rattle.psg_grammar.specs.declared.types.Operator.{Operator}
use Rattle.psg_grammar.specs.declared.types.Phylum.{Phylum}
use Rattle.psg_grammar.specs.declared.types.ListKind.{ListKind}
use Rattle.psg_grammar.specs.declared.types.Definition.{Definition}
use Rattle.psg_grammar.specs.Declaring.{HasHoles}
use Rattle.psg_class.specs.Terminals.{Terminal, fixed, a_hole, a_more, open_bracket, close_bracket, item_terminal}
use Rattle.psg_class.specs.Places.{solid, is_own_last}

-- the operator n of the phylum begins with a token item
pub record Leads (def : Definition) (p n : ℕ) (terminal : Terminal) : Type 0 where
  pub o : Operator
  pub found : slice_get def.operators n ≡ Some o
  pub phylum : o.phylum ≡ p
  pub item : Item
  pub more : List Item
  pub items : solid o.items ≡ item ∷ more
  pub begins : item_terminal item ≡ Some terminal

-- the operator n of the phylum begins with a slot, and its second item is a token item
pub record Led (def : Definition) (p n : ℕ) (terminal : Terminal) : Type 0 where
  pub o : Operator
  pub found : slice_get def.operators n ≡ Some o
  pub phylum : o.phylum ≡ p
  pub slot : Kind
  pub item : Item
  pub more : List Item
  pub items : solid o.items ≡ items.Slot slot ∷ item ∷ more
  pub begins : item_terminal item ≡ Some terminal

pub data First (def : Definition) : ℕ → Terminal → Type 0 where
  first_operator : {p : ℕ} {terminal : Terminal} (n : ℕ) → Leads def p n terminal → First def p terminal
  first_hole : {p : ℕ} (phylum : Phylum) → slice_get def.phyla p ≡ Some phylum → HasHoles def (kinds.Phylum p)
      → First def p (a_hole phylum.name)
  first_bracket : {p : ℕ} (phylum : Phylum) → slice_get def.phyla p ≡ Some phylum → phylum.bracketed ≡ true
      → First def p open_bracket

pub data FirstOfList (def : Definition) : ℕ → Terminal → Type 0 where
  first_element : {l : ℕ} {terminal : Terminal} (kind : ListKind) → slice_get def.lists l ≡ Some kind
      → First def kind.element terminal → FirstOfList def l terminal
  first_more : {l : ℕ} (kind : ListKind) → slice_get def.lists l ≡ Some kind → kind.unfinished ≡ true
      → FirstOfList def l a_more

-- what can begin a row of items
abbrev pub BeginsWith : Definition → List Item → Terminal → Type 0
BeginsWith def [] terminal = ⊥
BeginsWith def (items.Slot (kinds.Phylum p) ∷ more) terminal = First def p terminal
BeginsWith def (items.Slot (kinds.List l) ∷ more) terminal = FirstOfList def l terminal ⊎ BeginsWith def more terminal
BeginsWith def (i ∷ more) terminal = item_terminal i ≡ Some terminal

-- a row of items can be without tokens
abbrev pub CanBeEmpty : List Item → Type 0
CanBeEmpty [] = Unit {0}
CanBeEmpty (items.Slot (kinds.List l) ∷ more) = CanBeEmpty more
CanBeEmpty (i ∷ more) = ⊥

-- A slot of the operator n that is not its first item. Where a class's operator begins with a slot, that one is the
-- first item of a led operator; no other operator begins with one.
pub record Inside (def : Definition) (n : ℕ) (kind : Kind) (behind : List Item) : Type 0 where
  pub o : Operator
  pub found : slice_get def.operators n ≡ Some o
  pub first : Item
  pub front : List Item
  pub items : solid o.items ≡ first ∷ (front ++ items.Slot kind ∷ behind)

pub data Follow (def : Definition) : Kind → Terminal → Type 0 where
  by_rest : {kind : Kind} {terminal : Terminal} (n : ℕ) (behind : List Item) → Inside def n kind behind
      → BeginsWith def behind terminal → Follow def kind terminal
  by_end : {kind : Kind} {terminal : Terminal} (n : ℕ) (behind : List Item) (place : Inside def n kind behind)
      → CanBeEmpty behind → is_own_last place.o kind behind ≡ false
      → Follow def (kinds.Phylum place.o.phylum) terminal → Follow def kind terminal
  by_led : {kind : Kind} {terminal : Terminal} (n : ℕ) (behind : List Item) (place : Inside def n kind behind)
      → CanBeEmpty behind → is_own_last place.o kind behind ≡ false
      → (m : ℕ) → Led def place.o.phylum m terminal → Follow def kind terminal
  by_separator : {p : ℕ} {terminal : Terminal} (l : ℕ) (kind : ListKind) → slice_get def.lists l ≡ Some kind
      → kind.element ≡ p → terminal ≡ fixed kind.separator → Follow def (kinds.Phylum p) terminal
  by_list : {p : ℕ} {terminal : Terminal} (l : ℕ) (kind : ListKind) → slice_get def.lists l ≡ Some kind
      → kind.element ≡ p → Follow def (kinds.List l) terminal → Follow def (kinds.Phylum p) terminal
  by_bracket : {p : ℕ} {terminal : Terminal} (phylum : Phylum) → slice_get def.phyla p ≡ Some phylum
      → phylum.bracketed ≡ true → terminal ≡ close_bracket → Follow def (kinds.Phylum p) terminal
