-- Lines and what is in them, from their parts.
use Rattle.std.specs.Prelude.{ℕ, ◌≡◌, ◌<◌, ◌≤◌, Bool, List, [], ◌∷◌, ◌++◌, length, drop, map, codes}
use Rattle.std.specs.List.{AllByRecursion}
use Rattle.psg_terms.specs.Names.{Name}
use Rattle.psg_terms.specs.declared.declare.ConDecl.{ConDecl}
use Rattle.psg_grammar.specs.Sound.{IsKindName, IsLevel}
use Rattle.psg_grammar.specs.declared.types.Level.{Level}
use Rattle.psg_deflines.specs.Forms.{closed_names, argument_parts, constructor_parts, level_parts, word_if, item_part}
use Rattle.psg_deflines.specs.Forms.{parts_of, HasConstructorForm, HasItemForm, HasForm}
use Rattle.psg_deflines.specs.TermWalks.{Parts, IsNotOpened}
use Rattle.psg_deflines.specs.declared.lines.LineItem.{LineItem}
use Rattle.psg_deflines.specs.declared.lines.LineItem.TheVariants as items
use Rattle.psg_deflines.specs.declared.lines.Line.{Line}

-- ---- a sort's constructors

-- the first n parts are these names, with commas between and a bracket after them
pub record AreNamesRead (ps : Parts) (names : List Name) (taken : ℕ) : Type 0 where
  pub fits : taken ≤ length ps
  pub long : 0 < length names
  pub each : AllByRecursion IsKindName names
  pub written : ps ≡ closed_names names ++ drop taken ps
  pub only : (others : List Name) (rest : Parts) → 0 < length others → AllByRecursion IsKindName others
      → ps ≡ closed_names others ++ rest → (others ≡ names) × (rest ≡ drop taken ps)

-- the parts begin with no names up to a bracket
abbrev pub HasNoNames : Parts → Type 0
HasNoNames ps = (names : List Name) (rest : Parts) → 0 < length names → AllByRecursion IsKindName names
    → ps ≡ closed_names names ++ rest → ⊥

-- the parts of one constructor
abbrev pub con_parts : ConDecl → Parts
con_parts c = c.name ∷ argument_parts c.args

-- the first `taken` parts are this constructor, and the parts begin with no other one
pub record IsConRead (ps : Parts) (c : ConDecl) (taken : ℕ) : Type 0 where
  pub fits : taken ≤ length ps
  pub long : 0 < taken
  pub form : HasConstructorForm c
  pub written : ps ≡ con_parts c ++ drop taken ps
  pub only : (other : ConDecl) (rest : Parts) → HasConstructorForm other → ps ≡ con_parts other ++ rest
      → IsNotOpened rest → (other ≡ c) × (rest ≡ drop taken ps)

-- the parts begin with no constructor
abbrev pub HasNoCon : Parts → Type 0
HasNoCon ps = (c : ConDecl) (rest : Parts) → HasConstructorForm c → ps ≡ con_parts c ++ rest → IsNotOpened rest → ⊥

-- the parts are these constructors, one after the other
pub record AreCons (ps : Parts) (cs : List ConDecl) : Type 0 where
  pub each : AllByRecursion HasConstructorForm cs
  pub written : ps ≡ constructor_parts cs

-- the parts are no constructors
abbrev pub HasNoCons : Parts → Type 0
HasNoCons ps = (cs : List ConDecl) → AreCons ps cs → ⊥

-- ---- an operator's items

-- the part is the item
pub record IsItemPart (part : List ℕ) (item : LineItem) : Type 0 where
  pub form : HasItemForm item
  pub written : item_part item ≡ part

-- the part is no item
abbrev pub HasNoItem : List ℕ → Type 0
HasNoItem part = (item : LineItem) → IsItemPart part item → ⊥

-- the items that have a word of their own
abbrev pub IsWordItem : LineItem → Type 0
IsWordItem (items.Word w) = ⊥
IsWordItem (items.Slot k) = ⊥
IsWordItem (items.Refers space) = ⊥
IsWordItem (items.Declares space) = ⊥
IsWordItem _ = Unit {0}

-- the part is no item that has a word of its own
abbrev pub HasNoWordItem : List ℕ → Type 0
HasNoWordItem part = (item : LineItem) → IsWordItem item → item_part item ≡ part → ⊥

-- name positions
abbrev pub IsNameItem : LineItem → Type 0
IsNameItem (items.Refers space) = Unit {0}
IsNameItem (items.Declares space) = Unit {0}
IsNameItem _ = ⊥

-- the part is no name position
abbrev pub HasNoNameItem : List ℕ → Type 0
HasNoNameItem part = (item : LineItem) → IsNameItem item → IsItemPart part item → ⊥

-- each part is its item
pub record AreItemParts (parts : Parts) (made : List LineItem) : Type 0 where
  pub each : AllByRecursion HasItemForm made
  pub written : map item_part made ≡ parts

-- a part is no item
abbrev pub HasNoItems : Parts → Type 0
HasNoItems parts = (made : List LineItem) → AreItemParts parts made → ⊥

-- ---- what is between an operator's phylum and its items

-- the word and the digit are no level
abbrev pub HasNoLevel : List ℕ → List ℕ → Type 0
HasNoLevel word digit = (l : Level) → IsLevel l → level_parts l ≡ word ∷ digit ∷ [] → ⊥

-- the word and the digit are the level
abbrev pub IsLevelOf : List ℕ → List ℕ → Level → Type 0
IsLevelOf word digit l = IsLevel l × (level_parts l ≡ word ∷ digit ∷ [])

-- the level and the sign `=` after it
abbrev pub equals_behind : Level → Parts
equals_behind level = level_parts level ++ codes "=" ∷ []

-- the parts begin with the level and the sign, and with no other ones
pub record IsLevelRead (ps : Parts) (level : Level) (taken : ℕ) : Type 0 where
  pub fits : taken ≤ length ps
  pub form : IsLevel level
  pub written : ps ≡ equals_behind level ++ drop taken ps
  pub only : (l : Level) (rest : Parts) → IsLevel l → ps ≡ equals_behind l ++ rest → (l ≡ level)
      × (rest ≡ drop taken ps)

-- the parts begin with no level and sign
abbrev pub HasNoLevelRead : Parts → Type 0
HasNoLevelRead ps = (l : Level) (rest : Parts) → IsLevel l → ps ≡ equals_behind l ++ rest → ⊥

-- what is between the phylum and the items
abbrev pub header_parts : Bool → Level → Parts
header_parts scope level = word_if scope (codes "scope") ++ equals_behind level

-- the parts begin with this header, and with no other one
pub record IsHeaderRead (ps : Parts) (scope : Bool) (level : Level) (taken : ℕ) : Type 0 where
  pub fits : taken ≤ length ps
  pub form : IsLevel level
  pub written : ps ≡ header_parts scope level ++ drop taken ps
  pub only : (s : Bool) (l : Level) (rest : Parts) → IsLevel l → ps ≡ header_parts s l ++ rest → (s ≡ scope)
      × (l ≡ level) × (rest ≡ drop taken ps)

-- the parts begin with no such header
abbrev pub HasNoHeader : Parts → Type 0
HasNoHeader ps = (s : Bool) (l : Level) (rest : Parts) → IsLevel l → ps ≡ header_parts s l ++ rest → ⊥

-- ---- lines

-- the parts are the line
pub record IsForm (parts : Parts) (line : Line) : Type 0 where
  pub form : HasForm line
  pub written : parts_of line ≡ parts

-- the parts have none of the forms
abbrev pub HasNoForm : Parts → Type 0
HasNoForm parts = (line : Line) → IsForm parts line → ⊥

-- neither nothing nor the word alone
abbrev pub IsNeither : Parts → List ℕ → Type 0
IsNeither parts word = (b : Bool) → parts ≡ word_if b word → ⊥

-- no word with which a line of terms begins that is no declare row
pub record IsNoTermWord (word : List ℕ) : Type 0 where
  pub row : word ≡ codes "row" → ⊥
  pub nil : word ≡ codes "nil" → ⊥
  pub cell : word ≡ codes "cell" → ⊥
  pub hole : word ≡ codes "hole" → ⊥
  pub case_word : word ≡ codes "case" → ⊥

-- no word with which a line without terms begins
pub record IsNoPlainWord (word : List ℕ) : Type 0 where
  pub sort : word ≡ codes "sort" → ⊥
  pub entity : word ≡ codes "entity" → ⊥
  pub space : word ≡ codes "space" → ⊥
  pub phylum : word ≡ codes "phylum" → ⊥
  pub list : word ≡ codes "list" → ⊥
  pub op : word ≡ codes "op" → ⊥
