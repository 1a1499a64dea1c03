-- What the walk over a tree and its tokens does, whatever derivation of the tree from these tokens there is.
use Rattle.std.specs.Prelude.{ℕ, suc, ◌≡◌, ◌≤◌, ◌+◌, ◌⊎◌, cond, Bool, true, false, List, [], ◌∷◌, ◌++◌}
use Rattle.std.specs.Prelude.{length, Option, Some, None, slice_get}
use Rattle.psg_grammar.specs.declared.types.Kind.{Kind}
use Rattle.psg_grammar.specs.declared.types.Item.{Item}
use Rattle.psg_grammar.specs.declared.types.Item.TheVariants as items
use Rattle.psg_grammar.specs.declared.types.Operator.{Operator}
use Rattle.psg_grammar.specs.declared.types.Definition.{Definition}
use Rattle.psg_grammar.specs.Fragments.{Fragment, operator}
use Rattle.psg_tree.specs.declared.tree.Part.{Part}
use Rattle.psg_tree.specs.declared.tree.Part.TheVariants.{Sub, Name, Number, Text}
use Rattle.psg_tree.specs.Shapes.{list_of}
use Rattle.psg_class.specs.Places.{solid}
use Rattle.psg_class.specs.Terminals.{Token}
use Rattle.psg_class.specs.Yields.{TreeYields, of_hole, of_operator, in_brackets, PartsYield, no_items, of_word}
use Rattle.psg_class.specs.Yields.{of_refers, of_declares, of_number, of_text, of_slot, of_list_slot, ListYields}
use Rattle.psg_class.specs.Yields.{no_elements, only_more, elements}
use Rattle.psg_ranges.specs.declared.ranges.Range.{Range}
use Rattle.psg_ranges.specs.declared.reading.Reader.{Reader}
use Rattle.psg_ranges.specs.Brackets.{closes_first, is_bracketed}
use Rattle.psg_ranges.specs.Forests.{Core, hole_core, operator_core, Forest, no_nodes, node, of_tree, of_parts}
use Rattle.psg_ranges.specs.Forests.{of_list, of_elements, names_of}
use Rattle.psg_ranges.specs.Forests.{ranges_in}

-- ---- items and parts

abbrev pub items_in : Option Operator → List Item
items_in None = []
items_in (Some o) = o.items

abbrev pub behind_first : List Part → List Part
behind_first [] = []
behind_first (p ∷ ps) = ps

abbrev pub slot_kind : Item → Option Kind
slot_kind (items.Slot k) = Some k
slot_kind _ = None

abbrev pub leading_kind : List Item → Option Kind
leading_kind [] = None
leading_kind (i ∷ is) = slot_kind i

abbrev pub first_sub : List Part → Option Fragment
first_sub [] = None
first_sub (Sub t ∷ ps) = Some t
first_sub (Name n ∷ ps) = None
first_sub (Number n ∷ ps) = None
first_sub (Text t ∷ ps) = None

abbrev pub is_word_item : Item → Bool
is_word_item (items.Word w) = true
is_word_item _ = false

abbrev pub is_name_item : Item → Bool
is_name_item (items.Refers s) = true
is_name_item (items.Declares s) = true
is_name_item _ = false

-- what is left of the parts after an item that is a token, and the number of the token where it is a name
abbrev pub left_of : Item → List Part → List Part
left_of i ps = cond (is_word_item i) ps (behind_first ps)

abbrev pub names_at : Item → ℕ → List ℕ
names_at i n = cond (is_name_item i) (n ∷ []) []

abbrev pub behind_item : List Item → List Item
behind_item [] = []
behind_item (i ∷ is) = is

-- the items without the layout marks begin with no slot
abbrev pub BeginsOtherwise : List Item → Type 0
BeginsOtherwise is = (kind : Kind) (more : List Item) → solid is ≡ items.Slot kind ∷ more → ⊥

-- ---- what a derivation says of the tree

module _ {def : Definition} where
  -- the parts that the items are read as
  abbrev pub parts_in : {o : Operator} {first : Bool} {f g : Fragment} {d e : ℕ} {more : List Item} {ts : List Token}
      → PartsYield def o first f d more g e ts → List Part
  parts_in no_items = []
  parts_in (of_word t is z) = parts_in z
  parts_in (of_refers s x is z) = Name x ∷ parts_in z
  parts_in (of_declares s x is z) = Name x ∷ parts_in z
  parts_in (of_number x z) = Number x ∷ parts_in z
  parts_in (of_text x z) = Text x ∷ parts_in z
  parts_in (of_slot t depth own behind y z) = Sub t ∷ parts_in z
  parts_in (of_list_slot t depth own behind y z) = Sub t ∷ parts_in z

  -- How many brackets are in front of all that is in the tree: those around it, around its first child where it begins
  -- with that one, and so on.
  abbrev mutual
    pub leading : {f : Fragment} {p level depth : ℕ} {ts : List Token} → TreeYields def f p level depth ts → ℕ
    leading (of_hole phylum found holes) = 0
    leading (of_operator n o found is fits z) = leading_parts z
    leading (in_brackets phylum t u found bracketed is is' y) = suc (leading y)

    pub leading_parts : {o : Operator} {first : Bool} {f g : Fragment} {d e : ℕ} {more : List Item} {ts : List Token}
        → PartsYield def o first f d more g e ts → ℕ
    leading_parts no_items = 0
    leading_parts (of_word t is z) = 0
    leading_parts (of_refers s x is z) = 0
    leading_parts (of_declares s x is z) = 0
    leading_parts (of_number x z) = 0
    leading_parts (of_text x z) = 0
    leading_parts (of_slot {first = first} t depth own behind y z) = cond first (leading y) 0
    leading_parts (of_list_slot t depth own behind y z) = 0

  -- the elements of a list
  abbrev pub list_below : {f : Fragment} {l depth : ℕ} {ts : List Token} → ListYields def f l depth ts → ℕ → Forest
  list_below (no_elements kind found) start = no_nodes
  list_below (only_more kind found unfinished) start = no_nodes
  list_below (elements y) start = of_elements y start

module _ {def : Definition} where
  abbrev pub core_leading : {f : Fragment} {p : ℕ} {ts : List Token} → Core def f p ts → ℕ
  core_leading (hole_core phylum found holes) = 0
  core_leading (operator_core n o found is z) = leading_parts z

  abbrev pub core_names : {f : Fragment} {p : ℕ} {ts : List Token} → Core def f p ts → ℕ → List ℕ
  core_names (hole_core phylum found holes) start = []
  core_names (operator_core n o found is z) start = names_of z start

  abbrev pub core_below : {f : Fragment} {p : ℕ} {ts : List Token} → Core def f p ts → ℕ → Forest
  core_below (hole_core phylum found holes) start = no_nodes
  core_below (operator_core n o found is z) start = of_parts z start

-- ---- the steps of the walk

-- a place for a range is kept
pub record IsOpened (place : ℕ) (old new : Reader) : Type 0 where
  pub place_is : place ≡ length old.ranges.items
  pub at : new.at ≡ old.at
  pub kept : Range
  pub ranges : new.ranges.items ≡ old.ranges.items ++ kept ∷ []

-- it is filled
pub record IsClosed (place start : ℕ) (names : List ℕ) (old new : Reader) : Type 0 where
  pub at : new.at ≡ old.at
  pub ranges : (front below : List Range) (kept : Range) → old.ranges.items ≡ front ++ kept ∷ below
      → length front ≡ place → new.ranges.items ≡ front
      ++ record { start = start; end = old.at; nodes = suc (length below); names = names } ∷ below

-- the tokens up to this number are read, with the ranges of these nodes
pub record Reads (end : ℕ) (nodes : Forest) (old new : Reader) : Type 0 where
  pub at : new.at ≡ end
  pub ranges : new.ranges.items ≡ old.ranges.items ++ ranges_in nodes

-- and names among them
pub record ReadsNames (end : ℕ) (nodes : Forest) (named : List ℕ) (old new : Reader) (before after : List ℕ)
    : Type 0 where
  pub reads : Reads end nodes old new
  pub names : after ≡ before ++ named

-- the first of the items is read, and then these parts are left
pub record IsNext {def : Definition} {o : Operator} {first : Bool} {f g : Fragment} {d e : ℕ} {more : List Item}
    {ts : List Token} (z : PartsYield def o first f d more g e ts) (base : ℕ) (is : List Item) (left : List Part)
    (old new : Reader) (named names : List ℕ) : Type 0 where
  pub begun : Fragment
  pub nesting : ℕ
  pub rest : List Item
  pub own : List Token
  pub behind : List Token
  pub flag : Bool
  pub yields : PartsYield def o flag begun nesting rest g e behind
  pub are : ts ≡ own ++ behind
  pub items : rest ≡ solid is
  pub parts : left ≡ parts_in yields
  pub at : new.at ≡ base + length own
  pub made : List Range
  pub ranges : new.ranges.items ≡ old.ranges.items ++ made
  pub all : ranges_in (of_parts z base) ≡ made ++ ranges_in (of_parts yields (base + length own))
  pub more_names : List ℕ
  pub names_are : names ≡ named ++ more_names
  pub all_names : names_of z base ≡ more_names ++ names_of yields (base + length own)

-- No bracket is open in front of the tree but its own ones; or none is closed directly after the tree.
abbrev pub IsQuiet : ℕ → ℕ → List Token → Type 0
IsQuiet first start after = (first ≡ start) ⊎ (closes_first after ≡ false)

module _ (def : Definition) where
  -- a phylum with brackets
  abbrev pub IsBracketed : ℕ → Type 0
  IsBracketed p = is_bracketed (slice_get def.phyla p) ≡ true

  -- No brackets are open in front of the tree but its own ones; or its phylum has brackets.
  abbrev pub IsWithin : ℕ → ℕ → ℕ → Type 0
  IsWithin p first start = (first ≤ start) × ((first ≡ start) ⊎ IsBracketed p)

module _ (def : Definition) (tokens : List Token) where
  -- The tree is among the tokens, between these; some of the brackets in front of it are read already.
  pub record ReadsNode (bracketed : Bool) (first : ℕ) (t : Fragment) (start : ℕ) (old new : Reader) : Type 0 where
    pub tree : (p level depth : ℕ) (ts : List Token) (y : TreeYields def t p level depth ts) (before after : List Token)
        (taken : ℕ) → bracketed ≡ is_bracketed (slice_get def.phyla p) → tokens ≡ before ++ (ts ++ after)
        → old.at ≡ length before + taken → taken ≤ leading y → IsWithin def p first (length before)
        → IsQuiet first (length before) after
        → (start ≡ length before)
        × Reads (length before + length ts) (of_tree y (length before) no_nodes) old new
    pub list : (l depth : ℕ) (ts : List Token) (y : ListYields def t l depth ts) (before after : List Token)
        → bracketed ≡ false → tokens ≡ before ++ (ts ++ after) → old.at ≡ length before → first ≡ length before
        → (start ≡ length before)
        × Reads (length before + length ts) (of_list y (length before) no_nodes) old new

  -- all brackets in front of the tree are read
  pub record ReadsShape (first : ℕ) (t : Fragment) (start : ℕ) (old new : Reader) : Type 0 where
    pub core : (p : ℕ) (ts : List Token) (y : Core def t p ts) (before after : List Token)
        → tokens ≡ before ++ (ts ++ after) → old.at ≡ length before + core_leading y
        → IsWithin def p first (length before)
        → (start ≡ length before) × Reads (length before + length ts)
        (node (length before) (length before + length ts) (core_names y (length before)) (core_below y (length before))
        no_nodes) old new
    pub list : (l depth : ℕ) (ts : List Token) (y : ListYields def t l depth ts) (before after : List Token)
        → tokens ≡ before ++ (ts ++ after) → old.at ≡ length before
        → (start ≡ length before) × Reads (length before + length ts)
        (node (length before) (length before + length ts) [] (list_below y (length before)) no_nodes) old new

  pub record ReadsBelow (first : ℕ) (t : Fragment) (start : ℕ) (old new : Reader) (named names : List ℕ)
      : Type 0 where
    pub core : (p : ℕ) (ts : List Token) (y : Core def t p ts) (before after : List Token)
        → tokens ≡ before ++ (ts ++ after) → old.at ≡ length before + core_leading y
        → IsWithin def p first (length before)
        → (start ≡ length before) × ReadsNames (length before + length ts) (core_below y (length before))
        (core_names y (length before)) old new named names
    pub list : (l depth : ℕ) (ts : List Token) (y : ListYields def t l depth ts) (before after : List Token)
        → tokens ≡ before ++ (ts ++ after) → old.at ≡ length before
        → (start ≡ length before) × ReadsNames (length before + length ts) (list_below y (length before)) [] old new
        named names

  abbrev pub ReadsOperator : List Item → List Part → ℕ → ℕ → Reader → Reader → List ℕ → List ℕ → Type 0
  ReadsOperator is parts first start old new named names = (n depth : ℕ) (o : Operator) (g : Fragment) (ts : List Token)
      (z : PartsYield def o true (operator n) 0 (solid o.items) g depth ts) (before after : List Token)
      → slice_get def.operators n ≡ Some o → is ≡ o.items → parts ≡ parts_in z → tokens ≡ before ++ (ts ++ after)
      → old.at ≡ length before + leading_parts z → IsWithin def o.phylum first (length before)
      → (start ≡ length before) × ReadsNames (length before + length ts) (of_parts z (length before))
      (names_of z (length before)) old new named names

  abbrev pub ReadsParts : List Item → List Part → Reader → Reader → List ℕ → List ℕ → Type 0
  ReadsParts is parts old new named names = (o : Operator) (first : Bool) (f g : Fragment) (d e : ℕ) (more : List Item)
      (ts : List Token) (z : PartsYield def o first f d more g e ts) (before after : List Token) → more ≡ solid is
      → parts ≡ parts_in z → tokens ≡ before ++ (ts ++ after) → old.at ≡ length before
      → ReadsNames (length before + length ts) (of_parts z (length before)) (names_of z (length before)) old new named
      names

  abbrev pub ReadsItem : Item → List Part → List Part → Reader → Reader → List ℕ → List ℕ → Type 0
  ReadsItem i parts left old new named names = (o : Operator) (first : Bool) (f g : Fragment) (d e : ℕ)
      (more is : List Item) (ts : List Token) (z : PartsYield def o first f d more g e ts) (before after : List Token)
      → more ≡ solid (i ∷ is) → parts ≡ parts_in z → tokens ≡ before ++ (ts ++ after) → old.at ≡ length before
      → IsNext z (length before) is left old new named names

  abbrev pub ReadsChild : Bool → ℕ → List Part → ℕ → Reader → Reader → Type 0
  ReadsChild bracketed first parts start old new = (t : Fragment) (ps : List Part) → parts ≡ Sub t ∷ ps
      → ReadsNode bracketed first t start old new

  abbrev pub ReadsElements : ℕ → List Fragment → Bool → Reader → Reader → Type 0
  ReadsElements l es unfinished old new = (t : Fragment) (m depth : ℕ) (ts : List Token)
      (y : ListYields def t m depth ts) (before after : List Token) → t ≡ list_of l es unfinished
      → tokens ≡ before ++ (ts ++ after) → old.at ≡ length before
      → Reads (length before + length ts) (list_below y (length before)) old new
