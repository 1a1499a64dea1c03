-- The items of an operator without marks for the layout, and the least levels of its slots.
use Rattle.std.specs.Prelude.{ℕ, ◌≡◌, ◌&&◌, ◌==◌, max, Bool, true, false, cond, List, [], ◌∷◌, ◌++◌, length}
use Rattle.psg_grammar.specs.declared.types.Kind.{Kind}
use Rattle.psg_grammar.specs.declared.types.Kind.TheVariants as kinds
use Rattle.psg_grammar.specs.declared.types.Item.{Item}
use Rattle.psg_grammar.specs.declared.types.Item.TheVariants as items
use Rattle.psg_grammar.specs.declared.types.Operator.{Operator}
use Rattle.psg_grammar.specs.Levels.{first_level, last_level, least_level_of, is_mark}

-- the items without the marks for the layout
abbrev pub solid : List Item → List Item
solid [] = []
solid (i ∷ rest) = cond (is_mark i) (solid rest) (i ∷ solid rest)

abbrev pub is_empty : List Item → Bool
is_empty [] = true
is_empty (i ∷ rest) = false

-- the kind is the operator's own phylum
abbrev pub is_own : Operator → Kind → Bool
is_own o (kinds.Phylum p) = p == o.phylum
is_own o (kinds.List l) = false

-- the least level of a slot, by whether it is the first item and by the items after it
abbrev pub slot_level : Operator → Kind → Bool → List Item → ℕ
slot_level o k first behind =
    cond (is_own o k) (max (cond first (first_level o.level) 0) (cond (is_empty behind) (last_level o.level) 0)) 0

-- the slot is of the own phylum and at the last place
abbrev pub is_own_last : Operator → Kind → List Item → Bool
is_own_last o kind behind = is_own o kind && is_empty behind

-- Of each slot the least level is the same by its place among all items and by the items on both sides of it without
-- the marks for the layout.
abbrev pub HasSameLevels : Operator → Type 0
HasSameLevels o =
    (front : List Item) (kind : Kind) (behind : List Item) → o.items ≡ front ++ items.Slot kind ∷ behind
    → least_level_of o (length front) ≡ slot_level o kind (is_empty (solid front)) (solid behind)
