-- How tightly operators bind, and the least level that a tree in a slot may have without brackets.
use Rattle.std.specs.Prelude.{ℕ, ◌≡◌, ◌+◌, ◌==◌, Bool, true, false, cond, max, List, take, drop, Option}
use Rattle.std.specs.Prelude.{Some, slice_get}
use Rattle.std.specs.List.{list_all}
use Rattle.psg_grammar.specs.declared.types.Kind.{Kind}
use Rattle.psg_grammar.specs.declared.types.Kind.TheVariants as kinds
use Rattle.psg_grammar.specs.declared.types.Level.{Level}
use Rattle.psg_grammar.specs.declared.types.Level.TheVariants as levels
use Rattle.psg_grammar.specs.declared.types.Item.{Item}
use Rattle.psg_grammar.specs.declared.types.Item.TheVariants as items
use Rattle.psg_grammar.specs.declared.types.Operator.{Operator}

-- N, or 10 without a form
abbrev pub level_number : Level → ℕ
level_number levels.Plain = 10
level_number (levels.Prefix n) = n
level_number (levels.Postfix n) = n
level_number (levels.InfixLeft n) = n
level_number (levels.InfixRight n) = n
level_number (levels.InfixNone n) = n

-- what an operator of the form asks of a tree of its own phylum at its first place
abbrev pub first_level : Level → ℕ
first_level levels.Plain = 0
first_level (levels.Prefix n) = 0
first_level (levels.Postfix n) = n
first_level (levels.InfixLeft n) = n
first_level (levels.InfixRight n) = n + 1
first_level (levels.InfixNone n) = n + 1

-- what an operator of the form asks of a tree of its own phylum at its last place
abbrev pub last_level : Level → ℕ
last_level levels.Plain = 0
last_level (levels.Prefix n) = n
last_level (levels.Postfix n) = 0
last_level (levels.InfixLeft n) = n + 1
last_level (levels.InfixRight n) = n
last_level (levels.InfixNone n) = n + 1

-- whether the item is a slot, for trees of any kind
abbrev pub is_slot : Item → Bool
is_slot (items.Slot k) = true
is_slot _ = false

-- whether the item is a place for a name, used or declared
abbrev pub is_name_position : Item → Bool
is_name_position (items.Refers s) = true
is_name_position (items.Declares s) = true
is_name_position _ = false

-- a mark for the layout, which is no place
abbrev pub is_mark : Item → Bool
is_mark items.Space = true
is_mark items.Tight = true
is_mark items.Line = true
is_mark items.In = true
is_mark items.Out = true
is_mark _ = false

-- the item is a slot for a tree of the phylum
abbrev pub is_slot_of : ℕ → Option Item → Bool
is_slot_of phylum (Some (items.Slot (kinds.Phylum p))) = p == phylum
is_slot_of phylum _ = false

-- only marks are before the item
abbrev pub is_first_place : List Item → ℕ → Bool
is_first_place xs k = list_all is_mark (take k xs)

-- only marks are after the item
abbrev pub is_last_place : List Item → ℕ → Bool
is_last_place xs k = list_all is_mark (drop (k + 1) xs)

-- 0, except for a slot of the operator's own phylum at its first or last place; at both it is the greater one
abbrev pub least_level_of : Operator → ℕ → ℕ
least_level_of op k =
    cond (is_slot_of op.phylum (slice_get op.items k))
    (max (cond (is_first_place op.items k) (first_level op.level) 0)
    (cond (is_last_place op.items k) (last_level op.level) 0))
    0

-- the item is a slot
abbrev pub IsSlotAt : Operator → ℕ → Type 0
IsSlotAt op k = (kind : Kind) × (slice_get op.items k ≡ Some (items.Slot kind))
