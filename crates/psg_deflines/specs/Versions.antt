-- Of which version of the file a line is.
use Rattle.std.specs.Prelude.{ℕ, ◌≡◌, ◌==◌, ◌||◌, ◌⊎◌, not, cond, Bool, true, false, [], ◌∷◌}
use Rattle.std.specs.List.{list_any}
use Rattle.psg_terms.specs.Names.{Name}
use Rattle.psg_deflines.specs.declared.lines.LineItem.{LineItem}
use Rattle.psg_deflines.specs.declared.lines.LineItem.TheVariants as items
use Rattle.psg_deflines.specs.declared.lines.Line.{Line}
use Rattle.psg_deflines.specs.declared.lines.Line.TheVariants as lines

-- there are versions 1 and 2
abbrev pub IsVersion : ℕ → Type 0
IsVersion version = (version ≡ 1) ⊎ (version ≡ 2)

-- the space has a name
abbrev pub is_named : Name → Bool
is_named [] = false
is_named (c ∷ cs) = true

-- Version 2 names each space, version 1 none. There is no version but 1 and 2; any other number is taken as 1 here.
abbrev pub names_rightly : ℕ → Name → Bool
names_rightly version space = cond (version == 2) (is_named space) (not (is_named space))

-- the item names its space
abbrev pub names_space : LineItem → Bool
names_space (items.Refers space) = is_named space
names_space (items.Declares space) = is_named space
names_space _ = false

-- The line is of the version. In version 2 an item may leave out the name of the first space.
abbrev pub is_of : ℕ → Line → Bool
is_of version (lines.Space name sort) = names_rightly version name
is_of version (lines.Operator name phylum scope level made) = (version == 2) || not (list_any names_space made)
is_of version (lines.Declare space list entity value specimen) = names_rightly version space
is_of version _ = true
