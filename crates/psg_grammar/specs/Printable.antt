-- Fragments whose text can be read back: no name or text is too long for a token, and each character of a text has a
-- width.
use Rattle.std.specs.Prelude.{ℕ, ◌≡◌, ◌≤◌, ◌⊎◌, false, length, IsSome, chars}
use Rattle.std.specs.List.{AllByRecursion}
use Rattle.unicode_width.specs.Width.{char_width}
use Rattle.psg_grammar.specs.Fragments.{Fragment, hole, ending, cell, operator, with_child, with_name, with_number}
use Rattle.psg_grammar.specs.Fragments.{with_text, anything, observed}

-- a line feed, which is written as an escape, or a character that takes columns by itself
abbrev pub IsShown : ℕ → Type 0
IsShown c = (c ≡ 10) ⊎ IsSome (char_width false c)

-- no node is one that only definitions have: a place with any value, or an observed node
abbrev pub IsPrintable : Fragment → Type 0
IsPrintable (hole p) = Unit {0}
IsPrintable (ending l u) = Unit {0}
IsPrintable (cell l e r) = IsPrintable e × IsPrintable r
IsPrintable (operator o) = Unit {0}
IsPrintable (with_child f t) = IsPrintable f × IsPrintable t
IsPrintable (with_name f n) = IsPrintable f × (length n ≤ 255)
IsPrintable (with_number f n) = IsPrintable f
IsPrintable (with_text f t) = IsPrintable f × (length t ≤ 4096) × AllByRecursion IsShown (chars t)
IsPrintable anything = Unit {0}
IsPrintable (observed f) = IsPrintable f
