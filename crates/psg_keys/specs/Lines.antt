-- A line of text with its cursor, and what the keys make of it. A character of width 0 is kept together with the one
-- before it.
use Rattle.std.specs.Prelude.{ℕ, ◌+◌, ◌-◌, ◌==◌, ◌||◌, Bool, false, List, [], ◌∷◌, ◌++◌, Option, Some, None}
use Rattle.std.specs.Prelude.{length, take, drop, unwrap_or, slice_index_or, nat_lt, if◌then◌else◌}
use Rattle.std.specs.List.{prefix_len, suffix_len}
use Rattle.unicode_width.specs.Width.{char_width}
use Rattle.psg_keys.specs.Sizes.{is_between}
use Rattle.psg_keys.specs.declared.key.Key.{Key}
use Rattle.psg_keys.specs.declared.key.Key.TheVariants as keys

-- the characters before the cursor and those after it
pub record Typed : Type 0 where
  pub before : List ℕ
  pub after : List ℕ

-- the character has width 0, so that it is kept together with the one before it
unfoldable pub is_mark : ℕ → Bool
is_mark c = unwrap_or (char_width false c) 1 == 0

-- where the cursor is after a step to the left: before the last character that is no mark
abbrev pub left_of : List ℕ → ℕ
left_of before = length before - (suffix_len is_mark before + 1)

-- how many characters a step to the right passes: one, and the marks after it
abbrev pub right_of : List ℕ → ℕ
right_of after = prefix_len is_mark (drop 1 after) + 1

abbrev pub to_left : Typed → Typed
to_left line = record {
  before = take (left_of line.before) line.before;
  after = drop (left_of line.before) line.before ++ line.after;
}

abbrev pub to_right : Typed → Typed
to_right line = record {
  before = line.before ++ take (right_of line.after) line.after;
  after = drop (right_of line.after) line.after;
}

abbrev pub without_left : Typed → Typed
without_left line = record { before = take (left_of line.before) line.before; after = line.after }

abbrev pub without_right : Typed → Typed
without_right line = record { before = line.before; after = drop (right_of line.after) line.after }

abbrev pub with_char : ℕ → Typed → Typed
with_char c line = record { before = line.before ++ c ∷ []; after = line.after }

-- a pasted tab, line feed or carriage return is a space, and any other control character is left out
abbrev pub is_break : ℕ → Bool
is_break c = (c == 9) || (c == 10) || (c == 13)

abbrev pub is_control : ℕ → Bool
is_control c = nat_lt c 32 || is_between 127 159 c

abbrev pub with_pasted : ℕ → Typed → Typed
with_pasted c line =
    if is_break c then with_char 32 line else if is_control c then line else with_char c line

-- the line after a key, and None for a key that is none of a line's
abbrev pub line_after : Typed → Key → Option Typed
line_after line (keys.Char c) = Some (with_char c line)
line_after line (keys.Pasted c) = Some (with_pasted c line)
line_after line (keys.Control c) = if c == 117 then Some (record { before = []; after = line.after }) else None
line_after line keys.Left = Some (to_left line)
line_after line keys.Right = Some (to_right line)
line_after line keys.Home = Some (record { before = []; after = line.before ++ line.after })
line_after line keys.End = Some (record { before = line.before ++ line.after; after = [] })
line_after line keys.Backspace = Some (without_left line)
line_after line keys.Delete = Some (without_right line)
line_after line _ = None

-- A line with the lines that were typed before it: the earlier ones, the first one first, and which of them is shown.
-- Where the new line is shown, that is the number of the earlier ones. While an earlier one is shown, `draft` has the
-- new one.
pub record TypedLines : Type 0 where
  pub line : Typed
  pub earlier : List (List ℕ)
  pub shown : ℕ
  pub draft : List ℕ

abbrev pub at_first_line : TypedLines
at_first_line = record { line = record { before = []; after = [] }; earlier = []; shown = 0; draft = [] }

-- the new line is kept before an earlier one is shown
abbrev pub drafted : TypedLines → List ℕ
drafted lines =
    if nat_lt lines.shown (length lines.earlier) then lines.draft else lines.line.before ++ lines.line.after

-- a line is shown with the cursor at its end
abbrev pub with_shown : ℕ → TypedLines → TypedLines
with_shown place lines = record {
  line = record { before = slice_index_or lines.earlier place (drafted lines); after = [] };
  earlier = lines.earlier;
  shown = place;
  draft = drafted lines;
}

abbrev pub with_line : TypedLines → Option Typed → Option TypedLines
with_line lines None = None
with_line lines (Some line) = Some
    (record { line = line; earlier = lines.earlier; shown = lines.shown; draft = lines.draft })

-- what a key makes of a line and the lines before it, and None for a key that is none of a line's
abbrev pub lines_after : TypedLines → Key → Option TypedLines
lines_after lines keys.Up = Some (if lines.shown == 0 then lines else with_shown (lines.shown - 1) lines)
lines_after lines keys.Down =
    Some (if nat_lt lines.shown (length lines.earlier) then with_shown (lines.shown + 1) lines else lines)
lines_after lines key = with_line lines (line_after lines.line key)

-- the earlier lines with one more, unless it is empty
abbrev pub with_kept : List (List ℕ) → List ℕ → List (List ℕ)
with_kept earlier [] = earlier
with_kept earlier (c ∷ text) = earlier ++ (c ∷ text) ∷ []

-- another line takes the place of the one that is typed
abbrev pub with_put : List ℕ → TypedLines → TypedLines
with_put text lines = record {
  line = record { before = text; after = [] };
  earlier = lines.earlier;
  shown = length lines.earlier;
  draft = [];
}

-- the line is the latest earlier one, and a new one begins
abbrev pub kept_after : TypedLines → TypedLines
kept_after lines = record {
  line = record { before = []; after = [] };
  earlier = with_kept lines.earlier (lines.line.before ++ lines.line.after);
  shown = length (with_kept lines.earlier (lines.line.before ++ lines.line.after));
  draft = [];
}
