-- What keys make of a prompt, and what is told of them.
use Rattle.std.specs.Prelude.{ℕ, zero, suc, ◌≡◌, ◌≤◌, ◌⊎◌, ◌==◌, ◌&&◌, Bool, true, false, List, [], ◌∷◌, ◌++◌}
use Rattle.std.specs.Prelude.{length, reverse, take, unwrap_or, encode_utf8_all, if◌then◌else◌}
use Rattle.psg_keys.specs.Lines.{Typed, TypedLines, lines_after, kept_after, with_put}
use Rattle.psg_keys.specs.Reading.{Spelled}
use Rattle.psg_keys.specs.declared.key.Key.{Key}
use Rattle.psg_keys.specs.declared.key.Key.TheVariants as keys
use Rattle.psg_prompt.specs.declared.act.Act.{Act}
use Rattle.psg_prompt.specs.declared.act.Act.TheVariants as acts
use Rattle.psg_prompt.specs.Acts.{act_of, rub_from}
use Rattle.psg_prompt.specs.Completing.{WordLists, completion, listing}
use Rattle.psg_prompt.specs.Rows.{row, cleared}

-- A prompt: the words that it completes, the lines, how many columns the terminal has, whether the last key was a Tab
-- that typed nothing, and whether it is at its end.
pub record Prompted : Type 0 where
  pub words : WordLists
  pub lines : TypedLines
  pub cols : ℕ
  pub tabbed : Bool
  pub ended : Bool

-- ---- what a key makes of it

abbrev pub pressed : TypedLines → Key → TypedLines
pressed lines key = unwrap_or (lines_after lines key) lines

abbrev pub pressed_times : ℕ → Key → TypedLines → TypedLines
pressed_times zero key lines = lines
pressed_times (suc count) key lines = pressed_times count key (pressed lines key)

abbrev pub typed_all : List ℕ → TypedLines → TypedLines
typed_all [] lines = lines
typed_all (c ∷ text) lines = typed_all text (pressed lines (keys.Char c))

-- the lines of a text, each of them kept
abbrev pub remembered : List ℕ → TypedLines → TypedLines
remembered [] lines = kept_after lines
remembered (c ∷ text) lines =
    remembered text (if c == 10 then kept_after lines else pressed lines (keys.Pasted c))

abbrev pub with_lines : Prompted → TypedLines → Prompted
with_lines p lines =
    record { words = p.words; lines = lines; cols = p.cols; tabbed = false; ended = p.ended }

abbrev pub with_tabbed : Prompted → TypedLines → Bool → Prompted
with_tabbed p lines tabbed =
    record { words = p.words; lines = lines; cols = p.cols; tabbed = tabbed; ended = p.ended }

abbrev pub with_end : Prompted → Prompted
with_end p = record { words = p.words; lines = p.lines; cols = p.cols; tabbed = false; ended = true }

abbrev pub with_cols : ℕ → Prompted → Prompted
with_cols cols p = record { words = p.words; lines = p.lines; cols = cols; tabbed = false; ended = p.ended }

abbrev pub is_empty : Typed → Bool
is_empty line = length (line.before ++ line.after) == 0

abbrev pub completed : Prompted → Prompted
completed p =
    with_tabbed p (typed_all (completion p.words p.lines.line.before) p.lines)
    (length (completion p.words p.lines.line.before) == 0)

abbrev pub changed : Prompted → Act → Prompted
changed p (acts.Edit key) = with_lines p (pressed p.lines key)
changed p acts.Cut = with_lines p (pressed_times (length p.lines.line.after) keys.Delete p.lines)
changed p acts.Rub = with_lines p
    (pressed_times (rub_from false (reverse p.lines.line.before)) keys.Backspace p.lines)
changed p acts.Finish = with_lines p (kept_after p.lines)
changed p acts.Forget = with_lines p (with_put [] p.lines)
changed p acts.End =
    if is_empty p.lines.line then with_end p else with_lines p (pressed p.lines keys.Delete)
changed p acts.Clear = with_lines p p.lines
changed p acts.Complete = completed p
changed p (acts.Resize cols) = with_cols cols p

-- ---- what is told of it: lines, each with a mark before it

-- `>`: bytes for the terminal
abbrev pub drawing : List ℕ → List ℕ
drawing bytes = 62 ∷ bytes ++ 10 ∷ []

-- `=`: a finished line, which is handed on; the row of the terminal is left
abbrev pub handing : List ℕ → List ℕ
handing text = 61 ∷ encode_utf8_all text ++ 10 ∷ []

-- `-`: the row of the terminal is left
abbrev pub leaving : List ℕ
leaving = 45 ∷ 10 ∷ []

-- `.`: all keys of a piece are done
abbrev pub waiting : List ℕ
waiting = 46 ∷ 10 ∷ []

abbrev pub drawn_row : Prompted → List ℕ
drawn_row p = drawing (row p.cols p.lines.line)

-- a second Tab lists the words, where the first one typed nothing, and this one types nothing
abbrev pub lists : Prompted → Bool
lists p = p.tabbed && (length (completion p.words p.lines.line.before) == 0)

abbrev pub words_listed : Prompted → List ℕ
words_listed p = drawn_row p ++ leaving ++ drawing (listing p.words p.lines.line.before) ++ leaving

abbrev pub listed_words : Prompted → List ℕ
listed_words p = if lists p then words_listed p else []

abbrev pub told : Prompted → Act → List ℕ
told p acts.Finish = drawn_row p ++ handing (p.lines.line.before ++ p.lines.line.after)
told p acts.Forget = drawn_row p ++ leaving
told p acts.Clear = drawing cleared
told p acts.Complete = listed_words p
told p _ = []

-- ---- keys, one after the other; after the end they do nothing

abbrev pub after_key : Prompted → Key → Prompted
after_key p key = if p.ended then p else changed p (act_of key)

abbrev pub told_key : Prompted → Key → List ℕ
told_key p key = if p.ended then [] else told p (act_of key)

abbrev pub after_keys : Prompted → List Spelled → Prompted
after_keys p [] = p
after_keys p (stroke ∷ more) = after_keys (after_key p stroke.key) more

abbrev pub told_keys : Prompted → List Spelled → List ℕ
told_keys p [] = []
told_keys p (stroke ∷ more) = told_key p stroke.key ++ told_keys (after_key p stroke.key) more

-- the row is drawn, and keys are waited for, unless the prompt is at its end
abbrev pub told_end : Prompted → List ℕ
told_end p = if p.ended then [] else drawn_row p ++ waiting

-- ---- where memory runs out

-- what is told of a key was added whole, or nothing was
abbrev pub IsToldOrNot : List ℕ → List ℕ → List ℕ → Type 0
IsToldOrNot text before after = (after ≡ before) ⊎ (after ≡ before ++ text)

-- what is told of the first of the keys was added
abbrev pub IsToldOfFirst : Prompted → List Spelled → List ℕ → List ℕ → Type 0
IsToldOfFirst p strokes before after =
    (count : ℕ) × (count ≤ length strokes) × (after ≡ before ++ told_keys p (take count strokes))
