-- What `gen` says of the plain editor after the script that is made for a number: five lines.
use Rattle.std.specs.Prelude.{ℕ, ◌==◌, ◌||◌, Bool, cond, bytes_eq, count_by, List, [], ◌∷◌, ◌++◌, Option, Some}
use Rattle.std.specs.Prelude.{None, codes, decimal}
use Rattle.psg_grammar.specs.declared.types.Definition.{Definition}
use Rattle.psg_grammar.specs.Fragments.{Fragment}
use Rattle.psg_grammar.specs.Legal.{IsCompletable}
use Rattle.psg_grammar.specs.Marks.{Mark, good}
use Rattle.psg_script.specs.Script.{script_lines as made_lines}
use Rattle.psg_session.specs.Extents.{HasExtent}
use Rattle.psg_session.specs.Marked.{mark_text}
use Rattle.psg_session.specs.PlainState.{Opened}
use Rattle.psg_session.specs.Replies.{Reply, feed_all, refused, answered}
use Rattle.psg_run.specs.declared.status.Status.{Status}
use Rattle.psg_run.specs.declared.status.Status.TheVariants as ends_with
use Rattle.psg_run.specs.Chain.{IsPlayed, Point}
use Rattle.psg_run.specs.Editing.{BreaksOff, Editor, IsSilent, new_editor}
use Rattle.psg_run.specs.Worlds.{Act}

-- a space or a line feed
abbrev pub is_gap : ℕ → Bool
is_gap b = (b == 32) || (b == 10)

-- How many names are in the text of lines: each has one space or the line feed after it. The line `none` has none.
abbrev pub names_in : List ℕ → ℕ
names_in text = cond (bytes_eq text (codes "none\n")) 0 (count_by is_gap text)

-- how many operators a menu has, by its reply; a refusal has none
abbrev pub operators_in : Reply → ℕ
operators_in (refused refusal) = 0
operators_in (answered lines) = names_in (feed_all lines)

-- the five lines of `gen` with these numbers and this mark
abbrev pub five_lines : ℕ → ℕ → ℕ → ℕ → Mark → List (List ℕ)
five_lines nodes bytes weight menu mark =
    (codes "nodes " ++ decimal nodes)
    ∷ (codes "bytes " ++ decimal bytes)
    ∷ (codes "weight " ++ decimal weight)
    ∷ (codes "menu " ++ decimal menu)
    ∷ (codes "mark " ++ mark_text mark)
    ∷ []

module _ (def : Definition) (IsGood : Fragment → Type 0) where
  -- The five lines of a state, with this number of operators in the last reply. Where nothing is opened all numbers are
  -- 0, and the mark is `ok`.
  pub data FiveLines : Option Opened → ℕ → List (List ℕ) → Type 0 where
    of_nothing : {menu : ℕ} → FiveLines None menu (five_lines 0 0 0 0 good)
    of_opened : {old : Opened} {menu : ℕ} (nodes bytes weight : ℕ) (mark : Mark)
        → HasExtent def IsGood old.tree nodes bytes weight mark
        → FiveLines (Some old) menu (five_lines nodes bytes weight menu mark)

-- the five lines of the editor are put; or there is no memory for them
pub data TellsFive (def : Definition) (s : Point Editor) : List ℕ → Status → Point Editor → Type 0 where
  tells : (lines : List (List ℕ))
      → FiveLines def (IsCompletable def) s.state.state.opened (operators_in s.state.reply) lines
      → TellsFive def s (feed_all lines) ends_with.Done s
  no_room_to_tell : TellsFive def s [] ends_with.Memory s

-- the script for the number is played in silence, and five lines are put then
abbrev pub Generates : Definition → ℕ → Act
Generates def number = IsPlayed Editor (IsSilent def) (BreaksOff def) (TellsFive def) new_editor (made_lines number)
