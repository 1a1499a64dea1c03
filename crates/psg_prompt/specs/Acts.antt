-- What a key is for a prompt.
use Rattle.std.specs.Prelude.{ℕ, ◌+◌, ◌==◌, ◌||◌, Bool, true, false, List, [], ◌∷◌, if◌then◌else◌}
use Rattle.psg_keys.specs.Lines.{is_mark}
use Rattle.psg_keys.specs.declared.key.Key.{Key}
use Rattle.psg_keys.specs.declared.key.Key.TheVariants as keys
use Rattle.psg_prompt.specs.declared.act.Act.{Act}
use Rattle.psg_prompt.specs.declared.act.Act.TheVariants as acts

-- Ctrl with a letter
abbrev pub act_of_letter : ℕ → Act
act_of_letter c =
    if c == 97 then acts.Edit keys.Home
    else if c == 98 then acts.Edit keys.Left
    else if c == 99 then acts.Forget
    else if c == 100 then acts.End
    else if c == 101 then acts.Edit keys.End
    else if c == 102 then acts.Edit keys.Right
    else if c == 106 then acts.Finish
    else if c == 107 then acts.Cut
    else if c == 108 then acts.Clear
    else if c == 110 then acts.Edit keys.Down
    else if c == 112 then acts.Edit keys.Up
    else if c == 119 then acts.Rub else acts.Edit (keys.Control c)

-- the end of a line ends one in a pasted text too
abbrev pub act_of : Key → Act
act_of keys.Enter = acts.Finish
act_of keys.Tab = acts.Complete
act_of (keys.Control c) = act_of_letter c
act_of (keys.Pasted c) = if (c == 10) || (c == 13) then acts.Finish else acts.Edit (keys.Pasted c)
act_of (keys.Size rows cols) = acts.Resize cols
act_of key = acts.Edit key

-- How many times Backspace is pressed for the last word and the spaces after it. The characters are those before the
-- cursor, the nearest one first, and `inside` says whether some of the word were there already.
abbrev pub rub_from : Bool → List ℕ → ℕ
rub_from inside [] = 0
rub_from inside (c ∷ more) =
    if c == 32 then (if inside then 0 else 1 + rub_from false more)
    else if is_mark c then rub_from true more else 1 + rub_from true more
