-- The lines of the script that is made for a number ask nothing of the files, so the files are kept.
use Rattle.std.proofs.Common.{◌≡◌, ℕ, zero, suc, ◌==◌, true, false, List, [], ◌∷◌, ◌++◌, get_or, Option, Some, None}
use Rattle.std.proofs.Common.{true≢false, refl, sym, ◌∙◌, ap, subst}
use Rattle.std.specs.Prelude.{codes, decimal}
use Rattle.std.specs.List.{AllByRecursion, flat_map}
use Rattle.psg_grammar.specs.declared.types.Definition.{Definition}
use Rattle.psg_script.specs.declared.command.Command.{Command}
use Rattle.psg_script.specs.declared.command.Command.TheVariants.{Keep, Fetch}
use Rattle.psg_script.specs.Forms.{Spells}
use Rattle.psg_script.specs.Script.{numbers_down, declare_lines, assign_lines, script_lines as made_lines}
use Rattle.psg_session.specs.Applied.{IsAskedBy}
use Rattle.psg_session.specs.Exchanges.{Asked, IsAnswered, Outside, nobody}
use Rattle.psg_session.specs.Kept.{Asks}
use Rattle.psg_session.specs.Lines.{HasAnswered, HasBroken, at_command, at_line, to_command, to_nothing}
use Rattle.psg_session.specs.PlainState.{Answer, State}
use Rattle.psg_session.specs.Replies.{Reply}
use Rattle.psg_run.specs.declared.status.Status.{Status}
use Rattle.psg_run.specs.Chain.{Finishes, Point, Runs, breaks, closes, goes, is_played, no_room_to_begin, puts_front}
use Rattle.psg_run.specs.Chain.{rests}
use Rattle.psg_run.specs.Editing.{BreaksOff, Editor, IsSilent}
use Rattle.psg_run.specs.Generated.{Generates, TellsFive, no_room_to_tell, tells}
use Rattle.psg_run.specs.Outputs.{LeavesFiles}
use Rattle.psg_run.specs.Reading.{is_accepted, is_refused, no_room_for_definition}
use Rattle.psg_run.specs.Worlds.{Puts, PutsFront, World, not_put, put_failed, put_front, put_in_part, put_whole}

-- ---- what a line asks

-- no command of the line asks the files, in any state
abbrev AsksNothing : List ℕ → Type 0
AsksNothing line =
    (def : Definition) (s : State) (command : Command) (asked : Asked) → Spells line command → Asks def s command asked
    → ⊥

first_is_no : (line : List ℕ) (b : ℕ) (rest : List ℕ) → (get_or line 0 0 == b) ≡ false → (b == b) ≡ true
    → line ≡ b ∷ rest → ⊥
first_is_no line b rest other same is =
    true≢false (sym same ∙ sym (ap (λ l. get_or l 0 0 == b) is) ∙ other)

-- a line that begins with neither a k nor an f
asks_nothing : (line : List ℕ) → (get_or line 0 0 == 107) ≡ false → (get_or line 0 0 == 102) ≡ false → AsksNothing line
asks_nothing line no_k no_f def s (Keep name file) asked spells asks =
    first_is_no line 107 (codes "eep" ++ spells.written.0) no_k refl spells.written.1
asks_nothing line no_k no_f def s (Fetch file) asked spells asks =
    first_is_no line 102 (codes "etch" ++ spells.written.0) no_f refl spells.written.1
asks_nothing line no_k no_f def s _ asked spells asks = asks

-- ---- the made script

both_quiet : (xs ys : List (List ℕ)) → AllByRecursion AsksNothing xs → AllByRecursion AsksNothing ys
    → AllByRecursion AsksNothing (xs ++ ys)
both_quiet [] ys all more = more
both_quiet (x ∷ xs) ys (one, all) more = (one, both_quiet xs ys all more)

parts_quiet : (xs ys : List (List ℕ)) → AllByRecursion AsksNothing (xs ++ ys)
    → AllByRecursion AsksNothing xs × AllByRecursion AsksNothing ys
parts_quiet [] ys all = (tt, all)
parts_quiet (x ∷ xs) ys (one, all) = let both = parts_quiet xs ys all in ((one, both.0), both.1)

each_quiet : (f : ℕ → List (List ℕ)) → ((i : ℕ) → AllByRecursion AsksNothing (f i)) → (n : ℕ)
    → AllByRecursion AsksNothing (flat_map f (numbers_down n))
each_quiet f each zero = tt
each_quiet f each (suc i) = both_quiet (f i) (flat_map f (numbers_down i)) (each i) (each_quiet f each i)

declares : (i : ℕ) → AllByRecursion AsksNothing (declare_lines i)
declares i = (
  asks_nothing (codes "insert /0 0 vardecl v" ++ decimal i) refl refl,
  (asks_nothing (codes "refine /0/0/0 tint") refl refl, tt),
)

assigns : (i : ℕ) → AllByRecursion AsksNothing (assign_lines i)
assigns i = (
  asks_nothing (codes "insert /1 0 assign v" ++ decimal i) refl refl,
  (
    asks_nothing (codes "refine /1/0/0 plus") refl refl,
    (
      asks_nothing (codes "refine /1/0/0/0 ref v" ++ decimal i) refl refl,
      (asks_nothing (codes "refine /1/0/0/1 num " ++ decimal i) refl refl, tt),
    ),
  ),
)

made_quiet : (n : ℕ) → AllByRecursion AsksNothing (made_lines n)
made_quiet n = (
  asks_nothing (codes "new Stat") refl refl,
  (
    asks_nothing (codes "refine / block") refl refl,
    both_quiet (flat_map declare_lines (numbers_down n)) _ (each_quiet declare_lines declares n) (
      asks_nothing (codes "close /0") refl refl,
      both_quiet (flat_map assign_lines (numbers_down n)) _ (each_quiet assign_lines assigns n) (
        asks_nothing (codes "insert /1 0 while") refl refl,
        (asks_nothing (codes "menu /1/0/0") refl refl, tt),
      ),
    ),
  ),
)

-- ---- files

not_answered : (def : Definition) (s : State) (command : Command) {before after : Outside} (asked : Option Asked)
    {answer : Answer}
    → ((a : Asked) → Asks def s command a → ⊥) → IsAskedBy def s command asked → IsAnswered before after asked answer
    → after ≡ before
not_answered def s command (Some asked) never asks answers = absurd (never asked asks)
not_answered def s command None never asks (nobody same) = same

line_leaves : {def : Definition} {s t : State} {line : List ℕ} {before after : Outside} {from to : ℕ} {reply : Reply}
    → AsksNothing line → HasAnswered def s t line before after from to reply → after ≡ before
line_leaves quiet (to_nothing none state files count is) = files
line_leaves {def = def} {s = s} quiet (to_command command spells applied) =
    not_answered def s command applied.asked (λ asked. quiet def s command asked spells) applied.asks applied.answers

broken_leaves : {def : Definition} {s : State} {line : List ℕ} {before after : Outside} {from to : ℕ}
    → AsksNothing line → HasBroken def s line before after from to → after ≡ before
broken_leaves quiet (at_line files count) = files
broken_leaves quiet (at_command command spells stopped) = stopped.files

pub front_leaves : {bytes : List ℕ} {old new : World} {status : Status} → PutsFront bytes old new status
    → new.files ≡ old.files
front_leaves (put_failed front proper wrote risen) = wrote.files
front_leaves (put_in_part front proper wrote) = wrote.files
front_leaves (not_put wrote) = wrote.files

pub puts_leaves : {bytes : List ℕ} {done status : Status} {old new : World} → Puts bytes done old new status
    → new.files ≡ old.files
puts_leaves (put_whole wrote) = wrote.files
puts_leaves (put_front front) = front_leaves front

module _ (def : Definition) where
  runs_leave : {s t : Point Editor} {lines : List (List ℕ)} {texts : List ℕ} → AllByRecursion AsksNothing lines
      → Runs Editor (IsSilent def) s lines texts t → t.files ≡ s.files
  runs_leave quiet rests = refl
  runs_leave quiet (goes mid text texts played more) = runs_leave quiet.1 more ∙ line_leaves quiet.0 played.0.answers

  end_leaves : {old : World} {texts : List ℕ} {s : Point Editor} {left : List (List ℕ)} {new : World} {status : Status}
      → AllByRecursion AsksNothing left
      → Finishes Editor (IsSilent def) (BreaksOff def) (TellsFive def) old texts s left new status
      → new.files ≡ s.files
  end_leaves quiet (closes t text ended (tells lines five) puts) = puts_leaves puts
  end_leaves quiet (closes t text ended no_room_to_tell puts) = puts_leaves puts
  end_leaves quiet (puts_front t text played front) = front_leaves front ∙ line_leaves quiet.0 played.0.answers
  end_leaves quiet (breaks t broken wrote) = wrote.files ∙ broken_leaves quiet.0 broken.breaks

  generates_leaves : (number : ℕ) (old new : World) (status : Status) → Generates def number old new status
      → new.files ≡ old.files
  generates_leaves number old new status (is_played first left texts last split runs finishes) =
      let both = parts_quiet first left (subst (AllByRecursion AsksNothing) split (made_quiet number)) in
      end_leaves both.1 finishes ∙ runs_leave both.0 runs
  generates_leaves number old new status (no_room_to_begin same) = ap (λ (w : World). w.files) same

pub leaves_files : LeavesFiles
leaves_files number old new status (is_accepted def accepted run) =
    generates_leaves def number old new status run
leaves_files number old new status (is_refused line refusal puts) = puts_leaves puts
leaves_files number old new status (no_room_for_definition same) = ap (λ (w : World). w.files) same
