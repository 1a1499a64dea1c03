-- No lines lack an output, whichever calls of the files fail.
use Rattle.std.proofs.Common.{◌≡◌, ℕ, zero, suc, ◌+◌, ◌≤◌, Bool, true, false, List, [], ◌∷◌, ◌++◌, length, take, Option}
use Rattle.std.proofs.Common.{Some, None, IfSome, option_map, refl, arith}
use Rattle.std.specs.FinMap as map
use Rattle.std.specs.List.{AllByRecursion}
use Rattle.psg_terms.specs.Names.{Name}
use Rattle.psg_world.specs.Files.{bytes_of, front_of, Held, reading, writing}
use Rattle.psg_grammar.specs.declared.types.Definition.{Definition}
use Rattle.psg_grammar.specs.Legal.{IsCompletable}
use Rattle.psg_grammar.specs.Sound.{IsSound}
use Rattle.psg_grammar.specs.WellFormed.{fixed_words}
use Rattle.psg_lexis.specs.Tokens.{IsFixedWord}
use Rattle.psg_library.specs.Keeping.{uncounted}
use Rattle.psg_script.specs.declared.command.Command.{Command}
use Rattle.psg_script.specs.Forms.{Spells}
use Rattle.psg_specimen.specs.Refusal.{IsAccepted}
use Rattle.psg_session.specs.declared.refusal.Refusal.TheVariants.{NoCommand}
use Rattle.psg_session.specs.Applied.{IsAskedBy}
use Rattle.psg_session.specs.Exchanges.{Asked, fetching, gets, IsAnswered, keeping, loses_fetch, loses_keep}
use Rattle.psg_session.specs.Exchanges.{most_kept_bytes, nobody, Outside, stores}
use Rattle.psg_session.specs.Formed.{IsFormedState}
use Rattle.psg_session.specs.Kept.{Asks, MayRead}
use Rattle.psg_session.specs.Laws.{KeepsForm}
use Rattle.psg_session.specs.Lines.{to_nothing, to_command}
use Rattle.psg_session.specs.PlainState.{Answer, got, lost, not_asked, State, stored}
use Rattle.psg_session.specs.Replies.{Reply, refused, reply_text}
use Rattle.psg_session.specs.SomeStep.{HasSomeStep}
use Rattle.psg_session.specs.Ticks.{HasTickedWith}
use Rattle.psg_session.proofs.NextSteps.{has_some_step}
use Rattle.psg_session.proofs.Ticking.{quiet}
use Rattle.psg_run.specs.Chain.{Point, rests, goes}
use Rattle.psg_run.specs.Editing.{Editor}
use Rattle.psg_run.specs.Outputs.{answers_in, FailBy, HasReplies, HasSomeOutput}
use Rattle.psg_run.proofs.FormedRuns.{accepted_keeps}
use Rattle.psg_run.proofs.LineCommands.{has_text}

-- ---- files

take_short : (n : ℕ) (xs : List ℕ) → length (take n xs) ≤ n
take_short zero xs = omega arith
take_short (suc n) [] = omega arith
take_short (suc n) (x ∷ xs) = omega (arith, take_short n xs)

-- what a fetch gets: the first bytes of the file, where it is known what the files hold, and none otherwise
got_of : Option Held → Name → List ℕ
got_of None file = []
got_of (Some held) file = front_of most_kept_bytes (bytes_of held file)

got_short : (known : Option Held) (file : Name) → length (got_of known file) ≤ most_kept_bytes + 1
unfolding got_of
got_short None file = omega arith
got_short (Some held) file = take_short (most_kept_bytes + 1) (bytes_of held file)

got_known : (known : Option Held) (file : Name)
    → IfSome known (λ held. got_of known file ≡ front_of most_kept_bytes (bytes_of held file))
unfolding got_of
got_known None file = tt
got_known (Some held) file = refl

abbrev files_with : Outside → Name → List ℕ → Outside
files_with files file bytes = record {
  held = option_map (λ held. map.insert held file bytes) files.held;
  entries = files.entries;
}

abbrev files_without : Outside → Name → Outside
files_without files file = record { held = files.held; entries = files.entries ++ writing file ∷ [] }

abbrev files_unread : Outside → Name → Outside
files_unread files file = record { held = files.held; entries = files.entries ++ reading file ∷ [] }

-- ---- lines

-- the point after a line, at which nothing was counted
abbrev point_after : Point Editor → State → Reply → Outside → Point Editor
point_after s state reply files = record {
  state = record { state = state; reply = reply };
  files = files;
  input = s.input;
  ticks = s.ticks;
}

pub not_counted : (def : Definition) (s : State) (command : Command) (answer : Answer) (count : ℕ)
    → MayRead def answer 0
    → HasTickedWith def s answer command count count
not_counted def s command answer count read_by =
    let h = quiet def s command count count refl in
    let whole : h.taken ≡ h.taken + 0 = omega arith in
    record {
      taken = h.taken;
      counted = h.counted;
      within = record { taken = h.taken; read = 0; whole = whole; within = h.within; reading = read_by };
    }

-- ---- one command

module _ (def : Definition) (s : State) (files : Outside) (command : Command) where
  -- with each answer of the files that the command may get, P is not refuted
  abbrev pub GoesOn : List Bool → Type 0 → Type 0
  GoesOn fails P = (asked : Option Asked) (answer : Answer) (after : Outside) (left : List Bool)
      → IsAskedBy def s command asked → IsAnswered files after asked answer → MayRead def answer 0
      → ((answers : List Answer) → FailBy def left answers → FailBy def fails (answer ∷ answers)) → (P → ⊥) → ⊥

  -- the files answer, and do not fail
  well : {P : Type 0} (asked : Asked) (fails left : List Bool) → GoesOn fails P → Asks def s command asked
      → ((answers : List Answer) → FailBy def left answers → FailBy def fails (stored ∷ answers))
      → ((bytes : List ℕ) (answers : List Answer) → FailBy def left answers → FailBy def fails (got bytes ∷ answers))
      → (P → ⊥) → ⊥
  well (keeping file bytes) fails left go asks if_stored if_got none =
      go (Some (keeping file bytes)) stored (files_with files file bytes) left asks (stores refl refl) refl if_stored none
  well (fetching file) fails left go asks if_stored if_got none =
      go (Some (fetching file)) (got (got_of files.held file)) files left asks
      (gets refl (got_short files.held file) (got_known files.held file)) (uncounted refl)
      (if_got (got_of files.held file)) none

  -- the files fail
  badly : {P : Type 0} (asked : Asked) (left : List Bool) → GoesOn (true ∷ left) P → Asks def s command asked
      → (P → ⊥) → ⊥
  badly (keeping file bytes) left go asks none =
      go (Some (keeping file bytes)) lost (files_without files file) left asks (loses_keep refl refl) refl
      (λ answers h. h) none
  badly (fetching file) left go asks none =
      go (Some (fetching file)) lost (files_unread files file) left asks (loses_fetch refl refl) refl (λ answers h. h)
      none

  asking : {P : Type 0} (asked : Asked) (fails : List Bool) → GoesOn fails P → Asks def s command asked → (P → ⊥) → ⊥
  asking asked [] go asks none = well asked [] [] go asks (λ answers h. h) (λ bytes answers h. h) none
  asking asked (true ∷ fails) go asks none = badly asked fails go asks none
  asking asked (false ∷ fails) go asks none =
      well asked (false ∷ fails) fails go asks (λ answers h. h) (λ bytes answers h. h) none

  pub commanded : {P : Type 0} (fails : List Bool) → GoesOn fails P → (P → ⊥) → ⊥
  commanded fails go none =
      go None not_asked files fails (λ asked asks. asking asked fails go asks none) (nobody refl) refl (λ answers h. h)
      none

-- ---- all lines

module _ (def : Definition) (some : HasSomeStep def (IsCompletable def))
    (keeps : KeepsForm def (IsCompletable def)) where
  -- the lines do not lack replies from any state
  abbrev NeverLack : List (List ℕ) → Type 0
  NeverLack lines =
      (s : Point Editor) (fails : List Bool) → IsFormedState def s.state.state
      → (HasReplies def s lines fails → ⊥) → ⊥

  module _ (line : List ℕ) (rest : List (List ℕ)) (s : Point Editor) (formed : IsFormedState def s.state.state)
      (more : NeverLack rest) (command : Command) (spells : Spells line command) where
    -- the command is answered, and the run goes on
    by_answer : (fails : List Bool)
        → GoesOn def s.state.state s.files command fails (HasReplies def s (line ∷ rest) fails)
    by_answer fails asked answer after left asks answers read_by fail none =
        some s.state.state command s.files after asked answer (has_text command line spells) formed asks answers
        (λ h. more (point_after s h.next h.reply after) left
        (keeps s.state.state h.next answer command h.reply (has_text command line spells) formed h.steps)
        (λ r. none (record {
          texts = reply_text h.reply ++ r.texts;
          end = r.end;
          runs = goes (point_after s h.next h.reply after) (reply_text h.reply) r.texts (
            record {
              answers = to_command command spells (record {
                asked = asked;
                asks = asks;
                answer = answer;
                answers = answers;
                steps = h.steps;
                ticked = not_counted def s.state.state command answer s.ticks read_by;
              });
              input = refl;
            },
            refl,
          ) r.runs;
          fail = fail (answers_in def r.runs) r.fail;
        })))

  never_lack : (lines : List (List ℕ)) → NeverLack lines
  never_lack [] s fails formed none = none (record { texts = []; end = s; runs = rests; fail = tt })
  never_lack (line ∷ rest) s fails formed none =
      let never : (command : Command) → Spells line command → ⊥ =
      λ command spells. commanded def s.state.state s.files command fails
      (by_answer line rest s formed (never_lack rest) command spells fails) none in
      never_lack rest (point_after s s.state.state (refused NoCommand) s.files) fails formed
      (λ r. none (record {
        texts = reply_text (refused NoCommand) ++ r.texts;
        end = r.end;
        runs = goes (point_after s s.state.state (refused NoCommand) s.files) (reply_text (refused NoCommand)) r.texts
            (record { answers = to_nothing never refl refl refl refl; input = refl }, refl) r.runs;
        fail = r.fail;
      }))

pub has_some_output : (def : Definition) → IsSound def → AllByRecursion IsFixedWord (fixed_words def) → IsAccepted def
    → HasSomeOutput def
has_some_output def sound words accepted s lines fails formed none =
    never_lack def (has_some_step def sound words accepted.of_class (IsCompletable def))
    (accepted_keeps def sound accepted) lines s fails formed none
