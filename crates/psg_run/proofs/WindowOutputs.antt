-- Lines of windows have one output, and lack none.
use Rattle.std.proofs.Common.{◌≡◌, ℕ, ◌+◌, Bool, List, [], ◌∷◌, ◌++◌, Option, Some, None, refl, sym, ◌∙◌, ap, ap₂}
use Rattle.std.proofs.Common.{subst, arith}
use Rattle.std.specs.List.{AllByRecursion}
use Rattle.psg_class.specs.Class.{IsClass}
use Rattle.psg_grammar.specs.declared.types.Definition.{Definition}
use Rattle.psg_grammar.specs.Legal.{IsCompletable}
use Rattle.psg_grammar.specs.Paths.{Path}
use Rattle.psg_grammar.specs.Sound.{IsSound}
use Rattle.psg_grammar.specs.WellFormed.{fixed_words}
use Rattle.psg_lexis.specs.Tokens.{IsFixedWord}
use Rattle.psg_script.specs.declared.command.Command.{Command}
use Rattle.psg_script.specs.Forms.{Spells}
use Rattle.psg_specimen.specs.Refusal.{IsAccepted}
use Rattle.psg_session.specs.declared.refusal.Refusal.TheVariants.{NoCommand}
use Rattle.psg_session.specs.Exchanges.{Outside}
use Rattle.psg_session.specs.Formed.{HasText, IsFormedState}
use Rattle.psg_session.specs.Laws.{KeepsForm}
use Rattle.psg_session.specs.PlainState.{Answer, State}
use Rattle.psg_session.specs.PlainStep.{Steps}
use Rattle.psg_session.specs.Replies.{Reply, refused}
use Rattle.psg_session.specs.SomeStep.{HasSomeStep}
use Rattle.psg_session.proofs.NextSteps.{has_some_step}
use Rattle.psg_session.proofs.OneStep.{step_once}
use Rattle.psg_windows.specs.Moving.{cursor_of}
use Rattle.psg_windows.specs.Resolving.{resolved}
use Rattle.psg_run.specs.Chain.{Point, Runs, rests, goes}
use Rattle.psg_run.specs.Windowed.{AnswersFor, IsCommandFor, IsPlayedFor, SpellsFor, SpellsForNone, Windowed}
use Rattle.psg_run.specs.Windowed.{cursors_after, text_for, to_none, to_window, windowed}
use Rattle.psg_run.specs.WindowLaws.{HasOneWindowOutput, HasSomeWindowOutput, HasWindowReplies, answer_for, answers_for}
use Rattle.psg_run.proofs.FormedRuns.{accepted_keeps}
use Rattle.psg_run.proofs.LineCommands.{has_text, spelled_once}
use Rattle.psg_run.proofs.OneOutput.{heads}
use Rattle.psg_run.proofs.SomeOutput.{GoesOn, commanded, not_counted}
use Rattle.psg_run.proofs.WindowNodes.{text_kept}

-- ---- one output

same_label : (w v : ℕ) (xs ys : List ℕ) → (48 + w) ∷ 32 ∷ xs ≡ (48 + v) ∷ 32 ∷ ys → (w ≡ v) × (xs ≡ ys)
same_label w v xs ys e =
    let more : 48 + w ≡ 48 + v = first_is (48 + w) (48 + v) (32 ∷ xs) (32 ∷ ys) e in
    let one : w ≡ v = omega (arith, more) in
    (one, rest_is (48 + w) (48 + v) xs ys e)
  where
    first_is : (a b : ℕ) (xs ys : List ℕ) → a ∷ xs ≡ b ∷ ys → a ≡ b
    first_is a b xs ys e = cc

    rest_is : (a b : ℕ) (xs ys : List ℕ) → a ∷ 32 ∷ xs ≡ b ∷ 32 ∷ ys → xs ≡ ys
    rest_is a b xs ys e = cc

-- a line is for one window, and spells one command for it
spelled_for_once : (line : List ℕ) (w v : ℕ) (c d : Command) → SpellsFor line w c → SpellsFor line v d
    → (v ≡ w) × (d ≡ c)
spelled_for_once line w v c d a b =
    let (one, rest) = same_label v w b.rest a.rest (sym b.is_line ∙ a.is_line) in
    (one, spelled_once a.rest d c (subst (λ l. Spells l d) rest b.spells) a.spells)

-- it asks for one command, where the cursors are the same
pub commanded_once : (cs cs' : List Path) (line : List ℕ) (w v : ℕ) (c d : Command) → IsCommandFor cs line w c
    → IsCommandFor cs' line v d → cs' ≡ cs → (v ≡ w) × (d ≡ c)
commanded_once cs cs' line w v c d a b same =
    let (one, is) = spelled_for_once line w v a.spelled b.spelled a.spells b.spells in (
      one,
      b.resolves ∙ ap (λ x. resolved (cursor_of x v) b.spelled) same ∙ ap (λ x. resolved (cursor_of cs x) b.spelled) one
          ∙ ap (λ x. resolved (cursor_of cs w) x) is ∙ sym a.resolves,
    )

same_cursors : {w v : ℕ} {c d : Command} {own own' : Path} {r r' : Reply} {cs cs' : List Path} → v ≡ w → d ≡ c
    → own' ≡ own → r' ≡ r → cs' ≡ cs → cursors_after v d own' r' cs' ≡ cursors_after w c own r cs
same_cursors {w = w} {v = v} {c = c} {d = d} {own = own} {own' = own'} {r = r} {r' = r'} {cs = cs} {cs' = cs'} one is
    at told same =
    ap (λ x. cursors_after x d own' r' cs') one ∙ ap (λ x. cursors_after w x own' r' cs') is
    ∙ ap (λ x. cursors_after w c x r' cs') at ∙ ap (λ x. cursors_after w c own x cs') told
    ∙ ap (λ x. cursors_after w c own r x) same

abbrev pub AreSame : Option ℕ → Option ℕ → Reply → Reply → Windowed → Windowed → Type 0
AreSame window window' reply reply' t t' = (window' ≡ window) × (reply' ≡ reply) × (t' ≡ t)

module _ (def : Definition) (sound : IsSound def) (is_class : IsClass def) where
  step_alike : (s s' t t' : State) (c d : Command) (answer answer' : Answer) (reply reply' : Reply)
      → Steps def (IsCompletable def) s answer c t reply → Steps def (IsCompletable def) s' answer' d t' reply'
      → s' ≡ s → d ≡ c → answer' ≡ answer → (t' ≡ t) × (reply' ≡ reply)
  step_alike s s' t t' c d answer answer' reply reply' steps steps' e is same =
      let from : Steps def (IsCompletable def) s answer' d t' reply' =
      subst (λ (x : State). Steps def (IsCompletable def) x answer' d t' reply') e steps' in
      let told : Steps def (IsCompletable def) s answer d t' reply' =
      subst (λ (x : Answer). Steps def (IsCompletable def) s x d t' reply') same from in
      let moved : Steps def (IsCompletable def) s answer c t' reply' =
      subst (λ (x : Command). Steps def (IsCompletable def) s answer x t' reply') is told in
      step_once def (IsCompletable def) s answer sound is_class moved steps

  -- a line with one answer leads from one state to one state, with one reply to one window
  pub answered_for_once : (s s' t t' : Point Windowed) (line : List ℕ) {window window' : Option ℕ} {reply reply' : Reply}
      (a : AnswersFor def s line t window reply) (b : AnswersFor def s' line t' window' reply')
      → s'.state ≡ s.state → answer_for def b ≡ answer_for def a → AreSame window window' reply reply' t.state t'.state
  answered_for_once s s' t t' line (to_none none same) (to_none none' same') e told =
      (refl, refl, ap (λ (p : Point Windowed). p.state) same' ∙ e ∙ sym (ap (λ (p : Point Windowed). p.state) same))
  answered_for_once s s' t t' line (to_none none same) (to_window w command reply is does moves input) e told =
      absurd (none w is.spelled is.spells)
  answered_for_once s s' t t' line (to_window w command reply is does moves input) (to_none none' same') e told =
      absurd (none' w is.spelled is.spells)
  answered_for_once s s' t t' line (to_window w c reply is does moves input)
      (to_window v d reply' is' does' moves' input') e told =
      let cursors : s'.state.cursors ≡ s.state.cursors = ap (λ (x : Windowed). x.cursors) e in
      let (one, command) = commanded_once s.state.cursors s'.state.cursors line w v c d is is' cursors in
      let steps = step_alike s.state.state s'.state.state t.state.state t'.state.state c d does.answer does'.answer
      reply reply' does.steps does'.steps (ap (λ (x : Windowed). x.state) e) command told in
      let own : t'.state.state.cursor ≡ t.state.state.cursor = ap (λ (x : State). x.cursor) steps.0 in (
        ap Some one,
        steps.1,
        ap₂ windowed steps.0 (moves' ∙ same_cursors one command own steps.1 cursors ∙ sym moves),
      )

  pub same_text : {window window' : Option ℕ} {reply reply' : Reply} → window' ≡ window → reply' ≡ reply
      → text_for window' reply' ≡ text_for window reply
  same_text {window = window} {reply' = reply'} one told =
      ap (λ x. text_for x reply') one ∙ ap (λ x. text_for window x) told

  windows_once : {s s' t t' : Point Windowed} {lines : List (List ℕ)} {texts texts' : List ℕ}
      (a : Runs Windowed (IsPlayedFor def) s lines texts t) (b : Runs Windowed (IsPlayedFor def) s' lines texts' t')
      → s'.state ≡ s.state → answers_for def b ≡ answers_for def a → (texts' ≡ texts) × (t'.state ≡ t.state)
  windows_once rests rests e same = (refl, e)
  windows_once {s = s} {s' = s'} (goes {line = line} mid text texts played more)
      (goes mid' text' texts' played' more') e same =
      let both = heads (answer_for def played'.answers) (answer_for def played.answers) (answers_for def more')
      (answers_for def more) same in
      let (window, reply, state) = answered_for_once s s' mid mid' line played.answers played'.answers e both.0 in
      let behind_it = windows_once more more' state both.1 in
      (ap₂ (λ x y. x ++ y) (played'.put ∙ same_text window reply ∙ sym played.put) behind_it.0, behind_it.1)

  pub has_one_window_output : HasOneWindowOutput def
  has_one_window_output s s' t t' lines texts texts' a b e same = windows_once a b e same

-- ---- some output

abbrev window_after : Point Windowed → ℕ → Command → State → Reply → Outside → Point Windowed
window_after s w command next reply files = record {
  state = windowed next (cursors_after w command next.cursor reply s.state.cursors);
  files = files;
  input = s.input;
  ticks = s.ticks;
}

module _ (def : Definition) (some : HasSomeStep def (IsCompletable def)) (keeps : KeepsForm def (IsCompletable def)) where
  abbrev WindowsNeverLack : List (List ℕ) → Type 0
  WindowsNeverLack lines =
      (s : Point Windowed) (fails : List Bool) → IsFormedState def s.state.state
      → (HasWindowReplies def s lines fails → ⊥) → ⊥

  module _ (line : List ℕ) (rest : List (List ℕ)) (s : Point Windowed) (formed : IsFormedState def s.state.state)
      (more : WindowsNeverLack rest) (w : ℕ) (spelled : Command) (spells : SpellsFor line w spelled)
      (command : Command) (is : command ≡ resolved (cursor_of s.state.cursors w) spelled) (text : HasText command) where
    -- the command of the window is answered, and the run goes on
    by_answer : (fails : List Bool)
        → GoesOn def s.state.state s.files command fails (HasWindowReplies def s (line ∷ rest) fails)
    by_answer fails asked answer after left asks answers read_by fail none =
        some s.state.state command s.files after asked answer text formed asks answers
        (λ h. more (window_after s w command h.next h.reply after) left
        (keeps s.state.state h.next answer command h.reply text formed h.steps)
        (λ r. none (record {
          texts = text_for (Some w) h.reply ++ r.texts;
          end = r.end;
          runs = goes (window_after s w command h.next h.reply after) (text_for (Some w) h.reply) r.texts (record {
            window = Some w;
            reply = h.reply;
            answers = to_window w command h.reply (record {
              spelled = spelled;
              spells = spells;
              resolves = is;
            }) (record {
              asked = asked;
              asks = asks;
              answer = answer;
              answers = answers;
              steps = h.steps;
              ticked = not_counted def s.state.state command answer s.ticks read_by;
            }) refl refl;
            put = refl;
          }) r.runs;
          fail = fail (answers_for def r.runs) r.fail;
        })))

  windows_never_lack : (lines : List (List ℕ)) → WindowsNeverLack lines
  windows_never_lack [] s fails formed none = none (record { texts = []; end = s; runs = rests; fail = tt })
  windows_never_lack (line ∷ rest) s fails formed none =
      let never : SpellsForNone line =
      λ w spelled spells. commanded def s.state.state s.files (resolved (cursor_of s.state.cursors w) spelled) fails
      (by_answer line rest s formed (windows_never_lack rest) w spelled spells
      (resolved (cursor_of s.state.cursors w) spelled) refl
      (text_kept (cursor_of s.state.cursors w) spelled (has_text spelled spells.rest spells.spells)) fails) none in
      windows_never_lack rest s fails formed
      (λ r. none (record {
        texts = text_for None (refused NoCommand) ++ r.texts;
        end = r.end;
        runs = goes s (text_for None (refused NoCommand)) r.texts
            (record { window = None; reply = refused NoCommand; answers = to_none never refl; put = refl }) r.runs;
        fail = r.fail;
      }))

pub has_some_window_output : (def : Definition) → IsSound def → AllByRecursion IsFixedWord (fixed_words def)
    → IsAccepted def → HasSomeWindowOutput def
has_some_window_output def sound words accepted s lines fails formed none =
    windows_never_lack def (has_some_step def sound words accepted.of_class (IsCompletable def))
    (accepted_keeps def sound accepted) lines s fails formed none
