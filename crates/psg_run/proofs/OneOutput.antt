-- Lines have one output.
use Rattle.std.proofs.Common.{◌≡◌, ℕ, List, [], ◌∷◌, ◌++◌, refl, sym, ◌∙◌, ap, ap₂, subst, append_assoc}
use Rattle.psg_grammar.specs.declared.types.Definition.{Definition}
use Rattle.psg_grammar.specs.Legal.{IsCompletable}
use Rattle.psg_grammar.specs.Sound.{IsSound}
use Rattle.psg_class.specs.Class.{IsClass}
use Rattle.psg_script.specs.declared.command.Command.{Command}
use Rattle.psg_script.specs.Forms.{Spells}
use Rattle.psg_session.specs.Exchanges.{Outside}
use Rattle.psg_session.specs.Lines.{HasAnswered, to_nothing, to_command}
use Rattle.psg_session.specs.PlainState.{State, Answer}
use Rattle.psg_session.specs.PlainStep.{Steps}
use Rattle.psg_session.specs.Replies.{Reply, reply_text}
use Rattle.psg_session.proofs.OneStep.{step_once}
use Rattle.psg_run.specs.Chain.{Point, Runs, rests, goes}
use Rattle.psg_run.specs.Editing.{Editor, IsReplied}
use Rattle.psg_run.specs.Outputs.{HasOneOutput, answer_in, answers_in}
use Rattle.psg_run.specs.Worlds.{IsFrontOf}
use Rattle.psg_run.proofs.LineCommands.{spelled_once}

pub heads : {A : Type 0} (x y : A) (xs ys : List A) → x ∷ xs ≡ y ∷ ys → (x ≡ y) × (xs ≡ ys)
heads x y xs ys e = (cc, cc)

module _ (def : Definition) (sound : IsSound def) (is_class : IsClass def) where
  -- one command with one answer leads from one state to one state, with one reply
  pub stepped_once : (s s' t t' : State) (line : List ℕ) (c d : Command) (answer answer' : Answer)
      (reply reply' : Reply)
      → Spells line c → Spells line d → Steps def (IsCompletable def) s answer c t reply
      → Steps def (IsCompletable def) s' answer' d t' reply' → s' ≡ s → answer' ≡ answer → (t' ≡ t) × (reply' ≡ reply)
  stepped_once s s' t t' line c d answer answer' reply reply' spells spells' steps steps' e same =
      let from : Steps def (IsCompletable def) s answer' d t' reply' =
      subst (λ (x : State). Steps def (IsCompletable def) x answer' d t' reply') e steps' in
      let told : Steps def (IsCompletable def) s answer d t' reply' =
      subst (λ (x : Answer). Steps def (IsCompletable def) s x d t' reply') same from in
      let moved : Steps def (IsCompletable def) s answer c t' reply' =
      subst (λ (x : Command). Steps def (IsCompletable def) s answer x t' reply')
      (spelled_once line d c spells' spells) told in
      step_once def (IsCompletable def) s answer sound is_class moved steps

  -- a line with one answer leads from one state to one state, with one reply
  pub answered_once : {s s' t t' : State} {line : List ℕ} {before after before' after' : Outside}
      {from to from' to' : ℕ} {reply reply' : Reply}
      (a : HasAnswered def s t line before after from to reply)
      (b : HasAnswered def s' t' line before' after' from' to' reply')
      → s' ≡ s → answer_in def b ≡ answer_in def a → (t' ≡ t) × (reply' ≡ reply)
  answered_once (to_nothing none state files count is) (to_nothing none' state' files' count' is') e same =
      (state' ∙ e ∙ sym state, is' ∙ sym is)
  answered_once (to_nothing none state files count is) (to_command d spells' applied') e same = absurd (none d spells')
  answered_once (to_command c spells applied) (to_nothing none' state' files' count' is') e same =
      absurd (none' c spells)
  answered_once {s = s} {s' = s'} {t = t} {t' = t'} {line = line} {reply = reply} {reply' = reply'}
      (to_command c spells applied) (to_command d spells' applied') e same =
      stepped_once s s' t t' line c d applied.answer applied'.answer reply reply' spells spells' applied.steps
      applied'.steps e same

  -- lines that lead from one state, with the same answers, have one output
  pub runs_once : {s s' t t' : Point Editor} {lines : List (List ℕ)} {texts texts' : List ℕ}
      (a : Runs Editor (IsReplied def) s lines texts t) (b : Runs Editor (IsReplied def) s' lines texts' t')
      → s'.state.state ≡ s.state.state → answers_in def b ≡ answers_in def a
      → (texts' ≡ texts) × (t'.state.state ≡ t.state.state)
  runs_once rests rests e same = (refl, e)
  runs_once (goes mid text texts played more) (goes mid' text' texts' played' more') e same =
      let both = heads (answer_in def played'.0.answers) (answer_in def played.0.answers) (answers_in def more')
      (answers_in def more) same in
      let once = answered_once played.0.answers played'.0.answers e both.0 in
      let behind_it = runs_once more more' once.0 both.1 in
      (ap₂ (λ x y. x ++ y) (played'.1 ∙ ap reply_text once.1 ∙ sym played.1) behind_it.0, behind_it.1)

  -- with fewer lines, and the first of the answers, they have a front of the output
  pub runs_front : (first more : List (List ℕ)) {s s' t t' : Point Editor} {texts texts' : List ℕ}
      (answers : List Answer)
      (a : Runs Editor (IsReplied def) s first texts t) (b : Runs Editor (IsReplied def) s' (first ++ more) texts' t')
      → s'.state.state ≡ s.state.state → answers_in def b ≡ answers_in def a ++ answers → IsFrontOf texts texts'
  runs_front [] more {texts' = texts'} answers rests b e same = (texts', refl)
  runs_front (line ∷ rest) more answers (goes mid text texts played a) (goes mid' text' texts' played' b) e same =
      let both = heads (answer_in def played'.0.answers) (answer_in def played.0.answers) (answers_in def b)
      (answers_in def a ++ answers) same in
      let once = answered_once played.0.answers played'.0.answers e both.0 in
      let (left, is) = runs_front rest more answers a b once.0 both.1 in
      let one_text = played'.1 ∙ ap reply_text once.1 ∙ sym played.1 in
      (left, ap₂ (λ x y. x ++ y) one_text is ∙ sym (append_assoc text texts left))

  pub has_one_output : HasOneOutput def
  has_one_output = record {
    whole = λ s s' t t' lines texts texts' a b e same. runs_once a b e same;
    front = λ s s' t t' first more texts texts' answers a b e same. runs_front first more answers a b e same;
  }
