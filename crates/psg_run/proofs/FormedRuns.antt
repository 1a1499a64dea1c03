-- Lines lead to states whose trees are printable and of their kinds.
use Rattle.std.proofs.Common.{ℕ, List, sym, subst}
use Rattle.psg_grammar.specs.declared.types.Definition.{Definition}
use Rattle.psg_grammar.specs.Legal.{IsCompletable}
use Rattle.psg_grammar.specs.Sound.{IsSound}
use Rattle.psg_specimen.specs.Refusal.{IsAccepted}
use Rattle.psg_session.specs.Exchanges.{Outside}
use Rattle.psg_session.specs.Formed.{IsFormedState}
use Rattle.psg_session.specs.Laws.{KeepsForm}
use Rattle.psg_session.specs.Lines.{HasAnswered, to_nothing, to_command}
use Rattle.psg_session.specs.PlainState.{State}
use Rattle.psg_session.specs.Replies.{Reply}
use Rattle.psg_session.proofs.FormedSteps.{keeps_form}
use Rattle.psg_session.proofs.NewTrees.{quiet_slots}
use Rattle.psg_run.specs.Chain.{Point, Runs, rests, goes}
use Rattle.psg_run.specs.Editing.{Editor, IsReplied}
use Rattle.psg_run.specs.Outputs.{KeepsForms}
use Rattle.psg_run.proofs.LineCommands.{has_text}

module _ (def : Definition) (keeps : KeepsForm def (IsCompletable def)) where
  line_keeps : {s t : State} {line : List ℕ} {before after : Outside} {from to : ℕ} {reply : Reply}
      → HasAnswered def s t line before after from to reply → IsFormedState def s → IsFormedState def t
  line_keeps (to_nothing none state files count is) formed = subst (IsFormedState def) (sym state) formed
  line_keeps {s = s} {t = t} {line = line} {reply = reply} (to_command command spells applied) formed =
      keeps s t applied.answer command reply (has_text command line spells) formed applied.steps

  runs_keep : {s t : Point Editor} {lines : List (List ℕ)} {texts : List ℕ}
      → Runs Editor (IsReplied def) s lines texts t → IsFormedState def s.state.state → IsFormedState def t.state.state
  runs_keep rests formed = formed
  runs_keep (goes mid text texts played more) formed = runs_keep more (line_keeps played.0.answers formed)

-- the steps of an accepted definition's editor keep the forms
pub accepted_keeps : (def : Definition) → IsSound def → IsAccepted def → KeepsForm def (IsCompletable def)
accepted_keeps def sound accepted = keeps_form def (IsCompletable def) sound (quiet_slots def accepted)

pub has_kept_forms : (def : Definition) → IsSound def → IsAccepted def → KeepsForms def
has_kept_forms def sound accepted s t lines texts runs formed =
    runs_keep def (accepted_keeps def sound accepted) runs formed
