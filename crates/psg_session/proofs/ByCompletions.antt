-- In an accepted definition's editor the steps by the open judgement are those by legal completions.
use Rattle.psg_grammar.specs.declared.types.Definition.{Definition}
use Rattle.psg_grammar.specs.Legal.{IsCompletable}
use Rattle.psg_grammar.specs.Open.{IsOpen}
use Rattle.psg_grammar.specs.Sound.{IsSound}
use Rattle.psg_completions.specs.Completions.{MarkedByCompletions, OpenOrCompletable}
use Rattle.psg_menu.specs.Menus.{HasQuietSlots}
use Rattle.psg_completions.proofs.Law.{open_or_completable}
use Rattle.psg_completions.proofs.MarkLaws.{marked_by_completions}
use Rattle.psg_specimen.specs.Refusal.{IsAccepted}
use Rattle.psg_specimen.proofs.TrueRows.{true_rows}
use Rattle.psg_session.proofs.NewTrees.{quiet_slots}
use Rattle.psg_session.specs.Good.{IsGoodIn}
use Rattle.psg_session.specs.Laws.{KeepsForm, StepsByCompletions}
use Rattle.psg_session.proofs.FormedSteps.{keeps_form}
use Rattle.psg_session.proofs.SameSteps.{same_step}

module _ (def : Definition) (sound : IsSound def) (slots : HasQuietSlots def)
    (trees : OpenOrCompletable def) (marked : MarkedByCompletions def) where
  pub steps_by_completions : StepsByCompletions def
  steps_by_completions s t answer command reply text formed = (
    same_step def (IsOpen def) (IsCompletable def) sound slots (λ f kind h. trees f kind h)
        (λ f kind h mark is. (marked f kind h mark).0 is) s answer formed text,
    same_step def (IsCompletable def) (IsOpen def) sound slots
        (λ f kind h. ((trees f kind h).1, (trees f kind h).0)) (λ f kind h mark is. (marked f kind h mark).1 is) s answer
        formed text,
  )

-- ---- of an accepted definition

pub accepted_forms : (def : Definition) → IsSound def → IsAccepted def → KeepsForm def (IsGoodIn def)
accepted_forms def sound accepted = keeps_form def (IsGoodIn def) sound (quiet_slots def accepted)

pub accepted_steps : (def : Definition) → IsSound def → IsAccepted def → StepsByCompletions def
accepted_steps def sound accepted =
    let rows = true_rows def accepted.met in
    steps_by_completions def sound (quiet_slots def accepted) (open_or_completable def sound rows)
    (marked_by_completions def sound rows)
