use Rattle.std.proofs.Common.{rules, Err, ◌≡◌, ◌∙◌, ◌∷◌, [], inl, List, refl, sym, subst}
use Rattle.std.specs.List.{AllByRecursion}
use Rattle.std.proofs.lemmas.Option.{slice_get_within}
use Rattle.psg_grammar.specs.declared.types.Kind.TheVariants as kinds
use Rattle.psg_grammar.specs.Fragments.{cell}
use Rattle.psg_eval.specs.declared.summary.SummaryParts.{SummaryParts}
use Rattle.psg_eval.specs.Partials.{IsPartial}
use Rattle.psg_eval.specs.Stages.{kinds_of, IsCellStart}
use Rattle.psg_eval.specs.StepRows.{AreSteps, Grows, MatchSteps}
use Rattle.psg_eval.specs.Summaries.{IsSummary}
use Rattle.psg_eval.proofs.CellRows.{start_made, start_partial, start_wide}
use Rattle.psg_eval.proofs.Numbers.{numbered_fault, numbered_step}
use Rattle.psg_eval.proofs.StepLists.{cell_grows, done_all, grown_fault, open_steps, step_fault}
use Rattle.psg_eval.proofs.steps.both_steps.Goals as goal
use Rattle.psg_eval.proofs.steps.both_steps.Goals.{After-as_slice-children}

same : (c : After-as_slice-children) → c.as_slice-children.result.now ≡ c.args.element.now ∷ c.args.rest.now ∷ []
same c = c.as_slice-children.ensures.value ∙ c.in_ok-both.ensures

pub cell_start-requires-clause-there : goal.cell_start-requires-clause-there
cell_start-requires-clause-there c = slice_get_within c.args.definition.now.lists c.args.list c.requires.takes.list c.requires.takes.found

pub grow-requires-clause-partial : goal.grow-requires-clause-partial
grow-requires-clause-partial c =
    let def = c.args.definition.now in
    let first = c.in_ok-first.first in (
      kinds.List c.args.list,
      subst (λ (cs : List SummaryParts). IsPartial def (kinds.List c.args.list) (kinds_of cs) first) (sym (same (goal.at.grow-requires-clause-partial c).After-as_slice-children))
          (start_partial def c.args.list c.args.element.now c.args.rest.now c.requires.takes c.cell_start.result first c.in_ok-first.ensures c.cell_start.ensures.partial),
    )

pub grow-requires-clause-summaries : goal.grow-requires-clause-summaries
grow-requires-clause-summaries c =
    subst (AllByRecursion (IsSummary c.args.definition.now)) (sym (same (goal.at.grow-requires-clause-summaries c).After-as_slice-children)) c.requires.takes.summaries

pub returns-in_err-first : goal.returns-in_err-first
returns-in_err-first c = λ e r one two.
    let def = c.args.definition.now in
    let l = c.args.list in
    let fault = c.in_err-first.field-0.0 in
    let d : c.from_residual.result ≡ Err fault = search rules in
    subst (MatchSteps def (cell l e r)) (sym d)
    (step_fault def (cell l e r) 0 fault
    (numbered_fault def (cell l e r) 0 (IsCellStart def l) c.cell_start.result 0 fault c.in_err-first.ensures c.cell_start.ensures.step
    (start_wide def c.requires.sound l e r c.args.element.now c.args.rest.now one two)))

pub returns-in_err-made : goal.returns-in_err-made
returns-in_err-made c = λ e r one two.
    let def = c.args.definition.now in
    let l = c.args.list in
    let element = c.args.element.now in
    let rest = c.args.rest.now in
    let first = c.in_ok-first.first in
    let fault = c.in_err-made.field-0.0 in
    let d : c.from_residual-in_err-made.result ≡ Err fault = search rules in
    let start = numbered_step (IsCellStart def l) c.cell_start.result 0 first c.in_ok-first.ensures c.cell_start.ensures.step in
    let children = same (goal.at.returns-in_err-made c).After-as_slice-children in
    subst (MatchSteps def (cell l e r)) (sym d)
    (grown_fault def (cell l e r) fault
    (c.in_err-made.ensures.steps (cell l e r) (subst (Grows def (cell l e r)) (sym children) (cell_grows def l e r element rest c.requires.takes.rest_kind one two))
    (start_made def c.requires.sound l e r element rest one two first start.0 start.1)))

pub returns : goal.returns
returns c = λ e r one two.
    let def = c.args.definition.now in
    let l = c.args.list in
    let element = c.args.element.now in
    let rest = c.args.rest.now in
    let first = c.in_ok-first.first in
    let made = c.in_ok-made.made in
    let start = numbered_step (IsCellStart def l) c.cell_start.result 0 first c.in_ok-first.ensures c.cell_start.ensures.step in
    let children = same (goal.at.returns c).After-as_slice-children in
    let grows = subst (Grows def (cell l e r)) (sym children) (cell_grows def l e r element rest c.requires.takes.rest_kind one two) in
    subst (AreSteps def (cell l e r)) (sym c.in_ok-all.ensures)
    (open_steps def (cell l e r) made.before.items made.last (c.in_ok-made.ensures.steps (cell l e r) grows (start_made def c.requires.sound l e r element rest one two first start.0 start.1)) (inl refl)
    (done_all (cell l e r) c.as_slice-children.result.now made.before.items made.last grows.count c.in_ok-made.ensures.ended))
