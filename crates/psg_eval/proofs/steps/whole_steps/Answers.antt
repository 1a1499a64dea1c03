use Rattle.std.proofs.Common.{rules, Err, ◌≡◌, ◌+◌, ◌∙◌, inl, inr, ◌++◌, ◌∷◌, [], true, false, true≢false, ap, length, List, sym, subst}
use Rattle.psg_eval.specs.declared.steps.StepRows.{StepRows}
use Rattle.psg_eval.specs.Outside.{IsClosed}
use Rattle.psg_eval.specs.StepRows.{AreSteps, MatchSteps}
use Rattle.psg_eval.proofs.Numbers.{numbered_fault, numbered_step}
use Rattle.psg_eval.proofs.StepLists.{closed_steps, closing_wide, done_many, not_false, open_steps, over_open, step_fault, step_of}
use Rattle.psg_eval.specs.Summaries.{IsFirstPassing}
use Rattle.psg_eval.proofs.steps.whole_steps.Goals as goal
use Rattle.psg_eval.proofs.steps.whole_steps.Goals.{After-is_over}

-- there are rows, where the operator is not over
rows : (c : After-is_over) → c.is_over.result ≡ false → c.args.grown.last.rel ≡ [] → ⊥
rows c more none = true≢false (sym (c.is_over.ensures.1 (inr none)) ∙ more)

is_scoped : (c : After-is_over) → c.is_over.result ≡ false → c.args.scope ≡ true
is_scoped c more = not_false c.args.scope (λ e. true≢false (sym (c.is_over.ensures.1 (inl e)) ∙ more))

pub returns-then-is_over : goal.returns-then-is_over
returns-then-is_over c = λ f parts scope is done.
    let def = c.args.definition.now in
    subst (AreSteps def f) (sym c.in_ok-all.ensures)
    (open_steps def f c.args.grown.before.items c.args.grown.last is (over_open def f c.args.scope c.args.grown.last scope (c.is_over.ensures.0 c.if-is_over.true)) done)

pub closed-requires : goal.closed-requires
closed-requires c = c.requires.partial (rows (goal.at.closed-requires c).After-is_over c.if-is_over.false)

pub returns-in_err-outside : goal.returns-in_err-outside
returns-in_err-outside c = λ f parts scope is done.
    let def = c.args.definition.now in
    let before = c.args.grown.before.items in
    let last = c.args.grown.last in
    let some = rows (goal.at.returns-in_err-outside c).After-is_over c.if-is_over.false in
    let n = length c.as_slice-made.result.now + 1 in
    let fault = c.in_err-outside.field-0.0 in
    let d : c.from_residual-in_err-outside.result ≡ Err fault = search rules in
    subst (MatchSteps def f) (sym d)
    (step_fault def f 0 fault
    (numbered_fault def f 0 (IsClosed def last) c.closed.result n fault c.in_err-outside.ensures c.closed.ensures.step
    (λ h rs same passes. subst (λ (b : List StepRows). IsFirstPassing def f (length b + 1)) (sym c.as_slice-made.ensures.value)
    (closing_wide def f before last is parts (scope ∙ is_scoped (goal.at.returns-in_err-outside c).After-is_over c.if-is_over.false) (done_many f before last some done) h rs same passes))))

pub returns : goal.returns
returns c = λ f parts scope is done.
    let def = c.args.definition.now in
    let before = c.args.grown.before.items in
    let last = c.args.grown.last in
    let some = rows (goal.at.returns c).After-is_over c.if-is_over.false in
    let n = length c.as_slice-made.result.now + 1 in
    let outside = c.in_ok-outside.outside in
    let step = numbered_step (IsClosed def last) c.closed.result n outside c.in_ok-outside.ensures c.closed.ensures.step in
    let all : c.push.new.self.items ≡ (before ++ step_of last ∷ []) ++ step_of outside ∷ [] =
    c.in_ok-push.ensures.items ∙ ap (λ (x : StepRows). c.in_ok-whole.whole.items ++ x ∷ []) c.rows_of-step.ensures ∙ ap (λ (xs : List StepRows). xs ++ step_of outside ∷ []) c.in_ok-whole.ensures in
    subst (AreSteps def f) (sym all)
    (closed_steps def f before last is parts (scope ∙ is_scoped (goal.at.returns c).After-is_over c.if-is_over.false) (done_many f before last some done) some outside step.0 step.1)
