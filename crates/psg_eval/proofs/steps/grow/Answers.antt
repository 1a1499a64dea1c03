use Rattle.std.proofs.Common.{rules, Err, ◌≡◌, ◌+◌, ◌∙◌, inl, inr, ◌++◌, ◌∷◌, [], ap, length, length-append, drop, List, sym, subst, true≢false, arith}
use Rattle.psg_terms.proofs.Lists.{each_at}
use Rattle.psg_eval.specs.declared.steps.StepRows.{StepRows}
use Rattle.psg_eval.specs.Partials.{IsAdded, IsPartial}
use Rattle.psg_eval.specs.Stages.{kinds_of}
use Rattle.psg_eval.specs.StepRows.{IsGrown, MatchGrown}
use Rattle.psg_eval.specs.Summaries.{IsSummary}
use Rattle.psg_eval.proofs.CellRows.{next_step}
use Rattle.psg_eval.proofs.Numbers.{numbered_fault, numbered_step}
use Rattle.psg_eval.proofs.StepLists.{last_partial, made_fault, more_grown, more_wide, none_grown, step_of}
use Rattle.psg_eval.proofs.steps.grow.Goals as goal

pub loop-i-init : goal.loop-i-init
loop-i-init c = none_grown c.args.definition.now c.args.children.now c.args.first c.new-before.result.items c.new-before.ensures.items

pub with_child-requires-clause-partial : goal.with_child-requires-clause-partial
with_child-requires-clause-partial c =
    let (kind, part) = c.requires.partial in
    let children = c.args.children.now in
    let i = c.loop-i.i in
    (kind, kinds_of (drop (i + 1) children), last_partial c.args.definition.now children c.args.first c.loop-i.before.items c.loop-i.last i c.loop-i.invariant c.nth-child.result.now c.nth-child.ensures kind part)

pub with_child-requires-clause-child : goal.with_child-requires-clause-child
with_child-requires-clause-child c =
    each_at (IsSummary c.args.definition.now) c.args.children.now c.requires.summaries c.loop-i.i c.nth-child.result.now c.nth-child.ensures

pub returns-in_err-next-clause-steps : goal.returns-in_err-next-clause-steps
returns-in_err-next-clause-steps c = λ f grows is.
    let def = c.args.definition.now in
    let (kind, part) = c.requires.partial in
    let i = c.loop-i.i in
    let s = c.nth-child.result.now in
    let last = c.loop-i.last in
    let fault = c.in_err-next.field-0.0 in
    let d : c.from_residual.result ≡ Err fault = search rules in
    subst (MatchGrown def f) (sym d)
    (made_fault def f 0 fault
    (numbered_fault def f 0 (IsAdded def last s) c.with_child.result (i + 1) fault c.in_err-next.ensures c.with_child.ensures.step
    (more_wide def c.args.children.now c.args.first c.loop-i.before.items last i c.loop-i.invariant s c.nth-child.ensures c.requires.sound kind part f grows is)))

pub loop-i-preserved : goal.loop-i-preserved
loop-i-preserved c =
    let def = c.args.definition.now in
    let children = c.args.children.now in
    let first = c.args.first in
    let before = c.loop-i.before.items in
    let last = c.loop-i.last in
    let i = c.loop-i.i in
    let to = c.loop-i.invariant in
    let s = c.nth-child.result.now in
    let next = c.in_ok-next.next in
    let after = c.push.new.self.items in
    let e : after ≡ before ++ step_of last ∷ [] = c.in_ok-push.ensures.items ∙ ap (λ (x : StepRows). before ++ x ∷ []) c.rows_of-step.ensures in
    let step = numbered_step (IsAdded def last s) c.with_child.result (i + 1) next c.in_ok-next.ensures c.with_child.ensures.step in
    record {
      many = ap length e ∙ length-append before (step_of last ∷ []) ∙ ap (λ n. n + 1) to.many;
      grown = λ f grows is. subst (λ (b : List StepRows). IsGrown def f b next) (sym e)
          (more_grown def children first before last i to s c.nth-child.ensures c.requires.sound c.requires.partial.0 c.requires.partial.1 f grows is next
          (λ none. true≢false (sym (c.is_empty.ensures.1 none) ∙ c.if-is_empty.false)) step.0 step.1);
      partial = λ kind part.
          next_step def kind s.kind (kinds_of (drop (i + 1) children)) last c.with_child.result (i + 1) next c.in_ok-next.ensures c.with_child.ensures.partial
          (last_partial def children first before last i to s c.nth-child.ensures kind part);
    }

pub returns-then-is_empty-clause-steps : goal.returns-then-is_empty-clause-steps
returns-then-is_empty-clause-steps c = c.loop-i.invariant.grown

pub returns-then-is_empty-clause-partial : goal.returns-then-is_empty-clause-partial
returns-then-is_empty-clause-partial c = λ kind part.
    subst (λ n. IsPartial c.args.definition.now kind (kinds_of (drop n c.args.children.now)) c.loop-i.last) (sym c.loop-i.invariant.many) (c.loop-i.invariant.partial kind part)

pub returns-then-is_empty-clause-ended : goal.returns-then-is_empty-clause-ended
returns-then-is_empty-clause-ended c = inr (c.is_empty.ensures.0 c.if-is_empty.true)

pub returns-clause-steps : goal.returns-clause-steps
returns-clause-steps c = c.loop-i.invariant.grown

pub returns-clause-partial : goal.returns-clause-partial
returns-clause-partial c = λ kind part.
    subst (λ n. IsPartial c.args.definition.now kind (kinds_of (drop n c.args.children.now)) c.loop-i.last) (sym c.loop-i.invariant.many) (c.loop-i.invariant.partial kind part)

pub returns-clause-ended : goal.returns-clause-ended
returns-clause-ended c =
    let e : c.loop-i.i ≡ length c.args.children.now = omega arith in
    inl (c.loop-i.invariant.many ∙ e)
