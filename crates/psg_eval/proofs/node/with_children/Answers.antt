use Rattle.std.proofs.Common.{rules, Err, ◌≡◌, ◌+◌, length, drop, get_or, slice_get, Some, sym, subst, arith}
use Rattle.psg_terms.proofs.Lists.{slice_get_item}
use Rattle.psg_eval.specs.declared.partial.Partial.{Partial}
use Rattle.psg_eval.specs.declared.summary.SummaryParts.{SummaryParts}
use Rattle.psg_eval.specs.Partials.{IsAdded}
use Rattle.psg_eval.specs.Stages.{kinds_of, IsMade, MatchMade}
use Rattle.psg_eval.proofs.CellRows.{next_step}
use Rattle.psg_eval.proofs.NodeSteps.{all_gone, child_made, child_wide, now_partial, seen_all, seen_more}
use Rattle.psg_eval.proofs.Numbers.{numbered_fault, numbered_if, numbered_step}
use Rattle.psg_eval.proofs.node.with_children.Goals as goal
use Rattle.psg_eval.proofs.node.with_children.Goals.{After-known-child}

is : (c : After-known-child) → c.known-child.result.now ≡ get_or c.args.children.now c.loop-i.i c.known-child.result.now
is c = subst (λ (s : SummaryParts). s ≡ get_or c.args.children.now c.loop-i.i s) (sym c.known-child.ensures) c.index-children-i.is

at : (c : After-known-child) → slice_get c.args.children.now c.loop-i.i ≡ Some c.known-child.result.now
at c = slice_get_item c.args.children.now c.loop-i.i c.known-child.result.now c.loop-i-test.true (is c)

pub with_child-requires-clause-partial : goal.with_child-requires-clause-partial
with_child-requires-clause-partial c =
    let (kind, part) = c.requires.partial in (
      kind,
      kinds_of (drop (c.loop-i.i + 1) c.args.children.now),
      now_partial c.args.definition.now c.args.children.now c.args.from c.args.first c.loop-i.partial c.loop-i.i c.known-child.result.now (at (goal.at.with_child-requires-clause-partial c).After-known-child) c.loop-i.invariant kind part,
    )

pub returns-in_err-next-clause-made : goal.returns-in_err-next-clause-made
returns-in_err-next-clause-made c = λ f parts all is.
    let def = c.args.definition.now in
    let children = c.args.children.now in
    let i = c.loop-i.i in
    let s = c.known-child.result.now in
    let fault = c.in_err-next.field-0.0 in
    let d : c.from_residual.result ≡ Err fault = search rules in
    subst (MatchMade def f (length children)) (sym d)
    (numbered_fault def f (length children) (IsAdded def c.loop-i.partial s) c.with_child.result (i + 1) fault c.in_err-next.ensures c.with_child.ensures.step
    (child_wide def children c.args.from c.args.first c.loop-i.partial i s (at (goal.at.returns-in_err-next-clause-made c).After-known-child) c.loop-i.invariant c.requires.sound c.requires.partial.0 c.requires.partial.1 f parts all is))

pub loop-i-preserved : goal.loop-i-preserved
loop-i-preserved c =
    let def = c.args.definition.now in
    let children = c.args.children.now in
    let i = c.loop-i.i in
    let s = c.known-child.result.now in
    let now = c.loop-i.partial in
    let next = c.in_ok-next.next in
    let gone = c.loop-i.invariant in
    let there = at (goal.at.loop-i-preserved c).After-known-child in
    record {
      made = λ f parts all is.
          let step = numbered_step (IsAdded def now s) c.with_child.result (i + 1) next c.in_ok-next.ensures c.with_child.ensures.step in
          child_made def children c.args.from c.args.first now i s there gone c.requires.sound c.requires.partial.0 c.requires.partial.1 f parts all is next step.0 step.1;
      partial = λ kind part.
          next_step def kind s.kind (kinds_of (drop (i + 1) children)) now c.with_child.result (i + 1) next c.in_ok-next.ensures c.with_child.ensures.partial
          (now_partial def children c.args.from c.args.first now i s there gone kind part);
      seen = seen_more children i s next.seen now.seen c.args.first.seen _ c.loop-i-test.true (is (goal.at.loop-i-preserved c).After-known-child)
          (numbered_if (λ (p : Partial). p.seen ≡ now.seen + s.seen) c.with_child.result (i + 1) next c.in_ok-next.ensures c.with_child.ensures.seen) gone.seen;
    }

pub returns-clause-made : goal.returns-clause-made
returns-clause-made c = λ f parts all is.
    let e : c.loop-i.i ≡ length c.args.children.now = omega arith in
    subst (λ n. IsMade c.args.definition.now f n c.loop-i.partial) e (c.loop-i.invariant.made f parts all is)

pub returns-clause-seen : goal.returns-clause-seen
returns-clause-seen c = seen_all c.args.children.now c.loop-i.i c.loop-i.partial.seen c.args.first.seen _ (omega arith) c.loop-i.invariant.seen

pub returns-clause-partial : goal.returns-clause-partial
returns-clause-partial c =
    all_gone c.args.definition.now c.args.children.now c.args.from c.args.first c.loop-i.partial c.loop-i.i (omega arith) c.loop-i.invariant
