use Rattle.std.proofs.Common.{rules, Err, ◌≡◌, ◌+◌, length, drop, sym, subst, arith}
use Rattle.psg_terms.proofs.Lists.{each_at}
use Rattle.psg_grammar.specs.declared.types.Kind.{Kind}
use Rattle.psg_eval.specs.declared.partial.Partial.{Partial}
use Rattle.psg_eval.specs.Partials.{IsAdded, IsPartial}
use Rattle.psg_eval.specs.Stages.{kinds_of, MatchMade}
use Rattle.psg_eval.specs.Summaries.{IsSummary}
use Rattle.psg_eval.proofs.CellRows.{next_step}
use Rattle.psg_eval.proofs.NodeSteps.{child_made, child_wide, gone_none, now_partial, seen_one}
use Rattle.psg_eval.proofs.Numbers.{numbered_fault, numbered_if, numbered_step}
use Rattle.psg_eval.proofs.node.with_all.Goals as goal
use Rattle.psg_eval.proofs.node.with_all.Goals.{In_ok-first}

pub with_child-requires-clause-partial : goal.with_child-requires-clause-partial
with_child-requires-clause-partial c =
    let (kind, part) = c.requires.partial in
    let children = c.args.children.now in
    let bare = c.args.bare.now in (
      kind,
      kinds_of (drop 1 children),
      now_partial c.args.definition.now children 0 bare bare 0 c.first_of-child.result.now c.first_of-child.ensures (gone_none c.args.definition.now children 0 bare) kind part,
    )

pub with_child-requires-clause-child : goal.with_child-requires-clause-child
with_child-requires-clause-child c =
    each_at (IsSummary c.args.definition.now) c.args.children.now c.requires.summaries 0 c.first_of-child.result.now c.first_of-child.ensures

first_partial : (c : In_ok-first) (kind : Kind) → IsPartial c.args.definition.now kind (kinds_of c.args.children.now) c.args.bare.now
    → IsPartial c.args.definition.now kind (kinds_of (drop 1 c.args.children.now)) c.in_ok-first.first
first_partial c kind part =
    let def = c.args.definition.now in
    let children = c.args.children.now in
    let bare = c.args.bare.now in
    let s = c.first_of-child.result.now in
    next_step def kind s.kind (kinds_of (drop 1 children)) bare c.with_child.result 1 c.in_ok-first.first c.in_ok-first.ensures c.with_child.ensures.partial
    (now_partial def children 0 bare bare 0 s c.first_of-child.ensures (gone_none def children 0 bare) kind part)

pub with_children-requires-clause-partial : goal.with_children-requires-clause-partial
with_children-requires-clause-partial c =
    let (kind, part) = c.requires.partial in
    (kind, first_partial (goal.at.with_children-requires-clause-partial c).In_ok-first kind part)

pub returns-in_err-first-clause-made : goal.returns-in_err-first-clause-made
returns-in_err-first-clause-made c = λ f parts all is.
    let def = c.args.definition.now in
    let children = c.args.children.now in
    let bare = c.args.bare.now in
    let s = c.first_of-child.result.now in
    let fault = c.in_err-first.field-0.0 in
    let d : c.from_residual.result ≡ Err fault = search rules in
    subst (MatchMade def f (length children)) (sym d)
    (numbered_fault def f (length children) (IsAdded def bare s) c.with_child.result 1 fault c.in_err-first.ensures c.with_child.ensures.step
    (child_wide def children 0 bare bare 0 s c.first_of-child.ensures (gone_none def children 0 bare) c.requires.sound c.requires.partial.0 c.requires.partial.1 f parts all is))

pub returns-in_err-whole-clause-made : goal.returns-in_err-whole-clause-made
returns-in_err-whole-clause-made c = λ f parts all is.
    let def = c.args.definition.now in
    let children = c.args.children.now in
    let bare = c.args.bare.now in
    let s = c.first_of-child.result.now in
    let fault = c.in_err-whole.field-0.0 in
    let d : c.from_residual-in_err-whole.result ≡ Err fault = search rules in
    let step = numbered_step (IsAdded def bare s) c.with_child.result 1 c.in_ok-first.first c.in_ok-first.ensures c.with_child.ensures.step in
    subst (MatchMade def f (length children)) (sym d)
    (c.in_err-whole.ensures.made f parts all
    (child_made def children 0 bare bare 0 s c.first_of-child.ensures (gone_none def children 0 bare) c.requires.sound c.requires.partial.0 c.requires.partial.1 f parts all is c.in_ok-first.first step.0 step.1))

pub returns-clause-made : goal.returns-clause-made
returns-clause-made c = λ f parts all is.
    let def = c.args.definition.now in
    let children = c.args.children.now in
    let bare = c.args.bare.now in
    let s = c.first_of-child.result.now in
    let step = numbered_step (IsAdded def bare s) c.with_child.result 1 c.in_ok-first.first c.in_ok-first.ensures c.with_child.ensures.step in
    c.in_ok-whole.ensures.made f parts all
    (child_made def children 0 bare bare 0 s c.first_of-child.ensures (gone_none def children 0 bare) c.requires.sound c.requires.partial.0 c.requires.partial.1 f parts all is c.in_ok-first.first step.0 step.1)

pub returns-clause-partial : goal.returns-clause-partial
returns-clause-partial c = λ kind part.
    c.in_ok-whole.ensures.partial kind (first_partial (goal.at.returns-clause-partial c).In_ok-first kind part)

pub returns-clause-seen : goal.returns-clause-seen
returns-clause-seen c =
    let children = c.args.children.now in
    let one = seen_one children c.first_of-child.result.now c.first_of-child.ensures in
    let first = numbered_if (λ (p : Partial). p.seen ≡ c.args.bare.now.seen + c.first_of-child.result.now.seen) c.with_child.result 1 c.in_ok-first.first c.in_ok-first.ensures c.with_child.ensures.seen in
    omega (arith, one, first, c.in_ok-whole.ensures.seen)
