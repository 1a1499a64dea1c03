use Rattle.std.proofs.Common.{◌≡◌, List, Some, ap, length, slice_get, subst, arith}
use Rattle.psg_terms.proofs.Lists.{slice_get_item, slice_get_once}
use Rattle.psg_grammar.specs.declared.types.Operator.{Operator}
use Rattle.psg_grammar.proofs.SoundParts.{operator_sound}
use Rattle.psg_eval.specs.Starts.{IsOperatorStart, IsStartAt}
use Rattle.psg_eval.proofs.StartLaws.{at_more, at_none}
use Rattle.psg_eval.proofs.starts.operator_starts.Goals as goal
use Rattle.psg_eval.proofs.starts.operator_starts.Goals.{After-index-operators-op}

there : (c : After-index-operators-op) → slice_get c.args.definition.now.operators c.loop-op.op ≡ Some c.index-operators-op.result
there c =
    let read = c.index-operators-op.result in
    subst (λ (os : List Operator). slice_get os c.loop-op.op ≡ Some read) c.as_slice-operators.ensures
    (slice_get_item c.as_slice-operators.result.now c.loop-op.op read c.loop-op-test.true c.index-operators-op.is)

pub loop-op-init : goal.loop-op-init
loop-op-init c = (ap length c.in_ok-made.ensures.items, at_none (IsStartAt c.args.definition.now) _ c.in_ok-made.ensures.items)

pub operator_start-requires-clause-operator : goal.operator_start-requires-clause-operator
operator_start-requires-clause-operator c =
    operator_sound c.args.definition.now c.requires c.loop-op.op c.index-operators-op.result (there (goal.at.operator_start-requires-clause-operator c).After-index-operators-op)

pub loop-op-preserved : goal.loop-op-preserved
loop-op-preserved c =
    let def = c.args.definition.now in
    let (many, all) = c.loop-op.invariant in
    let at = there (goal.at.loop-op-preserved c).After-index-operators-op in (
      omega (arith, many, c.in_ok-push.ensures.len),
      at_more (IsStartAt def) c.loop-op.made.items c.push.new.self.items c.in_ok-start.start c.loop-op.op all many
          (λ op found. subst (λ (o : Operator). IsOperatorStart def o c.in_ok-start.start) (slice_get_once def.operators c.loop-op.op c.index-operators-op.result op at found) c.in_ok-start.ensures)
          c.in_ok-push.ensures.items,
    )
