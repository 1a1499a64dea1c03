use Rattle.psg_eval.proofs.evaluating.eval_op.Goals as goal

pub op_from-requires-clause-starts : goal.op_from-requires-clause-starts
op_from-requires-clause-starts g c = c.none-starts.ensures c.args.definition.now
