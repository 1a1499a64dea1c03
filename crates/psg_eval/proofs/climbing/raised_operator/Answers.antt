use Rattle.psg_eval.proofs.climbing.raised_operator.Goals as goal

pub operator_raised-requires-clause-starts : goal.operator_raised-requires-clause-starts
operator_raised-requires-clause-starts g c = c.none-starts.ensures c.args.definition.now
