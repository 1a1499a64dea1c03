use Rattle.psg_eval.proofs.climbing.climb.Goals as goal

pub climb_from-requires-clause-starts : goal.climb_from-requires-clause-starts
climb_from-requires-clause-starts g c = c.none-starts.ensures c.args.definition.now
