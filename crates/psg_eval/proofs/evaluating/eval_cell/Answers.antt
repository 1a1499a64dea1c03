use Rattle.psg_eval.proofs.evaluating.eval_cell.Goals as goal

pub cell_from-requires-clause-starts : goal.cell_from-requires-clause-starts
cell_from-requires-clause-starts g c = c.none-starts.ensures c.args.definition.now
