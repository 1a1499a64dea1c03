use Rattle.psg_run.proofs.WindowRefusals.{nothing_moved}
use Rattle.psg_run.proofs.laws.refusals_move_nothing.Goals as goal

pub returns : goal.returns
returns c = nothing_moved c.args.definition.now
