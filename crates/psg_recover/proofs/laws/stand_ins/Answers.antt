use Rattle.psg_recover.proofs.StandLaws.{read_stand_ins, yield_stand_ins}
use Rattle.psg_recover.proofs.laws.stand_ins.Goals as goal

pub returns-clause-tokens : goal.returns-clause-tokens
returns-clause-tokens c = read_stand_ins c.args._definition.now c.requires

pub returns-clause-trees : goal.returns-clause-trees
returns-clause-trees c = yield_stand_ins c.args._definition.now
