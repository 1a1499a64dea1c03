use Rattle.psg_relation.proofs.FewerLaws.{fewer}
use Rattle.psg_relation.proofs.column_laws.fewer_columns.Goals as goal

pub returns : goal.returns
returns c = fewer c.args.sig.now c.sound.ensures
