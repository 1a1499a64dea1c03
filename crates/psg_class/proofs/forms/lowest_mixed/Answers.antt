use Rattle.std.proofs.Common.{arith}
use Rattle.psg_class.specs.Grids.{is_set}
use Rattle.psg_class.specs.Forms.{MixesAny}
use Rattle.psg_class.proofs.FormCells.{none_more}
use Rattle.psg_class.proofs.forms.lowest_mixed.Goals as goal

pub loop-phylum-preserved : goal.loop-phylum-preserved
loop-phylum-preserved c = none_more (MixesAny (is_set c.args.uses.now)) c.loop-phylum.phylum c.loop-phylum.invariant (λ (level, m). c.in_default.ensures level m)

pub returns-clause-none : goal.returns-clause-none
returns-clause-none c = λ p h m. c.loop-phylum.invariant p (omega arith) m
