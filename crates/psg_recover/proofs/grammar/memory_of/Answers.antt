use Rattle.psg_recover.proofs.GrammarLaws.{only_memory}
use Rattle.psg_recover.proofs.grammar.memory_of.Goals as goal

pub unreachable-requires : goal.unreachable-requires
unreachable-requires c = c.in_default.not-Memory (only_memory c.args.fault c.requires.fault)
