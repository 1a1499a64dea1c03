use Rattle.std.proofs.Common.{◌<◌}
use Rattle.psg_tests_texts.proofs.tests.langs.sum_of.Given as goal

abbrev pub invariant-loop-byte : goal.invariant-loop-byte
invariant-loop-byte l = (l.low < 65521) × (l.high < 65521)
