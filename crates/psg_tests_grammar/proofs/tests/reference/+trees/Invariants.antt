use Rattle.std.proofs.Common.{length}
use Rattle.psg_tests_grammar.proofs.tests.reference.+trees.Given as goal

abbrev pub decreases-trees : goal.decreases-trees
decreases-trees l = length l.letters.now
