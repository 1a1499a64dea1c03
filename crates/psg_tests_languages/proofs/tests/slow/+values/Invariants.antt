use Rattle.std.proofs.Common.{◌+◌, ◌*◌}
use Rattle.psg_tests_languages.proofs.tests.slow.+values.Given as goal

abbrev pub decreases-has_value : goal.decreases-has_value
decreases-has_value l = 2 * l.deep

abbrev pub decreases-have_values : goal.decreases-have_values
decreases-have_values l = 2 * l.deep + 1
