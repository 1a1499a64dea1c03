use Rattle.std.proofs.Common.{◌+◌, ◌*◌}
use Rattle.psg_tests_languages.proofs.tests.flat.+flat.Given as goal

abbrev pub decreases-put_tree : goal.decreases-put_tree
decreases-put_tree l = 3 * l.deep

abbrev pub decreases-put_part : goal.decreases-put_part
decreases-put_part l = 3 * l.deep + 1

abbrev pub decreases-put_operator : goal.decreases-put_operator
decreases-put_operator l = 3 * l.deep + 2

abbrev pub decreases-put_list : goal.decreases-put_list
decreases-put_list l = 3 * l.deep + 1
