use Rattle.std.proofs.Common.{◌+◌, ◌*◌}
use Rattle.psg_tests_languages.proofs.tests.ground.+fits.Given as goal

abbrev pub decreases-fits : goal.decreases-fits
decreases-fits l = 2 * l.deep

abbrev pub decreases-all_fit : goal.decreases-all_fit
decreases-all_fit l = 2 * l.deep + 1
