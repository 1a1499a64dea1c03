use Rattle.psg_picture.proofs.WindowTie.{program-window}
use Rattle.psg_picture.proofs.laws.rows_are_the_window.Goals as goal

pub returns : goal.returns
returns c = program-window
