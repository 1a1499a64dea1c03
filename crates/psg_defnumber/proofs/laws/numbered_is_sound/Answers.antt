use Rattle.psg_defnumber.proofs.FileLaws.{file-sound}
use Rattle.psg_defnumber.proofs.laws.numbered_is_sound.Goals as goal

pub returns : goal.returns
returns c = file-sound
