use Rattle.std.proofs.Common.{◌-◌}
use Rattle.psg_tui.proofs.picture.name_bytes.Given as goal

abbrev pub decreases-bytes : goal.decreases-bytes
decreases-bytes l = l.end - l.byte
