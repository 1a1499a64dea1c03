use Rattle.std.proofs.Common.{refl}
use Rattle.psg_layout.proofs.sheet.Sheet.new.Goals as goal

pub returns : goal.returns
returns c = record { bytes = c.new.ensures.bytes; tokens = c.new-2.ensures.items; valid = tt; line = c.new-3.ensures; marks = c.new-4.ensures; broken = refl; first = refl }
