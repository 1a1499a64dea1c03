use Rattle.std.proofs.Common.{refl}
use Rattle.psg_run.specs.Formatting.{formats_file, no_room_to_format}
use Rattle.psg_run.proofs.formatting.tell_without.Goals as goal

pub returns-in_default : goal.returns-in_default
returns-in_default g c = λ files input. no_room_to_format refl

pub returns : goal.returns
returns g c = λ files input.
    formats_file c.in-Ok.own.comments.items c.in-Ok.own.bytes.items c.in-Ok.ensures (c.tell.ensures files input)
