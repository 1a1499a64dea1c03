use Rattle.std.proofs.Common.{rules, ◌≡◌, refl}
use Rattle.psg_layout.specs.Layouts.{refusal_line}
use Rattle.psg_run.specs.Arranging.{is_bad_line, no_room_for_layout}
use Rattle.psg_run.proofs.arranging.end_fault.Goals as goal

pub returns-in_default : goal.returns-in_default
returns-in_default g c = λ def bytes files input ticks is. no_room_for_layout refl

pub returns-in_default-format : goal.returns-in_default-format
returns-in_default-format g c = λ def bytes files input ticks is. no_room_for_layout refl

pub returns : goal.returns
returns g c = λ def bytes files input ticks is.
    let line : c.as_str.result.now ≡ refusal_line c.in-Line.line c.in-Line.code = search rules in
    is_bad_line c.in-Line.line c.in-Line.code (rw c.in-Line.is at is)
    (rw line at (c.put_line.ensures files input ticks))
