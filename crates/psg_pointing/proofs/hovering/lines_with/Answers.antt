use Rattle.std.specs.Prelude.{string_bytes}
use Rattle.psg_pointing.proofs.Tellings.{none_lines, some_lines}
use Rattle.psg_pointing.proofs.hovering.lines_with.Goals as goal

pub returns-in_ok-lines-in-Some : goal.returns-in_ok-lines-in-Some
returns-in_ok-lines-in-Some c =
    some_lines (string_bytes c.args.head) c.args.read c.in-Some.told c.in_ok-lines-in-Some.lines.items c.in-Some.is
    c.in_ok-lines-in-Some.ensures

pub returns-in_ok-lines-in-None : goal.returns-in_ok-lines-in-None
returns-in_ok-lines-in-None c =
    none_lines (string_bytes c.args.head) c.args.read c.in_ok-lines-in-None.lines.items c.in-None.is
    c.in_ok-lines-in-None.ensures
