use Rattle.std.proofs.Common.{refl}
use Rattle.std.specs.Prelude.{string_bytes}
use Rattle.psg_pointing.proofs.Tellings.{err_lines, ok_lines}
use Rattle.psg_pointing.proofs.hovering.lines_after.Goals as goal

pub returns-in_ok-insert-in-Ok : goal.returns-in_ok-insert-in-Ok
returns-in_ok-insert-in-Ok c =
    ok_lines (string_bytes c.args.head) c.args.told c.in-Ok.more _ c.args.head c.in-Ok.is refl
    c.in_ok-insert-in-Ok.ensures.items

pub returns-in_ok-lines-in-Err : goal.returns-in_ok-lines-in-Err
returns-in_ok-lines-in-Err c =
    err_lines (string_bytes c.args.head) c.args.told _ c.in_ok-lines-in-Err.lines.items c.in-Err.is
    c.in_ok-lines-in-Err.ensures
