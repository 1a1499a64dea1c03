use Rattle.std.proofs.Common.{get_or, arith}
use Rattle.psg_menu.proofs.Moving.{move_got}
use Rattle.psg_menu.proofs.entries.Moves.found.Goals as goal

pub returns-then-one-from : goal.returns-then-one-from
returns-then-one-from c =
    let place = get_or c.as_slice-at.result.now c.args.from 0 in
    move_got c.args.self.now.all.items c.as_slice-moves.result.now place c.args.from (record { from = 0; to = 0 }) c.as_slice-moves.ensures.value (omega (arith, c.if-place-moves.false)) c.if-one-from.true
