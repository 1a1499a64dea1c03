use Rattle.std.proofs.Common.{◌<◌, ◌^◌}
use Rattle.psg_picture.proofs.RowLaws.{IsWalked}
use Rattle.psg_picture.proofs.windowed.shown.Given as goal

abbrev pub invariant-loop-styled : goal.invariant-loop-styled
invariant-loop-styled l = record {
  walked : IsWalked l.view l.yielded l.row.items l.column l.written;
  in_range : l.column < 2 ^ 34;
}
