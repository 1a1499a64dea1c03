use Rattle.std.proofs.Common.{◌<◌, ◌^◌, string_bytes}
use Rattle.psg_screen.proofs.WindowLaws.{IsWalked}
use Rattle.psg_screen.proofs.line.shown_line.Given as goal

abbrev pub invariant-loop-c : goal.invariant-loop-c
invariant-loop-c l = record {
  walked : IsWalked l.view l.yielded (string_bytes l.shown) l.column l.written;
  in_range : l.column < 2 ^ 34;
}
