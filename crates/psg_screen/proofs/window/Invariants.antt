use Rattle.std.proofs.Common.{◌≡◌, map, length, vec_len}
use Rattle.psg_screen.specs.Window.{shown_line}
use Rattle.psg_screen.proofs.window.Given as goal

abbrev pub invariant-loop-line : goal.invariant-loop-line
invariant-loop-line l = record {
  items : l.lines.items ≡ map (shown_line l.view) (map (λ line. line.now) l.yielded);
  len : vec_len l.lines ≡ length (map (λ line. line.now) l.yielded);
}
