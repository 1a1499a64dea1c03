use Rattle.std.proofs.Common.{◌≡◌, ◌-◌, ◌++◌, [], max, replicate, vec_len}
use Rattle.psg_screen.proofs.with_empty_lines.Given as goal

abbrev pub decreases-filling : goal.decreases-filling
decreases-filling l = l.rows - vec_len l.lines

abbrev pub invariant-filling : goal.invariant-filling
invariant-filling l = record {
  items : l.lines.items ++ replicate (l.rows - vec_len l.lines) [] ≡ l.initial.lines.items ++ replicate (l.rows - vec_len l.initial.lines) [];
  len : max (vec_len l.lines) l.rows ≡ max (vec_len l.initial.lines) l.rows;
}
