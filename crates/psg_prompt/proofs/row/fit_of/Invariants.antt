use Rattle.std.proofs.Common.{◌≡◌, ◌+◌, ◌≤◌, drop}
use Rattle.psg_prompt.specs.Rows.{fitting, left_over}
use Rattle.psg_prompt.proofs.row.fit_of.Given as goal

abbrev pub invariant-loop-place : goal.invariant-loop-place
invariant-loop-place l = record {
  count : fitting l.room l.text ≡ l.place + fitting l.left (drop l.place l.text);
  left : left_over l.room l.text ≡ left_over l.left (drop l.place l.text);
  less : l.left ≤ l.room;
}
