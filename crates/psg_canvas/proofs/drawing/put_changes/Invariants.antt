use Rattle.std.proofs.Common.{◌≡◌, ◌-◌, length, string_bytes}
use Rattle.psg_canvas.proofs.WalkLaws.{IsWalk}
use Rattle.psg_canvas.proofs.drawing.put_changes.Given as goal

abbrev pub decreases-cells : goal.decreases-cells
decreases-cells l = length l.new - l.place

abbrev pub invariant-cells : goal.invariant-cells
invariant-cells l = record {
  walk : IsWalk l.fn.pen.cols l.old l.new l.fn.pen.at l.fn.pen.style (string_bytes l.fn.pen.out) l.place l.pen.at l.pen.style
      (string_bytes l.pen.out);
  cols : l.pen.cols ≡ l.fn.pen.cols;
}
