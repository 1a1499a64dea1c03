use Rattle.std.proofs.Common.{map, refl, string_bytes}
use Rattle.psg_picture.proofs.MarkedLaws.{page-step}
use Rattle.psg_picture.proofs.page.write_page.Goals as goal

pub loop-row-preserved : goal.loop-row-preserved
loop-row-preserved c =
    page-step c.args.cols c.args.top c.loop-row.row _ (map string_bytes c.args.lines.now) c.args.sketch.now c.loop-row.sketch c.write_line.new.sketch
    c.loop-row.invariant refl c.in_ok-write_line.ensures
