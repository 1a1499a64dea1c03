use Rattle.std.proofs.Common.{◌≡◌, map, string_bytes}
use Rattle.psg_picture.specs.Marked.{page_rows}
use Rattle.psg_picture.specs.Rows.{with_rows}
use Rattle.psg_picture.proofs.page.write_page.Given as goal

abbrev pub invariant-loop-row : goal.invariant-loop-row
invariant-loop-row l = l.sketch ≡ with_rows (page_rows l.cols (map string_bytes l.lines) l.top l.row) l.initial.sketch
