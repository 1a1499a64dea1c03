use Rattle.std.proofs.Common.{◌+◌, ◌≤◌, ◌==◌, length, ◌∙◌, arith}
use Rattle.psg_lexis.proofs.Runs.{past_first}
use Rattle.psg_program.proofs.Columns.{column_grows, column_step, line_grows, line_step}
use Rattle.psg_program.proofs.places.place_of.Goals as goal

pub loop-first-smaller : goal.loop-first-smaller
loop-first-smaller c = past_first _ _ _ c.in-Some.ensures.first

pub loop-first-preserved : goal.loop-first-preserved
loop-first-preserved c =
    let first = c.in-Some.ensures.first in
    let left = c.loop-first.left in
    let less = past_first _ _ _ first in
    let line : c.line_past-line.result ≤ c.loop-first.line + 1 =
    line_grows (c.in-Some.first == 10) _ _ c.line_past-line.ensures in
    let column : c.column_past-column.result ≤ c.loop-first.column + 1 =
    column_grows (c.in-Some.first == 10) _ _ c.column_past-column.ensures in
    let lines : c.loop-first.line + length c.loop-first.rest.now ≤ 1 + length c.args.text.now = c.loop-first.invariant.1 in
    let columns : c.loop-first.column + length c.loop-first.rest.now ≤ 1 + length c.args.text.now =
    c.loop-first.invariant.2 in (
      first.utf8,
      omega (arith, line, less, lines),
      omega (arith, column, less, columns),
      line_step left _ _ _ _ first c.if-left-eq0.false c.saturating_sub-left.ensures _ _ c.line_past-line.ensures
          ∙ c.loop-first.invariant.3,
      column_step left _ _ _ _ first c.if-left-eq0.false c.saturating_sub-left.ensures _ _ c.column_past-column.ensures
          ∙ c.loop-first.invariant.4,
    )
