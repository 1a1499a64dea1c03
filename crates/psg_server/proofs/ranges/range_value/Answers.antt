use Rattle.std.proofs.Common.{ap₂, ◌∙◌}
use Rattle.psg_server.specs.Ranges.{range_data}
use Rattle.psg_server.proofs.ranges.range_value.Goals as goal

pub returns : goal.returns
returns c = record {
  line = c.position_of-first.result.line;
  column = c.position_of-first.result.column;
  end_line = c.position_of-last.result.line;
  end_column = c.position_of-last.result.column;
  start = c.position_of-first.ensures;
  end = c.position_of-last.ensures;
  is = c.in_ok-range.ensures ∙ ap₂ range_data c.in_ok-start.ensures c.in_ok-end.ensures;
}
