use Rattle.std.proofs.Common.{◌-◌, ◌<◌, ◌≤◌, get_or, length}
use Rattle.psg_documents.proofs.lines.line_at.Given as goal

abbrev pub invariant-halves : goal.invariant-halves
invariant-halves l = record {
  some : l.low < l.high;
  within : l.high ≤ length l.starts;
  from : get_or l.starts l.low 0 ≤ l.byte;
  to : l.high < length l.starts → l.byte < get_or l.starts l.high 0;
}

abbrev pub decreases-halves : goal.decreases-halves
decreases-halves l = l.high - l.low
