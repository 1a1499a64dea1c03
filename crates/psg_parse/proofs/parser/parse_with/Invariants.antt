use Rattle.std.proofs.Common.{◌≡◌, ◌+◌, length}
use Rattle.psg_parse.proofs.Taken.{Got}
use Rattle.psg_parse.proofs.parser.parse_with.Given as goal

abbrev pub invariant-tokens : goal.invariant-tokens
invariant-tokens g l = record {
  goes : Got l.definition l.goal l.tokens l.state;
  ticks : l.steps + length l.state.rest.now ≡ l.fn.steps + length l.tokens;
}

abbrev pub decreases-tokens : goal.decreases-tokens
decreases-tokens g l = length l.state.rest.now
