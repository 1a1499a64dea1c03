use Rattle.std.proofs.Common.{◌≤◌, length}
use Rattle.psg_parse.proofs.Taken.{Got}
use Rattle.psg_parse.proofs.reaching.reach.Given as goal

abbrev pub invariant-tokens : goal.invariant-tokens
invariant-tokens l = record {
  goes : Got l.definition l.fn.goal l.tokens l.state;
  fewer : length l.state.rest.now ≤ length l.tokens;
}

abbrev pub decreases-tokens : goal.decreases-tokens
decreases-tokens l = length l.state.rest.now
