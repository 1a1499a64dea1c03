use Rattle.std.proofs.Common.{◌≡◌, ℕ, length, vec_len}
use Rattle.psg_class.specs.Terminals.{Terminal}
use Rattle.psg_parse.specs.Lookups.{Finds, opener_at}
use Rattle.psg_parse.proofs.Tabled.{Before}
use Rattle.psg_parse.proofs.tables.openers.Given as goal

abbrev pub invariant-loop-n : goal.invariant-loop-n
invariant-loop-n l = record {
  count : vec_len l.found ≡ length l.definition.phyla;
  finds : (p : ℕ) (terminal : Terminal) → Finds (Before l.definition l.place l.n p terminal) (opener_at l.found.items p terminal);
}
