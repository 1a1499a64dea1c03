use Rattle.std.proofs.Common.{◌≡◌, ℕ, None, vec_len}
use Rattle.psg_class.specs.Terminals.{Terminal}
use Rattle.psg_parse.specs.Lookups.{opener_at}
use Rattle.psg_parse.proofs.tables.no_openers.Given as goal

abbrev pub invariant-loop : goal.invariant-loop
invariant-loop l = record {
  count : vec_len l.found ≡ l.counter;
  empty : (p : ℕ) (terminal : Terminal) → opener_at l.found.items p terminal ≡ None;
}
