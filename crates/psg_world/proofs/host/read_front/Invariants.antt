use Rattle.std.proofs.Common.{◌≤◌, ◌+◌, vec_len}
use Rattle.std.specs.Io.KnownBytes.{Consumes}
use Rattle.psg_world.proofs.host.read_front.Given as goal

abbrev pub invariant-loop : goal.invariant-loop
invariant-loop g l = record {
  within : vec_len l.bytes ≤ l.limit + 1;
  taken : Consumes (g.S.Read.remaining l.initial.source) (g.S.Read.remaining l.source) l.bytes.items;
}
