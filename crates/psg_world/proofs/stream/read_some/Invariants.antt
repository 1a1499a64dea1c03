use Rattle.std.proofs.Common.{◌≡◌, length}
use Rattle.std.specs.Io.KnownBytes.{Keeps}
use Rattle.psg_world.proofs.stream.read_some.Given as goal

abbrev pub invariant-loop : goal.invariant-loop
invariant-loop g l = record {
  keeps : Keeps (g.S.Read.remaining l.initial.source) (g.S.Read.remaining l.source);
  room : length l.buffer ≡ length l.initial.buffer;
}
