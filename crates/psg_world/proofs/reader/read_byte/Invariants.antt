use Rattle.std.specs.Io.KnownBytes.{Keeps}
use Rattle.psg_world.proofs.reader.read_byte.Given as goal

abbrev pub invariant-loop : goal.invariant-loop
invariant-loop g l = Keeps (g.S.Read.remaining l.initial.source) (g.S.Read.remaining l.source)
