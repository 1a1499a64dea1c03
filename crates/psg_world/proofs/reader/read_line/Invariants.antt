use Rattle.std.proofs.Common.{◌≤◌, ◌+◌, vec_len}
use Rattle.psg_world.proofs.InputLaws.{LineSoFar}
use Rattle.psg_world.proofs.reader.read_line.Given as goal

abbrev pub invariant-loop : goal.invariant-loop
invariant-loop g l = record {
  within : vec_len l.line ≤ l.limit + 1;
  read : LineSoFar l.limit (g.S.Read.remaining l.initial.source) (g.S.Read.remaining l.source) l.line.items;
}
