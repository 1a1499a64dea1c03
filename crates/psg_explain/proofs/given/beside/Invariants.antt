use Rattle.std.proofs.Common.{◌≡◌, drop}
use Rattle.psg_scope.specs.Headers.{key_of, keys}
use Rattle.psg_explain.specs.Given.{beside}
use Rattle.psg_explain.proofs.given.beside.Given as goal

abbrev pub invariant-loop-i : goal.invariant-loop-i
invariant-loop-i l = beside (keys (drop l.i l.names)) (drop l.i l.terms) (key_of l.key) ≡ beside (keys l.names) l.terms (key_of l.key)
