use Rattle.std.proofs.Common.{◌≡◌, ◌++◌, drop}
use Rattle.psg_scope.specs.Headers.{keys}
use Rattle.psg_explain.specs.Given.{beside, key_terms}
use Rattle.psg_explain.proofs.given.push_keyed.Given as goal

abbrev pub invariant-loop-key : goal.invariant-loop-key
invariant-loop-key l = l.terms.items ++ key_terms (beside (keys l.names) l.row) (keys (drop l.key-index l.keys)) ≡ l.fn.terms.items ++ key_terms (beside (keys l.names) l.row) (keys l.keys)
