use Rattle.std.proofs.Common.{◌≡◌, ◌++◌, drop}
use Rattle.std.specs.Option.{option_or}
use Rattle.psg_scope.specs.Headers.{keys}
use Rattle.psg_explain.specs.Given.{beside, key_terms}
use Rattle.psg_explain.proofs.given.push_either.Given as goal

abbrev pub invariant-loop-key : goal.invariant-loop-key
invariant-loop-key l =
    l.terms.items ++ key_terms (λ k. option_or (beside (keys l.mine) l.left k) (beside (keys l.others) l.right k)) (keys (drop l.key-index l.key-items))
    ≡ l.fn.terms.items ++ key_terms (λ k. option_or (beside (keys l.mine) l.left k) (beside (keys l.others) l.right k)) (keys l.key-items)
