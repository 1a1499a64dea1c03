use Rattle.std.proofs.Common.{take, option_copied, subst, arith}
use Rattle.std.proofs.lemmas.List.{take_all}
use Rattle.psg_scope.specs.Headers.{keys}
use Rattle.psg_explain.specs.DeclaredParts.{IsFirstAmong}
use Rattle.psg_explain.proofs.TwiceLaws.{first_end, first_next, nothing_found}
use Rattle.psg_explain.proofs.regions.first_twice.Goals as goal

pub loop-i-init : goal.loop-i-init
loop-i-init c = nothing_found (keys c.args.keys.now) c.args.keys.now

pub loop-i-preserved : goal.loop-i-preserved
loop-i-preserved c =
    first_next (keys c.args.keys.now) c.args.keys.now c.loop-i.i c.index-keys-i.result _ c.loop-i-test.true c.index-keys-i.is (c.first_of-found.ensures (keys (take c.loop-i.i c.args.keys.now)) c.loop-i.invariant)

pub returns : goal.returns
returns c =
    first_end (keys c.args.keys.now) c.loop-i.found
    (subst (λ l. IsFirstAmong (keys c.args.keys.now) (keys l) (option_copied c.loop-i.found)) (take_all c.loop-i.i c.args.keys.now (omega arith)) c.loop-i.invariant)
