use Rattle.std.proofs.Common.{subst}
use Rattle.psg_scope.specs.Merging.{IsUpTo}
use Rattle.psg_scope.proofs.RunLaws.{run_right, run_done}
use Rattle.psg_scope.proofs.merging.Merging.add_rights.Goals as goal

pub loop-key-preserved : goal.loop-key-preserved
loop-key-preserved c =
    run_right c.args.run.now c.loop-key.key-index c.key-item.result c.args.self.now c.loop-key.self c.add_right.new.self
    c.loop-key-test.true c.key-item.is c.in_ok-add_right.ensures c.loop-key.invariant

pub returns : goal.returns
returns c whole others left rest below up =
    subst (λ l. IsUpTo whole others left l c.loop-key.self)
    (run_done c.args.run.now rest c.loop-key.key-index c.loop-key-test.false)
    (c.loop-key.invariant whole others left rest below up)
