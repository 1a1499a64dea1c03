use Rattle.std.proofs.Common.{refl}
use Rattle.psg_terms.proofs.DeclareSteps.{placed-step}
use Rattle.psg_terms.proofs.declare.place_all.Goals as goal

pub loop-decl-preserved : goal.loop-decl-preserved
loop-decl-preserved c =
    placed-step c.args.placed.now.items c.loop-decl.placed.items c.push.new.self.items _ c.args.decls.now c.loop-decl.decl-index c.decl-item.result
    c.in_ok-push.ensures.items c.loop-decl.invariant refl c.loop-decl-test.true c.decl-item.is
