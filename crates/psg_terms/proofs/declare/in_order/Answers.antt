use Rattle.std.proofs.Common.{ap, sym, ◌∙◌}
use Rattle.psg_terms.specs.declared.declare.SortDecl.{SortDecl}
use Rattle.psg_terms.proofs.DeclareSteps.{ordered-step}
use Rattle.psg_terms.proofs.declare.in_order.Goals as goal

pub loop-i-preserved : goal.loop-i-preserved
loop-i-preserved c =
    ordered-step c.args.sorts.now c.loop-i.i c.index-sorts-i.result c.loop-i.placed.items c.place_all.new.placed.items c.as_slice.result.now
    (c.as_slice.ensures ∙ ap (λ (d : SortDecl). d.constructors) (sym c.index-sorts-i.is)) c.in_ok-place_all.ensures c.loop-i.invariant c.loop-i-test.true c.index-sorts-i.is
