use Rattle.std.proofs.Common.{◌++◌, sym, ◌∙◌, ap₂}
use Rattle.psg_class.specs.Shapes.{listed}
use Rattle.psg_class.specs.Failing.{lead_cell}
use Rattle.psg_class.proofs.FailingLaws.{cells_more}
use Rattle.psg_class.proofs.failing.lead_cells.Goals as goal

pub loop-shape-preserved : goal.loop-shape-preserved
loop-shape-preserved c =
    c.in_ok-push.ensures ∙ ap₂ (λ a b. a ++ listed b) c.loop-shape.invariant c.lead_of.ensures ∙ sym (cells_more lead_cell c.args.shapes.now c.loop-shape.shape-index c.shape-item.result c.loop-shape-test.true c.shape-item.is)
