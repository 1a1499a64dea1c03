use Rattle.std.proofs.Common.{◌<◌, ◌∙◌, subst, sym}
use Rattle.psg_class.specs.Grids.{is_set}
use Rattle.psg_class.proofs.Tables.{once_more, twice_more}
use Rattle.psg_class.proofs.grid.repeated.Goals as goal

pub loop-cell-preserved : goal.loop-cell-preserved
loop-cell-preserved c =
    let i = c.loop-cell.invariant in
    record {
      met_height = c.note.ensures.met_size.height ∙ i.met_height;
      met_width = c.note.ensures.met_size.width ∙ i.met_width;
      met_grid = c.note.ensures.met_size.grid;
      again_height = c.note.ensures.again_size.height ∙ i.again_height;
      again_width = c.note.ensures.again_size.width ∙ i.again_width;
      again_grid = c.note.ensures.again_size.grid;
      met = λ r k h. once_more r k c.args.cells.now c.loop-cell.cell-index _ (is_set c.loop-cell.met r k) (is_set c.note.new.met r k) c.loop-cell-test.true (i.met r k h)
          (c.note.ensures.met r k (subst (λ w. k < w) (sym i.met_width) h));
      again = λ r k h. twice_more r k c.args.cells.now c.loop-cell.cell-index _ (is_set c.loop-cell.met r k) (is_set c.loop-cell.again r k) (is_set c.note.new.again r k) c.loop-cell-test.true (i.met r k h) (i.again r k h)
          (c.note.ensures.again r k (subst (λ w. k < w) (sym i.met_width) h));
    }
