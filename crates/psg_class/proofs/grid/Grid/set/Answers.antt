use Rattle.std.proofs.Common.{◌<◌, ◌+◌, ◌*◌, length, arith, sym, ◌∙◌}
use Rattle.std.proofs.lemmas.Grind.{common_steps}
use Rattle.psg_class.proofs.Tables.{get_apart, unset-set}
use Rattle.psg_class.proofs.grid.Grid.set.Goals as goal

pub returns-clause-others : goal.returns-clause-others
returns-clause-others c = λ r k h differ. get_apart c.args.self.now.cells.items c.args.self.now.width r c.args.row k c.args.column h c.requires.cell.1 differ

pub returns-clause-fewer : goal.returns-clause-fewer
returns-clause-fewer c =
    let at : c.args.row * c.args.self.now.width + c.args.column < length c.args.self.now.cells.items = grind (arith, common_steps) in
    unset-set c.args.self.now.cells.items (c.args.row * c.args.self.now.width + c.args.column) c.index.result.now at (sym c.index.ensures ∙ c.if-index.false)
