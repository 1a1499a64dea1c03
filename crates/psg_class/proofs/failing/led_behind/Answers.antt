use Rattle.std.proofs.Common.{sym, ◌∙◌, arith}
use Rattle.psg_class.proofs.LeadLaws.{led_cell_is}
use Rattle.psg_class.proofs.failing.led_behind.Goals as goal

pub has-requires-clause-cell : goal.has-requires-clause-cell
has-requires-clause-cell c =
    let (x, y) = led_cell_is c.args.shape.now c.in-Some.cell.row c.in-Some.cell.column (sym c.led_of.ensures ∙ c.in-Some.is) in
    let p = c.requires.shape.phylum in let h = c.requires.sets.height_is in let w = c.requires.sets.width_is in let r = c.requires.rows.height_is in
    (omega (arith, p, h, r, x), c.requires.shape.each 1 _ y)
