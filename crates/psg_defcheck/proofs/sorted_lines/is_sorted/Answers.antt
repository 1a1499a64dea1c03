use Rattle.psg_defcheck.proofs.NarrowLaws.{empty-none}
use Rattle.psg_defcheck.proofs.LineSortLaws.{line_sorted}
use Rattle.psg_defcheck.proofs.sorted_lines.is_sorted.Goals as goal

pub returns : goal.returns
returns c = λ above h.
    line_sorted c.args.scope.now above c.args.line.now c.new-sorts.result c.sorts_line.new.sorts c.in_ok-fits.fits (empty-none c.new-sorts.result c.new-sorts.ensures.empty) (c.in_ok-fits.ensures above h)
