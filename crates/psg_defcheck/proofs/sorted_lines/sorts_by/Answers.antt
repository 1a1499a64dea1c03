use Rattle.std.proofs.Common.{[]}
use Rattle.psg_defcheck.specs.Meanings.{SortsTerm, SortsTree}
use Rattle.psg_defcheck.specs.Sorting.{place_told}
use Rattle.psg_defcheck.proofs.LineSortLaws.{both}
use Rattle.psg_defcheck.proofs.sorted_lines.sorts_by.Goals as goal

pub returns : goal.returns
returns c =
    both (λ s. SortsTerm c.args.scope.now s [] (place_told c.args.place) c.args.term.now) (λ s. SortsTree c.args.scope.now s [] (place_told c.args.kind) c.args.specimen.now) c.args.sorts.now c.sorts_term.new.sorts c.sorts_tree.new.sorts
    c.in_ok-term_fits.term_fits c.in_ok-fits.fits c.if-not-term_fits.false c.in_ok-term_fits.ensures c.in_ok-fits.ensures
