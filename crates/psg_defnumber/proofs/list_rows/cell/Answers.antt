use Rattle.std.proofs.Common.{◌∙◌, subst, sym}
use Rattle.psg_defnumber.specs.Sorts.{Agree}
use Rattle.psg_defnumber.proofs.RowLaws.{cell-made}
use Rattle.psg_defnumber.proofs.list_rows.cell.Goals as goal

pub term-requires-clause-fits : goal.term-requires-clause-fits
term-requires-clause-fits c = let fits = c.requires.fits in (fits.0, subst (Agree c.args.checked.now fits.0) (sym c.new-known.ensures.empty) tt, fits.1)

pub term-requires-2-clause-fits : goal.term-requires-2-clause-fits
term-requires-2-clause-fits c = let fits = c.requires.fits in (fits.0, c.in_ok-head.ensures.agrees fits.0 (subst (Agree c.args.checked.now fits.0) (sym c.new-known.ensures.empty) tt) fits.1, fits.2)

pub term-requires-3-clause-fits : goal.term-requires-3-clause-fits
term-requires-3-clause-fits c = let fits = c.requires.fits in (fits.0, c.in_ok-first.ensures.agrees fits.0 (c.in_ok-head.ensures.agrees fits.0 (subst (Agree c.args.checked.now fits.0) (sym c.new-known.ensures.empty) tt) fits.1) fits.2, fits.3)

pub returns : goal.returns
returns c =
    cell-made c.args.definition.now c.new-known.result.entries c.term.new.known.entries c.term-2.new.known.entries c.term-3.new.known.entries c.args.sort.0 c.args.elements.0 c.args.head.now c.args.element.now c.args.rest.now c.in_ok-head.head c.in_ok-first.first c.in_ok-more.more
    _ c.new-known.ensures.empty c.in_ok-head.ensures.made c.in_ok-first.ensures.made c.in_ok-more.ensures.made (c.of.ensures ∙ c.in_ok-columns.ensures.items)
