use Rattle.std.proofs.Common.{subst, sym}
use Rattle.psg_defnumber.specs.Sorts.{Agree}
use Rattle.psg_defnumber.proofs.RowLaws.{case-made}
use Rattle.psg_defnumber.proofs.rows.case.Goals as goal

pub term-requires-clause-fits : goal.term-requires-clause-fits
term-requires-clause-fits c = let fits = c.requires.fits in (fits.0, subst (Agree c.args.checked.now fits.0) (sym c.new-known.ensures.empty) tt, fits.1.0)

pub specimen-requires-clause-fits : goal.specimen-requires-clause-fits
specimen-requires-clause-fits c = let fits = c.requires.fits in (fits.0, c.in_ok-made.ensures.agrees fits.0 (subst (Agree c.args.checked.now fits.0) (sym c.new-known.ensures.empty) tt) fits.1.0, fits.1.1)

pub returns : goal.returns
returns c =
    case-made c.args.definition.now c.new-known.result.entries c.term.new.known.entries c.specimen.new.known.entries c.args.kind c.args.sort.0 c.args.written.now c.args.tree.now (record { term = c.in_ok-made.made; specimen = c.in_ok-shown.shown })
    c.new-known.ensures.empty c.in_ok-made.ensures.made c.in_ok-shown.ensures.made
