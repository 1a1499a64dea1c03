use Rattle.std.proofs.Common.{sym, subst}
use Rattle.psg_terms.specs.Kept.{numbers_of}
use Rattle.psg_defnumber.specs.Naming.{AreMadeTerms}
use Rattle.psg_defnumber.specs.Sorts.{Agree}
use Rattle.psg_defnumber.proofs.RowLaws.{row-made}
use Rattle.psg_defnumber.proofs.rows.row.Goals as goal

pub term-requires-clause-fits : goal.term-requires-clause-fits
term-requires-clause-fits c = let fits = c.requires.fits in (fits.0, subst (Agree c.args.checked.now fits.0) (sym c.new-known.ensures.empty) tt, fits.1.0)

pub terms-requires-clause-fits : goal.terms-requires-clause-fits
terms-requires-clause-fits c = let fits = c.requires.fits in (fits.0, c.in_ok-head.ensures.agrees fits.0 (subst (Agree c.args.checked.now fits.0) (sym c.new-known.ensures.empty) tt) fits.1.0, fits.1.1)

pub returns : goal.returns
returns c =
    row-made c.args.definition.now c.new-known.result.entries c.term.new.known.entries c.terms.new.known.entries c.args.sort.0 (numbers_of c.args.sorts.now) c.args.head.now c.args.columns.now _ c.new-known.ensures.empty c.in_ok-head.ensures.made
    (subst (AreMadeTerms c.args.definition.now.signature c.term.new.known.entries c.terms.new.known.entries (numbers_of c.args.sorts.now) c.args.columns.now) (sym c.of.ensures) c.in_ok-columns.ensures.made)
