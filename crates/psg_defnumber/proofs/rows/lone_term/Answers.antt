use Rattle.std.proofs.Common.{subst, sym}
use Rattle.psg_defnumber.specs.Sorts.{Agree}
use Rattle.psg_defnumber.proofs.RowLaws.{nil-made}
use Rattle.psg_defnumber.proofs.rows.lone_term.Goals as goal

pub term-requires-clause-fits : goal.term-requires-clause-fits
term-requires-clause-fits c = let fits = c.requires.fits in (fits.0, subst (Agree c.args.checked.now fits.0) (sym c.new-known.ensures.empty) tt, fits.1)

pub returns : goal.returns
returns c = nil-made c.args.definition.now c.new-known.result.entries c.term.new.known.entries c.args.sort.0 c.args.written.now c.in_ok-made.made c.new-known.ensures.empty c.in_ok-made.ensures.made
