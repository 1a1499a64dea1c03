use Rattle.std.proofs.Common.{subst}
use Rattle.psg_defcheck.specs.Sorting.{EndStands}
use Rattle.psg_grammar.specs.declared.types.Kind.TheVariants as kinds
use Rattle.psg_defnumber.proofs.FitLaws.{rest-made}
use Rattle.psg_defnumber.proofs.PlacingLaws.{rest-fits, made-kind}
use Rattle.psg_defnumber.proofs.NamedLaws.{end-known}
use Rattle.psg_defnumber.proofs.specimens.list_rest.Goals as goal

pub place-requires-clause-declared : goal.place-requires-clause-declared
place-requires-clause-declared c = end-known c.args.checked.now c.args.written.now c.in-Some.own c.in-Some.is c.requires.declared

pub place-requires-clause-fits : goal.place-requires-clause-fits
place-requires-clause-fits c = let fits = c.requires.fits in (fits.0, fits.1, (subst (EndStands c.args.checked.now fits.0 fits.2.spot) c.in-Some.is fits.2.sorted).1)

pub returns-in_ok-made-in-Some-clause-agrees : goal.returns-in_ok-made-in-Some-clause-agrees
returns-in_ok-made-in-Some-clause-agrees c = λ sorts agree h. c.in_ok-made-in-Some.ensures.agrees sorts agree (subst (EndStands c.args.checked.now sorts h.spot) c.in-Some.is h.sorted).1

pub returns-in_ok-made-in-Some-clause-made : goal.returns-in_ok-made-in-Some-clause-made
returns-in_ok-made-in-Some-clause-made c =
    rest-made c.args.definition.now c.args.known.now.entries c.place.new.known.entries c.args.list c.in_ok-made-in-Some.made c.in-Some.own c.args.written.now c.in-Some.is (rest-fits c.args.checked.now c.requires.names.kinds.once c.requires.fits.0 (kinds.List c.args.list) c.in_ok-made-in-Some.made.kind c.args.written.now c.in-Some.own c.in-Some.is
    (made-kind c.args.checked.now c.args.definition.now c.requires.names c.args.known.now.entries c.place.new.known.entries c.in-Some.own.kind c.in-Some.own.term c.in_ok-made-in-Some.made c.in_ok-made-in-Some.ensures.made) c.requires.fits.2)
    c.in_ok-made-in-Some.ensures.made
