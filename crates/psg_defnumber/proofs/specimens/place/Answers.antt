use Rattle.psg_defcheck.specs.Scopes.{value_place}
use Rattle.psg_defnumber.proofs.FitLaws.{place-made}
use Rattle.psg_defnumber.proofs.MadeLaws.{keeps-self}
use Rattle.psg_defnumber.proofs.StandLaws.{value-at}
use Rattle.psg_defnumber.proofs.NamedLaws.{kind-is, kind-there}
use Rattle.psg_defnumber.proofs.specimens.place.Goals as goal

pub kind_sort-sort-requires : goal.kind_sort-sort-requires
kind_sort-sort-requires c = kind-there c.args.checked.now c.kind_named-kind.result c.args.written.now.kind c.kind_named-kind.ensures c.args.definition.now c.requires.names.kinds

pub term-requires-clause-fits : goal.term-requires-clause-fits
term-requires-clause-fits c =
    let fits = c.requires.fits in
    let file = c.args.checked.now in
    (fits.0, fits.1, record { spot = value_place file c.args.written.now.kind; place = value-at file c.args.definition.now c.requires.names.kinds c.args.written.now.kind c.kind_named-kind.result c.kind_sort-sort.result.0 c.kind_named-kind.ensures (c.kind_sort-sort.ensures c.args.definition.now (keeps-self c.args.definition.now)); sorted = fits.2 })

pub returns-clause-agrees : goal.returns-clause-agrees
returns-clause-agrees c = λ sorts agree h.
    let file = c.args.checked.now in
    c.in_ok-made.ensures.agrees sorts agree (record { spot = value_place file c.args.written.now.kind; place = value-at file c.args.definition.now c.requires.names.kinds c.args.written.now.kind c.kind_named-kind.result c.kind_sort-sort.result.0 c.kind_named-kind.ensures (c.kind_sort-sort.ensures c.args.definition.now (keeps-self c.args.definition.now)); sorted = h })

pub returns-clause-made : goal.returns-clause-made
returns-clause-made c =
    place-made c.args.definition.now c.args.known.now.entries c.term.new.known.entries c.args.written.now.kind c.kind_named-kind.result c.kind_sort-sort.result.0 c.args.written.now.term c.in_ok-made.made
    (kind-is c.args.checked.now c.kind_named-kind.result c.args.written.now.kind c.kind_named-kind.ensures c.args.definition.now c.requires.names.kinds) c.kind_sort-sort.ensures c.in_ok-made.ensures.made
