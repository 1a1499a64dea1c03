use Rattle.std.proofs.Common.{[], ap, subst, sym, ◌∙◌, ◌∷◌, ◌++◌}
use Rattle.psg_deflines.specs.Entries.{written}
use Rattle.psg_defnumber.specs.Growing.{Lasts}
use Rattle.psg_defnumber.specs.Numbers.{AreCases}
use Rattle.psg_defnumber.proofs.LineLaws.{hole-shown, hole-split}
use Rattle.psg_defcheck.specs.Meanings.{KnowsBehindBy}
use Rattle.psg_defnumber.proofs.NamedLaws.{kind-is, kind-there}
use Rattle.psg_defcheck.specs.Scopes.{value_place}
use Rattle.psg_defnumber.proofs.MadeLaws.{keeps-self}
use Rattle.psg_defnumber.proofs.StandLaws.{value-at}
use Rattle.psg_defnumber.proofs.PlacingLaws.{cases-fit, hole-fits}
use Rattle.psg_defnumber.proofs.holes.hole_row.Goals as goal

pub case-requires-clause-tree : goal.case-requires-clause-tree
case-requires-clause-tree c = subst (KnowsBehindBy c.args.checked.now) c.in-Some.is c.requires.specimen

pub kind_sort-sort-requires : goal.kind_sort-sort-requires
kind_sort-sort-requires c = kind-there c.args.checked.now c.kind_named-kind.result c.args.kind.now c.kind_named-kind.ensures c.args.definition.now c.requires.names.kinds

pub cases-requires-clause-there : goal.cases-requires-clause-there
cases-requires-clause-there c = kind-there c.args.checked.now c.kind_named-kind.result c.args.kind.now c.kind_named-kind.ensures c.args.definition.now c.requires.names.kinds

pub case-requires-clause-there : goal.case-requires-clause-there
case-requires-clause-there c = kind-there c.args.checked.now c.kind_named-kind.result c.args.kind.now c.kind_named-kind.ensures c.args.definition.now c.requires.names.kinds

pub cases-requires-clause-fits : goal.cases-requires-clause-fits
cases-requires-clause-fits c =
    cases-fit c.args.checked.now c.requires.names.kinds.once c.kind_named-kind.result c.kind_sort-sort.result.0 c.args.kind.now c.requires.kind c.kind_named-kind.ensures (value-at c.args.checked.now c.args.definition.now c.requires.names.kinds c.args.kind.now c.kind_named-kind.result c.kind_sort-sort.result.0 c.kind_named-kind.ensures (c.kind_sort-sort.ensures c.args.definition.now (keeps-self c.args.definition.now))) c.requires.passed.0 (written c.args.behind.now) c.requires.passed.1
    c.requires.behind c.requires.passed.2

pub case-requires-clause-fits : goal.case-requires-clause-fits
case-requires-clause-fits c =
    let sorted = c.requires.sorted in (
      sorted.0,
      (
        record { spot = value_place c.args.checked.now c.args.kind.now; place = value-at c.args.checked.now c.args.definition.now c.requires.names.kinds c.args.kind.now c.kind_named-kind.result c.kind_sort-sort.result.0 c.kind_named-kind.ensures (c.kind_sort-sort.ensures c.args.definition.now (keeps-self c.args.definition.now)); sorted = sorted.1 },
        hole-fits c.args.checked.now c.requires.names.kinds.once sorted.0 c.kind_named-kind.result c.args.kind.now c.args.specimen.now c.in-Some.tree c.requires.kind c.kind_named-kind.ensures c.in-Some.is sorted.2 c.requires.form,
      ),
    )

pub lone_term-requires-clause-fits : goal.lone_term-requires-clause-fits
lone_term-requires-clause-fits c =
    let sorted = c.requires.sorted in (sorted.0, record { spot = value_place c.args.checked.now c.args.kind.now; place = value-at c.args.checked.now c.args.definition.now c.requires.names.kinds c.args.kind.now c.kind_named-kind.result c.kind_sort-sort.result.0 c.kind_named-kind.ensures (c.kind_sort-sort.ensures c.args.definition.now (keeps-self c.args.definition.now)); sorted = sorted.1 })

pub lone_term-requires-clause-constructors : goal.lone_term-requires-clause-constructors
lone_term-requires-clause-constructors c = c.requires.names.kinds.constructors

pub returns-in_default : goal.returns-in_default
returns-in_default c =
    hole-split c.args.definition.now c.args.kind.now c.args.term.now c.args.specimen.now (written c.args.behind.now) (record { kind = c.kind_named-kind.result; term = c.in_ok-term.term; cases = c.of.result }) c.kind_sort-sort.result.0
    c.in_default.is (kind-is c.args.checked.now c.kind_named-kind.result c.args.kind.now c.kind_named-kind.ensures c.args.definition.now c.requires.names.kinds) c.kind_sort-sort.ensures c.in_ok-term.ensures
    (subst (λ cs. Lasts c.args.definition.now (λ full. AreCases full c.kind_named-kind.result c.kind_sort-sort.result.0 (written c.args.behind.now) cs)) (sym c.of.ensures) c.in_ok-cases.ensures)

pub returns : goal.returns
returns c =
    hole-shown c.args.definition.now c.args.kind.now c.args.term.now c.args.specimen.now c.in-Some.tree (written c.args.behind.now) (record { kind = c.kind_named-kind.result; term = c.in_ok-term-2.term; cases = c.of-2.result }) c.kind_sort-sort.result.0 c.in_ok-one.one
    c.in-Some.is (kind-is c.args.checked.now c.kind_named-kind.result c.args.kind.now c.kind_named-kind.ensures c.args.definition.now c.requires.names.kinds) c.kind_sort-sort.ensures (c.of-2.ensures ∙ c.in_ok-push.ensures.items ∙ ap (λ l. l ++ c.in_ok-one.one ∷ []) c.in_ok-cases-2.ensures.items) (sym c.in_ok-term-2.ensures) c.in_ok-one.ensures
