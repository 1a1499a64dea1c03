use Rattle.std.proofs.Common.{[], subst, sym}
use Rattle.psg_defcheck.specs.Faults.{ArePassed}
use Rattle.psg_deflines.specs.Entries.{written}
use Rattle.psg_defnumber.specs.Growing.{Lasts}
use Rattle.psg_defnumber.specs.Numbers.{AreHoleRows, AreDeclareRows}
use Rattle.psg_defnumber.specs.Stages.{IsDeclared}
use Rattle.psg_defnumber.proofs.StageLaws.{is-numbered, names-of}
use Rattle.psg_defnumber.proofs.NamedLaws.{lines-known}
use Rattle.psg_defnumber.proofs.numbering.numbered.Goals as goal

pub hole_rows-requires-clause-known : goal.hole_rows-requires-clause-known
hole_rows-requires-clause-known c = lines-known c.args.checked.now c.entries-entries.result.now c.entries-entries.ensures.lines c.requires.few c.entries-entries.ensures.passed

pub hole_rows-requires-clause-names : goal.hole_rows-requires-clause-names
hole_rows-requires-clause-names c = names-of c.args.version (written c.entries-entries.result.now) c.args.checked.now c.in_ok-definition.definition c.entries-entries.ensures.lines c.requires.few c.entries-entries.ensures.passed c.in_ok-definition.ensures

pub hole_rows-requires-clause-passed : goal.hole_rows-requires-clause-passed
hole_rows-requires-clause-passed c =
    ([], subst (ArePassed c.args.checked.now []) (sym c.entries-entries.ensures.lines) c.entries-entries.ensures.passed)

pub declare_rows-requires-clause-known : goal.declare_rows-requires-clause-known
declare_rows-requires-clause-known c = lines-known c.args.checked.now c.entries-entries.result.now c.entries-entries.ensures.lines c.requires.few c.entries-entries.ensures.passed

pub declare_rows-requires-clause-names : goal.declare_rows-requires-clause-names
declare_rows-requires-clause-names c = names-of c.args.version (written c.entries-entries.result.now) c.args.checked.now c.in_ok-definition.definition c.entries-entries.ensures.lines c.requires.few c.entries-entries.ensures.passed c.in_ok-definition.ensures

pub returns-clause-numbered : goal.returns-clause-numbered
returns-clause-numbered c =
    let lines = c.entries-entries.ensures.lines in
    let holes = subst (λ rows. Lasts c.in_ok-definition.definition (λ full. AreHoleRows full (written c.entries-entries.result.now) rows)) (sym c.of.ensures) c.in_ok-holes.ensures in
    let declares = subst (λ rows. Lasts c.in_ok-definition.definition (λ full. AreDeclareRows full (written c.entries-entries.result.now) rows)) (sym c.of-2.ensures) c.in_ok-declares.ensures in
    is-numbered c.args.version c.args.checked.now c.in_ok-definition.definition c.of.result c.of-2.result c.entries-entries.ensures.passed
    (subst (λ file. IsDeclared c.args.version file c.in_ok-definition.definition) lines c.in_ok-definition.ensures)
    (subst (λ file. Lasts c.in_ok-definition.definition (λ full. AreHoleRows full file c.of.result)) lines holes)
    (subst (λ file. Lasts c.in_ok-definition.definition (λ full. AreDeclareRows full file c.of-2.result)) lines declares)
