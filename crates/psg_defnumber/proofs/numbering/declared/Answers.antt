use Rattle.std.proofs.Common.{[], subst, sym}
use Rattle.psg_grammar.specs.declared.types.Definition.{Definition}
use Rattle.psg_deflines.specs.Entries.{written}
use Rattle.psg_defcheck.specs.Scopes as scopes
use Rattle.psg_defcheck.specs.Faults.{ArePassed}
use Rattle.psg_defnumber.specs.Declaring.{HasConstructors, HasKinds, HasPhyla, HasSorts}
use Rattle.psg_defnumber.specs.Filling.{Fills}
use Rattle.psg_defnumber.specs.Growing.{Lasts}
use Rattle.psg_defnumber.specs.Numbers.{AreSpaces, ArePhyla, AreLists, AreOperators}
use Rattle.psg_defnumber.specs.Soundness.{AreOfFile}
use Rattle.psg_defnumber.specs.Stages.{IsDeclared}
use Rattle.psg_defnumber.proofs.NamedLaws.{all-known, lines-known}
use Rattle.psg_defnumber.proofs.LineSizes.{formed}
use Rattle.psg_defnumber.proofs.OnceLaws.{kinds-once}
use Rattle.psg_defnumber.proofs.StageLaws.{filled, has, phyla-there, phyla-of, bare-of, constructors-of, kinds-of, is-declared}
use Rattle.psg_defnumber.proofs.numbering.declared.Goals as goal

pub signature-requires-clause-passed : goal.signature-requires-clause-passed
signature-requires-clause-passed c = subst (λ file. ArePassed file [] file) (sym c.requires.lines) c.requires.passed

pub signature-requires-clause-few : goal.signature-requires-clause-few
signature-requires-clause-few c = subst AreOfFile (sym c.requires.lines) c.requires.few

pub spaces-requires : goal.spaces-requires
spaces-requires c = lines-known c.args.checked.now c.args.entries.now c.requires.lines c.requires.few c.requires.passed

pub phyla-requires : goal.phyla-requires
phyla-requires c = lines-known c.args.checked.now c.args.entries.now c.requires.lines c.requires.few c.requires.passed

pub lists-requires : goal.lists-requires
lists-requires c = lines-known c.args.checked.now c.args.entries.now c.requires.lines c.requires.few c.requires.passed

pub fill_lists-requires-clause-known : goal.fill_lists-requires-clause-known
fill_lists-requires-clause-known c = lines-known c.args.checked.now c.args.entries.now c.requires.lines c.requires.few c.requires.passed

pub fill_lists-requires-clause-once : goal.fill_lists-requires-clause-once
fill_lists-requires-clause-once c = kinds-once c.args.checked.now c.requires.passed

pub operators-requires-clause-known : goal.operators-requires-clause-known
operators-requires-clause-known c = lines-known c.args.checked.now c.args.entries.now c.requires.lines c.requires.few c.requires.passed

pub fill_lists-requires-clause-lists : goal.fill_lists-requires-clause-lists
fill_lists-requires-clause-lists c =
    let file = written c.args.entries.now in
    let bare = c.in_ok-lists.lists.items in
    subst (λ (d : Definition). AreLists (filled d c.of.result c.of-2.result d.lists d.operators) [] c.args.checked.now bare) (sym c.of_sorts-definition.ensures)
    (bare-of c.args.version file c.args.checked.now c.in_ok-signature.signature c.of.result c.of-2.result bare bare c.requires.lines c.requires.passed c.requires.few c.in_ok-signature.ensures
    (λ def h full k. subst (ArePhyla full file) (sym c.of-2.ensures) (c.in_ok-phyla.ensures def h full k)) c.in_ok-lists.ensures)

pub fill_lists-requires-clause-constructors : goal.fill_lists-requires-clause-constructors
fill_lists-requires-clause-constructors c =
    let file = written c.args.entries.now in
    let bare = c.in_ok-lists.lists.items in
    subst (λ (d : Definition). HasConstructors c.args.checked.now d.signature) (sym c.of_sorts-definition.ensures)
    (constructors-of c.args.version file c.args.checked.now c.in_ok-signature.signature c.of.result c.of-2.result bare bare c.requires.lines c.requires.passed c.requires.few c.in_ok-signature.ensures)

pub fill_lists-requires-clause-meant : goal.fill_lists-requires-clause-meant
fill_lists-requires-clause-meant c = all-known c.args.checked.now [] c.args.checked.now (formed c.args.checked.now c.requires.few) c.requires.passed

pub fill_lists-requires-clause-sorts : goal.fill_lists-requires-clause-sorts
fill_lists-requires-clause-sorts c =
    let file = written c.args.entries.now in
    let bare = c.in_ok-lists.lists.items in
    subst (λ (d : Definition). HasSorts c.args.checked.now d) (sym c.of_sorts-definition.ensures) (has c.args.version file c.args.checked.now c.in_ok-signature.signature c.of.result c.of-2.result bare bare c.requires.lines c.requires.passed c.requires.few c.in_ok-signature.ensures)

pub fill_lists-requires-clause-phyla : goal.fill_lists-requires-clause-phyla
fill_lists-requires-clause-phyla c =
    let file = written c.args.entries.now in
    let bare = c.in_ok-lists.lists.items in
    subst (λ (d : Definition). HasPhyla c.args.checked.now (filled d c.of.result c.of-2.result d.lists d.operators)) (sym c.of_sorts-definition.ensures)
    (phyla-there c.args.version file c.args.checked.now c.in_ok-signature.signature c.of.result c.of-2.result bare bare c.requires.lines c.requires.passed c.requires.few c.in_ok-signature.ensures
    (λ def h full k. subst (ArePhyla full file) (sym c.of-2.ensures) (c.in_ok-phyla.ensures def h full k)))

pub fill_lists-requires-clause-phylum_sorts : goal.fill_lists-requires-clause-phylum_sorts
fill_lists-requires-clause-phylum_sorts c =
    let file = written c.args.entries.now in
    let bare = c.in_ok-lists.lists.items in
    phyla-of c.args.version file c.args.checked.now c.in_ok-signature.signature c.of.result c.of-2.result bare bare c.requires.lines c.requires.passed c.requires.few c.in_ok-signature.ensures
    (λ def h full k. subst (ArePhyla full file) (sym c.of-2.ensures) (c.in_ok-phyla.ensures def h full k))

pub operators-requires-clause-passed : goal.operators-requires-clause-passed
operators-requires-clause-passed c = ([], subst (ArePassed c.args.checked.now []) (sym c.requires.lines) c.requires.passed)

pub operators-requires-clause-kinds : goal.operators-requires-clause-kinds
operators-requires-clause-kinds c =
    let file = written c.args.entries.now in
    let bare = c.in_ok-lists.lists.items in
    let of_lists = subst (λ (d : Definition). Fills (filled d c.of.result c.of-2.result d.lists d.operators) [] file bare c.of-3.result) c.of_sorts-definition.ensures
    (subst (Fills (filled c.of_sorts-definition.result c.of.result c.of-2.result c.of_sorts-definition.result.lists c.of_sorts-definition.result.operators) [] file bare) (sym c.of-3.ensures) c.in_ok-fill_lists.ensures) in
    subst (λ (d : Definition). HasKinds c.args.checked.now (filled d c.of.result c.of-2.result c.of-3.result d.operators)) (sym c.of_sorts-definition.ensures)
    (kinds-of c.args.version file c.args.checked.now c.in_ok-signature.signature c.of.result c.of-2.result bare c.of-3.result c.requires.lines c.requires.passed c.requires.few c.in_ok-signature.ensures
    (λ def h full k. subst (AreSpaces full (scopes.spaces file)) (sym c.of.ensures) (c.in_ok-spaces.ensures def h full k))
    (λ def h full k. subst (ArePhyla full file) (sym c.of-2.ensures) (c.in_ok-phyla.ensures def h full k)) c.in_ok-lists.ensures of_lists)

pub returns : goal.returns
returns c =
    let file = written c.args.entries.now in
    let bare = c.in_ok-lists.lists.items in
    let of_lists = subst (λ (d : Definition). Fills (filled d c.of.result c.of-2.result d.lists d.operators) [] file bare c.of-3.result) c.of_sorts-definition.ensures
    (subst (Fills (filled c.of_sorts-definition.result c.of.result c.of-2.result c.of_sorts-definition.result.lists c.of_sorts-definition.result.operators) [] file bare) (sym c.of-3.ensures) c.in_ok-fill_lists.ensures) in
    let of_operators = subst (λ (d : Definition). Lasts (filled d c.of.result c.of-2.result c.of-3.result d.operators) (λ full. AreOperators full file c.of-4.result)) c.of_sorts-definition.ensures
    (subst (λ ops. Lasts (filled c.of_sorts-definition.result c.of.result c.of-2.result c.of-3.result c.of_sorts-definition.result.operators) (λ full. AreOperators full file ops)) (sym c.of-4.ensures) c.in_ok-operators.ensures) in
    subst (λ (d : Definition). IsDeclared c.args.version file (filled d c.of.result c.of-2.result c.of-3.result c.of-4.result)) (sym c.of_sorts-definition.ensures)
    (is-declared c.args.version file c.args.checked.now c.in_ok-signature.signature c.of.result c.of-2.result bare c.of-3.result c.of-4.result c.requires.lines c.requires.passed c.in_ok-signature.ensures c.sound.ensures
    (λ def h full k. subst (AreSpaces full (scopes.spaces file)) (sym c.of.ensures) (c.in_ok-spaces.ensures def h full k))
    (λ def h full k. subst (ArePhyla full file) (sym c.of-2.ensures) (c.in_ok-phyla.ensures def h full k)) c.in_ok-lists.ensures of_lists of_operators)
