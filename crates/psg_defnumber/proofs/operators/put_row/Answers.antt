use Rattle.std.proofs.Common.{ap, subst, sym, ◌∙◌, ◌∷◌, [], Some}
use Rattle.std.specs.List.{AllByRecursion}
use Rattle.psg_terms.specs.Kept.{numbers_of}
use Rattle.psg_deflines.specs.Entries.{written}
use Rattle.psg_defnumber.specs.Sorts.{RowStands, RowsStand}
use Rattle.psg_deflines.specs.declared.lines.Line.TheVariants as lines
use Rattle.psg_defcheck.specs.Meanings.{KnowsTerm}
use Rattle.psg_defnumber.proofs.LineLaws.{row-put}
use Rattle.psg_defnumber.proofs.NamedLaws.{known-line}
use Rattle.psg_defnumber.proofs.operators.put_row.Goals as goal

pub row-requires-clause-head : goal.row-requires-clause-head
row-requires-clause-head c = (known-line c.args.checked.now c.args.entry.now c.in-Some.line (lines.Row c.in-Row.head c.in-Row.written) c.requires.known c.in-Some.is c.in-Row.is).0

pub row-requires-clause-columns : goal.row-requires-clause-columns
row-requires-clause-columns c =
    subst (AllByRecursion (KnowsTerm c.args.checked.now)) (sym c.as_slice.ensures)
    (known-line c.args.checked.now c.args.entry.now c.in-Some.line (lines.Row c.in-Row.head c.in-Row.written) c.requires.known c.in-Some.is c.in-Row.is).1

pub row-requires-clause-constructors : goal.row-requires-clause-constructors
row-requires-clause-constructors c = c.requires.kinds.constructors

pub row-requires-clause-fits : goal.row-requires-clause-fits
row-requires-clause-fits c =
    let fits = (subst (λ e. RowsStand c.args.checked.now c.args.sort.0 (numbers_of c.args.sorts.now) (written (e ∷ []))) (c.in-Some.is ∙ ap Some c.in-Row.is) c.requires.fits).0 in
    (fits.0, subst (RowStands c.args.checked.now fits.0 c.args.sort.0 (numbers_of c.args.sorts.now) c.in-Row.head) (sym c.as_slice.ensures) fits.1)

pub returns : goal.returns
returns c = λ rest.
    row-put c.args.definition.now c.args.sort.0 (numbers_of c.args.sorts.now) c.args.entry.now c.in-Some.line c.in-Row.head c.as_slice.result.now rest c.args.made.now.items c.push.new.self.items c.in_ok-one.one c.in-Some.is
    (c.in-Row.is ∙ ap (lines.Row c.in-Row.head) (sym c.as_slice.ensures)) c.in_ok-push.ensures.items c.in_ok-one.ensures
