use Rattle.std.proofs.Common.{ap, subst, ◌∙◌, ◌∷◌, [], Some}
use Rattle.psg_deflines.specs.Entries.{written}
use Rattle.psg_defnumber.specs.Placing.{CasesFit}
use Rattle.psg_deflines.specs.declared.lines.Line.TheVariants as lines
use Rattle.psg_defnumber.proofs.LineLaws.{case-put}
use Rattle.psg_defnumber.proofs.NamedLaws.{known-line}
use Rattle.psg_defnumber.proofs.holes.put_case.Goals as goal

pub case-requires-clause-tree : goal.case-requires-clause-tree
case-requires-clause-tree c = (known-line c.args.checked.now c.args.entry.now c.in-Some.line (lines.Case c.in-Case.term c.in-Case.specimen) c.requires.known c.in-Some.is c.in-Case.is).1

pub case-requires-clause-term : goal.case-requires-clause-term
case-requires-clause-term c = (known-line c.args.checked.now c.args.entry.now c.in-Some.line (lines.Case c.in-Case.term c.in-Case.specimen) c.requires.known c.in-Some.is c.in-Case.is).0

pub case-requires-clause-fits : goal.case-requires-clause-fits
case-requires-clause-fits c =
    (subst (λ e. CasesFit c.args.checked.now c.args.kind c.args.sort.0 (written (e ∷ []))) (c.in-Some.is ∙ ap Some c.in-Case.is) c.requires.fits).0

pub returns : goal.returns
returns c = λ rest.
    case-put c.args.definition.now c.args.kind c.args.sort.0 c.args.entry.now c.in-Some.line c.in-Case.term c.in-Case.specimen rest c.args.made.now.items c.push.new.self.items c.in_ok-one.one c.in-Some.is c.in-Case.is c.in_ok-push.ensures.items c.in_ok-one.ensures
