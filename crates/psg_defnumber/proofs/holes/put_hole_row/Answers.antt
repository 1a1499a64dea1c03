use Rattle.std.proofs.Common.{ap, subst, ◌∙◌, ◌∷◌, ◌++◌, [], Some, None}
use Rattle.psg_deflines.specs.Entries.{written}
use Rattle.psg_defcheck.specs.Faults.{ArePassed}
use Rattle.psg_defcheck.proofs.AboveLaws.{last_hole-append}
use Rattle.psg_deflines.specs.declared.lines.Line.TheVariants as lines
use Rattle.psg_defnumber.proofs.LineLaws.{hole-put}
use Rattle.psg_defnumber.proofs.NamedLaws.{known-line, meant-line}
use Rattle.psg_defnumber.proofs.holes.put_hole_row.Goals as goal

pub hole_row-requires-clause-kind : goal.hole_row-requires-clause-kind
hole_row-requires-clause-kind c = (known-line c.args.checked.now c.args.entry.now c.in-Some.line (lines.Hole c.in-Hole.kind c.in-Hole.term c.in-Hole.specimen) c.requires.known c.in-Some.is c.in-Hole.is).0

pub hole_row-requires-clause-specimen : goal.hole_row-requires-clause-specimen
hole_row-requires-clause-specimen c = (known-line c.args.checked.now c.args.entry.now c.in-Some.line (lines.Hole c.in-Hole.kind c.in-Hole.term c.in-Hole.specimen) c.requires.known c.in-Some.is c.in-Hole.is).2

pub hole_row-requires-clause-term : goal.hole_row-requires-clause-term
hole_row-requires-clause-term c = (known-line c.args.checked.now c.args.entry.now c.in-Some.line (lines.Hole c.in-Hole.kind c.in-Hole.term c.in-Hole.specimen) c.requires.known c.in-Some.is c.in-Hole.is).1

pub hole_row-requires-clause-sorted : goal.hole_row-requires-clause-sorted
hole_row-requires-clause-sorted c =
    let sorted = (meant-line c.args.checked.now c.args.entry.now c.in-Some.line (lines.Hole c.in-Hole.kind c.in-Hole.term c.in-Hole.specimen) c.requires.known c.in-Some.is c.in-Hole.is).sorted in (sorted.0, sorted.1.0, sorted.1.1)

pub hole_row-requires-clause-form : goal.hole_row-requires-clause-form
hole_row-requires-clause-form c = (meant-line c.args.checked.now c.args.entry.now c.in-Some.line (lines.Hole c.in-Hole.kind c.in-Hole.term c.in-Hole.specimen) c.requires.known c.in-Some.is c.in-Hole.is).form.2

pub hole_row-requires-clause-passed : goal.hole_row-requires-clause-passed
hole_row-requires-clause-passed c =
    let above = c.requires.passed.0 in
    let passed = subst (λ e. ArePassed c.args.checked.now above (written (e ∷ c.args.behind.now))) (c.in-Some.is ∙ ap Some c.in-Hole.is) c.requires.passed.1 in (
      above ++ lines.Hole c.in-Hole.kind c.in-Hole.term c.in-Hole.specimen ∷ [],
      last_hole-append None above (lines.Hole c.in-Hole.kind c.in-Hole.term c.in-Hole.specimen ∷ []),
      passed.1,
    )

pub returns : goal.returns
returns c =
    hole-put c.args.definition.now c.args.entry.now c.in-Some.line c.in-Hole.kind c.in-Hole.term c.in-Hole.specimen c.args.behind.now c.args.made.now.items c.push.new.self.items c.in_ok-one.one c.in-Some.is c.in-Hole.is c.in_ok-push.ensures.items c.in_ok-one.ensures
