use Rattle.std.proofs.Common.{◌≡◌, Some, slice_get, inr, subst}
use Rattle.psg_grammar.specs.declared.types.Row.{Row}
use Rattle.psg_completions.specs.Covered.{IsCoveredCell}
use Rattle.psg_covering.specs.Rows.{IsCellCovered}
use Rattle.psg_specimen.specs.Walks.{FindsTwo}
use Rattle.psg_specimen.proofs.InRange.{inside}
use Rattle.psg_specimen.proofs.accepting.check_cells.Goals as goal

pub returns-in-Some-clause-refusal : goal.returns-in-Some-clause-refusal
returns-in-Some-clause-refusal c =
    let def = c.args.definition.now in
    let first = subst (FindsTwo (IsCoveredCell def)) c.in-Some.is c.in_ok-list.ensures in
    inr (
      (c.requires.class, c.requires.before, first),
      inside def.lists (λ list. (row : Row) → slice_get list.cell_rows c.in-Some.row ≡ Some row → IsCellCovered def c.in-Some.list list row) c.in-Some.list first.0,
    )

pub returns-clause-met : goal.returns-clause-met
returns-clause-met c = (c.requires.before, subst (FindsTwo (IsCoveredCell c.args.definition.now)) c.in_default.is c.in_ok-list.ensures)
