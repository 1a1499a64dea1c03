use Rattle.std.proofs.Common.{◌≡◌, Some, slice_get, inr, subst}
use Rattle.psg_grammar.specs.declared.types.Row.{Row}
use Rattle.psg_completions.specs.Covered.{IsCoveredRow}
use Rattle.psg_covering.specs.Rows.{IsRowCovered}
use Rattle.psg_specimen.specs.Walks.{FindsTwo}
use Rattle.psg_specimen.proofs.InRange.{inside}
use Rattle.psg_specimen.proofs.accepting.check_rows.Goals as goal

pub returns-in-Some-clause-refusal : goal.returns-in-Some-clause-refusal
returns-in-Some-clause-refusal c =
    let def = c.args.definition.now in
    let first = subst (FindsTwo (IsCoveredRow def)) c.in-Some.is c.in_ok-operator.ensures in
    inr (
      (c.requires.class, c.requires.before, first),
      inside def.operators (λ op. (row : Row) → slice_get op.rows c.in-Some.row ≡ Some row → IsRowCovered def op row) c.in-Some.operator first.0,
    )

pub returns-clause-met : goal.returns-clause-met
returns-clause-met c = (c.requires.before, subst (FindsTwo (IsCoveredRow c.args.definition.now)) c.in_default.is c.in_ok-operator.ensures)
