use Rattle.std.proofs.Common.{List, length, ◌≤◌, subst}
use Rattle.psg_grammar.specs.declared.types.HoleRow.{HoleRow}
use Rattle.psg_specimen.proofs.WalkLaws.{rows_done}
use Rattle.psg_specimen.proofs.unshown.in_rows.Goals as goal

pub returns : goal.returns
returns c =
    rows_done c.args.definition.now c.loop-number.number c.loop-number.weak
    (subst (λ (rows : List HoleRow). length rows ≤ c.loop-number.number) c.as_slice-rows.ensures c.loop-number-test.false) c.loop-number.invariant
