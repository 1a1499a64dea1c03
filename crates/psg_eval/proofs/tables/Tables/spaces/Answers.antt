use Rattle.std.proofs.Common.{sym, subst}
use Rattle.psg_eval.specs.SpaceTables.{AreDeclaringSpaces}
use Rattle.psg_eval.proofs.tables.Tables.spaces.Goals as goal

pub returns : goal.returns
returns c = λ def are. subst (AreDeclaringSpaces def) (sym c.as_slice.ensures.value) are.spaces
