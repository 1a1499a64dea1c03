use Rattle.std.proofs.Common.{sym, subst}
use Rattle.std.proofs.lemmas.Option.{slice_get_within}
use Rattle.psg_eval.specs.SpaceTables.{AreDeclaringSpaces}
use Rattle.psg_eval.proofs.tables.Tables.eval_end.Goals as goal

pub spaces_of-spaces-requires-clause-spaces : goal.spaces_of-spaces-requires-clause-spaces
spaces_of-spaces-requires-clause-spaces g c = subst (AreDeclaringSpaces c.args.definition.now) (sym c.as_slice.ensures.value) c.requires.tables.spaces

pub spaces_of-spaces-requires-clause-there : goal.spaces_of-spaces-requires-clause-there
spaces_of-spaces-requires-clause-there g c =
    slice_get_within c.args.definition.now.lists c.args.list c.requires.end.0 c.requires.end.1
