use Rattle.std.proofs.Common.{◌∙◌, sym, subst}
use Rattle.psg_eval.specs.SpaceTables.{AreDeclaringSpaces}
use Rattle.psg_eval.proofs.SpaceReads.{table_are}
use Rattle.psg_eval.proofs.tables.Tables.of.Goals as goal

pub of-requires-clause-spaces : goal.of-requires-clause-spaces
of-requires-clause-spaces c =
    let def = c.args.definition.now in
    subst (AreDeclaringSpaces def) (sym c.as_slice.ensures.value)
    (table_are def c.in_ok-spaces.spaces.items (sym c.in_ok-spaces.spaces.ok.0 ∙ c.in_ok-spaces.ensures.one_each) c.in_ok-spaces.ensures.exact)

pub returns : goal.returns
returns c =
    let def = c.args.definition.now in
    record {
      spaces = table_are def c.in_ok-spaces.spaces.items (sym c.in_ok-spaces.spaces.ok.0 ∙ c.in_ok-spaces.ensures.one_each) c.in_ok-spaces.ensures.exact;
      starts = c.in_ok-starts.ensures;
    }
