use Rattle.std.proofs.Common.{ap, ◌∙◌}
use Rattle.psg_completing.specs.Offering.{entries_with}
use Rattle.psg_completing.proofs.offering.one_entry.Goals as goal

pub entries_with-requires : goal.entries_with-requires
entries_with-requires c = c.requires

pub returns : goal.returns
returns c =
    c.in_ok-entries.ensures
    ∙ ap (entries_with c.args.open.known.program.language.now c.args.open.least c.args.operator.now.name c.args.op)
    (c.as_slice-row.ensures.value ∙ c.in_ok-names.ensures)
