use Rattle.psg_run.proofs.WholeDefinitions.{refused_line}
use Rattle.psg_run.proofs.exporting.refusal_of.Goals as goal

pub returns : goal.returns
returns c =
    refused_line c.args.refused.now.definition c.args.refused.now.fault c.requires.refuses c.in_default.not-Memory
    c.accept_text.result c.accept_text.ensures
