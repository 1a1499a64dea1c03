use Rattle.psg_format_laws.proofs.Formatting.{formats_twice}
use Rattle.psg_format_laws.proofs.formats_twice.Goals as goal

pub returns : goal.returns
returns c =
    formats_twice c.args.definition.now c.requires.sound c.requires.words c.requires.class c.args.token.now c.requires.fit
