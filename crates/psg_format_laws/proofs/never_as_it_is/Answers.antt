use Rattle.psg_format_laws.proofs.Formatting.{never_as_it_is}
use Rattle.psg_format_laws.proofs.never_as_it_is.Goals as goal

pub returns : goal.returns
returns c =
    never_as_it_is c.args.definition.now c.requires.sound c.requires.words c.requires.class c.args.token.now c.requires.fit
