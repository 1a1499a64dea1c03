use Rattle.std.specs.Prelude.{chars}
use Rattle.psg_terms.specs.Names.{is_among}
use Rattle.psg_terms.specs.Words.{IsWord}
use Rattle.psg_completing.proofs.SampleNames.{fixed_is}
use Rattle.psg_completing.proofs.naming.is_fixed.Goals as goal

pub returns : goal.returns
returns c =
    fixed_is c.reserved.result (is_among c.args.lexis.now c.args.word.now) (IsWord (chars c.args.word.now))
    c.reserved.ensures.exact c.requires
