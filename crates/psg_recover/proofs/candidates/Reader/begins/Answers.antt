use Rattle.psg_recover.specs.Grammars.{quiet}
use Rattle.psg_recover.proofs.ReaderLaws.{begins_test}
use Rattle.psg_recover.proofs.candidates.Reader.begins.Goals as goal

pub returns : goal.returns
returns c =
    begins_test (quiet c.args.self.known.definition.now) c.args.kind c.args.tokens.now c.in_ok-front.front.tokens
    c.in_ok-front.ensures.stop
