use Rattle.psg_class.specs.Texts.{tokens_of}
use Rattle.psg_recover.proofs.CandidateLaws.{IsNoneUpTo}
use Rattle.psg_recover.proofs.candidates.resumed.Given as goal

abbrev pub invariant-loop-to : goal.invariant-loop-to
invariant-loop-to l = IsNoneUpTo l.reader.known.definition.now l.reader.kind (tokens_of l.tokens) l.stop l.all.items l.to
