use Rattle.psg_class.specs.Texts.{tokens_of}
use Rattle.psg_recover.specs.Candidates.{AreCandidatesTo}
use Rattle.psg_recover.proofs.candidates.add_candidates.Given as goal

abbrev pub invariant-loop-place : goal.invariant-loop-place
invariant-loop-place l = AreCandidatesTo l.reader.known.definition.now l.reader.kind (tokens_of l.tokens) l.stop l.from l.place l.found.items
