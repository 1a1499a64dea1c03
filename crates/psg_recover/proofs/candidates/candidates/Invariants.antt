use Rattle.std.proofs.Common.{◌-◌, length}
use Rattle.psg_class.specs.Texts.{tokens_of}
use Rattle.psg_recover.specs.Candidates.{AreCandidatesTo}
use Rattle.psg_recover.proofs.candidates.candidates.Given as goal

abbrev pub invariant-loop-less : goal.invariant-loop-less
invariant-loop-less l =
    AreCandidatesTo l.reader.known.definition.now l.reader.kind (tokens_of l.tokens) l.stop (l.stop - l.less) (length l.reader.known.definition.now.phyla) l.found.items
