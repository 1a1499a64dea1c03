use Rattle.std.proofs.Common.{take}
use Rattle.psg_terms.specs.Relations.{IsIn}
use Rattle.psg_class.specs.Texts.{tokens_of}
use Rattle.psg_recover.specs.declared.candidates.Candidate.{Candidate}
use Rattle.psg_recover.specs.Candidates.{GoesOnWith}
use Rattle.psg_recover.proofs.candidates.resumed_at.Given as goal

abbrev pub invariant-loop-place : goal.invariant-loop-place
invariant-loop-place l = (c : Candidate) → IsIn c (take l.place l.candidates) → GoesOnWith l.reader.known.definition.now l.reader.kind (tokens_of l.tokens) l.to c → ⊥
