use Rattle.std.proofs.Common.{◌≡◌, ◌<◌, take, MatchBool}
use Rattle.psg_terms.specs.Signature.{Signature}
use Rattle.psg_terms.specs.Kept.{symbols_of}
use Rattle.psg_terms.specs.Marks.{AreRight, AllKeep, unmarked}
use Rattle.psg_terms.proofs.ground.mark_more.Given as goal

abbrev pub invariant-loop-d : goal.invariant-loop-d
invariant-loop-d l =
    ((sig : Signature) → sig.symbols ≡ symbols_of l.declared → AreRight sig l.initial.marks → AreRight sig l.marks)
    × MatchBool l.more (unmarked l.marks < unmarked l.initial.marks) ((l.marks ≡ l.initial.marks) × AllKeep l.marks (symbols_of (take l.d-index l.declared)))
