use Rattle.psg_deflines.specs.Parts.{texts}
use Rattle.psg_deflines.specs.TreeWalks.{expects, begun}
use Rattle.psg_deflines.specs.TreePieces.{HasNoBegin, IsBeginRead}
use Rattle.psg_deflines.specs.TreeStages.{IsLed}
use Rattle.psg_deflines.proofs.TreeMoves.{step-not-begun, step-begun-none, step-begun}
use Rattle.std.proofs.Common.{◌≡◌}
use Rattle.std.proofs.lemmas.Option.{MatchOption-at_some, MatchOption-at_none}
use Rattle.std.specs.Prelude.{None}
use Rattle.psg_deflines.proofs.tree_reading.begin.Goals as goal

pub returns-in_default : goal.returns-in_default
returns-in_default c = λ fs h.
    step-not-begun fs c.args.trees.deep (texts c.args.parts.now) (MatchOption-at_none (HasNoBegin (texts c.args.parts.now)) (IsBeginRead (texts c.args.parts.now)) c.in_default.is c.in_ok-read.ensures)

pub returns-in_default-2 : goal.returns-in_default-2
returns-in_default-2 c = λ fs h.
    let read = MatchOption-at_some (HasNoBegin (texts c.args.parts.now)) (IsBeginRead (texts c.args.parts.now)) c.in-Some.read c.in-Some.is c.in_ok-read.ensures in
    step-begun-none fs (texts c.args.parts.now) c.in-Some.read read
    (MatchOption-at_none (begun fs read.begin ≡ None) (IsLed (expects fs) (begun fs read.begin) c.args.trees.deep) c.in_default-2.is (c.in_ok-walk.ensures fs read.begin h read.shown))

pub returns : goal.returns
returns c = λ fs h.
    let read = MatchOption-at_some (HasNoBegin (texts c.args.parts.now)) (IsBeginRead (texts c.args.parts.now)) c.in-Some.read c.in-Some.is c.in_ok-read.ensures in
    step-begun fs c.args.trees.deep (texts c.args.parts.now) c.in-Some.read read c.in-Some-2.walk
    (MatchOption-at_some (begun fs read.begin ≡ None) (IsLed (expects fs) (begun fs read.begin) c.args.trees.deep) c.in-Some-2.walk c.in-Some-2.is (c.in_ok-walk.ensures fs read.begin h read.shown))
