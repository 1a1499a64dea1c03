use Rattle.psg_deflines.specs.Parts.{texts}
use Rattle.std.proofs.lemmas.Option.{MatchOption-at_some}
use Rattle.psg_deflines.specs.TreePieces.{HasNoPlace, IsPlaceFound}
use Rattle.psg_deflines.proofs.PieceLaws.{place-begun}
use Rattle.psg_deflines.proofs.tree_pieces.begin_place.Goals as goal

pub returns : goal.returns
returns c =
    place-begun (texts c.args.parts.now) c.in-Some.read c.place_tree.result
    (MatchOption-at_some (HasNoPlace (texts c.args.parts.now)) (IsPlaceFound (texts c.args.parts.now)) c.in-Some.read c.in-Some.is c.in_ok-read.ensures) c.place_tree.ensures
