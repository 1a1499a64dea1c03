use Rattle.std.proofs.Common.{sym, ◌∙◌}
use Rattle.std.proofs.lemmas.Option.{MatchOption-at_some, MatchOption-at_none}
use Rattle.psg_deflines.specs.Parts.{texts}
use Rattle.psg_deflines.specs.TreePieces.{HasNoEnd, IsEndFound}
use Rattle.psg_deflines.proofs.PieceLaws.{not-some, no-finish, end-finish}
use Rattle.psg_deflines.proofs.tree_pieces.finishes.Goals as goal

pub returns-in_default : goal.returns-in_default
returns-in_default c =
    no-finish (texts c.args.parts.now) (not-some _ _ c.behind.result (sym c.is_some.ensures ∙ c.if-is_some.false) c.behind.ensures)
    (not-some _ _ c.behind-2.result (sym c.is_some-2.ensures ∙ c.if-is_some-2.false) c.behind-2.ensures)
    (MatchOption-at_none (HasNoEnd (texts c.args.parts.now)) (IsEndFound (texts c.args.parts.now)) c.in_default.is c.in_ok-read.ensures)

pub returns : goal.returns
returns c =
    end-finish (texts c.args.parts.now) c.in-Some.read
    (MatchOption-at_some (HasNoEnd (texts c.args.parts.now)) (IsEndFound (texts c.args.parts.now)) c.in-Some.read c.in-Some.is c.in_ok-read.ensures)
