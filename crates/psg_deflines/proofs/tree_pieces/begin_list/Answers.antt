use Rattle.std.proofs.Common.{rules, ◌≤◌, length, ap, ◌∙◌, arith}
use Rattle.std.proofs.lemmas.Option.{MatchOption-at_some, MatchOption-at_none}
use Rattle.std.specs.Prelude.{cond, None, Some}
use Rattle.psg_deflines.specs.Parts.{texts}
use Rattle.psg_deflines.specs.TreeShapes.{ending, list_of}
use Rattle.psg_deflines.specs.TreePieces.{HasNoEnd, IsEndFound}
use Rattle.psg_deflines.proofs.TermFound.{texts-length}
use Rattle.psg_deflines.proofs.PieceLaws.{no-list-begun, list-begun}
use Rattle.psg_deflines.proofs.tree_pieces.begin_list.Goals as goal

pub returns-in_default : goal.returns-in_default
returns-in_default c =
    no-list-begun (texts c.args.parts.now) c.if-not-can_end.ensures (MatchOption-at_none (HasNoEnd (texts c.args.parts.now)) (IsEndFound (texts c.args.parts.now)) c.in_default.is c.in_ok-read.ensures)

pub overflow_add-result : goal.overflow_add-result
overflow_add-result c =
    let found : IsEndFound (texts c.args.parts.now) c.in-Some.read = MatchOption-at_some (HasNoEnd (texts c.args.parts.now)) (IsEndFound (texts c.args.parts.now)) c.in-Some.read c.in-Some.is c.in_ok-read.ensures in
    let small : c.in-Some.read.taken ≤ length c.args.parts.now = omega (arith, found.fits, texts-length c.args.parts.now) in
    search (rules, small)

pub returns : goal.returns
returns c =
    list-begun (texts c.args.parts.now) c.in-Some.read c.list_tree.result
    (MatchOption-at_some (HasNoEnd (texts c.args.parts.now)) (IsEndFound (texts c.args.parts.now)) c.in-Some.read c.in-Some.is c.in_ok-read.ensures)
    (c.list_tree.ensures ∙ ap (λ es. cond c.in-Some.read.end.deep None (Some (list_of (ending c.in-Some.read.end.rest) es))) c.new.ensures.items)
