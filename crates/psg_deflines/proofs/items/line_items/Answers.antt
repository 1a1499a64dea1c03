use Rattle.psg_deflines.specs.FormReads.{HasNoItem, IsItemPart}
use Rattle.std.proofs.lemmas.Option.{MatchOption-at_some, MatchOption-at_none}
use Rattle.psg_deflines.specs.Only.{IsOnly}
use Rattle.psg_deflines.proofs.ItemLaws.{items-next, items-not, items-end}
use Rattle.psg_deflines.proofs.items.line_items.Goals as goal

pub returns-in_default : goal.returns-in_default
returns-in_default c =
    items-not c.args.parts.now c.loop-part.part-index _ c.loop-part.items.items c.loop-part-test.true c.loop-part.invariant (MatchOption-at_none (HasNoItem _) (IsOnly (IsItemPart _)) c.in_default.is c.in_ok-item.ensures)

pub loop-part-preserved : goal.loop-part-preserved
loop-part-preserved c =
    items-next c.args.parts.now c.loop-part.part-index _ c.loop-part.items.items c.push.new.self.items c.in-Some.item c.loop-part-test.true c.loop-part.invariant
    c.in_ok-push.ensures.items (MatchOption-at_some (HasNoItem _) (IsOnly (IsItemPart _)) c.in-Some.item c.in-Some.is c.in_ok-item.ensures)

pub returns : goal.returns
returns c = items-end c.args.parts.now c.loop-part.part-index c.loop-part.items.items c.loop-part-test.false c.loop-part.invariant
