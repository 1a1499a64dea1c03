use Rattle.std.specs.Prelude.{MatchOption}
use Rattle.std.proofs.lemmas.Result.{IfOk-weaker}
use Rattle.psg_deflines.specs.FormReads.{IsItemPart, HasNoItem}
use Rattle.psg_deflines.specs.Only.{IsOnly}
use Rattle.psg_deflines.proofs.Options.{or-none}
use Rattle.psg_deflines.proofs.ItemKinds.{word-only, no-item}
use Rattle.psg_deflines.proofs.items.line_item.Goals as goal

pub returns-in-Some : goal.returns-in-Some
returns-in-Some c = word-only c.args.part.now c.in-Some.item c.in-Some.ensures

pub returns-in-None : goal.returns-in-None
returns-in-None c =
    let p = c.args.part.now in
    IfOk-weaker c.other_item.result _ (λ o. MatchOption o (HasNoItem p) (IsOnly (IsItemPart p))) (λ o r. or-none (IsOnly (IsItemPart p)) o (λ q. no-item p c.in-None.ensures q.0 q.1 q.2) r) c.other_item.ensures
