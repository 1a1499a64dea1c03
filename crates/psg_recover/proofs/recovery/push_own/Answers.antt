use Rattle.std.proofs.Common.{◌∙◌, sym}
use Rattle.psg_recover.proofs.ToldLaws.{own_none, own_one}
use Rattle.psg_recover.proofs.recovery.push_own.Goals as goal

pub returns-then-is_lost : goal.returns-then-is_lost
returns-then-is_lost c =
    own_none c.args.known.definition.now c.args.one c.args.wanted.now.items (sym c.is_lost.ensures ∙ c.if-is_lost.true)

pub returns : goal.returns
returns c =
    own_one c.args.known.definition.now c.args.one c.args.wanted.now.items c.push.new.self.items
    (sym c.is_lost.ensures ∙ c.if-is_lost.false) c.in_ok-push.ensures.items
