use Rattle.std.proofs.Common.{◌∷◌, [], ◌++◌, ap, sym, ◌∙◌}
use Rattle.psg_covering.proofs.IndexLaws.{led_begins, led_more, led_none}
use Rattle.psg_covering.proofs.index.with_heads.Goals as goal

pub loop-i-init : goal.loop-i-init
loop-i-init c = led_none c.args.con c.args.args.now c.push.new.self.items (c.in_ok-push.ensures.items ∙ ap (λ l. l ++ c.args.con ∷ []) c.new-front.ensures.items)

pub loop-i-preserved : goal.loop-i-preserved
loop-i-preserved c =
    led_more c.args.con c.args.args.now c.loop-i.i c.min-i-end.result c.index-args-i.result c.in-Some.head c.loop-i.front.items c.push-in-loop-i.new.self.items
    c.min-i-end.ensures c.loop-i-test.true c.index-args-i.is (sym c.in-Some.is ∙ c.head_of.ensures) c.in_ok-push-2.ensures.items c.loop-i.invariant

pub returns-in_default : goal.returns-in_default
returns-in_default c = led_begins c.args.con c.args.args.now c.loop-i.i c.loop-i.front.items c.loop-i.invariant

pub returns : goal.returns
returns c = led_begins c.args.con c.args.args.now c.loop-i.i c.loop-i.front.items c.loop-i.invariant
