use Rattle.std.proofs.Common.{sym, ◌∙◌, arith}
use Rattle.psg_explain.proofs.SortLaws.{keys_end, keys_next, keys_none}
use Rattle.psg_explain.proofs.checking.key_sorts.Goals as goal

pub returns-in_default : goal.returns-in_default
returns-in_default c =
    keys_none c.args.definition.now c.args.keys.now c.loop-i.i c.index-keys-i.result c.loop-i-test.true c.index-keys-i.is (sym c.sort_of_space-found.ensures ∙ c.in_default.is)

pub loop-i-preserved : goal.loop-i-preserved
loop-i-preserved c =
    keys_next c.args.definition.now c.args.keys.now c.loop-i.i c.index-keys-i.result c.loop-i.sorts.items c.push.new.self.items c.in-Some.sort c.loop-i-test.true c.index-keys-i.is (sym c.sort_of_space-found.ensures ∙ c.in-Some.is) c.loop-i.invariant c.in_ok-push.ensures.items

pub returns : goal.returns
returns c = keys_end c.args.definition.now c.args.keys.now c.loop-i.i _ (omega arith) c.loop-i.invariant
