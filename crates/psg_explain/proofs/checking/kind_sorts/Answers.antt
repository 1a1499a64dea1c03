use Rattle.std.proofs.Common.{sym, ◌∙◌, arith}
use Rattle.psg_explain.proofs.SortLaws.{kinds_end, kinds_next, kinds_none}
use Rattle.psg_explain.proofs.checking.kind_sorts.Goals as goal

pub returns-in_default : goal.returns-in_default
returns-in_default c =
    kinds_none c.args.definition.now c.args.kinds.now c.loop-i.i c.kind_at-kind.result c.kind_at-kind.ensures (sym c.sort_of-found.ensures ∙ c.in_default.is)

pub loop-i-preserved : goal.loop-i-preserved
loop-i-preserved c =
    kinds_next c.args.definition.now c.args.kinds.now c.loop-i.i c.kind_at-kind.result c.loop-i.sorts.items c.push.new.self.items c.in-Some.sort c.kind_at-kind.ensures (sym c.sort_of-found.ensures ∙ c.in-Some.is) c.loop-i.invariant c.in_ok-push.ensures.items

pub returns : goal.returns
returns c = kinds_end c.args.definition.now c.args.kinds.now c.loop-i.i _ (omega arith) c.loop-i.invariant
