use Rattle.std.proofs.Common.{◌∷◌, sym, ◌∙◌, arith}
use Rattle.psg_explain.proofs.TwiceLaws.{there_end, there_here, there_next}
use Rattle.psg_explain.proofs.regions.is_there.Goals as goal

pub returns-then-is_this : goal.returns-then-is_this
returns-then-is_this c =
    sym (there_here (c.args.space ∷ c.args.name.now) c.args.keys.now c.loop-i.i c.index-keys-i.result c.loop-i-test.true c.index-keys-i.is (sym c.is_this.ensures ∙ c.if-is_this.true)) ∙ c.loop-i.invariant

pub loop-i-preserved : goal.loop-i-preserved
loop-i-preserved c =
    there_next (c.args.space ∷ c.args.name.now) c.args.keys.now c.loop-i.i c.index-keys-i.result c.loop-i-test.true c.index-keys-i.is (sym c.is_this.ensures ∙ c.if-is_this.false) ∙ c.loop-i.invariant

pub returns : goal.returns
returns c = sym (there_end (c.args.space ∷ c.args.name.now) c.args.keys.now c.loop-i.i (omega arith)) ∙ c.loop-i.invariant
