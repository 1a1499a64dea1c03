use Rattle.std.proofs.Common.{◌∷◌, sym, ◌∙◌, arith}
use Rattle.psg_explain.proofs.TwiceLaws.{twice_end, twice_found, twice_next}
use Rattle.psg_explain.proofs.regions.is_twice.Goals as goal

pub loop-i-preserved : goal.loop-i-preserved
loop-i-preserved c =
    twice_next (c.args.space ∷ c.args.name.now) c.args.keys.now c.loop-i.i c.index-keys-i.result c.loop-i-test.true c.index-keys-i.is (sym c.is_this.ensures ∙ c.if-is_this.false) ∙ c.loop-i.invariant

pub returns : goal.returns
returns c = sym (twice_end (c.args.space ∷ c.args.name.now) c.args.keys.now c.loop-i.i (omega arith)) ∙ c.loop-i.invariant

pub returns-then-is_this : goal.returns-then-is_this
returns-then-is_this c =
    c.is_there-again.ensures
    ∙ sym (twice_found (c.args.space ∷ c.args.name.now) c.args.keys.now c.loop-i.i c.index-keys-i.result c.loop-i-test.true c.index-keys-i.is (sym c.is_this.ensures ∙ c.if-is_this.true)) ∙ c.loop-i.invariant
