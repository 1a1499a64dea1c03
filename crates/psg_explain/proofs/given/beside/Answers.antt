use Rattle.std.proofs.Common.{sym, ◌∙◌, arith}
use Rattle.psg_scope.specs.Headers.{key_of}
use Rattle.psg_explain.proofs.GivenLaws.{beside_end, beside_here, beside_next_on}
use Rattle.psg_explain.proofs.given.beside.Goals as goal

pub returns-then-is_key : goal.returns-then-is_key
returns-then-is_key c =
    let e = c.min-count.ensures in
    let t = c.loop-i-test.true in
    sym (beside_here c.args.names.now c.args.terms.now (key_of c.args.key.now) c.loop-i.i c.index-names-i.result c.index-terms-i.result (omega (arith, e, t)) (omega (arith, e, t)) c.index-names-i.is c.index-terms-i.is
    (sym c.is_key.ensures ∙ c.if-is_key.true)) ∙ c.loop-i.invariant

pub loop-i-preserved : goal.loop-i-preserved
loop-i-preserved c =
    let e = c.min-count.ensures in
    let t = c.loop-i-test.true in
    let terms = c.args.terms.now in
    beside_next_on c.args.names.now terms (key_of c.args.key.now) c.loop-i.i c.index-names-i.result (omega (arith, e, t)) (omega (arith, e, t)) c.index-names-i.is (sym c.is_key.ensures ∙ c.if-is_key.false) ∙ c.loop-i.invariant

pub returns : goal.returns
returns c =
    let e = c.min-count.ensures in
    let t = c.loop-i-test.false in
    sym (beside_end c.args.names.now c.args.terms.now (key_of c.args.key.now) c.loop-i.i (omega (arith, e, t))) ∙ c.loop-i.invariant
