use Rattle.std.proofs.Common.{◌<◌, ℕ, All, slice_index_or, take, sym, subst, arith}
use Rattle.std.proofs.lemmas.List.{take_all, take_more}
use Rattle.std.proofs.lemmas.List.Elements.{All-nil, All-push}
use Rattle.psg_relation.proofs.beside.are_below.Goals as goal

pub loop-i-init : goal.loop-i-init
loop-i-init c = All-nil (λ (k : ℕ). k < c.args.count)

pub loop-i-preserved : goal.loop-i-preserved
loop-i-preserved c =
    let keep = c.args.keep.now in
    let i = c.loop-i.i in
    let below : slice_index_or keep i 0 < c.args.count = let z = c.if-keep-i.false in grind arith in
    subst (All (λ (k : ℕ). k < c.args.count)) (sym (take_more keep i 0 c.loop-i-test.true))
    (All-push (λ (k : ℕ). k < c.args.count) (take i keep) (slice_index_or keep i 0) c.loop-i.invariant below)

pub returns : goal.returns
returns c = λ _. subst (All (λ (k : ℕ). k < c.args.count)) (take_all c.loop-i.i c.args.keep.now (omega arith)) c.loop-i.invariant
