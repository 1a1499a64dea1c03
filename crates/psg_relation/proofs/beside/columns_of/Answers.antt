use Rattle.std.proofs.Common.{ℕ, ◌<◌, ◌+◌, ◌++◌, ◌∙◌, ap, length, slice_index_or, arith}
use Rattle.std.proofs.lemmas.List.{take_all, get_or_default}
use Rattle.std.proofs.lemmas.List.Elements.{All-get_or}
use Rattle.psg_relation.specs.Choices.{picked}
use Rattle.psg_relation.proofs.Columns.{picked-more}
use Rattle.psg_relation.proofs.beside.columns_of.Goals as goal

pub column_at-requires : goal.column_at-requires
column_at-requires c = All-get_or (λ (k : ℕ). k < length c.args.left.now + length c.args.right.now) c.args.keep.now c.loop-i.i 0 c.loop-i-test.true c.requires

pub loop-i-preserved : goal.loop-i-preserved
loop-i-preserved c =
    let keep = c.args.keep.now in
    let i = c.loop-i.i in
    let k : ℕ = slice_index_or keep i 0 in
    picked-more (c.args.left.now ++ c.args.right.now) keep i k c.in_ok-term.term c.loop-i.terms.items c.push.new.self.items c.loop-i-test.true (get_or_default keep i 0 k c.loop-i-test.true)
    c.in_ok-term.ensures c.loop-i.invariant c.in_ok-push.ensures.items

pub returns : goal.returns
returns c = c.loop-i.invariant ∙ ap (picked (c.args.left.now ++ c.args.right.now)) (take_all c.loop-i.i c.args.keep.now (omega arith))
