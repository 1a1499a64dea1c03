use Rattle.std.proofs.Common.{length, slice_index_or, ap, ◌∙◌, arith}
use Rattle.std.proofs.lemmas.List.{take_all}
use Rattle.std.proofs.lemmas.List.Elements.{All-get_or}
use Rattle.std.proofs.lemmas.Option.{slice_get-get_or}
use Rattle.psg_relation.specs.declared.narrowing.Side.TheVariants.{Left}
use Rattle.psg_relation.specs.Narrowing.{IsSide, number_of, numbers}
use Rattle.psg_relation.proofs.NarrowPlans.{more_mapped}
use Rattle.psg_relation.proofs.narrowing.side_numbers.Goals as goal

pub number-requires : goal.number-requires
number-requires c = All-get_or (IsSide c.args.lefts.now c.args.rights.now) c.args.keep.now c.loop-i.i (Left 0) c.loop-i-test.true c.requires

pub loop-i-preserved : goal.loop-i-preserved
loop-i-preserved c =
    more_mapped (number_of (length c.args.lefts.now)) c.args.keep.now c.loop-i.i (slice_index_or c.args.keep.now c.loop-i.i (Left 0)) c.loop-i.all.items c.push.new.self.items c.number.result
    (slice_get-get_or c.args.keep.now c.loop-i.i (Left 0) c.loop-i-test.true) c.number.ensures c.loop-i.invariant c.in_ok-push.ensures.items

pub returns : goal.returns
returns c = c.loop-i.invariant ∙ ap (numbers (length c.args.lefts.now)) (take_all c.loop-i.i c.args.keep.now (omega arith))
