use Rattle.std.proofs.Common.{◌+◌, length, refl, arith}
use Rattle.std.proofs.lemmas.Option.{slice_get_read}
use Rattle.psg_eval.proofs.MovedKeys.{all_moved, all_moved_columns, all_other_columns, all_others, none_apart, one_apart}
use Rattle.psg_eval.proofs.renaming.taken_apart.Goals as goal

pub loop-i-init : goal.loop-i-init
loop-i-init c =
    none_apart c.args.from.now c.args.to.now c.args.names.now
    (record { moved = c.new.result; moved_columns = c.new-2.result; others = c.new-3.result; other_columns = c.new-4.result })
    c.new.ensures.items c.new-2.ensures.items c.new-3.ensures.items c.new-4.ensures.items

pub loop-i-preserved : goal.loop-i-preserved
loop-i-preserved c =
    let names = c.args.names.now in
    let key = c.index-names-i.result in
    one_apart c.args.from.now c.args.to.now names c.loop-i.made c.add.new.self c.loop-i.i key (1 + c.loop-i.i) c.loop-i.invariant
    (slice_get_read names (length names) c.loop-i.i key refl c.loop-i-test.true c.index-names-i.is) (omega arith) c.in_ok-add.ensures

pub returns-clause-moved : goal.returns-clause-moved
returns-clause-moved c = all_moved c.args.from.now c.args.to.now c.args.names.now c.loop-i.made c.loop-i.i (omega arith) c.loop-i.invariant

pub returns-clause-moved_columns : goal.returns-clause-moved_columns
returns-clause-moved_columns c = all_moved_columns c.args.from.now c.args.to.now c.args.names.now c.loop-i.made c.loop-i.i (omega arith) c.loop-i.invariant

pub returns-clause-others : goal.returns-clause-others
returns-clause-others c = all_others c.args.from.now c.args.to.now c.args.names.now c.loop-i.made c.loop-i.i (omega arith) c.loop-i.invariant

pub returns-clause-other_columns : goal.returns-clause-other_columns
returns-clause-other_columns c = all_other_columns c.args.from.now c.args.to.now c.args.names.now c.loop-i.made c.loop-i.i (omega arith) c.loop-i.invariant
