use Rattle.psg_relation.proofs.Members.{in-at}
use Rattle.psg_cache.proofs.NoteFraming.{fixed}
use Rattle.psg_session.proofs.menus.operator_names.Goals as goal

pub operator_name-requires : goal.operator_name-requires
operator_name-requires c =
    c.requires _ (in-at _ c.args.ops.now c.loop-op.op-index c.loop-op-test.true
    (fixed c.args.ops.now c.loop-op.op-index _ c.loop-op-test.true))
