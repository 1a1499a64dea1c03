use Rattle.psg_lint.proofs.HintLaws.{remove_fault, removed_is}
use Rattle.psg_lint.proofs.hints.without.Goals as goal

pub returns-in-Ok : goal.returns-in-Ok
returns-in-Ok c = removed_is c.args.tree.now c.args.member.now c.in-Ok.less c.in-Ok.ensures.ok

pub only_memory-requires : goal.only_memory-requires
only_memory-requires c = remove_fault c.args.tree.now c.args.member.now c.in-Err.fault c.requires c.in-Err.ensures.err
