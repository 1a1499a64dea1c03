use Rattle.psg_scope.proofs.RunLaws.{gone_on}
use Rattle.psg_scope.proofs.merging.Merging.add_runs.Goals as goal

pub returns : goal.returns
returns c =
    gone_on c.args.left.now c.args.right.now c.split_at.result.0.now c.split_at.result.1.now c.split_at-2.result.0.now
    c.split_at-2.result.1.now c.before-2.result c.before-3.result c.args.self.now c.add_lefts.new.self
    c.add_rights.new.self c.split_at.ensures.front c.split_at.ensures.back c.split_at.ensures.by_index.0
    c.before-2.ensures.before c.split_at-2.ensures.front c.split_at-2.ensures.back c.split_at-2.ensures.by_index.0
    c.before-3.ensures.before c.split_at.ensures.back_len c.split_at-2.ensures.back_len c.in_ok-add_lefts.ensures
    c.in_ok-add_rights.ensures
