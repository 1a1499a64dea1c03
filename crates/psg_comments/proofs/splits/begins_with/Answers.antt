use Rattle.psg_lexis.proofs.Runs.{past_first}
use Rattle.psg_comments.proofs.splits.begins_with.Goals as goal

pub loop-wanted-smaller : goal.loop-wanted-smaller
loop-wanted-smaller c = past_first _ _ _ c.in-Some.ensures.first
