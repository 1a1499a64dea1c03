use Rattle.psg_lexis.proofs.Runs.{past_first}
use Rattle.psg_comments.proofs.finding.line_size.Goals as goal

pub loop-after-smaller : goal.loop-after-smaller
loop-after-smaller c = past_first _ _ _ c.in-Some.ensures.first
