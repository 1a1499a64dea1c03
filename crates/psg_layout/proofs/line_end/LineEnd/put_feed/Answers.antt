use Rattle.psg_layout.proofs.LineLaws.{feed_put}
use Rattle.psg_layout.proofs.line_end.LineEnd.put_feed.Goals as goal

pub returns : goal.returns
returns c = feed_put c.args.self.now c.in_ok-self.field-0 c.in_ok-self.ensures
