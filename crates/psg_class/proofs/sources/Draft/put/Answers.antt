use Rattle.std.proofs.Common.{refl}
use Rattle.psg_class.proofs.Drafts.{put_adds}
use Rattle.psg_class.proofs.sources.Draft.put.Goals as goal

pub returns : goal.returns
returns c = put_adds c.args.self.now (record c.args.self.now { grid = c.set.new.self }) c.args.row c.args.column c.requires.draft c.requires.cell refl c.set.ensures.size c.set.ensures.this c.set.ensures.others
