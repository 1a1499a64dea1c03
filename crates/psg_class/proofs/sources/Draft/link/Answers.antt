use Rattle.std.proofs.Common.{refl}
use Rattle.psg_class.proofs.Drafts.{link_adds}
use Rattle.psg_class.proofs.sources.Draft.link.Goals as goal

pub returns : goal.returns
returns c = link_adds c.args.self.now (record c.args.self.now { links = c.push.new.self }) c.args.to c.args.from c.requires.draft c.requires.to c.requires.from refl c.in_ok-push.ensures.items
