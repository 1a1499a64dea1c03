use Rattle.psg_unify.proofs.FormLaws.{found}
use Rattle.psg_unify.proofs.forms.find.Goals as goal

pub returns : goal.returns
returns c = found c.args.forms.now.keys c.insert_full.new.self.keys c.args.form c.in_ok-added.added.0 c.in_ok-added.ensures.keys c.in_ok-added.ensures.index
