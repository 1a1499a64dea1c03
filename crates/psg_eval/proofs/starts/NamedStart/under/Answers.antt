use Rattle.std.proofs.Common.{refl}
use Rattle.psg_eval.proofs.StartLaws.{begun_under}
use Rattle.psg_eval.proofs.starts.NamedStart.under.Goals as goal

pub returns : goal.returns
returns c = λ def op named. begun_under def op c.args.self.now named c.args.name.now _ c.in_ok-header.ensures refl refl c.in_ok-rel.ensures
