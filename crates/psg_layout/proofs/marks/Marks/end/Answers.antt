use Rattle.std.proofs.Common.{refl, ap, Some}
use Rattle.psg_layout.proofs.MarkLaws.{token_put}
use Rattle.psg_layout.proofs.marks.Marks.end.Goals as goal

pub returns : goal.returns
returns c = λ t e. token_put c.args.self.now _ t (ap Some e) refl refl refl refl
