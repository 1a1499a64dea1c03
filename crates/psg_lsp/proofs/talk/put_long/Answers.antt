use Rattle.std.proofs.Common.{refl}
use Rattle.psg_lsp.proofs.TalkLaws.{both_then}
use Rattle.psg_lsp.proofs.talk.put_long.Goals as goal

pub returns : goal.returns
returns g c = both_then c.put_refusal-done.result (λ put. put refl) (λ e broken. broken) c.put_refusal-done.ensures
