use Rattle.std.proofs.Common.{◌≡◌, subst, false}
use Rattle.serde_json.specs.Data.{Data}
use Rattle.serde_json.specs.Written.{has_float}
use Rattle.psg_lsp.specs.Talking.{IsPutValue}
use Rattle.psg_lsp.proofs.TalkLaws.{both_then}
use Rattle.psg_lsp.proofs.talk.put_refusal.Goals as goal

pub returns-in-Ok : goal.returns-in-Ok
returns-in-Ok g c =
    both_then c.put_value-done.result
    (λ put. subst (λ (d : Data). has_float d ≡ false
    → IsPutValue d (g.O.Sink.written c.args.out.now) (g.O.Sink.written c.put_value-done.new.out)) c.in-Ok.ensures put)
    (λ e broken. broken) c.put_value-done.ensures
