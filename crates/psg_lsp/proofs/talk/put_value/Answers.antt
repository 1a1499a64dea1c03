use Rattle.std.proofs.Common.{◌∙◌, List, ℕ, ap}
use Rattle.std.specs.Io.KnownBytes.{append_known}
use Rattle.psg_lsp.proofs.TalkLaws.{both_then}
use Rattle.psg_lsp.proofs.talk.put_value.Goals as goal

pub returns-in-Ok : goal.returns-in-Ok
returns-in-Ok g c =
    both_then c.put_bytes-done.result
    (λ put plain. put ∙ ap (λ (bytes : List ℕ). append_known (g.O.Sink.written c.args.out.now) bytes)
    (c.as_slice.ensures.value ∙ c.in-Ok.ensures plain))
    (λ e broken. broken) c.put_bytes-done.ensures
