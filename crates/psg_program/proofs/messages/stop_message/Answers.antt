use Rattle.std.proofs.Common.{◌++◌, ap, append_assoc, map, ◌∙◌}
use Rattle.std.specs.Prelude.{codes, slice_get, string_bytes}
use Rattle.psg_program.specs.Messages.{enumerated, unexpected}
use Rattle.psg_program.proofs.messages.stop_message.Goals as goal

pub returns : goal.returns
returns c =
    let there = unexpected c.args.text.now (slice_get c.args.tokens.now c.args.stop) in
    let told = enumerated (map string_bytes c.args.words.now) in
    c.in_ok-push_enumerated.ensures
    ∙ ap (λ m. m ++ told) (c.in_ok-message.ensures.ok
    ∙ ap (λ t. codes "unexpected " ++ (t ++ codes ", expected ")) (c.as_str.ensures.value ∙ c.in_ok-there.ensures))
    ∙ ap (λ l. codes "unexpected " ++ l) (append_assoc there (codes ", expected ") told)
