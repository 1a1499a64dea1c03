use Rattle.std.proofs.Common.{map, subst, ap, ◌∙◌}
use Rattle.std.specs.Prelude.{string_bytes, take}
use Rattle.psg_class.specs.Texts.{tokens_of}
use Rattle.psg_parse.specs.Stops.{MayEnd}
use Rattle.psg_stop.specs.Wanted.{GoesWith}
use Rattle.psg_program.specs.Expected.{AreToldBoth, terminals_in_order}
use Rattle.psg_program.specs.Messages.{stop_message}
use Rattle.psg_program.proofs.Reasons.{stopped}
use Rattle.psg_program.proofs.TokenSpans.{has_span}
use Rattle.psg_program.proofs.Told.{both_so}
use Rattle.psg_program.proofs.reading.stop_error.Goals as goal

pub stop_message-requires : goal.stop_message-requires
stop_message-requires c =
    has_span c.args.language.now c.args.text.now c.args.tokens.now c.requires.tokens c.in_ok-stop.stop.tokens

pub returns : goal.returns
returns c =
    let ts = c.args.tokens.now in
    let stop = c.in_ok-stop.stop in
    let words = map string_bytes c.in_ok-words.words.items in
    stopped c.args.language.now c.args.kind c.args.text.now ts c.requires.tokens c.requires.none stop c.in_ok-stop.ensures words
    (subst (λ def. AreToldBoth (GoesWith c.args.language.now c.args.kind 0 (take stop.tokens (tokens_of ts)))
    (MayEnd c.args.language.now c.args.kind 0 (take stop.tokens (tokens_of ts))) (terminals_in_order def) words) c.definition.ensures.same
    (both_so c.in_ok-stop.ensures.wanted c.in_ok-stop.ensures.ends (terminals_in_order c.definition.result.now) words c.in_ok-words.ensures))
    (record { place = c.place_of-place.result; message = c.in_ok-message.message }) (c.in_ok-message.ensures ∙ ap (λ ws. stop_message c.args.text.now ts stop.tokens (map string_bytes ws)) c.as_slice.ensures.value)
    c.stop_byte.result c.stop_byte.ensures c.place_of-place.ensures
