use Rattle.std.proofs.Common.{◌∙◌}
use Rattle.psg_completing.proofs.Pieces.{byte_is, text_is}
use Rattle.psg_completing.proofs.fillings.filled.Goals as goal

pub returns-clause-text : goal.returns-clause-text
returns-clause-text c =
    text_is c.args.definition.now c.args.own.now c.args.word c.args.put c.bytes_before-front.result.now
    c.as_str-head.result.now c.phylum_name-name.result.now c.as_str-tail.result.now c.bytes_from-back.result.now
    c.bytes_before-front.ensures (c.as_str-head.ensures.value ∙ c.in_ok-first.ensures) c.phylum_name-name.ensures
    (c.as_str-tail.ensures.value ∙ c.in_ok-last.ensures) c.bytes_from-back.ensures _ c.in_ok-trial.ensures.text

pub returns-clause-byte : goal.returns-clause-byte
returns-clause-byte c =
    byte_is c.args.definition.now c.args.own.now c.args.word c.args.put c.bytes_before-front.result.now
    c.as_str-head.result.now c.phylum_name-name.result.now c.as_str-tail.result.now c.bytes_from-back.result.now
    c.bytes_before-front.ensures (c.as_str-head.ensures.value ∙ c.in_ok-first.ensures) c.requires.from _
    c.in_ok-trial.ensures.byte
