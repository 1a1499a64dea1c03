use Rattle.psg_server.proofs.CompletionLaws.{word_is, word_is_none}
use Rattle.psg_server.proofs.completing.word_of.Goals as goal

pub returns-in-Some : goal.returns-in-Some
returns-in-Some c =
    word_is c.args.text.now c.as_bytes-bytes.result.now c.args.completion.now c.in-Some.word.now
    c.as_bytes-bytes.ensures.value c.in-Some.ensures.some

pub returns-in-None : goal.returns-in-None
returns-in-None c =
    word_is_none c.args.text.now c.as_bytes-bytes.result.now c.args.completion.now c.as_bytes-bytes.ensures.value
    c.in-None.ensures.none
