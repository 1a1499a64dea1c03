use Rattle.std.specs.Prelude.{string_bytes}
use Rattle.psg_session.proofs.PrintLaws.{words_written}
use Rattle.psg_session.proofs.printing.push_words.Goals as goal

pub returns : goal.returns
returns c =
    words_written c.args.kind.now c.args.what.now c.args.span.now (string_bytes c.args.text.now)
    (string_bytes c.push_word.new.text) (string_bytes c.push_word-2.new.text) (string_bytes c.push_number.new.text)
    (string_bytes c.push_number-2.new.text) c.in_ok-push_word.ensures c.in_ok-push_word-2.ensures
    c.in_ok-push_number.ensures c.in_ok-push_number-2.ensures
