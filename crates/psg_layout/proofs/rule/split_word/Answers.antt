use Rattle.std.proofs.Common.{◌≡◌, take, arith, lit<}
use Rattle.std.proofs.lemmas.Str.Pattern.{find_char}
use Rattle.psg_script.proofs.WordLemmas.{in_word_from_places, in_word_front}
use Rattle.psg_layout.proofs.rule.split_word.Goals as goal

pub returns-in-Some-clause-word : goal.returns-in-Some-clause-word
returns-in-Some-clause-word c =
    let found = rw c.in-Some.is at (find_char 32 c.args.text.now _ c.find.ensures.cases (lit< tt)) in
    let front : c.range.result.now ≡ take c.in-Some.end c.args.text.now = grind arith in
    rw front (in_word_front c.args.text.now c.in-Some.end found.2)

pub returns-in-None-clause-word : goal.returns-in-None-clause-word
returns-in-None-clause-word c =
    in_word_from_places c.args.text.now (rw c.in-None.is at (find_char 32 c.args.text.now _ c.find.ensures.cases (lit< tt)))
