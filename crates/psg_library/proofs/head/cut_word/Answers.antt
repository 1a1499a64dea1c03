use Rattle.std.proofs.Common.{lit<}
use Rattle.std.proofs.lemmas.Str.Pattern.{split_parts}
use Rattle.psg_script.proofs.WordLemmas.{in_word_from_places}
use Rattle.psg_library.proofs.FirstLines.{not_cut}
use Rattle.psg_library.proofs.head.cut_word.Goals as goal

pub returns-in-Some-clause-some : goal.returns-in-Some-clause-some
returns-in-Some-clause-some c =
    let found = rw c.in-Some.is at (split_parts 32 c.args.text.now _ c.split_once.ensures.cases (lit< tt)) in
    (found.0, in_word_from_places c.in-Some.parts.0.now found.1)

pub returns-in-None-clause-none : goal.returns-in-None-clause-none
returns-in-None-clause-none c =
    not_cut c.args.text.now (rw c.in-None.is at (split_parts 32 c.args.text.now _ c.split_once.ensures.cases (lit< tt)))
