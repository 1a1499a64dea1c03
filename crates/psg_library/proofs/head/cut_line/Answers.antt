use Rattle.std.proofs.Common.{lit<}
use Rattle.std.proofs.lemmas.Str.Pattern.{split_once_first}
use Rattle.psg_library.proofs.FirstLines.{uncut_line, uncut_rest}
use Rattle.psg_library.proofs.head.cut_line.Goals as goal

pub returns-in-Some-clause-line : goal.returns-in-Some-clause-line
returns-in-Some-clause-line c =
    let found = rw c.in-Some.is at (split_once_first 10 c.args.text.now _ c.split_once.ensures.cases (lit< tt)) in found.1

pub returns-in-Some-clause-rest : goal.returns-in-Some-clause-rest
returns-in-Some-clause-rest c =
    let found = rw c.in-Some.is at (split_once_first 10 c.args.text.now _ c.split_once.ensures.cases (lit< tt)) in found.2

pub returns-in-None-clause-line : goal.returns-in-None-clause-line
returns-in-None-clause-line c =
    uncut_line c.args.text.now
    (rw c.in-None.is at (split_once_first 10 c.args.text.now _ c.split_once.ensures.cases (lit< tt)))

pub returns-in-None-clause-rest : goal.returns-in-None-clause-rest
returns-in-None-clause-rest c =
    uncut_rest c.args.text.now
    (rw c.in-None.is at (split_once_first 10 c.args.text.now _ c.split_once.ensures.cases (lit< tt)))
