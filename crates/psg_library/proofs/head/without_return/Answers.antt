use Rattle.std.proofs.Common.{lit<}
use Rattle.std.proofs.lemmas.Str.Pattern.{strip_suffix_char}
use Rattle.psg_library.proofs.FirstLines.{returned, not_returned}
use Rattle.psg_library.proofs.head.without_return.Goals as goal

pub returns-in-Some : goal.returns-in-Some
returns-in-Some c =
    returned c.args.line.now c.in-Some.front.now
    (rw c.in-Some.is at (strip_suffix_char 13 c.args.line.now _ c.strip_suffix.ensures.cases (lit< tt)))

pub returns-in-None : goal.returns-in-None
returns-in-None c =
    not_returned c.args.line.now
    (rw c.in-None.is at (strip_suffix_char 13 c.args.line.now _ c.strip_suffix.ensures.cases (lit< tt)))
