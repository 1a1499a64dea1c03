use Rattle.std.proofs.Common.{lit<, ap, ◌∙◌}
use Rattle.std.proofs.lemmas.Str.Pattern.{split_parts}
use Rattle.psg_program.specs.Formatted.{pieces}
use Rattle.psg_program.proofs.Feeds.{one_piece, pieces_at, utf8_after}
use Rattle.psg_program.proofs.comparing.first_line.Goals as goal

pub returns-in-Some-clause-pieces : goal.returns-in-Some-clause-pieces
returns-in-Some-clause-pieces c =
    let found = rw c.in-Some.is at (split_parts 10 c.args.text.now _ c.split_once.ensures.cases (lit< tt)) in
    ap pieces found.0 ∙ pieces_at c.in-Some.line.now c.in-Some.rest.now found.1

pub returns-in-Some-clause-utf8 : goal.returns-in-Some-clause-utf8
returns-in-Some-clause-utf8 c =
    let found = rw c.in-Some.is at (split_parts 10 c.args.text.now _ c.split_once.ensures.cases (lit< tt)) in
    utf8_after c.args.text.now c.in-Some.line.now c.in-Some.rest.now c.utf8.text found.0

pub returns-in-None-clause-pieces : goal.returns-in-None-clause-pieces
returns-in-None-clause-pieces c =
    one_piece c.args.text.now
    (rw c.in-None.is at (split_parts 10 c.args.text.now _ c.split_once.ensures.cases (lit< tt)))
