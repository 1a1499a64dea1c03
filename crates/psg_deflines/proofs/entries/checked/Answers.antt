use Rattle.std.proofs.Common.{subst}
use Rattle.psg_deflines.specs.Parts.{texts}
use Rattle.psg_deflines.specs.LineReads.{IsFormRead}
use Rattle.psg_deflines.proofs.EntryLaws.{no-form, deep-read, line-read}
use Rattle.psg_deflines.proofs.entries.checked.Goals as goal

pub returns-in-Nothing : goal.returns-in-Nothing
returns-in-Nothing c = λ above text no_comment o place h.
    no-form c.args.version above text (texts c.args.parts.now) no_comment o (λ line f p. subst (IsFormRead (texts c.args.parts.now)) c.in-Nothing.is h line f)

pub returns-in-TooDeep : goal.returns-in-TooDeep
returns-in-TooDeep c = λ above text no_comment o place h.
    let deep = subst (IsFormRead (texts c.args.parts.now)) c.in-TooDeep.is h in
    deep-read c.args.version above text (texts c.args.parts.now) no_comment o deep.0 c.deep.result deep.1 (place deep.0 deep.1.is) deep.2 deep.3 (c.deep.ensures deep.0 deep.1.is deep.3)

pub returns-in_ok-fixed-in-Read : goal.returns-in_ok-fixed-in-Read
returns-in_ok-fixed-in-Read c = λ above text no_comment o place h.
    let f = subst (IsFormRead (texts c.args.parts.now)) c.in-Read.is h in
    line-read c.args.version above text (texts c.args.parts.now) no_comment o c.in-Read.line c.is_of-right.result c.in_ok-fixed-in-Read.fixed c.found.result c.found.ensures c.is_of-right.ensures c.in_ok-fixed-in-Read.ensures f.0 f.1 (place c.in-Read.line f.0.is)
