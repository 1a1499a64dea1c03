use Rattle.std.proofs.Common.{arith, length}
use Rattle.std.proofs.lemmas.Option.{MatchOption-at_some, MatchOption-at_none}
use Rattle.psg_deflines.specs.Parts.{texts}
use Rattle.psg_deflines.specs.TailReads.{HasNoTail, IsTailFound}
use Rattle.psg_deflines.proofs.TermFound.{texts-length}
use Rattle.psg_deflines.proofs.TermFormLaws.{row-none}
use Rattle.psg_deflines.proofs.term_forms.line_row.Goals as goal

pub returns-in-None : goal.returns-in-None
returns-in-None c =
    row-none (length c.args.parts.now) (texts c.args.parts.now) (omega (arith, texts-length c.args.parts.now))
    (MatchOption-at_none (HasNoTail (length c.args.parts.now) (texts c.args.parts.now)) (IsTailFound (length c.args.parts.now) (texts c.args.parts.now)) c.in-None.is c.in_ok-tail.ensures)

pub returns-in-Some : goal.returns-in-Some
returns-in-Some c =
    c.row_of.ensures (length c.args.parts.now) (texts c.args.parts.now)
    (MatchOption-at_some (HasNoTail (length c.args.parts.now) (texts c.args.parts.now)) (IsTailFound (length c.args.parts.now) (texts c.args.parts.now)) c.in-Some.tail c.in-Some.is c.in_ok-tail.ensures) (omega (arith, texts-length c.args.parts.now))
