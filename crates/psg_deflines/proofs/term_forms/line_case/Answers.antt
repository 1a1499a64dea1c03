use Rattle.psg_deflines.specs.Parts.{texts}
use Rattle.std.proofs.lemmas.Option.{MatchOption-at_none}
use Rattle.psg_deflines.specs.TailReads.{HasNoTail, IsTailFound}
use Rattle.psg_deflines.proofs.TermFormLaws.{case-none}
use Rattle.psg_deflines.proofs.term_forms.line_case.Goals as goal

pub returns-in-None : goal.returns-in-None
returns-in-None c = case-none (texts c.args.parts.now) (MatchOption-at_none (HasNoTail 0 (texts c.args.parts.now)) (IsTailFound 0 (texts c.args.parts.now)) c.in-None.is c.in_ok-tail.ensures)
