use Rattle.psg_deflines.specs.Parts.{texts}
use Rattle.std.proofs.lemmas.Option.{MatchOption-at_none}
use Rattle.psg_deflines.specs.TailReads.{HasNoNamedTail, IsNamedTailFound}
use Rattle.psg_deflines.proofs.TermFormLaws.{nil-none}
use Rattle.psg_deflines.proofs.term_forms.line_nil.Goals as goal

pub returns-in-None : goal.returns-in-None
returns-in-None c =
    nil-none (texts c.args.parts.now) (MatchOption-at_none (HasNoNamedTail 0 (texts c.args.parts.now)) (λ r. IsNamedTailFound 0 (texts c.args.parts.now) r.0 r.1) c.in-None.is c.in_ok-name.ensures)
