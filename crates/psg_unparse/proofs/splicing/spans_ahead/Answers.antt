use Rattle.std.proofs.Common.{sym, subst}
use Rattle.std.specs.Prelude.{All}
use Rattle.std.proofs.lemmas.List.Elements.{All-take}
use Rattle.psg_unparse.specs.Splicing.{IsSmall}
use Rattle.psg_unparse.proofs.splicing.spans_ahead.Goals as goal

pub returns-clause-small : goal.returns-clause-small
returns-clause-small c = λ h.
    subst (All IsSmall) (sym c.split_at.ensures.front) (All-take IsSmall c.args.place c.args.spans.now h)
