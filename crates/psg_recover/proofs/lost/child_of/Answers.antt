use Rattle.std.proofs.Common.{Bor, Option, ap, sym, ◌∙◌}
use Rattle.std.specs.Option.{option_copied}
use Rattle.psg_grammar.specs.Fragments.{Fragment}
use Rattle.psg_recover.specs.Lost.{child_of}
use Rattle.psg_recover.proofs.lost.child_of.Goals as goal

pub returns-in-Some : goal.returns-in-Some
returns-in-Some c =
    c.child_at.ensures ∙ ap (λ (o : Option (Bor Fragment)). child_of (option_copied o) c.args.number) (sym c.in-Some.is)

pub returns-in-None : goal.returns-in-None
returns-in-None c = ap (λ (o : Option (Bor Fragment)). child_of (option_copied o) c.args.number) (sym c.in-None.is)
