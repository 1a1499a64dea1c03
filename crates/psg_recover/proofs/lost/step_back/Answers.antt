use Rattle.std.proofs.Common.{Bor, Option, ap, sym, ◌∙◌}
use Rattle.std.specs.Option.{option_copied}
use Rattle.psg_grammar.specs.Fragments.{Fragment}
use Rattle.psg_recover.specs.Lost.{step_back}
use Rattle.psg_recover.proofs.lost.step_back.Goals as goal

pub returns-in_ok-step-in-Some : goal.returns-in_ok-step-in-Some
returns-in_ok-step-in-Some c =
    let def = c.args.known.definition.now in
    c.in_ok-step-in-Some.ensures.step ∙ c.number_back.ensures
    ∙ ap (λ (o : Option (Bor Fragment)). step_back def (option_copied o) c.args.number) (sym c.in-Some.is)

pub returns-in-None : goal.returns-in-None
returns-in-None c =
    let def = c.args.known.definition.now in
    ap (λ (o : Option (Bor Fragment)). step_back def (option_copied o) c.args.number) (sym c.in-None.is)
