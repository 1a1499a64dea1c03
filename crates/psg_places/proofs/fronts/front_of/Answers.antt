use Rattle.std.proofs.Common.{◌++◌, ◌∙◌, subst, sym}
use Rattle.psg_grammar.specs.WellFormed.{fixed_words}
use Rattle.psg_renaming.specs.Occurring.{occurring}
use Rattle.psg_places.specs.NewNames.{IsFree}
use Rattle.psg_places.proofs.fronts.front_of.Goals as goal

pub returns : goal.returns
returns c =
    let all = occurring c.args.tree.now ++ fixed_words c.args.definition.now in
    subst (λ ns. IsFree ns c.in_ok-front.front) (c.as_slice.ensures.value ∙ c.in_ok-names.ensures)
    (subst (IsFree c.as_slice.result.now) (sym c.in_ok-front.ensures) c.in_ok-letters.ensures)
