use Rattle.psg_grammar.specs.Open.{IsOpen}
use Rattle.psg_grammar.specs.Steps.{IsWide}
use Rattle.psg_renaming.proofs.Judged.{open_to, open_from}
use Rattle.psg_renaming.proofs.Law.{for_new_names}
use Rattle.psg_renaming.proofs.Widths.{wide_to, wide_from}
use Rattle.psg_renaming.proofs.laws.new_names.Goals as goal

pub returns-clause-open : goal.returns-clause-open
returns-clause-open c =
    let def = c.args.definition.now in
    for_new_names def (IsOpen def) (λ p e t. open_to p def t) (λ p e t. open_from p def t)

pub returns-clause-wide : goal.returns-clause-wide
returns-clause-wide c =
    let def = c.args.definition.now in
    let sound = c.requires.sound in
    let fewer = c.fewer_columns.ensures in
    for_new_names def (IsWide def) (λ p empty t. wide_to p empty def sound fewer t) (λ p empty t. wide_from p empty def sound fewer t)
