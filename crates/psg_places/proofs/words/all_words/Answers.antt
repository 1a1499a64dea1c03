use Rattle.std.proofs.Common.{◌∙◌, ◌++◌, List, ap, append_assoc}
use Rattle.psg_terms.specs.Names.{Name}
use Rattle.psg_grammar.specs.WellFormed.{operator_words, separators}
use Rattle.psg_renaming.specs.Occurring.{occurring}
use Rattle.psg_places.proofs.words.all_words.Goals as goal

pub returns : goal.returns
returns c =
    let def = c.args.definition.now in
    let names = occurring c.args.tree.now in
    c.in_ok-gather_separators.ensures
    ∙ ap (λ (ls : List Name). c.gather_operators.new.found.items ++ ls) (ap separators c.as_slice-2.ensures)
    ∙ ap (λ (ns : List Name). ns ++ separators def.lists) (c.in_ok-gather_operators.ensures
    ∙ ap (λ (ls : List Name). c.gather_tree.new.found.items ++ ls) (ap operator_words c.as_slice.ensures)
    ∙ ap (λ (ns : List Name). ns ++ operator_words def.operators) (c.in_ok-gather_tree.ensures
    ∙ ap (λ (ns : List Name). ns ++ names) c.new-found.ensures.items))
    ∙ append_assoc names (operator_words def.operators) (separators def.lists)
