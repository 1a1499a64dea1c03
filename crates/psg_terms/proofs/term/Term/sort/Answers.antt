use Rattle.std.proofs.Common.{ap, sym, ◌∙◌}
use Rattle.std.proofs.lemmas.Option.{slice_get_within}
use Rattle.psg_terms.specs.Shapes.{term_of}
use Rattle.psg_terms.proofs.Weights.{symbol_sort, variable_sorted, con_sorted}
use Rattle.psg_terms.proofs.term.Term.sort.Goals as goal

pub sort_of-requires : goal.sort_of-requires
sort_of-requires c =
    let x = symbol_sort c.args.sig.now c.args.self.now c.in-Con.con.0 c.in-Con.args c.requires.0 (sym c.node.ensures ∙ ap term_of c.in-Con.is) c.requires.1 in
    slice_get_within _ _ x.0 x.1

pub returns-in-Var : goal.returns-in-Var
returns-in-Var c = variable_sorted c.args.sig.now c.args.self.now c.in-Var.sort.0 _ c.requires.0 (sym c.node.ensures ∙ ap term_of c.in-Var.is) c.requires.1

pub returns-in-Con : goal.returns-in-Con
returns-in-Con c = con_sorted c.args.sig.now c.args.self.now c.in-Con.con.0 c.in-Con.args c.requires.0 c.sort_of.result.0 (sym c.node.ensures ∙ ap term_of c.in-Con.is) c.requires.1 c.sort_of.ensures
