use Rattle.std.proofs.Common.{ap, sym, ◌∷◌, [], ◌∙◌, slice_index_or}
use Rattle.psg_terms.specs.Shapes.{term_of}
use Rattle.psg_relation.proofs.Unsolved.{one_column, one_pair}
use Rattle.psg_relation.proofs.beside.is_any_value.Goals as goal

pub returns-in-Var : goal.returns-in-Var
returns-in-Var c = λ t. (
  c.in-Var.sort.0,
  c.in-Var.number,
  (slice_index_or c.args.pairs.now 0 (0, 0)).0,
  one_column c.args.right.now c.index-right-0.result c.if-right-ne1.false c.index-right-0.is ∙ ap (λ x. x ∷ []) (sym c.node.ensures ∙ ap term_of c.in-Var.is),
  one_pair c.args.pairs.now c.if-pairs-ne1.false c.if-pair-ne0.false,
  c.are_below.ensures t,
)
