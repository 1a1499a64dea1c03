use Rattle.std.proofs.Common.{Some, slice_get, sym, ap, ◌∙◌}
use Rattle.psg_terms.specs.Shapes.{term_of}
use Rattle.psg_terms.proofs.Lists.{got_none, got_some}
use Rattle.psg_explain.proofs.ApplyingLaws.{is_part, no_left_part, no_right_part, part_heads}
use Rattle.psg_explain.proofs.applying.part.Goals as goal

pub returns-then-con-other : goal.returns-then-con-other
returns-then-con-other c = λ e h.
    c.if-con-other.true (part_heads c.args.equation.now c.in-Con.con.0 c.in-Con-node.other.0 c.in-Con.args c.in-Con-node.parts
    (sym c.node.ensures ∙ ap term_of c.in-Con.is) (sym c.node-2.ensures ∙ ap term_of c.in-Con-node.is) c.args.number e h)

pub returns-in_default-get : goal.returns-in_default-get
returns-in_default-get c =
    no_left_part c.args.equation.now c.in-Con.con.0 c.in-Con.args (sym c.node.ensures ∙ ap term_of c.in-Con.is) c.args.number
    (ap (λ xs. slice_get xs c.args.number) (sym c.as_slice.ensures) ∙ got_none c.as_slice.result.now c.args.number c.get.result c.get.ensures.lookup c.in_default-get.is)

pub returns-in_default-get-2 : goal.returns-in_default-get-2
returns-in_default-get-2 c =
    no_right_part c.args.equation.now c.in-Con-node.other.0 c.in-Con-node.parts (sym c.node-2.ensures ∙ ap term_of c.in-Con-node.is) c.args.number
    (ap (λ xs. slice_get xs c.args.number) (sym c.as_slice-2.ensures) ∙ got_none c.as_slice-2.result.now c.args.number c.get-2.result c.get-2.ensures.lookup c.in_default-get-2.is)

pub returns : goal.returns
returns c =
    is_part c.args.equation.now c.in-Con.con.0 c.in-Con-node.other.0 c.in-Con.args c.in-Con-node.parts
    (sym c.node.ensures ∙ ap term_of c.in-Con.is) (sym c.node-2.ensures ∙ ap term_of c.in-Con-node.is) c.if-con-other.false c.args.number c.in_ok-one.one c.in_ok-two.two
    (ap (λ xs. slice_get xs c.args.number) (sym c.as_slice.ensures) ∙ got_some c.as_slice.result.now c.args.number c.get.result c.in-Some.left c.get.ensures.lookup c.in-Some.is ∙ ap Some (sym c.in_ok-one.ensures))
    (ap (λ xs. slice_get xs c.args.number) (sym c.as_slice-2.ensures) ∙ got_some c.as_slice-2.result.now c.args.number c.get-2.result c.in-Some-get.right c.get-2.ensures.lookup c.in-Some-get.is ∙ ap Some (sym c.in_ok-two.ensures))
