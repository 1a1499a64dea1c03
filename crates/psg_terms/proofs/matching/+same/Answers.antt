use Rattle.std.proofs.Common.{◌≡◌, length, get_or, [], ◌∷◌, ◌++◌, refl, sym, ap, ap₂, ◌∙◌, arith}
use Rattle.std.proofs.lemmas.Bool.Decides.{nat_tests}
use Rattle.psg_terms.specs.Terms.{symbol, applied}
use Rattle.psg_terms.specs.Shapes.{term_of}
use Rattle.psg_terms.specs.Sizes.{size, sizes}
use Rattle.psg_terms.proofs.Nodes.{no_variable, same_constructor, con_alike, size-con}
use Rattle.psg_terms.proofs.Weights.{sizes-at, one_at}
use Rattle.std.proofs.lemmas.Bool.{false≢true}
use Rattle.std.proofs.lemmas.List.{take_all}
use Rattle.psg_terms.proofs.Lists.{take_item}
use Rattle.psg_terms.proofs.matching.+same.Goals as goal

pub same-same_all-requires : goal.same-same_all-requires
same-same_all-requires t c =
    let a : c.args.a.now ≡ applied (symbol c.in-Con.con.0) c.in-Con.args = sym c.node.ensures ∙ ap term_of c.in-Con.is in
    let s = size-con c.args.a.now c.in-Con.con.0 c.in-Con.args a in
    let d = ap sizes c.as_slice.ensures in
    (omega arith, tt)

pub same-returns-in-Con-node : goal.same-returns-in-Con-node
same-returns-in-Con-node t c = (λ h. absurd (cc), λ e. absurd (no_variable c.in-Con-node.con.0 c.in-Var.sort.0 c.in-Var.number c.in-Con-node.args (sym (ap term_of c.in-Con-node.is) ∙ c.node-in-Var.ensures ∙ sym e ∙ sym c.node.ensures ∙ ap term_of c.in-Var.is)))

pub same-returns-then-con-other : goal.same-returns-then-con-other
same-returns-then-con-other t c =
    let a : c.args.a.now ≡ applied (symbol c.in-Con.con.0) c.in-Con.args = sym c.node.ensures ∙ ap term_of c.in-Con.is in
    let b : c.args.b.now ≡ applied (symbol c.in-Con.con.0) c.in-Con-node-2.parts = sym c.node-in-Con.ensures ∙ ap term_of c.in-Con-node-2.is ∙ ap (λ k. applied (symbol k) c.in-Con-node-2.parts) (sym c.if-con-other.true) in
    let both = con_alike c.args.a.now c.args.b.now c.in-Con.con.0 c.in-Con.args c.in-Con-node-2.parts a b in (
      λ h. both.1 (sym c.as_slice.ensures ∙ c.same_all.ensures.0 h ∙ c.as_slice-then-con-other.ensures),
      λ e. c.same_all.ensures.1 (c.as_slice.ensures ∙ both.0 e ∙ sym c.as_slice-then-con-other.ensures),
    )

pub same-returns-else-con-other : goal.same-returns-else-con-other
same-returns-else-con-other t c =
    let a : c.args.a.now ≡ applied (symbol c.in-Con.con.0) c.in-Con.args = sym c.node.ensures ∙ ap term_of c.in-Con.is in
    let b : c.args.b.now ≡ applied (symbol c.in-Con-node-2.other.0) c.in-Con-node-2.parts = sym c.node-in-Con.ensures ∙ ap term_of c.in-Con-node-2.is in (
      λ h. absurd (grind (arith, nat_tests)),
      λ e. absurd (c.if-con-other.false (same_constructor _ _ c.in-Con.args c.in-Con-node-2.parts (sym a ∙ e ∙ b))),
    )

pub same-returns-in-Var-node-2 : goal.same-returns-in-Var-node-2
same-returns-in-Var-node-2 t c = (λ h. absurd (cc), λ e. absurd (no_variable c.in-Con.con.0 c.in-Var-node-2.sort.0 c.in-Var-node-2.number c.in-Con.args (sym (ap term_of c.in-Con.is) ∙ c.node.ensures ∙ e ∙ sym c.node-in-Con.ensures ∙ ap term_of c.in-Var-node-2.is)))

pub same_all-same-requires : goal.same_all-same-requires
same_all-same-requires t c =
    let z = sizes-at c.args.a.now c.loop-i.i c.index-a-i.result c.loop-i-test.true in
    let r = ap size c.index-a-i.is in
    (omega arith, tt)

pub same_all-returns-then-not-same : goal.same_all-returns-then-not-same
same_all-returns-then-not-same t c = (
  λ h. absurd (false≢true h),
  λ e. absurd (false≢true (sym c.if-not-same.true ∙ c.same.ensures.1 (one_at c.args.b.now c.loop-i.i c.index-a-i.result c.index-b-i.result (let l = ap length e in omega arith)
      (c.index-a-i.is ∙ ap (λ xs. get_or xs c.loop-i.i c.index-a-i.result) e) c.index-b-i.is))),
)

pub same_all-loop-i-preserved : goal.same_all-loop-i-preserved
same_all-loop-i-preserved t c = (
  c.loop-i.invariant.0,
  take_item c.args.a.now c.loop-i.i c.index-a-i.result c.loop-i-test.true c.index-a-i.is
      ∙ ap₂ (λ xs x. xs ++ x ∷ []) c.loop-i.invariant.1 (c.same.ensures.0 c.if-not-same.false)
      ∙ sym (take_item c.args.b.now c.loop-i.i c.index-b-i.result (let l = c.loop-i.invariant.0 in omega arith) c.index-b-i.is),
)

pub same_all-returns : goal.same_all-returns
same_all-returns t c = (
  λ _. let l = c.loop-i.invariant.0 in
      sym (take_all c.loop-i.i c.args.a.now (omega arith)) ∙ c.loop-i.invariant.1 ∙ take_all c.loop-i.i c.args.b.now (omega arith),
  λ _. refl,
)
