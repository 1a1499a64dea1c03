use Rattle.std.proofs.Common.{sym, ap, subst, ◌∙◌, arith}
use Rattle.psg_terms.specs.Shapes.{term_of}
use Rattle.psg_terms.specs.Sizes.{size, sizes}
use Rattle.psg_terms.proofs.Nodes.{size-con}
use Rattle.psg_terms.proofs.Weights.{sizes-at}
use Rattle.psg_relation.specs.Forcing.{Forces}
use Rattle.psg_relation.proofs.Filling.{forces_none, forces_variable, forces_con, forces_step}
use Rattle.psg_relation.proofs.forcing.+force.Goals as goal

pub force-returns-in_ok-force_variable-in-Var : goal.force-returns-in_ok-force_variable-in-Var
force-returns-in_ok-force_variable-in-Var t c =
    forces_variable c.args.sig.now c.args.forced.now.items c.force_variable.new.forced.items c.in-Var.sort.0 c.in-Var.number c.args.general.now c.args.closed.now
    (sym c.node.ensures ∙ ap term_of c.in-Var.is) c.in_ok-force_variable-in-Var.ensures

pub force-force_all-requires : goal.force-force_all-requires
force-force_all-requires t c =
    let s = size-con c.args.general.now c.in-Con.con.0 c.in-Con.args (sym c.node.ensures ∙ ap term_of c.in-Con.is) in
    let d = ap sizes c.as_slice.ensures in
    (omega arith, tt)

pub force-returns-in_ok-force_all-in-Con-node : goal.force-returns-in_ok-force_all-in-Con-node
force-returns-in_ok-force_all-in-Con-node t c =
    forces_con c.args.sig.now c.args.forced.now.items c.force_all.new.forced.items c.in-Con.con.0 c.in-Con-node.con.0 c.in-Con.args c.in-Con-node.parts c.args.general.now c.args.closed.now
    (sym c.node.ensures ∙ ap term_of c.in-Con.is) (sym c.node-in-Con.ensures ∙ ap term_of c.in-Con-node.is)
    (subst (λ xs. Forces c.args.sig.now c.args.forced.now.items c.force_all.new.forced.items xs c.in-Con-node.parts) c.as_slice.ensures
    (subst (λ ys. Forces c.args.sig.now c.args.forced.now.items c.force_all.new.forced.items c.as_slice.result.now ys) c.as_slice-in-Con-node.ensures c.in_ok-force_all-in-Con-node.ensures))

pub force-returns-in-Var-node : goal.force-returns-in-Var-node
force-returns-in-Var-node t c = forces_none c.args.sig.now c.args.forced.now.items _ _

pub force_all-returns-then-row-closed : goal.force_all-returns-then-row-closed
force_all-returns-then-row-closed t c = forces_none c.args.sig.now c.args.forced.now.items c.args.row.now c.args.closed.now

pub force_all-loop-i-init : goal.force_all-loop-i-init
force_all-loop-i-init t c = (c.if-row-closed.false, forces_none c.args.sig.now c.args.forced.now.items c.args.row.now c.args.closed.now)

pub force_all-force-requires : goal.force_all-force-requires
force_all-force-requires t c =
    let z = sizes-at c.args.row.now c.loop-i.i c.index-row-i.result c.loop-i-test.true in
    let r = ap size c.index-row-i.is in
    (omega arith, tt)

pub force_all-loop-i-preserved : goal.force_all-loop-i-preserved
force_all-loop-i-preserved t c =
    let l = c.loop-i.invariant.0 in (
      l,
      forces_step c.args.sig.now c.args.forced.now.items c.loop-i.forced.items c.force.new.forced.items c.args.row.now c.args.closed.now c.loop-i.i c.index-row-i.result c.index-closed-i.result
          c.loop-i-test.true c.index-row-i.is (omega arith) c.index-closed-i.is c.loop-i.invariant.1 c.in_ok-force.ensures,
    )

pub force_all-returns : goal.force_all-returns
force_all-returns t c = c.loop-i.invariant.1
