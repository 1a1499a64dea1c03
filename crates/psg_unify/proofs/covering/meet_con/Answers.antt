use Rattle.std.proofs.Common.{inl, inr, refl, sym, subst}
use Rattle.psg_pool.specs.Cells.{arguments_of}
use Rattle.psg_pool.specs.Bindings.{Holds}
use Rattle.psg_pool.specs.declared.cells.Cell.TheVariants.{Con}
use Rattle.psg_unify.proofs.SolvingSteps.{not_bound_here}
use Rattle.psg_unify.proofs.CoverSteps.{meets_con, meets_clash, meets_constant, meets_open, weighs_less, can_push}
use Rattle.psg_unify.proofs.covering.meet_con.Goals as goal

pub unreachable-requires : goal.unreachable-requires
unreachable-requires c = not_bound_here c.args.pool.now c.end_of_bindings-id.result c.in-Bound.field-0 c.end_of_bindings-id.ensures.ends (subst (Holds c.args.pool.now c.end_of_bindings-id.result) c.in-Bound.is c.cell-held.ensures.holds)

pub returns-in-Free-clause-yes : goal.returns-in-Free-clause-yes
returns-in-Free-clause-yes c = λ t.
    let (l, o) = c.is_constant-constant.ensures.yes t in
    meets_constant c.args.sig.now c.args.pool.now c.args.state.now c.args.con c.in-Free.sort c.args.args.now c.args.cell c.end_of_bindings-id.result c.end_of_bindings-id.ensures.same
    (subst (Holds c.args.pool.now c.end_of_bindings-id.result) c.in-Free.is c.cell-held.ensures.holds) l o

pub returns-in-Free-clause-no : goal.returns-in-Free-clause-no
returns-in-Free-clause-no c = λ t.
    meets_open c.args.sig.now c.args.pool.now c.args.state.now c.args.con c.in-Free.sort c.args.args.now c.args.cell c.end_of_bindings-id.result c.end_of_bindings-id.ensures.same
    (subst (Holds c.args.pool.now c.end_of_bindings-id.result) c.in-Free.is c.cell-held.ensures.holds) (c.is_constant-constant.ensures.no t)

pub returns-then-con-other-clause-no : goal.returns-then-con-other-clause-no
returns-then-con-other-clause-no c = λ _.
    meets_clash c.args.sig.now c.args.pool.now c.args.state.now c.args.con c.in-Con.other c.in-Con.count c.args.args.now c.args.cell c.end_of_bindings-id.result c.end_of_bindings-id.ensures.same
    (subst (Holds c.args.pool.now c.end_of_bindings-id.result) c.in-Con.is c.cell-held.ensures.holds) (inl c.if-con-other.true)

pub returns-in_ok-push_arguments-in-Con-clause-yes : goal.returns-in_ok-push_arguments-in-Con-clause-yes
returns-in_ok-push_arguments-in-Con-clause-yes c = λ _.
    meets_con c.args.sig.now c.args.pool.now c.args.state.now (record { numbers = c.args.state.now.numbers; first = c.args.state.now.first; left = c.push_arguments.new.left })
    c.args.con c.in-Con.count c.args.args.now c.args.cell c.end_of_bindings-id.result c.end_of_bindings-id.ensures.same
    (subst (λ k. Holds c.args.pool.now c.end_of_bindings-id.result (Con k c.in-Con.count)) (sym c.if-con-other.false) (subst (Holds c.args.pool.now c.end_of_bindings-id.result) c.in-Con.is c.cell-held.ensures.holds))
    (c.if-args-count.false) c.in_ok-push_arguments-in-Con.ensures refl refl

pub returns-then-args-count-clause-no : goal.returns-then-args-count-clause-no
returns-then-args-count-clause-no c = λ _.
    meets_clash c.args.sig.now c.args.pool.now c.args.state.now c.args.con c.in-Con.other c.in-Con.count c.args.args.now c.args.cell c.end_of_bindings-id.result c.end_of_bindings-id.ensures.same
    (subst (Holds c.args.pool.now c.end_of_bindings-id.result) c.in-Con.is c.cell-held.ensures.holds) (inr c.if-args-count.true)

pub returns-in_ok-push_arguments-in-Con-clause-less : goal.returns-in_ok-push_arguments-in-Con-clause-less
returns-in_ok-push_arguments-in-Con-clause-less c =
    weighs_less c.args.state.now.left.items c.push_arguments.new.left.items c.args.args.now (arguments_of c.args.pool.now.cells c.end_of_bindings-id.result) c.in_ok-push_arguments-in-Con.ensures

pub returns-in_ok-push_arguments-in-Con-clause-can : goal.returns-in_ok-push_arguments-in-Con-clause-can
returns-in_ok-push_arguments-in-Con-clause-can c =
    can_push c.args.pool.now c.mark-mark.ensures.sound c.args.state.now (record { numbers = c.args.state.now.numbers; first = c.args.state.now.first; left = c.push_arguments.new.left })
    c.args.args.now c.end_of_bindings-id.result refl refl c.in_ok-push_arguments-in-Con.ensures c.requires.can
