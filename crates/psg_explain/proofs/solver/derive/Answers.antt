use Rattle.std.proofs.Common.{◌<◌, ◌∷◌, [], ◌++◌, ℕ, List, Option, sym, subst, ◌∙◌, append_assoc, append-nil}
use Rattle.psg_terms.specs.Canonical.{Variable}
use Rattle.psg_terms.proofs.Lists.{IfSome_at}
use Rattle.psg_explain.specs.declared.solver.Bound.{Bound}
use Rattle.psg_explain.specs.Equations.{Equation}
use Rattle.psg_explain.specs.Solutions.{AreBindings, Binding, count_in, Extends, IsBoundIn, IsNextIn, Proceeds, reason_of, Solving, tasks_of, variable_in}
use Rattle.psg_explain.proofs.CountLaws.{count_falls}
use Rattle.psg_explain.proofs.SolvingLaws.{binding_push, bindings_still, extends_trans}
use Rattle.psg_explain.proofs.solver.derive.Goals as goal

pub loop-bindings-smaller : goal.loop-bindings-smaller
loop-bindings-smaller c =
    let b : Bound = c.in-Some.bound in
    let h = IfSome_at (IsBoundIn (tasks_of c.loop-bindings.work)) c.in_ok-bound.field-0 b c.in-Some.is c.in_ok-bound.ensures.bound in
    subst (λ (l : List Equation). count_in l < count_in (tasks_of c.loop-bindings.work)) (sym c.in_ok-work-2.ensures.tasks)
    (count_falls (variable_in b.variable) b.by (tasks_of c.loop-bindings.work) (tasks_of c.next.new.work) h.there h.within h.outside c.in_ok-bound.ensures.within)

pub loop-bindings-preserved : goal.loop-bindings-preserved
loop-bindings-preserved c =
    let (done, solving, bound, working, none) = c.loop-bindings.invariant in
    let b : Bound = c.in-Some.bound in
    let x : Variable = variable_in b.variable in
    let p = subst (λ (o : Option Bound). Proceeds c.loop-bindings.work o c.next.new.work) c.in-Some.is c.in_ok-bound.ensures.proceeds in
    let (w, n) = c.in_ok-bound.ensures.work c.args.given.now working none in
    let (at, apart) = subst (λ (o : Option Bound). IsNextIn c.next.new.work o) c.in-Some.is n in
    let ext : Extends c.loop-bindings.work.derived.all.items c.in_ok-work-2.work.derived.all.items =
    extends_trans c.loop-bindings.work.derived.all.items c.next.new.work.derived.all.items c.in_ok-work-2.work.derived.all.items c.in_ok-bound.ensures.extends c.in_ok-work-2.ensures.extends in (
      done ++ (x, b.by) ∷ [],
      (λ bs r s. subst (λ (l : List Binding). Solving c.args.given.now l r) (sym (append_assoc done ((x, b.by) ∷ []) bs))
          (solving ((x, b.by) ∷ bs) r (p.1 bs r (subst (λ (l : List Equation). Solving l bs r) c.in_ok-work-2.ensures.tasks s)))),
      subst (λ (l : List ℕ). AreBindings c.in_ok-work-2.work.derived.all.items l (done ++ (x, b.by) ∷ [])) (sym c.in_ok-push.ensures.items)
          (binding_push c.in_ok-work-2.work.derived.all.items c.loop-bindings.bindings.items done b.number x b.by
          (bindings_still c.loop-bindings.work.derived.all.items c.in_ok-work-2.work.derived.all.items ext c.loop-bindings.bindings.items done bound)
          (c.in_ok-work-2.ensures.extends b.number _ at)),
      c.in_ok-work-2.ensures.work c.args.given.now w at apart,
      c.in_ok-work-2.ensures.failure ∙ p.0 ∙ none,
    )

pub returns : goal.returns
returns c =
    let (done, solving, bound, working, none) = c.loop-bindings.invariant in
    let p = subst (λ (o : Option Bound). Proceeds c.loop-bindings.work o c.next.new.work) c.in_default.is c.in_ok-bound.ensures.proceeds in
    let (w, n) = c.in_ok-bound.ensures.work c.args.given.now working none in
    let f = subst (λ (o : Option Bound). IsNextIn c.next.new.work o) c.in_default.is n in
    record {
      derives = w.derives;
      bindings = done;
      solving = subst (λ (l : List Binding). Solving c.args.given.now l (reason_of c.next.new.work.failure)) (append-nil done) (solving [] (reason_of c.next.new.work.failure) (p none));
      bound = bindings_still c.loop-bindings.work.derived.all.items c.next.new.work.derived.all.items c.in_ok-bound.ensures.extends c.loop-bindings.bindings.items done bound;
      failed = f;
    }
