use Rattle.std.proofs.Common.{refl, sym, subst}
use Rattle.std.proofs.lemmas.Result.{err_from_is_err_and}
use Rattle.psg_terms.specs.Kept.{numbers_of}
use Rattle.psg_terms.specs.Declarations.{AreNamed}
use Rattle.psg_terms.proofs.DeclareSteps.{spelled-step, may_miss-in}
use Rattle.psg_terms.proofs.declare.resolve_all.Goals as goal

pub returns-in_err-args-clause-err : goal.returns-in_err-args-clause-err
returns-in_err-args-clause-err c =
    let p = err_from_is_err_and c.from_residual-in_err-args.result c.from_residual-in_err-args.ensures.1 in
    rw (p.1, p.2) (λ names k. may_miss-in names c.args.placed.now c.loop-p.p-index c.p-item.result c.as_slice.result.now c.loop-p.made.items c.in_err-args.field-0.0
    (c.loop-p.invariant names k) c.loop-p-test.true c.p-item.is c.as_slice.ensures (c.in_err-args.ensures.err names k))

pub loop-p-preserved : goal.loop-p-preserved
loop-p-preserved c = λ names k.
    spelled-step names c.args.placed.now c.loop-p.p-index c.p-item.result c.loop-p.made.items c.push.new.self.items _ (c.loop-p.invariant names k)
    (record {
      name = c.in_ok-name.ensures;
      arguments = subst (λ xs. AreNamed names xs (numbers_of c.of.result)) c.as_slice.ensures (subst (λ xs. AreNamed names c.as_slice.result.now (numbers_of xs)) (sym c.of.ensures) (c.in_ok-args.ensures.ok names k));
      sort = refl;
    })
    c.loop-p-test.true c.p-item.is c.in_ok-push.ensures.items
