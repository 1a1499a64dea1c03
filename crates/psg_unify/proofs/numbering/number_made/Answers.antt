use Rattle.std.proofs.Common.{◌≡◌, Some, slice_get, refl, sym, subst, arith}
use Rattle.psg_pool.specs.Cells.{arguments_of}
use Rattle.psg_unify.specs.Filling.{IsFilled}
use Rattle.psg_unify.proofs.SortsRead.{all_at}
use Rattle.psg_unify.proofs.NumberSteps.{made_none, made_next, made_stays, made_whole}
use Rattle.psg_unify.proofs.numbering.number_made.Goals as goal

pub loop-k-init : goal.loop-k-init
loop-k-init c = (
  made_none c.args.sig.now c.args.pool.now c.args.numbers.now (record { forms = c.find.new.forms; cells = c.args.numbers.now.cells }) c.args.id c.args.con c.in_ok-made.made
      c.of_symbol.result c.of_symbol.ensures c.in_ok-made.ensures refl,
  refl,
)

pub number_of-number-requires : goal.number_of-number-requires
number_of-number-requires c =
    subst (λ w. IsFilled w c.arg-argument.result) (sym c.as_slice.ensures.value)
    (subst (λ v. IsFilled v.items c.arg-argument.result) (sym c.loop-k.invariant.1)
    (all_at (IsFilled c.args.numbers.now.cells.items) (arguments_of c.args.pool.now.cells c.args.id) c.loop-k.k c.arg-argument.result c.requires.there c.arg-argument.ensures.value))

pub loop-k-preserved : goal.loop-k-preserved
loop-k-preserved c = (
  made_next c.args.sig.now c.args.pool.now c.args.numbers.now c.loop-k.numbers (record { forms = c.find-in-loop-k.new.forms; cells = c.loop-k.numbers.cells }) c.args.id c.args.con c.loop-k.k
      c.loop-k.made c.number_of-number.result c.in_ok-next.next c.arg-argument.result c.of_apply.result c.of_apply.ensures c.in_ok-next.ensures refl c.arg-argument.ensures.value
      (subst (λ w. slice_get w c.arg-argument.result.0 ≡ Some (Some c.number_of-number.result)) c.as_slice.ensures.value c.number_of-number.ensures) c.loop-k.invariant.0,
  c.loop-k.invariant.1,
)

pub returns-clause-numbered : goal.returns-clause-numbered
returns-clause-numbered c = made_stays c.args.sig.now c.args.pool.now c.args.numbers.now c.loop-k.numbers c.args.id c.args.con c.loop-k.k c.loop-k.made c.loop-k.invariant.0

pub returns-clause-number : goal.returns-clause-number
returns-clause-number c =
    made_whole c.args.sig.now c.args.pool.now c.args.numbers.now c.loop-k.numbers c.args.id c.args.con c.args.count c.loop-k.k c.loop-k.made c.requires.holds (omega arith) c.loop-k.invariant.0
