use Rattle.std.proofs.Common.{◌<◌, ◌+◌, ◌∙◌, ℕ, length, refl, sym, subst, arith}
use Rattle.std.proofs.lemmas.List.{take_all, take_more}
use Rattle.std.proofs.lemmas.List.Elements.{All-get_or}
use Rattle.psg_relation.specs.Narrowing.{IsPlanned}
use Rattle.psg_relation.proofs.narrowing.keep_columns.Goals as goal

pub loop-i-init : goal.loop-i-init
loop-i-init c = (refl, λ lefts rights width count h. h)

pub keep_column-requires : goal.keep_column-requires
keep_column-requires c = All-get_or (λ (k : ℕ). k < length c.args.left.now + length c.args.right.now) c.args.keep.now c.loop-i.i 0 c.loop-i-test.true c.requires

pub loop-i-preserved : goal.loop-i-preserved
loop-i-preserved c = (
  c.keep_column.ensures.front ∙ c.loop-i.invariant.0,
  λ lefts rights width count h.
      subst (λ ks. IsPlanned c.args.left.now c.args.right.now lefts rights width count ks c.keep_column.new.narrow) (sym (take_more c.args.keep.now c.loop-i.i 0 c.loop-i-test.true))
      (c.in_ok-keep_column.ensures.planned lefts rights width count _ (c.loop-i.invariant.1 lefts rights width count h)),
)

pub returns-clause-planned : goal.returns-clause-planned
returns-clause-planned c = λ lefts rights width count h.
    subst (λ ks. IsPlanned c.args.left.now c.args.right.now lefts rights width count ks c.loop-i.narrow) (take_all c.loop-i.i c.args.keep.now (omega arith)) (c.loop-i.invariant.1 lefts rights width count h)
