use Rattle.std.proofs.Common.{◌+◌, ◌∷◌, ◌++◌, [], subst, sym, ap, ap₂, refl, ◌∙◌, arith}
use Rattle.psg_scope.specs.Headers.{AreAscending, AreRising, has_space, is_declared, keys}
use Rattle.psg_scope.proofs.HeaderLaws.{kept_cols, IsKeptSoFar, keep_step, skip_step, kept_at_end, kept-rising, kept-undeclared, outward_keys, closed}
use Rattle.psg_scope.proofs.closing.close_region.Goals as goal
use Rattle.psg_scope.proofs.closing.close_region.Goals.{then-passes+in_ok-share+in_ok-push+in_ok-push-2, else-passes}

pub loop-i-preserved : goal.loop-i-preserved
loop-i-preserved c = elim c.if-passes.branch [
  | then-passes+in_ok-share+in_ok-push+in_ok-push-2 w ↦ keep_step c.loop-i.invariant (omega arith) c.index-all-i.is w.if-passes.ensures
      (ap (λ v. v.items) w.names-is ∙ w.in_ok-push.ensures.items ∙ ap (λ k. c.loop-i.names.items ++ k ∷ []) w.in_ok-share.ensures)
      (ap (λ v. v.items) w.kept-is ∙ w.in_ok-push-2.ensures.items)
  | else-passes w ↦
      subst (λ n. IsKeptSoFar c.as_slice-all.result.now c.as_slice-unfinished.result.now (c.loop-i.i + 1) n.items c.if-passes.kept.items) (sym w.names-is)
      (subst (λ k. IsKeptSoFar c.as_slice-all.result.now c.as_slice-unfinished.result.now (c.loop-i.i + 1) c.loop-i.names.items k.items) (sym w.kept-is)
      (skip_step c.loop-i.invariant (omega arith) c.index-all-i.is w.if-passes.ensures))
]

pub returns-clause-region : goal.returns-clause-region
returns-clause-region c n d u is = closed is
    (c.in_ok-shared.ensures ∙ kept_at_end c.loop-i.invariant (omega arith) ∙ ap₂ (λ s l. kept_cols (has_space s) l) c.as_slice-unfinished.ensures c.as_slice-all.ensures)
    (c.of-2.ensures ∙ c.new.ensures.items) refl

pub returns-clause-outward : goal.returns-clause-outward
returns-clause-outward c =
    let made = c.in_ok-shared.ensures ∙ kept_at_end c.loop-i.invariant (omega arith) ∙ ap₂ (λ s l. kept_cols (has_space s) l) c.as_slice-unfinished.ensures c.as_slice-all.ensures in
    record {
      keys_are = ap keys made ∙ outward_keys _ _ c.requires.keys_rise;
      undeclared = λ k. ap (λ l. is_declared l k) made ∙ kept-undeclared k c.args.header.now.names (has_space c.args.header.now.unfinished);
      finished = c.of-2.ensures ∙ c.new.ensures.items;
      once = refl;
    }

pub returns-clause-ordered : goal.returns-clause-ordered
returns-clause-ordered c = record {
  keys_rise = subst (λ l. AreRising (keys l)) (sym (c.in_ok-shared.ensures ∙ kept_at_end c.loop-i.invariant (omega arith) ∙ ap₂ (λ s l. kept_cols (has_space s) l) c.as_slice-unfinished.ensures c.as_slice-all.ensures))
      (kept-rising _ _ c.requires.keys_rise);
  spaces_rise = subst AreAscending (sym (c.of-2.ensures ∙ c.new.ensures.items)) tt;
}
