use Rattle.std.proofs.Common.{◌||◌, ap, ap₂, sym, subst, ◌∙◌}
use Rattle.psg_scope.specs.Headers.{AreAscending, AreRising, has_space, is_declared, keys}
use Rattle.psg_scope.proofs.HeaderLaws.{joined, union_keys}
use Rattle.psg_scope.proofs.MergeLaws.{merge-declared, merge-rising, clashes-common}
use Rattle.psg_scope.proofs.joining.join.Goals as goal

pub returns-clause-region : goal.returns-clause-region
returns-clause-region c n m d e u v a b = joined a b c.in_ok-all.ensures.names
    (λ s. ap (λ l. has_space l s) c.of.ensures ∙ c.in_ok-unfinished.ensures.spaces s ∙ ap₂ (λ l r. has_space l s || has_space r s) c.as_slice.ensures c.as_slice-2.ensures)
    (subst AreAscending (sym c.of.ensures) c.in_ok-unfinished.ensures.ascending)
    (c.is_either-2.ensures ∙ ap₂ (λ p q. p || q) c.is_either.ensures c.in_ok-all.ensures.clash)

pub returns-clause-union : goal.returns-clause-union
returns-clause-union c =
    record {
      keys_are = ap keys c.in_ok-all.ensures.names ∙ union_keys _ _ c.requires.left.keys_rise c.requires.right.keys_rise;
      declares = λ k. ap (λ l. is_declared l k) c.in_ok-all.ensures.names ∙ merge-declared c.args.left.now.names c.args.right.now.names k;
      spaces = λ s. ap (λ l. has_space l s) c.of.ensures ∙ c.in_ok-unfinished.ensures.spaces s ∙ ap₂ (λ l r. has_space l s || has_space r s) c.as_slice.ensures c.as_slice-2.ensures;
      spaces_rise = subst AreAscending (sym c.of.ensures) c.in_ok-unfinished.ensures.ascending;
      repeats = c.is_either-2.ensures ∙ ap₂ (λ p q. p || q) c.is_either.ensures (c.in_ok-all.ensures.clash
          ∙ clashes-common _ _ c.requires.left.keys_rise c.requires.right.keys_rise);
    }

pub returns-clause-ordered : goal.returns-clause-ordered
returns-clause-ordered c = record {
  keys_rise = subst (λ l. AreRising (keys l)) (sym c.in_ok-all.ensures.names)
      (merge-rising _ _ c.requires.left.keys_rise c.requires.right.keys_rise);
  spaces_rise = subst AreAscending (sym c.of.ensures) c.in_ok-unfinished.ensures.ascending;
}
