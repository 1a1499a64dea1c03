use Rattle.std.proofs.Common.{inl, inr, refl, ap, ◌∷◌, ◌++◌, [], ◌∙◌}
use Rattle.psg_relation.proofs.narrowing.push_open.Goals as goal

pub returns-then-is_equal : goal.returns-then-is_equal
returns-then-is_equal c = inl (c.is_equal.ensures c.if-is_equal.true, refl, refl)

pub returns : goal.returns
returns c = inr (
  c.in_ok-push.ensures.items ∙ ap (λ t. c.args.lefts.now.items ++ t ∷ []) c.in_ok-first.ensures,
  c.in_ok-push-2.ensures.items ∙ ap (λ t. c.args.rights.now.items ++ t ∷ []) c.in_ok-second.ensures,
)
