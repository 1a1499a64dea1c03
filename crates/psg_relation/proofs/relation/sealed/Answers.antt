use Rattle.std.proofs.Common.{◌∙◌, ap, min, inl, inr, subst}
use Rattle.psg_terms.specs.Weight.{weight_of, PassesLimit}
use Rattle.psg_relation.specs.Heavy.{deepest_of}
use Rattle.psg_relation.proofs.Weights.{passes_by, within_by}
use Rattle.psg_relation.proofs.relation.sealed.Goals as goal
use Rattle.psg_relation.proofs.relation.sealed.Goals.{then-weight-gt-MOST_SYMBOLS-via-then-weight-gt-MOST_SYMBOLS, then-weight-gt-MOST_SYMBOLS-via-else-weight-gt-MOST_SYMBOLS+then-deepest-gt-MOST_DEPTH}

pub returns-then-weight-gt-MOST_SYMBOLS-clause-wide : goal.returns-then-weight-gt-MOST_SYMBOLS-clause-wide
returns-then-weight-gt-MOST_SYMBOLS-clause-wide c =
    let e = c.weight_of-weight.ensures ∙ ap (λ r. min (weight_of r) 18446744073709551615) c.as_slice.ensures.value in
    let d = c.deepest_of-deepest.ensures ∙ ap (λ r. min (deepest_of r) 18446744073709551615) c.as_slice-2.ensures.value in
    passes_by c.args.kept.items c.weight_of-weight.result c.deepest_of-deepest.result e d
    (elim c.then-weight-gt-MOST_SYMBOLS.branch [
      | then-weight-gt-MOST_SYMBOLS-via-then-weight-gt-MOST_SYMBOLS w ↦ inl w.if-weight-gt-MOST_SYMBOLS.true
      | then-weight-gt-MOST_SYMBOLS-via-else-weight-gt-MOST_SYMBOLS+then-deepest-gt-MOST_DEPTH w ↦ inr w.if-deepest-gt-MOST_DEPTH.true
    ])

pub returns-clause-within : goal.returns-clause-within
returns-clause-within c = λ p.
    let e = c.weight_of-weight.ensures ∙ ap (λ r. min (weight_of r) 18446744073709551615) c.as_slice.ensures.value in
    let d = c.deepest_of-deepest.ensures ∙ ap (λ r. min (deepest_of r) 18446744073709551615) c.as_slice-2.ensures.value in
    within_by c.args.kept.items c.weight_of-weight.result c.deepest_of-deepest.result e d c.if-weight-gt-MOST_SYMBOLS.false c.if-deepest-gt-MOST_DEPTH.false (subst PassesLimit c.of.ensures p)
