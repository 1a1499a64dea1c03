use Rattle.std.proofs.Common.{◌&&◌, not, ap, sym, ◌∙◌, slice_get}
use Rattle.std.proofs.Math.Bool.{and-true}
use Rattle.psg_terms.proofs.Lists.{got_some, got_none}
use Rattle.psg_grammar.specs.Lookups.{scopes}
use Rattle.psg_specimen.proofs.its.is_region.Goals as goal

pub returns-then-inside : goal.returns-then-inside
returns-then-inside c =
    let at = ap (λ l. slice_get l c.args.op) (sym c.as_slice.ensures) ∙ got_some c.as_slice.result.now c.args.op c.get.result c.in-Some.operator c.get.ensures.lookup c.in-Some.is in
    sym (ap (λ b. b && not (scopes (slice_get c.args.definition.now.operators c.args.op))) c.if-inside.true ∙ ap (λ o. not (scopes o)) at)

pub returns-else-inside : goal.returns-else-inside
returns-else-inside c = c.if-inside.false ∙ sym (ap (λ b. b && not (scopes (slice_get c.args.definition.now.operators c.args.op))) c.if-inside.false)

pub returns-in-None : goal.returns-in-None
returns-in-None c =
    let at = ap (λ l. slice_get l c.args.op) (sym c.as_slice.ensures) ∙ got_none c.as_slice.result.now c.args.op c.get.result c.get.ensures.lookup c.in-None.is in
    sym (and-true c.args.inside) ∙ sym (ap (λ o. c.args.inside && not (scopes o)) at)
