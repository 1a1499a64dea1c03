use Rattle.std.proofs.Common.{slice_get, ap, sym, ◌∙◌}
use Rattle.psg_grammar.specs.Lookups.{scopes}
use Rattle.psg_terms.proofs.Lists.{got_none, got_some}
use Rattle.psg_explain.proofs.adding.is_scope_operator.Goals as goal

pub returns-in-Some : goal.returns-in-Some
returns-in-Some c =
    sym (ap scopes (ap (λ xs. slice_get xs c.args.op) (sym c.as_slice.ensures) ∙ got_some c.as_slice.result.now c.args.op c.get.result c.in-Some.operator c.get.ensures.lookup c.in-Some.is))

pub returns-in-None : goal.returns-in-None
returns-in-None c = sym (ap scopes (ap (λ xs. slice_get xs c.args.op) (sym c.as_slice.ensures) ∙ got_none c.as_slice.result.now c.args.op c.get.result c.get.ensures.lookup c.in-None.is))
