use Rattle.std.proofs.Common.{ap, ◌∙◌, subst}
use Rattle.psg_defcheck.specs.Scopes.{is_kind}
use Rattle.psg_defcheck.specs.Checks.{IsKindAt}
use Rattle.psg_defnumber.proofs.lookups.kind_named.Goals as goal

pub kind-kind-requires : goal.kind-kind-requires
kind-kind-requires c = ap (is_kind c.args.checked.now) c.as_str.ensures ∙ c.requires

pub returns : goal.returns
returns c = subst (λ n. IsKindAt c.args.checked.now n c.kind-kind.result) c.as_str.ensures c.kind-kind.ensures
