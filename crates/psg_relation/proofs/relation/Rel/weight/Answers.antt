use Rattle.std.proofs.Common.{◌≡◌, subst}
use Rattle.psg_terms.specs.Weight.{PassesLimit}
use Rattle.psg_relation.proofs.Weights.{limit_kept}
use Rattle.psg_relation.proofs.relation.Rel.weight.Goals as goal

pub returns-clause-within : goal.returns-clause-within
returns-clause-within c = λ p.
    let i = c.self.invariant in
    let e : c.args.self.now ≡ c.self.inside.kept = cc (c.self.view_is) in
    limit_kept c.self.inside.kept c.self.inside.weight c.self.inside.deepest i.weight_is i.deepest_is i.light i.shallow (subst PassesLimit e p)
