use Rattle.std.proofs.Common.{◌≤◌, ◌∙◌, length, sym, subst, arith}
use Rattle.std.proofs.lemmas.Bool.{false≢true}
use Rattle.psg_relation.specs.Sifted.{StartsHeavy}
use Rattle.psg_relation.proofs.Splitting.{alone_light, alone_heavy}
use Rattle.psg_relation.proofs.sifting.alone.Goals as goal

pub returns-then-starts_heavy-clause-rows : goal.returns-then-starts_heavy-clause-rows
returns-then-starts_heavy-clause-rows c =
    let few : length c.args.rows.items ≤ 1 = omega (arith, c.requires) in
    alone_heavy c.args.rows.items few (subst StartsHeavy c.as_slice.ensures.value (c.starts_heavy.ensures.0 c.if-starts_heavy.true))

pub returns-clause-rows : goal.returns-clause-rows
returns-clause-rows c =
    let few : length c.args.rows.items ≤ 1 = omega (arith, c.requires) in
    alone_light c.args.rows.items few (λ h. false≢true (sym c.if-starts_heavy.false ∙ c.starts_heavy.ensures.1 (subst StartsHeavy (sym c.as_slice.ensures.value) h)))
