use Rattle.std.proofs.Common.{[], ◌∷◌, ap, sym, subst, ◌∙◌}
use Rattle.psg_terms.specs.Names.{has_twice}
use Rattle.psg_grammar.specs.Regions.{declared_inside}
use Rattle.psg_cache.specs.Notes.{IsFormed}
use Rattle.psg_scope.specs.Headers.{keys}
use Rattle.psg_explain.specs.Claiming.{AreClaims, MayClaimAll}
use Rattle.psg_explain.specs.Explanations.{IsFirstTwice}
use Rattle.psg_explain.specs.Plans.{planned}
use Rattle.psg_explain.specs.Relations.{AreRelations}
use Rattle.psg_explain.specs.Sources.{AreStages}
use Rattle.psg_explain.proofs.ExplainLaws.{claims_said, empty_said, twice_said}
use Rattle.psg_explain.proofs.UnderLaws.{match_none, match_some}
use Rattle.psg_explain.proofs.explaining.refutation_of.Goals as goal

pub declared-requires : goal.declared-requires
declared-requires c = subst (λ d. IsFormed d c.args.node.now) (sym c.definition-definition.ensures.same) c.requires.formed

pub returns-in_ok-name-in-Some : goal.returns-in_ok-name-in-Some
returns-in_ok-name-in-Some c = λ root there.
    let key = c.in-Some.key.now in
    let ks = keys c.as_slice.result.now in
    let same = ap keys c.as_slice.ensures.value ∙ c.in_ok-keys.ensures ∙ ap (λ d. declared_inside d c.args.node.now) c.definition-definition.ensures.same in
    let first = match_some c.first_twice.result c.in-Some.key c.in-Some.is _ _ c.first_twice.ensures in
    twice_said c.args.lang.now root c.args.path.now c.args.node.now there c.in_ok-itself.itself key.space c.in_ok-name-in-Some.name ks (c.in_ok-itself.ensures ∙ c.steps.ensures) same
    (subst (λ n. IsFirstTwice ks (key.space ∷ n)) (sym c.in_ok-name-in-Some.ensures) first)

pub claims_of-requires : goal.claims_of-requires
claims_of-requires c =
    let back = sym c.definition-definition.ensures.same in
    let plan = planned c.args.lang.now 0 c.args.path.now c.args.node.now in
    let once = match_none c.first_twice.result c.in-None.is _ _ c.first_twice.ensures in
    let same = ap keys c.as_slice.ensures.value ∙ c.in_ok-keys.ensures ∙ ap (λ d. declared_inside d c.args.node.now) c.definition-definition.ensures.same in
    (plan, subst (λ d. AreStages d c.args.stages.now plan) back c.requires.stages, subst (λ d. MayClaimAll d [] plan c.args.rows.items) back (c.requires.claimable (sym (ap has_twice same) ∙ once)))

pub returns-in_ok-claims-in-None : goal.returns-in_ok-claims-in-None
returns-in_ok-claims-in-None c = λ root there.
    let def = c.args.lang.now in
    let back = sym c.definition-definition.ensures.same in
    let path = c.args.path.now in
    let node = c.args.node.now in
    let plan = planned def 0 path node in
    let claims = c.in_ok-claims-in-None.claims.items in
    let once = match_none c.first_twice.result c.in-None.is _ _ c.first_twice.ensures in
    let same = ap keys c.as_slice.ensures.value ∙ c.in_ok-keys.ensures ∙ ap (λ d. declared_inside d node) c.definition-definition.ensures.same in
    let may = c.requires.claimable (sym (ap has_twice same) ∙ once) in
    let made = c.in_ok-claims-in-None.ensures.claims plan (subst (λ d. AreStages d c.args.stages.now plan) back c.requires.stages) (subst (λ d. MayClaimAll d [] plan c.args.rows.items) back may) in
    let are = subst (λ d. AreClaims d [] plan claims) c.definition-definition.ensures.same made in
    empty_said def root path node there c.in_ok-itself.itself claims c.of-all.result (keys c.as_slice.result.now) (c.in_ok-itself.ensures ∙ c.steps.ensures) c.of-all.ensures same once
    (claims_said def path node c.requires.formed claims are (subst (AreRelations def path node) (sym c.in_ok-claims-in-None.ensures.rows) c.requires.relations))
