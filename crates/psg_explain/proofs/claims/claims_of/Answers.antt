use Rattle.std.proofs.Common.{◌<◌, [], List, length, map, map-id, rules, sym, ◌∙◌, subst, arith}
use Rattle.std.specs.List.{AllByRecursion}
use Rattle.std.proofs.lemmas.Iterator.Adapters.{YieldsList-from_vec}
use Rattle.std.proofs.lemmas.Iterator.Consumers.{YieldsList-end, YieldsList-so_far, YieldsList-turn}
use Rattle.psg_explain.specs.declared.refutation.Claim.{Claim}
use Rattle.psg_explain.specs.Claiming.{MayClaim}
use Rattle.psg_explain.specs.Plans.{AreCanonical, Step, at_of, rows_claimed}
use Rattle.psg_explain.specs.Refutations.{IsClaim}
use Rattle.psg_explain.specs.Sources.{IsStage}
use Rattle.psg_explain.proofs.ClaimingLaws.{claims_canonical, claims_none, claims_turn, place_within, turn_may}
use Rattle.psg_explain.proofs.claims.claims_of.Goals as goal

pub loop-own-init : goal.loop-own-init
loop-own-init c = claims_none c.args.definition.now c.args.stages.now c.args.rows.items c.new-claims.result.items c.new-claims.ensures.items

pub bounds-stages-place : goal.bounds-stages-place
bounds-stages-place c =
    let road = YieldsList-from_vec {s = c.into_iter-own-iterator.result} c.args.rows.items (search rules) (search rules) in
    let turn = YieldsList-turn road c.loop-own.yielded c.loop-own.own-iterator c.loop-own.yielded_by c.next.result c.next.new.self c.in-Some.own c.in-Some.is c.next.ensures.steps in
    let (steps, are, may) = c.requires in
    place_within c.args.definition.now c.args.stages.now c.args.rows.items steps are may c.loop-own.claims.items c.loop-own.yielded c.len-place.result c.loop-own.invariant.0 turn.0 (omega (arith, c.len-place.ensures, c.loop-own.claims.ok.0))

pub offset_bounds-stages-place : goal.offset_bounds-stages-place
offset_bounds-stages-place c =
    let road = YieldsList-from_vec {s = c.into_iter-own-iterator.result} c.args.rows.items (search rules) (search rules) in
    let turn = YieldsList-turn road c.loop-own.yielded c.loop-own.own-iterator c.loop-own.yielded_by c.next.result c.next.new.self c.in-Some.own c.in-Some.is c.next.ensures.steps in
    let (steps, are, may) = c.requires in
    let lt : c.len-place.result < length c.args.stages.now =
    place_within c.args.definition.now c.args.stages.now c.args.rows.items steps are may c.loop-own.claims.items c.loop-own.yielded c.len-place.result c.loop-own.invariant.0 turn.0 (omega (arith, c.len-place.ensures, c.loop-own.claims.ok.0)) in
    search (rules, lt)

pub claim_of-requires-clause-canonical : goal.claim_of-requires-clause-canonical
claim_of-requires-clause-canonical c =
    let (steps, are, may) = c.requires in
    subst (λ (l : List Claim). AllByRecursion AreCanonical (map rows_claimed l)) (sym c.as_slice.ensures.value) (claims_canonical c.args.definition.now [] steps c.loop-own.claims.items (c.loop-own.invariant.1 steps are may))

pub claim_of-requires-clause-step : goal.claim_of-requires-clause-step
claim_of-requires-clause-step c =
    let def = c.args.definition.now in
    let road = YieldsList-from_vec {s = c.into_iter-own-iterator.result} c.args.rows.items (search rules) (search rules) in
    let turn = YieldsList-turn road c.loop-own.yielded c.loop-own.own-iterator c.loop-own.yielded_by c.next.result c.next.new.self c.in-Some.own c.in-Some.is c.next.ensures.steps in
    let far = YieldsList-so_far road c.loop-own.yielded c.loop-own.own-iterator c.loop-own.yielded_by in
    let (steps, are, may) = c.requires in
    let (s, is, own) = turn_may def c.args.stages.now c.args.rows.items steps are may c.loop-own.claims.items c.loop-own.yielded c.len-place.result c.in-Some.own c.index-stages-place.result c.loop-own.invariant.0 (sym (map-id c.loop-own.yielded) ∙ far) turn (omega (arith, c.len-place.ensures, c.loop-own.claims.ok.0)) c.index-stages-place.is in
    (s, is, subst (λ (l : List Claim). MayClaim def (map rows_claimed l) s c.in-Some.own) (sym c.as_slice.ensures.value) own)

pub loop-own-preserved : goal.loop-own-preserved
loop-own-preserved c =
    let def = c.args.definition.now in
    let road = YieldsList-from_vec {s = c.into_iter-own-iterator.result} c.args.rows.items (search rules) (search rules) in
    let turn = YieldsList-turn road c.loop-own.yielded c.loop-own.own-iterator c.loop-own.yielded_by c.next.result c.next.new.self c.in-Some.own c.in-Some.is c.next.ensures.steps in
    let far = YieldsList-so_far road c.loop-own.yielded c.loop-own.own-iterator c.loop-own.yielded_by in
    let stage = c.index-stages-place.result in
    let claim = c.in_ok-claim.claim in
    claims_turn def c.args.stages.now c.args.rows.items c.loop-own.claims.items c.push.new.self.items c.loop-own.yielded c.len-place.result c.in-Some.own stage claim c.loop-own.invariant (sym (map-id c.loop-own.yielded) ∙ far) turn
    (omega (arith, c.len-place.ensures, c.loop-own.claims.ok.0)) c.index-stages-place.is
    (subst (λ (l : List Claim). (s : Step) → IsStage def stage s → MayClaim def (map rows_claimed l) s c.in-Some.own → IsClaim def (at_of def (map rows_claimed l) s) claim) c.as_slice.ensures.value c.in_ok-claim.ensures.claim)
    c.in_ok-claim.ensures.rows c.in_ok-push.ensures.items

pub returns-clause-claims : goal.returns-clause-claims
returns-clause-claims c = c.loop-own.invariant.1

pub returns-clause-rows : goal.returns-clause-rows
returns-clause-rows c =
    let end = YieldsList-end (YieldsList-from_vec {s = c.into_iter-own-iterator.result} c.args.rows.items (search rules) (search rules))
    c.loop-own.yielded c.loop-own.own-iterator c.loop-own.yielded_by c.next.result c.next.new.self c.in-None.is c.next.ensures.steps in
    c.loop-own.invariant.0 ∙ sym (map-id c.loop-own.yielded) ∙ end.0
