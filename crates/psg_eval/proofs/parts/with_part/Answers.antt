use Rattle.std.proofs.Common.{◌≡◌, ◌+◌, ◌∷◌, ◌∙◌, Some, List, sym, subst, ap}
use Rattle.std.proofs.lemmas.Result.{IfOk-weaker}
use Rattle.psg_grammar.specs.declared.types.Kind.{Kind}
use Rattle.psg_eval.specs.declared.partial.Partial.{Partial}
use Rattle.psg_eval.specs.Partials.{IsPartial}
use Rattle.psg_eval.specs.Patterns.{MatchPart, SuitsKind, seen_of}
use Rattle.psg_eval.proofs.PatternSteps.{known_partial, known_usual}
use Rattle.psg_eval.proofs.PlaceSteps.{place_partial, place_wanted}
use Rattle.psg_eval.proofs.parts.with_part.Goals as goal
use Rattle.psg_eval.proofs.parts.with_part.Goals.{After-known}

some : (c : After-known) → c.args.child.now ≡ Some c.known.result.now
some c = c.in-Some.is ∙ ap Some (sym c.known.ensures)

pub with_known-requires-clause-partial : goal.with_known-requires-clause-partial
with_known-requires-clause-partial c =
    let (kind, k, kinds, suits, part) = c.requires in
    (kind, kinds, known_partial c.args.definition.now c.args.child.now c.known.result.now (some (goal.at.with_known-requires-clause-partial c).After-known) kind k kinds c.args.before suits part)

pub with_known-requires-clause-child : goal.with_known-requires-clause-child
with_known-requires-clause-child c =
    let (kind, k, kinds, suits, part) = c.requires in
    known_usual c.args.definition.now c.args.child.now c.known.result.now (some (goal.at.with_known-requires-clause-child c).After-known) k suits

pub with_place-requires : goal.with_place-requires
with_place-requires c =
    let (kind, k, kinds, suits, part) = c.requires in
    place_wanted c.args.definition.now kind k kinds c.args.before part

pub returns-in-Some-clause-step : goal.returns-in-Some-clause-step
returns-in-Some-clause-step c =
    subst (λ o. MatchPart c.args.definition.now c.args.before o c.with_known.result) (sym (some (goal.at.returns-in-Some-clause-step c).After-known)) c.with_known.ensures.step

pub returns-in-Some-clause-partial : goal.returns-in-Some-clause-partial
returns-in-Some-clause-partial c =
    let def = c.args.definition.now in
    let e = some (goal.at.returns-in-Some-clause-partial c).After-known in
    IfOk-weaker c.with_known.result (λ (p : Partial). (kind : Kind) (kinds : List Kind) → IsPartial def kind (c.known.result.now.kind ∷ kinds) c.args.before → IsPartial def kind kinds p)
    (λ (p : Partial). (kind k : Kind) (kinds : List Kind) → SuitsKind def c.args.child.now k → IsPartial def kind (k ∷ kinds) c.args.before → IsPartial def kind kinds p)
    (λ p next kind k kinds suits part. next kind kinds (known_partial def c.args.child.now c.known.result.now e kind k kinds c.args.before suits part))
    c.with_known.ensures.partial

pub returns-in-Some-clause-seen : goal.returns-in-Some-clause-seen
returns-in-Some-clause-seen c =
    let e = some (goal.at.returns-in-Some-clause-seen c).After-known in
    IfOk-weaker c.with_known.result (λ (p : Partial). p.seen ≡ c.args.before.seen + c.known.result.now.seen) (λ (p : Partial). p.seen ≡ c.args.before.seen + seen_of c.args.child.now)
    (λ p h. h ∙ ap (λ o. c.args.before.seen + seen_of o) (sym e))
    c.with_known.ensures.seen

pub returns-in_ok-next-in-None-clause-partial : goal.returns-in_ok-next-in-None-clause-partial
returns-in_ok-next-in-None-clause-partial c = λ kind k kinds suits part.
    place_partial c.args.definition.now kind k kinds c.args.before part c.in_ok-next-in-None.next c.in_ok-next-in-None.ensures.partial
