use Rattle.std.proofs.Common.{ℕ, drop, refl, sym, ◌∙◌, subst, arith}
use Rattle.std.proofs.lemmas.Bool.{false≢true}
use Rattle.std.proofs.lemmas.Option.{MatchOption-at_some, MatchOption-at_none}
use Rattle.psg_deflines.specs.Parts.{texts}
use Rattle.psg_deflines.specs.TermWalks.{IsAdvanced, IsStepMade, HasNoStep, is_deep}
use Rattle.psg_deflines.specs.declared.term_reading.Walk.{Walk}
use Rattle.psg_deflines.proofs.TermFound.{walked-start, walked-more, walked-none, walked-done, made-longer, texts-from, texts-length}
use Rattle.psg_deflines.proofs.term_reading.line_term.Goals as goal

pub steps-init : goal.steps-init
steps-init c = (omega arith, walked-start (texts c.args.parts.now) _ c.new.ensures.items refl)

pub returns-in_default : goal.returns-in_default
returns-in_default c =
    let h = c.steps.invariant.1 in
    let ps = texts c.args.parts.now in
    let none : HasNoStep h.stage (drop c.steps.taken ps) =
    MatchOption-at_none (HasNoStep h.stage (drop c.steps.taken ps)) (λ (r : Walk × ℕ). IsStepMade h.stage (is_deep c.steps.walk) (drop c.steps.taken ps) r.0 r.1) c.in_default.is
    (subst (λ xs. IsAdvanced h.stage (is_deep c.steps.walk) xs c.in_ok-next.field-0) (texts-from c.args.parts.now c.steps.taken) (c.in_ok-next.ensures h.stage h.shown)) in
    walked-none ps c.steps.walk c.steps.taken h (λ d. false≢true (sym c.steps-test.true ∙ c.is_done.ensures.1 d)) none

pub steps-preserved : goal.steps-preserved
steps-preserved c =
    let h = c.steps.invariant.1 in
    let ps = texts c.args.parts.now in
    let made : IsStepMade h.stage (is_deep c.steps.walk) (drop c.steps.taken ps) c.in-Some.next c.in-Some.more =
    MatchOption-at_some (HasNoStep h.stage (drop c.steps.taken ps)) (λ (r : Walk × ℕ). IsStepMade h.stage (is_deep c.steps.walk) (drop c.steps.taken ps) r.0 r.1) (c.in-Some.next, c.in-Some.more) c.in-Some.is
    (subst (λ xs. IsAdvanced h.stage (is_deep c.steps.walk) xs c.in_ok-next.field-0) (texts-from c.args.parts.now c.steps.taken) (c.in_ok-next.ensures h.stage h.shown)) in
    let next = walked-more ps c.steps.walk c.in-Some.next c.steps.taken c.in-Some.more h made in
    (omega (arith, next.fits, texts-length c.args.parts.now), next)

pub steps-smaller : goal.steps-smaller
steps-smaller c =
    let h = c.steps.invariant.1 in
    let ps = texts c.args.parts.now in
    let made : IsStepMade h.stage (is_deep c.steps.walk) (drop c.steps.taken ps) c.in-Some.next c.in-Some.more =
    MatchOption-at_some (HasNoStep h.stage (drop c.steps.taken ps)) (λ (r : Walk × ℕ). IsStepMade h.stage (is_deep c.steps.walk) (drop c.steps.taken ps) r.0 r.1) (c.in-Some.next, c.in-Some.more) c.in-Some.is
    (subst (λ xs. IsAdvanced h.stage (is_deep c.steps.walk) xs c.in_ok-next.field-0) (texts-from c.args.parts.now c.steps.taken) (c.in_ok-next.ensures h.stage h.shown)) in
    let next = walked-more ps c.steps.walk c.in-Some.next c.steps.taken c.in-Some.more h made in
    omega (arith, made-longer h.stage (is_deep c.steps.walk) (drop c.steps.taken ps) c.in-Some.next c.in-Some.more made, next.fits, texts-length c.args.parts.now)

pub returns : goal.returns
returns c = walked-done (texts c.args.parts.now) c.steps.walk _ c.steps.invariant.1 (c.is_done.ensures.0 c.steps-test.false) c.finished-term.ensures
