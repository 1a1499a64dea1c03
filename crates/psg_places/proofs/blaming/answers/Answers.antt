use Rattle.std.proofs.Common.{◌≡◌, inl, inr, ◌∙◌, ◌+◌, ◌*◌, ◌<◌, ◌^◌, Bool, true, false, cond, List, [], ◌∷◌, ◌++◌, replicate, length, ap, sym, subst, arith}
use Rattle.std.proofs.lemmas.List.{append_assoc}
use Rattle.psg_grammar.specs.Open.{IsOpen}
use Rattle.psg_grammar.specs.Work.{work_of}
use Rattle.psg_places.specs.Answers.{HasMore, IsBlameFault, IsNear, IsNextFound, next_tree, trials_work}
use Rattle.psg_places.specs.declared.fault.BlameFault.TheVariants.{Memory}
use Rattle.psg_places.specs.Blame.{most_blamed}
use Rattle.psg_places.specs.NewNames.{new_name}
use Rattle.psg_places.specs.Places.{place_count}
use Rattle.psg_places.proofs.AnswerLaws.{all_answers, passed, stopped}
use Rattle.psg_cache.specs.Annotated.{tree_in}
use Rattle.psg_places.proofs.ClimbLaws.{IsOneRound, IsRounding, rounding_end, rounding_first, rounding_next}
use Rattle.psg_places.proofs.FallingLaws.{open_falls}
use Rattle.psg_places.proofs.NewNameLaws.{all_new}
use Rattle.psg_places.proofs.SearchLaws.{IsKnown, due_more, found_ends, known_first, known_good, known_round, spent_end, spent_fault, spent_most}
use Rattle.psg_places.proofs.blaming.answers.Goals as goal

pub places-init : goal.places-init
places-init g c = record {
  known = known_first c.args.definition.now c.args.front.now c.args.tree.now c.args.places c.args.steps.now (work_of c.args.tree.now) c.new-kept.result.items
      c.new-kept.ensures.items c.requires.nothing;
  near = subst (λ n. IsNear c.args.definition.now c.args.tree.now n) (sym c.in_ok-base.ensures) c.requires.near;
  rounds = λ h le.
      subst
      (λ (ks : List Bool). IsRounding c.args.definition.now c.args.front.now c.args.tree.now (tree_in c.args.old.now)
      (tree_in c.in_ok-base.base) ks h c.args.places 0 c.args.steps.now c.args.steps.now)
      (sym c.new-kept.ensures.items)
      (rounding_first c.args.definition.now c.args.front.now c.args.tree.now (tree_in c.args.old.now)
      (tree_in c.in_ok-base.base) h c.args.places c.args.steps.now (ap tree_in c.in_ok-base.ensures));
}

pub returns-in_err-base-clause-fault : goal.returns-in_err-base-clause-fault
returns-in_err-base-clause-fault g c =
    passed (IsBlameFault c.args.definition.now c.args.tree.now) _ Memory c.from_residual.ensures.1 tt

pub next_found-requires-clause-near : goal.next_found-requires-clause-near
next_found-requires-clause-near g c = c.places.invariant.near

pub next_found-requires-clause-more : goal.next_found-requires-clause-more
next_found-requires-clause-more g c =
    let def = c.args.definition.now in
    let front = c.args.front.now in
    let f = c.args.tree.now in
    let due = c.is_due.ensures.0 c.places-test.true in
    let long : length c.as_slice.result.now ≡ length c.places.kept.items = ap length c.as_slice.ensures.value in
    subst (λ ks. HasMore def (new_name front) f ks 1) (sym c.as_slice-done.ensures.value)
    (due_more def front f c.args.places c.args.steps.now c.places.steps (work_of f) c.places.kept.items c.places.blamed c.places.invariant.known (omega (arith, due.0, long, c.requires.count)) due.1)

pub next_found-requires-clause-good : goal.next_found-requires-clause-good
next_found-requires-clause-good g c =
    let def = c.args.definition.now in
    let front = c.args.front.now in
    let f = c.args.tree.now in
    subst (λ ks. IsOpen def (next_tree def front ks 0 f)) (sym c.as_slice-done.ensures.value)
    (known_good def front f c.places.kept.items c.places.invariant.known.good)

pub returns-in_err-found-clause-fault : goal.returns-in_err-found-clause-fault
returns-in_err-found-clause-fault g c =
    passed (IsBlameFault c.args.definition.now c.args.tree.now) _ c.in_err-found.field-0.0
    c.from_residual-in_err-found.ensures.1
    c.in_err-found.ensures.fault

pub returns-clause-open : goal.returns-clause-open
returns-clause-open g c rows =
    let def = c.args.definition.now in
    let h = c.places.invariant.known in
    let long : length c.as_slice.result.now ≡ length c.places.kept.items = ap length c.as_slice.ensures.value in
    let stop = stopped (length c.as_slice.result.now) c.args.places c.places.blamed most_blamed c.is_due.result
    c.is_due.ensures c.places-test.false (omega (arith, h.inside, long, c.requires.count)) h.most in
    all_answers (IsOpen def) def (new_name c.args.front.now) c.args.tree.now c.places.kept.items c.places.blamed (h.answers rows)
    (elim stop [ inl e ↦ inl (sym long ∙ e ∙ c.requires.count) | inr e ↦ inr e ])

pub returns-clause-trials : goal.returns-clause-trials
returns-clause-trials g c h le =
    let W = work_of c.args.tree.now in
    let k = c.places.invariant.known in
    let a = spent_end h (length c.places.kept.items) c.args.places c.places.blamed c.args.steps.now c.places.steps W (k.spent h le) in
    let s = ap (λ b. trials_work (1 + b * (1 + h)) W) k.count in
    omega (arith, a, s)

pub returns-clause-ticks : goal.returns-clause-ticks
returns-clause-ticks g c h le =
    let k = c.places.invariant.known in
    spent_most h (length c.places.kept.items) c.args.places c.places.blamed c.args.steps.now c.places.steps (work_of c.args.tree.now) (k.spent h le) k.most

pub places-preserved : goal.places-preserved
places-preserved g c =
    let def = c.args.definition.now in
    let front = c.args.front.now in
    let f = c.args.tree.now in
    let due = c.is_due.ensures.0 c.places-test.true in
    let kept = c.places.kept.items in
    let found = c.in_ok-found.found in
    let long : length c.as_slice.result.now ≡ length kept = ap length c.as_slice.ensures.value in
    let lt : length kept < place_count def f = omega (arith, due.0, long, c.requires.count) in
    let small : place_count def f < 2 ^ 64 = omega (arith, c.requires.count) in
    let next : IsNextFound def front f kept found =
    subst (λ ks. IsNextFound def front f ks found) c.as_slice-done.ensures.value c.in_ok-found.ensures.next in
    let count = ap (λ n. c.places.blamed + n) c.one_if-more.ensures.exact in
    let known = subst (λ b. IsKnown def front f c.args.places c.args.steps.now c.next_found.new.steps (work_of f) c.add_found.new.kept.items b) (sym count)
    (known_round def front f c.args.places c.args.steps.now c.places.steps c.next_found.new.steps (work_of f) kept c.add_found.new.kept.items c.places.blamed found
    (λ rows. open_falls def c.requires.sound rows f c.requires.formed.0 c.requires.formed.1 (new_name front) (all_new def f front c.requires.front small))
    c.places.invariant.known c.requires.count lt due.1 next c.in_ok-add_found.ensures c.in_ok-found.ensures.all c.next_found.ensures.ticks) in
    record {
      known = known;
      near = c.in_ok-found.ensures.near;
      rounds = λ h le.
          rounding_next def front f (tree_in c.args.old.now) (tree_in c.places.base) (tree_in found.all) kept
          (replicate found.more true ++ cond found.blamed (false ∷ []) []) c.add_found.new.kept.items h c.args.places
          c.places.blamed c.args.steps.now c.places.steps c.next_found.new.steps _ found.blamed
          (c.in_ok-add_found.ensures
          ∙ append_assoc kept (replicate found.more true) (cond found.blamed (false ∷ []) []))
          (c.places.invariant.rounds h le) (omega (arith, due.0, long))
          (λ e. found_ends def front f kept c.add_found.new.kept.items found next c.in_ok-add_found.ensures e ∙ sym c.requires.count) count
          (subst (λ ks. IsOneRound def front f ks h (tree_in c.places.base) (tree_in found.all) c.places.steps c.next_found.new.steps)
          c.as_slice-done.ensures.value (c.in_ok-found.ensures.round h le));
    }

pub returns-in_err-found-clause-ticks : goal.returns-in_err-found-clause-ticks
returns-in_err-found-clause-ticks g c h le =
    let due = c.is_due.ensures.0 c.places-test.true in
    let long : length c.as_slice.result.now ≡ length c.places.kept.items = ap length c.as_slice.ensures.value in
    spent_fault h (length c.places.kept.items) c.args.places c.places.blamed c.args.steps.now c.places.steps (work_of c.args.tree.now)
    c.next_found.new.steps (c.places.invariant.known.spent h le) (omega (arith, due.0, long)) due.1 (c.next_found.ensures.ticks h le)

pub returns-in_err-add_found-clause-ticks : goal.returns-in_err-add_found-clause-ticks
returns-in_err-add_found-clause-ticks g c h le =
    let due = c.is_due.ensures.0 c.places-test.true in
    let long : length c.as_slice.result.now ≡ length c.places.kept.items = ap length c.as_slice.ensures.value in
    spent_fault h (length c.places.kept.items) c.args.places c.places.blamed c.args.steps.now c.places.steps (work_of c.args.tree.now)
    c.next_found.new.steps (c.places.invariant.known.spent h le) (omega (arith, due.0, long)) due.1 (c.next_found.ensures.ticks h le)

pub returns-clause-climbs : goal.returns-clause-climbs
returns-clause-climbs g c h le =
    let def = c.args.definition.now in
    let old = tree_in c.args.old.now in
    rounding_end def c.args.front.now c.args.tree.now old (tree_in c.places.base) c.places.kept.items h c.args.places
    c.places.blamed c.args.steps.now c.places.steps c.places.invariant.known.count (c.places.invariant.rounds h le)
