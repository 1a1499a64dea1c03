use Rattle.std.proofs.Common.{◌≡◌, ◌↔◌, ◌∙◌, inl, true, ◌+◌, ◌*◌, ◌^◌, ◌≤◌, ap, sym, subst}
use Rattle.psg_grammar.specs.Legal.{IsCompletable}
use Rattle.psg_grammar.specs.Open.{IsOpen}
use Rattle.psg_grammar.specs.Printable.{IsPrintable}
use Rattle.psg_grammar.specs.WellFormed.{WellFormed}
use Rattle.psg_completions.proofs.Law.{open_or_completable}
use Rattle.psg_places.specs.declared.fault.BlameFault.TheVariants.{Memory}
use Rattle.psg_grammar.specs.Work.{work_of}
use Rattle.psg_cache.specs.Annotated.{tree_in}
use Rattle.psg_places.specs.Answers.{IsBlameFault}
use Rattle.psg_places.specs.Blame.{AreAllAnswers, blamed_in, kept_in, most_blamed}
use Rattle.psg_places.specs.NewNames.{new_name}
use Rattle.psg_places.specs.Opened.{opened}
use Rattle.psg_places.proofs.AnswerLaws.{hopeless, limit_fault, nothing_blamed, passed, repaired_good, start_good, was_false, was_true}
use Rattle.psg_places.proofs.ForAllNames.{answers_for, completable_for_all, formed_new, open_for_all}
use Rattle.psg_places.proofs.FormedLaws.{formed}
use Rattle.psg_places.proofs.NewNameLaws.{all_new, is_name, is_short}
use Rattle.psg_places.proofs.PrintLaws.{prints_by_places}
use Rattle.psg_places.proofs.ClimbLaws.{after_start, no_rounds, only_start, same_rounds, same_trials, start_climb}
use Rattle.psg_places.proofs.SearchLaws.{same_answers}
use Rattle.psg_places.proofs.blaming.searched.Goals as goal

pub returns-in_err-nothing-clause-fault : goal.returns-in_err-nothing-clause-fault
returns-in_err-nothing-clause-fault g c =
    let def = c.args.definition.now in
    let tree = c.args.tree.now in
    passed (IsBlameFault def tree) _ c.in_err-nothing.field-0.0 c.from_residual.ensures.1
    (limit_fault def c.args.front c.new-none.result.items tree c.requires.front (inl c.new-none.ensures.items)
    c.in_err-nothing.field-0.0 c.in_err-nothing.ensures.fault)

pub returns-then-not-nothing-clause-open : goal.returns-then-not-nothing-clause-open
returns-then-not-nothing-clause-open g c rows =
    let def = c.args.definition.now in
    let tree = c.args.tree.now in
    let fresh = new_name c.args.front in
    let t = c.in_ok-nothing.ensures.trial in
    let new = all_new def tree c.args.front c.requires.front t.small in (
      (fresh, new),
      hopeless (IsOpen def) def fresh tree (open_for_all def tree) new c.in_ok-nothing.nothing.good
          (was_false c.in_ok-nothing.nothing.good c.if-not-nothing.true)
          (subst (λ xs. (c.in_ok-nothing.nothing.good ≡ true) ↔ IsOpen def (opened def (kept_in xs) fresh tree))
          c.new-none.ensures.items t.opens),
    )

pub returns-then-not-nothing-clause-completable : goal.returns-then-not-nothing-clause-completable
returns-then-not-nothing-clause-completable g c rows =
    let def = c.args.definition.now in
    let tree = c.args.tree.now in
    let fresh = new_name c.args.front in
    let t = c.in_ok-nothing.ensures.trial in
    let new = all_new def tree c.args.front c.requires.front t.small in (
      (fresh, new),
      hopeless (IsCompletable def) def fresh tree
          (completable_for_all def tree c.requires.sound rows c.requires.formed.0 c.requires.formed.1) new
          c.in_ok-nothing.nothing.good (was_false c.in_ok-nothing.nothing.good c.if-not-nothing.true)
          (subst (λ xs. (c.in_ok-nothing.nothing.good ≡ true) ↔ IsCompletable def (opened def (kept_in xs) fresh tree))
          c.new-none.ensures.items (t.completable rows)),
    )

pub answers-requires-clause-count : goal.answers-requires-clause-count
answers-requires-clause-count g c = c.in_ok-nothing.ensures.trial.count

pub answers-requires-clause-nothing : goal.answers-requires-clause-nothing
answers-requires-clause-nothing g c =
    let def = c.args.definition.now in
    let tree = c.args.tree.now in
    let fresh = new_name c.args.front in
    start_good (IsOpen def) def fresh tree c.in_ok-nothing.nothing.good
    (was_true c.in_ok-nothing.nothing.good c.if-not-nothing.false)
    (subst (λ xs. (c.in_ok-nothing.nothing.good ≡ true) ↔ IsOpen def (opened def (kept_in xs) fresh tree))
    c.new-none.ensures.items c.in_ok-nothing.ensures.trial.opens)

pub returns-in_err-kept-clause-fault : goal.returns-in_err-kept-clause-fault
returns-in_err-kept-clause-fault g c =
    passed (IsBlameFault c.args.definition.now c.args.tree.now) _ c.in_err-kept.field-0.0
    c.from_residual-in_err-kept.ensures.1 c.in_err-kept.ensures.fault

pub returns-in_err-last-clause-fault : goal.returns-in_err-last-clause-fault
returns-in_err-last-clause-fault g c =
    passed (IsBlameFault c.args.definition.now c.args.tree.now) _ Memory c.from_residual-in_err-last.ensures.1 tt

pub returns-clause-open : goal.returns-clause-open
returns-clause-open g c rows =
    let def = c.args.definition.now in
    let tree = c.args.tree.now in
    let front = c.args.front in
    let fresh = new_name front in
    let small = c.in_ok-nothing.ensures.trial.small in
    let new = all_new def tree front c.requires.front small in
    let is = c.of.ensures in
    let own = c.in_ok-kept.ensures.open rows in
    let repaired = c.in_ok-last.ensures.tree ∙ ap (λ xs. opened def (kept_in xs) fresh tree) (c.as_slice-answered.ensures.value ∙ sym is) in
    let plain = c.in_ok-last.ensures.tree ∙ ap (λ xs. opened def (kept_in xs) fresh tree) c.as_slice-answered.ensures.value in
    record {
      answers = λ other as_new.
          answers_for (IsOpen def) def tree (open_for_all def tree) fresh other new as_new c.of.result
          (subst (λ ks. AreAllAnswers (IsOpen def) def fresh tree ks) (sym is) own);
      names = c.requires.front;
      new = new;
      repaired = repaired;
      good = subst (IsOpen def) (sym plain) (repaired_good (IsOpen def) def fresh tree c.in_ok-kept.kept.items own);
      formed = λ kind well.
          subst (λ t. WellFormed def t kind) (sym plain)
          (formed def c.requires.sound (kept_in c.in_ok-kept.kept.items) fresh (is_name def tree front c.requires.front)
          tree kind well);
      printable = λ h.
          subst IsPrintable (sym plain)
          (prints_by_places def (kept_in c.in_ok-kept.kept.items) fresh tree (is_short def tree front c.requires.front small) h);
      whole = λ none.
          plain ∙ nothing_blamed (IsOpen def) def fresh tree c.in_ok-kept.kept.items own (sym (ap blamed_in is) ∙ none);
    }

pub returns-clause-completable : goal.returns-clause-completable
returns-clause-completable g c rows =
    let def = c.args.definition.now in
    let tree = c.args.tree.now in
    let front = c.args.front in
    let fresh = new_name front in
    let small = c.in_ok-nothing.ensures.trial.small in
    let new = all_new def tree front c.requires.front small in
    let all = completable_for_all def tree c.requires.sound rows c.requires.formed.0 c.requires.formed.1 in
    let is = c.of.ensures in
    let kind = c.requires.formed.0 in
    let own = same_answers (IsOpen def) (IsCompletable def) def fresh tree c.in_ok-kept.kept.items
    (λ k. open_or_completable def c.requires.sound rows (opened def k fresh tree) kind
    (formed_new def tree c.requires.sound kind c.requires.formed.1 fresh new k)) (c.in_ok-kept.ensures.open rows) in
    let repaired = c.in_ok-last.ensures.tree ∙ ap (λ xs. opened def (kept_in xs) fresh tree) (c.as_slice-answered.ensures.value ∙ sym is) in
    let plain = c.in_ok-last.ensures.tree ∙ ap (λ xs. opened def (kept_in xs) fresh tree) c.as_slice-answered.ensures.value in
    record {
      answers = λ other as_new.
          answers_for (IsCompletable def) def tree all fresh other new as_new c.of.result
          (subst (λ ks. AreAllAnswers (IsCompletable def) def fresh tree ks) (sym is) own);
      names = c.requires.front;
      new = new;
      repaired = repaired;
      good = subst (IsCompletable def) (sym plain) (repaired_good (IsCompletable def) def fresh tree c.in_ok-kept.kept.items own);
      formed = λ kind well.
          subst (λ t. WellFormed def t kind) (sym plain)
          (formed def c.requires.sound (kept_in c.in_ok-kept.kept.items) fresh (is_name def tree front c.requires.front)
          tree kind well);
      printable = λ h.
          subst IsPrintable (sym plain)
          (prints_by_places def (kept_in c.in_ok-kept.kept.items) fresh tree (is_short def tree front c.requires.front small) h);
      whole = λ none.
          plain ∙ nothing_blamed (IsCompletable def) def fresh tree c.in_ok-kept.kept.items own (sym (ap blamed_in is) ∙ none);
    }

pub returns-in_err-nothing-clause-ticks : goal.returns-in_err-nothing-clause-ticks
returns-in_err-nothing-clause-ticks g c h le =
    only_start _ (1 + most_blamed * (1 + h)) (work_of c.args.tree.now) _ _
    (start_climb c.args.definition.now c.args.front c.args.tree.now (tree_in c.args.old.now) _ c.args.steps.now _ c.new-none.ensures.items
    c.tried.ensures.climb)

pub returns-then-not-nothing-clause-ticks : goal.returns-then-not-nothing-clause-ticks
returns-then-not-nothing-clause-ticks g c h le =
    only_start _ (1 + most_blamed * (1 + h)) (work_of c.args.tree.now) _ _
    (start_climb c.args.definition.now c.args.front c.args.tree.now (tree_in c.args.old.now) _ c.args.steps.now _ c.new-none.ensures.items
    c.tried.ensures.climb)

pub returns-then-not-nothing-clause-trials : goal.returns-then-not-nothing-clause-trials
returns-then-not-nothing-clause-trials g c h le =
    only_start _ (1 + 0 * (1 + h)) (work_of c.args.tree.now) _ _
    (start_climb c.args.definition.now c.args.front c.args.tree.now (tree_in c.args.old.now) _ c.args.steps.now _ c.new-none.ensures.items
    c.tried.ensures.climb)

pub returns-in_err-kept-clause-ticks : goal.returns-in_err-kept-clause-ticks
returns-in_err-kept-clause-ticks g c h le =
    let few = subst (λ n. n ≤ 2 ^ h) (sym c.in_ok-nothing.ensures.trial.count) le in
    after_start _ (1 + most_blamed * (1 + h)) (work_of c.args.tree.now) _ _ _
    (start_climb c.args.definition.now c.args.front c.args.tree.now (tree_in c.args.old.now) _ c.args.steps.now _ c.new-none.ensures.items
    c.tried.ensures.climb) (c.answers.ensures.ticks h few)

pub returns-in_err-last-clause-ticks : goal.returns-in_err-last-clause-ticks
returns-in_err-last-clause-ticks g c h le =
    let few = subst (λ n. n ≤ 2 ^ h) (sym c.in_ok-nothing.ensures.trial.count) le in
    after_start _ (1 + most_blamed * (1 + h)) (work_of c.args.tree.now) _ _ _
    (start_climb c.args.definition.now c.args.front c.args.tree.now (tree_in c.args.old.now) _ c.args.steps.now _ c.new-none.ensures.items
    c.tried.ensures.climb) (c.answers.ensures.ticks h few)

pub returns-clause-ticks : goal.returns-clause-ticks
returns-clause-ticks g c h le =
    let few = subst (λ n. n ≤ 2 ^ h) (sym c.in_ok-nothing.ensures.trial.count) le in
    after_start _ (1 + most_blamed * (1 + h)) (work_of c.args.tree.now) _ _ _
    (start_climb c.args.definition.now c.args.front c.args.tree.now (tree_in c.args.old.now) _ c.args.steps.now _ c.new-none.ensures.items
    c.tried.ensures.climb) (c.answers.ensures.ticks h few)

pub returns-clause-trials : goal.returns-clause-trials
returns-clause-trials g c h le =
    let few = subst (λ n. n ≤ 2 ^ h) (sym c.in_ok-nothing.ensures.trial.count) le in
    after_start _ (1 + blamed_in c.of.result * (1 + h)) (work_of c.args.tree.now) _ _ _
    (start_climb c.args.definition.now c.args.front c.args.tree.now (tree_in c.args.old.now) _ c.args.steps.now _ c.new-none.ensures.items
    c.tried.ensures.climb)
    (same_trials _ _ h (work_of c.args.tree.now) _ _ c.of.ensures (c.in_ok-kept.ensures.trials h few))

pub returns-then-not-nothing-clause-climbs : goal.returns-then-not-nothing-clause-climbs
returns-then-not-nothing-clause-climbs g c h le = (
  c.tried.new.steps,
  (start_climb c.args.definition.now c.args.front c.args.tree.now (tree_in c.args.old.now) _ c.args.steps.now _ c.new-none.ensures.items
      c.tried.ensures.climb),
  no_rounds c.args.definition.now c.args.front c.args.tree.now (tree_in c.args.old.now) _ h _,
)

pub returns-clause-climbs : goal.returns-clause-climbs
returns-clause-climbs g c h le =
    let few = subst (λ n. n ≤ 2 ^ h) (sym c.in_ok-nothing.ensures.trial.count) le in (
      c.tried.new.steps,
      (start_climb c.args.definition.now c.args.front c.args.tree.now (tree_in c.args.old.now) _ c.args.steps.now _ c.new-none.ensures.items
          c.tried.ensures.climb),
      same_rounds c.args.definition.now c.args.front c.args.tree.now (tree_in c.args.old.now) h _ _ c.of.result _ c.of.ensures
          (c.in_ok-kept.ensures.climbs h few),
    )
