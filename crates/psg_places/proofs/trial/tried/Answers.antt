use Rattle.std.proofs.Common.{◌≡◌, ◌↔◌, ◌+◌, ◌<◌, ◌≤◌, ◌^◌, ◌∙◌, true, ap, sym, subst}
use Rattle.psg_grammar.specs.Legal.{IsCompletable}
use Rattle.psg_grammar.specs.Open.{IsOpen}
use Rattle.psg_grammar.specs.WellFormed.{WellFormed}
use Rattle.psg_cache.specs.Annotated.{tree_in}
use Rattle.psg_cache.specs.Diff.{diff_of}
use Rattle.psg_cache.specs.Notes.{IsNoteOf}
use Rattle.psg_places.specs.declared.fault.BlameFault.TheVariants.{Memory}
use Rattle.psg_places.specs.Answers.{IsTrialFault}
use Rattle.psg_places.specs.Blame.{kept_in}
use Rattle.psg_places.specs.NewNames.{new_name}
use Rattle.psg_places.specs.Opened.{opened}
use Rattle.psg_places.proofs.AnswerLaws.{passed, tried_fault}
use Rattle.psg_places.proofs.ClimbLaws.{climb_ticks, near_opened, opened_well}
use Rattle.psg_places.proofs.trial.tried.Goals as goal

pub returns-in_err-opened-clause-fault : goal.returns-in_err-opened-clause-fault
returns-in_err-opened-clause-fault g c =
    passed (IsTrialFault c.args.definition.now c.args.front.now c.args.keep.items c.args.tree.now) _ Memory
    c.from_residual.ensures.1 tt

pub beside-requires-clause-kinds : goal.beside-requires-clause-kinds
beside-requires-clause-kinds g c =
    let def = c.args.definition.now in
    let tree = c.args.tree.now in
    let (kind, well) = c.requires.formed in (
      kind,
      c.requires.near.kinds kind well,
      subst (λ t. WellFormed def t kind) (sym c.in_ok-opened.ensures.tree)
          (opened_well def c.args.front.now tree c.requires.sound c.requires.front (kept_in c.as_slice-kept.result.now) kind well),
    )

pub returns-in-Ok-clause-trial : goal.returns-in-Ok-clause-trial
returns-in-Ok-clause-trial g c =
    let def = c.args.definition.now in
    let tree = c.args.tree.now in
    let fresh = new_name c.args.front.now in
    let is = c.in_ok-opened.ensures.tree ∙ ap (λ xs. opened def (kept_in xs) fresh tree) c.as_slice-kept.ensures.value in
    let rows = c.is_good-good.ensures.rows in
    let good = c.is_good-good.result in
    let open_is = c.in-Ok.ensures.good in
    record {
      note = subst (λ t. IsNoteOf def t c.in-Ok.note) is c.in-Ok.ensures.note;
      count = c.held-places.ensures.same ∙ c.in_ok-opened.ensures.count;
      small = subst (λ n. n < 2 ^ 64) c.in_ok-opened.ensures.count c.held-places.ensures.small;
      opens = subst (λ t. (good ≡ true) ↔ IsOpen def t) is (λ e. open_is.1 (rows.0 e), λ o. rows.1 (open_is.0 o));
      completable = λ true_rows.
          let by = (c.in-Ok.ensures.completions true_rows).relation in
          subst (λ t. (good ≡ true) ↔ IsCompletable def t) is (λ e. by.1 (rows.0 e), λ o. rows.1 (by.0 o));
    }

pub returns-in-Ok-clause-climb : goal.returns-in-Ok-clause-climb
returns-in-Ok-clause-climb g c =
    let def = c.args.definition.now in
    let fresh = new_name c.args.front.now in
    let is = c.in_ok-opened.ensures.tree ∙ ap (λ xs. opened def (kept_in xs) fresh c.args.tree.now) c.as_slice-kept.ensures.value in
    subst (λ t. c.beside.new.steps ≤ c.args.steps.now + diff_of (tree_in c.args.old.now) t) is c.beside.ensures.ticks

pub returns-in-Ok-clause-ticks : goal.returns-in-Ok-clause-ticks
returns-in-Ok-clause-ticks g c =
    climb_ticks c.args.definition.now c.args.front.now c.args.tree.now c.requires.sound c.requires.front c.requires.formed
    (tree_in c.args.old.now) (kept_in c.as_slice-kept.result.now) _ _
    (subst (λ t. c.beside.new.steps ≤ c.args.steps.now + diff_of (tree_in c.args.old.now) t) c.in_ok-opened.ensures.tree
    c.beside.ensures.ticks)

pub returns-in-Err-clause-climb : goal.returns-in-Err-clause-climb
returns-in-Err-clause-climb g c =
    let def = c.args.definition.now in
    let fresh = new_name c.args.front.now in
    let is = c.in_ok-opened.ensures.tree ∙ ap (λ xs. opened def (kept_in xs) fresh c.args.tree.now) c.as_slice-kept.ensures.value in
    subst (λ t. c.beside.new.steps ≤ c.args.steps.now + diff_of (tree_in c.args.old.now) t) is c.beside.ensures.ticks

pub returns-in-Err-clause-ticks : goal.returns-in-Err-clause-ticks
returns-in-Err-clause-ticks g c =
    climb_ticks c.args.definition.now c.args.front.now c.args.tree.now c.requires.sound c.requires.front c.requires.formed
    (tree_in c.args.old.now) (kept_in c.as_slice-kept.result.now) _ _
    (subst (λ t. c.beside.new.steps ≤ c.args.steps.now + diff_of (tree_in c.args.old.now) t) c.in_ok-opened.ensures.tree
    c.beside.ensures.ticks)

pub returns-in-Ok-clause-near : goal.returns-in-Ok-clause-near
returns-in-Ok-clause-near g c =
    let def = c.args.definition.now in
    near_opened def c.args.front.now c.args.tree.now c.requires.sound c.requires.front (kept_in c.as_slice-kept.result.now)
    c.in-Ok.note (subst (λ t. IsNoteOf def t c.in-Ok.note) c.in_ok-opened.ensures.tree c.in-Ok.ensures.note)

pub returns-in-Err-clause-fault : goal.returns-in-Err-clause-fault
returns-in-Err-clause-fault g c =
    let def = c.args.definition.now in
    let tree = c.args.tree.now in
    let fresh = new_name c.args.front.now in
    tried_fault def c.args.front.now c.args.keep.items tree c.limit.result c.in-Err.fault c.in_ok-opened.opened.tree c.limit.ensures
    (subst (λ n. n < 2 ^ 64) c.in_ok-opened.ensures.count c.held-places.ensures.small)
    (c.in_ok-opened.ensures.tree ∙ ap (λ xs. opened def (kept_in xs) fresh tree) c.as_slice-kept.ensures.value)
    c.in-Err.ensures.fault
