use Rattle.std.proofs.Common.{◌≡◌, ◌≤◌, ◌⊎◌, ◌-◌, ◌++◌, ◌∙◌, ap, drop, length, take, subst, arith}
use Rattle.std.specs.Prelude.{reverse}
use Rattle.psg_cache.specs.Renoting.{first_or, IsCellsFault}
use Rattle.psg_cache.proofs.CellLaws.{cell_answers, cell_fault, cell_takes, cells_more, cells_none, latest_is, suffixes_more, suffixes_none, usual_suffixes, kept_cells, kept_usual}
use Rattle.psg_cache.proofs.Passing.{passed}
use Rattle.psg_cache.proofs.listing.cells.Goals as goal

pub turn-init : goal.turn-init
turn-init g c =
    let elements = c.args.elements.now in
    record {
      within = omega arith;
      counted = omega arith;
      made =
          cells_none c.args.language.definition.now c.args.list elements c.args.behind.now c.new-made.result.items c.new-made.ensures.items;
      suffixes = suffixes_none c.args.language.definition.now c.args.list c.new-made.result.items c.new-made.ensures.items;
    }

pub eval_cell-answer-requires-clause-takes : goal.eval_cell-answer-requires-clause-takes
eval_cell-answer-requires-clause-takes g c =
    let some = c.is_due.ensures.more c.turn-test.true in
    cell_takes c.args.language.definition.now c.args.list c.args.elements.now c.args.behind.now c.requires.takes
    (c.turn.left - 1) c.index-elements-left.result c.latest-rest.result.now c.turn.made.items
    (omega (arith, some, c.turn.invariant.within))
    c.index-elements-left.is
    (latest_is c.args.behind.now c.turn.made.items _ c.latest-rest.result.now c.as_slice-latter.ensures.value
    c.latest-rest.ensures)
    c.turn.invariant.suffixes

pub returns-in_err-cell-clause-err : goal.returns-in_err-cell-clause-err
returns-in_err-cell-clause-err g c =
    let def = c.args.language.definition.now in
    let path = c.args.path.now in
    let elements = c.args.elements.now in
    let some = c.is_due.ensures.more c.turn-test.true in
    passed (IsCellsFault def path c.args.list elements c.args.behind.now) _ c.in_err-cell.field-0.0
    c.from_residual.ensures.1
    (cell_fault def path c.args.list elements c.args.behind.now c.turn.left (c.turn.left - 1)
    c.index-elements-left.result c.latest-rest.result.now c.turn.made.items c.eval_cell-answer.result
    c.in_err-cell.field-0.0 (omega (arith, some)) (omega (arith, some, c.turn.invariant.within)) c.index-elements-left.is
    (latest_is c.args.behind.now c.turn.made.items _ c.latest-rest.result.now c.as_slice-latter.ensures.value
    c.latest-rest.ensures)
    c.turn.invariant.made c.eval_cell-answer.ensures.answer c.in_err-cell.ensures.err)

pub turn-preserved : goal.turn-preserved
turn-preserved g c =
    let def = c.args.language.definition.now in
    let list = c.args.list in
    let elements = c.args.elements.now in
    let behind = c.args.behind.now in
    let now = c.turn.left - 1 in
    let some = c.is_due.ensures.more c.turn-test.true in
    let within = c.turn.invariant.within in
    let element = c.index-elements-left.result in
    let rest = c.latest-rest.result.now in
    let made = c.turn.made.items in
    let latest = latest_is behind made _ rest c.as_slice-latter.ensures.value c.latest-rest.ensures in
    let answer = c.eval_cell-answer.result in
    record {
      within = omega (arith, some, within);
      counted = omega (arith, some, c.eval_cell-answer.ensures.ticks, c.turn.invariant.counted);
      made =
          cells_more def list elements behind c.turn.left now element rest c.in_ok-cell.cell made
          c.push.new.self.items (omega (arith, some)) (omega (arith, some, within)) c.index-elements-left.is latest
          c.in_ok-push.ensures.items
          (cell_answers def list element rest c.in_ok-cell.cell answer c.eval_cell-answer.ensures.answer
          c.in_ok-cell.ensures.ok) c.turn.invariant.made;
      suffixes =
          suffixes_more def list c.in_ok-cell.cell answer made c.push.new.self.items
          c.in_ok-push.ensures.items c.in_ok-cell.ensures.ok c.eval_cell-answer.ensures.summary
          c.eval_cell-answer.ensures.kind c.turn.invariant.suffixes;
    }

pub returns-clause-ok : goal.returns-clause-ok
returns-clause-ok g c =
    let olds = c.args.olds.items in
    let made = c.turn.made.items in
    let left = c.turn.left in
    let behind = c.args.behind.now in
    let was = c.args.was.now in
    let before = c.as_slice-before.ensures.value in
    let done = c.is_due.ensures.done c.turn-test.false in
    let slice = c.as_slice.ensures.value in
    let small : left ≤ length olds = subst (λ os. left ≤ length os) before done.0 in
    let stops : (left ≡ 0) ⊎ (first_or behind (reverse made) ≡ first_or was (drop left olds)) =
    subst (λ os. (left ≡ 0) ⊎ (first_or behind (reverse made) ≡ first_or was (drop left os))) before
    (subst (λ m. (left ≡ 0) ⊎ (first_or behind (reverse m) ≡ first_or was (drop left c.as_slice-before.result.now))) slice
    done.1) in
    kept_cells c.args.language.definition.now c.args.list c.args.elements.now behind was c.requires.olds.0 left olds made _
    c.requires.olds.1 small stops (c.in_ok-all.ensures ∙ ap (λ xs. take left olds ++ xs) c.reverse.ensures.items)
    c.turn.invariant.made

pub returns-clause-usual : goal.returns-clause-usual
returns-clause-usual g c =
    let def = c.args.language.definition.now in
    let olds = c.args.olds.items in
    let made = c.turn.made.items in
    let left = c.turn.left in
    kept_usual def left olds made _ c.requires.old_usual
    (usual_suffixes def c.args.list (reverse made) c.turn.invariant.suffixes)
    (c.in_ok-all.ensures ∙ ap (λ xs. take left olds ++ xs) c.reverse.ensures.items)

pub returns-clause-ticks : goal.returns-clause-ticks
returns-clause-ticks g c = λ none.
    let n = ap length (c.as_slice-before.ensures.value ∙ none) in
    let done = c.is_due.ensures.done c.turn-test.false in
    let small = done.0 in
    omega (arith, n, small, c.turn.invariant.counted)
