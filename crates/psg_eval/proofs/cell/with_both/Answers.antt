use Rattle.std.proofs.Common.{rules, Err, ◌≡◌, ◌+◌, ◌∷◌, [], ◌∙◌, sym, subst, ap}
use Rattle.psg_grammar.specs.Fragments.{cell}
use Rattle.psg_grammar.specs.declared.types.Kind.TheVariants as kinds
use Rattle.psg_eval.specs.declared.partial.Partial.{Partial}
use Rattle.psg_eval.specs.Partials.{IsAdded, IsPartial}
use Rattle.psg_eval.specs.Stages.{MatchMade}
use Rattle.psg_eval.proofs.CellRows.{begun_kinds, next_seen, next_step, start_made, element_made, element_wide, rest_made, rest_wide}
use Rattle.psg_eval.proofs.Numbers.{numbered_fault, numbered_if, numbered_step}
use Rattle.psg_eval.proofs.cell.with_both.Goals as goal
use Rattle.psg_eval.proofs.cell.with_both.Goals.{In_ok-begun}

begun_partial : (c : In_ok-begun) → IsPartial c.args.definition.now (kinds.List c.args.list) (c.args.rest.now.kind ∷ []) c.in_ok-begun.begun
begun_partial c =
    let def = c.args.definition.now in
    next_step def (kinds.List c.args.list) c.args.element.now.kind (c.args.rest.now.kind ∷ []) c.args.first.now c.with_child.result 1 c.in_ok-begun.begun c.in_ok-begun.ensures c.with_child.ensures.partial
    (begun_kinds def c.args.list c.args.element.now c.args.rest.now c.requires.takes c.args.first.now c.requires.first)

begun_seen : (c : In_ok-begun) → c.in_ok-begun.begun.seen ≡ c.args.element.now.seen
begun_seen c =
    next_seen c.args.first.now.seen c.args.element.now.seen c.with_child.result 1 c.in_ok-begun.begun c.in_ok-begun.ensures c.with_child.ensures.seen c.requires.first.seen

pub with_child-requires-clause-partial : goal.with_child-requires-clause-partial
with_child-requires-clause-partial c =
    (kinds.List c.args.list, c.args.rest.now.kind ∷ [], begun_kinds c.args.definition.now c.args.list c.args.element.now c.args.rest.now c.requires.takes c.args.first.now c.requires.first)

pub with_child-requires-2-clause-partial : goal.with_child-requires-2-clause-partial
with_child-requires-2-clause-partial c = (kinds.List c.args.list, [], begun_partial (goal.at.with_child-requires-2-clause-partial c).In_ok-begun)

pub returns-in_err-begun-clause-made : goal.returns-in_err-begun-clause-made
returns-in_err-begun-clause-made c = λ e r one two.
    let def = c.args.definition.now in
    let l = c.args.list in
    let first = c.args.first.now in
    let fault = c.in_err-begun.field-0.0 in
    let d : c.from_residual.result ≡ Err fault = search rules in
    let start = c.requires.first.step in
    let made = start_made def c.requires.sound l e r c.args.element.now c.args.rest.now one two first start.0 start.1 in
    subst (MatchMade def (cell l e r) 2) (sym d)
    (numbered_fault def (cell l e r) 2 (IsAdded def first c.args.element.now) c.with_child.result 1 fault c.in_err-begun.ensures c.with_child.ensures.step
    (element_wide def c.requires.sound l e r c.args.element.now c.args.rest.now one two (kinds.List l) c.args.rest.now.kind first
    (begun_kinds def l c.args.element.now c.args.rest.now c.requires.takes first c.requires.first) made))

pub returns-in_err-whole-clause-made : goal.returns-in_err-whole-clause-made
returns-in_err-whole-clause-made c = λ e r one two.
    let def = c.args.definition.now in
    let l = c.args.list in
    let b = (goal.at.returns-in_err-whole-clause-made c).In_ok-begun in
    let first = c.args.first.now in
    let begun = c.in_ok-begun.begun in
    let fault = c.in_err-whole.field-0.0 in
    let d : c.from_residual-in_err-whole.result ≡ Err fault = search rules in
    let start = c.requires.first.step in
    let made = start_made def c.requires.sound l e r c.args.element.now c.args.rest.now one two first start.0 start.1 in
    let next = numbered_step (IsAdded def first c.args.element.now) c.with_child.result 1 begun c.in_ok-begun.ensures c.with_child.ensures.step in
    let part = begun_kinds def l c.args.element.now c.args.rest.now c.requires.takes first c.requires.first in
    let more = element_made def c.requires.sound l e r c.args.element.now c.args.rest.now one two (kinds.List l) c.args.rest.now.kind first part made begun next.0 next.1 in
    subst (MatchMade def (cell l e r) 2) (sym d)
    (numbered_fault def (cell l e r) 2 (IsAdded def begun c.args.rest.now) c.with_child-2.result 2 fault c.in_err-whole.ensures c.with_child-2.ensures.step
    (rest_wide def c.requires.sound l e r c.args.element.now c.args.rest.now one two (kinds.List l) c.requires.takes.rest_kind begun (begun_partial b) more))

pub returns-clause-made : goal.returns-clause-made
returns-clause-made c = λ e r one two.
    let def = c.args.definition.now in
    let l = c.args.list in
    let b = (goal.at.returns-clause-made c).In_ok-begun in
    let first = c.args.first.now in
    let begun = c.in_ok-begun.begun in
    let whole = c.in_ok-whole.whole in
    let start = c.requires.first.step in
    let made = start_made def c.requires.sound l e r c.args.element.now c.args.rest.now one two first start.0 start.1 in
    let next = numbered_step (IsAdded def first c.args.element.now) c.with_child.result 1 begun c.in_ok-begun.ensures c.with_child.ensures.step in
    let part = begun_kinds def l c.args.element.now c.args.rest.now c.requires.takes first c.requires.first in
    let more = element_made def c.requires.sound l e r c.args.element.now c.args.rest.now one two (kinds.List l) c.args.rest.now.kind first part made begun next.0 next.1 in
    let last = numbered_step (IsAdded def begun c.args.rest.now) c.with_child-2.result 2 whole c.in_ok-whole.ensures c.with_child-2.ensures.step in
    rest_made def c.requires.sound l e r c.args.element.now c.args.rest.now one two (kinds.List l) c.requires.takes.rest_kind begun (begun_partial b) more whole last.0 last.1

pub returns-clause-partial : goal.returns-clause-partial
returns-clause-partial c =
    next_step c.args.definition.now (kinds.List c.args.list) c.args.rest.now.kind [] c.in_ok-begun.begun c.with_child-2.result 2 c.in_ok-whole.whole c.in_ok-whole.ensures c.with_child-2.ensures.partial
    (begun_partial (goal.at.returns-clause-partial c).In_ok-begun)

pub returns-clause-seen : goal.returns-clause-seen
returns-clause-seen c =
    numbered_if (λ (p : Partial). p.seen ≡ c.in_ok-begun.begun.seen + c.args.rest.now.seen) c.with_child-2.result 2 c.in_ok-whole.whole c.in_ok-whole.ensures c.with_child-2.ensures.seen
    ∙ ap (λ n. n + c.args.rest.now.seen) (begun_seen (goal.at.returns-clause-seen c).In_ok-begun)
