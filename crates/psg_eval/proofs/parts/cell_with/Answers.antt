use Rattle.std.proofs.Common.{rules, Err, ◌≡◌, ◌+◌, ◌-◌, ◌^◌, ◌∙◌, ◌∷◌, [], min, length, get_or, slice_get, Some, List, sym, subst, ap, arith}
use Rattle.psg_terms.proofs.Lists.{slice_get_once}
use Rattle.std.proofs.lemmas.Option.{slice_get_within}
use Rattle.psg_grammar.specs.Fragments.{Fragment, cell}
use Rattle.psg_grammar.specs.declared.types.Kind.{Kind}
use Rattle.psg_grammar.specs.declared.types.Kind.TheVariants as kinds
use Rattle.psg_grammar.specs.declared.types.ListKind.{ListKind}
use Rattle.psg_eval.specs.declared.partial.Partial.{Partial}
use Rattle.psg_eval.specs.Partials.{IsPartial}
use Rattle.psg_eval.specs.Patterns.{IsChildOf, SuitsKind, seen_of}
use Rattle.psg_eval.specs.Stages.{IsCellStart, IsMade, MatchMade}
use Rattle.psg_eval.specs.Work.{part_work, rows_work}
use Rattle.psg_eval.proofs.NodeSteps.{place_there}
use Rattle.psg_eval.proofs.WorkLaws.{joined_two, numbered_on}
use Rattle.psg_eval.proofs.Numbers.{numbered_fault, numbered_if, numbered_step}
use Rattle.psg_eval.proofs.PatternSteps.{begin_made, begin_wide, element_fault, element_part, numbered_part, rest_fault, rest_part}
use Rattle.psg_eval.proofs.parts.cell_with.Goals as goal
use Rattle.psg_eval.proofs.parts.cell_with.Goals.{In_ok-first, In_ok-begun}

first_partial : (c : In_ok-first) → IsPartial c.args.definition.now (kinds.List c.args.list) (kinds.Phylum c.requires.takes.list.element ∷ kinds.List c.args.list ∷ []) c.in_ok-first.first
first_partial c =
    let def = c.args.definition.now in
    let l = c.args.list in
    numbered_if (λ (p : Partial). (kind : ListKind) → slice_get def.lists l ≡ Some kind → IsPartial def (kinds.List l) (kinds.Phylum kind.element ∷ kinds.List l ∷ []) p)
    c.cell_start.result 0 c.in_ok-first.first c.in_ok-first.ensures c.cell_start.ensures.partial c.requires.takes.list c.requires.takes.found

begun_partial : (c : In_ok-begun) → IsPartial c.args.definition.now (kinds.List c.args.list) (kinds.List c.args.list ∷ []) c.in_ok-begun.begun
begun_partial c =
    let def = c.args.definition.now in
    let l = c.args.list in
    let takes = c.requires.takes in
    let begin = numbered_if (λ (p : Partial). (kind : ListKind) → slice_get def.lists l ≡ Some kind → IsPartial def (kinds.List l) (kinds.Phylum kind.element ∷ kinds.List l ∷ []) p)
    c.cell_start.result 0 c.in_ok-first.first c.in_ok-first.ensures c.cell_start.ensures.partial takes.list takes.found in
    numbered_if (λ (q : Partial). (a k : Kind) (others : List Kind) → SuitsKind def c.args.element.now k → IsPartial def a (k ∷ others) c.in_ok-first.first → IsPartial def a others q)
    c.with_part.result 1 c.in_ok-begun.begun c.in_ok-begun.ensures c.with_part.ensures.partial (kinds.List l) (kinds.Phylum takes.list.element) (kinds.List l ∷ []) takes.element_fits begin

pub cell_start-requires-clause-there : goal.cell_start-requires-clause-there
cell_start-requires-clause-there c = slice_get_within c.args.definition.now.lists c.args.list c.requires.takes.list c.requires.takes.found

pub with_part-requires : goal.with_part-requires
with_part-requires c = (
  kinds.List c.args.list,
  kinds.Phylum c.requires.takes.list.element,
  kinds.List c.args.list ∷ [],
  c.requires.takes.element_fits,
  first_partial (goal.at.with_part-requires c).In_ok-first,
)

pub with_part-requires-2 : goal.with_part-requires-2
with_part-requires-2 c = (
  kinds.List c.args.list,
  kinds.List c.args.list,
  [],
  c.requires.takes.rest_fits,
  begun_partial (goal.at.with_part-requires-2 c).In_ok-begun,
)

pub returns-in_err-first-clause-made : goal.returns-in_err-first-clause-made
returns-in_err-first-clause-made c = λ e r one two.
    let def = c.args.definition.now in
    let l = c.args.list in
    let fault = c.in_err-first.field-0.0 in
    let d : c.from_residual-in_err-first.result ≡ Err fault = search rules in
    subst (MatchMade def (cell l e r) 2) (sym d)
    (numbered_fault def (cell l e r) 2 (IsCellStart def l) c.cell_start.result 0 fault c.in_err-first.ensures c.cell_start.ensures.step (begin_wide def c.requires.sound l e r))

begun_made : (c : In_ok-first) (e r : Fragment) → IsMade c.args.definition.now (cell c.args.list e r) 0 c.in_ok-first.first
begun_made c e r =
    let start = numbered_step (IsCellStart c.args.definition.now c.args.list) c.cell_start.result 0 c.in_ok-first.first c.in_ok-first.ensures c.cell_start.ensures.step in
    begin_made c.args.definition.now c.requires.sound c.args.list e r c.in_ok-first.first start.0 start.1

pub returns-in_err-begun-clause-made : goal.returns-in_err-begun-clause-made
returns-in_err-begun-clause-made c = λ e r one two.
    let def = c.args.definition.now in
    let l = c.args.list in
    let a = (goal.at.returns-in_err-begun-clause-made c).In_ok-first in
    let fault = c.in_err-begun.field-0.0 in
    let d : c.from_residual-in_err-begun.result ≡ Err fault = search rules in
    subst (MatchMade def (cell l e r) 2) (sym d)
    (element_fault def c.requires.sound l e r (kinds.List l) (kinds.Phylum c.requires.takes.list.element) (kinds.List l) c.in_ok-first.first (first_partial a) (begun_made a e r)
    c.args.element.now one c.requires.takes.element_fits 2 c.with_part.result fault c.in_err-begun.ensures c.with_part.ensures.step)

next_made : (c : In_ok-begun) (e r : Fragment) → IsChildOf c.args.definition.now e c.args.element.now → IsMade c.args.definition.now (cell c.args.list e r) 0 c.in_ok-first.first
    → IsPartial c.args.definition.now (kinds.List c.args.list) (kinds.Phylum c.requires.takes.list.element ∷ kinds.List c.args.list ∷ []) c.in_ok-first.first → IsMade c.args.definition.now (cell c.args.list e r) 1 c.in_ok-begun.begun
next_made c e r one made part =
    let def = c.args.definition.now in
    let l = c.args.list in
    element_part def c.requires.sound l e r (kinds.List l) (kinds.Phylum c.requires.takes.list.element) (kinds.List l) c.in_ok-first.first part made
    c.args.element.now one c.requires.takes.element_fits c.in_ok-begun.begun
    (numbered_part def c.in_ok-first.first c.args.element.now c.with_part.result 1 c.in_ok-begun.begun c.in_ok-begun.ensures c.with_part.ensures.step)

pub returns-in_err-whole-clause-made : goal.returns-in_err-whole-clause-made
returns-in_err-whole-clause-made c = λ e r one two.
    let def = c.args.definition.now in
    let l = c.args.list in
    let a = (goal.at.returns-in_err-whole-clause-made c).In_ok-first in
    let b = (goal.at.returns-in_err-whole-clause-made c).In_ok-begun in
    let fault = c.in_err-whole.field-0.0 in
    let d : c.from_residual-in_err-whole.result ≡ Err fault = search rules in
    subst (MatchMade def (cell l e r) 2) (sym d)
    (rest_fault def c.requires.sound l e r (kinds.List l) c.in_ok-begun.begun (begun_partial b) (next_made b e r one (begun_made a e r) (first_partial a))
    c.args.rest.now two c.requires.takes.rest_fits 2 c.with_part-2.result fault c.in_err-whole.ensures c.with_part-2.ensures.step)

pub returns-clause-made : goal.returns-clause-made
returns-clause-made c = λ e r one two.
    let def = c.args.definition.now in
    let l = c.args.list in
    let a = (goal.at.returns-clause-made c).In_ok-first in
    let b = (goal.at.returns-clause-made c).In_ok-begun in
    rest_part def c.requires.sound l e r (kinds.List l) c.in_ok-begun.begun (begun_partial b) (next_made b e r one (begun_made a e r) (first_partial a))
    c.args.rest.now two c.requires.takes.rest_fits c.in_ok-whole.whole
    (numbered_part def c.in_ok-begun.begun c.args.rest.now c.with_part-2.result 2 c.in_ok-whole.whole c.in_ok-whole.ensures c.with_part-2.ensures.step)

pub returns-clause-partial : goal.returns-clause-partial
returns-clause-partial c =
    let def = c.args.definition.now in
    let l = c.args.list in
    numbered_if (λ (q : Partial). (a k : Kind) (others : List Kind) → SuitsKind def c.args.rest.now k → IsPartial def a (k ∷ others) c.in_ok-begun.begun → IsPartial def a others q)
    c.with_part-2.result 2 c.in_ok-whole.whole c.in_ok-whole.ensures c.with_part-2.ensures.partial (kinds.List l) (kinds.List l) [] c.requires.takes.rest_fits
    (begun_partial (goal.at.returns-clause-partial c).In_ok-begun)

pub returns-clause-seen : goal.returns-clause-seen
returns-clause-seen c =
    let a = numbered_if (λ (p : Partial). p.seen ≡ 0) c.cell_start.result 0 c.in_ok-first.first c.in_ok-first.ensures c.cell_start.ensures.seen in
    let b = numbered_if (λ (p : Partial). p.seen ≡ c.in_ok-first.first.seen + seen_of c.args.element.now) c.with_part.result 1 c.in_ok-begun.begun c.in_ok-begun.ensures c.with_part.ensures.seen in
    let d = numbered_if (λ (p : Partial). p.seen ≡ c.in_ok-begun.begun.seen + seen_of c.args.rest.now) c.with_part-2.result 2 c.in_ok-whole.whole c.in_ok-whole.ensures c.with_part-2.ensures.seen in
    omega (arith, a, b, d)

pub returns-clause-work : goal.returns-clause-work
returns-clause-work c =
    let def = c.args.definition.now in
    let l = c.args.list in
    let first = c.in_ok-first.first in
    let begun = c.in_ok-begun.begun in
    let whole = c.in_ok-whole.whole in
    let takes = c.requires.takes in
    let start = numbered_step (IsCellStart def l) c.cell_start.result 0 first c.in_ok-first.ensures c.cell_start.ensures.step in
    let one = numbered_on (c.spend.new.self.left ≡ c.with_part.new.room.left + part_work first.rel c.args.element.now) c.with_part.result 1 begun c.in_ok-begun.ensures c.with_part.ensures.work in
    let two = numbered_on (c.with_part.new.room.left ≡ c.with_part-2.new.room.left + part_work begun.rel c.args.rest.now) c.with_part-2.result 2 whole c.in_ok-whole.ensures c.with_part-2.ensures.work in
    let none = numbered_if (λ (p : Partial). p.seen ≡ 0) c.cell_start.result 0 first c.in_ok-first.ensures c.cell_start.ensures.seen in
    let joins = part_work first.rel c.args.element.now + part_work begun.rel c.args.rest.now in
    let joined = joined_two def first begun whole c.args.element.now c.args.rest.now
    (numbered_part def first c.args.element.now c.with_part.result 1 begun c.in_ok-begun.ensures c.with_part.ensures.step)
    (numbered_if (λ (p : Partial). p.seen ≡ first.seen + seen_of c.args.element.now) c.with_part.result 1 begun c.in_ok-begun.ensures c.with_part.ensures.seen)
    (numbered_part def begun c.args.rest.now c.with_part-2.result 2 whole c.in_ok-whole.ensures c.with_part-2.ensures.step)
    (numbered_if (λ (p : Partial). p.seen ≡ begun.seen + seen_of c.args.rest.now) c.with_part-2.result 2 whole c.in_ok-whole.ensures c.with_part-2.ensures.seen) in
    let read = c.index-as_slice-list.result in
    let there = place_there def.lists l takes.list read takes.found (subst (λ (ls : List ListKind). read ≡ get_or ls l read) c.as_slice.ensures c.index-as_slice-list.is) in
    let same = slice_get_once def.lists l read takes.list there takes.found in
    let rows = ap length (c.as_slice-rows.ensures ∙ ap (λ (x : ListKind). x.cell_rows) (sym c.index-as_slice-list.is ∙ same)) in
    let own = c.rows_work.ensures ∙ ap (λ r. min (rows_work r 3) (2 ^ 64 - 1)) rows in (
      c.rows_work.result + joins,
      record { list = takes.list; found = takes.found; first = first; begun = start.0; none_seen = none; whole = whole; joins = joins; joined = joined; all = ap (λ n. n + joins) own },
      omega (arith, c.in_ok-spend.ensures.taken, one, two),
    )
