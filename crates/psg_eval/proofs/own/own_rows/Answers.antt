use Rattle.std.proofs.Common.{◌≡◌, ◌++◌, ◌∷◌, length, map, ℕ, List, refl, sym, subst, ap, ap₂, ◌∙◌}
use Rattle.std.proofs.lemmas.Result.{IfOk-weaker}
use Rattle.psg_terms.specs.Names.{Name}
use Rattle.psg_terms.specs.Terms.{Term}
use Rattle.psg_terms.specs.Relations.{IsRelation}
use Rattle.psg_grammar.specs.declared.types.Kind.TheVariants.{Phylum}
use Rattle.psg_relation.specs.Choices.{AllHaveSorts, AllWithin, HasWide, IsSelected, picked}
use Rattle.psg_relation.proofs.Making.{err_map}
use Rattle.psg_unify.specs.Pairs.{Pair as Columns, AreOfEqualSort}
use Rattle.psg_eval.specs.Own.{AreOwn}
use Rattle.psg_eval.specs.OwnRows.{OwnRow, whole_row}
use Rattle.psg_eval.specs.Partials.{IsPartial}
use Rattle.psg_eval.specs.Summaries.{slot_kinds}
use Rattle.psg_eval.proofs.OwnSelect.{own_equal, own_partial, own_sorted, own_within, row_sorts, selected_relation}
use Rattle.psg_eval.proofs.own.own_rows.Goals as goal
use Rattle.psg_eval.proofs.own.own_rows.Goals.{After-as_slice-5}

rows_are : (c : After-as_slice-5) → c.as_slice-3.result.now ≡ map whole_row c.args.operator.now.rows
rows_are c = c.as_slice-3.ensures.value ∙ c.in_ok-rows.ensures ∙ ap (map whole_row) c.as_slice.ensures

pairs_are : (c : After-as_slice-5) → c.as_slice-4.result.now ≡ c.args.own.now.pairs.items
pairs_are c = c.as_slice-4.ensures.value

keep_is : (c : After-as_slice-5) → c.as_slice-5.result.now ≡ (0 ∷ c.args.slots.now) ++ c.args.own.now.columns.items
keep_is c =
    c.as_slice-5.ensures.value ∙ c.in_ok-extend_from_slice-2.ensures.items
    ∙ ap₂ (λ x y. x ++ y) (c.in_ok-extend_from_slice.ensures.items ∙ ap (λ x. x ++ c.args.slots.now) c.in_ok-keep.ensures) c.as_slice-2.ensures.value

pub select-requires-clause-sorts : goal.select-requires-clause-sorts
select-requires-clause-sorts c =
    let def = c.args.definition.now in
    let op = c.args.operator.now in
    let (names, are) = c.requires.own in
    let ss = row_sorts def op names c.args.slots.now c.args.own.now c.requires.operator are in (
      ss,
      subst (λ rows. AllHaveSorts def.signature rows ss) (sym (rows_are c)) (own_sorted def op names c.args.slots.now c.args.own.now c.requires.operator are),
      subst (AreOfEqualSort ss ss) (sym (pairs_are c)) (own_equal def op names c.args.slots.now c.args.own.now c.requires.operator are),
    )

pub select-requires-clause-keep : goal.select-requires-clause-keep
select-requires-clause-keep c =
    let (names, are) = c.requires.own in
    subst (λ rows. AllWithin rows c.as_slice-5.result.now) (sym (rows_are c))
    (subst (AllWithin (map whole_row c.args.operator.now.rows)) (sym (keep_is c)) (own_within c.args.definition.now c.args.operator.now names c.args.slots.now c.args.own.now c.requires.operator are))

-- the relation of the selected rows, by the operator's own rows and columns
selected : (c : After-as_slice-5) (ss : List ℕ) (rel : List (List Term))
    → IsRelation c.args.definition.now.signature (picked ss c.as_slice-5.result.now) (IsSelected c.args.definition.now.signature c.as_slice-3.result.now c.as_slice-4.result.now c.as_slice-5.result.now) rel
    → IsRelation c.args.definition.now.signature (picked ss ((0 ∷ c.args.slots.now) ++ c.args.own.now.columns.items))
    (IsSelected c.args.definition.now.signature (map whole_row c.args.operator.now.rows) c.args.own.now.pairs.items ((0 ∷ c.args.slots.now) ++ c.args.own.now.columns.items)) rel
selected c ss rel h =
    let sig = c.args.definition.now.signature in
    let rows = map whole_row c.args.operator.now.rows in
    subst (λ (keep : List ℕ). IsRelation sig (picked ss keep) (IsSelected sig rows c.args.own.now.pairs.items keep) rel) (keep_is c)
    (subst (λ (pairs : List Columns). IsRelation sig (picked ss c.as_slice-5.result.now) (IsSelected sig rows pairs c.as_slice-5.result.now) rel) (pairs_are c)
    (subst (λ (from : List (List Term)). IsRelation sig (picked ss c.as_slice-5.result.now) (IsSelected sig from c.as_slice-4.result.now c.as_slice-5.result.now) rel) (rows_are c) h))

sorted : (c : After-as_slice-5) (names : List Name) (are : AreOwn c.args.definition.now c.args.operator.now names c.args.slots.now c.args.own.now)
    → AllHaveSorts c.args.definition.now.signature c.as_slice-3.result.now (row_sorts c.args.definition.now c.args.operator.now names c.args.slots.now c.args.own.now c.requires.operator are)
sorted c names are =
    subst (λ rows. AllHaveSorts c.args.definition.now.signature rows (row_sorts c.args.definition.now c.args.operator.now names c.args.slots.now c.args.own.now c.requires.operator are)) (sym (rows_are c))
    (own_sorted c.args.definition.now c.args.operator.now names c.args.slots.now c.args.own.now c.requires.operator are)

pub returns-clause-sorted : goal.returns-clause-sorted
returns-clause-sorted c =
    let a = (goal.at.returns-clause-sorted c).After-as_slice-5 in
    let def = c.args.definition.now in
    let op = c.args.operator.now in
    let slots = c.args.slots.now in
    let own = c.args.own.now in
    let rows = c.as_slice-3.result.now in
    let pairs = c.as_slice-4.result.now in
    let keep = c.as_slice-5.result.now in
    IfOk-weaker c.select.result (λ rel. (ss : List ℕ) → AllHaveSorts def.signature rows ss → IsRelation def.signature (picked ss keep) (IsSelected def.signature rows pairs keep) rel)
    (λ rel. (names : List Name) → AreOwn def op names slots own → IsPartial def (Phylum op.phylum) (slot_kinds def op.items) (record { header = own.header; seen = 0; wanted = length slots; rel = rel }))
    (λ rel made names are.
    let ss = row_sorts def op names slots own c.requires.operator are in
    let known = selected a ss rel (made ss (sorted a names are)) in
    own_partial def op names slots own c.requires.operator are rel (λ row i. (known.shapes row i).sorted)
    (record { header = own.header; seen = 0; wanted = length slots; rel = rel }) refl refl refl refl)
    c.select.ensures.relation

pub returns-clause-rows : goal.returns-clause-rows
returns-clause-rows c =
    let a = (goal.at.returns-clause-rows c).After-as_slice-5 in
    let def = c.args.definition.now in
    let op = c.args.operator.now in
    let slots = c.args.slots.now in
    let own = c.args.own.now in
    let rows = c.as_slice-3.result.now in
    let pairs = c.as_slice-4.result.now in
    let keep = c.as_slice-5.result.now in
    IfOk-weaker c.select.result (λ rel. (ss : List ℕ) → AllHaveSorts def.signature rows ss → IsRelation def.signature (picked ss keep) (IsSelected def.signature rows pairs keep) rel)
    (λ rel. (names : List Name) → AreOwn def op names slots own → (ss : List ℕ) × IsRelation def.signature ss (OwnRow def.signature op names) rel)
    (λ rel made names are.
    let ss = row_sorts def op names slots own c.requires.operator are in
    let sorts = picked ss ((0 ∷ slots) ++ own.columns.items) in
    (sorts, selected_relation def op names slots own c.requires.operator are sorts rel (selected a ss rel (made ss (sorted a names are)))))
    c.select.ensures.relation

pub returns-clause-wide : goal.returns-clause-wide
returns-clause-wide c =
    let a = (goal.at.returns-clause-wide c).After-as_slice-5 in
    let def = c.args.definition.now in
    let op = c.args.operator.now in
    let slots = c.args.slots.now in
    let own = c.args.own.now in
    let rows = c.as_slice-3.result.now in
    let pairs = c.as_slice-4.result.now in
    let keep = c.as_slice-5.result.now in
    err_map c.select.result ((ss : List ℕ) → AllHaveSorts def.signature rows ss → HasWide def.signature (picked ss keep) (IsSelected def.signature rows pairs keep))
    ((names : List Name) → AreOwn def op names slots own → (ss : List ℕ) × HasWide def.signature ss (OwnRow def.signature op names))
    (λ made names are.
    let ss = row_sorts def op names slots own c.requires.operator are in
    let sorts = picked ss ((0 ∷ slots) ++ own.columns.items) in
    let (rel, known, passes) = made ss (sorted a names are) in
    (sorts, (rel, selected_relation def op names slots own c.requires.operator are sorts rel (selected a ss rel known), passes)))
    c.select.ensures.some
