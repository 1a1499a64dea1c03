-- Coverage by the most general rows of the values of each choice.
use Rattle.std.proofs.Common.{◌≡◌, ℕ, List, [], ◌∷◌, slice_get, Some, refl, sym, ◌∙◌, subst}
use Rattle.psg_terms.specs.Terms.{Term}
use Rattle.psg_terms.specs.Signature.{HasSort}
use Rattle.psg_terms.specs.Instances.{IsGroundInstance}
use Rattle.psg_terms.specs.Relations.{IsIn}
use Rattle.psg_terms.proofs.Exact.{instance_exact}
use Rattle.psg_grammar.specs.declared.types.Kind.{Kind}
use Rattle.psg_grammar.specs.declared.types.Kind.TheVariants as kinds
use Rattle.psg_grammar.specs.declared.types.HoleRow.{HoleRow}
use Rattle.psg_grammar.specs.declared.types.Definition.{Definition}
use Rattle.psg_grammar.specs.Open.{IsOfHoleRow}
use Rattle.psg_grammar.specs.Sound.{IsSound, HasKindSort}
use Rattle.psg_completions.specs.CoveredRows.{RowTakes, CellTakes, IsCoveredBy, IsCoveredByRows, OperatorsByRows, CellsByRows}
use Rattle.psg_completions.proofs.RowValues.{one_sort, hole_sound}

module _ (def : Definition) (sound : IsSound def) where
  -- the ground instances of a hole row's term are its values
  of_instance : (kind : Kind) (r : ℕ) (row : HoleRow) (v : Term) → slice_get def.hole_rows r ≡ Some row
      → row.kind ≡ kind
      → IsGroundInstance def.signature (row.term ∷ []) (v ∷ []) → IsOfHoleRow def kind r v
  of_instance kind r row v chosen same (f, ground, e) =
      record { row = row; chosen = chosen; same = same; value = (f, ground, let q : v ∷ [] ≡ _ ∷ [] = e in cc) }

  to_instance : (kind : Kind) (r : ℕ) (row : HoleRow) (v : Term) → slice_get def.hole_rows r ≡ Some row
      → IsOfHoleRow def kind r v
      → IsGroundInstance def.signature (row.term ∷ []) (v ∷ [])
  to_instance kind r row v chosen h =
      let (f, ground, e) = h.value in
      let is : h.row ≡ row = (let q : Some h.row ≡ Some row = sym h.chosen ∙ chosen in cc) in
      subst (λ (x : HoleRow). IsGroundInstance def.signature (x.term ∷ []) (v ∷ [])) is
      (f, ground, (let q : v ≡ _ = e in cc))

  row_sorted : (kind : Kind) (s r : ℕ) (row : HoleRow) → HasKindSort def kind s → slice_get def.hole_rows r ≡ Some row
      → row.kind ≡ kind → HasSort def.signature row.term s
  row_sorted kind s r row of_kind chosen same =
      let whole = hole_sound def sound r row chosen in
      let is : whole.sort ≡ s =
      one_sort def kind whole.sort s (subst (λ k. HasKindSort def k whole.sort) same whole.kind_sort) of_kind in
      subst (HasSort def.signature row.term) is whole.term.0

  covered_by : (kind : Kind) {C : Type 0} (Takes : C → Term → Type 0) → IsCoveredByRows def kind Takes
  covered_by kind {C} Takes s of_kind rows relation = (there, back) where
    there : ((general : List Term) → IsIn general rows → IsCoveredBy def kind general) → (c : C)
        → ((v : Term) × Takes c v) → (r : ℕ) × ((v : Term) → Takes c v → IsOfHoleRow def kind r v)
    there all c (v, takes) =
        let (general, among, covers) = relation.covers c (v ∷ []) (v, refl, takes) in
        let (r, row, chosen, same, instance) = all general among in
        let shape = relation.shapes general among in
        let inside =
        (instance_exact def.signature sound.signature (row.term ∷ []) general (s ∷ [])
        (row_sorted kind s r row of_kind chosen same, tt) shape.sorted shape.canonical.written).0 instance in
        (r, λ u h. of_instance kind r row u chosen same (inside (u ∷ []) (covers (u ∷ []) (u, refl, h))))

    back : ((c : C) → ((v : Term) × Takes c v) → (r : ℕ) × ((v : Term) → Takes c v → IsOfHoleRow def kind r v))
        → (general : List Term) → IsIn general rows → IsCoveredBy def kind general
    back all general among =
        let shape = relation.shapes general among in
        let (columns, (v, are, takes)) = shape.some in
        let (r, each) = all shape.choice (v, takes) in
        let one = each v takes in (
          r,
          one.row,
          one.chosen,
          one.same,
          (instance_exact def.signature sound.signature (one.row.term ∷ []) general (s ∷ [])
              (row_sorted kind s r one.row of_kind one.chosen one.same, tt) shape.sorted shape.canonical.written).1
              (λ others instance. let (u, is, h) = (shape.exact others).0 instance in
              subst (IsGroundInstance def.signature (one.row.term ∷ [])) (sym is)
              (to_instance kind r one.row u one.chosen (each u h))),
        )

  pub operators_by_rows : OperatorsByRows def
  operators_by_rows op row = covered_by (kinds.Phylum op.phylum) (RowTakes def op row)

  pub cells_by_rows : CellsByRows def
  cells_by_rows l list row = covered_by (kinds.List l) (CellTakes def l list row)
