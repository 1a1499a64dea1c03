-- One slot more, and the two ends of the search.
use Rattle.std.proofs.Common.{◌≡◌, ◌⊎◌, inl, inr, ℕ, List, [], ◌∷◌, map, refl, ap, sym, ◌∙◌, subst, Option, Some, None, slice_get}
use Rattle.std.proofs.lemmas.Bool.Decides.{eqb_tells}
use Rattle.std.proofs.lemmas.Option.{none-some}
use Rattle.psg_terms.specs.Terms.{Term}
use Rattle.psg_terms.specs.Signature.{HasSort, HaveSorts}
use Rattle.psg_terms.specs.Instances.{Substitution, substitute, IsGroundInstance}
use Rattle.psg_terms.proofs.Separate.{grounding}
use Rattle.psg_terms.proofs.SoundChoices.{choices}
use Rattle.psg_terms.proofs.Exact.{instance_exact}
use Rattle.psg_grammar.specs.declared.types.Kind.{Kind}
use Rattle.psg_grammar.specs.declared.types.Kind.TheVariants as kinds
use Rattle.psg_grammar.specs.declared.types.HoleRow.{HoleRow}
use Rattle.psg_grammar.specs.declared.types.Definition.{Definition}
use Rattle.psg_grammar.specs.Open.{IsOfHoleRow}
use Rattle.psg_grammar.specs.Sound.{IsSound, HasKindSort}
use Rattle.psg_completions.proofs.RowValues.{hole_sound, one_sort}
use Rattle.psg_covering.specs.Choices.{Fits, HasCover, IsCovered, IsCoveredFor, IsRowOf, KindsHold}
use Rattle.psg_covering.specs.Fronts.{IsChosen, IsNone}

phylum_cases : (p q : ℕ) → (kinds.Phylum p ≡ kinds.Phylum q) ⊎ (kinds.Phylum p ≡ kinds.Phylum q → ⊥)
phylum_cases p q = elim (eqb_tells p q) [
  | inl e ↦ inl (ap kinds.Phylum e.1)
  | inr n ↦ inr (λ e. n.1 (let d : kinds.Phylum p ≡ kinds.Phylum q = e in cc))
]

list_cases : (p q : ℕ) → (kinds.List p ≡ kinds.List q) ⊎ (kinds.List p ≡ kinds.List q → ⊥)
list_cases p q = elim (eqb_tells p q) [
  | inl e ↦ inl (ap kinds.List e.1)
  | inr n ↦ inr (λ e. n.1 (let d : kinds.List p ≡ kinds.List q = e in cc))
]

pub kind_cases : (a b : Kind) → (a ≡ b) ⊎ (a ≡ b → ⊥)
kind_cases (kinds.Phylum p) (kinds.Phylum q) = phylum_cases p q
kind_cases (kinds.List p) (kinds.List q) = list_cases p q
kind_cases (kinds.Phylum p) (kinds.List q) = inr (λ e. cc)
kind_cases (kinds.List p) (kinds.Phylum q) = inr (λ e. cc)

module _ (def : Definition) where
  -- the value is of a hole row exactly where it is a ground instance of its term
  of_row : (k : Kind) (r : ℕ) (h : HoleRow) (u : Term) → slice_get def.hole_rows r ≡ Some h → IsOfHoleRow def k r u
      → (h.kind ≡ k) × IsGroundInstance def.signature (h.term ∷ []) (u ∷ [])
  of_row k r h u at is =
      let same : is.row ≡ h = (let q : Some is.row ≡ Some h = sym is.chosen ∙ at in cc) in
      let (f, ground, e) = is.value in (
        subst (λ (x : HoleRow). x.kind ≡ k) same is.same,
        (f, ground, ap (λ t. t ∷ []) (e ∙ ap (λ (x : HoleRow). substitute f x.term) same)),
      )

  to_row : (k : Kind) (r : ℕ) (h : HoleRow) (u : Term) → IsRowOf def k r h
      → IsGroundInstance def.signature (h.term ∷ []) (u ∷ []) → IsOfHoleRow def k r u
  to_row k r h u (at, same) (f, ground, e) = record {
    row = h;
    chosen = at;
    same = same;
    value = (f, ground, (let q : u ∷ [] ≡ substitute f h.term ∷ [] = e in cc));
  }

  no_rows : (k : Kind) (ks : List Kind) (us : List Term) → KindsHold def (k ∷ ks) us [] → ⊥
  no_rows k ks [] h = h
  no_rows k ks (u ∷ us) h = h

  -- ---- one slot more

  pub choices_covered : (kind k : Kind) (ks : List Kind) (row : List Term)
      → ((r : ℕ) (h : HoleRow) → IsRowOf def k r h → IsCoveredFor def kind ks row h) → IsCovered def kind (k ∷ ks) row
  choices_covered kind k ks row each [] = (0, λ v us g hold. absurd (no_rows k ks us hold))
  choices_covered kind k ks row each (r ∷ rs) = by (slice_get def.hole_rows r) refl where
    by : (o : Option HoleRow) → slice_get def.hole_rows r ≡ o → (q : ℕ) × ((v : Term) (us : List Term)
        → IsGroundInstance def.signature row (v ∷ us) → KindsHold def (k ∷ ks) us (r ∷ rs) → IsOfHoleRow def kind q v)
    by None at = (0, λ v us g hold. absurd (missing us hold)) where
      missing : (us : List Term) → KindsHold def (k ∷ ks) us (r ∷ rs) → ⊥
      missing [] hold = hold
      missing (u ∷ us) (is, _) = none-some is.row (sym at ∙ is.chosen)
    by (Some h) at = elim (kind_cases h.kind k) [
      | inr n ↦ (0, λ v us g hold. absurd (other us hold n))
      | inl same ↦ let (q, all) = each r h (at, same) rs in (q, λ v us g hold. found q all v us g hold)
    ] where
      other : (us : List Term) → KindsHold def (k ∷ ks) us (r ∷ rs) → (h.kind ≡ k → ⊥) → ⊥
      other [] hold n = hold
      other (u ∷ us) (is, _) n = n (of_row k r h u at is).0

      found : (q : ℕ) → ((v w : Term) (us : List Term) → IsGroundInstance def.signature row (v ∷ w ∷ us)
          → IsGroundInstance def.signature (h.term ∷ []) (w ∷ []) → KindsHold def ks us rs → IsOfHoleRow def kind q v)
          → (v : Term) (us : List Term) → IsGroundInstance def.signature row (v ∷ us)
          → KindsHold def (k ∷ ks) us (r ∷ rs) → IsOfHoleRow def kind q v
      found q all v [] g hold = absurd hold
      found q all v (u ∷ us) g (is, hold) = all v u us g (of_row k r h u at is).1 hold

  pub covered_choice : (kind k : Kind) (ks : List Kind) (row : List Term) (r : ℕ) (h : HoleRow) → IsRowOf def k r h
      → IsCovered def kind (k ∷ ks) row → IsCoveredFor def kind ks row h
  covered_choice kind k ks row r h of covered rs =
      let (q, all) = covered (r ∷ rs) in
      (q, λ v w us g gh hold. all v (w ∷ us) g (to_row k r h w of gh, hold))

  -- ---- what is made for one hole row

  pub none_covered : (kind : Kind) (ks : List Kind) (row : List Term) (h : HoleRow) → IsNone def row h
      → IsCoveredFor def kind ks row h
  none_covered kind ks row h none rs = (0, λ v w us g gh hold. absurd (none v w us g gh))

  pub made_covered : (kind : Kind) (ks : List Kind) (row made : List Term) (h : HoleRow) → IsChosen def row h made
      → IsCovered def kind ks made → IsCoveredFor def kind ks row h
  made_covered kind ks row made h chosen covered rs =
      let (q, all) = covered rs in
      (q, λ v w us g gh hold. all v us ((chosen v us).1 (w, g, gh)) hold)

  pub covered_made : (kind : Kind) (ks : List Kind) (row made : List Term) (h : HoleRow) → IsChosen def row h made
      → IsCoveredFor def kind ks row h → IsCovered def kind ks made
  covered_made kind ks row made h chosen covered rs =
      let (q, all) = covered rs in
      (q, λ v us g hold. let (w, gr, gh) = (chosen v us).0 g in all v w us gr gh hold)

  module _ (sound : IsSound def) where
    -- ---- where the head is an instance of a hole row, nothing is left to choose

    hole_sort : (kind : Kind) (s r : ℕ) (h : HoleRow) → HasKindSort def kind s → IsRowOf def kind r h
        → HaveSorts def.signature (h.term ∷ []) (s ∷ [])
    hole_sort kind s r h of_kind (at, same) =
        let whole = hole_sound def sound r h at in
        let e : whole.sort ≡ s =
        one_sort def kind whole.sort s (subst (λ k. HasKindSort def k whole.sort) same whole.kind_sort) of_kind in
        (subst (HasSort def.signature h.term) e whole.term.0, tt)

    pub cover_covers : (kind : Kind) (ks : List Kind) (head : Term) (columns : List Term)
        → Fits def kind ks (head ∷ columns) → HasCover def kind head → IsCovered def kind ks (head ∷ columns)
    cover_covers kind ks head columns fits (r, h, of, instance) rs = (
      r,
      λ v us (f, ground, e) hold.
          let all = (instance_exact def.signature sound.signature (h.term ∷ []) (head ∷ []) (fits.head ∷ [])
          (hole_sort kind fits.head r h fits.of_head of) (fits.sorted.0, tt) (fits.written.0, tt)).0 instance in
          to_row kind r h v of (all (v ∷ []) (
            f,
            ground,
            (let q : v ∷ us ≡ substitute f head ∷ map (substitute f) columns = e in
                let d : v ≡ substitute f head = cc in ap (λ t. t ∷ []) d),
          )),
    )

    -- ---- at the end only a cover covers

    pub last_covered : (kind : Kind) (head : Term) → Fits def kind [] (head ∷ []) → IsCovered def kind [] (head ∷ [])
        → HasCover def kind head
    last_covered kind head fits covered =
        let sig = def.signature in
        let usual : Substitution = λ t n. (choices sig sound.signature).some t in
        let (r, all) = covered [] in
        let is = all (substitute usual head) [] (usual, grounding sig (choices sig sound.signature), refl) tt in (
          r,
          is.row,
          (is.chosen, is.same),
          (instance_exact sig sound.signature (is.row.term ∷ []) (head ∷ []) (fits.head ∷ [])
              (hole_sort kind fits.head r is.row fits.of_head (is.chosen, is.same)) (fits.sorted.0, tt) (fits.written.0, tt)).1
              (λ x (f, ground, e). subst (IsGroundInstance sig (is.row.term ∷ [])) (sym e)
              (of_row kind r is.row (substitute f head) is.chosen (all (substitute f head) [] (f, ground, refl) tt)).1),
        )
