-- Nil rows and the hole rows of their lists.
use Rattle.std.proofs.Common.{◌≡◌, inl, inr, ℕ, ◌<◌, ◌^◌, [], ◌∷◌, length, Some, slice_get, refl, sym, ap, ◌∙◌, subst, arith}
use Rattle.std.proofs.lemmas.Bool.{cases_lt}
use Rattle.std.proofs.lemmas.Option.{slice_get_within}
use Rattle.psg_terms.proofs.Lists.{each_at, slice_get_once}
use Rattle.psg_terms.specs.Terms.{Term}
use Rattle.psg_terms.specs.Signature.{HasSort}
use Rattle.psg_terms.specs.Instances.{substitute, IsGroundInstance}
use Rattle.psg_terms.proofs.Exact.{instance_exact}
use Rattle.psg_terms.proofs.Separate.{grounding}
use Rattle.psg_terms.proofs.SoundChoices.{choices}
use Rattle.psg_grammar.specs.declared.types.Kind.TheVariants as kinds
use Rattle.psg_grammar.specs.declared.types.ListKind.{ListKind}
use Rattle.psg_grammar.specs.declared.types.HoleRow.{HoleRow}
use Rattle.psg_grammar.specs.declared.types.Definition.{Definition}
use Rattle.psg_grammar.specs.Sound.{IsSound, IsTermOf, HasKindSort}
use Rattle.psg_grammar.proofs.SoundParts.{list_sound}
use Rattle.psg_completions.specs.Covered.{IsCoveredNil}
use Rattle.psg_completions.specs.Places.{IsOfOneRow}
use Rattle.psg_completions.proofs.RowValues.{hole_sound, of_one_row, one_sort}
use Rattle.psg_specimen.specs.Refusal.{IsFirstOfTwo}
use Rattle.psg_specimen.specs.Walks.{Finds}
use Rattle.psg_specimen.specs.Wanted.{as_place}
use Rattle.psg_covering.proofs.Firsts.{At}

module _ (def : Definition) (sound : IsSound def) where
  -- the term is an instance of a hole row of the list
  abbrev pub Serves : ℕ → Term → Type 0
  Serves l row = IsOfOneRow def (as_place (kinds.List l) row)

  nil_term : (l k : ℕ) (list : ListKind) (row : Term) → slice_get def.lists l ≡ Some list → slice_get list.nil_rows k ≡ Some row → IsTermOf def row list.sort.0
  nil_term l k list row at there = each_at (λ t. IsTermOf def t list.sort.0) list.nil_rows (list_sound def sound l list at).nils k row there

  nil_of : (l k : ℕ) (list : ListKind) → slice_get def.lists l ≡ Some list → At list.nil_rows (Serves l) k → IsCoveredNil def l k
  nil_of l k list at h other found row there =
      let same : other ≡ list = slice_get_once def.lists l other list found at in
      let own = ap (λ (x : ListKind). slice_get x.nil_rows k) (sym same) ∙ there in
      let o = h row own in
      (o.number, λ f ground. of_one_row def sound (as_place (kinds.List l) row) f ground (list.sort.0, (list, at, refl), nil_term l k list row at own) o)

  of_nil : (l k : ℕ) (list : ListKind) → slice_get def.lists l ≡ Some list → IsCoveredNil def l k → At list.nil_rows (Serves l) k
  of_nil l k list at covered row there =
      let sig = def.signature in
      let (r, holds) = covered list at row there in
      let one = holds (λ s n. (choices sig sound.signature).some s) (grounding sig (choices sig sound.signature)) in
      let whole = hole_sound def sound r one.row one.chosen in
      let sorted : whole.sort ≡ list.sort.0 = one_sort def (kinds.List l) whole.sort list.sort.0 (subst (λ k. HasKindSort def k whole.sort) one.same whole.kind_sort) (list, at, refl) in
      let term = nil_term l k list row at there in
      record {
        number = r;
        row = one.row;
        chosen = one.chosen;
        same = one.same;
        is = (instance_exact sig sound.signature (one.row.term ∷ []) (row ∷ []) (list.sort.0 ∷ []) (subst (HasSort sig one.row.term) sorted whole.term.0, tt) (term.0, tt) (term.1, tt)).1
            (λ others instance.
            let (f, ground, e) = instance in
            let value = holds f ground in
            let (g, grounded, is) = value.value in
            let same_row : value.row ≡ one.row = slice_get_once def.hole_rows r value.row one.row value.chosen one.chosen in
            subst (IsGroundInstance sig (one.row.term ∷ [])) (sym e) (g, grounded, ap (λ t. t ∷ []) (is ∙ ap (λ (x : HoleRow). substitute g x.term) same_row)));
      }

  pub nils_held : (l : ℕ) (list : ListKind) → slice_get def.lists l ≡ Some list → ((k : ℕ) → At list.nil_rows (Serves l) k) → (k : ℕ) → IsCoveredNil def l k
  nils_held l list at h k = nil_of l k list at (h k)

  pub nil_first : (l k : ℕ) (list : ListKind) → slice_get def.lists l ≡ Some list → Finds (At list.nil_rows (Serves l)) (Some k) → ((m : ℕ) → m < l → (j : ℕ) → IsCoveredNil def m j) → IsFirstOfTwo (IsCoveredNil def) l k
  nil_first l k list at found before = (
    λ c. found.0 (of_nil l k list at c),
    λ m j b. elim b [
      | inl less ↦ before m less j
      | inr eq ↦ subst (λ x. IsCoveredNil def x j) (sym eq.0) (nil_of l j list at (found.1 j eq.1))
    ],
  )

  pub nil_none : ((m : ℕ) → m < length def.lists → (j : ℕ) → IsCoveredNil def m j) → (l k : ℕ) → IsCoveredNil def l k
  nil_none before l k list at = before l (slice_get_within def.lists l list at) k list at

  -- the numbers of the list and of the row are those of things that are there
  pub nil_list_in : (l k : ℕ) → (IsCoveredNil def l k → ⊥) → l < length def.lists
  nil_list_in l k fails = elim (cases_lt l (length def.lists)) [
    | inl lt ↦ lt
    | inr le ↦ absurd (fails (λ list at. absurd (let lt = slice_get_within def.lists l list at in omega (arith, le, lt))))
  ]

  pub nil_row_in : (l k : ℕ) → (IsCoveredNil def l k → ⊥) → k < 2 ^ 32
  nil_row_in l k fails = elim (cases_lt k (2 ^ 32)) [
    | inl lt ↦ lt
    | inr le ↦ absurd (fails (λ list at row there. absurd (
        let lt = slice_get_within list.nil_rows k row there in
        let few = (list_sound def sound l list at).few_nils in omega (arith, le, lt, few))))
  ]
