-- What hole rows, hole places and cell rows say of ground terms.
use Rattle.std.proofs.Common.{◌≡◌, inl, inr, ℕ, [], ◌∷◌, map, slice_get, Some, refl, ap, ap₂, sym, ◌∙◌, subst}
use Rattle.psg_terms.proofs.Lists.{each_at}
use Rattle.psg_terms.specs.Terms.{Term, variable, symbol, apply}
use Rattle.psg_terms.specs.Signature.{Signature, HasSort, HaveSorts}
use Rattle.psg_terms.specs.Instances.{Substitution, substitute, IsInstance, IsGround, IsGrounding}
use Rattle.psg_terms.specs.Canonical.{IsWrittenOut}
use Rattle.psg_terms.specs.Sound.{IsSound as IsSoundSignature}
use Rattle.psg_terms.proofs.Exact.{instance_exact}
use Rattle.psg_terms.proofs.OneConstant.{one_constant}
use Rattle.psg_grammar.specs.declared.types.Kind.{Kind}
use Rattle.psg_grammar.specs.declared.types.Kind.TheVariants as kinds
use Rattle.psg_grammar.specs.declared.types.Phylum.{Phylum}
use Rattle.psg_grammar.specs.declared.types.ListKind.{ListKind}
use Rattle.psg_grammar.specs.declared.types.SpecimenHole.{SpecimenHole}
use Rattle.psg_grammar.specs.declared.types.HoleRow.{HoleRow}
use Rattle.psg_grammar.specs.declared.types.Definition.{Definition}
use Rattle.psg_grammar.specs.Legal.{IsOfTerm}
use Rattle.psg_grammar.specs.Open.{IsOfHoleRow, IsOfCellRow}
use Rattle.psg_grammar.specs.Sound.{IsSound, IsHoleRow, IsHolePlace, IsRow, IsTermOf, HasKindSort}
use Rattle.psg_grammar.proofs.SoundParts.{list_sound}
use Rattle.psg_completions.specs.Places.{IsOfOneRow}
use Rattle.psg_completions.specs.Elements.{IsAbsent, IsClear}
use Rattle.psg_completions.proofs.Override.{override, override_same, override_cases, override_grounding}
use Rattle.psg_completions.proofs.Over.{sort_in}

-- the ground instances of an instance are those of the general term
pub instance_value : (sig : Signature) → IsSoundSignature sig → (general special : Term) (s : ℕ)
    → HasSort sig general s → HasSort sig special s → IsWrittenOut sig special
    → IsInstance (special ∷ []) (general ∷ []) → (f : Substitution) → IsGrounding sig f
    → IsOfTerm sig general (substitute f special)
instance_value sig sound general special s hg hs written is f ground =
    let (g, grounding, e) =
    (instance_exact sig sound (general ∷ []) (special ∷ []) (s ∷ []) (hg, tt) (hs, tt) (written, tt)).0 is
    (substitute f special ∷ []) (f, ground, refl) in
    (g, grounding, let q : substitute f special ∷ [] ≡ substitute g general ∷ [] = e in cc)

absent_same : (f : Substitution) (s n : ℕ) (u : Term) (t : Term) → IsAbsent s n t
    → substitute (override f s n u) t ≡ substitute f t
absent_same f s n u (variable r k) h = elim (override_cases f s n u r k) [ inl e ↦ absurd (h e) | inr e ↦ e ]
absent_same f s n u (symbol c) h = refl
absent_same f s n u (apply g a) (p, q) = ap₂ apply (absent_same f s n u g p) (absent_same f s n u a q)

module _ (def : Definition) where
  -- a kind has one sort
  pub one_sort : (k : Kind) (r s : ℕ) → HasKindSort def k r → HasKindSort def k s → r ≡ s
  one_sort (kinds.Phylum p) r s (a, e, d) (b, f, g) = let q : Some a ≡ Some b = sym e ∙ f in let c : a ≡ b = cc in
      sym d ∙ ap (λ (z : Phylum). z.sort.0) c ∙ g
  one_sort (kinds.List p) r s (a, e, d) (b, f, g) = let q : Some a ≡ Some b = sym e ∙ f in let c : a ≡ b = cc in
      sym d ∙ ap (λ (z : ListKind). z.sort.0) c ∙ g

  module _ (sound : IsSound def) where
    pub hole_sound : (r : ℕ) (row : HoleRow) → slice_get def.hole_rows r ≡ Some row → IsHoleRow def row
    hole_sound r row at = each_at (IsHoleRow def) def.hole_rows sound.hole_rows r row at

    -- the values of a hole place are of its hole row
    pub of_one_row : (place : SpecimenHole) (f : Substitution) → IsGrounding def.signature f → IsHolePlace def place
        → (o : IsOfOneRow def place) → IsOfHoleRow def place.kind o.number (substitute f place.term)
    of_one_row place f ground (s, of_kind, (sorted, written)) o =
        let row = hole_sound o.number o.row o.chosen in
        let same : row.sort ≡ s =
        one_sort place.kind row.sort s (subst (λ k. HasKindSort def k row.sort) o.same row.kind_sort) of_kind in
        record {
          row = o.row;
          chosen = o.chosen;
          same = o.same;
          value =
              instance_value def.signature sound.signature o.row.term place.term s
              (subst (HasSort def.signature o.row.term) same row.term.0) sorted written o.is f ground;
        }

    -- an element of the value leaves each value of the list
    pub keeps_value : (l : ℕ) (list : ListKind) (value : Term) (e : ℕ) (f : Substitution)
        → slice_get def.lists l ≡ Some list → HasKindSort def (kinds.Phylum list.element) e → IsTermOf def value e
        → IsGrounding def.signature f → IsClear def list value → (u : Term) → IsGround u
        → HasSort def.signature u list.sort.0 → (r : ℕ) × IsOfCellRow def l r u (substitute f value) u
    keeps_value l list value e f at of_kind (sorted, written) ground clear u gu su =
        let whole = list_sound def sound l list at in
        let row =
        each_at (IsRow def list.sort.0 (whole.element ∷ list.sort.0 ∷ [])) list.cell_rows whole.cells clear.number
        clear.row clear.chosen in
        let columns =
        subst (λ cs. HaveSorts def.signature cs (whole.element ∷ list.sort.0 ∷ [])) clear.columns row.of_columns in
        let same : whole.element ≡ e =
        one_sort (kinds.Phylum list.element) whole.element e whole.element_sort of_kind in
        let (g, grounding, is) =
        instance_value def.signature sound.signature clear.element value e
        (subst (HasSort def.signature clear.element) same columns.0) sorted written clear.is f ground in (
          clear.number,
          elim clear.rest_is [
            | inl (s, n, rest_is, absent) ↦
                let of_rest = subst (λ t. HasSort def.signature t list.sort.0) rest_is columns.1.0 in
                let t = override g s n u in
                let here : substitute (override g s n u) clear.rest ≡ u = ap (substitute (override g s n u)) rest_is
                ∙ override_same g s n u in
                let there : substitute (override g s n u) clear.element ≡ substitute f value =
                absent_same g s n u clear.element absent ∙ sym is in
                record {
                  kind = list;
                  list = at;
                  row = clear.row;
                  chosen = clear.chosen;
                  value = record {
                    terms = override g s n u;
                    grounding =
                        override_grounding def.signature g s n u grounding gu
                        (subst (HasSort def.signature u) (sym of_rest.2) su);
                    head = sym (ap (substitute (override g s n u)) clear.head ∙ here);
                    rest =
                        sym (ap (map (substitute (override g s n u))) clear.columns
                        ∙ ap₂ (λ a b. a ∷ b ∷ []) there here);
                  };
                }
            | inr (c, rest_is, only) ↦
                let here : substitute g clear.rest ≡ u =
                ap (substitute g) rest_is ∙ sym
                (one_constant def.signature sound.signature list.sort.0 c u
                (sort_in def.signature sound.signature u list.sort.0 gu su) only gu su) in
                record {
                  kind = list;
                  list = at;
                  row = clear.row;
                  chosen = clear.chosen;
                  value = record {
                    terms = g;
                    grounding = grounding;
                    head = sym (ap (substitute g) clear.head ∙ here);
                    rest = sym (ap (map (substitute g)) clear.columns ∙ ap₂ (λ a b. a ∷ b ∷ []) (sym is) here);
                  };
                }
          ],
        )
