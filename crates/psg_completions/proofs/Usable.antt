-- What true rows give of each case and of each declare row.
use Rattle.std.proofs.Common.{◌≡◌, ℕ, suc, List, [], ◌∷◌, map, slice_get, Some, sym, ◌∙◌, subst, refl}
use Rattle.psg_terms.proofs.Lists.{each_at, each_joined}
use Rattle.std.specs.List.{AllByRecursion}
use Rattle.psg_terms.specs.Terms.{Term}
use Rattle.psg_terms.specs.Signature.{HasSort}
use Rattle.psg_terms.specs.Instances.{Substitution, substitute, IsGround, IsGrounding}
use Rattle.psg_grammar.specs.declared.types.Kind.{Kind}
use Rattle.psg_grammar.specs.declared.types.Kind.TheVariants as kinds
use Rattle.psg_grammar.specs.declared.types.ListKind.{ListKind}
use Rattle.psg_grammar.specs.declared.types.SpecimenHole.{SpecimenHole}
use Rattle.psg_grammar.specs.declared.types.Specimen.{Specimen}
use Rattle.psg_grammar.specs.declared.types.Case.{Case}
use Rattle.psg_grammar.specs.declared.types.HoleRow.{HoleRow}
use Rattle.psg_grammar.specs.declared.types.DeclareRow.{DeclareRow}
use Rattle.psg_grammar.specs.declared.types.Definition.{Definition}
use Rattle.psg_grammar.specs.Regions.{declared_in, IsDistinct}
use Rattle.psg_grammar.specs.Legal.{IsOfTerm}
use Rattle.psg_grammar.specs.Open.{Choice, IsOfHoleRow, IsOfCellRow}
use Rattle.psg_grammar.specs.Specimens.{tree_of, holes_of}
use Rattle.psg_grammar.specs.Placed.{FitsPlaces}
use Rattle.psg_grammar.specs.Sound.{IsSound, IsCase, IsDeclareRow, IsHolePlace, kind_of, HasKindSort}
use Rattle.psg_completions.specs.Counts.{count}
use Rattle.psg_completions.specs.Places.{IsPart, IsOfOneRow}
use Rattle.psg_completions.specs.General.{it, terms_at, Shows}
use Rattle.psg_completions.specs.Conditions.{HasTrueRows}
use Rattle.psg_completions.proofs.Over.{split_of}
use Rattle.psg_completions.proofs.RowValues.{hole_sound, of_one_row, keeps_value}

-- what holds at each number holds of all
all_numbers : {X : Type 0} (P : X → Type 0) (xs : List X) → ((k : ℕ) (x : X) → slice_get xs k ≡ Some x → P x)
    → AllByRecursion P xs
all_numbers P [] h = tt
all_numbers P (x ∷ xs) h = (h 0 x refl, all_numbers P xs (λ k y e. h (suc k) y e))

module _ (def : Definition) where
  -- each value of the hole place is of one hole row of its kind
  abbrev pub IsFilled : SpecimenHole → Type 0
  IsFilled h =
      (r : ℕ) × ((f : Substitution) → IsGrounding def.signature f → IsOfHoleRow def h.kind r (substitute f h.term))

  pub record IsUsableCase (kind : Kind) (one : Case) : Type 0 where
    pub fits : FitsPlaces def ⊥ (tree_of one.specimen) [] kind (map (kind_of def) (holes_of one.specimen)) []
    pub distinct : IsDistinct def (tree_of one.specimen)
    pub smaller : AllByRecursion (λ (h : SpecimenHole). IsPart h.term one.term) (holes_of one.specimen)
    pub filled : AllByRecursion IsFilled (holes_of one.specimen)
    pub choice : Choice (tree_of one.specimen)
    pub general : (f : Substitution) → IsGrounding def.signature f
        → Shows def one.specimen choice (substitute f one.term) (terms_at f one.specimen)

  pub record IsUsableDeclare (d : DeclareRow) (list : ListKind) : Type 0 where
    pub fits : FitsPlaces def ⊥ (tree_of d.specimen) [] (kinds.Phylum list.element)
        (map (kind_of def) (holes_of d.specimen)) []
    pub distinct : IsDistinct def (tree_of d.specimen)
    pub filled : AllByRecursion IsFilled (holes_of d.specimen)
    pub choice : Choice (tree_of d.specimen)
    pub general : (f : Substitution) → IsGrounding def.signature f
        → (s : Shows def d.specimen choice (substitute f d.value) (terms_at f d.specimen))
        × (s.outside (it d.space) ≡ substitute f d.term)
    pub declares_it : count (it d.space) (declared_in def (tree_of d.specimen)) ≡ 1
    pub keeps : (f : Substitution) → IsGrounding def.signature f → (u : Term) → IsGround u
        → HasSort def.signature u list.sort.0
        → (r : ℕ) × IsOfCellRow def d.list r u (substitute f d.value) u

  module _ (sound : IsSound def) (true_rows : HasTrueRows def) where
    filled_places : (s : Specimen) → AllByRecursion (IsHolePlace def) (holes_of s)
        → AllByRecursion (IsOfOneRow def) (holes_of s) → AllByRecursion IsFilled (holes_of s)
    filled_places s places open_places =
        each_joined (IsHolePlace def) (IsOfOneRow def) IsFilled
        (λ h place o. (o.number, λ f ground. of_one_row def sound h f ground place o)) (holes_of s) places open_places

    pub usable_case : (r : ℕ) (row : HoleRow) → slice_get def.hole_rows r ≡ Some row → (c : ℕ) (one : Case)
        → slice_get row.cases c ≡ Some one → IsUsableCase row.kind one
    usable_case r row at c one chosen =
        let whole = hole_sound def sound r row at in
        let specimen = (each_at (IsCase def row.kind whole.sort) row.cases whole.each_case c one chosen).specimen in
        let general = true_rows.general_cases r row at c one chosen in
        record {
          fits = specimen.fits;
          distinct = general.distinct;
          smaller =
              all_numbers (λ (h : SpecimenHole). IsPart h.term one.term) (holes_of one.specimen)
              (true_rows.smaller r row at c one chosen);
          filled =
              filled_places one.specimen specimen.places
              (all_numbers (IsOfOneRow def) (holes_of one.specimen) (true_rows.open_places.0 r row at c one chosen));
          choice = general.choice;
          general = general.general;
        }

    pub usable_declare : (k : ℕ) (d : DeclareRow) (list : ListKind) → slice_get def.declare_rows k ≡ Some d
        → slice_get def.lists d.list ≡ Some list → IsUsableDeclare d list
    usable_declare k d list at of_list =
        let whole = each_at (IsDeclareRow def) def.declare_rows sound.declare_rows k d at in
        let same : whole.list ≡ list = (let q : Some whole.list ≡ Some list = sym whole.list_is ∙ of_list in cc) in
        let general = true_rows.general_declares k d at in
        record {
          fits =
              subst (λ (l : ListKind). FitsPlaces def ⊥ (tree_of d.specimen) [] (kinds.Phylum l.element)
              (map (kind_of def) (holes_of d.specimen)) []) same whole.specimen.fits;
          distinct = general.distinct;
          filled =
              filled_places d.specimen whole.specimen.places
              (all_numbers (IsOfOneRow def) (holes_of d.specimen) (true_rows.open_places.1 k d at));
          choice = general.choice;
          general = general.general;
          declares_it = true_rows.declares k d at;
          keeps = λ f ground u gu su. keeps_value def sound d.list list d.value whole.element f of_list
              (subst (λ (l : ListKind). HasKindSort def (kinds.Phylum l.element) whole.element) same
              whole.element_sort) whole.value ground (true_rows.clear k d at list of_list) u gu su;
        }

    -- the cases of a hole row miss no value of it
    pub case_of : (r : ℕ) (row : HoleRow) → slice_get def.hole_rows r ≡ Some row → (v : Term)
        → IsOfTerm def.signature row.term v
        → (c : ℕ) × (one : Case) × (slice_get row.cases c ≡ Some one) × IsOfTerm def.signature one.term v
    case_of r row at v h = let whole = hole_sound def sound r row at in
        split_of def.signature sound.signature row v whole.sort (true_rows.cases r row at) whole.term.0 h
