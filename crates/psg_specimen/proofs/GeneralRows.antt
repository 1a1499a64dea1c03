-- Whether a row is general enough, by some columns of the rows of a relation.
use Rattle.std.proofs.Common.{◌≡◌, ◌↔◌, ℕ, List, map, refl, sym, subst}
use Rattle.psg_terms.specs.Terms.{Term}
use Rattle.psg_terms.specs.Signature.{Signature, HaveSorts}
use Rattle.psg_terms.specs.Sound.{IsSound}
use Rattle.psg_terms.specs.Instances.{Substitution, substitute, IsGrounding, IsGroundInstance}
use Rattle.psg_terms.specs.Canonical.{AreWrittenOut}
use Rattle.psg_terms.specs.Relations.{IsRelation}
use Rattle.psg_terms.proofs.Separate.{grounding}
use Rattle.psg_terms.proofs.SoundChoices.{choices}
use Rattle.psg_terms.proofs.Exact.{instance_exact}
use Rattle.psg_relation.specs.Choices.{picked}
use Rattle.psg_relation.proofs.Columns.{picked-sorts, picked_ground}
use Rattle.psg_specimen.specs.Shown.{IsRowShown}

-- some terms for all variables
abbrev pub usual_terms : (sig : Signature) → IsSound sig → Substitution
usual_terms sig sound s n = (choices sig sound).some s

module _ (sig : Signature) (sound : IsSound sig) (sorts : List ℕ) {C : Type 0} (Possible : C → List Term → Type 0) where
  -- the columns of what is possible for the choice
  abbrev pub IsPicked : List ℕ → C → List Term → Type 0
  IsPicked keep c columns = (full : List Term) × Possible c full × (columns ≡ picked full keep)

  -- A row is an instance of these columns of a row of the relation exactly where all its ground instances are such columns, by
  -- one choice. So nothing is projected, and no limit is met.
  pub general_by_columns : (rows : List (List Term)) → IsRelation sig sorts Possible rows → (keep : List ℕ) (row : List Term) → HaveSorts sig row (picked sorts keep) → AreWrittenOut sig row
      → IsRowShown rows keep row ↔ ((c : C) × ((f : Substitution) → IsGrounding sig f → IsPicked keep c (map (substitute f) row)))
  general_by_columns rows rel keep row hr written = (
    (λ (general, among, instance). let shape = rel.shapes general among in (
      shape.choice,
      λ f ground.
          let all = (instance_exact sig sound (picked general keep) row (picked sorts keep) (picked-sorts sig general sorts keep shape.sorted) hr written).0 instance in
          let (full, g, e) = (picked_ground sig general keep (map (substitute f) row)).0 (all (map (substitute f) row) (f, ground, refl)) in
          (full, (shape.exact full).0 g, e),
    )),
    (λ (c, all).
        let (one, possible, _) = all (usual_terms sig sound) (grounding sig (choices sig sound)) in
        let (general, among, covers) = rel.covers c one possible in
        let shape = rel.shapes general among in (
          general,
          among,
          (instance_exact sig sound (picked general keep) row (picked sorts keep) (picked-sorts sig general sorts keep shape.sorted) hr written).1
              (λ columns (f, ground, e). let (full, p, d) = all f ground in subst (IsGroundInstance sig (picked general keep)) (sym e) ((picked_ground sig general keep (map (substitute f) row)).1 (full, covers full p, d))),
        )),
  )
