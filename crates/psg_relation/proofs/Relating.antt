-- The kept rows are the relation of all rows, and what is told where the limit is passed.
use Rattle.std.proofs.Common.{◌≡◌, ℕ, ◌+◌, ◌<◌, ◌↔◌, ◌⊎◌, inl, inr, List, [], ◌∷◌, map, refl, ap₂, sym, ◌∙◌, subst, Some, None}
use Rattle.std.specs.Prelude.{sum_by}
use Rattle.std.proofs.lemmas.List.Sums.{sum_by-cons}
use Rattle.psg_terms.specs.Terms.{Term, variable, symbol, apply}
use Rattle.psg_terms.specs.Signature.{Signature, HaveSorts, only_constructor}
use Rattle.psg_terms.specs.Sound.{IsSound}
use Rattle.psg_terms.specs.Instances.{Substitution, substitute, AllGroundInstancesIn}
use Rattle.psg_terms.specs.Canonical.{Variable, IsCanonical, AreWrittenOut, noted_all, variables_of}
use Rattle.psg_terms.specs.Renaming.{opens, numbering, written, place, Renumbered}
use Rattle.psg_terms.specs.Relations.{IsIn, IsRelation}
use Rattle.psg_terms.specs.Text.{IsInTextOrder}
use Rattle.psg_terms.specs.Weight.{symbols_of, depth_of, PassesLimit}
use Rattle.psg_terms.proofs.CanonicalLaws.{same_ground-equal}
use Rattle.psg_terms.proofs.Exact.{instance_exact}
use Rattle.psg_terms.proofs.Renumbering.{renumbered_canonical, renumbered_same}
use Rattle.psg_terms.proofs.Separate.{grounding}
use Rattle.psg_terms.proofs.SoundChoices.{choices}
use Rattle.psg_relation.specs.Choices.{AllHaveSorts, IsOfRow}
use Rattle.psg_relation.specs.Heavy.{deepest_in, IsHeavy}
use Rattle.psg_relation.specs.Sealed.{AllReady}
use Rattle.psg_relation.specs.Sifted.{IsCovered, IsSifted, IsLightly, LosesHeavy}
use Rattle.psg_relation.proofs.Weights.{heavy_passes, some_pass}

-- families of sets of rows with the same sets have the same relations
module _ (sig : Signature) (sorts : List ℕ) {C D : Type 0} (P : C → List Term → Type 0) (Q : D → List Term → Type 0)
    (there : (c : C) (columns : List Term) → P c columns → (d : D) × ((x : List Term) → P c x ↔ Q d x))
    (back : (d : D) (columns : List Term) → Q d columns → (c : C) × ((x : List Term) → P c x ↔ Q d x)) where
  pub carried : (rows : List (List Term)) → IsRelation sig sorts P rows → IsRelation sig sorts Q rows
  carried rows rel = record {
    shapes = λ row h.
        let s = rel.shapes row h in
        let (d, both) = there s.choice s.some.0 s.some.1 in
        record {
          canonical = s.canonical;
          sorted = s.sorted;
          choice = d;
          some = (s.some.0, (both s.some.0).0 s.some.1);
          exact = λ x. (λ g. (both x).0 ((s.exact x).0 g), λ q. (s.exact x).1 ((both x).1 q));
        };
    covers = λ d columns q.
        let (c, both) = back d columns q in
        let (k, h, all) = rel.covers c columns ((both columns).1 q) in
        (k, h, λ x r. all x ((both x).1 r));
    apart = rel.apart;
    once = rel.once;
    order = rel.order;
  }

-- new numbers change nope size
module _ (sig : Signature) (base : ℕ) (known : List Variable) where
  abbrev numbered : Substitution
  numbered = numbering sig base known

  same_symbols : (t : Term) → symbols_of (substitute numbered t) ≡ symbols_of t
  same_symbols (variable s n) = elim (only_constructor sig s) as (λ o. symbols_of (written o (variable s (base + place (s, n) known + 1))) ≡ 1) [ None ↦ refl | Some c ↦ refl ]
  same_symbols (symbol c) = refl
  same_symbols (apply f a) = ap₂ (λ m n. m + n) (same_symbols f) (same_symbols a)

  same_depth : (t : Term) → depth_of (substitute numbered t) ≡ depth_of t
  same_depth (variable s n) = elim (only_constructor sig s) as (λ o. depth_of (written o (variable s (base + place (s, n) known + 1))) ≡ 1) [ None ↦ refl | Some c ↦ refl ]
  same_depth (symbol c) = refl
  same_depth (apply f a) = let e = same_depth f in let d = same_depth a in cc

  same_weight : (row : List Term) → sum_by symbols_of (map (substitute numbered) row) ≡ sum_by symbols_of row
  same_weight [] = refl
  same_weight (t ∷ row) = sum_by-cons symbols_of (substitute numbered t) (map (substitute numbered) row) ∙ ap₂ (λ m n. m + n) (same_symbols t) (same_weight row) ∙ sym (sum_by-cons symbols_of t row)

  same_deepest : (row : List Term) → deepest_in (map (substitute numbered) row) ≡ deepest_in row
  same_deepest [] = refl
  same_deepest (t ∷ row) = let e = same_depth t in let d = same_deepest row in cc

heavy-along : (a b : List Term) → sum_by symbols_of a ≡ sum_by symbols_of b → deepest_in a ≡ deepest_in b → IsHeavy b → IsHeavy a
heavy-along a b e d (inl h) = inl (subst (λ n. 16384 < n) (sym e) h)
heavy-along a b e d (inr h) = inr (subst (λ n. 1000 < n) (sym d) h)

module _ (sig : Signature) (sound : IsSound sig) where
  abbrev usual : Substitution
  usual s n = (choices sig sound).some s

  -- the canonical row with the ground instances of a heavy row is heavy
  pub same_heavy : (row canonical : List Term) (sorts : List ℕ) → HaveSorts sig row sorts → HaveSorts sig canonical sorts → IsCanonical sig canonical → AllGroundInstancesIn sig row canonical → AllGroundInstancesIn sig canonical row → IsHeavy row → IsHeavy canonical
  same_heavy row canonical sorts hr hc c to back heavy =
      let known = noted_all [] (opens sig (variables_of row)) in
      let copy : List Term = map (substitute (numbering sig 0 known)) row in
      let made : Renumbered sig 0 [] known row copy = record { known = refl; made = refl } in
      let same = renumbered_same sig sound 0 [] known row copy sorts hr made in
      let e : canonical ≡ copy = same_ground-equal sig sound canonical copy sorts hc same.2 c (renumbered_canonical sig sound known row copy made)
      (λ x g. same.0 x (back x g)) (λ x g. to x (same.1 x g)) in
      subst IsHeavy (sym e) (heavy-along copy row (same_weight sig 0 known row) (same_deepest sig 0 known row) heavy)

  module _ (rows : List (List Term)) (sorts : List ℕ) (sorted : AllHaveSorts sig rows sorts) where
    ground : (row : List Term) → IsIn row rows → IsOfRow sig rows row (map (substitute usual) row)
    ground row h = (h, (usual, grounding sig (choices sig sound), refl))

    module _ (written : (row : List Term) → IsIn row rows → AreWrittenOut sig row) where
      -- the kept rows are the relation
      pub sifted_relation : (kept : List (List Term)) → IsSifted rows kept → ((k : List Term) → IsIn k kept → IsCanonical sig k) → IsInTextOrder sig kept → IsRelation sig sorts (IsOfRow sig rows) kept
      sifted_relation kept s canonical order = record {
        shapes = λ k h. let there = s.among k h in record {
          canonical = canonical k h;
          sorted = sorted k there;
          choice = k;
          some = (map (substitute usual) k, ground k there);
          exact = λ columns. (λ g. (there, g), λ p. p.1);
        };
        covers = λ row columns p.
            let (k, h, i) = s.covers row p.0 in
            (k, h, λ x q. (instance_exact sig sound k row sorts (sorted k (s.among k h)) (sorted row p.0) (written row p.0)).0 i x q.1);
        apart = s.apart;
        once = s.once;
        order = order;
      }

      -- each relation of the rows has the kept ones
      pub sifted_in : (kept : List (List Term)) → IsSifted rows kept → ((k : List Term) → IsIn k kept → IsCanonical sig k) → (others : List (List Term)) → IsRelation sig sorts (IsOfRow sig rows) others → (k : List Term) → IsIn k kept → IsIn k others
      sifted_in kept s canonical others rel k h =
          let there = s.among k h in
          let (m, g, all) = rel.covers k (map (substitute usual) k) (ground k there) in
          let shape = rel.shapes m g in
          let chosen = shape.some.1.0 in
          let (o, ho, i) = s.covers shape.choice chosen in
          let up : AllGroundInstancesIn sig m o = λ x gx. (instance_exact sig sound o shape.choice sorts (sorted o (s.among o ho)) (sorted shape.choice chosen) (written shape.choice chosen)).0 i x ((shape.exact x).0 gx).1 in
          let down : AllGroundInstancesIn sig k m = λ x gx. all x (there, gx) in
          let e : k ≡ o = s.apart k o h ho ((instance_exact sig sound o k sorts (sorted o (s.among o ho)) (sorted k there) (written k there)).1 (λ x gx. up x (down x gx))) in
          let same : m ≡ k = same_ground-equal sig sound m k sorts shape.sorted (sorted k there) shape.canonical (canonical k h) (subst (AllGroundInstancesIn sig m) (sym e) up) down in
          subst (λ z. IsIn z others) same g

      -- a heavy row that nope kept one covers
      pub heavy_wide : (light kept : List (List Term)) → IsSifted light kept → ((row : List Term) → IsIn row light → IsIn row rows) → ((row : List Term) → IsIn row rows → IsIn row light ⊎ IsHeavy row)
          → (row : List Term) → IsIn row rows → (IsCovered kept row → ⊥) → (others : List (List Term)) → IsRelation sig sorts (IsOfRow sig rows) others → PassesLimit others
      heavy_wide light kept s among split row h nope others rel =
          let (m, g, all) = rel.covers row (map (substitute usual) row) (ground row h) in
          let shape = rel.shapes m g in
          let chosen = shape.some.1.0 in
          let c : List Term = shape.choice in
          elim (split c chosen) [
            | inl l ↦
                let (k, hk, i) = s.covers c l in
                let hs = sorted k (among k (s.among k hk)) in
                absurd (nope (
                  k,
                  hk,
                  (instance_exact sig sound k row sorts hs (sorted row h) (written row h)).1
                      (λ x gx. (instance_exact sig sound k c sorts hs (sorted c chosen) (written c chosen)).0 i x ((shape.exact x).0 (all x (h, gx))).1),
                ))
            | inr heavy ↦ heavy_passes m others g
                (same_heavy c m sorts (sorted c chosen) shape.sorted shape.canonical (λ x gx. (shape.exact x).1 (chosen, gx)) (λ x gx. ((shape.exact x).0 gx).1) heavy)
          ]

-- kept rows that are not too large are canonical
pub lightly_canonical : (sig : Signature) (rows kept : List (List Term)) → AllReady sig rows → IsLightly rows kept → (k : List Term) → IsIn k kept → IsCanonical sig k
lightly_canonical sig rows kept ready l k h = (ready k (l.sifted.among k h)).canonical (l.lights k h)

module _ (sig : Signature) (sound : IsSound sig) (rows : List (List Term)) (ready : AllReady sig rows) where
  all_written : (row : List Term) → IsIn row rows → AreWrittenOut sig row
  all_written row h = (ready row h).written

  pub lightly_relation : (kept : List (List Term)) → IsLightly rows kept → IsInTextOrder sig kept → (sorts : List ℕ) → AllHaveSorts sig rows sorts → IsRelation sig sorts (IsOfRow sig rows) kept
  lightly_relation kept l order sorts sorted = sifted_relation sig sound rows sorts sorted all_written kept l.sifted (lightly_canonical sig rows kept ready l) order

  pub lightly_wide : (kept : List (List Term)) → IsLightly rows kept → PassesLimit kept → (sorts : List ℕ) → AllHaveSorts sig rows sorts → (others : List (List Term)) → IsRelation sig sorts (IsOfRow sig rows) others → PassesLimit others
  lightly_wide kept l passes sorts sorted others rel = some_pass kept others l.sifted.once (sifted_in sig sound rows sorts sorted all_written kept l.sifted (lightly_canonical sig rows kept ready l) others rel) passes

  pub lost_wide : LosesHeavy rows → (sorts : List ℕ) → AllHaveSorts sig rows sorts → (others : List (List Term)) → IsRelation sig sorts (IsOfRow sig rows) others → PassesLimit others
  lost_wide h sorts sorted others rel = heavy_wide sig sound rows sorts sorted all_written h.light h.kept h.sifted h.lights h.all h.row h.there h.uncovered others rel
