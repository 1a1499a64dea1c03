-- What the rows of a relation are, and what they tell of other rows.
use Rattle.std.proofs.Common.{◌≡◌, ◌↔◌, ℕ, List, map, refl, sym, subst}
use Rattle.psg_terms.specs.Terms.{Term}
use Rattle.psg_terms.specs.Signature.{Signature, HaveSorts}
use Rattle.psg_terms.specs.Sound.{IsSound}
use Rattle.psg_terms.specs.Instances.{Substitution, substitute, IsInstance, IsGrounding, IsGroundInstance}
use Rattle.psg_terms.specs.Canonical.{IsCanonical, AreWrittenOut}
use Rattle.psg_terms.specs.Relations.{IsIn, IsShape, IsMaximal, IsRelation}
use Rattle.psg_terms.proofs.InstanceLaws.{instance_trans}
use Rattle.psg_terms.proofs.Separate.{grounding}
use Rattle.psg_terms.proofs.SoundChoices.{choices}
use Rattle.psg_terms.proofs.CanonicalLaws.{same_ground-equal}
use Rattle.psg_terms.proofs.Exact.{instance_exact}

-- canonical rows that are instances of each other are equal
pub instances_equal : (sig : Signature) → IsSound sig → (a b : List Term) (ss : List ℕ) → HaveSorts sig a ss → HaveSorts sig b ss → IsCanonical sig a → IsCanonical sig b → IsInstance a b → IsInstance b a → a ≡ b
instances_equal sig sound a b ss ha hb ca cb p q =
    same_ground-equal sig sound a b ss ha hb ca cb ((instance_exact sig sound b a ss hb ha ca.written).0 p) ((instance_exact sig sound a b ss ha hb cb.written).0 q)

module _ (sig : Signature) (sound : IsSound sig) (sorts : List ℕ) {C : Type 0} (Possible : C → List Term → Type 0) where
  -- each shape is an instance of one of the rows
  pub covered : (rows : List (List Term)) → IsRelation sig sorts Possible rows → (row : List Term) → IsShape sig sorts Possible row → (greater : List Term) × IsIn greater rows × IsInstance row greater
  covered rows rel row shape =
      let (columns, possible) = shape.some in
      let (greater, g, all) = rel.covers shape.choice columns possible in
      (greater, g, (instance_exact sig sound greater row sorts (rel.shapes greater g).sorted shape.sorted shape.canonical.written).1 (λ other h. all other ((shape.exact other).0 h)))

  -- a row is one of the relation exactly where it is a shape and no proper instance of another
  pub row_is_maximal : (rows : List (List Term)) → IsRelation sig sorts Possible rows → (row : List Term) → IsIn row rows ↔ IsMaximal sig sorts Possible row
  row_is_maximal rows rel row = (forward, backward) where
    forward : IsIn row rows → IsMaximal sig sorts Possible row
    forward h = record {
      shape = rel.shapes row h;
      greatest = λ other o i.
          let (greater, g, j) = covered rows rel other o in
          let same : row ≡ greater = rel.apart row greater h g (instance_trans row other greater i j) in
          let shape = rel.shapes row h in
          instances_equal sig sound row other sorts shape.sorted o.sorted shape.canonical o.canonical i (subst (IsInstance other) (sym same) j);
    }

    backward : IsMaximal sig sorts Possible row → IsIn row rows
    backward m =
        let (greater, g, j) = covered rows rel row m.shape in
        subst (λ x. IsIn x rows) (sym (m.greatest greater (rel.shapes greater g) j)) g

  -- a test of the rows of a relation tells what holds for all terms
  pub general_by_rows : (rows : List (List Term)) → IsRelation sig sorts Possible rows → (row : List Term) → HaveSorts sig row sorts → AreWrittenOut sig row
      → ((general : List Term) × IsIn general rows × IsInstance row general) ↔ ((c : C) × ((f : Substitution) → IsGrounding sig f → Possible c (map (substitute f) row)))
  general_by_rows rows rel row hr written = (
    (λ (general, among, instance). let shape = rel.shapes general among in
        (shape.choice, λ f ground. (shape.exact (map (substitute f) row)).0 ((instance_exact sig sound general row sorts shape.sorted hr written).0 instance (map (substitute f) row) (f, ground, refl)))),
    (λ (c, all). let usual : Substitution = λ s n. (choices sig sound).some s in
        let (general, among, covers) = rel.covers c (map (substitute usual) row) (all usual (grounding sig (choices sig sound))) in
        let shape = rel.shapes general among in
        (general, among, (instance_exact sig sound general row sorts shape.sorted hr written).1 (λ columns (f, ground, e). subst (IsGroundInstance sig general) (sym e) (covers (map (substitute f) row) (all f ground))))),
  )

  -- each row of the relation is an instance of one of the other rows exactly where what is possible for a choice is among the instances of one of them
  pub covered_by_rows : (rows others : List (List Term)) → IsRelation sig sorts Possible rows → ((other : List Term) → IsIn other others → HaveSorts sig other sorts)
      → ((general : List Term) → IsIn general rows → (other : List Term) × IsIn other others × IsInstance general other)
      ↔ ((c : C) → ((columns : List Term) × Possible c columns) → (other : List Term) × IsIn other others × ((columns : List Term) → Possible c columns → IsGroundInstance sig other columns))
  covered_by_rows rows others rel ho = (
    (λ each c (columns, p). let (general, among, covers) = rel.covers c columns p in
        let (other, there, instance) = each general among in
        let shape = rel.shapes general among in
        (other, there, λ columns' p'. (instance_exact sig sound other general sorts (ho other there) shape.sorted shape.canonical.written).0 instance columns' (covers columns' p'))),
    (λ each general among. let shape = rel.shapes general among in
        let (other, there, all) = each shape.choice shape.some in
        (other, there, (instance_exact sig sound other general sorts (ho other there) shape.sorted shape.canonical.written).1 (λ columns h. all columns ((shape.exact columns).0 h)))),
  )
