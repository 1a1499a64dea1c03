-- Each row of a relation of columns has a source of its own, which is as large.
use Rattle.std.proofs.Common.{◌≡◌, ℕ, ◌+◌, ◌≤◌, ◌<◌, inl, inr, List, [], ◌∷◌, map, refl, ap₂, sym, ◌∙◌, subst, Some, None, arith}
use Rattle.std.specs.Prelude.{sum_by, Any}
use Rattle.std.proofs.lemmas.List.Sums.{sum_by-cons}
use Rattle.psg_terms.specs.Terms.{Term, variable, symbol, apply}
use Rattle.psg_terms.specs.Signature.{Signature, only_constructor}
use Rattle.psg_terms.specs.Sound.{IsSound}
use Rattle.psg_terms.specs.Instances.{Substitution, substitute, HasSameInstances}
use Rattle.psg_terms.specs.Canonical.{Variable, noted_all, variables_of}
use Rattle.psg_terms.specs.Renaming.{opens, numbering, written, place, Renumbered}
use Rattle.psg_terms.specs.Relations.{IsIn, IsRelation}
use Rattle.psg_terms.specs.Weight.{symbols_of, depth_of, PassesLimit}
use Rattle.psg_terms.proofs.CanonicalLaws.{same_ground-equal}
use Rattle.psg_terms.proofs.Renumbering.{renumbered_canonical, renumbered_same}
use Rattle.psg_relation.specs.Choices.{AllHaveSorts, AllWithin, IsProjected, picked}
use Rattle.psg_relation.proofs.Columns.{picked-sorts, picked_ground}
use Rattle.psg_relation.proofs.Members.{contains-in, in-contains, map-in}
use Rattle.psg_relation.specs.Fewer.{FewerColumns, KeptOnce}
use Rattle.psg_relation.proofs.Sources.{in_picked, sum_from, sum_kept}

-- new numbers leave the size as it is
module _ (sig : Signature) (known : List Variable) where
  abbrev pub numbered : Substitution
  numbered = numbering sig 0 known

  same_symbols : (t : Term) → symbols_of (substitute numbered t) ≡ symbols_of t
  same_symbols (variable s n) = elim (only_constructor sig s) as (λ o. symbols_of (written o (variable s (0 + place (s, n) known + 1))) ≡ 1) [ None ↦ refl | Some c ↦ refl ]
  same_symbols (symbol c) = refl
  same_symbols (apply f a) = ap₂ (λ m n. m + n) (same_symbols f) (same_symbols a)

  pub same_depth : (t : Term) → depth_of (substitute numbered t) ≡ depth_of t
  same_depth (variable s n) = elim (only_constructor sig s) as (λ o. depth_of (written o (variable s (0 + place (s, n) known + 1))) ≡ 1) [ None ↦ refl | Some c ↦ refl ]
  same_depth (symbol c) = refl
  same_depth (apply f a) = let e = same_depth f in let d = same_depth a in cc

  pub same_weight : (row : List Term) → sum_by symbols_of (map (substitute numbered) row) ≡ sum_by symbols_of row
  same_weight [] = refl
  same_weight (t ∷ row) = sum_by-cons symbols_of (substitute numbered t) (map (substitute numbered) row) ∙ ap₂ (λ m n. m + n) (same_symbols t) (same_weight row) ∙ sym (sum_by-cons symbols_of t row)

any_member : {X : Type 0} (P : X → Type 0) (xs : List X) → Any P xs → (x : X) × IsIn x xs × P x
any_member P xs (k, x, l, e, p) = (x, contains-in x xs (k, l, e), p)

member_any : {X : Type 0} (P : X → Type 0) (xs : List X) (x : X) → IsIn x xs → P x → Any P xs
member_any P xs x h p = let c = in-contains x xs h in (c.0, x, c.1, c.2, p)

module _ (sig : Signature) (sound : IsSound sig) (sorts : List ℕ) (rows : List (List Term)) (keep : List ℕ) (sorted : AllHaveSorts sig rows sorts) (there : AllWithin rows keep) (once : KeptOnce keep)
    (made : List (List Term)) (rel : IsRelation sig (picked sorts keep) (IsProjected sig rows keep) made) where
  -- the row of the relation is what the kept columns of the source can be
  record From (row source : List Term) : Type 0 where
    row_there : IsIn row made
    source_there : IsIn source rows
    same : HasSameInstances sig row (picked source keep)

  some_source : (row : List Term) → IsIn row made → (source : List Term) × IsIn source rows × From row source
  some_source row i =
      let s = rel.shapes row i in
      let p = s.some.1 in (
        s.choice,
        p.0,
        record {
          row_there = i;
          source_there = p.0;
          same = (λ y g. (picked_ground sig s.choice keep y).1 ((s.exact y).0 g).1, λ y g. (s.exact y).1 (p.0, (picked_ground sig s.choice keep y).0 g));
        },
      )

  source_once : (row other source : List Term) → From row source → From other source → row ≡ other
  source_once row other source a b =
      let s = rel.shapes row a.row_there in
      let t = rel.shapes other b.row_there in
      same_ground-equal sig sound row other (picked sorts keep) s.sorted t.sorted s.canonical t.canonical
      (λ x g. b.same.1 x (a.same.0 x g)) (λ x g. a.same.1 x (b.same.0 x g))

  -- the row is the kept columns with new numbers
  renumbered : (row source : List Term) → From row source → (known : List Variable) × (row ≡ map (substitute (numbered sig known)) (picked source keep))
  renumbered row source a =
      let s = rel.shapes row a.row_there in
      let columns = picked source keep in
      let known = noted_all [] (opens sig (variables_of columns)) in
      let copy : List Term = map (substitute (numbering sig 0 known)) columns in
      let made : Renumbered sig 0 [] known columns copy = record { known = refl; made = refl } in
      let same = renumbered_same sig sound 0 [] known columns copy (picked sorts keep) (picked-sorts sig source sorts keep (sorted source a.source_there)) made in (
        known,
        same_ground-equal sig sound row copy (picked sorts keep) s.sorted same.2 s.canonical (renumbered_canonical sig sound known columns copy made)
            (λ x g. same.0 x (a.same.0 x g)) (λ x g. a.same.1 x (same.1 x g)),
      )

  lighter : (row source : List Term) → From row source → sum_by symbols_of row ≤ sum_by symbols_of source
  lighter row source a =
      let (known, e) = renumbered row source a in
      let k = sum_kept symbols_of source keep (there source a.source_there) once in
      let d : sum_by symbols_of row ≡ sum_by symbols_of (picked source keep) = subst (λ r. sum_by symbols_of r ≡ sum_by symbols_of (picked source keep)) (sym e) (same_weight sig known (picked source keep)) in
      omega (arith, k, d)

  as_deep : (row source : List Term) → From row source → (t : Term) → IsIn t row → 1000 < depth_of t → Any (λ u. 1000 < depth_of u) source
  as_deep row source a t i deep =
      let (known, e) = renumbered row source a in
      let (u, j, d) = map-in (substitute (numbered sig known)) t (picked source keep) (subst (IsIn t) e i) in
      member_any (λ v. 1000 < depth_of v) source u (in_picked u source keep j) (subst (λ n. 1000 < n) (same_depth sig known u) (subst (λ v. 1000 < depth_of v) d deep))

  passes : PassesLimit made → PassesLimit rows
  passes (inl w) = let k = sum_from (sum_by symbols_of) (sum_by symbols_of) From source_once lighter made rows rel.once some_source in inl (omega arith)
  passes (inr d) =
      let (row, i, inner) = any_member (Any (λ t. 1000 < depth_of t)) made d in
      let (t, j, deep) = any_member (λ v. 1000 < depth_of v) row inner in
      let (source, k, a) = some_source row i in
      inr (member_any (Any (λ t. 1000 < depth_of t)) rows source k (as_deep row source a t j deep))

pub fewer : (sig : Signature) → IsSound sig → FewerColumns sig
fewer sig sound sorts rows keep sorted there once light made rel heavy = light (passes sig sound sorts rows keep sorted there once made rel heavy)
