-- A family of sets has one relation: two have the same rows.
use Rattle.std.proofs.Common.{◌≡◌, ℕ, List, [], ◌∷◌, Option, Some, refl, ap, ap₂, sym, ◌∙◌, subst, length, suc}
use Rattle.psg_terms.specs.Terms.{Term, variable, symbol, apply}
use Rattle.psg_terms.specs.Signature.{Signature, Symbol, HaveSorts, Takes}
use Rattle.psg_terms.specs.Instances.{IsGroundInstance, IsInstance, AllGroundInstancesIn}
use Rattle.psg_terms.specs.Sound.{IsSound}
use Rattle.psg_terms.specs.Relations.{IsIn, IsRelation}
use Rattle.psg_terms.proofs.Renumbering.{HaveSorts-substitute}
use Rattle.psg_terms.proofs.CanonicalLaws.{same_ground-equal}
use Rattle.psg_terms.proofs.Exact.{instance_exact}

abbrev tail_of : List ℕ → List ℕ
tail_of [] = []
tail_of (x ∷ xs) = xs

-- a term takes one list of arguments and makes one sort
pub takes_once : (sig : Signature) (t : Term) (v w : List ℕ) (r s : ℕ) → Takes sig t v r → Takes sig t w s → (v ≡ w) × (r ≡ s)
takes_once sig (variable p n) v w r s (_, e, d) (_, i, j) = (e ∙ sym i, sym d ∙ j)
takes_once sig (symbol c) v w r s (a, p, q, m) (b, i, j, k) =
    let e : ◌≡◌ {A = Option Symbol} (Some a) (Some b) = sym p ∙ i in
    let d : a ≡ b = cc in
    (sym q ∙ ap (λ (z : Symbol). z.arguments) d ∙ j, sym m ∙ ap (λ (z : Symbol). z.sort) d ∙ k)
takes_once sig (apply f a) v w r s (x, h, _) (y, k, _) =
    let both = takes_once sig f (x ∷ v) (y ∷ w) r s h k in
    (ap tail_of both.0, both.1)

-- a row has one list of sorts
pub sorts_once : (sig : Signature) (row : List Term) (ls rs : List ℕ) → HaveSorts sig row ls → HaveSorts sig row rs → ls ≡ rs
sorts_once sig [] [] [] h k = refl
sorts_once sig [] [] (r ∷ rs) h k = absurd k
sorts_once sig [] (l ∷ ls) rs h k = absurd h
sorts_once sig (t ∷ row) [] rs h k = absurd h
sorts_once sig (t ∷ row) (l ∷ ls) [] h k = absurd k
sorts_once sig (t ∷ row) (l ∷ ls) (r ∷ rs) (h, hs) (k, ks) = ap₂ (λ x xs. x ∷ xs) (takes_once sig t [] [] l r h k).1 (sorts_once sig row ls rs hs ks)

-- a row is as long as its sorts
pub sorts_length : (sig : Signature) (row : List Term) (ss : List ℕ) → HaveSorts sig row ss → length row ≡ length ss
sorts_length sig [] [] h = refl
sorts_length sig [] (s ∷ ss) h = absurd h
sorts_length sig (t ∷ row) [] h = absurd h
sorts_length sig (t ∷ row) (s ∷ ss) (_, h) = ap (λ n. suc n) (sorts_length sig row ss h)

-- a ground instance has the sorts of its row
pub instance_sorts : (sig : Signature) (row x : List Term) (ss : List ℕ) → HaveSorts sig row ss → IsGroundInstance sig row x → HaveSorts sig x ss
instance_sorts sig row x ss h (f, k, e) = subst (λ y. HaveSorts sig y ss) (sym e) (HaveSorts-substitute sig f k.sorted row ss h)

module _ (sig : Signature) (sound : IsSound sig) {C : Type 0} (Possible : C → List Term → Type 0) (ls rs : List ℕ) (rows others : List (List Term)) (l : IsRelation sig ls Possible rows) (r : IsRelation sig rs Possible others) where
  -- the sorts of two relations that have a row are the same
  pub same_sorts : (row : List Term) → IsIn row rows → rs ≡ ls
  same_sorts row h =
      let s = l.shapes row h in
      let (x, possible) = s.some in
      let (m, there, all) = r.covers s.choice x possible in
      sorts_once sig x rs ls (instance_sorts sig m x rs (r.shapes m there).sorted (all x possible))
      (instance_sorts sig row x ls s.sorted ((s.exact x).1 possible))

  pub same_rows : (row : List Term) → IsIn row rows → IsIn row others
  same_rows row h =
      let s = l.shapes row h in
      let (x, possible) = s.some in
      let (m, there, all) = r.covers s.choice x possible in
      let t = r.shapes m there in
      let sorted : HaveSorts sig m ls = subst (HaveSorts sig m) (same_sorts row h) t.sorted in
      let up : AllGroundInstancesIn sig row m = λ y g. all y ((s.exact y).0 g) in
      let (y, other) = t.some in
      let (k, here, each) = l.covers t.choice y other in
      let down : AllGroundInstancesIn sig m k = λ z g. each z ((t.exact z).0 g) in
      let greater : IsInstance row k = (instance_exact sig sound k row ls (l.shapes k here).sorted s.sorted s.canonical.written).1 (λ z g. down z (up z g)) in
      let same : row ≡ k = l.apart row k h here greater in
      let equal : m ≡ row = same_ground-equal sig sound m row ls sorted s.sorted t.canonical s.canonical (subst (AllGroundInstancesIn sig m) (sym same) down) up in
      subst (λ z. IsIn z others) equal there
