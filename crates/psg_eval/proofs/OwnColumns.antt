-- What stands in a row's columns of an operator's own keys.
use Rattle.std.proofs.Common.{◌≡◌, ℕ, ◌+◌, suc, List, [], ◌∷◌, ◌++◌, length, refl, ap, sym, ◌∙◌, subst, Option, Some, slice_get, arith}
use Rattle.psg_terms.specs.Terms.{Term}
use Rattle.psg_grammar.specs.Keys.{Key}
use Rattle.psg_unify.specs.Pairs.{Pair as Columns, AgreeOn}
use Rattle.psg_eval.specs.Own.{IsOwn, own_none, own_one, own_two}
use Rattle.psg_eval.proofs.Halves.{own_width}
use Rattle.psg_eval.proofs.Walking.{Along, IsThere, Matches, Picks, along_any, walk_back, walk_pairs, walk_to}

-- columns of two lists, one behind the other
record Cut {X : Type 0} (row : List X) (cs ds : List ℕ) (P : List X) : Type 0 where
  one : List X
  two : List X
  is : P ≡ one ++ two
  ones : Picks row cs one
  twos : Picks row ds two

cut : {X : Type 0} (row : List X) (cs ds : List ℕ) (P : List X) → Picks row (cs ++ ds) P → Cut row cs ds P
cut row [] ds P h = record { one = []; two = P; is = refl; ones = tt; twos = h }
cut row (c ∷ cs) ds [] h = absurd h
cut row (c ∷ cs) ds (x ∷ P) h =
    let r = cut row cs ds P h.1 in
    record { one = x ∷ r.one; two = r.two; is = ap (λ l. x ∷ l) r.is; ones = (h.0, r.ones); twos = r.twos }

pub picks_many : {X : Type 0} (row : List X) (cs : List ℕ) (P : List X) → Picks row cs P → length P ≡ length cs
picks_many row [] [] h = refl
picks_many row [] (x ∷ P) h = absurd h
picks_many row (c ∷ cs) [] h = absurd h
picks_many row (c ∷ cs) (x ∷ P) h = ap suc (picks_many row cs P h.1)

along_cut : {X : Type 0} (R : Key → X → Type 0) (ks ls : List Key) (P Q : List X) → length P ≡ length ks → Along R (ks ++ ls) (P ++ Q) → Along R ks P × Along R ls Q
along_cut R [] ls [] Q e h = (tt, h)
along_cut R [] ls (x ∷ P) Q e h = absurd (omega arith)
along_cut R (k ∷ ks) ls [] Q e h = absurd (omega arith)
along_cut R (k ∷ ks) ls (x ∷ P) Q e h = let r = along_cut R ks ls P Q (omega arith) h.1 in ((h.0, r.0), r.1)

along_join : {X : Type 0} (R : Key → X → Type 0) (ks ls : List Key) (P Q : List X) → Along R ks P → Along R ls Q → Along R (ks ++ ls) (P ++ Q)
along_join R [] ls [] Q h k = k
along_join R [] ls (x ∷ P) Q h k = absurd h
along_join R (k ∷ ks) ls [] Q h j = absurd h
along_join R (k ∷ ks) ls (x ∷ P) Q h j = (h.0, along_join R ks ls P Q h.1 j)

matches_join : {X : Type 0} (p q : List X) (ps qs : List Columns) → Matches p q ps → Matches p q qs → Matches p q (ps ++ qs)
matches_join p q [] qs h k = k
matches_join p q (c ∷ ps) qs h k = (h.0, matches_join p q ps qs h.1 k)

agree_cut : (p q : List Term) (ps qs : List Columns) → AgreeOn (ps ++ qs) p q → AgreeOn ps p q × AgreeOn qs p q
agree_cut p q [] qs h = (tt, h)
agree_cut p q (c ∷ ps) qs h = let r = agree_cut p q ps qs h.1 in ((h.0, r.0), r.1)

module _ {X : Type 0} (row : List X) where
  stays : (a : ℕ) (x : X) → slice_get row a ≡ Some x → slice_get row a ≡ Some x
  stays a x e = e

  moves : (b : ℕ) (x : X) → slice_get row b ≡ Some x → slice_get row (0 + b) ≡ Some x
  moves b x e = let z : b ≡ 0 + b = omega arith in subst (λ n. slice_get row n ≡ Some x) z e

  -- what is along the positions is along their keys
  pub own_to : (R : Key → X → Type 0) {ks : List Key} {cs : List ℕ} {M : List Key} {columns : List ℕ} {pairs : List Columns} (P : List X) → IsOwn ks cs M columns pairs
      → Picks row cs P → Along R ks P → (E : List X) × Picks row columns E × Along R M E
  own_to R P own_none h a = ([], tt, tt)
  own_to R P (own_one k c) h a = (P, h, a)
  own_to R P (own_two {ks = ks} {ls = ls} {cs = cs} {ds = ds} x y w) h a =
      let r = cut row cs ds P h in
      let many = picks_many row cs r.one r.ones ∙ own_width x in
      let b = along_cut R ks ls r.one r.two many (subst (Along R (ks ++ ls)) r.is a) in
      let (A, pa, ka) = own_to R r.one x r.ones b.0 in
      let (B, pb, kb) = own_to R r.two y r.twos b.1 in
      walk_to R 0 row row row stays moves A B w pa ka pb kb

  -- and where what is along a key is one thing, the row agrees with itself on the pairs
  pub own_pairs : (R : Key → X → Type 0) → ((k : Key) (x y : X) → R k x → R k y → x ≡ y) → {ks : List Key} {cs : List ℕ} {M : List Key} {columns : List ℕ} {pairs : List Columns} (P : List X)
      → IsOwn ks cs M columns pairs → Picks row cs P → Along R ks P → Matches row row pairs
  own_pairs R f P own_none h a = tt
  own_pairs R f P (own_one k c) h a = tt
  own_pairs R f P (own_two {ks = ks} {ls = ls} {cs = cs} {ds = ds} {ps = ps} {qs = qs} {rs = rs} x y w) h a =
      let r = cut row cs ds P h in
      let many = picks_many row cs r.one r.ones ∙ own_width x in
      let b = along_cut R ks ls r.one r.two many (subst (Along R (ks ++ ls)) r.is a) in
      let (A, pa, ka) = own_to R r.one x r.ones b.0 in
      let (B, pb, kb) = own_to R r.two y r.twos b.1 in
      matches_join row row (ps ++ qs) rs (matches_join row row ps qs (own_pairs R f r.one x r.ones b.0) (own_pairs R f r.two y r.twos b.1))
      (walk_pairs R 0 row row row stays moves f A B w pa ka pb kb)

-- where the row agrees with itself, what is along the keys is along the positions
module _ (row : List Term) where
  there : {ks : List Key} {cs : List ℕ} {M : List Key} {columns : List ℕ} {pairs : List Columns} (P : List Term) → IsOwn ks cs M columns pairs → Picks row cs P
      → (E : List Term) × Picks row columns E × Along IsThere M E
  there {ks = ks} {cs = cs} P x h = own_to row IsThere P x h (along_any ks P (picks_many row cs P h ∙ own_width x))

  pub own_back : (R : Key → Term → Type 0) {ks : List Key} {cs : List ℕ} {M : List Key} {columns : List ℕ} {pairs : List Columns} (P E : List Term) → IsOwn ks cs M columns pairs
      → AgreeOn pairs row row → Picks row cs P → Picks row columns E → Along R M E → Along R ks P
  own_back R [] [] own_none g h e a = tt
  own_back R (x ∷ P) E own_none g h e a = absurd h
  own_back R [] (z ∷ E) own_none g h e a = absurd e
  own_back R P E (own_one k c) g h e a = only P E h e a
    where
      only : (P E : List Term) → Picks row (c ∷ []) P → Picks row (c ∷ []) E → Along R (k ∷ []) E → Along R (k ∷ []) P
      only [] E h e a = absurd h
      only (x ∷ P) [] h e a = absurd e
      only (x ∷ []) (z ∷ E) h e a = (subst (R k) (let d : ◌≡◌ {A = Option Term} (Some z) (Some x) = sym e.0 ∙ h.0 in let s : z ≡ x = cc in s) a.0, tt)
      only (x ∷ y ∷ P) (z ∷ E) h e a = absurd h.1
  own_back R P E (own_two {ks = ks} {ls = ls} {cs = cs} {ds = ds} {ps = ps} {qs = qs} {rs = rs} x y w) g h e a =
      let r = cut row cs ds P h in
      let s = agree_cut row row (ps ++ qs) rs g in
      let t = agree_cut row row ps qs s.0 in
      let (A, pa, ka) = there r.one x r.ones in
      let (B, pb, kb) = there r.two y r.twos in
      let b = walk_back R 0 row row row (stays row) (moves row) A B E w s.1 pa pb e a in
      subst (Along R (ks ++ ls)) (sym r.is)
      (along_join R ks ls r.one r.two (own_back R r.one A x t.0 r.ones pa b.0) (own_back R r.two B y t.1 r.twos pb b.1))
