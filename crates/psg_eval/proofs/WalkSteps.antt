-- The walk over the keys of a joined header, key by key.
use Rattle.std.proofs.Common.{◌≡◌, ℕ, ◌+◌, ◌<◌, ◌≤◌, zero, suc, List, [], ◌∷◌, ◌++◌, map, length, drop, get_or, refl, ap, sym, ◌∙◌, subst, Option, Some, slice_get, append_assoc, arith}
use Rattle.std.proofs.lemmas.List.{append-nil, drop_all}
use Rattle.std.proofs.lemmas.Option.{slice_get_within}
use Rattle.psg_terms.proofs.Lists.{drop_there}
use Rattle.psg_grammar.specs.Keys.{Key}
use Rattle.psg_scope.specs.Headers.{ArePlaces, keys}
use Rattle.psg_scope.specs.declared.header.NameCol.{NameCol}
use Rattle.psg_unify.specs.Pairs.{Pair as Columns}
use Rattle.psg_eval.specs.Walks.{GrowsBy, IsWalk, walk_none, walk_left, walk_right, walk_both}
use Rattle.psg_eval.specs.declared.placing.Placed.{Placed}

read : (xs : List ℕ) (i : ℕ) → i < length xs → slice_get xs i ≡ Some (get_or xs i 0)
read [] i h = absurd (omega arith)
read (x ∷ xs) zero h = refl
read (x ∷ xs) (suc i) h = read xs i (omega arith)

-- the key at a place of the joined header
placed_key : (ms : List Key) (places : List ℕ) (ks : List Key) (i place : ℕ) → map (λ p. slice_get ms p) places ≡ map Some ks → slice_get places i ≡ Some place
    → (k : Key) × (slice_get ks i ≡ Some k) × (slice_get ms place ≡ Some k)
placed_key ms [] ks i place e h = absurd (cc)
placed_key ms (p ∷ places) [] i place e h = absurd (cc)
placed_key ms (p ∷ places) (k ∷ ks) zero place e h =
    let d : p ≡ place = cc in
    let f : slice_get ms p ≡ Some k = cc in
    (k, refl, subst (λ n. slice_get ms n ≡ Some k) d f)
placed_key ms (p ∷ places) (k ∷ ks) (suc i) place e h =
    let f : map (λ q. slice_get ms q) places ≡ map Some ks = cc in
    placed_key ms places ks i place f h

pub places_many : (ms : List Key) (places : List ℕ) (ks : List Key) → map (λ p. slice_get ms p) places ≡ map Some ks → length places ≡ length ks
places_many ms [] [] e = refl
places_many ms [] (k ∷ ks) e = absurd (cc)
places_many ms (p ∷ places) [] e = absurd (cc)
places_many ms (p ∷ places) (k ∷ ks) e =
    let f : map (λ q. slice_get ms q) places ≡ map Some ks = cc in
    omega (arith, places_many ms places ks f)

module _ (cols : List NameCol) (lefts rights left right : List ℕ) (offset : ℕ) where
  -- what remains of the walk completes it
  abbrev pub IsPlacedUpTo : Placed → ℕ → Type 0
  IsPlacedUpTo made place = (K L : List Key) → ArePlaces cols lefts K → ArePlaces cols rights L → (ps : List Columns) (ks : List ℕ)
      → IsWalk offset (drop made.lefts left) (drop made.rights right) (drop made.lefts K) (drop made.rights L) (drop place (keys cols)) ps ks
      → IsWalk offset left right K L (keys cols) (made.pairs.items ++ ps) (made.columns.items ++ ks)

  pub none_placed : (columns : List ℕ) (pairs : List Columns) → columns ≡ [] → pairs ≡ [] → (K L : List Key) → ArePlaces cols lefts K → ArePlaces cols rights L → (ps : List Columns) (ks : List ℕ)
      → IsWalk offset left right K L (keys cols) ps ks → IsWalk offset left right K L (keys cols) (pairs ++ ps) (columns ++ ks)
  none_placed columns pairs c p K L hk hl ps ks w =
      subst (λ xs. IsWalk offset left right K L (keys cols) (xs ++ ps) (columns ++ ks)) (sym p)
      (subst (λ xs. IsWalk offset left right K L (keys cols) ps (xs ++ ks)) (sym c) w)

  module _ (old new : Placed) (place : ℕ) (many : length left ≡ length lefts) (manys : length right ≡ length rights) (s : IsPlacedUpTo old place) where
    moved : (ps qs : List Columns) (c : ℕ) (i j : ℕ) → GrowsBy old new qs c i j → (K L : List Key) (ks : List ℕ)
        → IsWalk offset left right K L (keys cols) (old.pairs.items ++ (qs ++ ps)) (old.columns.items ++ (c ∷ ks)) → IsWalk offset left right K L (keys cols) (new.pairs.items ++ ps) (new.columns.items ++ ks)
    moved ps qs c i j g K L ks w =
        subst (λ xs. IsWalk offset left right K L (keys cols) xs (new.columns.items ++ ks)) (sym (append_assoc old.pairs.items qs ps) ∙ ap (λ xs. xs ++ ps) (sym g.pairs_are))
        (subst (λ xs. IsWalk offset left right K L (keys cols) (old.pairs.items ++ (qs ++ ps)) xs) (sym (append_assoc old.columns.items (c ∷ []) ks) ∙ ap (λ xs. xs ++ ks) (sym g.columns)) w)

    same : (i : ℕ) → i + 0 ≡ i
    same i = omega arith

    pub left_placed : slice_get lefts old.lefts ≡ Some place → GrowsBy old new [] (get_or left old.lefts 0) 1 0 → IsPlacedUpTo new (place + 1)
    left_placed at g K L hk hl ps ks w =
        let a = get_or left old.lefts 0 in
        let (k, ek, em) = placed_key (keys cols) lefts K old.lefts place hk at in
        let dl = drop_there left old.lefts a (read left old.lefts (let h = slice_get_within lefts old.lefts place at in omega arith)) in
        let dk = drop_there K old.lefts k ek in
        let dm = drop_there (keys cols) place k em in
        let w1 = subst (λ n. IsWalk offset (drop n left) (drop new.rights right) (drop n K) (drop new.rights L) (drop (place + 1) (keys cols)) ps ks) g.lefts w in
        let w2 = subst (λ n. IsWalk offset (drop (old.lefts + 1) left) (drop n right) (drop (old.lefts + 1) K) (drop n L) (drop (place + 1) (keys cols)) ps ks) (g.rights ∙ same old.rights) w1 in
        let v = walk_left a k w2 in
        moved ps [] a 1 0 g K L ks (s K L hk hl ps (a ∷ ks)
        (subst (λ xs. IsWalk offset xs (drop old.rights right) (drop old.lefts K) (drop old.rights L) (drop place (keys cols)) ps (a ∷ ks)) (sym dl)
        (subst (λ xs. IsWalk offset (a ∷ drop (old.lefts + 1) left) (drop old.rights right) xs (drop old.rights L) (drop place (keys cols)) ps (a ∷ ks)) (sym dk)
        (subst (λ xs. IsWalk offset (a ∷ drop (old.lefts + 1) left) (drop old.rights right) (k ∷ drop (old.lefts + 1) K) (drop old.rights L) xs ps (a ∷ ks)) (sym dm) v))))

    pub right_placed : slice_get rights old.rights ≡ Some place → GrowsBy old new [] (offset + get_or right old.rights 0) 0 1 → IsPlacedUpTo new (place + 1)
    right_placed at g K L hk hl ps ks w =
        let b = get_or right old.rights 0 in
        let (k, ek, em) = placed_key (keys cols) rights L old.rights place hl at in
        let dr = drop_there right old.rights b (read right old.rights (let h = slice_get_within rights old.rights place at in omega arith)) in
        let dk = drop_there L old.rights k ek in
        let dm = drop_there (keys cols) place k em in
        let w1 = subst (λ n. IsWalk offset (drop n left) (drop new.rights right) (drop n K) (drop new.rights L) (drop (place + 1) (keys cols)) ps ks) (g.lefts ∙ same old.lefts) w in
        let w2 = subst (λ n. IsWalk offset (drop old.lefts left) (drop n right) (drop old.lefts K) (drop n L) (drop (place + 1) (keys cols)) ps ks) g.rights w1 in
        let v = walk_right b k w2 in
        moved ps [] (offset + b) 0 1 g K L ks (s K L hk hl ps ((offset + b) ∷ ks)
        (subst (λ xs. IsWalk offset (drop old.lefts left) xs (drop old.lefts K) (drop old.rights L) (drop place (keys cols)) ps ((offset + b) ∷ ks)) (sym dr)
        (subst (λ xs. IsWalk offset (drop old.lefts left) (b ∷ drop (old.rights + 1) right) (drop old.lefts K) xs (drop place (keys cols)) ps ((offset + b) ∷ ks)) (sym dk)
        (subst (λ xs. IsWalk offset (drop old.lefts left) (b ∷ drop (old.rights + 1) right) (drop old.lefts K) (k ∷ drop (old.rights + 1) L) xs ps ((offset + b) ∷ ks)) (sym dm) v))))

    pub both_placed : slice_get lefts old.lefts ≡ Some place → slice_get rights old.rights ≡ Some place
        → GrowsBy old new ((get_or left old.lefts 0, get_or right old.rights 0) ∷ []) (get_or left old.lefts 0) 1 1 → IsPlacedUpTo new (place + 1)
    both_placed at too g K L hk hl ps ks w =
        let a = get_or left old.lefts 0 in
        let b = get_or right old.rights 0 in
        let (k, ek, em) = placed_key (keys cols) lefts K old.lefts place hk at in
        let (l, el, en) = placed_key (keys cols) rights L old.rights place hl too in
        let e : k ≡ l = let q : ◌≡◌ {A = Option Key} (Some k) (Some l) = sym em ∙ en in cc in
        let da = drop_there left old.lefts a (read left old.lefts (let h = slice_get_within lefts old.lefts place at in omega arith)) in
        let db = drop_there right old.rights b (read right old.rights (let h = slice_get_within rights old.rights place too in omega arith)) in
        let dk = drop_there K old.lefts k ek in
        let dl = drop_there L old.rights k (el ∙ ap Some (sym e)) in
        let dm = drop_there (keys cols) place k em in
        let w1 = subst (λ n. IsWalk offset (drop n left) (drop new.rights right) (drop n K) (drop new.rights L) (drop (place + 1) (keys cols)) ps ks) g.lefts w in
        let w2 = subst (λ n. IsWalk offset (drop (old.lefts + 1) left) (drop n right) (drop (old.lefts + 1) K) (drop n L) (drop (place + 1) (keys cols)) ps ks) g.rights w1 in
        let v = walk_both a b k w2 in
        let pair : List Columns = (a, b) ∷ [] in
        moved ps pair a 1 1 g K L ks (s K L hk hl ((a, b) ∷ ps) (a ∷ ks)
        (subst (λ xs. IsWalk offset xs (drop old.rights right) (drop old.lefts K) (drop old.rights L) (drop place (keys cols)) ((a, b) ∷ ps) (a ∷ ks)) (sym da)
        (subst (λ xs. IsWalk offset (a ∷ drop (old.lefts + 1) left) xs (drop old.lefts K) (drop old.rights L) (drop place (keys cols)) ((a, b) ∷ ps) (a ∷ ks)) (sym db)
        (subst (λ xs. IsWalk offset (a ∷ drop (old.lefts + 1) left) (b ∷ drop (old.rights + 1) right) xs (drop old.rights L) (drop place (keys cols)) ((a, b) ∷ ps) (a ∷ ks)) (sym dk)
        (subst (λ xs. IsWalk offset (a ∷ drop (old.lefts + 1) left) (b ∷ drop (old.rights + 1) right) (k ∷ drop (old.lefts + 1) K) xs (drop place (keys cols)) ((a, b) ∷ ps) (a ∷ ks)) (sym dl)
        (subst (λ xs. IsWalk offset (a ∷ drop (old.lefts + 1) left) (b ∷ drop (old.rights + 1) right) (k ∷ drop (old.lefts + 1) K) (k ∷ drop (old.rights + 1) L) xs ((a, b) ∷ ps) (a ∷ ks)) (sym dm) v))))))

  pub all_placed : (made : Placed) (place : ℕ) → length left ≡ length lefts → length right ≡ length rights → IsPlacedUpTo made place → length lefts ≤ made.lefts → length rights ≤ made.rights → length (keys cols) ≤ place
      → (K L : List Key) → ArePlaces cols lefts K → ArePlaces cols rights L → IsWalk offset left right K L (keys cols) made.pairs.items made.columns.items
  all_placed made place many manys s hl hr hp K L hk hj =
      let mk = places_many (keys cols) lefts K hk in
      let ml = places_many (keys cols) rights L hj in
      let w : IsWalk offset (drop made.lefts left) (drop made.rights right) (drop made.lefts K) (drop made.rights L) (drop place (keys cols)) [] [] =
      subst (λ xs. IsWalk offset xs (drop made.rights right) (drop made.lefts K) (drop made.rights L) (drop place (keys cols)) [] []) (sym (drop_all made.lefts left (omega arith)))
      (subst (λ xs. IsWalk offset [] xs (drop made.lefts K) (drop made.rights L) (drop place (keys cols)) [] []) (sym (drop_all made.rights right (omega arith)))
      (subst (λ xs. IsWalk offset [] [] xs (drop made.rights L) (drop place (keys cols)) [] []) (sym (drop_all made.lefts K (omega arith)))
      (subst (λ xs. IsWalk offset [] [] [] xs (drop place (keys cols)) [] []) (sym (drop_all made.rights L (omega arith)))
      (subst (λ xs. IsWalk offset [] [] [] [] xs [] []) (sym (drop_all place (keys cols) hp)) walk_none)))) in
      subst (λ xs. IsWalk offset left right K L (keys cols) xs made.columns.items) (append-nil made.pairs.items)
      (subst (λ xs. IsWalk offset left right K L (keys cols) (made.pairs.items ++ []) xs) (append-nil made.columns.items) (s K L hk hj [] [] w))
