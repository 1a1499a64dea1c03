-- Two lists that are compared place by place.
use Rattle.std.proofs.Common.{◌≡◌, ℕ, ◌+◌, ◌<◌, ◌≤◌, List, [], ◌∷◌, ◌++◌, length, take, map, get_or, refl, sym, ap, ◌∙◌}
use Rattle.std.proofs.lemmas.List.{get_or-map, length-map, map-append, take_all, take_more}

-- the lists are alike up to the place
pub record AreAlike {X Y : Type 0} (f : X → Y) (xs ys : List X) (n : ℕ) : Type 0 where
  pub same : map f (take n xs) ≡ map f (take n ys)

pub alike_none : {X Y : Type 0} (f : X → Y) (xs ys : List X) → AreAlike f xs ys 0
alike_none f xs ys = record { same = refl }

-- one place more
pub alike_more : {X Y : Type 0} (f : X → Y) (xs ys : List X) (n : ℕ) (x y : X) → AreAlike f xs ys n → n < length xs
    → n < length ys → x ≡ get_or xs n x → y ≡ get_or ys n y → f x ≡ f y → AreAlike f xs ys (n + 1)
alike_more f xs ys n x y a l m ex ey e =
    record {
      same =
          ap (map f) (take_more xs n x l) ∙ map-append f (take n xs) (get_or xs n x ∷ [])
          ∙ ap (λ z. map f (take n xs) ++ f z ∷ []) (sym ex)
          ∙ ap (λ zs. zs ++ f x ∷ []) a.same
          ∙ ap (λ z. map f (take n ys) ++ z ∷ []) e
          ∙ ap (λ z. map f (take n ys) ++ f z ∷ []) ey
          ∙ sym (ap (map f) (take_more ys n y m) ∙ map-append f (take n ys) (get_or ys n y ∷ []));
    }

-- all places
pub alike_all : {X Y : Type 0} (f : X → Y) (xs ys : List X) (n : ℕ) → AreAlike f xs ys n → length xs ≤ n → length ys ≤ n
    → map f xs ≡ map f ys
alike_all f xs ys n a l m = sym (ap (map f) (take_all n xs l)) ∙ a.same ∙ ap (map f) (take_all n ys m)

-- lists of other lengths are not alike
pub other_lengths : {X Y : Type 0} (f : X → Y) (xs ys : List X) → (length xs ≡ length ys → ⊥) → map f xs ≡ map f ys → ⊥
other_lengths f xs ys other e = other (sym (length-map xs f) ∙ ap length e ∙ length-map ys f)

-- nor are lists that differ at a place
pub other_place : {X Y : Type 0} (f : X → Y) (xs ys : List X) (n : ℕ) (x y : X) → n < length xs → n < length ys
    → x ≡ get_or xs n x → y ≡ get_or ys n y → (f x ≡ f y → ⊥) → map f xs ≡ map f ys → ⊥
other_place f xs ys n x y l m ex ey other e =
    other (ap f ex ∙ sym (get_or-map f xs n x (f x) l) ∙ ap (λ zs. get_or zs n (f x)) e
    ∙ get_or-map f ys n y (f x) m ∙ ap f (sym ey))
