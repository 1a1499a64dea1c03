-- A name that stands once has one place.
use Rattle.std.proofs.Common.{◌≡◌, ℕ, false, zero, suc, List, [], ◌∷◌, map, ap, sym, ◌∙◌, subst, Some, slice_get}
use Rattle.psg_terms.proofs.Lists.{slice_get-map_some}
use Rattle.psg_terms.specs.Names.{Name, has_twice}
use Rattle.psg_terms.proofs.Spelled.{one_place}

-- two lists with one list of names, each once, have a name at one place
module _ {X : Type 0} (name : X → Name) (names : List Name) (once : has_twice names ≡ false) (xs ys : List X)
    (left : map name xs ≡ names) (right : map name ys ≡ names) where
  pub named_place : (n : Name) (i j : ℕ) (x y : X) → slice_get xs i ≡ Some x → name x ≡ n
      → slice_get ys j ≡ Some y → name y ≡ n → i ≡ j
  named_place n i j x y at e at' f =
      one_place names i j n once (ap (λ l. slice_get l i) (sym left) ∙ slice_get-map_some name xs i x at ∙ ap Some e) (ap
      (λ l. slice_get l j) (sym right) ∙ slice_get-map_some name ys j y at' ∙ ap Some f)

-- place by place
abbrev pub Together : {X : Type 0} → (X → X → Type 0) → List X → List X → Type 0
Together R [] [] = Unit {0}
Together R [] (y ∷ ys) = ⊥
Together R (x ∷ xs) [] = ⊥
Together R (x ∷ xs) (y ∷ ys) = R x y × Together R xs ys

pub together-at : {X : Type 0} (R : X → X → Type 0) (xs ys : List X) (i : ℕ) (x y : X) → Together R xs ys
    → slice_get xs i ≡ Some x → slice_get ys i ≡ Some y → R x y
together-at R [] [] i x y h a b = absurd (cc)
together-at R [] (w ∷ ys) i x y h a b = absurd h
together-at R (z ∷ xs) [] i x y h a b = absurd h
together-at R (z ∷ xs) (w ∷ ys) zero x y h a b =
    let e : z ≡ x = cc in
    let f : w ≡ y = cc in
    subst (λ v. R v y) e (subst (R z) f h.0)
together-at R (z ∷ xs) (w ∷ ys) (suc i) x y h a b = together-at R xs ys i x y h.1 a b
