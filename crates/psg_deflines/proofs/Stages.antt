-- A walk from left to right whose result so far is the only one.
use Rattle.std.proofs.Common.{◌≡◌, List, [], ◌∷◌, ◌++◌, refl, ap, sym, ◌∙◌, subst, append_assoc, append-nil}
use Rattle.psg_deflines.specs.Only.{IsOnly}

-- What all gives is what is done, and then what the rest gives.
pub record IsReadTo {S Y : Type 0} (R : S → List Y → Type 0) (all : S) (done : List Y) (rest : S) : Type 0 where
  pub sound : (tail : List Y) → R rest tail → R all (done ++ tail)
  pub complete : (whole : List Y) → R all whole → (tail : List Y) × (whole ≡ done ++ tail) × R rest tail

pub read-none : {S Y : Type 0} (R : S → List Y → Type 0) (all : S) → IsReadTo R all [] all
read-none R all = record { sound = λ tail h. h; complete = λ whole h. (whole, refl, h) }

-- one more item
pub read-more : {S Y : Type 0} (R : S → List Y → Type 0) (all : S) (done : List Y) (rest : S) (y : Y) (next : S) → IsReadTo R all done rest
    → ((tail : List Y) → R next tail → R rest (y ∷ tail)) → ((whole : List Y) → R rest whole → (tail : List Y) × (whole ≡ y ∷ tail) × R next tail) → IsReadTo R all (done ++ y ∷ []) next
read-more R all done rest y next h sound complete = record {
  sound = λ tail k. subst (R all) (sym (append_assoc done (y ∷ []) tail)) (h.sound (y ∷ tail) (sound tail k));
  complete = λ whole k.
      let left = h.complete whole k in
      let more = complete left.0 left.2 in
      (more.0, left.1 ∙ ap (λ xs. done ++ xs) more.1 ∙ sym (append_assoc done (y ∷ []) more.0), more.2);
}

-- nothing more
pub read-skip : {S Y : Type 0} (R : S → List Y → Type 0) (all : S) (done : List Y) (rest next : S) → IsReadTo R all done rest
    → ((tail : List Y) → R next tail → R rest tail) → ((tail : List Y) → R rest tail → R next tail) → IsReadTo R all done next
read-skip R all done rest next h sound complete = record {
  sound = λ tail k. h.sound tail (sound tail k);
  complete = λ whole k. let left = h.complete whole k in (left.0, left.1, complete left.0 left.2);
}

-- the end
pub read-all : {S Y : Type 0} (R : S → List Y → Type 0) (all : S) (done : List Y) (rest : S) → IsReadTo R all done rest → R rest [] → ((tail : List Y) → R rest tail → tail ≡ []) → IsOnly (R all) done
read-all R all done rest h end empty = record {
  is = subst (R all) (append-nil done) (h.sound [] end);
  only = λ whole k. let left = h.complete whole k in left.1 ∙ ap (λ xs. done ++ xs) (empty left.0 left.2) ∙ append-nil done;
}

-- a fault at the rest
pub read-not : {S Y : Type 0} (R : S → List Y → Type 0) (all : S) (done : List Y) (rest : S) → IsReadTo R all done rest → ((tail : List Y) → R rest tail → ⊥) → (whole : List Y) → R all whole → ⊥
read-not R all done rest h none whole k = let left = h.complete whole k in none left.0 left.2
