-- The columns of rows and of their ground instances.
use Rattle.std.proofs.Common.{◌≡◌, ℕ, ◌<◌, ◌+◌, ◌↔◌, zero, suc, List, [], ◌∷◌, ◌++◌, map, length, take, get_or, refl, ap, ap₂, sym, ◌∙◌, Option, Some, None, slice_get}
use Rattle.std.specs.Option.{option_map}
use Rattle.std.proofs.lemmas.Option.{slice_get-map}
use Rattle.psg_terms.proofs.Lists.{take_item}
use Rattle.psg_terms.specs.Terms.{Term}
use Rattle.psg_terms.specs.Signature.{Signature, HaveSorts}
use Rattle.psg_terms.specs.Instances.{Substitution, substitute, IsGroundInstance}
use Rattle.psg_unify.specs.Columns.{pick, picked}

map-pick : (f : Substitution) (o : Option Term) (rest : List Term) → map (substitute f) (pick o rest) ≡ pick (option_map (substitute f) o) (map (substitute f) rest)
map-pick f None rest = refl
map-pick f (Some x) rest = refl

pub map-picked : (f : Substitution) (row : List Term) (keep : List ℕ) → map (substitute f) (picked row keep) ≡ picked (map (substitute f) row) keep
map-picked f row [] = refl
map-picked f row (k ∷ keep) = map-pick f (slice_get row k) (picked row keep) ∙ ap₂ pick (sym (slice_get-map (substitute f) row k)) (map-picked f row keep)

pick-sorts : (sig : Signature) (row : List Term) (ss : List ℕ) (k : ℕ) → HaveSorts sig row ss → (rest : List Term) (rs : List ℕ) → HaveSorts sig rest rs → HaveSorts sig (pick (slice_get row k) rest) (pick (slice_get ss k) rs)
pick-sorts sig [] [] k h rest rs r = r
pick-sorts sig [] (s ∷ ss) k h rest rs r = absurd h
pick-sorts sig (t ∷ row) [] k h rest rs r = absurd h
pick-sorts sig (t ∷ row) (s ∷ ss) zero (a, h) rest rs r = (a, r)
pick-sorts sig (t ∷ row) (s ∷ ss) (suc k) (a, h) rest rs r = pick-sorts sig row ss k h rest rs r

pub picked-sorts : (sig : Signature) (row : List Term) (ss : List ℕ) (keep : List ℕ) → HaveSorts sig row ss → HaveSorts sig (picked row keep) (picked ss keep)
picked-sorts sig row ss [] h = tt
picked-sorts sig row ss (k ∷ keep) h = pick-sorts sig row ss k h (picked row keep) (picked ss keep) (picked-sorts sig row ss keep h)

-- the columns of a row have the columns of its ground instances
pub picked_ground : (sig : Signature) (row : List Term) (keep : List ℕ) (x : List Term) → IsGroundInstance sig (picked row keep) x ↔ ((full : List Term) × IsGroundInstance sig row full × (x ≡ picked full keep))
picked_ground sig row keep x = (
  λ (f, g, e). (map (substitute f) row, (f, g, refl), e ∙ map-picked f row keep),
  λ (full, (f, g, d), e). (f, g, e ∙ ap (λ r. picked r keep) d ∙ sym (map-picked f row keep)),
)

pick-append : {X : Type 0} (o : Option X) (xs ys : List X) → pick o (xs ++ ys) ≡ pick o xs ++ ys
pick-append None xs ys = refl
pick-append (Some x) xs ys = refl

-- one column more
pub picked-push : {X : Type 0} (row : List X) (keep : List ℕ) (k : ℕ) (x : X) → slice_get row k ≡ Some x → picked row (keep ++ k ∷ []) ≡ picked row keep ++ x ∷ []
picked-push row [] k x e = ap (λ o. pick o []) e
picked-push row (m ∷ keep) k x e = ap (pick (slice_get row m)) (picked-push row keep k x e) ∙ pick-append (slice_get row m) (picked row keep) (x ∷ [])

pub picked-more : {X : Type 0} (row : List X) (keep : List ℕ) (i k : ℕ) (x : X) (now more : List X) → i < length keep → k ≡ get_or keep i k → slice_get row k ≡ Some x → now ≡ picked row (take i keep) → more ≡ now ++ x ∷ [] → more ≡ picked row (take (i + 1) keep)
picked-more row keep i k x now more l e at d m =
    m ∙ ap (λ xs. xs ++ x ∷ []) d ∙ sym (picked-push row (take i keep) k x at) ∙ ap (picked row) (sym (take_item keep i k l e))
