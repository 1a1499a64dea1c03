-- Columns of rows: lists put together, and the entities of keys.
use Rattle.std.proofs.Common.{◌≡◌, inl, inr, true, List, [], ◌∷◌, ◌++◌, map, length, take, drop, refl, ap, ap₂, sym, ◌∙◌, subst, arith, length-append, true≢false, bytes_eq}
use Rattle.std.proofs.Math.Seq.{take-append_seam, drop-append_seam}
use Rattle.std.proofs.lemmas.Bool.{or_cases}
use Rattle.psg_terms.specs.Names.{is_among}
use Rattle.psg_grammar.specs.Keys.{Key}
use Rattle.psg_grammar.specs.Legal.{Entities}
use Rattle.psg_scope.proofs.KeyLists.{key_is}
use Rattle.psg_eval.proofs.Frames.{among_left, among_right, among_one}

-- lists with equally long fronts are equal part by part
pub front_same : {A : Type 0} (xs us ys vs : List A) → length xs ≡ length ys → xs ++ us ≡ ys ++ vs → (xs ≡ ys) × (us ≡ vs)
front_same xs us ys vs h e = (
  sym (take-append_seam xs us) ∙ ap₂ take h e ∙ take-append_seam ys vs,
  sym (drop-append_seam xs us) ∙ ap₂ drop h e ∙ drop-append_seam ys vs,
)

-- and with equally long ends
pub end_same : {A : Type 0} (xs us ys vs : List A) → length us ≡ length vs → xs ++ us ≡ ys ++ vs → (xs ≡ ys) × (us ≡ vs)
end_same xs us ys vs e h = front_same xs us ys vs (omega (arith, e, ap length h, length-append xs us, length-append ys vs)) h

-- the same entities for each key of the list
pub map_same : (g h : Entities) (keys : List Key) → ((n : Key) → is_among keys n ≡ true → g n ≡ h n) → map g keys ≡ map h keys
map_same g h [] e = refl
map_same g h (n ∷ keys) e = ap₂ (λ x xs. x ∷ xs) (e n (among_left (n ∷ []) keys n (among_one n))) (map_same g h keys (λ m a. e m (among_right (n ∷ []) keys m a)))

pub map_same_back : (g h : Entities) (keys : List Key) → map g keys ≡ map h keys → (n : Key) → is_among keys n ≡ true → g n ≡ h n
map_same_back g h [] e n a = absurd (true≢false (sym a))
map_same_back g h (m ∷ keys) e n a = elim (or_cases (bytes_eq m n) (is_among keys n) a) [
  | inl same ↦ let is : m ≡ n = key_is m n same in subst (λ k. g k ≡ h k) is cc
  | inr later ↦ let rest : map g keys ≡ map h keys = cc in map_same_back g h keys rest n later
]
