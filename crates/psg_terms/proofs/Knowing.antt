-- Known variables as an index set keeps them.
use Rattle.std.proofs.Common.{◌≡◌, ℕ, ◌+◌, ◌<◌, ◌||◌, not, true, false, cond, if◌then◌else◌, List, [], ◌∷◌, ◌++◌, length, refl, ap, sym, ◌∙◌, subst, inl, inr, Option, Some, None, MatchOption, nat_lt, arith}
use Rattle.std.proofs.lemmas.Bool.Decides.{nat_tests}
use Rattle.std.proofs.lemmas.Bool.{cases_Bool}
use Rattle.std.specs.List.{list_any, position_or_len, position}
use Rattle.psg_terms.specs.Canonical.{Variable, same_variable, is_noted, noted}
use Rattle.psg_terms.specs.Renaming.{key, keys, place}
use Rattle.psg_terms.specs.Matching.{same_key}
use Rattle.psg_terms.specs.declared.canonical.Key.{Key}
use Rattle.psg_terms.proofs.Variables.{true_false}
use Rattle.psg_terms.proofs.RenamingLaws.{keys-append, keys-length, place-end, noted-new}

pub any-noted : (k : Key) (ks : List Key) → list_any (same_key k) ks ≡ is_noted (key k) (keys ks)
any-noted k [] = refl
any-noted k (x ∷ ks) = ap (λ b. same_key k x || b) (any-noted k ks)

pub place-keys : (k : Key) (ks : List Key) → position_or_len (same_key k) ks ≡ place (key k) (keys ks)
place-keys k [] = refl
place-keys k (x ∷ ks) =
    let rest = place-keys k ks in
    elim (same_key k x) as (λ b. cond (not b) (1 + position_or_len (same_key k) ks) 0 ≡ cond b 0 (place (key k) (keys ks) + 1)) [ true ↦ refl | false ↦ omega arith ]

-- a list that is noted one more
pub noted-keys : (k : Key) (ks : List Key) → keys (if list_any (same_key k) ks then ks else ks ++ k ∷ []) ≡ noted (keys ks) (key k)
noted-keys k ks =
    elim (cases_Bool (is_noted (key k) (keys ks))) [
      | inl e ↦ ap (λ b. keys (if b then ks else ks ++ k ∷ [])) (any-noted k ks ∙ e) ∙ sym (ap (λ b. if b then keys ks else keys ks ++ key k ∷ []) e)
      | inr e ↦ ap (λ b. keys (if b then ks else ks ++ k ∷ [])) (any-noted k ks ∙ e) ∙ keys-append ks (k ∷ []) ∙ sym (ap (λ b. if b then keys ks else keys ks ++ key k ∷ []) e)
    ]

place-free : (x : Variable) (xs : List Variable) → is_noted x xs ≡ false → place x xs ≡ length xs
place-free x [] h = refl
place-free x (y ∷ ys) h =
    elim (cases_Bool (same_variable x y)) [
      | inl e ↦ absurd (true_false (sym (ap (λ b. b || is_noted x ys) e) ∙ h))
      | inr e ↦ (let later = place-free x ys (ap (λ b. b || is_noted x ys) (sym e) ∙ h) in ap (λ b. cond b 0 (place x ys + 1)) e ∙ omega arith)
    ]

pub place-within : (x : Variable) (xs : List Variable) → is_noted x xs ≡ true → place x xs < length xs
place-within x [] h = absurd (true_false (sym h))
place-within x (y ∷ ys) h =
    elim (cases_Bool (same_variable x y)) [
      | inl e ↦ (let z = ap (λ b. cond b 0 (place x ys + 1)) e in omega arith)
      | inr e ↦ (let later = place-within x ys (ap (λ b. b || is_noted x ys) (sym e) ∙ h) in let z = ap (λ b. cond b 0 (place x ys + 1)) e in omega arith)
    ]

-- the place stays when the variable is noted
pub place-noted : (x : Variable) (xs : List Variable) → place x (noted xs x) ≡ place x xs
place-noted x xs =
    elim (cases_Bool (is_noted x xs)) [
      | inl e ↦ ap (λ b. place x (if b then xs else xs ++ x ∷ [])) e
      | inr e ↦ ap (place x) (noted-new xs x e) ∙ place-end x xs e ∙ sym (place-free x xs e)
    ]

-- what a look-up of the place gives
abbrev pub IsPlaced : Variable → List Variable → Option ℕ → Type 0
IsPlaced x xs o = MatchOption o (is_noted x xs ≡ false) (λ i. (is_noted x xs ≡ true) × (i ≡ place x xs))

pub placed : (k : Key) (ks : List Key) (o : Option ℕ) → o ≡ position (same_key k) ks → IsPlaced (key k) (keys ks) o
placed k ks o h =
    let p = place-keys k ks in
    let l = keys-length ks in
    elim (cases_Bool (is_noted (key k) (keys ks))) [
      | inl e ↦ (let w = place-within (key k) (keys ks) e in
          let test : nat_lt (position_or_len (same_key k) ks) (length ks) ≡ true = grind (arith, nat_tests) in
          subst (IsPlaced (key k) (keys ks)) (sym (h ∙ ap (λ b. cond b (Some (position_or_len (same_key k) ks)) None) test)) (e, p))
      | inr e ↦ (let w = place-free (key k) (keys ks) e in
          let test : nat_lt (position_or_len (same_key k) ks) (length ks) ≡ false = grind (arith, nat_tests) in
          subst (IsPlaced (key k) (keys ks)) (sym (h ∙ ap (λ b. cond b (Some (position_or_len (same_key k) ks)) None) test)) e)
    ]
