-- Whether something of a list passes a test, by a walk.
use Rattle.std.proofs.Common.{◌≡◌, ◌↔◌, ℕ, zero, suc, ◌+◌, ◌<◌, Bool, true, false, ◌||◌, List, [], ◌∷◌, drop, get_or, length, bytes_eq, refl, ap, sym, ◌∙◌, subst, IsTrue, arith}
use Rattle.std.specs.Cmp.{both_ways}
use Rattle.std.specs.List.{list_any}
use Rattle.psg_terms.specs.Names.{Name, is_among}
use Rattle.psg_scope.proofs.KeyLists.{key_is, key_refl}

pub same_name : (b : Bool) (m n : Name) → (IsTrue b ↔ (m ≡ n)) → bytes_eq m n ≡ b
same_name b m n tells = both_ways (bytes_eq m n) b (λ e. tells.1 (key_is m n e)) (λ e. subst (λ k. bytes_eq m k ≡ true) (tells.0 e) (key_refl m))

pub any_next : {X : Type 0} (test : X → Bool) (xs : List X) (i : ℕ) (x : X) → i < length xs → x ≡ get_or xs i x
    → list_any test (drop i xs) ≡ (test x || list_any test (drop (i + 1) xs))
any_next test [] i x l e = absurd (omega (arith, l))
any_next test (y ∷ xs) zero x l e = ap (λ z. test z || list_any test xs) (sym e)
any_next test (y ∷ xs) (suc i) x l e =
    let n : suc i + 1 ≡ suc (i + 1) = omega arith in
    any_next test xs i x (omega (arith, l)) e ∙ ap (λ j. test x || list_any test (drop j (y ∷ xs))) (sym n)

pub any_found : {X : Type 0} (test : X → Bool) (xs : List X) (i : ℕ) (x : X) → i < length xs → x ≡ get_or xs i x → test x ≡ true
    → list_any test (drop i xs) ≡ list_any test xs → true ≡ list_any test xs
any_found test xs i x l e is so_far = sym (ap (λ b. b || list_any test (drop (i + 1) xs)) is) ∙ sym (any_next test xs i x l e) ∙ so_far

pub any_passed : {X : Type 0} (test : X → Bool) (xs : List X) (i : ℕ) (x : X) → i < length xs → x ≡ get_or xs i x → test x ≡ false
    → list_any test (drop i xs) ≡ list_any test xs → list_any test (drop (i + 1) xs) ≡ list_any test xs
any_passed test xs i x l e is so_far = sym (ap (λ b. b || list_any test (drop (i + 1) xs)) is) ∙ sym (any_next test xs i x l e) ∙ so_far

pub any_end : {X : Type 0} (test : X → Bool) (xs : List X) (i : ℕ) → i ≡ length xs → list_any test (drop i xs) ≡ list_any test xs → false ≡ list_any test xs
any_end {X = X} test xs i e so_far = sym (none xs i e) ∙ so_far where
  none : (ys : List X) (j : ℕ) → j ≡ length ys → list_any test (drop j ys) ≡ false
  none [] zero e = refl
  none [] (suc j) e = refl
  none (y ∷ ys) zero e = absurd (omega (arith, e))
  none (y ∷ ys) (suc j) e = none ys j (omega (arith, e))

-- a name among others is one that some of them is
pub among_any : (ns : List Name) (n : Name) → list_any (λ m. bytes_eq m n) ns ≡ is_among ns n
among_any [] n = refl
among_any (m ∷ ns) n = ap (λ b. bytes_eq m n || b) (among_any ns n)
