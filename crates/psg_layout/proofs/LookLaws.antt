-- A layout that is looked up.
use Rattle.std.proofs.Common.{◌≡◌, ℕ, ◌+◌, ◌<◌, ◌||◌, Bool, true, false, cond, List, [], ◌∷◌, length, take, get_or, refl, sym, ap, ◌∙◌}
use Rattle.std.specs.List.{list_any}
use Rattle.std.proofs.lemmas.List.{take_more}
use Rattle.std.proofs.lemmas.List.Folds.{list_any-append}
use Rattle.std.proofs.Math.Bool.{or-false}

found_more : (a b x : Bool) → cond {A = Bool} x true (a || b) ≡ (a || (b || x))
found_more true b true = refl
found_more true b false = refl
found_more false true true = refl
found_more false true false = refl
found_more false false true = refl
found_more false false false = refl

-- one more item of a list is kept
pub any_more : {A : Type 0} (test : A → Bool) (xs : List A) (i : ℕ) (d : A) (a has now : Bool) → i < length xs
    → has ≡ (a || list_any test (take i xs)) → now ≡ cond {A = Bool} (test (get_or xs i d)) true has → now ≡ (a || list_any test (take (i + 1) xs))
any_more test xs i d a has now l e f =
    f ∙ ap (λ b. cond {A = Bool} (test (get_or xs i d)) true b) e ∙ found_more a (list_any test (take i xs)) (test (get_or xs i d))
    ∙ ap (λ b. a || b) (ap (λ b. list_any test (take i xs) || b) (sym (or-false (test (get_or xs i d))))
    ∙ sym (list_any-append test (take i xs) (get_or xs i d ∷ [])) ∙ ap (list_any test) (sym (take_more xs i d l)))
