-- The items of a list of values.
use Rattle.std.proofs.Common.{◌≡◌, ◌-◌, ℕ, zero, suc, List, [], ◌∷◌, length, get_or, true, false, None, Some, inl, inr, refl, sym, ◌∙◌, ap, subst, arith}
use Rattle.std.specs.Prelude.{◌==◌, ◌||◌}
use Rattle.std.proofs.lemmas.Bool.{false≢true}
use Rattle.std.proofs.lemmas.Bool.Decides.{eqb_tells, nat_tests}
use Rattle.std.specs.List.{list_any}
use Rattle.serde_json.specs.Find.{as_str}
use Rattle.serde_json.specs.View.{items_view, view}
use Rattle.serde_json.specs.declared.value.Value.{Value}
use Rattle.psg_server.specs.Fields.{has_text, is_empty, is_text, last_of}

pub any_is : (name : List ℕ) (vs : List Value)
    → list_any (λ v. is_text name (as_str (view v))) vs ≡ has_text name (items_view vs)
any_is name [] = refl
any_is name (v ∷ vs) = ap (λ b. is_text name (as_str (view v)) || b) (any_is name vs)

pub no_items_is : (vs : List Value) → (length vs == 0) ≡ is_empty (Some (items_view vs))
no_items_is [] = refl
no_items_is (v ∷ vs) = elim (eqb_tells (suc (length vs)) 0) [
  | inl same ↦ absurd (let e : suc (length vs) ≡ 0 = same.1 in omega (arith, e))
  | inr other ↦ other.0
]

pub last_is : (vs : List Value) (d : Value) → (length vs ≡ 0 → ⊥)
    → Some (view (get_or vs (length vs - 1) d)) ≡ last_of (items_view vs)
last_is [] d some = absurd (some refl)
last_is (v ∷ []) d some = refl
last_is (v ∷ (w ∷ vs)) d some =
    let next : suc (length (w ∷ vs) - 1) ≡ length (v ∷ (w ∷ vs)) - 1 = omega arith in
    let same : Some (view (get_or (w ∷ vs) (length (w ∷ vs) - 1) d)) ≡ last_of (items_view (w ∷ vs)) =
    last_is (w ∷ vs) d (λ e. absurd (omega (arith, e))) in
    subst (λ n. Some (view (get_or (v ∷ (w ∷ vs)) n d)) ≡ last_of (items_view (w ∷ vs))) next same

pub last_none : (vs : List Value) → (length vs == 0) ≡ true → None ≡ last_of (items_view vs)
last_none [] none = refl
last_none (v ∷ vs) none = absurd (let e : suc (length vs) ≡ 0 = grind (arith, nat_tests, none) in omega (arith, e))

pub last_some : (vs : List Value) (n : ℕ) (d : Value) → (length vs == 0) ≡ false → n ≡ length vs
    → d ≡ get_or vs (n - 1) d → Some (view d) ≡ last_of (items_view vs)
last_some [] n d some size at = absurd (false≢true (sym some))
last_some (v ∷ vs) n d some size at =
    ap (λ (w : Value). Some (view w)) (at ∙ ap (λ (k : ℕ). get_or (v ∷ vs) (k - 1) d) size)
    ∙ last_is (v ∷ vs) d (λ z. absurd (omega (arith, z)))
