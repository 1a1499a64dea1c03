-- The table of the phyla that have placeholders.
use Rattle.std.proofs.Common.{◌≡◌, ◌↔◌, ◌<◌, ◌⊎◌, inl, inr, ℕ, zero, suc, ◌==◌, Bool, true, false, List, [], ◌∷◌, ◌++◌, Some, length, get_or, slice_get, refl, sym, ap, ◌∙◌, subst, arith, true≢false, Vec, IfSome}
use Rattle.std.proofs.lemmas.Bool.{cases_Bool}
use Rattle.std.specs.declared.alloc.Global.{Global}
use Rattle.std.proofs.lemmas.Bool.Decides.{eqb_tells}
use Rattle.std.proofs.lemmas.Option.{none-some, slice_get-get_or}
use Rattle.psg_grammar.specs.declared.types.Kind.{Kind}
use Rattle.psg_grammar.specs.declared.types.Kind.TheVariants as kinds
use Rattle.psg_grammar.specs.declared.types.Definition.{Definition}
use Rattle.psg_grammar.specs.Declaring.{Declares, is_declaring, HasHoles}
use Rattle.psg_grammar.specs.DeclaringTables.{AreSpacesOf}

-- what stands in a list with one more element
pub got_pushed : {X : Type 0} (xs : List X) (x y : X) (p : ℕ) → slice_get (xs ++ x ∷ []) p ≡ Some y → (slice_get xs p ≡ Some y) ⊎ ((p ≡ length xs) × (x ≡ y))
got_pushed [] x y zero e = inr (refl, let s : Some x ≡ Some y = e in cc)
got_pushed [] x y (suc p) e = absurd (none-some y e)
got_pushed (z ∷ xs) x y zero e = inl e
got_pushed (z ∷ xs) x y (suc p) e = elim (got_pushed xs x y p e) [ inl h ↦ inl h | inr (h, s) ↦ inr (ap suc h, s) ]

some_not_none : (n : ℕ) → (suc n == 0) ≡ true → ⊥
some_not_none n e = elim (eqb_tells (suc n) 0) [ inl h ↦ absurd (omega (arith, h.1)) | inr h ↦ true≢false (sym e ∙ h.0) ]

module _ (def : Definition) (p : ℕ) (search : (space : ℕ) (kind : Kind) → (is_declaring def space kind ≡ true) ↔ Declares def space kind) where
  none_declared : AreSpacesOf def p [] → HasHoles def (kinds.Phylum p)
  none_declared are s = elim (cases_Bool (is_declaring def s (kinds.Phylum p))) [
    | inl same ↦ absurd (let (k, lt, e) = (are.exact s).1 ((search s (kinds.Phylum p)).0 same) in omega (arith, lt))
    | inr other ↦ other
  ]

  one_declared : (x : ℕ) (xs : List ℕ) → AreSpacesOf def p (x ∷ xs) → HasHoles def (kinds.Phylum p) → ⊥
  one_declared x xs are h = true≢false (sym ((search x (kinds.Phylum p)).1 ((are.exact x).0 (0, omega arith, refl))) ∙ h x)

  holes_iff : (xs : List ℕ) (b : Bool) → b ≡ (length xs == 0) → AreSpacesOf def p xs → (b ≡ true) ↔ HasHoles def (kinds.Phylum p)
  holes_iff [] b e are = (λ t. none_declared are, λ h. e)
  holes_iff (x ∷ xs) b e are = (λ t. absurd (some_not_none (length xs) (sym e ∙ t)), λ h. absurd (one_declared x xs are h))

module _ (def : Definition) (found : List (Vec ℕ Global)) (exact : (p : ℕ) → IfSome (slice_get found p) (λ v. AreSpacesOf def p v.items)) (search : (space : ℕ) (kind : Kind) → (is_declaring def space kind ≡ true) ↔ Declares def space kind) where
  pub holes_more : (old new : List Bool) (b : Bool) (v : Vec ℕ Global) (n : ℕ) → new ≡ old ++ b ∷ [] → length old ≡ n → n < length found → v ≡ get_or found n v → b ≡ (length v.items == 0)
      → ((p : ℕ) (c : Bool) → slice_get old p ≡ Some c → (c ≡ true) ↔ HasHoles def (kinds.Phylum p)) → (p : ℕ) (c : Bool) → slice_get new p ≡ Some c → (c ≡ true) ↔ HasHoles def (kinds.Phylum p)
  holes_more old new b v n e count lt is empty before p c h = elim (got_pushed old b c p (ap (λ xs. slice_get xs p) (sym e) ∙ h)) [
    | inl there ↦ before p c there
    | inr (at, same) ↦
        let place : n ≡ p = sym (at ∙ count) in
        let there : slice_get found n ≡ Some v = slice_get-get_or found n v lt ∙ ap Some (sym is) in
        let are : AreSpacesOf def n v.items = subst (λ o. IfSome o (λ w. AreSpacesOf def n w.items)) there (exact n) in
        subst (λ q. (c ≡ true) ↔ HasHoles def (kinds.Phylum q)) place (subst (λ d. (d ≡ true) ↔ HasHoles def (kinds.Phylum n)) same (holes_iff def n search v.items b empty are))
  ]
