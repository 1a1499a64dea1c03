-- Offers that begin with a text, taken one after the other.
use Rattle.std.proofs.Common.{◌≡◌, ℕ, ◌+◌, ◌<◌, ◌≤◌, Bool, true, false, Bor, cond, List, [], ◌∷◌, ◌++◌, length, drop}
use Rattle.std.proofs.Common.{get_or, Option, Some, None, slice_get, option_map, refl, ap, sym, ◌∙◌, append-nil}
use Rattle.std.proofs.Common.{append_assoc}
use Rattle.std.specs.Prelude.{eqb, map}
use Rattle.std.specs.List.{filter, starts_with}
use Rattle.std.proofs.lemmas.List.{drop_all, map-append}
use Rattle.std.proofs.lemmas.Option.{slice_get-map}
use Rattle.psg_terms.proofs.Lists.{drop_item}

module _ {S : Type 0} (p : List ℕ → Bool) (bytes : S → List ℕ) where
  taken : (b : Bool) (x : List ℕ) (xs : List (List ℕ)) → cond b (x ∷ xs) xs ≡ cond b (x ∷ []) [] ++ xs
  taken true x xs = refl
  taken false x xs = refl

  -- the first one, and those of the others
  first : (x : List ℕ) (xs : List (List ℕ)) → filter p (x ∷ xs) ≡ filter p (x ∷ []) ++ filter p xs
  first x xs = taken (p x) x (filter p xs)

  pub one_more : (offers : List S) (i : ℕ) (x : S) (text : List ℕ) (old new whole : List (List ℕ))
      → i < length offers → x ≡ get_or offers i x → text ≡ bytes x
      → new ≡ old ++ filter p (text ∷ []) → old ++ filter p (map bytes (drop i offers)) ≡ whole
      → new ++ filter p (map bytes (drop (i + 1) offers)) ≡ whole
  one_more offers i x text old new whole lt is t n h =
      let rest = filter p (map bytes (drop (i + 1) offers)) in
      ap (λ l. l ++ rest) (n ∙ ap (λ o. old ++ filter p (o ∷ [])) t)
      ∙ append_assoc old (filter p (bytes x ∷ [])) rest
      ∙ ap (λ l. old ++ l) (sym (first (bytes x) (map bytes (drop (i + 1) offers))))
      ∙ ap (λ l. old ++ filter p (map bytes l)) (sym (drop_item offers i x lt is))
      ∙ h

  pub all_shown : (offers : List S) (i : ℕ) (shown whole : List (List ℕ)) → length offers ≤ i
      → shown ++ filter p (map bytes (drop i offers)) ≡ whole → shown ≡ whole
  all_shown offers i shown whole le h =
      sym (append-nil shown) ∙ ap (λ l. shown ++ filter p (map bytes l)) (sym (drop_all i offers le)) ∙ h

-- ---- the offer of a number

module _ (xs : List (Bor (List ℕ))) (i : ℕ) (shown : List (List ℕ)) (same : map (λ t. t.now) xs ≡ shown) where
  there : slice_get shown i ≡ option_map (λ t. t.now) (slice_get xs i)
  there = ap (λ l. slice_get l i) (sym same) ∙ slice_get-map (λ t. t.now) xs i

  pub offer_there : (x : Bor (List ℕ)) (name : List ℕ) → slice_get xs i ≡ Some x → name ≡ x.now
      → Some name ≡ slice_get shown i
  offer_there x name at n = ap Some n ∙ sym (there ∙ ap (option_map (λ t. t.now)) at)

  pub no_offer : slice_get xs i ≡ None → None ≡ slice_get shown i
  no_offer at = sym (there ∙ ap (option_map (λ t. t.now)) at)

-- ---- an offer is added, or not

module _ (p : List ℕ → Bool) (old new : List (Bor (List ℕ))) (x : Bor (List ℕ)) (b : Bool) (test : b ≡ p x.now) where
  pub pushed : b ≡ true → new ≡ old ++ x ∷ [] → map (λ t. t.now) new ≡ map (λ t. t.now) old ++ filter p (x.now ∷ [])
  pushed so e =
      ap (map (λ t. t.now)) e ∙ map-append (λ t. t.now) old (x ∷ [])
      ∙ ap (λ c. map (λ t. t.now) old ++ cond c (x.now ∷ []) []) (sym so ∙ test)

  pub not_pushed : b ≡ false → new ≡ old → map (λ t. t.now) new ≡ map (λ t. t.now) old ++ filter p (x.now ∷ [])
  not_pushed so e =
      ap (map (λ t. t.now)) e ∙ sym (append-nil (map (λ t. t.now) old))
      ∙ ap (λ c. map (λ t. t.now) old ++ cond c (x.now ∷ []) []) (sym so ∙ test)

-- the offers that begin with a text, where it and they are the same
pub with_text : (shown offers others : List (List ℕ)) (text other : List ℕ)
    → shown ≡ filter (λ o. starts_with eqb o text) offers → text ≡ other → offers ≡ others
    → shown ≡ filter (λ o. starts_with eqb o other) others
with_text shown offers others text other h t o =
    h ∙ ap (λ x. filter (λ o. starts_with eqb o x) offers) t ∙ ap (filter (λ o. starts_with eqb o other)) o
