-- Numbers of terminals.
use Rattle.std.proofs.Common.{◌≡◌, ◌⊎◌, inl, inr, ℕ, suc, ◌+◌, ◌-◌, ◌<◌, ◌≤◌, ◌==◌, true, false, cond, List, [], ◌∷◌, length, map, Option, Some, None, slice_get, refl, ap, ap₂, sym, ◌∙◌, arith, true≢false, eqb-true}
use Rattle.std.specs.Prelude.{option_map, nat_lt, bytes_eq, codes}
use Rattle.std.proofs.lemmas.Bool.{cases_Bool, ltb-true}
use Rattle.std.proofs.lemmas.Option.{slice_get_past, slice_get_within, same_Some}
use Rattle.std.proofs.lemmas.List.{length-map}
use Rattle.psg_terms.specs.Names.{Name}
use Rattle.psg_grammar.specs.declared.types.Phylum.{Phylum}
use Rattle.psg_grammar.specs.declared.types.Definition.{Definition}
use Rattle.psg_class.specs.Terminals.{Terminal, fixed, a_name, a_number, a_text, a_hole, a_more, stray}
use Rattle.psg_class.specs.Refusal.{place_of, is_before, terminal_text}
use Rattle.psg_class.specs.Numbers.{place_in, phylum_names, number_of, word_at, words_before, is_number_before, number_text, other_text, hole_text, text_or}
use Rattle.psg_class.proofs.WordLaws.{place_at}
use Rattle.psg_class.proofs.FormLaws.{map_get}

nat_less : (a b : ℕ) → a < b → nat_lt a b ≡ true
nat_less a b h = elim (cases_Bool (nat_lt a b)) [ inl e ↦ e | inr e ↦ absurd (grind (arith, e, h)) ]

not_less : (a b : ℕ) → (a < b → ⊥) → nat_lt a b ≡ false
not_less a b h = elim (cases_Bool (nat_lt a b)) [ inl e ↦ absurd (h (ltb-true a b e)) | inr e ↦ e ]

same_lt : (a b c d : ℕ) → (a < b → c < d) → (c < d → a < b) → nat_lt a b ≡ nat_lt c d
same_lt a b c d h k = elim (cases_Bool (nat_lt a b)) [
  | inl e ↦ e ∙ sym (nat_less c d (h (ltb-true a b e)))
  | inr e ↦ e ∙ sym (not_less c d (λ lt. true≢false (sym (nat_less a b (k lt)) ∙ e)))
]

mapped : (f : ℕ → ℕ) (o : Option ℕ) (k : ℕ) → option_map f o ≡ Some k → (j : ℕ) × (o ≡ Some j) × (k ≡ f j)
mapped f None k e = absurd (let x : None ≡ Some k = e in cc)
mapped f (Some j) k e = (j, refl, sym (same_Some (f j) k e))

not_equal : (a b : ℕ) → (a ≡ b → ⊥) → (a == b) ≡ false
not_equal a b h = elim (cases_Bool (a == b)) [ inl e ↦ absurd (h (eqb-true a b e)) | inr e ↦ e ]

other_late : (phyla : List Phylum) (k : ℕ) → 3 ≤ k → other_text phyla k ≡ hole_text (slice_get phyla (k - 3))
other_late phyla k h =
    ap (λ b. cond b (codes "name") (cond (k == 1) (codes "number") (cond (k == 2) (codes "text") (hole_text (slice_get phyla (k - 3)))))) (not_equal k 0 (λ e. omega (arith, e, h)))
    ∙ ap (λ b. cond b (codes "number") (cond (k == 2) (codes "text") (hole_text (slice_get phyla (k - 3))))) (not_equal k 1 (λ e. omega (arith, e, h)))
    ∙ ap (λ b. cond b (codes "text") (hole_text (slice_get phyla (k - 3)))) (not_equal k 2 (λ e. omega (arith, e, h)))

module _ (def : Definition) (words : List Name) where
  hole_number : (v : Name) (k : ℕ) → number_of def words (a_hole v) ≡ Some k → (p : ℕ) × (k ≡ 3 + p) × (p < length def.phyla)
  hole_number v k e =
      let (p, o, f) = mapped (λ p. 3 + p) (place_in (phylum_names def) v) k e in
      let at = place_at (phylum_names def) v p o in
      let lt : p < length (phylum_names def) = slice_get_within (phylum_names def) p v at in
      let same : length (phylum_names def) ≡ length def.phyla = length-map def.phyla (λ (x : Phylum). x.name) in
      (p, f, omega (arith, lt, same))

  hole_place : (v : Name) (k p : ℕ) → number_of def words (a_hole v) ≡ Some k → k ≡ 3 + p → place_in (phylum_names def) v ≡ Some p
  hole_place v k p e x = let (q, o, f) = mapped (λ q. 3 + q) (place_in (phylum_names def) v) k e in o ∙ ap Some (omega (arith, f, x))

  place_same : (v : Name) (p : ℕ) → place_in (phylum_names def) v ≡ Some p → place_of def.phyla v ≡ p
  place_same v p e = of def.phyla p e where
    of : (xs : List Phylum) (p : ℕ) → place_in (map (λ (x : Phylum). x.name) xs) v ≡ Some p → place_of xs v ≡ p
    of [] p e = absurd (let x : None ≡ Some p = e in cc)
    of (x ∷ xs) p e = elim (cases_Bool (bytes_eq x.name v)) [
      | inl t ↦ ap (λ b. cond b 0 (suc (place_of xs v))) t ∙ same_Some 0 p (sym (ap (λ b. cond b (Some 0) (option_map (λ k. suc k) (place_in (map (λ (y : Phylum). y.name) xs) v))) t) ∙ e)
      | inr t ↦ (let (j, o, f) = mapped (λ k. suc k) (place_in (map (λ (y : Phylum). y.name) xs) v) p (sym (ap (λ b. cond b (Some 0) (option_map (λ k. suc k) (place_in (map (λ (y : Phylum). y.name) xs) v))) t) ∙ e) in
          ap (λ b. cond b 0 (suc (place_of xs v))) t ∙ ap (λ n. suc n) (of xs j o) ∙ sym f)
    ]

  word_of : (w : Name) (k : ℕ) → number_of def words (fixed w) ≡ Some k → (j : ℕ) × (k ≡ length def.phyla + 4 + j) × (slice_get words j ≡ Some w)
  word_of w k e = let (j, o, f) = mapped (λ j. length def.phyla + 4 + j) (place_in words w) k e in (j, f, place_at words w j o)

  -- all but words
  abbrev IsLow : Terminal → Type 0
  IsLow (fixed w) = ⊥
  IsLow stray = ⊥
  IsLow _ = Unit {0}

  low_small : (t : Terminal) (k : ℕ) → IsLow t → number_of def words t ≡ Some k → k < length def.phyla + 4
  low_small (fixed w) k h e = absurd h
  low_small a_name k h e = let x = same_Some 0 k e in omega (arith, x)
  low_small a_number k h e = let x = same_Some 1 k e in omega (arith, x)
  low_small a_text k h e = let x = same_Some 2 k e in omega (arith, x)
  low_small (a_hole v) k h e = let (p, x, y) = hole_number v k e in omega (arith, x, y)
  low_small a_more k h e = let x = same_Some (length def.phyla + 3) k e in omega (arith, x)
  low_small stray k h e = absurd h

  low_word : (k : ℕ) → k < length def.phyla + 4 → word_at (length def.phyla + 4) words k ≡ None
  low_word k h = ap (λ b. cond b None (slice_get words (k - (length def.phyla + 4)))) (nat_less k (length def.phyla + 4) h)

  high_word : (w : Name) (k : ℕ) → number_of def words (fixed w) ≡ Some k → word_at (length def.phyla + 4) words k ≡ Some w
  high_word w k e =
      let (j, x, y) = word_of w k e in
      ap (λ b. cond b None (slice_get words (k - (length def.phyla + 4)))) (not_less k (length def.phyla + 4) (λ lt. omega (arith, x, lt))) ∙ ap (slice_get words) (omega (arith, x)) ∙ y

  low_before : (t u : Terminal) (k m : ℕ) → number_of def words t ≡ Some k → number_of def words u ≡ Some m → IsLow t → IsLow u → is_before def t u ≡ nat_lt k m
  low_before (fixed w) u k m e f g h = absurd g
  low_before stray u k m e f g h = absurd g
  low_before t (fixed w) k m e f g h = absurd h
  low_before t stray k m e f g h = absurd h
  low_before a_name a_name k m e f g h = let x = same_Some _ k e in let z = same_Some _ m f in same_lt 1 1 k m (λ lt. omega (arith, x, z, lt)) (λ lt. omega (arith, x, z, lt))
  low_before a_name a_number k m e f g h = let x = same_Some _ k e in let z = same_Some _ m f in same_lt 1 2 k m (λ lt. omega (arith, x, z, lt)) (λ lt. omega (arith, x, z, lt))
  low_before a_name a_text k m e f g h = let x = same_Some _ k e in let z = same_Some _ m f in same_lt 1 3 k m (λ lt. omega (arith, x, z, lt)) (λ lt. omega (arith, x, z, lt))
  low_before a_name (a_hole v') k m e f g h = let x = same_Some _ k e in let (q, z, w) = hole_number v' m f in same_lt 1 4 k m (λ lt. omega (arith, x, z, w, lt)) (λ lt. omega (arith, x, z, w, lt))
  low_before a_name a_more k m e f g h = let x = same_Some _ k e in let z = same_Some _ m f in same_lt 1 5 k m (λ lt. omega (arith, x, z, lt)) (λ lt. omega (arith, x, z, lt))
  low_before a_number a_name k m e f g h = let x = same_Some _ k e in let z = same_Some _ m f in same_lt 2 1 k m (λ lt. omega (arith, x, z, lt)) (λ lt. omega (arith, x, z, lt))
  low_before a_number a_number k m e f g h = let x = same_Some _ k e in let z = same_Some _ m f in same_lt 2 2 k m (λ lt. omega (arith, x, z, lt)) (λ lt. omega (arith, x, z, lt))
  low_before a_number a_text k m e f g h = let x = same_Some _ k e in let z = same_Some _ m f in same_lt 2 3 k m (λ lt. omega (arith, x, z, lt)) (λ lt. omega (arith, x, z, lt))
  low_before a_number (a_hole v') k m e f g h = let x = same_Some _ k e in let (q, z, w) = hole_number v' m f in same_lt 2 4 k m (λ lt. omega (arith, x, z, w, lt)) (λ lt. omega (arith, x, z, w, lt))
  low_before a_number a_more k m e f g h = let x = same_Some _ k e in let z = same_Some _ m f in same_lt 2 5 k m (λ lt. omega (arith, x, z, lt)) (λ lt. omega (arith, x, z, lt))
  low_before a_text a_name k m e f g h = let x = same_Some _ k e in let z = same_Some _ m f in same_lt 3 1 k m (λ lt. omega (arith, x, z, lt)) (λ lt. omega (arith, x, z, lt))
  low_before a_text a_number k m e f g h = let x = same_Some _ k e in let z = same_Some _ m f in same_lt 3 2 k m (λ lt. omega (arith, x, z, lt)) (λ lt. omega (arith, x, z, lt))
  low_before a_text a_text k m e f g h = let x = same_Some _ k e in let z = same_Some _ m f in same_lt 3 3 k m (λ lt. omega (arith, x, z, lt)) (λ lt. omega (arith, x, z, lt))
  low_before a_text (a_hole v') k m e f g h = let x = same_Some _ k e in let (q, z, w) = hole_number v' m f in same_lt 3 4 k m (λ lt. omega (arith, x, z, w, lt)) (λ lt. omega (arith, x, z, w, lt))
  low_before a_text a_more k m e f g h = let x = same_Some _ k e in let z = same_Some _ m f in same_lt 3 5 k m (λ lt. omega (arith, x, z, lt)) (λ lt. omega (arith, x, z, lt))
  low_before (a_hole v) a_name k m e f g h = let (p, x, y) = hole_number v k e in let z = same_Some _ m f in same_lt 4 1 k m (λ lt. omega (arith, x, z, y, lt)) (λ lt. omega (arith, x, z, y, lt))
  low_before (a_hole v) a_number k m e f g h = let (p, x, y) = hole_number v k e in let z = same_Some _ m f in same_lt 4 2 k m (λ lt. omega (arith, x, z, y, lt)) (λ lt. omega (arith, x, z, y, lt))
  low_before (a_hole v) a_text k m e f g h = let (p, x, y) = hole_number v k e in let z = same_Some _ m f in same_lt 4 3 k m (λ lt. omega (arith, x, z, y, lt)) (λ lt. omega (arith, x, z, y, lt))
  low_before (a_hole v) (a_hole v') k m e f g h = let (p, x, y) = hole_number v k e in let (q, z, w) = hole_number v' m f in let i = place_same v p (hole_place v k p e x) in let j = place_same v' q (hole_place v' m q f z) in same_lt (place_of def.phyla v) (place_of def.phyla v') k m (λ lt. omega (arith, lt, x, z, i, j)) (λ lt. omega (arith, lt, x, z, i, j))
  low_before (a_hole v) a_more k m e f g h = let (p, x, y) = hole_number v k e in let z = same_Some _ m f in same_lt 4 5 k m (λ lt. omega (arith, x, z, y, lt)) (λ lt. omega (arith, x, z, y, lt))
  low_before a_more a_name k m e f g h = let x = same_Some _ k e in let z = same_Some _ m f in same_lt 5 1 k m (λ lt. omega (arith, x, z, lt)) (λ lt. omega (arith, x, z, lt))
  low_before a_more a_number k m e f g h = let x = same_Some _ k e in let z = same_Some _ m f in same_lt 5 2 k m (λ lt. omega (arith, x, z, lt)) (λ lt. omega (arith, x, z, lt))
  low_before a_more a_text k m e f g h = let x = same_Some _ k e in let z = same_Some _ m f in same_lt 5 3 k m (λ lt. omega (arith, x, z, lt)) (λ lt. omega (arith, x, z, lt))
  low_before a_more (a_hole v') k m e f g h = let x = same_Some _ k e in let (q, z, w) = hole_number v' m f in same_lt 5 4 k m (λ lt. omega (arith, x, z, w, lt)) (λ lt. omega (arith, x, z, w, lt))
  low_before a_more a_more k m e f g h = let x = same_Some _ k e in let z = same_Some _ m f in same_lt 5 5 k m (λ lt. omega (arith, x, z, lt)) (λ lt. omega (arith, x, z, lt))

  is_low : (t : Terminal) (k : ℕ) → number_of def words t ≡ Some k → IsLow t ⊎ ((w : Name) × (t ≡ fixed w))
  is_low (fixed w) k e = inr (w, refl)
  is_low a_name k e = inl tt
  is_low a_number k e = inl tt
  is_low a_text k e = inl tt
  is_low (a_hole v) k e = inl tt
  is_low a_more k e = inl tt
  is_low stray k e = absurd (let x : ◌≡◌ {A = Option ℕ} None (Some k) = e in cc)

  low_first : (t : Terminal) (w : Name) → IsLow t → is_before def (fixed w) t ≡ true
  low_first (fixed v) w h = absurd h
  low_first a_name w h = refl
  low_first a_number w h = refl
  low_first a_text w h = refl
  low_first (a_hole v) w h = refl
  low_first a_more w h = refl
  low_first stray w h = absurd h

  low_last : (t : Terminal) (w : Name) → IsLow t → is_before def t (fixed w) ≡ false
  low_last (fixed v) w h = absurd h
  low_last a_name w h = refl
  low_last a_number w h = refl
  low_last a_text w h = refl
  low_last (a_hole v) w h = refl
  low_last a_more w h = refl
  low_last stray w h = absurd h

  -- the order of terminals is that of their numbers
  pub same_order : (t u : Terminal) (k m : ℕ) → number_of def words t ≡ Some k → number_of def words u ≡ Some m → is_before def t u ≡ is_number_before (length def.phyla + 4) words k m
  same_order t u k m e f = of (is_low t k e) (is_low u m f) where
    of : IsLow t ⊎ ((w : Name) × (t ≡ fixed w)) → IsLow u ⊎ ((w : Name) × (u ≡ fixed w)) → is_before def t u ≡ is_number_before (length def.phyla + 4) words k m
    of (inl x) (inl y) = low_before t u k m e f x y ∙ sym (ap₂ (λ a b. words_before a b (nat_lt k m)) (low_word k (low_small t k x e)) (low_word m (low_small u m y f)))
    of (inl x) (inr (w, y)) = ap (is_before def t) y ∙ low_last t w x
        ∙ sym (ap₂ (λ a b. words_before a b (nat_lt k m)) (low_word k (low_small t k x e)) (high_word w m (ap (number_of def words) (sym y) ∙ f)))
    of (inr (w, x)) (inl y) = ap (λ z. is_before def z u) x ∙ low_first u w y
        ∙ sym (ap₂ (λ a b. words_before a b (nat_lt k m)) (high_word w k (ap (number_of def words) (sym x) ∙ e)) (low_word m (low_small u m y f)))
    of (inr (v, x)) (inr (w, y)) = ap₂ (is_before def) x y
        ∙ sym (ap₂ (λ a b. words_before a b (nat_lt k m)) (high_word v k (ap (number_of def words) (sym x) ∙ e)) (high_word w m (ap (number_of def words) (sym y) ∙ f)))

  -- a number has one terminal
  pub same_terminal : (t u : Terminal) (k : ℕ) → number_of def words t ≡ Some k → number_of def words u ≡ Some k → t ≡ u
  same_terminal t u k e f = of (is_low t k e) (is_low u k f) where
    low_same : (t u : Terminal) → number_of def words t ≡ Some k → number_of def words u ≡ Some k → IsLow t → IsLow u → t ≡ u
    low_same (fixed w) u e f x y = absurd x
    low_same stray u e f x y = absurd x
    low_same t (fixed w) e f x y = absurd y
    low_same t stray e f x y = absurd y
    low_same a_name a_name e f x y = refl
    low_same a_name a_number e f x y = absurd (let i = same_Some 0 k e in let m = same_Some 1 k f in omega (arith, i, m))
    low_same a_name a_text e f x y = absurd (let i = same_Some 0 k e in let m = same_Some 2 k f in omega (arith, i, m))
    low_same a_name (a_hole v') e f x y = absurd (let i = same_Some 0 k e in let (q, m, n) = hole_number v' k f in omega (arith, i, m, n))
    low_same a_name a_more e f x y = absurd (let i = same_Some 0 k e in let m = same_Some (length def.phyla + 3) k f in omega (arith, i, m))
    low_same a_number a_name e f x y = absurd (let i = same_Some 1 k e in let m = same_Some 0 k f in omega (arith, i, m))
    low_same a_number a_number e f x y = refl
    low_same a_number a_text e f x y = absurd (let i = same_Some 1 k e in let m = same_Some 2 k f in omega (arith, i, m))
    low_same a_number (a_hole v') e f x y = absurd (let i = same_Some 1 k e in let (q, m, n) = hole_number v' k f in omega (arith, i, m, n))
    low_same a_number a_more e f x y = absurd (let i = same_Some 1 k e in let m = same_Some (length def.phyla + 3) k f in omega (arith, i, m))
    low_same a_text a_name e f x y = absurd (let i = same_Some 2 k e in let m = same_Some 0 k f in omega (arith, i, m))
    low_same a_text a_number e f x y = absurd (let i = same_Some 2 k e in let m = same_Some 1 k f in omega (arith, i, m))
    low_same a_text a_text e f x y = refl
    low_same a_text (a_hole v') e f x y = absurd (let i = same_Some 2 k e in let (q, m, n) = hole_number v' k f in omega (arith, i, m, n))
    low_same a_text a_more e f x y = absurd (let i = same_Some 2 k e in let m = same_Some (length def.phyla + 3) k f in omega (arith, i, m))
    low_same (a_hole v) a_name e f x y = absurd (let (p, i, j) = hole_number v k e in let m = same_Some 0 k f in omega (arith, i, m, j))
    low_same (a_hole v) a_number e f x y = absurd (let (p, i, j) = hole_number v k e in let m = same_Some 1 k f in omega (arith, i, m, j))
    low_same (a_hole v) a_text e f x y = absurd (let (p, i, j) = hole_number v k e in let m = same_Some 2 k f in omega (arith, i, m, j))
    low_same (a_hole v) (a_hole v') e f x y = let (p, i, j) = hole_number v k e in ap a_hole (names (sym (place_at (phylum_names def) v p (hole_place v k p e i)) ∙ place_at (phylum_names def) v' p (hole_place v' k p f i))) where
      names : Some v ≡ Some v' → v ≡ v'
      names h = cc
    low_same (a_hole v) a_more e f x y = absurd (let (p, i, j) = hole_number v k e in let m = same_Some (length def.phyla + 3) k f in omega (arith, i, m, j))
    low_same a_more a_name e f x y = absurd (let i = same_Some (length def.phyla + 3) k e in let m = same_Some 0 k f in omega (arith, i, m))
    low_same a_more a_number e f x y = absurd (let i = same_Some (length def.phyla + 3) k e in let m = same_Some 1 k f in omega (arith, i, m))
    low_same a_more a_text e f x y = absurd (let i = same_Some (length def.phyla + 3) k e in let m = same_Some 2 k f in omega (arith, i, m))
    low_same a_more (a_hole v') e f x y = absurd (let i = same_Some (length def.phyla + 3) k e in let (q, m, n) = hole_number v' k f in omega (arith, i, m, n))
    low_same a_more a_more e f x y = refl

    of : IsLow t ⊎ ((w : Name) × (t ≡ fixed w)) → IsLow u ⊎ ((w : Name) × (u ≡ fixed w)) → t ≡ u
    of (inl x) (inl y) = low_same t u e f x y
    of (inl x) (inr (w, y)) = absurd (apart (sym (low_word k (low_small t k x e)) ∙ high_word w k (ap (number_of def words) (sym y) ∙ f))) where
      apart : None ≡ Some w → ⊥
      apart h = cc
    of (inr (w, x)) (inl y) = absurd (apart (sym (low_word k (low_small u k y f)) ∙ high_word w k (ap (number_of def words) (sym x) ∙ e))) where
      apart : None ≡ Some w → ⊥
      apart h = cc
    of (inr (v, x)) (inr (w, y)) = x ∙ ap fixed (names (sym (high_word v k (ap (number_of def words) (sym x) ∙ e)) ∙ high_word w k (ap (number_of def words) (sym y) ∙ f))) ∙ sym y where
      names : Some v ≡ Some w → v ≡ w
      names h = cc

  -- how it is written
  pub same_text : (t : Terminal) (k : ℕ) → number_of def words t ≡ Some k → number_text (length def.phyla + 4) words def.phyla k ≡ terminal_text t
  same_text (fixed w) k e = ap (λ o. text_or o (other_text def.phyla k)) (high_word w k e)
  same_text a_name k e = ap (λ o. text_or o (other_text def.phyla k)) (low_word k (low_small a_name k tt e)) ∙ ap (other_text def.phyla) (sym (same_Some 0 k e))
  same_text a_number k e = ap (λ o. text_or o (other_text def.phyla k)) (low_word k (low_small a_number k tt e)) ∙ ap (other_text def.phyla) (sym (same_Some 1 k e))
  same_text a_text k e = ap (λ o. text_or o (other_text def.phyla k)) (low_word k (low_small a_text k tt e)) ∙ ap (other_text def.phyla) (sym (same_Some 2 k e))
  same_text (a_hole v) k e =
      let (p, x, y) = hole_number v k e in
      let at = place_at (phylum_names def) v p (hole_place v k p e x) in
      let (ph, found, same) = map_get (λ (z : Phylum). z.name) def.phyla p v at in
      ap (λ o. text_or o (other_text def.phyla k)) (low_word k (low_small (a_hole v) k tt e)) ∙ ap (other_text def.phyla) x ∙ late p ph found ∙ ap (λ n. 63 ∷ n) (sym same) where
        late : (p : ℕ) (ph : Phylum) → slice_get def.phyla p ≡ Some ph → other_text def.phyla (3 + p) ≡ 63 ∷ ph.name
        late p ph found = other_late def.phyla (3 + p) (omega arith) ∙ ap (λ n. hole_text (slice_get def.phyla n)) (back p) ∙ ap hole_text found where
          back : (p : ℕ) → 3 + p - 3 ≡ p
          back p = omega arith
  same_text a_more k e = ap (λ o. text_or o (other_text def.phyla k)) (low_word k (low_small a_more k tt e)) ∙ ap (other_text def.phyla) (sym (same_Some (length def.phyla + 3) k e)) ∙ end (length def.phyla) refl where
    end : (n : ℕ) → n ≡ length def.phyla → other_text def.phyla (n + 3) ≡ codes "..."
    end n h = other_late def.phyla (n + 3) (omega arith) ∙ ap (λ m. hole_text (slice_get def.phyla m)) (back n) ∙ ap hole_text (slice_get_past def.phyla n (omega (arith, h))) where
      back : (n : ℕ) → n + 3 - 3 ≡ n
      back n = omega arith
  same_text stray k e = absurd (let x : ◌≡◌ {A = Option ℕ} None (Some k) = e in cc)

  -- all numbers are below those of the kinds and the words together
  pub number_small : (t : Terminal) (k : ℕ) → number_of def words t ≡ Some k → k < length def.phyla + 4 + length words
  number_small t k e = elim (is_low t k e) [
    | inl x ↦ (let h = low_small t k x e in omega (arith, h))
    | inr (w, x) ↦ (let (j, y, z) = word_of w k (ap (number_of def words) (sym x) ∙ e) in let h = slice_get_within words j w z in omega (arith, y, h))
  ]
