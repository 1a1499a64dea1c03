-- The conditions on operators, by their shapes.
use Rattle.std.proofs.Common.{◌≡◌, ◌≢◌, ◌⊎◌, inl, inr, ℕ, zero, suc, ◌+◌, ◌*◌, ◌<◌, ◌≤◌, ◌==◌, ◌&&◌, ◌||◌, Bool, true, false, cond, max, List, [], ◌∷◌, ◌++◌, map, Option, Some, None, slice_get, refl, ap, ap₂, sym, ◌∙◌, subst, arith, true≢false, eqb-true, eq-eqb}
use Rattle.std.specs.Prelude.{nat_lt}
use Rattle.std.proofs.lemmas.Bool.{and_parts, cases_Bool, ltb-true, or_cases, or_right}
use Rattle.std.proofs.lemmas.Option.{same_Some}
use Rattle.psg_terms.proofs.Lists.{slice_get-map_some}
use Rattle.psg_terms.specs.Names.{Name}
use Rattle.psg_grammar.specs.declared.types.Kind.TheVariants as kinds
use Rattle.psg_grammar.specs.declared.types.Level.{Level}
use Rattle.psg_grammar.specs.declared.types.Level.TheVariants as levels
use Rattle.psg_grammar.specs.declared.types.Item.{Item}
use Rattle.psg_grammar.specs.declared.types.Item.TheVariants as items
use Rattle.psg_grammar.specs.declared.types.Operator.{Operator}
use Rattle.psg_grammar.specs.declared.types.Definition.{Definition}
use Rattle.psg_grammar.specs.Levels.{level_number, first_level, last_level}
use Rattle.psg_grammar.specs.Sound.{IsLevel}
use Rattle.psg_class.specs.Places.{solid, is_empty, slot_level}
use Rattle.psg_class.specs.Class.{own_first, own_last, number_of, NoFirst, BadForm, NoBracket, MixedLevel}
use Rattle.psg_class.specs.Shapes.{shape_of, parts_of}
use Rattle.psg_class.specs.Grids.{is_at, once}
use Rattle.psg_class.specs.Forms.{starts, fits, asks, own_first as shape_own_first, own_last as shape_own_last, bound_cell, asked_cell, form_cell, form_code, cells_by, FailsTest, LacksBracket, Mixes}
use Rattle.psg_class.specs.declared.grid.Cell.{Cell}
use Rattle.psg_class.specs.declared.shape.Shape.{Shape}
use Rattle.psg_class.proofs.ClassFacts.{own_at_end, slot_is, same_or_not}
use Rattle.psg_class.proofs.PartLaws.{Known, starts_same, fits_same, first_own, last_own, match_of}

-- ---- items of a mapped list

pub map_get : {X Y : Type 0} (f : X → Y) (xs : List X) (n : ℕ) (y : Y) → slice_get (map f xs) n ≡ Some y → (x : X) × (slice_get xs n ≡ Some x) × (y ≡ f x)
map_get {X = X} {Y = Y} f [] n y e = absurd (let h : ◌≡◌ {A = Option Y} None (Some y) = e in cc)
map_get {X = X} {Y = Y} f (x ∷ xs) zero y e = (x, refl, let h : ◌≡◌ {A = Option Y} (Some (f x)) (Some y) = e in cc)
map_get f (x ∷ xs) (suc n) y e = map_get f xs n y e

-- the cell of one of the shapes
pub once_of : (f : Shape → Cell) (xs : List Shape) (n : ℕ) (s : Shape) → slice_get xs n ≡ Some s → once (f s).row (f s).column (map f xs) ≡ true
once_of f [] n s e = absurd (let h : ◌≡◌ {A = Option Shape} None (Some s) = e in cc)
once_of f (x ∷ xs) zero s e =
    let h : ◌≡◌ {A = Option Shape} (Some x) (Some s) = e in
    let k : x ≡ s = cc in
    subst (λ z. (is_at (f s).row (f s).column (f z) || once (f s).row (f s).column (map f xs)) ≡ true) (sym k)
    (ap₂ (λ a b. (a && b) || once (f s).row (f s).column (map f xs)) (eq-eqb (f s).row (f s).row refl) (eq-eqb (f s).column (f s).column refl))
once_of f (x ∷ xs) (suc n) s e = or_right (is_at (f s).row (f s).column (f x)) (once (f s).row (f s).column (map f xs)) (once_of f xs n s e)

pub of_once : (f : Shape → Cell) (xs : List Shape) (r c : ℕ) → once r c (map f xs) ≡ true → (n : ℕ) × (s : Shape) × (slice_get xs n ≡ Some s) × ((f s).row ≡ r) × ((f s).column ≡ c)
of_once f [] r c e = absurd (true≢false (sym e))
of_once f (x ∷ xs) r c e = elim (or_cases (is_at r c (f x)) (once r c (map f xs)) e) [
  | inl h ↦ (0, x, refl, eqb-true (f x).row r (and_parts _ _ h).0, eqb-true (f x).column c (and_parts ((f x).row == r) ((f x).column == c) h).1)
  | inr h ↦ (let (n, s, at, a, b) = of_once f xs r c h in (suc n, s, at, a, b))
]

asks_cases : (low : ℕ) (a b : Bool) (m n : ℕ) → low < max (cond a m 0) (cond b n 0) → ((a ≡ true) × (low < m)) ⊎ ((b ≡ true) × (low < n))
asks_cases low true true m n h = elim (cases_Bool (nat_lt low m)) [ inl e ↦ inl (refl, ltb-true low m e) | inr e ↦ inr (refl, other (not_less low m e)) ] where
  not_less : (a b : ℕ) → nat_lt a b ≡ false → b ≤ a
  not_less a b f = grind (arith, f)

  other : m ≤ low → low < n
  other k = omega (arith, h, k)
asks_cases low true false m n h = inl (refl, omega (arith, h))
asks_cases low false true m n h = inr (refl, omega (arith, h))
asks_cases low false false m n h = absurd (omega (arith, h))

module _ (def : Definition) (base : ℕ) (words : List Name) (known : (n : ℕ) (o : Operator) → slice_get def.operators n ≡ Some o → Known base words o.items) where
  abbrev shapes : List Shape
  shapes = map (shape_of base words) def.operators

  pub no_first_there : (n : ℕ) → FailsTest starts (map (shape_of base words) def.operators) n → NoFirst def n
  no_first_there n f = let (o, at, e) = map_get (shape_of base words) def.operators n f.shape f.at in
      record { o = o; found = at; fails = starts_same base words o (known n o at) ∙ ap starts (sym e) ∙ f.fails }

  pub no_first_back : (n : ℕ) → NoFirst def n → FailsTest starts (map (shape_of base words) def.operators) n
  no_first_back n f = record { shape = shape_of base words f.o; at = slice_get-map_some (shape_of base words) def.operators n f.o f.found; fails = sym (starts_same base words f.o (known n f.o f.found)) ∙ f.fails }

  pub bad_form_there : (n : ℕ) → FailsTest fits (map (shape_of base words) def.operators) n → BadForm def n
  bad_form_there n f = let (o, at, e) = map_get (shape_of base words) def.operators n f.shape f.at in
      record { o = o; found = at; fails = fits_same base words o (known n o at) o.level ∙ ap fits (sym e) ∙ f.fails }

  pub bad_form_back : (n : ℕ) → BadForm def n → FailsTest fits (map (shape_of base words) def.operators) n
  bad_form_back n f = record { shape = shape_of base words f.o; at = slice_get-map_some (shape_of base words) def.operators n f.o f.found; fails = sym (fits_same base words f.o (known n f.o f.found) f.o.level) ∙ f.fails }

  -- ---- brackets

  most : (a b x y : Bool) (m n : ℕ) → (x ≡ true → a ≡ true) → (y ≡ true → b ≡ true) → max (cond x m 0) (cond y n 0) ≤ max (cond a m 0) (cond b n 0)
  most a b x y m n h k = by a b x y (cases_Bool a) (cases_Bool b) h k where
    by : (a b x y : Bool) → (a ≡ true) ⊎ (a ≡ false) → (b ≡ true) ⊎ (b ≡ false) → (x ≡ true → a ≡ true) → (y ≡ true → b ≡ true) → max (cond x m 0) (cond y n 0) ≤ max (cond a m 0) (cond b n 0)
    by true true true true e f h k = omega arith
    by true true true false e f h k = omega arith
    by true true false true e f h k = omega arith
    by true true false false e f h k = omega arith
    by true false true true e f h k = absurd (true≢false (sym (k refl)))
    by true false true false e f h k = omega arith
    by true false false true e f h k = absurd (true≢false (sym (k refl)))
    by true false false false e f h k = omega arith
    by false b true y e f h k = absurd (true≢false (sym (h refl)))
    by false true false true e f h k = omega arith
    by false true false false e f h k = omega arith
    by false false false true e f h k = absurd (true≢false (sym (k refl)))
    by false false false false e f h k = omega arith

  -- a slot asks for no more than its operator
  slot_most : (o : Operator) (own : Known base words o.items) (front behind : List Item) → solid o.items ≡ front ++ items.Slot (kinds.Phylum o.phylum) ∷ behind
      → max (cond (is_empty front) (first_level o.level) 0) (cond (is_empty behind) (last_level o.level) 0) ≤ asks (shape_of base words o)
  slot_most o own front behind e = most (shape_own_first (shape_of base words o)) (shape_own_last (shape_of base words o)) (is_empty front) (is_empty behind) (first_level o.level) (last_level o.level)
      (λ h. sym (first_own base words o.phylum (solid o.items) (parts_of base words o.items) (match_of base words o own)) ∙ ap (own_first o.phylum) e ∙ at_front front h)
      (λ h. sym (last_own base words o.phylum (solid o.items) (parts_of base words o.items) (match_of base words o own)) ∙ ap (own_last o.phylum) e ∙ at_back front behind h) where
        at_front : (front : List Item) → is_empty front ≡ true → own_first o.phylum (front ++ items.Slot (kinds.Phylum o.phylum) ∷ behind) ≡ true
        at_front [] h = eq-eqb o.phylum o.phylum refl
        at_front (i ∷ front) h = absurd (true≢false (sym h))

        at_end : (front : List Item) → own_last o.phylum (front ++ items.Slot (kinds.Phylum o.phylum) ∷ []) ≡ true
        at_end [] = eq-eqb o.phylum o.phylum refl
        at_end (i ∷ []) = eq-eqb o.phylum o.phylum refl
        at_end (i ∷ j ∷ rest) = at_end (j ∷ rest)

        at_back : (front behind : List Item) → is_empty behind ≡ true → own_last o.phylum (front ++ items.Slot (kinds.Phylum o.phylum) ∷ behind) ≡ true
        at_back front [] h = at_end front
        at_back front (i ∷ behind) h = absurd (true≢false (sym h))

  -- the own slot of a slot that asks for something
  own_slot : (o : Operator) (p : ℕ) (front behind : List Item) (low : ℕ) → low < slot_level o (kinds.Phylum p) (is_empty front) behind → p ≡ o.phylum
  own_slot o p front behind low h = by (cases_Bool (p == o.phylum)) where
    by : (p == o.phylum ≡ true) ⊎ (p == o.phylum ≡ false) → p ≡ o.phylum
    by (inl e) = eqb-true p o.phylum e
    by (inr e) = absurd (let k : low < 0 = subst (λ b. low < cond b (max (cond (is_empty front) (first_level o.level) 0) (cond (is_empty behind) (last_level o.level) 0)) 0) e h in omega (arith, k))

  own_level : (o : Operator) (p : ℕ) (first : Bool) (behind : List Item) → p ≡ o.phylum → slot_level o (kinds.Phylum p) first behind ≡ max (cond first (first_level o.level) 0) (cond (is_empty behind) (last_level o.level) 0)
  own_level o p first behind e = ap (λ b. cond b (max (cond first (first_level o.level) 0) (cond (is_empty behind) (last_level o.level) 0)) 0) (eq-eqb p o.phylum e)

  module _ (levels : (n : ℕ) (o : Operator) → slice_get def.operators n ≡ Some o → IsLevel o.level) (small : (o : Operator) → IsLevel o.level → asks (shape_of base words o) < 11) where
    pub lacks_there : (p : ℕ) → NoBracket def p → LacksBracket def.phyla (cells_by bound_cell (map (shape_of base words) def.operators)) (cells_by asked_cell (map (shape_of base words) def.operators)) p
    lacks_there p f =
        let own : p ≡ f.holder.phylum = own_slot f.holder p f.front f.behind (level_number f.o.level) f.below in
        let is : solid f.holder.items ≡ f.front ++ items.Slot (kinds.Phylum f.holder.phylum) ∷ f.behind = f.items ∙ ap (λ q. f.front ++ items.Slot (kinds.Phylum q) ∷ f.behind) own in
        let lower : level_number f.o.level < max (cond (is_empty f.front) (first_level f.holder.level) 0) (cond (is_empty f.behind) (last_level f.holder.level) 0) =
        subst (λ z. level_number f.o.level < z) (own_level f.holder p (is_empty f.front) f.behind own) f.below in
        let most : max (cond (is_empty f.front) (first_level f.holder.level) 0) (cond (is_empty f.behind) (last_level f.holder.level) 0) ≤ asks (shape_of base words f.holder) =
        slot_most f.holder (known f.n f.holder f.holds) f.front f.behind is in
        record {
          phylum = f.phylum;
          found = f.found;
          bare = f.bare;
          apart = record {
            high = asks (shape_of base words f.holder);
            inside = small f.holder (levels f.n f.holder f.holds);
            low = level_number f.o.level;
            below = omega (arith, lower, most);
            is_asked = subst (λ q. cells_by asked_cell (map (shape_of base words) def.operators) q (asks (shape_of base words f.holder)) ≡ true) (sym own)
                (once_of asked_cell (map (shape_of base words) def.operators) f.n (shape_of base words f.holder) (slice_get-map_some (shape_of base words) def.operators f.n f.holder f.holds));
            is_bound = subst (λ q. cells_by bound_cell (map (shape_of base words) def.operators) q (level_number f.o.level) ≡ true) f.of_phylum
                (once_of bound_cell (map (shape_of base words) def.operators) f.m (shape_of base words f.o) (slice_get-map_some (shape_of base words) def.operators f.m f.o f.there));
          };
        }

    -- the slot that asks for the most
    record Asking (o : Operator) (low : ℕ) : Type 0 where
      pub front : List Item
      pub behind : List Item
      pub items : solid o.items ≡ front ++ items.Slot (kinds.Phylum o.phylum) ∷ behind
      pub below : low < slot_level o (kinds.Phylum o.phylum) (is_empty front) behind

    asking : (o : Operator) (own : Known base words o.items) (low : ℕ) → low < asks (shape_of base words o) → Asking o low
    asking o own low h = by (cases_Bool (shape_own_first (shape_of base words o))) (cases_Bool (shape_own_last (shape_of base words o))) where
      first_case : shape_own_first (shape_of base words o) ≡ true → low < first_level o.level → Asking o low
      first_case e lt = of (solid o.items) refl (first_own base words o.phylum (solid o.items) (parts_of base words o.items) (match_of base words o own) ∙ e) where
        of : (is : List Item) → solid o.items ≡ is → own_first o.phylum is ≡ true → Asking o low
        of [] f g = absurd (true≢false (sym g))
        of (i ∷ rest) f g = record {
          front = [];
          behind = rest;
          items = f ∙ ap (λ j. j ∷ rest) (slot_is o.phylum i g);
          below = subst (λ z. low < z) (sym (own_level o o.phylum true rest refl)) (more (cond (is_empty rest) (last_level o.level) 0));
        } where
          more : (n : ℕ) → low < max (first_level o.level) n
          more n = omega (arith, lt)

      last_case : shape_own_last (shape_of base words o) ≡ true → low < last_level o.level → Asking o low
      last_case e lt =
          let (front, f) = own_at_end o.phylum (solid o.items) (last_own base words o.phylum (solid o.items) (parts_of base words o.items) (match_of base words o own) ∙ e) in
          record { front = front; behind = []; items = f; below = subst (λ z. low < z) (sym (own_level o o.phylum (is_empty front) [] refl)) (more (cond (is_empty front) (first_level o.level) 0)) } where
            more : (n : ℕ) → low < max n (last_level o.level)
            more n = omega (arith, lt)

      by : (shape_own_first (shape_of base words o) ≡ true) ⊎ (shape_own_first (shape_of base words o) ≡ false) → (shape_own_last (shape_of base words o) ≡ true) ⊎ (shape_own_last (shape_of base words o) ≡ false) → Asking o low
      by x y = of x y (asks_cases low (shape_own_first (shape_of base words o)) (shape_own_last (shape_of base words o)) (first_level o.level) (last_level o.level) h) where
        of : (shape_own_first (shape_of base words o) ≡ true) ⊎ (shape_own_first (shape_of base words o) ≡ false) → (shape_own_last (shape_of base words o) ≡ true) ⊎ (shape_own_last (shape_of base words o) ≡ false)
            → ((shape_own_first (shape_of base words o) ≡ true) × (low < first_level o.level)) ⊎ ((shape_own_last (shape_of base words o) ≡ true) × (low < last_level o.level)) → Asking o low
        of x' y' (inl (e, lt)) = first_case e lt
        of x' y' (inr (e, lt)) = last_case e lt

    pub lacks_back : (p : ℕ) → LacksBracket def.phyla (cells_by bound_cell (map (shape_of base words) def.operators)) (cells_by asked_cell (map (shape_of base words) def.operators)) p → NoBracket def p
    lacks_back p l =
        let (n, s, at, row, column) = of_once asked_cell (map (shape_of base words) def.operators) p l.apart.high l.apart.is_asked in
        let (holder, holds, e) = map_get (shape_of base words) def.operators n s at in
        let (m, t, at', row', column') = of_once bound_cell (map (shape_of base words) def.operators) p l.apart.low l.apart.is_bound in
        let (o, there, f) = map_get (shape_of base words) def.operators m t at' in
        let own : holder.phylum ≡ p = ap (λ (z : Shape). z.phylum) (sym e) ∙ row in
        let low : level_number o.level ≡ l.apart.low = ap (λ (z : Shape). level_number z.level) (sym f) ∙ column' in
        let high : asks (shape_of base words holder) ≡ l.apart.high = ap asks (sym e) ∙ column in
        let lt = l.apart.below in
        let slot = asking holder (known n holder holds) (level_number o.level) (omega (arith, low, high, lt)) in
        record {
          phylum = l.phylum;
          found = l.found;
          bare = l.bare;
          n = n;
          holder = holder;
          holds = holds;
          front = slot.front;
          behind = slot.behind;
          items = slot.items ∙ ap (λ q. slot.front ++ items.Slot (kinds.Phylum q) ∷ slot.behind) own;
          m = m;
          o = o;
          there = there;
          of_phylum = ap (λ (z : Shape). z.phylum) (sym f) ∙ row';
          below = subst (λ q. level_number o.level < slot_level holder (kinds.Phylum q) (is_empty slot.front) slot.behind) own slot.below;
        }

-- ---- mixed levels

abbrev form_index : Level → ℕ
form_index levels.Plain = 0
form_index (levels.Prefix n) = 0
form_index (levels.Postfix n) = 1
form_index (levels.InfixLeft n) = 2
form_index (levels.InfixRight n) = 3
form_index (levels.InfixNone n) = 4

index_small : (a : Level) → form_index a < 5
index_small levels.Plain = omega arith
index_small (levels.Prefix n) = omega arith
index_small (levels.Postfix n) = omega arith
index_small (levels.InfixLeft n) = omega arith
index_small (levels.InfixRight n) = omega arith
index_small (levels.InfixNone n) = omega arith

code_is : (a : Level) (level : ℕ) → number_of a ≡ Some level → form_code a ≡ 5 * level + form_index a
code_is levels.Plain level e = absurd (let x : None ≡ Some level = e in cc)
code_is (levels.Prefix n) level e = let x = same_Some n level e in omega (arith, x)
code_is (levels.Postfix n) level e = let x = same_Some n level e in omega (arith, x)
code_is (levels.InfixLeft n) level e = let x = same_Some n level e in omega (arith, x)
code_is (levels.InfixRight n) level e = let x = same_Some n level e in omega (arith, x)
code_is (levels.InfixNone n) level e = let x = same_Some n level e in omega (arith, x)

is_code : (a : Level) (level i : ℕ) → form_code a ≡ 5 * level + i → i < 5 → 1 ≤ level → (number_of a ≡ Some level) × (form_index a ≡ i)
is_code levels.Plain level i e h k = absurd (omega (arith, e, h, k))
is_code (levels.Prefix n) level i e h k = (ap Some (omega (arith, e, h, k)), omega (arith, e, h, k))
is_code (levels.Postfix n) level i e h k = (ap Some (omega (arith, e, h, k)), omega (arith, e, h, k))
is_code (levels.InfixLeft n) level i e h k = (ap Some (omega (arith, e, h, k)), omega (arith, e, h, k))
is_code (levels.InfixRight n) level i e h k = (ap Some (omega (arith, e, h, k)), omega (arith, e, h, k))
is_code (levels.InfixNone n) level i e h k = (ap Some (omega (arith, e, h, k)), omega (arith, e, h, k))

number_small : (a : Level) (level : ℕ) → IsLevel a → number_of a ≡ Some level → (1 ≤ level) × (level < 10)
number_small levels.Plain level h e = absurd (let x : None ≡ Some level = e in cc)
number_small (levels.Prefix n) level (h, k) e = let x = same_Some n level e in (omega (arith, x, h), omega (arith, x, k))
number_small (levels.Postfix n) level (h, k) e = let x = same_Some n level e in (omega (arith, x, h), omega (arith, x, k))
number_small (levels.InfixLeft n) level (h, k) e = let x = same_Some n level e in (omega (arith, x, h), omega (arith, x, k))
number_small (levels.InfixRight n) level (h, k) e = let x = same_Some n level e in (omega (arith, x, h), omega (arith, x, k))
number_small (levels.InfixNone n) level (h, k) e = let x = same_Some n level e in (omega (arith, x, h), omega (arith, x, k))

same_index : (a b : Level) (level : ℕ) → number_of a ≡ Some level → number_of b ≡ Some level → form_index a ≡ form_index b → a ≡ b
same_index a b level e f h = elim (same_or_not a b level e f) [ inl x ↦ x | inr x ↦ absurd (differ a b e f x h) ] where
  differ : (a b : Level) → number_of a ≡ Some level → number_of b ≡ Some level → a ≢ b → form_index a ≡ form_index b → ⊥
  differ levels.Plain b e f x h = absurd (let y : None ≡ Some level = e in cc)
  differ a levels.Plain e f x h = absurd (let y : None ≡ Some level = f in cc)
  differ (levels.Prefix n) (levels.Prefix m) e f x h = x (ap levels.Prefix (same_Some n m (e ∙ sym f)))
  differ (levels.Postfix n) (levels.Postfix m) e f x h = x (ap levels.Postfix (same_Some n m (e ∙ sym f)))
  differ (levels.InfixLeft n) (levels.InfixLeft m) e f x h = x (ap levels.InfixLeft (same_Some n m (e ∙ sym f)))
  differ (levels.InfixRight n) (levels.InfixRight m) e f x h = x (ap levels.InfixRight (same_Some n m (e ∙ sym f)))
  differ (levels.InfixNone n) (levels.InfixNone m) e f x h = x (ap levels.InfixNone (same_Some n m (e ∙ sym f)))
  differ (levels.Prefix n) (levels.Postfix m) e f x h = omega (arith, h)
  differ (levels.Prefix n) (levels.InfixLeft m) e f x h = omega (arith, h)
  differ (levels.Prefix n) (levels.InfixRight m) e f x h = omega (arith, h)
  differ (levels.Prefix n) (levels.InfixNone m) e f x h = omega (arith, h)
  differ (levels.Postfix n) (levels.Prefix m) e f x h = omega (arith, h)
  differ (levels.Postfix n) (levels.InfixLeft m) e f x h = omega (arith, h)
  differ (levels.Postfix n) (levels.InfixRight m) e f x h = omega (arith, h)
  differ (levels.Postfix n) (levels.InfixNone m) e f x h = omega (arith, h)
  differ (levels.InfixLeft n) (levels.Prefix m) e f x h = omega (arith, h)
  differ (levels.InfixLeft n) (levels.Postfix m) e f x h = omega (arith, h)
  differ (levels.InfixLeft n) (levels.InfixRight m) e f x h = omega (arith, h)
  differ (levels.InfixLeft n) (levels.InfixNone m) e f x h = omega (arith, h)
  differ (levels.InfixRight n) (levels.Prefix m) e f x h = omega (arith, h)
  differ (levels.InfixRight n) (levels.Postfix m) e f x h = omega (arith, h)
  differ (levels.InfixRight n) (levels.InfixLeft m) e f x h = omega (arith, h)
  differ (levels.InfixRight n) (levels.InfixNone m) e f x h = omega (arith, h)
  differ (levels.InfixNone n) (levels.Prefix m) e f x h = omega (arith, h)
  differ (levels.InfixNone n) (levels.Postfix m) e f x h = omega (arith, h)
  differ (levels.InfixNone n) (levels.InfixLeft m) e f x h = omega (arith, h)
  differ (levels.InfixNone n) (levels.InfixRight m) e f x h = omega (arith, h)

module _ (def : Definition) (base : ℕ) (words : List Name) (levels : (n : ℕ) (o : Operator) → slice_get def.operators n ≡ Some o → IsLevel o.level) where
  has_code : (p level : ℕ) (n : ℕ) (o : Operator) → slice_get def.operators n ≡ Some o → o.phylum ≡ p → number_of o.level ≡ Some level → cells_by form_cell (map (shape_of base words) def.operators) p (5 * level + form_index o.level) ≡ true
  has_code p level n o at e f = subst (λ q. cells_by form_cell (map (shape_of base words) def.operators) q (5 * level + form_index o.level) ≡ true) e
      (subst (λ c. cells_by form_cell (map (shape_of base words) def.operators) o.phylum c ≡ true) (code_is o.level level f) (once_of form_cell (map (shape_of base words) def.operators) n (shape_of base words o) (slice_get-map_some (shape_of base words) def.operators n o at)))

  pub mixes_there : (p level : ℕ) → MixedLevel def p level → Mixes (cells_by form_cell (map (shape_of base words) def.operators)) p level
  mixes_there p level f =
      let (low, high) = number_small f.o.level level (levels f.n f.o f.found) f.number in
      let a = has_code p level f.n f.o f.found f.of_phylum f.number in
      let b = has_code p level f.m f.other f.there f.of_phylum_too f.number_too in
      elim (cases_Bool (nat_lt (form_index f.o.level) (form_index f.other.level))) [
        | inl h ↦ record { positive = low; small = high; one = form_index f.o.level; other = form_index f.other.level; differ = ltb-true _ _ h; inside = index_small f.other.level; has_one = a; has_other = b }
        | inr h ↦ record {
          positive = low;
          small = high;
          one = form_index f.other.level;
          other = form_index f.o.level;
          differ = more (form_index f.o.level) (form_index f.other.level) h (λ e. f.differ (same_index f.o.level f.other.level level f.number f.number_too e));
          inside = index_small f.o.level;
          has_one = b;
          has_other = a;
        }
      ] where
        more : (x y : ℕ) → nat_lt x y ≡ false → (x ≡ y → ⊥) → y < x
        more x y e h = grind (arith, e, h)

  pub mixes_back : (p level : ℕ) → Mixes (cells_by form_cell (map (shape_of base words) def.operators)) p level → MixedLevel def p level
  mixes_back p level m =
      let (n, s, at, row, column) = of_once form_cell (map (shape_of base words) def.operators) p (5 * level + m.one) m.has_one in
      let (o, found, e) = map_get (shape_of base words) def.operators n s at in
      let (k, t, at', row', column') = of_once form_cell (map (shape_of base words) def.operators) p (5 * level + m.other) m.has_other in
      let (other, there, f) = map_get (shape_of base words) def.operators k t at' in
      let lt : m.one < m.other = m.differ in
      let inside : m.other < 5 = m.inside in
      let one = is_code o.level level m.one (ap (λ (z : Shape). form_code z.level) (sym e) ∙ column) (omega (arith, lt, inside)) m.positive in
      let two = is_code other.level level m.other (ap (λ (z : Shape). form_code z.level) (sym f) ∙ column') inside m.positive in
      let x : form_index o.level ≡ m.one = one.1 in
      let y : form_index other.level ≡ m.other = two.1 in
      record {
        n = n;
        o = o;
        found = found;
        of_phylum = ap (λ (z : Shape). z.phylum) (sym e) ∙ row;
        m = k;
        other = other;
        there = there;
        of_phylum_too = ap (λ (z : Shape). z.phylum) (sym f) ∙ row';
        number = one.0;
        number_too = two.0;
        differ = λ same. (let z : form_index o.level ≡ form_index other.level = ap form_index same in omega (arith, x, y, z, lt));
      }
