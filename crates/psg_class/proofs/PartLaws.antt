-- Items without marks for the layout, beside their parts.
use Rattle.std.proofs.Common.{◌≡◌, ℕ, suc, ◌-◌, ◌&&◌, ◌||◌, not, Bool, true, false, List, [], ◌∷◌, ◌++◌, length, Option, Some, None, slice_get, is_some, refl, ap, ap₂, sym, ◌∙◌, subst, arith, true≢false}
use Rattle.std.specs.Prelude.{option_map, nat_le, bytes_eq}
use Rattle.psg_terms.specs.Names.{Name, is_among}
use Rattle.psg_terms.proofs.DeclareLaws.{bytes_eq-refl}
use Rattle.psg_grammar.specs.declared.types.Kind.{Kind}
use Rattle.psg_grammar.specs.declared.types.Kind.TheVariants as kinds
use Rattle.psg_grammar.specs.declared.types.Level.{Level}
use Rattle.psg_grammar.specs.declared.types.Level.TheVariants as levels
use Rattle.psg_grammar.specs.declared.types.Item.{Item}
use Rattle.psg_grammar.specs.declared.types.Item.TheVariants as items
use Rattle.psg_grammar.specs.declared.types.Operator.{Operator}
use Rattle.psg_grammar.specs.Levels.{is_slot_of}
use Rattle.psg_grammar.specs.WellFormed.{words_in}
use Rattle.psg_class.specs.Places.{solid}
use Rattle.psg_class.specs.Class.{is_token as is_token_item, token_first, token_last, own_first, own_last, begins_well, has_form}
use Rattle.psg_class.specs.Numbers.{word_number}
use Rattle.psg_class.specs.Shapes.{item_number, part_of, parts_of, shape_of, listed}
use Rattle.psg_class.specs.Forms.{is_token, is_own, starts, fits_level}
use Rattle.psg_class.specs.declared.shape.Part.{Part}
use Rattle.psg_class.specs.declared.shape.Part.TheVariants as parts
use Rattle.psg_class.proofs.WordLaws.{number_found}

module _ (base : ℕ) (words : List Name) where
  -- each item beside its part
  abbrev pub Match : List Item → List Part → Type 0
  Match [] [] = Unit {0}
  Match [] (p ∷ ps) = ⊥
  Match (i ∷ is) [] = ⊥
  Match (i ∷ is) (p ∷ ps) = (part_of base words i ≡ Some p) × Match is ps

  abbrev pub Known : List Item → Type 0
  Known xs = (w : Name) → is_among (words_in xs) w ≡ true → is_among words w ≡ true

  some_of : (o : Option ℕ) → is_some o ≡ true → (n : ℕ) × (o ≡ Some n)
  some_of (Some n) h = (n, refl)
  some_of None h = absurd (true≢false (sym h))

  word_part : (w : Name) → is_among words w ≡ true → (n : ℕ) × (part_of base words (items.Word w) ≡ Some (parts.Token n))
  word_part w h = let (n, e) = some_of (word_number base words w) (number_found base words w ∙ h) in (n, ap (option_map (λ n. parts.Token n)) e)

  pub matches : (xs : List Item) → Known xs → Match (solid xs) (parts_of base words xs)
  matches [] h = tt
  matches (items.Word w ∷ xs) h =
      let (n, e) = word_part w (h w (among_first w (words_in xs))) in
      subst (λ o. Match (items.Word w ∷ solid xs) (listed o ++ parts_of base words xs)) (sym e) (e, matches xs (λ v a. h v (among_later w v (words_in xs) a))) where
        among_first : (w : Name) (ws : List Name) → is_among (w ∷ ws) w ≡ true
        among_first w ws = ap (λ b. b || is_among ws w) (bytes_eq-refl w)

        among_later : (w v : Name) (ws : List Name) → is_among ws v ≡ true → is_among (w ∷ ws) v ≡ true
        among_later w v ws a = or_last (bytes_eq w v) (is_among ws v) a where
          or_last : (a b : Bool) → b ≡ true → a || b ≡ true
          or_last true b e' = refl
          or_last false b e' = e'
  matches (items.Slot k ∷ xs) h = (refl, matches xs h)
  matches (items.Refers s ∷ xs) h = (refl, matches xs h)
  matches (items.Declares s ∷ xs) h = (refl, matches xs h)
  matches (items.Number ∷ xs) h = (refl, matches xs h)
  matches (items.Text ∷ xs) h = (refl, matches xs h)
  matches (items.Space ∷ xs) h = matches xs h
  matches (items.Tight ∷ xs) h = matches xs h
  matches (items.Line ∷ xs) h = matches xs h
  matches (items.In ∷ xs) h = matches xs h
  matches (items.Out ∷ xs) h = matches xs h

  -- the number of a token is that of its terminal
  pub token_of : (i : Item) (n : ℕ) → part_of base words i ≡ Some (parts.Token n) → item_number base words i ≡ Some n
  token_of (items.Slot k) n e = absurd (let x : Some (parts.Slot k) ≡ Some (parts.Token n) = e in cc)
  token_of (items.Word w) n e = of (word_number base words w) e where
    of : (o : Option ℕ) → option_map (λ n. parts.Token n) o ≡ Some (parts.Token n) → o ≡ Some n
    of (Some m) f = let x : Some (parts.Token m) ≡ Some (parts.Token n) = f in cc
    of None f = absurd (let x : ◌≡◌ {A = Option Part} None (Some (parts.Token n)) = f in cc)
  token_of (items.Refers s) n e = let x : Some (parts.Token 0) ≡ Some (parts.Token n) = e in cc
  token_of (items.Declares s) n e = let x : Some (parts.Token 0) ≡ Some (parts.Token n) = e in cc
  token_of items.Number n e = let x : Some (parts.Token 1) ≡ Some (parts.Token n) = e in cc
  token_of items.Text n e = let x : Some (parts.Token 2) ≡ Some (parts.Token n) = e in cc
  token_of items.Space n e = absurd (let x : ◌≡◌ {A = Option Part} None (Some (parts.Token n)) = e in cc)
  token_of items.Tight n e = absurd (let x : ◌≡◌ {A = Option Part} None (Some (parts.Token n)) = e in cc)
  token_of items.Line n e = absurd (let x : ◌≡◌ {A = Option Part} None (Some (parts.Token n)) = e in cc)
  token_of items.In n e = absurd (let x : ◌≡◌ {A = Option Part} None (Some (parts.Token n)) = e in cc)
  token_of items.Out n e = absurd (let x : ◌≡◌ {A = Option Part} None (Some (parts.Token n)) = e in cc)

  pub slot_of : (i : Item) (k : Kind) → part_of base words i ≡ Some (parts.Slot k) → i ≡ items.Slot k
  slot_of (items.Slot m) k e = let x : Some (parts.Slot m) ≡ Some (parts.Slot k) = e in cc
  slot_of (items.Word w) k e = of (word_number base words w) e where
    of : (o : Option ℕ) → option_map (λ n. parts.Token n) o ≡ Some (parts.Slot k) → items.Word w ≡ items.Slot k
    of (Some m) f = absurd (let x : Some (parts.Token m) ≡ Some (parts.Slot k) = f in cc)
    of None f = absurd (let x : ◌≡◌ {A = Option Part} None (Some (parts.Slot k)) = f in cc)
  slot_of (items.Refers s) k e = absurd (let x : Some (parts.Token 0) ≡ Some (parts.Slot k) = e in cc)
  slot_of (items.Declares s) k e = absurd (let x : Some (parts.Token 0) ≡ Some (parts.Slot k) = e in cc)
  slot_of items.Number k e = absurd (let x : Some (parts.Token 1) ≡ Some (parts.Slot k) = e in cc)
  slot_of items.Text k e = absurd (let x : Some (parts.Token 2) ≡ Some (parts.Slot k) = e in cc)
  slot_of items.Space k e = absurd (let x : ◌≡◌ {A = Option Part} None (Some (parts.Slot k)) = e in cc)
  slot_of items.Tight k e = absurd (let x : ◌≡◌ {A = Option Part} None (Some (parts.Slot k)) = e in cc)
  slot_of items.Line k e = absurd (let x : ◌≡◌ {A = Option Part} None (Some (parts.Slot k)) = e in cc)
  slot_of items.In k e = absurd (let x : ◌≡◌ {A = Option Part} None (Some (parts.Slot k)) = e in cc)
  slot_of items.Out k e = absurd (let x : ◌≡◌ {A = Option Part} None (Some (parts.Slot k)) = e in cc)

  -- the tests agree
  pub same_token : (i : Item) (p : Part) → part_of base words i ≡ Some p → is_token_item i ≡ is_token (Some p)
  same_token i (parts.Token n) e = there i (token_of i n e) where
    there : (i : Item) → item_number base words i ≡ Some n → is_token_item i ≡ true
    there (items.Word w) f = refl
    there (items.Refers s) f = refl
    there (items.Declares s) f = refl
    there items.Number f = refl
    there items.Text f = refl
    there (items.Slot k) f = absurd (let x : None ≡ Some n = f in cc)
    there items.Space f = absurd (let x : None ≡ Some n = f in cc)
    there items.Tight f = absurd (let x : None ≡ Some n = f in cc)
    there items.Line f = absurd (let x : None ≡ Some n = f in cc)
    there items.In f = absurd (let x : None ≡ Some n = f in cc)
    there items.Out f = absurd (let x : None ≡ Some n = f in cc)
  same_token i (parts.Slot k) e = ap is_token_item (slot_of i k e)

  pub same_own : (q : ℕ) (i : Item) (p : Part) → part_of base words i ≡ Some p → is_slot_of q (Some i) ≡ is_own q (Some p)
  same_own q i (parts.Token n) e = there i (token_of i n e) where
    there : (i : Item) → item_number base words i ≡ Some n → is_slot_of q (Some i) ≡ false
    there (items.Word w) f = refl
    there (items.Refers s) f = refl
    there (items.Declares s) f = refl
    there items.Number f = refl
    there items.Text f = refl
    there (items.Slot k) f = absurd (let x : None ≡ Some n = f in cc)
    there items.Space f = refl
    there items.Tight f = refl
    there items.Line f = refl
    there items.In f = refl
    there items.Out f = refl
  same_own q i (parts.Slot (kinds.Phylum r)) e = ap (λ j. is_slot_of q (Some j)) (slot_of i (kinds.Phylum r) e)
  same_own q i (parts.Slot (kinds.List l)) e = ap (λ j. is_slot_of q (Some j)) (slot_of i (kinds.List l) e)

  pub same_length : (is : List Item) (ps : List Part) → Match is ps → length is ≡ length ps
  same_length [] [] m = refl
  same_length [] (p ∷ ps) m = absurd m
  same_length (i ∷ is) [] m = absurd m
  same_length (i ∷ is) (p ∷ ps) (e, m) = ap (λ n. suc n) (same_length is ps m)

  pub first_token : (is : List Item) (ps : List Part) → Match is ps → token_first is ≡ is_token (slice_get ps 0)
  first_token [] [] m = refl
  first_token [] (p ∷ ps) m = absurd m
  first_token (i ∷ is) [] m = absurd m
  first_token (i ∷ is) (p ∷ ps) (e, m) = same_token i p e

  pub first_own : (q : ℕ) (is : List Item) (ps : List Part) → Match is ps → own_first q is ≡ is_own q (slice_get ps 0)
  first_own q [] [] m = refl
  first_own q [] (p ∷ ps) m = absurd m
  first_own q (i ∷ is) [] m = absurd m
  first_own q (i ∷ is) (p ∷ ps) (e, m) = same_own q i p e

  last_place : (p r : Part) (ps : List Part) → slice_get (r ∷ ps) (length (r ∷ ps) - 1) ≡ slice_get (p ∷ r ∷ ps) (length (p ∷ r ∷ ps) - 1)
  last_place p r ps = ap (slice_get (r ∷ ps)) (down (length ps)) ∙ ap (slice_get (p ∷ r ∷ ps)) (sym (up (length ps))) where
    down : (n : ℕ) → suc n - 1 ≡ n
    down n = omega arith

    up : (n : ℕ) → suc (suc n) - 1 ≡ suc n
    up n = omega arith

  pub last_own : (q : ℕ) (is : List Item) (ps : List Part) → Match is ps → own_last q is ≡ is_own q (slice_get ps (length ps - 1))
  last_own q [] [] m = refl
  last_own q [] (p ∷ ps) m = absurd m
  last_own q (i ∷ is) [] m = absurd m
  last_own q (i ∷ []) (p ∷ []) (e, m) = same_own q i p e
  last_own q (i ∷ []) (p ∷ r ∷ ps) (e, m) = absurd m
  last_own q (i ∷ j ∷ is) (p ∷ []) (e, m) = absurd m
  last_own q (i ∷ j ∷ is) (p ∷ r ∷ ps) (e, m) = last_own q (j ∷ is) (r ∷ ps) m ∙ ap (is_own q) (last_place p r ps)

  pub last_token : (is : List Item) (ps : List Part) → Match is ps → token_last is ≡ is_token (slice_get ps (length ps - 1))
  last_token [] [] m = refl
  last_token [] (p ∷ ps) m = absurd m
  last_token (i ∷ is) [] m = absurd m
  last_token (i ∷ []) (p ∷ []) (e, m) = same_token i p e
  last_token (i ∷ []) (p ∷ r ∷ ps) (e, m) = absurd m
  last_token (i ∷ j ∷ is) (p ∷ []) (e, m) = absurd m
  last_token (i ∷ j ∷ is) (p ∷ r ∷ ps) (e, m) = last_token (j ∷ is) (r ∷ ps) m ∙ ap is_token (last_place p r ps)

  begins_same : (q : ℕ) (is : List Item) (ps : List Part) → Match is ps → begins_well q is ≡ (is_token (slice_get ps 0) || (is_own q (slice_get ps 0) && is_token (slice_get ps 1)))
  begins_same q [] [] m = refl
  begins_same q [] (p ∷ ps) m = absurd m
  begins_same q (i ∷ is) [] m = absurd m
  begins_same q (i ∷ is) (p ∷ ps) (e, m) = ap₂ (λ a b. a || b) (same_token i p e) (ap₂ (λ a b. a && b) (same_own q i p e) (first_token is ps m))

  -- of an operator
  module _ (o : Operator) (known : Known o.items) where
    pub match_of : Match (solid o.items) (parts_of base words o.items)
    match_of = matches o.items known

    pub starts_same : begins_well o.phylum (solid o.items) ≡ starts (shape_of base words o)
    starts_same = begins_same o.phylum (solid o.items) (parts_of base words o.items) (matches o.items known)

    infix_same : own_first o.phylum (solid o.items) && own_last o.phylum (solid o.items) && nat_le 3 (length (solid o.items))
        ≡ is_own o.phylum (slice_get (parts_of base words o.items) 0) && is_own o.phylum (slice_get (parts_of base words o.items) (length (parts_of base words o.items) - 1)) && nat_le 3 (length (parts_of base words o.items))
    infix_same = ap₂ (λ a b. a && b) (ap₂ (λ a b. a && b) (first_own o.phylum _ _ (matches o.items known)) (last_own o.phylum _ _ (matches o.items known))) (ap (nat_le 3) (same_length _ _ (matches o.items known)))

    pub fits_same : (level : Level) → has_form level o.phylum (solid o.items) ≡ fits_level level (shape_of base words o)
    fits_same levels.Plain = ap₂ (λ a b. a && b) (first_token _ _ (matches o.items known)) (ap not (last_own o.phylum _ _ (matches o.items known)))
    fits_same (levels.Prefix n) = ap₂ (λ a b. a && b) (first_token _ _ (matches o.items known)) (last_own o.phylum _ _ (matches o.items known))
    fits_same (levels.Postfix n) = ap₂ (λ a b. a && b) (first_own o.phylum _ _ (matches o.items known)) (last_token _ _ (matches o.items known))
    fits_same (levels.InfixLeft n) = infix_same
    fits_same (levels.InfixRight n) = infix_same
    fits_same (levels.InfixNone n) = infix_same
