-- What can begin some parts, by the first of them.
use Rattle.std.proofs.Common.{◌≡◌, ◌⊎◌, inl, inr, ℕ, ◌+◌, ◌<◌, true, false, List, [], ◌∷◌, ◌++◌, length, take, drop, get_or, Some, None, refl, ap, sym, ◌∙◌, subst, arith, add-one, true≢false}
use Rattle.std.proofs.Math.Seq.{split_at as split_suc}
use Rattle.psg_grammar.specs.declared.types.Kind.{Kind}
use Rattle.psg_grammar.specs.declared.types.Kind.TheVariants as kinds
use Rattle.psg_class.specs.declared.grid.Cell.{Cell}
use Rattle.psg_class.specs.declared.shape.Part.{Part}
use Rattle.psg_class.specs.declared.shape.Part.TheVariants as parts
use Rattle.psg_class.specs.declared.shape.Shape.{Shape}
use Rattle.psg_class.specs.declared.sources.Rows.{Rows}
use Rattle.psg_class.specs.declared.sources.Draft.{Draft}
use Rattle.psg_class.specs.Sources.{Adds, NoLink, OneCell, Either, IsRows, IsKind, IsPartOf, IsShapeOf, LeadFact, IsOnly, TokenIn, SlotIn, can_end, BeginFact, BeginLink, first_row, kind_index, is_phylum_kind}
use Rattle.psg_class.proofs.Drafts.{adds_as, adds_both}

pub split_at : {X : Type 0} (xs : List X) (n : ℕ) (d : X) → n < length xs → xs ≡ take n xs ++ get_or xs n d ∷ drop (n + 1) xs
split_at xs n d h = split_suc xs n d h ∙ ap (λ k. take n xs ++ get_or xs n d ∷ drop k xs) (sym (add-one n))

pub ends_front : (xs ys : List Part) → can_end xs ≡ true → can_end (xs ++ ys) ≡ can_end ys
ends_front [] ys h = refl
ends_front (parts.Token n ∷ xs) ys h = absurd (true≢false (sym h))
ends_front (parts.Slot (kinds.Phylum p) ∷ xs) ys h = absurd (true≢false (sym h))
ends_front (parts.Slot (kinds.List l) ∷ xs) ys h = ends_front xs ys h

pub token_behind : (xs ys : List Part) (n : ℕ) → can_end xs ≡ true → TokenIn (xs ++ ys) n → TokenIn ys n
token_behind [] ys n h t = t
token_behind (parts.Token k ∷ xs) ys n h t = absurd (true≢false (sym h))
token_behind (parts.Slot (kinds.Phylum p) ∷ xs) ys n h t = absurd t
token_behind (parts.Slot (kinds.List l) ∷ xs) ys n h t = token_behind xs ys n h t

pub token_before : (xs ys : List Part) (n : ℕ) → can_end xs ≡ true → TokenIn ys n → TokenIn (xs ++ ys) n
token_before [] ys n h t = t
token_before (parts.Token k ∷ xs) ys n h t = absurd (true≢false (sym h))
token_before (parts.Slot (kinds.Phylum p) ∷ xs) ys n h t = absurd (true≢false (sym h))
token_before (parts.Slot (kinds.List l) ∷ xs) ys n h t = token_before xs ys n h t

pub slot_cases : (xs ys : List Part) (k : Kind) → can_end xs ≡ true → SlotIn (xs ++ ys) k → SlotIn xs k ⊎ SlotIn ys k
slot_cases [] ys k h s = inr s
slot_cases (parts.Token n ∷ xs) ys k h s = absurd s
slot_cases (parts.Slot (kinds.Phylum p) ∷ xs) ys k h s = absurd (true≢false (sym h))
slot_cases (parts.Slot (kinds.List l) ∷ xs) ys k h (inl e) = inl (inl e)
slot_cases (parts.Slot (kinds.List l) ∷ xs) ys k h (inr s) = elim (slot_cases xs ys k h s) [ inl a ↦ inl (inr a) | inr b ↦ inr b ]

pub slot_left : (xs ys : List Part) (k : Kind) → SlotIn xs k → SlotIn (xs ++ ys) k
slot_left [] ys k s = absurd s
slot_left (parts.Token n ∷ xs) ys k s = absurd s
slot_left (parts.Slot (kinds.Phylum p) ∷ xs) ys k s = s
slot_left (parts.Slot (kinds.List l) ∷ xs) ys k (inl e) = inl e
slot_left (parts.Slot (kinds.List l) ∷ xs) ys k (inr s) = inr (slot_left xs ys k s)

pub slot_right : (xs ys : List Part) (k : Kind) → can_end xs ≡ true → SlotIn ys k → SlotIn (xs ++ ys) k
slot_right [] ys k h s = s
slot_right (parts.Token n ∷ xs) ys k h s = absurd (true≢false (sym h))
slot_right (parts.Slot (kinds.Phylum p) ∷ xs) ys k h s = absurd (true≢false (sym h))
slot_right (parts.Slot (kinds.List l) ∷ xs) ys k h s = inr (slot_right xs ys k h s)

-- no token, where there are only lists
pub no_token : (xs : List Part) (n : ℕ) → can_end xs ≡ true → TokenIn xs n → ⊥
no_token [] n h t = t
no_token (parts.Token k ∷ xs) n h t = true≢false (sym h)
no_token (parts.Slot (kinds.Phylum p) ∷ xs) n h t = t
no_token (parts.Slot (kinds.List l) ∷ xs) n h t = no_token xs n h t

-- the first slot of some parts is alone
only_slot : (k : Kind) → can_end (parts.Slot k ∷ []) ≡ true → (m : Kind) → SlotIn (parts.Slot k ∷ []) m → m ≡ k
only_slot (kinds.Phylum p) h m s = s
only_slot (kinds.List l) h m (inl e) = e
only_slot (kinds.List l) h m (inr s) = absurd s

one_slot : (k : Kind) → SlotIn (parts.Slot k ∷ []) k
one_slot (kinds.Phylum p) = refl
one_slot (kinds.List l) = inl refl

-- ---- the first part of an operator

pub lead_inside : (rows : Rows) (width : ℕ) (s : Shape) (r c : ℕ) → IsRows rows → IsShapeOf rows width s → LeadFact rows s r c → (r < rows.height) × (c < width)
lead_inside rows width s r c is shape (inl (e, f)) =
    (let p = shape.phylum in let h = is.height_is in let k = is.phyla_among in omega arith, let x : IsPartOf rows width (parts.Token c) = shape.each 0 (parts.Token c) e in x)
lead_inside rows width s r c is shape (inr (k, e, f)) =
    (let p = shape.phylum in let h = is.height_is in omega arith, let x : IsPartOf rows width (parts.Token c) = shape.each 1 (parts.Token c) e in x)

pub lead_adds : (rows : Rows) (s : Shape) (x : Cell) (a b : Draft) → IsOnly (LeadFact rows s) (Some x) → Adds (OneCell x.row x.column) NoLink a b → Adds (LeadFact rows s) NoLink a b
lead_adds rows s x a b only h = adds_as (OneCell x.row x.column) NoLink (LeadFact rows s) NoLink a b (λ r c f. (only r c).1 f) (λ r c f. (only r c).0 f) (λ t f e. e) (λ t f e. e) h

pub no_lead : (rows : Rows) (s : Shape) (a b : Draft) → IsOnly (LeadFact rows s) None → Adds NoLink NoLink a b → Adds (LeadFact rows s) NoLink a b
no_lead rows s a b only h = adds_as NoLink NoLink (LeadFact rows s) NoLink a b (λ r c f. absurd f) (λ r c f. only r c f) (λ t f e. e) (λ t f e. e) h

-- ---- parts one after the other

-- what the parts up to the place gave, and they are lists
pub record SoFar (rows : Rows) (to : ℕ) (ps : List Part) (place : ℕ) (a b : Draft) : Type 0 where
  pub adds : Adds NoLink (BeginLink rows to (take place ps)) a b
  pub lists : can_end (take place ps) ≡ true

module _ (rows : Rows) (to : ℕ) (ps : List Part) (place : ℕ) (d : Part) (lt : place < length ps) (a b c : Draft) (before : SoFar rows to ps place a b) where
  front : List Part
  front = take place ps

  rest : List Part
  rest = drop (place + 1) ps

  abbrev whole_is : Part → Type 0
  whole_is p = ps ≡ take place ps ++ p ∷ drop (place + 1) ps

  -- a token ends the walk
  pub at_token : (n : ℕ) → get_or ps place d ≡ parts.Token n → Adds (OneCell to n) NoLink b c → Adds (BeginFact to ps) (BeginLink rows to ps) a c
  at_token n e h =
      let w : ps ≡ take place ps ++ parts.Token n ∷ drop (place + 1) ps = split_at ps place d lt ∙ ap (λ p. take place ps ++ p ∷ drop (place + 1) ps) e in
      adds_as (Either NoLink (OneCell to n)) (Either (BeginLink rows to (take place ps)) NoLink) (BeginFact to ps) (BeginLink rows to ps) a c
      (λ r k f. elim f [ inl x ↦ absurd x | inr (x, y) ↦ (x, subst (λ l. TokenIn l k) (sym w) (token_before (take place ps) (parts.Token n ∷ drop (place + 1) ps) k before.lists y)) ])
      (λ r k (x, t). inr (x, token_behind (take place ps) (parts.Token n ∷ drop (place + 1) ps) k before.lists (subst (λ l. TokenIn l k) w t)))
      (λ t f l. elim l [ inl (x, (k, s, y)) ↦ (x, (k, subst (λ l'. SlotIn l' k) (sym w) (slot_left (take place ps) (parts.Token n ∷ drop (place + 1) ps) k s), y)) | inr x ↦ absurd x ])
      (λ t f (x, (k, s, y)). elim (slot_cases (take place ps) (parts.Token n ∷ drop (place + 1) ps) k before.lists (subst (λ l'. SlotIn l' k) w s)) [ inl z ↦ inl (x, (k, z, y)) | inr z ↦ absurd z ])
      (adds_both NoLink (BeginLink rows to (take place ps)) (OneCell to n) NoLink a b c before.adds h)

  pub ends_token : (n : ℕ) → get_or ps place d ≡ parts.Token n → false ≡ can_end ps
  ends_token n e = sym (ap can_end (split_at ps place d lt ∙ ap (λ p. take place ps ++ p ∷ drop (place + 1) ps) e) ∙ ends_front (take place ps) (parts.Token n ∷ drop (place + 1) ps) before.lists)

  -- a phylum too
  pub at_phylum : (p : ℕ) → get_or ps place d ≡ parts.Slot (kinds.Phylum p) → Adds NoLink (OneCell to (first_row rows (kinds.Phylum p))) b c → Adds (BeginFact to ps) (BeginLink rows to ps) a c
  at_phylum p e h =
      let w : ps ≡ take place ps ++ parts.Slot (kinds.Phylum p) ∷ drop (place + 1) ps = split_at ps place d lt ∙ ap (λ x. take place ps ++ x ∷ drop (place + 1) ps) e in
      adds_as (Either NoLink NoLink) (Either (BeginLink rows to (take place ps)) (OneCell to (first_row rows (kinds.Phylum p)))) (BeginFact to ps) (BeginLink rows to ps) a c
      (λ r k f. elim f [ inl x ↦ absurd x | inr x ↦ absurd x ])
      (λ r k (x, t). absurd (token_behind (take place ps) (parts.Slot (kinds.Phylum p) ∷ drop (place + 1) ps) k before.lists (subst (λ l. TokenIn l k) w t)))
      (λ t f l. elim l [
        | inl (x, (k, s, y)) ↦ (x, (k, subst (λ l'. SlotIn l' k) (sym w) (slot_left (take place ps) (parts.Slot (kinds.Phylum p) ∷ drop (place + 1) ps) k s), y))
        | inr (x, y) ↦ (x, (kinds.Phylum p, subst (λ l'. SlotIn l' (kinds.Phylum p)) (sym w) (slot_right (take place ps) (parts.Slot (kinds.Phylum p) ∷ drop (place + 1) ps) (kinds.Phylum p) before.lists refl), y))
      ])
      (λ t f (x, (k, s, y)). elim (slot_cases (take place ps) (parts.Slot (kinds.Phylum p) ∷ drop (place + 1) ps) k before.lists (subst (λ l'. SlotIn l' k) w s)) [
        | inl z ↦ inl (x, (k, z, y))
        | inr z ↦ inr (x, y ∙ ap (first_row rows) z)
      ])
      (adds_both NoLink (BeginLink rows to (take place ps)) NoLink (OneCell to (first_row rows (kinds.Phylum p))) a b c before.adds h)

  pub ends_phylum : (p : ℕ) → get_or ps place d ≡ parts.Slot (kinds.Phylum p) → false ≡ can_end ps
  ends_phylum p e = sym (ap can_end (split_at ps place d lt ∙ ap (λ x. take place ps ++ x ∷ drop (place + 1) ps) e) ∙ ends_front (take place ps) (parts.Slot (kinds.Phylum p) ∷ drop (place + 1) ps) before.lists)

  -- a list goes on
  pub at_list : (l : ℕ) → get_or ps place d ≡ parts.Slot (kinds.List l) → take (place + 1) ps ≡ take place ps ++ get_or ps place d ∷ [] → Adds NoLink (OneCell to (first_row rows (kinds.List l))) b c → SoFar rows to ps (place + 1) a c
  at_list l e more h =
      let next : take (place + 1) ps ≡ take place ps ++ parts.Slot (kinds.List l) ∷ [] = more ∙ ap (λ p. take place ps ++ p ∷ []) e in
      record {
        adds = adds_as (Either NoLink NoLink) (Either (BeginLink rows to (take place ps)) (OneCell to (first_row rows (kinds.List l)))) NoLink (BeginLink rows to (take (place + 1) ps)) a c
            (λ r k f. elim f [ inl x ↦ x | inr x ↦ x ])
            (λ r k f. absurd f)
            (λ t f i. elim i [
              | inl (x, (k, s, y)) ↦ (x, (k, subst (λ l'. SlotIn l' k) (sym next) (slot_left (take place ps) (parts.Slot (kinds.List l) ∷ []) k s), y))
              | inr (x, y) ↦ (x, (kinds.List l, subst (λ l'. SlotIn l' (kinds.List l)) (sym next) (slot_right (take place ps) (parts.Slot (kinds.List l) ∷ []) (kinds.List l) before.lists (inl refl)), y))
            ])
            (λ t f (x, (k, s, y)). elim (slot_cases (take place ps) (parts.Slot (kinds.List l) ∷ []) k before.lists (subst (λ l'. SlotIn l' k) next s)) [
              | inl z ↦ inl (x, (k, z, y))
              | inr z ↦ inr (x, y ∙ ap (first_row rows) (only_slot (kinds.List l) refl k z))
            ])
            (adds_both NoLink (BeginLink rows to (take place ps)) NoLink (OneCell to (first_row rows (kinds.List l))) a b c before.adds h);
        lists = ap can_end next ∙ ends_front (take place ps) (parts.Slot (kinds.List l) ∷ []) before.lists;
      }

-- all parts are lists
pub at_end : (rows : Rows) (to : ℕ) (ps : List Part) (place : ℕ) (a b : Draft) → SoFar rows to ps place a b → take place ps ≡ ps → Adds (BeginFact to ps) (BeginLink rows to ps) a b
at_end rows to ps place a b before e =
    adds_as NoLink (BeginLink rows to (take place ps)) (BeginFact to ps) (BeginLink rows to ps) a b
    (λ r k f. absurd f)
    (λ r k (x, t). absurd (no_token ps k (subst (λ l. can_end l ≡ true) e before.lists) t))
    (λ t f l. subst (λ z. BeginLink rows to z t f) e l)
    (λ t f l. subst (λ z. BeginLink rows to z t f) (sym e) l)
    before.adds

pub phylum_of : (k : Kind) → is_phylum_kind k ≡ true → (p : ℕ) × (k ≡ kinds.Phylum p)
phylum_of (kinds.Phylum p) h = (p, refl)
phylum_of (kinds.List l) h = absurd (true≢false (sym h))

pub list_of : (k : Kind) → is_phylum_kind k ≡ false → (l : ℕ) × (k ≡ kinds.List l)
list_of (kinds.Phylum p) h = absurd (true≢false h)
list_of (kinds.List l) h = (l, refl)

pub kind_small : (rows : Rows) (k : Kind) → IsRows rows → IsKind rows k → kind_index rows.phyla k < rows.kinds
kind_small rows (kinds.Phylum p) is h = let a = is.phyla_among in omega (arith, h, a)
kind_small rows (kinds.List l) is h = h
