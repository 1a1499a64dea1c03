-- The tables of a definition as they are filled.
use Rattle.std.proofs.Common.{◌≡◌, ◌≢◌, ◌<◌, ◌≤◌, ◌+◌, ◌⊎◌, inl, inr, ℕ, zero, suc, List, [], ◌∷◌, ◌++◌, Option, Some, None, length, get_or, set, slice_get, refl, sym, ap, ◌∙◌, subst, arith}
use Rattle.std.proofs.lemmas.Bool.Decides.{eqb_tells}
use Rattle.std.proofs.lemmas.Option.{none-some, slice_get_within, get_or_from_slice_get}
use Rattle.psg_grammar.specs.declared.types.Kind.{Kind}
use Rattle.psg_grammar.specs.declared.types.Item.{Item}
use Rattle.psg_grammar.specs.declared.types.Item.TheVariants as items
use Rattle.psg_grammar.specs.declared.types.Operator.{Operator}
use Rattle.psg_grammar.specs.declared.types.Definition.{Definition}
use Rattle.psg_class.specs.Places.{solid}
use Rattle.psg_class.specs.Terminals.{Terminal, item_terminal}
use Rattle.psg_class.specs.Follow.{Leads, Led}
use Rattle.psg_parse.specs.declared.lookup.Openers.{Openers}
use Rattle.psg_parse.specs.declared.tables.Place.{Place}
use Rattle.psg_parse.specs.declared.tables.Place.TheVariants as places
use Rattle.psg_parse.specs.Lookups.{IsBare, Finds, Has, Puts as PutsIn, PutsAt, opener, opener_at, behind_slot, first_terminal, terminal_at}
use Rattle.psg_parse.proofs.Items.{bare_solid}

-- ---- one place of the table

pub none_more : (xs : List Openers) (o : Openers) → ((t : Terminal) → opener o t ≡ None) → ((p : ℕ) (t : Terminal) → opener_at xs p t ≡ None) → (p : ℕ) (t : Terminal) → opener_at (xs ++ o ∷ []) p t ≡ None
none_more [] o n h zero t = n t
none_more [] o n h (suc p) t = refl
none_more (x ∷ xs) o n h zero t = h zero t
none_more (x ∷ xs) o n h (suc p) t = none_more xs o n (λ q u. h (suc q) u) p t

module _ (item : Item) (op : ℕ) (o new : Openers) (puts : PutsIn o item op new) where
  here : (x : Openers) → o ≡ x → (t : Terminal)
      → ((item_terminal item ≡ Some t) × (opener new t ≡ Some op)) ⊎ ((item_terminal item ≡ Some t → ⊥) × (opener new t ≡ opener x t))
  here x e t = elim (puts t) [ inl a ↦ inl a | inr (n, f) ↦ inr (n, f ∙ ap (λ z. opener z t) e) ]

  pub puts_at : (old : List Openers) (phylum : ℕ) → phylum < length old → o ≡ get_or old phylum o → PutsAt old phylum item op (set old phylum new)
  puts_at [] phylum h e p t = absurd (omega arith)
  puts_at (x ∷ xs) zero h e zero t = elim (here x e t) [ inl (a, b) ↦ inl (refl, a, b) | inr (n, f) ↦ inr (λ same. n, f) ]
  puts_at (x ∷ xs) zero h e (suc p) t = inr (λ same. absurd (omega (arith, same)), refl)
  puts_at (x ∷ xs) (suc k) h e zero t = inr (λ same. absurd (omega (arith, same)), refl)
  puts_at (x ∷ xs) (suc k) h e (suc p) t = elim (puts_at xs k (omega (arith, h)) e p t) [
    | inl (same, a, b) ↦ inl (ap suc same, a, b)
    | inr (n, f) ↦ inr (λ same. n (omega (arith, same)), f)
  ]

-- ---- operators one after the other

below : (m n : ℕ) → m < n + 1 → m ≢ n → m < n
below m n lt ne = omega arith

module _ (def : Definition) (place : Place) (n : ℕ) where
  abbrev pub Before : ℕ → Terminal → ℕ → Type 0
  Before p t m = (m < n) × Has def place p m t

  abbrev pub UpTo : ℕ → Terminal → ℕ → Type 0
  UpTo p t m = (m < n + 1) × Has def place p m t

  up_to_none : (p : ℕ) (t : Terminal) → (Has def place p n t → ⊥) → ((m : ℕ) → Before p t m → ⊥) → (m : ℕ) → UpTo p t m → ⊥
  up_to_none p t lacks h m (lt, has) = elim (eqb_tells m n) [ inl e ↦ lacks (subst (λ k. Has def place p k t) e.1 has) | inr e ↦ h m (below m n lt e.1, has) ]

  pub more_none : (p : ℕ) (t : Terminal) (r : Option ℕ) → (Has def place p n t → ⊥) → Finds (Before p t) r → Finds (UpTo p t) r
  more_none p t None lacks h = up_to_none p t lacks h
  more_none p t (Some m) lacks (lt, has) = (omega (arith, lt), has)

-- the operator at a number is one
pub operator_is : (all ops : List Operator) → ops ≡ all → (n : ℕ) (o q : Operator) → q ≡ get_or ops n q → slice_get all n ≡ Some o → o ≡ q
operator_is all ops e n o q h found = sym (get_or_from_slice_get all n o q found) ∙ ap (λ x. get_or x n q) (sym e) ∙ sym h

module _ (def : Definition) (place : Place) (n : ℕ) (ops : List Operator) (same : ops ≡ def.operators) (q : Operator) (is : q ≡ get_or ops n q) where
  -- an operator without a terminal at the place
  pub has_none : terminal_at place q ≡ None → (p : ℕ) (t : Terminal) → Has def place p n t → ⊥
  has_none h p t has = let e : None ≡ Some t = sym h ∙ ap (terminal_at place) (sym (operator_is def.operators ops same n has.o q is has.found)) ∙ has.begins in cc

  has_item : (item : Item) → terminal_at place q ≡ item_terminal item → (p : ℕ) (t : Terminal) → Has def place p n t → (p ≡ q.phylum) × (item_terminal item ≡ Some t)
  has_item item h p t has =
      let one : has.o ≡ q = operator_is def.operators ops same n has.o q is has.found in
      (sym has.phylum ∙ ap (λ z. z.phylum) one, sym h ∙ ap (terminal_at place) (sym one) ∙ has.begins)

  -- an operator is put in at its phylum and its terminal
  pub more_put : (item : Item) → terminal_at place q ≡ item_terminal item → slice_get def.operators n ≡ Some q → (old new : List Openers) → PutsAt old q.phylum item n new
      → ((p : ℕ) (t : Terminal) → Finds (Before def place n p t) (opener_at old p t)) → (p : ℕ) (t : Terminal) → Finds (UpTo def place n p t) (opener_at new p t)
  more_put item h found old new puts before p t = elim (puts p t) [
    | inl (phylum, terminal, e) ↦ subst (Finds (UpTo def place n p t)) (sym e) (omega arith, record { o = q; found = found; phylum = sym phylum; begins = h ∙ terminal })
    | inr (lacks, e) ↦ subst (Finds (UpTo def place n p t)) (sym e) (more_none def place n p t (opener_at old p t) (λ has. let (a, b) = has_item item h p t has in lacks a b) (before p t))
  ]

pub all_found : (def : Definition) (place : Place) (n : ℕ) → length def.operators ≤ n → (p : ℕ) (t : Terminal) (r : Option ℕ) → Finds (Before def place n p t) r → Finds (λ m. Has def place p m t) r
all_found def place n h p t None f = λ m has. f m (let lt : m < length def.operators = slice_get_within def.operators m has.o has.found in omega (arith, lt, h), has)
all_found def place n h p t (Some m) f = f.1

-- ---- the item at a place

pub place_none : (place : Place) (o : Operator) → solid o.items ≡ [] → terminal_at place o ≡ None
place_none places.First o e = ap first_terminal e
place_none places.BehindSlot o e = ap (λ xs. first_terminal (behind_slot xs)) e

not_slot : (i : Item) (rest : List Item) → ((k : _) → i ≡ items.Slot k → ⊥) → first_terminal (behind_slot (i ∷ rest)) ≡ None
not_slot (items.Slot k) rest h = absurd (h k refl)
not_slot (items.Word w) rest h = refl
not_slot (items.Refers s) rest h = refl
not_slot (items.Declares s) rest h = refl
not_slot items.Number rest h = refl
not_slot items.Text rest h = refl
not_slot items.Space rest h = refl
not_slot items.Tight rest h = refl
not_slot items.Line rest h = refl
not_slot items.In rest h = refl
not_slot items.Out rest h = refl

pub place_first : (o : Operator) (left : List Item) (i : Item) (behind : List Item) → solid left ≡ solid o.items → IsBare left → left ≡ i ∷ behind → terminal_at places.First o ≡ item_terminal i
place_first o left i behind e bare is = ap first_terminal (bare_solid left o.items i behind e bare is)

pub place_no_slot : (o : Operator) (left : List Item) (i : Item) (behind : List Item) → solid left ≡ solid o.items → IsBare left → left ≡ i ∷ behind → ((k : _) → i ≡ items.Slot k → ⊥) → terminal_at places.BehindSlot o ≡ None
place_no_slot o left i behind e bare is h = ap (λ xs. first_terminal (behind_slot xs)) (bare_solid left o.items i behind e bare is) ∙ not_slot i (solid behind) h

pub place_behind : (o : Operator) (left : List Item) (i : Item) (behind : List Item) → solid left ≡ solid o.items → IsBare left → left ≡ i ∷ behind → (k : _) → i ≡ items.Slot k
    → terminal_at places.BehindSlot o ≡ first_terminal (solid behind)
place_behind o left i behind e bare is k slot = ap (λ xs. first_terminal (behind_slot xs)) (bare_solid left o.items i behind e bare is ∙ ap (λ j. j ∷ solid behind) slot)

-- ---- both places are those of the class

first_is : (xs : List Item) (t : Terminal) → first_terminal xs ≡ Some t → (i : Item) × (more : List Item) × (xs ≡ i ∷ more) × (item_terminal i ≡ Some t)
first_is [] t e = absurd (none-some t e)
first_is (i ∷ more) t e = (i, more, refl, e)

second_is : (xs : List Item) (t : Terminal) → first_terminal (behind_slot xs) ≡ Some t
    → (k : Kind) × (i : Item) × (more : List Item) × (xs ≡ items.Slot k ∷ i ∷ more) × (item_terminal i ≡ Some t)
second_is [] t e = absurd (none-some t e)
second_is (items.Slot k ∷ rest) t e = let (i, more, are, is) = first_is rest t e in (k, i, more, ap (λ xs. items.Slot k ∷ xs) are, is)
second_is (items.Word w ∷ rest) t e = absurd (none-some t e)
second_is (items.Refers s ∷ rest) t e = absurd (none-some t e)
second_is (items.Declares s ∷ rest) t e = absurd (none-some t e)
second_is (items.Number ∷ rest) t e = absurd (none-some t e)
second_is (items.Text ∷ rest) t e = absurd (none-some t e)
second_is (items.Space ∷ rest) t e = absurd (none-some t e)
second_is (items.Tight ∷ rest) t e = absurd (none-some t e)
second_is (items.Line ∷ rest) t e = absurd (none-some t e)
second_is (items.In ∷ rest) t e = absurd (none-some t e)
second_is (items.Out ∷ rest) t e = absurd (none-some t e)

finds_same : (A B : ℕ → Type 0) → ((n : ℕ) → A n → B n) → ((n : ℕ) → B n → A n) → (r : Option ℕ) → Finds A r → Finds B r
finds_same A B to from None f = λ n b. f n (from n b)
finds_same A B to from (Some n) f = to n f

module _ (def : Definition) (p : ℕ) (t : Terminal) where
  to_leads : (n : ℕ) → Has def places.First p n t → Leads def p n t
  to_leads n h = let (i, more, are, is) = first_is (solid h.o.items) t h.begins in record { o = h.o; found = h.found; phylum = h.phylum; item = i; more = more; items = are; begins = is }

  from_leads : (n : ℕ) → Leads def p n t → Has def places.First p n t
  from_leads n l = record { o = l.o; found = l.found; phylum = l.phylum; begins = ap first_terminal l.items ∙ l.begins }

  to_led : (n : ℕ) → Has def places.BehindSlot p n t → Led def p n t
  to_led n h = let (k, i, more, are, is) = second_is (solid h.o.items) t h.begins in record { o = h.o; found = h.found; phylum = h.phylum; slot = k; item = i; more = more; items = are; begins = is }

  from_led : (n : ℕ) → Led def p n t → Has def places.BehindSlot p n t
  from_led n l = record { o = l.o; found = l.found; phylum = l.phylum; begins = ap (λ xs. first_terminal (behind_slot xs)) l.items ∙ l.begins }

  pub leads_finds : (r : Option ℕ) → Finds (λ n. Has def places.First p n t) r → Finds (λ n. Leads def p n t) r
  leads_finds r f = finds_same (λ n. Has def places.First p n t) (λ n. Leads def p n t) to_leads from_leads r f

  pub led_finds : (r : Option ℕ) → Finds (λ n. Has def places.BehindSlot p n t) r → Finds (λ n. Led def p n t) r
  led_finds r f = finds_same (λ n. Has def places.BehindSlot p n t) (λ n. Led def p n t) to_led from_led r f
