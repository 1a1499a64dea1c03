-- What the eight conditions say of a class, as facts on its operators.
use Rattle.std.proofs.Common.{◌≡◌, ◌≢◌, ◌⊎◌, inl, inr, ℕ, ◌==◌, ◌≤◌, ◌<◌, ◌&&◌, ◌||◌, not, Bool, true, false, List, [], ◌∷◌, ◌++◌, Option, Some, None, slice_get, is_some, refl, sym, ap, ◌∙◌, arith, eqb-true, eq-eqb, true≢false}
use Rattle.std.proofs.lemmas.Bool.{and_parts, cases_Bool, or_cases, true_from_ne_false}
use Rattle.psg_grammar.specs.declared.types.Kind.TheVariants as kinds
use Rattle.psg_grammar.specs.declared.types.Level.{Level}
use Rattle.psg_grammar.specs.declared.types.Level.TheVariants as levels
use Rattle.psg_grammar.specs.declared.types.Item.{Item}
use Rattle.psg_grammar.specs.declared.types.Item.TheVariants as items
use Rattle.psg_grammar.specs.declared.types.Operator.{Operator}
use Rattle.psg_grammar.specs.declared.types.Phylum.{Phylum}
use Rattle.psg_grammar.specs.declared.types.ListKind.{ListKind}
use Rattle.psg_grammar.specs.declared.types.Definition.{Definition}
use Rattle.psg_grammar.specs.Levels.{level_number, is_slot_of}
use Rattle.psg_class.specs.Terminals.{Terminal, fixed, open_bracket, item_terminal}
use Rattle.psg_class.specs.Places.{solid, is_empty, slot_level}
use Rattle.psg_class.specs.Follow.{Leads, Led, FirstOfList, Follow}
use Rattle.psg_class.specs.Class.{is_token, token_first, token_last, own_first, own_last, begins_well, has_form, number_of, two_operators, with_bracket, two_led, led_behind, separator_behind, first_behind, IsClass}

-- a token item first
pub record TokenFirst (o : Operator) : Type 0 where
  pub item : Item
  pub more : List Item
  pub items : solid o.items ≡ item ∷ more
  pub terminal : Terminal
  pub begins : item_terminal item ≡ Some terminal

-- a slot of the own phylum first, and then a token item
pub record OwnFirst (o : Operator) : Type 0 where
  pub item : Item
  pub more : List Item
  pub items : solid o.items ≡ items.Slot (kinds.Phylum o.phylum) ∷ item ∷ more
  pub terminal : Terminal
  pub begins : item_terminal item ≡ Some terminal

-- a slot of the own phylum last
pub record OwnLast (o : Operator) : Type 0 where
  pub front : List Item
  pub items : solid o.items ≡ front ++ items.Slot (kinds.Phylum o.phylum) ∷ []

-- a token item last
pub record TokenLast (o : Operator) : Type 0 where
  pub front : List Item
  pub item : Item
  pub items : solid o.items ≡ front ++ item ∷ []
  pub terminal : Terminal
  pub begins : item_terminal item ≡ Some terminal

-- what the laws need of the forms
abbrev pub HasForm : Operator → Level → Type 0
HasForm o levels.Plain = TokenFirst o × (OwnLast o → ⊥)
HasForm o (levels.Prefix n) = TokenFirst o × OwnLast o
HasForm o (levels.Postfix n) = TokenLast o
HasForm o _ = OwnLast o

pub record ClassFacts (def : Definition) : Type 0 where
  pub begins : (n : ℕ) (o : Operator) → slice_get def.operators n ≡ Some o → TokenFirst o ⊎ OwnFirst o
  pub forms : (n : ℕ) (o : Operator) → slice_get def.operators n ≡ Some o → HasForm o o.level
  pub brackets : (p : ℕ) (phylum : Phylum) → slice_get def.phyla p ≡ Some phylum → phylum.bracketed ≡ false
      → (n : ℕ) (o : Operator) → slice_get def.operators n ≡ Some o → (front behind : List Item) → solid o.items ≡ front ++ items.Slot (kinds.Phylum p) ∷ behind
      → (m : ℕ) (other : Operator) → slice_get def.operators m ≡ Some other → other.phylum ≡ p → slot_level o (kinds.Phylum p) (is_empty front) behind ≤ level_number other.level
  -- with the same N they have the same form, so the same level
  pub mixed : (n m : ℕ) (o other : Operator) → slice_get def.operators n ≡ Some o → slice_get def.operators m ≡ Some other → o.phylum ≡ other.phylum
      → (level : ℕ) → number_of o.level ≡ Some level → number_of other.level ≡ Some level → o.level ≡ other.level
  pub same_first : (p n m : ℕ) (terminal : Terminal) → Leads def p n terminal → Leads def p m terminal → n ≡ m
  pub bracket_first : (p n : ℕ) (phylum : Phylum) → slice_get def.phyla p ≡ Some phylum → phylum.bracketed ≡ true → Leads def p n open_bracket → ⊥
  pub same_led : (p n m : ℕ) (terminal : Terminal) → Led def p n terminal → Led def p m terminal → n ≡ m
  pub led_follows : (p n : ℕ) (terminal : Terminal) → Led def p n terminal → Follow def (kinds.Phylum p) terminal → ⊥
  pub separator_end : (l : ℕ) (kind : ListKind) → slice_get def.lists l ≡ Some kind → Follow def (kinds.List l) (fixed kind.separator) → ⊥
  pub list_end : (l : ℕ) (terminal : Terminal) → FirstOfList def l terminal → Follow def (kinds.List l) terminal → ⊥

-- ---- tests as facts

pub not_true : (b : Bool) → not b ≡ true → b ≡ true → ⊥
not_true true h e = true≢false (sym h)
not_true false h e = true≢false (sym e)

-- a test that never fails holds
pub terminal_of_token : (i : Item) → is_token i ≡ true → (t : Terminal) × (item_terminal i ≡ Some t)
terminal_of_token i h = of (item_terminal i) h where
  of : (x : Option Terminal) → is_some x ≡ true → (t : Terminal) × (x ≡ Some t)
  of (Some t) e = (t, refl)
  of None e = absurd (true≢false (sym e))

pub slot_is : (p : ℕ) (i : Item) → is_slot_of p (Some i) ≡ true → i ≡ items.Slot (kinds.Phylum p)
slot_is p (items.Slot (kinds.Phylum q)) h = ap (λ x. items.Slot (kinds.Phylum x)) (eqb-true q p h)
slot_is p (items.Slot (kinds.List l)) h = absurd (true≢false (sym h))
slot_is p (items.Word w) h = absurd (true≢false (sym h))
slot_is p (items.Refers s) h = absurd (true≢false (sym h))
slot_is p (items.Declares s) h = absurd (true≢false (sym h))
slot_is p items.Number h = absurd (true≢false (sym h))
slot_is p items.Text h = absurd (true≢false (sym h))
slot_is p items.Space h = absurd (true≢false (sym h))
slot_is p items.Tight h = absurd (true≢false (sym h))
slot_is p items.Line h = absurd (true≢false (sym h))
slot_is p items.In h = absurd (true≢false (sym h))
slot_is p items.Out h = absurd (true≢false (sym h))

pub token_at_front : (is : List Item) → token_first is ≡ true → (i : Item) × (rest : List Item) × (t : Terminal) × (is ≡ i ∷ rest) × (item_terminal i ≡ Some t)
token_at_front [] h = absurd (true≢false (sym h))
token_at_front (i ∷ rest) h = let (t, e) = terminal_of_token i h in (i, rest, t, refl, e)

pub token_at_end : (is : List Item) → token_last is ≡ true → (front : List Item) × (i : Item) × (t : Terminal) × (is ≡ front ++ i ∷ []) × (item_terminal i ≡ Some t)
token_at_end [] h = absurd (true≢false (sym h))
token_at_end (i ∷ []) h = let (t, e) = terminal_of_token i h in ([], i, t, refl, e)
token_at_end (i ∷ j ∷ rest) h = let (front, k, t, e, f) = token_at_end (j ∷ rest) h in (i ∷ front, k, t, ap (λ x. i ∷ x) e, f)

pub own_at_end : (p : ℕ) (is : List Item) → own_last p is ≡ true → (front : List Item) × (is ≡ front ++ items.Slot (kinds.Phylum p) ∷ [])
own_at_end p [] h = absurd (true≢false (sym h))
own_at_end p (i ∷ []) h = ([], ap (λ x. x ∷ []) (slot_is p i h))
own_at_end p (i ∷ j ∷ rest) h = let (front, e) = own_at_end p (j ∷ rest) h in (i ∷ front, ap (λ x. i ∷ x) e)

pub at_end_own : (p : ℕ) (front : List Item) → own_last p (front ++ items.Slot (kinds.Phylum p) ∷ []) ≡ true
at_end_own p [] = eq-eqb p p refl
at_end_own p (i ∷ []) = eq-eqb p p refl
at_end_own p (i ∷ j ∷ rest) = at_end_own p (j ∷ rest)

-- ---- the facts of one operator

token_leads : (o : Operator) → token_first (solid o.items) ≡ true → TokenFirst o
token_leads o h = let (i, rest, t, e, f) = token_at_front (solid o.items) h in record { item = i; more = rest; items = e; terminal = t; begins = f }

own_ends : (o : Operator) → own_last o.phylum (solid o.items) ≡ true → OwnLast o
own_ends o h = let (front, e) = own_at_end o.phylum (solid o.items) h in record { front = front; items = e }

starts : (o : Operator) (is : List Item) → solid o.items ≡ is → begins_well o.phylum is ≡ true → TokenFirst o ⊎ OwnFirst o
starts o [] e h = absurd (true≢false (sym h))
starts o (i ∷ rest) e h = elim (or_cases (is_token i) (is_slot_of o.phylum (Some i) && token_first rest) h) [
  | inl a ↦ (let (t, f) = terminal_of_token i a in inl (record { item = i; more = rest; items = e; terminal = t; begins = f }))
  | inr b ↦ (let own : i ≡ items.Slot (kinds.Phylum o.phylum) = slot_is o.phylum i (and_parts _ _ b).0 in
      let (j, more, t, f, g) = token_at_front rest (and_parts (is_slot_of o.phylum (Some i)) (token_first rest) b).1 in
      inr (record { item = j; more = more; items = e ∙ ap (λ x. x ∷ rest) own ∙ ap (λ x. items.Slot (kinds.Phylum o.phylum) ∷ x) f; terminal = t; begins = g }))
]

form : (o : Operator) (level : Level) → has_form level o.phylum (solid o.items) ≡ true → HasForm o level
form o levels.Plain h = (token_leads o (and_parts _ _ h).0, λ l. not_true (own_last o.phylum (solid o.items)) (and_parts (token_first (solid o.items)) _ h).1 (ap (own_last o.phylum) l.items ∙ at_end_own o.phylum l.front))
form o (levels.Prefix n) h = (token_leads o (and_parts _ _ h).0, own_ends o (and_parts (token_first (solid o.items)) _ h).1)
form o (levels.Postfix n) h = let (front, i, t, e, f) = token_at_end (solid o.items) (and_parts (own_first o.phylum (solid o.items)) _ h).1 in record { front = front; item = i; items = e; terminal = t; begins = f }
form o (levels.InfixLeft n) h = own_ends o (and_parts (own_first o.phylum (solid o.items)) _ (and_parts _ _ h).0).1
form o (levels.InfixRight n) h = own_ends o (and_parts (own_first o.phylum (solid o.items)) _ (and_parts _ _ h).0).1
form o (levels.InfixNone n) h = own_ends o (and_parts (own_first o.phylum (solid o.items)) _ (and_parts _ _ h).0).1

-- levels of one number are equal, or of other forms
pub same_or_not : (a b : Level) (level : ℕ) → number_of a ≡ Some level → number_of b ≡ Some level → (a ≡ b) ⊎ (a ≢ b)
same_or_not levels.Plain b level e f = absurd (let x : None ≡ Some level = e in cc)
same_or_not a levels.Plain level e f = absurd (let x : None ≡ Some level = f in cc)
same_or_not (levels.Prefix n) (levels.Prefix m) level e f = inl (let x : Some n ≡ Some m = e ∙ sym f in cc)
same_or_not (levels.Prefix n) (levels.Postfix m) level e f = inr (λ x. cc)
same_or_not (levels.Prefix n) (levels.InfixLeft m) level e f = inr (λ x. cc)
same_or_not (levels.Prefix n) (levels.InfixRight m) level e f = inr (λ x. cc)
same_or_not (levels.Prefix n) (levels.InfixNone m) level e f = inr (λ x. cc)
same_or_not (levels.Postfix n) (levels.Prefix m) level e f = inr (λ x. cc)
same_or_not (levels.Postfix n) (levels.Postfix m) level e f = inl (let x : Some n ≡ Some m = e ∙ sym f in cc)
same_or_not (levels.Postfix n) (levels.InfixLeft m) level e f = inr (λ x. cc)
same_or_not (levels.Postfix n) (levels.InfixRight m) level e f = inr (λ x. cc)
same_or_not (levels.Postfix n) (levels.InfixNone m) level e f = inr (λ x. cc)
same_or_not (levels.InfixLeft n) (levels.Prefix m) level e f = inr (λ x. cc)
same_or_not (levels.InfixLeft n) (levels.Postfix m) level e f = inr (λ x. cc)
same_or_not (levels.InfixLeft n) (levels.InfixLeft m) level e f = inl (let x : Some n ≡ Some m = e ∙ sym f in cc)
same_or_not (levels.InfixLeft n) (levels.InfixRight m) level e f = inr (λ x. cc)
same_or_not (levels.InfixLeft n) (levels.InfixNone m) level e f = inr (λ x. cc)
same_or_not (levels.InfixRight n) (levels.Prefix m) level e f = inr (λ x. cc)
same_or_not (levels.InfixRight n) (levels.Postfix m) level e f = inr (λ x. cc)
same_or_not (levels.InfixRight n) (levels.InfixLeft m) level e f = inr (λ x. cc)
same_or_not (levels.InfixRight n) (levels.InfixRight m) level e f = inl (let x : Some n ≡ Some m = e ∙ sym f in cc)
same_or_not (levels.InfixRight n) (levels.InfixNone m) level e f = inr (λ x. cc)
same_or_not (levels.InfixNone n) (levels.Prefix m) level e f = inr (λ x. cc)
same_or_not (levels.InfixNone n) (levels.Postfix m) level e f = inr (λ x. cc)
same_or_not (levels.InfixNone n) (levels.InfixLeft m) level e f = inr (λ x. cc)
same_or_not (levels.InfixNone n) (levels.InfixRight m) level e f = inr (λ x. cc)
same_or_not (levels.InfixNone n) (levels.InfixNone m) level e f = inl (let x : Some n ≡ Some m = e ∙ sym f in cc)

pub decide : (n m : ℕ) → (n ≢ m → ⊥) → n ≡ m
decide n m h = elim (cases_Bool (n == m)) [ inl e ↦ eqb-true n m e | inr e ↦ absurd (h (λ x. true≢false (sym (eq-eqb n m x) ∙ e))) ]

pub facts : (def : Definition) → IsClass def → ClassFacts def
facts def (((((((begin, formed), bracket), level), first), led), follow), end) = record {
  begins = λ n o found. starts o (solid o.items) refl (true_from_ne_false (begins_well o.phylum (solid o.items)) (λ e. begin n (record { o = o; found = found; fails = e })));
  forms = λ n o found. form o o.level (true_from_ne_false (has_form o.level o.phylum (solid o.items)) (λ e. formed n (record { o = o; found = found; fails = e })));
  brackets = λ p phylum found bare n o holds front behind is m other there of_phylum. not_below (slot_level o (kinds.Phylum p) (is_empty front) behind) (level_number other.level)
      (λ h. bracket p (record { phylum = phylum; found = found; bare = bare; n = n; holder = o; holds = holds; front = front; behind = behind; items = is; m = m; o = other; there = there; of_phylum = of_phylum; below = h }));
  mixed = λ n m o other found there phylum number e f. elim (same_or_not o.level other.level number e f) [
    | inl same ↦ same
    | inr differ ↦ absurd (level other.phylum number (record { n = n; o = o; found = found; of_phylum = phylum; m = m; other = other; there = there; of_phylum_too = refl; number = e; number_too = f; differ = differ }))
  ];
  same_first = λ p n m terminal a b. decide n m (λ differ. first p terminal (two_operators n m differ a b));
  bracket_first = λ p n phylum found bracketed l. first p open_bracket (with_bracket phylum found bracketed n l);
  same_led = λ p n m terminal a b. decide n m (λ differ. led p terminal (two_led n m differ a b));
  led_follows = λ p n terminal l f. follow n terminal (led_behind p l f);
  separator_end = λ l kind found f. end l (fixed kind.separator) (separator_behind kind found f);
  list_end = λ l terminal a f. end l terminal (first_behind a f);
} where
  not_below : (a b : ℕ) → (b < a → ⊥) → a ≤ b
  not_below a b h = omega arith
