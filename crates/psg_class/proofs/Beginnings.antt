-- What trees begin with.
use Rattle.std.proofs.Common.{◌≡◌, ◌⊎◌, inl, inr, ℕ, Bool, true, false, List, [], ◌∷◌, ◌++◌, Some, None, slice_get, refl, sym, ap, ◌∙◌, subst, append_assoc}
use Rattle.psg_grammar.specs.declared.types.Kind.TheVariants as kinds
use Rattle.psg_grammar.specs.declared.types.Item.{Item}
use Rattle.psg_grammar.specs.declared.types.Item.TheVariants as items
use Rattle.psg_grammar.specs.declared.types.Operator.{Operator}
use Rattle.psg_grammar.specs.declared.types.Definition.{Definition}
use Rattle.psg_grammar.specs.Fragments.{Fragment}
use Rattle.psg_class.specs.Terminals.{Token, word, numeral, quoted, dots, Terminal, fixed, a_name, a_number, a_text, a_hole, a_more, terminal_of, item_terminal, next_terminal}
use Rattle.psg_class.specs.Places.{solid}
use Rattle.psg_class.specs.Follow.{First, first_operator, first_hole, first_bracket, FirstOfList, first_element, first_more, BeginsWith, CanBeEmpty}
use Rattle.psg_class.proofs.ClassFacts.{ClassFacts}
use Rattle.psg_class.specs.Yields.{TreeYields, of_hole, of_operator, in_brackets, PartsYield, no_items, of_word, of_refers, of_declares, of_number, of_text, of_slot, of_list_slot, ListYields, no_elements, only_more, elements, SomeYield, last_element, and_more, and_elements}

-- items that begin with a token yield that token first
pub record Head (def : Definition) (terminal : Terminal) (ts : List Token) : Type 0 where
  pub token : Token
  pub rest : List Token
  pub are : ts ≡ token ∷ rest
  pub begins : terminal_of def token ≡ terminal

some_same : (a b : Terminal) → Some a ≡ Some b → a ≡ b
some_same a b e = cc

-- the terminal of the first item
moved : (i j : Item) (x y : List Item) (terminal : Terminal) → j ∷ y ≡ i ∷ x → item_terminal i ≡ Some terminal → item_terminal j ≡ Some terminal
moved i j x y terminal e h = let k : i ≡ j = cc in subst (λ z. item_terminal z ≡ Some terminal) k h

pub head_of : (def : Definition) (o : Operator) (first : Bool) (f : Fragment) (d : ℕ) (more : List Item) (g : Fragment) (e : ℕ) (ts : List Token)
    → PartsYield def o first f d more g e ts → (i : Item) (behind : List Item) (terminal : Terminal) → more ≡ i ∷ behind → item_terminal i ≡ Some terminal → Head def terminal ts
head_of def o first f d more g e ts no_items i behind terminal h m = absurd (let x : [] ≡ i ∷ behind = h in cc)
head_of def o first f d more g e ts (of_word {more = more'} {ts = us} {w = w} t is y) i behind terminal h m =
    record { token = t; rest = us; are = refl; begins = is ∙ some_same (fixed w) terminal (moved i (items.Word w) behind more' terminal h m) }
head_of def o first f d more g e ts (of_refers {more = more'} {ts = us} space x is y) i behind terminal h m =
    record { token = word x; rest = us; are = refl; begins = is ∙ some_same a_name terminal (moved i (items.Refers space) behind more' terminal h m) }
head_of def o first f d more g e ts (of_declares {more = more'} {ts = us} space x is y) i behind terminal h m =
    record { token = word x; rest = us; are = refl; begins = is ∙ some_same a_name terminal (moved i (items.Declares space) behind more' terminal h m) }
head_of def o first f d more g e ts (of_number {more = more'} {ts = us} x y) i behind terminal h m =
    record { token = numeral x; rest = us; are = refl; begins = some_same a_number terminal (moved i items.Number behind more' terminal h m) }
head_of def o first f d more g e ts (of_text {more = more'} {ts = us} x y) i behind terminal h m =
    record { token = quoted x; rest = us; are = refl; begins = some_same a_text terminal (moved i items.Text behind more' terminal h m) }
head_of def o first f d more g e ts (of_slot {more = more'} {p = p} t depth own rest y z) i behind terminal h m = absurd (let x : None ≡ Some terminal = moved i (items.Slot (kinds.Phylum p)) behind more' terminal h m in cc)
head_of def o first f d more g e ts (of_list_slot {more = more'} {l = l} t depth own rest y z) i behind terminal h m = absurd (let x : None ≡ Some terminal = moved i (items.Slot (kinds.List l)) behind more' terminal h m in cc)

-- a row that begins with a token begins with nothing else, and isn't empty
begins_token : (def : Definition) (i : Item) (behind : List Item) (m terminal : Terminal) → item_terminal i ≡ Some m → BeginsWith def (i ∷ behind) terminal → item_terminal i ≡ Some terminal
begins_token def (items.Word w) behind m terminal h b = b
begins_token def (items.Refers space) behind m terminal h b = b
begins_token def (items.Declares space) behind m terminal h b = b
begins_token def items.Number behind m terminal h b = b
begins_token def items.Text behind m terminal h b = b
begins_token def (items.Slot k) behind m terminal h b = absurd (let x : None ≡ Some m = h in cc)
begins_token def items.Space behind m terminal h b = absurd (let x : None ≡ Some m = h in cc)
begins_token def items.Tight behind m terminal h b = absurd (let x : None ≡ Some m = h in cc)
begins_token def items.Line behind m terminal h b = absurd (let x : None ≡ Some m = h in cc)
begins_token def items.In behind m terminal h b = absurd (let x : None ≡ Some m = h in cc)
begins_token def items.Out behind m terminal h b = absurd (let x : None ≡ Some m = h in cc)

full_token : (i : Item) (behind : List Item) (m : Terminal) → item_terminal i ≡ Some m → CanBeEmpty (i ∷ behind) → ⊥
full_token (items.Slot k) behind m h b = absurd (let x : None ≡ Some m = h in cc)
full_token (items.Word w) behind m h b = b
full_token (items.Refers space) behind m h b = b
full_token (items.Declares space) behind m h b = b
full_token items.Number behind m h b = b
full_token items.Text behind m h b = b
full_token items.Space behind m h b = b
full_token items.Tight behind m h b = b
full_token items.Line behind m h b = b
full_token items.In behind m h b = b
full_token items.Out behind m h b = b

module _ (def : Definition) (c : ClassFacts def) where
  -- how a row of items goes on where it yields a token, and where it yields none
  abbrev Goes : List Item → List Token → Terminal → Type 0
  Goes more rest terminal = BeginsWith def more terminal ⊎ (CanBeEmpty more × (next_terminal def rest ≡ Some terminal))

  abbrev GoesList : ℕ → List Token → Terminal → Type 0
  GoesList l rest terminal = FirstOfList def l terminal ⊎ (next_terminal def rest ≡ Some terminal)

  -- an operator begins as First says
  operator_first : (n : ℕ) (o : Operator) → slice_get def.operators n ≡ Some o → (rest : List Token) (terminal : Terminal) → Goes (solid o.items) rest terminal → First def o.phylum terminal
  operator_first n o found rest terminal g = elim (c.begins n o found) [
    | inl t ↦ (elim (subst (λ x. Goes x rest terminal) t.items g) [
      | inl b ↦ first_operator n (record { o = o; found = found; phylum = refl; item = t.item; more = t.more; items = t.items; begins = begins_token def t.item t.more t.terminal terminal t.begins b })
      | inr e ↦ absurd (full_token t.item t.more t.terminal t.begins e.0)
    ])
    | inr t ↦ (elim (subst (λ x. Goes x rest terminal) t.items g) [
      | inl b ↦ b
      | inr e ↦ absurd e.0
    ])
  ]

  list_goes : (l : ℕ) (more : List Item) (us rest : List Token) (terminal : Terminal) → GoesList l us terminal → (next_terminal def us ≡ Some terminal → Goes more rest terminal) → Goes (items.Slot (kinds.List l) ∷ more) rest terminal
  list_goes l more us rest terminal (inl a) k = inl (inl a)
  list_goes l more us rest terminal (inr e) k = elim (k e) [ inl b ↦ inl (inr b) | inr b ↦ inr b ]

  mutual
    pub first_of_tree : (f : Fragment) (p level d : ℕ) (ts : List Token) → TreeYields def f p level d ts → (rest : List Token) (terminal : Terminal) → next_terminal def (ts ++ rest) ≡ Some terminal → First def p terminal
    first_of_tree f p level d ts (of_hole phylum found closed) rest terminal e = subst (First def p) (some_same (a_hole phylum.name) terminal e) (first_hole phylum found closed)
    first_of_tree f p level d ts (in_brackets phylum t u found bracketed is is' y) rest terminal e = subst (First def p) (sym is ∙ some_same (terminal_of def t) terminal e) (first_bracket phylum found bracketed)
    first_of_tree f p level d ts (of_operator n o found is h y) rest terminal e =
        subst (λ x. First def x terminal) is (operator_first n o found rest terminal (goes_parts o true _ 0 (solid o.items) f d ts y rest terminal e))

    pub goes_parts : (o : Operator) (first : Bool) (f : Fragment) (d : ℕ) (more : List Item) (g : Fragment) (e : ℕ) (ts : List Token) → PartsYield def o first f d more g e ts
        → (rest : List Token) (terminal : Terminal) → next_terminal def (ts ++ rest) ≡ Some terminal → Goes more rest terminal
    goes_parts o first f d more g e ts no_items rest terminal h = inr (tt, h)
    goes_parts o first f d more g e ts (of_word {w = w} t is y) rest terminal h = inl (sym (ap Some is) ∙ h)
    goes_parts o first f d more g e ts (of_refers space x is y) rest terminal h = inl (sym (ap Some is) ∙ h)
    goes_parts o first f d more g e ts (of_declares space x is y) rest terminal h = inl (sym (ap Some is) ∙ h)
    goes_parts o first f d more g e ts (of_number x y) rest terminal h = inl h
    goes_parts o first f d more g e ts (of_text x y) rest terminal h = inl h
    goes_parts o first f d more g e ts (of_slot {more = more'} {p = p} t depth own behind y z) rest terminal h =
        inl (first_of_tree t p _ depth own y (behind ++ rest) terminal (subst (λ x. next_terminal def x ≡ Some terminal) (append_assoc own behind rest) h))
    goes_parts o first f d more g e ts (of_list_slot {more = more'} {l = l} t depth own behind y z) rest terminal h =
        list_goes l more' (behind ++ rest) rest terminal (goes_list t l depth own y (behind ++ rest) terminal (subst (λ x. next_terminal def x ≡ Some terminal) (append_assoc own behind rest) h))
        (λ e'. goes_parts o false (_) (_) more' g e behind z rest terminal e')

    pub goes_list : (f : Fragment) (l d : ℕ) (ts : List Token) → ListYields def f l d ts → (rest : List Token) (terminal : Terminal) → next_terminal def (ts ++ rest) ≡ Some terminal → GoesList l rest terminal
    goes_list f l d ts (no_elements kind found) rest terminal h = inr h
    goes_list f l d ts (only_more kind found unfinished) rest terminal h = inl (subst (FirstOfList def l) (some_same a_more terminal h) (first_more kind found unfinished))
    goes_list f l d ts (elements y) rest terminal h = inl (first_of_some f l d ts y rest terminal h)

    pub first_of_some : (f : Fragment) (l d : ℕ) (ts : List Token) → SomeYield def f l d ts → (rest : List Token) (terminal : Terminal) → next_terminal def (ts ++ rest) ≡ Some terminal → FirstOfList def l terminal
    first_of_some f l d ts (last_element kind found y) rest terminal h = first_element kind found (first_of_tree _ kind.element 0 d ts y rest terminal h)
    first_of_some f l d ts (and_more us kind separator found unfinished is y) rest terminal h =
        first_element kind found (first_of_tree _ kind.element 0 d us y (separator ∷ dots ∷ rest) terminal (subst (λ x. next_terminal def x ≡ Some terminal) (append_assoc us (separator ∷ dots ∷ []) rest) h))
    first_of_some f l d ts (and_elements kind m n own behind separator found is y z) rest terminal h =
        first_element kind found (first_of_tree _ kind.element 0 m own y (separator ∷ (behind ++ rest)) terminal (subst (λ x. next_terminal def x ≡ Some terminal) (append_assoc own (separator ∷ behind) rest) h))
