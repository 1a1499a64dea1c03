-- An operator's tree is built part by part, and its tokens with it.
use Rattle.std.proofs.Common.{◌≡◌, ℕ, max, Bool, true, false, cond, ◌&&◌, List, [], ◌∷◌, ◌++◌, length, sym, ap, ◌∙◌, subst, refl, append_assoc}
use Rattle.std.proofs.Math.Bool.{and-false, and-true}
use Rattle.std.specs.List.{list_all}
use Rattle.psg_grammar.specs.declared.types.Kind.TheVariants as kinds
use Rattle.psg_grammar.specs.declared.types.Item.{Item}
use Rattle.psg_grammar.specs.declared.types.Item.TheVariants as items
use Rattle.psg_grammar.specs.declared.types.Operator.{Operator}
use Rattle.psg_grammar.specs.declared.types.Definition.{Definition}
use Rattle.psg_grammar.specs.Fragments.{Fragment, operator, with_child, with_name, with_number, with_text}
use Rattle.psg_grammar.specs.Levels.{is_mark, least_level_of}
use Rattle.psg_class.specs.Terminals.{Token, word, numeral, quoted, fixed, a_name, terminal_of}
use Rattle.psg_class.specs.Places.{solid, slot_level}
use Rattle.psg_class.proofs.LeastLevels.{level_there}
use Rattle.psg_class.specs.Yields.{TreeYields, ListYields, PartsYield, of_word, of_refers, of_declares, of_number, of_text, of_slot, of_list_slot}

all_snoc : (test : Item → Bool) (xs : List Item) (x : Item)
    → list_all test (xs ++ x ∷ []) ≡ (list_all test xs && test x)
all_snoc test [] x = and_true (test x) where
  and_true : (b : Bool) → (b && true) ≡ b
  and_true true = refl
  and_true false = refl
all_snoc test (y ∷ xs) x = ap (λ b. test y && b) (all_snoc test xs x) ∙ assoc (test y) (list_all test xs) (test x) where
  assoc : (a b c : Bool) → (a && (b && c)) ≡ ((a && b) && c)
  assoc true b c = refl
  assoc false b c = refl

module _ (def : Definition) (n : ℕ) (o : Operator) where
  -- The items before these were read as these tokens and have made f. Whatever the items left make of it, all items
  -- make of the operator.
  pub record Front (f : Fragment) (first : Bool) (rest : List Item) (d : ℕ) (ts : List Token) : Type 0 where
    pub front : List Item
    pub whole : o.items ≡ front ++ rest
    pub is_first : first ≡ list_all is_mark front
    pub goes : (g : Fragment) (e : ℕ) (us : List Token) → PartsYield def o first f d (solid rest) g e us
        → PartsYield def o true (operator n) 0 (solid o.items) g e (ts ++ us)

  pub at_first : Front (operator n) true o.items 0 []
  at_first = record { front = []; whole = refl; is_first = refl; goes = λ g e us y. y }

  moved : (front : List Item) (i : Item) (rest : List Item) → o.items ≡ front ++ i ∷ rest
      → o.items ≡ (front ++ i ∷ []) ++ rest
  moved front i rest h = h ∙ sym (append_assoc front (i ∷ []) rest)

  not_first : (front : List Item) (i : Item) → is_mark i ≡ false → false ≡ list_all is_mark (front ++ i ∷ [])
  not_first front i h = sym (all_snoc is_mark front i ∙ ap (λ b. list_all is_mark front && b) h
      ∙ and-false (list_all is_mark front))

  pub past_word : {f : Fragment} {first : Bool} {w : List ℕ} {rest : List Item} {d : ℕ} {ts : List Token} (t : Token)
      → terminal_of def t ≡ fixed w
      → Front f first (items.Word w ∷ rest) d ts → Front f false rest d (ts ++ t ∷ [])
  past_word {f = f} {w = w} {rest = rest} {d = d} {ts = ts} t is a = record {
    front = a.front ++ items.Word w ∷ [];
    whole = moved a.front (items.Word w) rest a.whole;
    is_first = not_first a.front (items.Word w) refl;
    goes = λ g e us y. subst (PartsYield def o true (operator n) 0 (solid o.items) g e)
        (sym (append_assoc ts (t ∷ []) us)) (a.goes g e (t ∷ us) (of_word t is y));
  }

  pub past_mark : {f : Fragment} {first : Bool} {rest : List Item} {d : ℕ} {ts : List Token} (i : Item)
      → is_mark i ≡ true → Front f first (i ∷ rest) d ts → Front f first rest d ts
  past_mark {f = f} {first = first} {rest = rest} {d = d} {ts = ts} i h a = record {
    front = a.front ++ i ∷ [];
    whole = moved a.front i rest a.whole;
    is_first = a.is_first ∙ sym (all_snoc is_mark a.front i ∙ ap (λ b. list_all is_mark a.front && b) h
        ∙ and-true (list_all is_mark a.front));
    goes = λ g e us y. a.goes g e us
        (subst (λ xs. PartsYield def o first f d xs g e us) (sym (ap (λ b. cond b (solid rest) (i ∷ solid rest)) h)) y);
  }

  -- the child in brackets or not: what counts is that its tokens yield it at the slot's level
  pub past_slot : {f : Fragment} {first : Bool} {p : ℕ} {rest : List Item} {d : ℕ} {ts : List Token} (t : Fragment)
      (m : ℕ) (own : List Token)
      → (a : Front f first (items.Slot (kinds.Phylum p) ∷ rest) d ts)
      → TreeYields def t p (least_level_of o (length a.front)) m own
      → Front (with_child f t) false rest (max d m) (ts ++ own)
  past_slot {f = f} {first = first} {p = p} {rest = rest} {d = d} {ts = ts} t m own a y = record {
    front = a.front ++ items.Slot (kinds.Phylum p) ∷ [];
    whole = moved a.front (items.Slot (kinds.Phylum p)) rest a.whole;
    is_first = not_first a.front (items.Slot (kinds.Phylum p)) refl;
    goes = λ g e us z. subst (PartsYield def o true (operator n) 0 (solid o.items) g e) (sym (append_assoc ts own us))
        (a.goes g e (own ++ us) (of_slot t m own us (subst (λ l. TreeYields def t p l m own) level y) z));
  } where
    level : least_level_of o (length a.front) ≡ slot_level o (kinds.Phylum p) first (solid rest)
    level = level_there o a.front (kinds.Phylum p) rest a.whole
        ∙ ap (λ b. slot_level o (kinds.Phylum p) b (solid rest)) (sym a.is_first)

  pub past_refers : {f : Fragment} {first : Bool} {s : ℕ} {rest : List Item} {d : ℕ} {ts : List Token} (x : List ℕ)
      → terminal_of def (word x) ≡ a_name
      → Front f first (items.Refers s ∷ rest) d ts → Front (with_name f x) false rest d (ts ++ word x ∷ [])
  past_refers {s = s} {rest = rest} {ts = ts} x is a = record {
    front = a.front ++ items.Refers s ∷ [];
    whole = moved a.front (items.Refers s) rest a.whole;
    is_first = not_first a.front (items.Refers s) refl;
    goes = λ g e us y. subst (PartsYield def o true (operator n) 0 (solid o.items) g e)
        (sym (append_assoc ts (word x ∷ []) us)) (a.goes g e (word x ∷ us) (of_refers s x is y));
  }

  pub past_declares : {f : Fragment} {first : Bool} {s : ℕ} {rest : List Item} {d : ℕ} {ts : List Token} (x : List ℕ)
      → terminal_of def (word x) ≡ a_name
      → Front f first (items.Declares s ∷ rest) d ts → Front (with_name f x) false rest d (ts ++ word x ∷ [])
  past_declares {s = s} {rest = rest} {ts = ts} x is a = record {
    front = a.front ++ items.Declares s ∷ [];
    whole = moved a.front (items.Declares s) rest a.whole;
    is_first = not_first a.front (items.Declares s) refl;
    goes = λ g e us y. subst (PartsYield def o true (operator n) 0 (solid o.items) g e)
        (sym (append_assoc ts (word x ∷ []) us)) (a.goes g e (word x ∷ us) (of_declares s x is y));
  }

  pub past_number : {f : Fragment} {first : Bool} {rest : List Item} {d : ℕ} {ts : List Token} (x : ℕ)
      → Front f first (items.Number ∷ rest) d ts → Front (with_number f x) false rest d (ts ++ numeral x ∷ [])
  past_number {rest = rest} {ts = ts} x a = record {
    front = a.front ++ items.Number ∷ [];
    whole = moved a.front items.Number rest a.whole;
    is_first = not_first a.front items.Number refl;
    goes = λ g e us y. subst (PartsYield def o true (operator n) 0 (solid o.items) g e)
        (sym (append_assoc ts (numeral x ∷ []) us)) (a.goes g e (numeral x ∷ us) (of_number x y));
  }

  pub past_text : {f : Fragment} {first : Bool} {rest : List Item} {d : ℕ} {ts : List Token} (x : List ℕ)
      → Front f first (items.Text ∷ rest) d ts → Front (with_text f x) false rest d (ts ++ quoted x ∷ [])
  past_text {rest = rest} {ts = ts} x a = record {
    front = a.front ++ items.Text ∷ [];
    whole = moved a.front items.Text rest a.whole;
    is_first = not_first a.front items.Text refl;
    goes = λ g e us y. subst (PartsYield def o true (operator n) 0 (solid o.items) g e)
        (sym (append_assoc ts (quoted x ∷ []) us)) (a.goes g e (quoted x ∷ us) (of_text x y));
  }

  pub past_list : {f : Fragment} {first : Bool} {l : ℕ} {rest : List Item} {d : ℕ} {ts : List Token} (t : Fragment)
      (m : ℕ) (own : List Token)
      → Front f first (items.Slot (kinds.List l) ∷ rest) d ts → ListYields def t l m own
      → Front (with_child f t) false rest (max d m) (ts ++ own)
  past_list {l = l} {rest = rest} {ts = ts} t m own a y = record {
    front = a.front ++ items.Slot (kinds.List l) ∷ [];
    whole = moved a.front (items.Slot (kinds.List l)) rest a.whole;
    is_first = not_first a.front (items.Slot (kinds.List l)) refl;
    goes = λ g e us z. subst (PartsYield def o true (operator n) 0 (solid o.items) g e) (sym (append_assoc ts own us))
        (a.goes g e (own ++ us) (of_list_slot t m own us y z));
  }
