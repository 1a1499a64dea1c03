-- Each step of the parser with a stack of its own keeps the results.
use Rattle.std.proofs.Common.{◌≡◌, ◌↔◌, arith, ℕ, suc, max, ◌<◌, ◌≤◌, Bool, true, false, List, [], ◌∷◌, ◌++◌, Option, Some, None, slice_get, refl, sym, ap, ◌∙◌, subst, append-nil}
use Rattle.psg_grammar.specs.declared.types.Kind.TheVariants as kinds
use Rattle.psg_grammar.specs.declared.types.Item.{Item}
use Rattle.psg_grammar.specs.declared.types.Item.TheVariants as items
use Rattle.psg_grammar.specs.declared.types.Operator.{Operator}
use Rattle.psg_grammar.specs.declared.types.ListKind.{ListKind}
use Rattle.psg_grammar.specs.declared.types.Phylum.{Phylum}
use Rattle.psg_grammar.specs.declared.types.Definition.{Definition}
use Rattle.psg_grammar.specs.Fragments.{Fragment, hole, ending, cell, operator, with_child, with_name, with_number, with_text}
use Rattle.psg_class.specs.Terminals.{open_bracket, close_bracket, Token, word, numeral, quoted, solo, symbols, placeholder, dots, Terminal, fixed, a_name, a_number, a_text, a_hole, a_more, word_terminal, fixed_if, is_word, is_run, terminal_of, item_terminal, next_terminal}
use Rattle.psg_grammar.specs.Levels.{level_number, first_level}
use Rattle.psg_terms.specs.Names.{is_among}
use Rattle.psg_lexis.specs.Classes.{is_solo}
use Rattle.psg_grammar.specs.WellFormed.{fixed_words}
use Rattle.psg_grammar.specs.Declaring.{HasHoles}
use Rattle.psg_class.specs.Places.{slot_level}
use Rattle.psg_class.specs.Follow.{Leads, Led, First, FirstOfList, first_element, first_more}
use Rattle.psg_class.proofs.ClassFacts.{ClassFacts}
use Rattle.psg_class.specs.Yields.{Yields}
use Rattle.psg_class.specs.Machine.{Frame, then_grow, then_parts, then_close, then_list, behind_all, taken, Tail, tail_end, tail_more, tail_next, Ends, Completes}
use Rattle.psg_class.specs.Runs.{Reaches, Task, start, grow, parts, list, some_list, Stops, Run, run_hole, run_bracket, run_leading, run_stop, run_led, run_end, run_word, run_refers, run_declares, run_number, run_text, run_slot, run_list_slot, run_none, run_only_more, run_some, run_last, run_more, run_next}
use Rattle.psg_class.proofs.Sameness.{same, leads_at, leads_same, led_same, no_item, kind_same, list_begins, start_begins, no_dots, no_more_first, carry, task_leads, task_led, task_grow}
use Rattle.psg_class.proofs.Soundness.{sound}
use Rattle.psg_class.proofs.Law.{tree_is_read, list_is_read}

no_number : (a b : Bool) (x : List ℕ) → Some a_number ≡ Some (word_terminal x a b) → ⊥
no_number true true x h = cc
no_number true false x h = cc
no_number false b x h = cc

no_text : (a b : Bool) (x : List ℕ) → Some a_text ≡ Some (word_terminal x a b) → ⊥
no_text true true x h = cc
no_text true false x h = cc
no_text false b x h = cc

name_or_fixed : (b : Bool) (x : List ℕ) → Some a_name ≡ Some (fixed_if b x) → ⊥
name_or_fixed true x h = cc
name_or_fixed false x h = cc

number_or_fixed : (b : Bool) (x : List ℕ) → Some a_number ≡ Some (fixed_if b x) → ⊥
number_or_fixed true x h = cc
number_or_fixed false x h = cc

text_or_fixed : (b : Bool) (x : List ℕ) → Some a_text ≡ Some (fixed_if b x) → ⊥
text_or_fixed true x h = cc
text_or_fixed false x h = cc

max_right : (a : ℕ) → a ≡ max a 0
max_right a = omega arith

max_same : (a b : ℕ) → max a (max b 0) ≡ max a b
max_same a b = omega arith

max_zero : (a b : ℕ) → max 0 (max a b) ≡ max a b
max_zero a b = omega arith

max_assoc : (a b d : ℕ) → max a (max b d) ≡ max (max a b) d
max_assoc a b d = omega arith

module _ (def : Definition) (c : ClassFacts def) (F : Fragment) (D : ℕ) where
  abbrev pub Does : Task → List Frame → List Token → Type 0
  Does task st ts = Completes def task st ts F D

  abbrev pub Given : List Frame → Fragment → ℕ → List Token → Type 0
  Given st f d ts = Ends def st f d ts F D

  -- a tree of a phylum begins
  pub step_hole : (p m : ℕ) (st : List Frame) (x : List ℕ) (ts : List Token) (phylum : Phylum) → slice_get def.phyla p ≡ Some phylum → HasHoles def (kinds.Phylum p) → phylum.name ≡ x
      → Does (start p m) st (placeholder x ∷ ts) ↔ Does (grow p m (hole p) 0 None) st ts
  step_hole p m st x ts phylum found closed is = (λ (g, e, s, r, h). (g, e, s, there g e s r, h), λ (g, e, s, r, h). (g, e, s, run_hole phylum found closed is r, h)) where
    there : (g : Fragment) (e : ℕ) (s : List Token) → Run def (start p m) (placeholder x ∷ ts) g e s → Run def (grow p m (hole p) 0 None) ts g e s
    there g e s (run_hole phylum' found' closed' is' r) = r
    there g e s (run_bracket f d rest phylum' u found' bracketed' is' close r q) = absurd (let y : a_hole x ≡ open_bracket = is' in cc)
    there g e s (run_leading f d rest n l h q r) = absurd ((no_item l.item (a_hole x) l.begins).0 x refl)

  pub step_bracket : (p m : ℕ) (st : List Frame) (t : Token) (ts : List Token) (phylum : Phylum) → slice_get def.phyla p ≡ Some phylum → phylum.bracketed ≡ true → terminal_of def t ≡ open_bracket
      → Does (start p m) st (t ∷ ts) ↔ Does (start p 0) (then_close ∷ then_grow p m None ∷ st) ts
  step_bracket p m st t ts phylum found bracketed is =
      (λ (g, e, s, r, h). there t is g e s r h, λ (f, d, s0, q, (u, rest, are, close, (g, e, s, r, h))). (g, e, s, run_bracket f d rest phylum u found bracketed is close (subst (Run def (start p 0) ts f d) are q) r, h)) where
        there : (t : Token) → terminal_of def t ≡ open_bracket → (g : Fragment) (e : ℕ) (s : List Token) → Run def (start p m) (t ∷ ts) g e s → Given st g e s → Does (start p 0) (then_close ∷ then_grow p m None ∷ st) ts
        there t is g e s (run_hole {x = x} phylum' found' closed' is' r) h = absurd (let y : a_hole x ≡ open_bracket = is in cc)
        there t is g e s (run_bracket f d rest phylum' u found' bracketed' is' close q r) h = (f, d, u ∷ rest, q, (u, rest, refl, close, (g, e, s, r, h)))
        there t is g e s (run_leading f d rest n l h' q r) h = absurd (c.bracket_first p n phylum found bracketed (leads_at def c p n (terminal_of def t) (open_bracket) is l))

  pub step_leading : (p m : ℕ) (st : List Frame) (t : Token) (ts : List Token) (n : ℕ) (l : Leads def p n (terminal_of def t)) → m ≤ level_number l.o.level
      → Does (start p m) st (t ∷ ts) ↔ Does (parts l.o true (operator n) 0 (l.item ∷ l.more)) (then_grow p m (Some (level_number l.o.level)) ∷ st) (t ∷ ts)
  step_leading p m st t ts n l h = (λ (g, e, s, r, k). there t l g e s r k, λ (f, d, rest, q, (g, e, s, r, k)). (g, e, s, run_leading f d rest n l h q r, k)) where
    there : (t : Token) (l : Leads def p n (terminal_of def t)) (g : Fragment) (e : ℕ) (s : List Token) → Run def (start p m) (t ∷ ts) g e s → Given st g e s
        → Does (parts l.o true (operator n) 0 (l.item ∷ l.more)) (then_grow p m (Some (level_number l.o.level)) ∷ st) (t ∷ ts)
    there t l g e s (run_hole {x = x} phylum' found' closed' is' r) k = absurd ((no_item l.item (a_hole x) l.begins).0 x refl)
    there t l g e s (run_bracket f d rest phylum' u found' bracketed' is' close q r) k = absurd (c.bracket_first p n phylum' found' bracketed' (leads_at def c p n (terminal_of def t) (open_bracket) is' l))
    there t l g e s (run_leading f d rest n' l' h' q r) k =
        let one = leads_same def c p n n' (terminal_of def t) l l' in (
          f,
          d,
          rest,
          carry def c (task_leads def c n n' l.o l'.o (l.item ∷ l.more) (l'.item ∷ l'.more) one) refl q,
          (g, e, s, carry def c (task_grow def c p m d d f f l.o l'.o one.operator refl refl) refl r, k),
        )

  -- where nothing begins so, there is no tree
  pub step_no_start : (p m : ℕ) (st : List Frame) (ts : List Token) → ((terminal : Terminal) → next_terminal def ts ≡ Some terminal → First def p terminal → ⊥) → Does (start p m) st ts → ⊥
  step_no_start p m st ts h (g, e, s, r, k) = let b = start_begins def c r in h (terminal_of def b.token) (ap (next_terminal def) b.are) b.first

  pub step_low : (p m : ℕ) (st : List Frame) (t : Token) (ts : List Token) (n : ℕ) (l : Leads def p n (terminal_of def t)) → level_number l.o.level < m → Does (start p m) st (t ∷ ts) → ⊥
  step_low p m st t ts n l h (g, e, s, r, k) = there t l h g e s r where
    there : (t : Token) (l : Leads def p n (terminal_of def t)) → level_number l.o.level < m → (g : Fragment) (e : ℕ) (s : List Token) → Run def (start p m) (t ∷ ts) g e s → ⊥
    there t l h g e s (run_hole {x = x} phylum' found' closed' is' r) = (no_item l.item (a_hole x) l.begins).0 x refl
    there t l h g e s (run_bracket f d rest phylum' u found' bracketed' is' close q r) = c.bracket_first p n phylum' found' bracketed' (leads_at def c p n (terminal_of def t) (open_bracket) is' l)
    there t l h g e s (run_leading f d rest n' l' h' q r) = low (level_number l.o.level) (level_number l'.o.level) (ap (λ x. level_number x.level) (leads_same def c p n n' (terminal_of def t) l l').operator) h h' where
      low : (a b : ℕ) → a ≡ b → a < m → m ≤ b → ⊥
      low a b e' x y = omega (arith, e', x, y)

  -- a tree of a phylum goes on, or ends
  pub step_led : (p m : ℕ) (f0 : Fragment) (d0 : ℕ) (level : Option ℕ) (st : List Frame) (t : Token) (ts : List Token) (n : ℕ) (l : Led def p n (terminal_of def t)) → m ≤ level_number l.o.level → Reaches (first_level l.o.level) level
      → Does (grow p m f0 d0 level) st (t ∷ ts) ↔ Does (parts l.o false (with_child (operator n) f0) (max 0 d0) (l.item ∷ l.more)) (then_grow p m (Some (level_number l.o.level)) ∷ st) (t ∷ ts)
  step_led p m f0 d0 level st t ts n l least reach = (λ (g, e, s, r, k). there t l least g e s r k, λ (f, d, rest, q, (g, e, s, r, k)). (g, e, s, run_led f d rest n l least reach q r, k)) where
    there : (t : Token) (l : Led def p n (terminal_of def t)) → m ≤ level_number l.o.level → (g : Fragment) (e : ℕ) (s : List Token) → Run def (grow p m f0 d0 level) (t ∷ ts) g e s → Given st g e s
        → Does (parts l.o false (with_child (operator n) f0) (max 0 d0) (l.item ∷ l.more)) (then_grow p m (Some (level_number l.o.level)) ∷ st) (t ∷ ts)
    there t l least g e s (run_stop h) k = absurd (h n (terminal_of def t) l refl least)
    there t l least g e s (run_led f d rest n' l' least' reach' q r) k =
        let one = led_same def c p n n' (terminal_of def t) l l' in (
          f,
          d,
          rest,
          carry def c (task_led def c n n' l.o l'.o (l.item ∷ l.more) (l'.item ∷ l'.more) f0 (max 0 d0) one) refl q,
          (g, e, s, carry def c (task_grow def c p m d d f f l.o l'.o one.operator refl refl) refl r, k),
        )

  pub step_stop : (p m : ℕ) (f : Fragment) (d : ℕ) (level : Option ℕ) (st : List Frame) (ts : List Token) → Stops def p m ts → Does (grow p m f d level) st ts ↔ Given st f d ts
  step_stop p m f d level st ts h = (λ (g, e, s, r, k). there ts h g e s r k, λ k. (f, d, ts, run_stop h, k)) where
    there : (ts : List Token) → Stops def p m ts → (g : Fragment) (e : ℕ) (s : List Token) → Run def (grow p m f d level) ts g e s → Given st g e s → Given st f d ts
    there ts h g e s (run_stop h') k = k
    there ts h g e s (run_led {t = t} f' d' rest n l least reach q r) k = absurd (h n (terminal_of def t) l refl least)

  pub step_unreached : (p m : ℕ) (f0 : Fragment) (d0 : ℕ) (level : Option ℕ) (st : List Frame) (t : Token) (ts : List Token) (n : ℕ) (l : Led def p n (terminal_of def t)) → m ≤ level_number l.o.level → (Reaches (first_level l.o.level) level → ⊥)
      → Does (grow p m f0 d0 level) st (t ∷ ts) → ⊥
  step_unreached p m f0 d0 level st t ts n l least no_reach (g, e, s, r, k) = there t l least no_reach g e s r where
    there : (t : Token) (l : Led def p n (terminal_of def t)) → m ≤ level_number l.o.level → (Reaches (first_level l.o.level) level → ⊥) → (g : Fragment) (e : ℕ) (s : List Token) → Run def (grow p m f0 d0 level) (t ∷ ts) g e s → ⊥
    there t l least no_reach g e s (run_stop h) = h n (terminal_of def t) l refl least
    there t l least no_reach g e s (run_led f d rest n' l' least' reach' q r) = no_reach (subst (λ x. Reaches (first_level x.level) level) (sym (led_same def c p n n' (terminal_of def t) l l').operator) reach')

  -- the items of an operator
  pub step_end : (o : Operator) (first : Bool) (f : Fragment) (d : ℕ) (st : List Frame) (ts : List Token) → Does (parts o first f d []) st ts ↔ Given st f d ts
  step_end o first f d st ts = (λ (g, e, s, r, k). there g e s r k, λ k. (f, d, ts, run_end, k)) where
    there : (g : Fragment) (e : ℕ) (s : List Token) → Run def (parts o first f d []) ts g e s → Given st g e s → Given st f d ts
    there g e s run_end k = k

  pub step_word : (o : Operator) (first : Bool) (f : Fragment) (d : ℕ) (w : List ℕ) (more : List Item) (st : List Frame) (t : Token) (ts : List Token) → terminal_of def t ≡ fixed w → Does (parts o first f d (items.Word w ∷ more)) st (t ∷ ts) ↔ Does (parts o false f d more) st ts
  step_word o first f d w more st t ts is = (λ (g, e, s, r, k). (g, e, s, there g e s r, k), λ (g, e, s, r, k). (g, e, s, run_word t is r, k)) where
    there : (g : Fragment) (e : ℕ) (s : List Token) → Run def (parts o first f d (items.Word w ∷ more)) (t ∷ ts) g e s → Run def (parts o false f d more) ts g e s
    there g e s (run_word t' is' r) = r

  pub step_slot : (o : Operator) (first : Bool) (f : Fragment) (d : ℕ) (q : ℕ) (more : List Item) (st : List Frame) (ts : List Token) → Does (parts o first f d (items.Slot (kinds.Phylum q) ∷ more)) st ts ↔ Does (start q (slot_level o (kinds.Phylum q) first more)) (then_parts o f d more ∷ st) ts
  step_slot o first f d q more st ts = (λ (g, e, s, r, k). there g e s r k, λ (t, depth, mid, x, (g, e, s, r, k)). (g, e, s, run_slot t depth mid x r, k)) where
    there : (g : Fragment) (e : ℕ) (s : List Token) → Run def (parts o first f d (items.Slot (kinds.Phylum q) ∷ more)) ts g e s → Given st g e s → Does (start q (slot_level o (kinds.Phylum q) first more)) (then_parts o f d more ∷ st) ts
    there g e s (run_slot t depth mid x r) k = (t, depth, mid, x, (g, e, s, r, k))

  pub step_list_slot : (o : Operator) (first : Bool) (f : Fragment) (d : ℕ) (l : ℕ) (more : List Item) (st : List Frame) (ts : List Token) → Does (parts o first f d (items.Slot (kinds.List l) ∷ more)) st ts ↔ Does (list l) (then_parts o f d more ∷ st) ts
  step_list_slot o first f d l more st ts = (λ (g, e, s, r, k). there g e s r k, λ (t, depth, mid, x, (g, e, s, r, k)). (g, e, s, run_list_slot t depth mid x r, k)) where
    there : (g : Fragment) (e : ℕ) (s : List Token) → Run def (parts o first f d (items.Slot (kinds.List l) ∷ more)) ts g e s → Given st g e s → Does (list l) (then_parts o f d more ∷ st) ts
    there g e s (run_list_slot t depth mid x r) k = (t, depth, mid, x, (g, e, s, r, k))

  pub step_refers : (o : Operator) (first : Bool) (f : Fragment) (d : ℕ) (space : ℕ) (x : List ℕ) (more : List Item) (st : List Frame) (ts : List Token) → terminal_of def (word x) ≡ a_name → Does (parts o first f d (items.Refers space ∷ more)) st (word x ∷ ts) ↔ Does (parts o false (with_name f x) d more) st ts
  step_refers o first f d space x more st ts is = (λ (g, e, s, r, k). (g, e, s, there g e s r, k), λ (g, e, s, r, k). (g, e, s, run_refers space x is r, k)) where
    there : (g : Fragment) (e : ℕ) (s : List Token) → Run def (parts o first f d (items.Refers space ∷ more)) (word x ∷ ts) g e s → Run def (parts o false (with_name f x) d more) ts g e s
    there g e s (run_refers space x' is' r) = r

  pub step_declares : (o : Operator) (first : Bool) (f : Fragment) (d : ℕ) (space : ℕ) (x : List ℕ) (more : List Item) (st : List Frame) (ts : List Token) → terminal_of def (word x) ≡ a_name → Does (parts o first f d (items.Declares space ∷ more)) st (word x ∷ ts) ↔ Does (parts o false (with_name f x) d more) st ts
  step_declares o first f d space x more st ts is = (λ (g, e, s, r, k). (g, e, s, there g e s r, k), λ (g, e, s, r, k). (g, e, s, run_declares space x is r, k)) where
    there : (g : Fragment) (e : ℕ) (s : List Token) → Run def (parts o first f d (items.Declares space ∷ more)) (word x ∷ ts) g e s → Run def (parts o false (with_name f x) d more) ts g e s
    there g e s (run_declares space x' is' r) = r

  pub step_number : (o : Operator) (first : Bool) (f : Fragment) (d : ℕ) (x : ℕ) (more : List Item) (st : List Frame) (ts : List Token) → Does (parts o first f d (items.Number ∷ more)) st (numeral x ∷ ts) ↔ Does (parts o false (with_number f x) d more) st ts
  step_number o first f d x more st ts = (λ (g, e, s, r, k). (g, e, s, there g e s r, k), λ (g, e, s, r, k). (g, e, s, run_number x r, k)) where
    there : (g : Fragment) (e : ℕ) (s : List Token) → Run def (parts o first f d (items.Number ∷ more)) (numeral x ∷ ts) g e s → Run def (parts o false (with_number f x) d more) ts g e s
    there g e s (run_number x' r) = r

  pub step_text : (o : Operator) (first : Bool) (f : Fragment) (d : ℕ) (x : List ℕ) (more : List Item) (st : List Frame) (ts : List Token) → Does (parts o first f d (items.Text ∷ more)) st (quoted x ∷ ts) ↔ Does (parts o false (with_text f x) d more) st ts
  step_text o first f d x more st ts = (λ (g, e, s, r, k). (g, e, s, there g e s r, k), λ (g, e, s, r, k). (g, e, s, run_text x r, k)) where
    there : (g : Fragment) (e : ℕ) (s : List Token) → Run def (parts o first f d (items.Text ∷ more)) (quoted x ∷ ts) g e s → Run def (parts o false (with_text f x) d more) ts g e s
    there g e s (run_text x' r) = r

  -- an item that takes the token
  pub step_item : (o : Operator) (first : Bool) (f : Fragment) (d : ℕ) (i : Item) (more : List Item) (st : List Frame) (t : Token) (ts : List Token) → item_terminal i ≡ Some (terminal_of def t) → Does (parts o first f d (i ∷ more)) st (t ∷ ts) ↔ Does (parts o false (taken i t f) d more) st ts
  step_item o first f d (items.Word w) more st t ts h = step_word o first f d w more st t ts (let x : Some (fixed w) ≡ Some (terminal_of def t) = h in let y : fixed w ≡ terminal_of def t = cc in sym y)
  step_item o first f d (items.Refers space) more st (word x) ts h = step_refers o first f d space x more st ts (let y : Some a_name ≡ Some (terminal_of def (word x)) = h in let z : a_name ≡ terminal_of def (word x) = cc in sym z)
  step_item o first f d (items.Declares space) more st (word x) ts h = step_declares o first f d space x more st ts (let y : Some a_name ≡ Some (terminal_of def (word x)) = h in let z : a_name ≡ terminal_of def (word x) = cc in sym z)
  step_item o first f d items.Number more st (numeral x) ts h = step_number o first f d x more st ts
  step_item o first f d items.Text more st (quoted x) ts h = step_text o first f d x more st ts
  step_item o first f d (items.Refers space) more st (numeral x) ts h = cc
  step_item o first f d (items.Refers space) more st (quoted x) ts h = cc
  step_item o first f d (items.Refers space) more st (solo x) ts h = absurd (name_or_fixed (is_solo x) (x ∷ []) h)
  step_item o first f d (items.Refers space) more st (symbols x) ts h = absurd (name_or_fixed (is_run x) x h)
  step_item o first f d (items.Refers space) more st (placeholder x) ts h = cc
  step_item o first f d (items.Refers space) more st dots ts h = cc
  step_item o first f d (items.Declares space) more st (numeral x) ts h = cc
  step_item o first f d (items.Declares space) more st (quoted x) ts h = cc
  step_item o first f d (items.Declares space) more st (solo x) ts h = absurd (name_or_fixed (is_solo x) (x ∷ []) h)
  step_item o first f d (items.Declares space) more st (symbols x) ts h = absurd (name_or_fixed (is_run x) x h)
  step_item o first f d (items.Declares space) more st (placeholder x) ts h = cc
  step_item o first f d (items.Declares space) more st dots ts h = cc
  step_item o first f d items.Number more st (word x) ts h = absurd (no_number (is_word x) (is_among (fixed_words def) x) x h)
  step_item o first f d items.Number more st (quoted x) ts h = cc
  step_item o first f d items.Number more st (solo x) ts h = absurd (number_or_fixed (is_solo x) (x ∷ []) h)
  step_item o first f d items.Number more st (symbols x) ts h = absurd (number_or_fixed (is_run x) x h)
  step_item o first f d items.Number more st (placeholder x) ts h = cc
  step_item o first f d items.Number more st dots ts h = cc
  step_item o first f d items.Text more st (word x) ts h = absurd (no_text (is_word x) (is_among (fixed_words def) x) x h)
  step_item o first f d items.Text more st (numeral x) ts h = cc
  step_item o first f d items.Text more st (solo x) ts h = absurd (text_or_fixed (is_solo x) (x ∷ []) h)
  step_item o first f d items.Text more st (symbols x) ts h = absurd (text_or_fixed (is_run x) x h)
  step_item o first f d items.Text more st (placeholder x) ts h = cc
  step_item o first f d items.Text more st dots ts h = cc
  step_item o first f d (items.Slot k) more st t ts h = cc
  step_item o first f d items.Space more st t ts h = cc
  step_item o first f d items.Tight more st t ts h = cc
  step_item o first f d items.Line more st t ts h = cc
  step_item o first f d items.In more st t ts h = cc
  step_item o first f d items.Out more st t ts h = cc

  -- another token than the item's
  pub step_mismatch : (o : Operator) (first : Bool) (f : Fragment) (d : ℕ) (i : Item) (terminal : Terminal) (more : List Item) (st : List Frame) (ts : List Token) → item_terminal i ≡ Some terminal → (next_terminal def ts ≡ Some terminal → ⊥) → Does (parts o first f d (i ∷ more)) st ts → ⊥
  step_mismatch o first f d i terminal more st ts m h (g, e, s, r, k) = there i m ts h g e s r where
    there : (i : Item) → item_terminal i ≡ Some terminal → (ts : List Token) → (next_terminal def ts ≡ Some terminal → ⊥) → (g : Fragment) (e : ℕ) (s : List Token) → Run def (parts o first f d (i ∷ more)) ts g e s → ⊥
    there i m ts h g e s (run_word t is r) = h (ap Some is ∙ m)
    there i m ts h g e s (run_refers space x is r) = h (ap Some is ∙ m)
    there i m ts h g e s (run_declares space x is r) = h (ap Some is ∙ m)
    there i m ts h g e s (run_number x r) = h m
    there i m ts h g e s (run_text x r) = h m
    there i m ts h g e s (run_slot t depth mid x r) = let y : None ≡ Some terminal = m in cc
    there i m ts h g e s (run_list_slot t depth mid x r) = let y : None ≡ Some terminal = m in cc

  -- a list begins
  pub step_none : (l : ℕ) (kind : ListKind) → slice_get def.lists l ≡ Some kind → (st : List Frame) (ts : List Token) → ((terminal : Terminal) → next_terminal def ts ≡ Some terminal → FirstOfList def l terminal → ⊥) → Does (list l) st ts ↔ Given st (ending l false) 0 ts
  step_none l kind found st ts h = (λ (g, e, s, r, k). there ts h g e s r k, λ k. (ending l false, 0, ts, run_none kind found h, k)) where
    there : (ts : List Token) → ((terminal : Terminal) → next_terminal def ts ≡ Some terminal → FirstOfList def l terminal → ⊥) → (g : Fragment) (e : ℕ) (s : List Token) → Run def (list l) ts g e s → Given st g e s → Given st (ending l false) 0 ts
    there ts h g e s (run_none kind' found' h') k = k
    there ts h g e s (run_only_more kind' found' unfinished) k = absurd (h a_more refl (first_more kind' found' unfinished))
    there ts h g e s (run_some r) k = let b = list_begins def c r in absurd (h (terminal_of def b.token) (ap (next_terminal def) b.are) b.first.0)

  pub step_only_more : (l : ℕ) (kind : ListKind) → slice_get def.lists l ≡ Some kind → kind.unfinished ≡ true → (st : List Frame) (ts : List Token) → Does (list l) st (dots ∷ ts) ↔ Given st (ending l true) 0 ts
  step_only_more l kind found unfinished st ts = (λ (g, e, s, r, k). there g e s r k, λ k. (ending l true, 0, ts, run_only_more kind found unfinished, k)) where
    there : (g : Fragment) (e : ℕ) (s : List Token) → Run def (list l) (dots ∷ ts) g e s → Given st g e s → Given st (ending l true) 0 ts
    there g e s (run_none kind' found' h') k = absurd (h' a_more refl (first_more kind found unfinished))
    there g e s (run_only_more kind' found' unfinished') k = k
    there g e s (run_some r) k = absurd (no_dots def c ts refl r)

  -- a row of elements is a first element and the rest of the list
  some_split : (l : ℕ) (kind : ListKind) → slice_get def.lists l ≡ Some kind → (ts : List Token) (g : Fragment) (e : ℕ) (s : List Token) → Run def (some_list l) ts g e s
      → (x : Fragment) × (d : ℕ) × (mid : List Token) × (r : Fragment) × (n : ℕ) × Run def (start kind.element 0) ts x d mid × Tail def l mid r n s × (g ≡ cell l x r) × (e ≡ max d n)
  some_split l kind found ts g e s (run_last {e = x} {rest = rest} kind' found' r over) =
      (x, e, rest, ending l false, 0, carry def c (ap (λ y. start y.element 0) (kind_same def c l kind' kind found' found)) refl r, tail_end kind' found' over, refl, zero_right e)
    where
      zero_right : (n : ℕ) → n ≡ max n 0
      zero_right n = omega arith
  some_split l kind found ts g e s (run_more {e = x} {rest = rest} kind' t found' unfinished is r) =
      (x, e, t ∷ dots ∷ rest, ending l true, 0, carry def c (ap (λ y. start y.element 0) (kind_same def c l kind' kind found' found)) refl r, tail_more kind' t found' unfinished is, refl, zero_right e)
    where
      zero_right : (n : ℕ) → n ≡ max n 0
      zero_right n = omega arith
  some_split l kind found ts g e s (run_next {e = x} {r = y} m n mid kind' t found' is r q) =
      (x, m, t ∷ mid, y, n, carry def c (ap (λ y. start y.element 0) (kind_same def c l kind' kind found' found)) refl r, tail_next kind' t found' is q, refl, refl)

  pub step_first : (l : ℕ) (kind : ListKind) → slice_get def.lists l ≡ Some kind → (st : List Frame) (t : Token) (ts : List Token) → First def kind.element (terminal_of def t) → Does (list l) st (t ∷ ts) ↔ Does (some_list l) st (t ∷ ts)
  step_first l kind found st t ts first = (λ (g, e, s, r, k). there t first g e s r k, λ (g, e, s, r, k). (g, e, s, run_some r, k)) where
    there : (t : Token) → First def kind.element (terminal_of def t) → (g : Fragment) (e : ℕ) (s : List Token) → Run def (list l) (t ∷ ts) g e s → Given st g e s → Does (some_list l) st (t ∷ ts)
    there t first g e s (run_none kind' found' h') k = absurd (h' (terminal_of def t) refl (first_element kind found first))
    there t first g e s (run_only_more kind' found' unfinished) k = absurd (no_more_first def c kind.element a_more first refl)
    there t first g e s (run_some r) k = (g, e, s, r, k)

  some_join : (l : ℕ) (kind : ListKind) → slice_get def.lists l ≡ Some kind → (ts : List Token) (x : Fragment) (d : ℕ) (mid : List Token) (y : Fragment) (n : ℕ) (s : List Token) → Run def (start kind.element 0) ts x d mid → Tail def l mid y n s
      → Run def (some_list l) ts (cell l x y) (max d n) s
  some_join l kind found ts x d mid y n s q (tail_end kind' found' over) = subst (λ z. Run def (some_list l) ts (cell l x (ending l false)) z s) (max_right d) (run_last kind found q (λ h. over (h ∙ ap (λ z. Some (fixed z.separator)) (kind_same def c l kind kind' found found'))))
  some_join l kind found ts x d mid y n s q (tail_more kind' t found' unfinished is) = subst (λ z. Run def (some_list l) ts (cell l x (ending l true)) z s) (max_right d)
      (run_more kind' t found' unfinished is (carry def c (ap (λ z. start z.element 0) (kind_same def c l kind kind' found found')) refl q))
  some_join l kind found ts x d mid y n s q (tail_next {ts = ts'} kind' t found' is r) = run_next d n ts' kind' t found' is (carry def c (ap (λ z. start z.element 0) (kind_same def c l kind kind' found found')) refl q) r

  pub step_some : (l : ℕ) (kind : ListKind) → slice_get def.lists l ≡ Some kind → (st : List Frame) (ts : List Token) → Does (some_list l) st ts ↔ Does (start kind.element 0) (then_list l [] 0 ∷ st) ts
  step_some l kind found st ts = (there, back) where
    there : Does (some_list l) st ts → Does (start kind.element 0) (then_list l [] 0 ∷ st) ts
    there (g, e, s, r, k) =
        let (x, d, mid, y, n, q, tail, is, deep) = some_split l kind found ts g e s r in
        (x, d, mid, q, (y, n, s, tail, subst (λ z. Given st (cell l x y) z s) (sym (max_zero d n)) (subst (λ z. Given st z (max d n) s) is (subst (λ z. Given st g z s) deep k))))

    back : Does (start kind.element 0) (then_list l [] 0 ∷ st) ts → Does (some_list l) st ts
    back (x, d, mid, q, (y, n, s, tail, k)) = (cell l x y, max d n, s, some_join l kind found ts x d mid y n s q tail, subst (λ z. Given st (cell l x y) z s) (max_zero d n) k)

  -- behind an element
  pub step_last : (l : ℕ) (kind : ListKind) → slice_get def.lists l ≡ Some kind → (before : List Fragment) (d0 : ℕ) (st : List Frame) (e : Fragment) (d : ℕ) (ts : List Token) → (next_terminal def ts ≡ Some (fixed kind.separator) → ⊥)
      → Given (then_list l before d0 ∷ st) e d ts ↔ Given st (behind_all l before (cell l e (ending l false))) (max d0 d) ts
  step_last l kind found before d0 st e d ts over =
      (λ (r, n, s, tail, k). there ts over r n s tail k, λ k. (ending l false, 0, ts, tail_end kind found over, subst (λ z. Given st (behind_all l before (cell l e (ending l false))) z ts) (sym (max_same d0 d)) k)) where
        there : (ts : List Token) → (next_terminal def ts ≡ Some (fixed kind.separator) → ⊥) → (r : Fragment) (n : ℕ) (s : List Token) → Tail def l ts r n s → Given st (behind_all l before (cell l e r)) (max d0 (max d n)) s → Given st (behind_all l before (cell l e (ending l false))) (max d0 d) ts
        there ts over r n s (tail_end kind' found' over') k = subst (λ z. Given st (behind_all l before (cell l e (ending l false))) z ts) (max_same d0 d) k
        there ts over r n s (tail_more kind' t found' unfinished is) k = absurd (over (ap Some (is ∙ ap (λ z. fixed z.separator) (kind_same def c l kind' kind found' found))))
        there ts over r n s (tail_next kind' t found' is q) k = absurd (over (ap Some (is ∙ ap (λ z. fixed z.separator) (kind_same def c l kind' kind found' found))))

  pub step_dots : (l : ℕ) (kind : ListKind) → slice_get def.lists l ≡ Some kind → kind.unfinished ≡ true → (before : List Fragment) (d0 : ℕ) (st : List Frame) (e : Fragment) (d : ℕ) (t : Token) (ts : List Token) → terminal_of def t ≡ fixed kind.separator
      → Given (then_list l before d0 ∷ st) e d (t ∷ dots ∷ ts) ↔ Given st (behind_all l before (cell l e (ending l true))) (max d0 d) ts
  step_dots l kind found unfinished before d0 st e d t ts is =
      (λ (r, n, s, tail, k). there t is r n s tail k, λ k. (ending l true, 0, ts, tail_more kind t found unfinished is, subst (λ z. Given st (behind_all l before (cell l e (ending l true))) z ts) (sym (max_same d0 d)) k)) where
        there : (t : Token) → terminal_of def t ≡ fixed kind.separator → (r : Fragment) (n : ℕ) (s : List Token) → Tail def l (t ∷ dots ∷ ts) r n s → Given st (behind_all l before (cell l e r)) (max d0 (max d n)) s → Given st (behind_all l before (cell l e (ending l true))) (max d0 d) ts
        there t is r n s (tail_end kind' found' over') k = absurd (over' (ap Some (is ∙ ap (λ z. fixed z.separator) (kind_same def c l kind kind' found found'))))
        there t is r n s (tail_more kind' t' found' unfinished is') k = subst (λ z. Given st (behind_all l before (cell l e (ending l true))) z ts) (max_same d0 d) k
        there t is r n s (tail_next kind' t' found' is' q) k = absurd (no_dots def c ts refl q)

  pub step_next : (l : ℕ) (kind : ListKind) → slice_get def.lists l ≡ Some kind → (before : List Fragment) (d0 : ℕ) (st : List Frame) (e : Fragment) (d : ℕ) (t : Token) (ts : List Token) → terminal_of def t ≡ fixed kind.separator
      → (kind.unfinished ≡ true → next_terminal def ts ≡ Some a_more → ⊥)
      → Given (then_list l before d0 ∷ st) e d (t ∷ ts) ↔ Does (start kind.element 0) (then_list l (e ∷ before) (max d0 d) ∷ st) ts
  step_next l kind found before d0 st e d t ts is h = (λ (r, n, s, tail, k). there t is ts h r n s tail k, back) where
    there : (t : Token) → terminal_of def t ≡ fixed kind.separator → (ts : List Token) → (kind.unfinished ≡ true → next_terminal def ts ≡ Some a_more → ⊥) → (r : Fragment) (n : ℕ) (s : List Token) → Tail def l (t ∷ ts) r n s
        → Given st (behind_all l before (cell l e r)) (max d0 (max d n)) s → Does (start kind.element 0) (then_list l (e ∷ before) (max d0 d) ∷ st) ts
    there t is ts h r n s (tail_end kind' found' over') k = absurd (over' (ap Some (is ∙ ap (λ z. fixed z.separator) (kind_same def c l kind kind' found found'))))
    there t is ts h r n s (tail_more kind' t' found' unfinished is') k = absurd (h (subst (λ z. z.unfinished ≡ true) (kind_same def c l kind' kind found' found) unfinished) refl)
    there t is ts h r n s (tail_next kind' t' found' is' q) k =
        let (x, d', mid, y, n', q', tail, same, deep) = some_split l kind found ts r n s q in
        (x, d', mid, q', (y, n', s, tail, subst (λ z. Given st (behind_all l before (cell l e (cell l x y))) z s) (ap (λ z. max d0 (max d z)) deep ∙ max_assoc d0 d (max d' n')) (subst (λ z. Given st (behind_all l before (cell l e z)) (max d0 (max d n)) s) same k)))

    back : Does (start kind.element 0) (then_list l (e ∷ before) (max d0 d) ∷ st) ts → Given (then_list l before d0 ∷ st) e d (t ∷ ts)
    back (x, d', mid, q, (y, n', s, tail, k)) =
        (cell l x y, max d' n', s, tail_next kind t found is (some_join l kind found ts x d' mid y n' s q tail), subst (λ z. Given st (behind_all l before (cell l e (cell l x y))) z s) (sym (max_assoc d0 d (max d' n'))) k)

  -- a bracket is closed
  pub step_close : (st : List Frame) (f : Fragment) (d : ℕ) (u : Token) (ts : List Token) → terminal_of def u ≡ close_bracket → Given (then_close ∷ st) f d (u ∷ ts) ↔ Given st f (suc d) ts
  step_close st f d u ts is = (λ (u', s, are, is', k). subst (Given st f (suc d)) (let x : u ∷ ts ≡ u' ∷ s = are in let y : s ≡ ts = cc in y) k, λ k. (u, ts, refl, is, k))

  pub step_open : (st : List Frame) (f : Fragment) (d : ℕ) (ts : List Token) → (next_terminal def ts ≡ Some (close_bracket) → ⊥) → Given (then_close ∷ st) f d ts → ⊥
  step_open st f d ts h (u, s, are, is, k) = h (ap (next_terminal def) are ∙ ap Some is)

  -- the whole
  pub begins_tree : (p m : ℕ) (ts : List Token) → Yields def F (kinds.Phylum p) m D ts ↔ Does (start p m) [] ts
  begins_tree p m ts = (λ y. (F, D, [], tree_is_read def c F p m D ts y, (refl, refl, refl)), back) where
    back : Does (start p m) [] ts → Yields def F (kinds.Phylum p) m D ts
    back (g, e, s, r, (end, f, d)) = let a = sound def c r in
        subst (λ z. Yields def z (kinds.Phylum p) m D ts) (sym f) (subst (λ z. Yields def g (kinds.Phylum p) m z ts) (sym d)
        (subst (Yields def g (kinds.Phylum p) m e) (sym (a.are ∙ ap (λ z. a.own ++ z) end ∙ append-nil a.own)) a.yields))

  pub begins_list : (l m : ℕ) (ts : List Token) → Yields def F (kinds.List l) m D ts ↔ Does (list l) [] ts
  begins_list l m ts = (λ y. (F, D, [], list_is_read def c F l D ts y, (refl, refl, refl)), back) where
    back : Does (list l) [] ts → Yields def F (kinds.List l) m D ts
    back (g, e, s, r, (end, f, d)) = let a = sound def c r in
        subst (λ z. Yields def z (kinds.List l) m D ts) (sym f) (subst (λ z. Yields def g (kinds.List l) m z ts) (sym d)
        (subst (Yields def g (kinds.List l) m e) (sym (a.are ∙ ap (λ z. a.own ++ z) end ∙ append-nil a.own)) a.yields))

  -- at the end
  pub ends_here : (f : Fragment) (d : ℕ) → Given [] f d [] ↔ (F ≡ f) × (D ≡ d)
  ends_here f d = (λ (e, h, k). (h, k), λ (h, k). (refl, h, k))

  pub ends_early : (f : Fragment) (d : ℕ) (t : Token) (ts : List Token) → Given [] f d (t ∷ ts) → ⊥
  ends_early f d t ts (e, h, k) = let x : t ∷ ts ≡ [] = e in cc
