-- The parser's steps are fixed by the tokens.
use Rattle.std.proofs.Common.{◌≡◌, ℕ, suc, max, true, false, List, ◌∷◌, Some, None, slice_get, refl, sym, ap, ap₂, ◌∙◌, subst}
use Rattle.psg_grammar.specs.declared.types.Item.{Item}
use Rattle.psg_grammar.specs.declared.types.Item.TheVariants as items
use Rattle.psg_grammar.specs.declared.types.Operator.{Operator}
use Rattle.psg_grammar.specs.declared.types.ListKind.{ListKind}
use Rattle.psg_grammar.specs.declared.types.Definition.{Definition}
use Rattle.psg_grammar.specs.Fragments.{Fragment, ending, cell, operator, with_child}
use Rattle.psg_class.specs.Terminals.{open_bracket, Token, placeholder, dots, Terminal, fixed, a_hole, a_more, terminal_of, item_terminal, next_terminal}
use Rattle.psg_grammar.specs.Levels.{level_number}
use Rattle.psg_class.specs.Places.{solid}
use Rattle.psg_class.specs.Follow.{Leads, Led, First, first_operator, first_hole, first_bracket, FirstOfList, first_element, first_more}
use Rattle.psg_class.proofs.ClassFacts.{ClassFacts}
use Rattle.psg_class.specs.Runs.{Task, start, grow, parts, some_list, Run, run_hole, run_bracket, run_leading, run_stop, run_led, run_end, run_word, run_refers, run_declares, run_number, run_text, run_slot, run_list_slot, run_none, run_only_more, run_some, run_last, run_more, run_next}

pub record Same (g g' : Fragment) (d d' : ℕ) (s s' : List Token) : Type 0 where
  pub tree : g ≡ g'
  pub nesting : d ≡ d'
  pub rest : s ≡ s'

pub no_item : (i : Item) (terminal : Terminal) → item_terminal i ≡ Some terminal → ((w : List ℕ) → terminal ≡ a_hole w → ⊥) × (terminal ≡ a_more → ⊥)
no_item (items.Word w) terminal h = (λ x e. cc, λ e. cc)
no_item (items.Refers space) terminal h = (λ x e. cc, λ e. cc)
no_item (items.Declares space) terminal h = (λ x e. cc, λ e. cc)
no_item items.Number terminal h = (λ x e. cc, λ e. cc)
no_item items.Text terminal h = (λ x e. cc, λ e. cc)
no_item (items.Slot k) terminal h = (λ x e. let y : None ≡ Some terminal = h in cc, λ e. let y : None ≡ Some terminal = h in cc)
no_item items.Space terminal h = (λ x e. let y : None ≡ Some terminal = h in cc, λ e. let y : None ≡ Some terminal = h in cc)
no_item items.Tight terminal h = (λ x e. let y : None ≡ Some terminal = h in cc, λ e. let y : None ≡ Some terminal = h in cc)
no_item items.Line terminal h = (λ x e. let y : None ≡ Some terminal = h in cc, λ e. let y : None ≡ Some terminal = h in cc)
no_item items.In terminal h = (λ x e. let y : None ≡ Some terminal = h in cc, λ e. let y : None ≡ Some terminal = h in cc)
no_item items.Out terminal h = (λ x e. let y : None ≡ Some terminal = h in cc, λ e. let y : None ≡ Some terminal = h in cc)

module _ (def : Definition) (c : ClassFacts def) where
  pub no_more_first : (p : ℕ) (terminal : Terminal) → First def p terminal → terminal ≡ a_more → ⊥
  no_more_first p terminal (first_operator n l) e = (no_item l.item terminal l.begins).1 e
  no_more_first p terminal (first_hole phylum found closed) e = cc
  no_more_first p terminal (first_bracket phylum found bracketed) e = cc

  -- what a read begins with
  pub record Begun (F : Terminal → Type 0) (ts : List Token) : Type 0 where
    pub token : Token
    pub rest : List Token
    pub are : ts ≡ token ∷ rest
    pub first : F (terminal_of def token)

  pub start_begins : {p m d : ℕ} {ts s : List Token} {g : Fragment} → Run def (start p m) ts g d s → Begun (First def p) ts
  start_begins {p = p} (run_hole {rest = rest} {x = x} phylum found closed is r) = record { token = placeholder x; rest = rest; are = refl; first = subst (λ y. First def p (a_hole y)) is (first_hole phylum found closed) }
  start_begins {p = p} (run_bracket {ts = ts} {t = t} f d rest phylum u found bracketed is is' r q) = record { token = t; rest = ts; are = refl; first = subst (First def p) (sym is) (first_bracket phylum found bracketed) }
  start_begins (run_leading {ts = ts} {t = t} f d rest n l h r q) = record { token = t; rest = ts; are = refl; first = first_operator n l }

  pub list_begins : {l d : ℕ} {ts s : List Token} {g : Fragment} → Run def (some_list l) ts g d s → Begun (λ terminal. FirstOfList def l terminal × (terminal ≡ a_more → ⊥)) ts
  list_begins (run_last kind found r over) = let b = start_begins r in record { token = b.token; rest = b.rest; are = b.are; first = (first_element kind found b.first, no_more_first kind.element (terminal_of def b.token) b.first) }
  list_begins (run_more kind t found unfinished is r) = let b = start_begins r in record { token = b.token; rest = b.rest; are = b.are; first = (first_element kind found b.first, no_more_first kind.element (terminal_of def b.token) b.first) }
  list_begins (run_next m n mid kind t found is r q) = let b = start_begins r in record { token = b.token; rest = b.rest; are = b.are; first = (first_element kind found b.first, no_more_first kind.element (terminal_of def b.token) b.first) }

  -- no list with an element begins with `...`
  pub no_dots : {l d : ℕ} {ts s : List Token} {g : Fragment} (rest : List Token) → ts ≡ dots ∷ rest → Run def (some_list l) ts g d s → ⊥
  no_dots rest e r = let b = list_begins r in b.first.1 (let x : b.token ≡ dots = (let y : dots ∷ rest ≡ b.token ∷ b.rest = sym e ∙ b.are in cc) in ap (terminal_of def) x)

  pub carry : {task task' : Task} {ts ts' s : List Token} {g : Fragment} {d : ℕ} → task' ≡ task → ts' ≡ ts → Run def task' ts' g d s → Run def task ts g d s
  carry {task = task} {task' = task'} {ts = ts} {ts' = ts'} {s = s} {g = g} {d = d} e e' r = subst (λ x. Run def x ts g d s) e (subst (λ x. Run def task' x g d s) e' r)

  -- one operator begins with a token, and one goes on with it
  pub record OneOf (n m : ℕ) (o q : Operator) (x y : List Item) : Type 0 where
    pub number : n ≡ m
    pub operator : o ≡ q
    pub items : x ≡ y

  pub leads_at : (p n : ℕ) (terminal terminal' : Terminal) → terminal ≡ terminal' → Leads def p n terminal → Leads def p n terminal'
  leads_at p n terminal terminal' e l = record { o = l.o; found = l.found; phylum = l.phylum; item = l.item; more = l.more; items = l.items; begins = l.begins ∙ ap Some e }

  pub leads_same : (p n m : ℕ) (terminal : Terminal) (a : Leads def p n terminal) (b : Leads def p m terminal) → OneOf n m a.o b.o (a.item ∷ a.more) (b.item ∷ b.more)
  leads_same p n m terminal a b =
      let k : n ≡ m = c.same_first p n m terminal a b in
      let e : Some a.o ≡ Some b.o = sym a.found ∙ ap (λ x. slice_get def.operators x) k ∙ b.found in
      let o : a.o ≡ b.o = cc in
      record { number = k; operator = o; items = sym a.items ∙ ap (λ x. solid x.items) o ∙ b.items }

  pub led_same : (p n m : ℕ) (terminal : Terminal) (a : Led def p n terminal) (b : Led def p m terminal) → OneOf n m a.o b.o (a.item ∷ a.more) (b.item ∷ b.more)
  led_same p n m terminal a b =
      let k : n ≡ m = c.same_led p n m terminal a b in
      let e : Some a.o ≡ Some b.o = sym a.found ∙ ap (λ x. slice_get def.operators x) k ∙ b.found in
      let o : a.o ≡ b.o = cc in
      let all : items.Slot a.slot ∷ a.item ∷ a.more ≡ items.Slot b.slot ∷ b.item ∷ b.more = sym a.items ∙ ap (λ x. solid x.items) o ∙ b.items in
      record { number = k; operator = o; items = cc }

  pub kind_same : (l : ℕ) (a b : ListKind) → slice_get def.lists l ≡ Some a → slice_get def.lists l ≡ Some b → a ≡ b
  kind_same l a b e h = let x : Some a ≡ Some b = sym e ∙ h in cc

  tail_same : (t : Token) (a b : List Token) → t ∷ a ≡ t ∷ b → a ≡ b
  tail_same t a b e = cc

  tail_same' : (t u : Token) (a b : List Token) → t ∷ a ≡ u ∷ b → a ≡ b
  tail_same' t u a b e = cc

  pub task_leads : (n m : ℕ) (o q : Operator) (x y : List Item) → OneOf n m o q x y → parts q true (operator m) 0 y ≡ parts o true (operator n) 0 x
  task_leads n m o q x y e = let k : n ≡ m = e.number in let l : o ≡ q = e.operator in let h : x ≡ y = e.items in cc

  pub task_led : (n m : ℕ) (o q : Operator) (x y : List Item) (f : Fragment) (d : ℕ) → OneOf n m o q x y → parts q false (with_child (operator m) f) d y ≡ parts o false (with_child (operator n) f) d x
  task_led n m o q x y f d e = let k : n ≡ m = e.number in let l : o ≡ q = e.operator in let h : x ≡ y = e.items in cc

  pub task_grow : (p m d e : ℕ) (f g : Fragment) (o q : Operator) → o ≡ q → f ≡ g → d ≡ e → grow p m g e (Some (level_number q.level)) ≡ grow p m f d (Some (level_number o.level))
  task_grow p m d e f g o q h i j = let k : level_number q.level ≡ level_number o.level = ap (λ x. level_number x.level) (sym h) in cc

  pub task_bracket : (p m d e : ℕ) (f g : Fragment) → f ≡ g → d ≡ e → grow p m g (suc e) None ≡ grow p m f (suc d) None
  task_bracket p m d e f g i j = cc

  pub task_slot : (o : Operator) (more : List Item) (f t u : Fragment) (d m n : ℕ) → t ≡ u → m ≡ n → parts o false (with_child f u) (max d n) more ≡ parts o false (with_child f t) (max d m) more
  task_slot o more f t u d m n i j = cc

  pub task_element : (a b : ListKind) → a ≡ b → start b.element 0 ≡ start a.element 0
  task_element a b e = ap (λ x. start x.element 0) (sym e)

  next_is : (a b : ListKind) → a ≡ b → (t : Token) (rest mid : List Token) → terminal_of def t ≡ fixed b.separator → rest ≡ t ∷ mid → next_terminal def rest ≡ Some (fixed a.separator)
  next_is a b e t rest mid is h = ap (next_terminal def) h ∙ ap Some (is ∙ ap (λ x. fixed x.separator) (sym e))

  swap : {g g' : Fragment} {d d' : ℕ} {s s' : List Token} → Same g g' d d' s s' → Same g' g d' d s' s
  swap a = record { tree = sym a.tree; nesting = sym a.nesting; rest = sym a.rest }

  pub same : {task : Task} {ts s s' : List Token} {g g' : Fragment} {d d' : ℕ} → Run def task ts g d s → Run def task ts g' d' s' → Same g g' d d' s s'
  same (run_hole phylum found closed is r) (run_hole phylum' found' closed' is' r') = same r r'
  same (run_hole {x = x} phylum found closed is r) (run_bracket f' d' rest' phylum' u' found' bracketed' open' close' q' r') = absurd (let y : a_hole x ≡ open_bracket = open' in cc)
  same (run_bracket f d rest phylum u found bracketed is close q r) (run_hole {x = x} phylum' found' closed' is' r') = absurd (let y : a_hole x ≡ open_bracket = is in cc)
  same (run_hole {x = x} phylum found closed is r) (run_leading f' d' rest' n' l' h' q' r') = absurd ((no_item l'.item (a_hole x) l'.begins).0 x refl)
  same (run_bracket {p = p} {m = m} f d rest phylum u found bracketed is close q r) (run_bracket f' d' rest' phylum' u' found' bracketed' is' close' q' r') =
      let a = same q q' in same r (carry (task_bracket p m d d' f f' a.tree a.nesting) (sym (tail_same' u u' rest rest' a.rest)) r')
  same (run_bracket {p = p} f d rest phylum u found bracketed is close q r) (run_leading f' d' rest' n' l' h' q' r') = absurd (c.bracket_first p n' phylum found bracketed (leads_at p n' _ (open_bracket) is l'))
  same (run_leading {t = t} f d rest n l h q r) (run_hole {x = x} phylum' found' closed' is' r') = absurd ((no_item l.item (a_hole x) l.begins).0 x refl)
  same (run_leading {p = p} f d rest n l h q r) (run_bracket f' d' rest' phylum' u' found' bracketed' is' close' q' r') = absurd (c.bracket_first p n phylum' found' bracketed' (leads_at p n _ (open_bracket) is' l))
  same (run_leading {p = p} {m = m} {t = t} f d rest n l h q r) (run_leading f' d' rest' n' l' h' q' r') =
      let one = leads_same p n n' (terminal_of def t) l l' in
      let a = same q (carry (task_leads n n' l.o l'.o (l.item ∷ l.more) (l'.item ∷ l'.more) one) refl q') in
      same r (carry (task_grow p m d d' f f' l.o l'.o one.operator a.tree a.nesting) (sym a.rest) r')
  same (run_stop h) (run_stop h') = record { tree = refl; nesting = refl; rest = refl }
  same (run_stop h) (run_led {t = t} f' d' rest' n' l' least' reach' q' r') = absurd (h n' (terminal_of def t) l' refl least')
  same (run_led {t = t} f d rest n l least reach q r) (run_stop h') = absurd (h' n (terminal_of def t) l refl least)
  same (run_led {p = p} {m = m} {d' = d0} {f' = f0} {t = t} f d rest n l least reach q r) (run_led f' d' rest' n' l' least' reach' q' r') =
      let one = led_same p n n' (terminal_of def t) l l' in
      let a = same q (carry (task_led n n' l.o l'.o (l.item ∷ l.more) (l'.item ∷ l'.more) f0 (max 0 d0) one) refl q') in
      same r (carry (task_grow p m d d' f f' l.o l'.o one.operator a.tree a.nesting) (sym a.rest) r')
  same run_end run_end = record { tree = refl; nesting = refl; rest = refl }
  same (run_word t is r) (run_word t' is' r') = same r r'
  same (run_refers space x is r) (run_refers space' x' is' r') = same r r'
  same (run_declares space x is r) (run_declares space' x' is' r') = same r r'
  same (run_number x r) (run_number x' r') = same r r'
  same (run_text x r) (run_text x' r') = same r r'
  same (run_slot {o = o} {f = f0} {d = d0} {more = more} t depth mid q r) (run_slot t' depth' mid' q' r') =
      let a = same q q' in same r (carry (task_slot o more f0 t t' d0 depth depth' a.tree a.nesting) (sym a.rest) r')
  same (run_list_slot {o = o} {f = f0} {d = d0} {more = more} t depth mid q r) (run_list_slot t' depth' mid' q' r') =
      let a = same q q' in same r (carry (task_slot o more f0 t t' d0 depth depth' a.tree a.nesting) (sym a.rest) r')
  same (run_none kind found not_first) (run_none kind' found' not_first') = record { tree = refl; nesting = refl; rest = refl }
  same (run_none kind found not_first) (run_only_more kind' found' unfinished') = absurd (not_first a_more refl (first_more kind' found' unfinished'))
  same (run_none kind found not_first) (run_some r') = let b = list_begins r' in absurd (not_first (terminal_of def b.token) (ap (next_terminal def) b.are) b.first.0)
  same (run_only_more kind found unfinished) (run_none kind' found' not_first') = absurd (not_first' a_more refl (first_more kind found unfinished))
  same (run_only_more kind found unfinished) (run_only_more kind' found' unfinished') = record { tree = refl; nesting = refl; rest = refl }
  same (run_only_more {ts = us} kind found unfinished) (run_some r') = absurd (no_dots us refl r')
  same (run_some r) (run_none kind' found' not_first') = let b = list_begins r in absurd (not_first' (terminal_of def b.token) (ap (next_terminal def) b.are) b.first.0)
  same (run_some r) (run_only_more {ts = us} kind' found' unfinished') = absurd (no_dots us refl r)
  same (run_some r) (run_some r') = same r r'
  same (run_last {l = l} kind found r over) (run_last kind' found' r' over') =
      let a = same r (carry (task_element kind kind' (kind_same l kind kind' found found')) refl r') in
      record { tree = ap (λ x. cell l x (ending l false)) a.tree; nesting = a.nesting; rest = a.rest }
  same (run_last {l = l} {rest = rest} kind found r over) (run_more {rest = rest'} kind' t' found' unfinished' is' r') =
      let a = same r (carry (task_element kind kind' (kind_same l kind kind' found found')) refl r') in
      absurd (over (next_is kind kind' (kind_same l kind kind' found found') t' rest (dots ∷ rest') is' a.rest))
  same (run_last {l = l} {rest = rest} kind found r over) (run_next m' n' mid' kind' t' found' is' r' q') =
      let a = same r (carry (task_element kind kind' (kind_same l kind kind' found found')) refl r') in
      absurd (over (next_is kind kind' (kind_same l kind kind' found found') t' rest mid' is' a.rest))
  same (run_more {l = l} {rest = rest} kind t found unfinished is r) (run_last {rest = rest'} kind' found' r' over') =
      let a = same r (carry (task_element kind kind' (kind_same l kind kind' found found')) refl r') in
      absurd (over' (next_is kind' kind (kind_same l kind' kind found' found) t rest' (dots ∷ rest) is (sym a.rest)))
  same (run_more {l = l} {rest = rest} kind t found unfinished is r) (run_more {rest = rest'} kind' t' found' unfinished' is' r') =
      let a = same r (carry (task_element kind kind' (kind_same l kind kind' found found')) refl r') in
      record { tree = ap (λ x. cell l x (ending l true)) a.tree; nesting = a.nesting; rest = tail_same dots rest rest' (tail_same' t t' (dots ∷ rest) (dots ∷ rest') a.rest) }
  same (run_more {l = l} {rest = rest} kind t found unfinished is r) (run_next m' n' mid' kind' t' found' is' r' q') =
      let a = same r (carry (task_element kind kind' (kind_same l kind kind' found found')) refl r') in
      absurd (no_dots rest (sym (tail_same' t t' (dots ∷ rest) mid' a.rest)) q')
  same (run_next {l = l} {rest = rest} m n mid kind t found is r q) (run_last {rest = rest'} kind' found' r' over') =
      let a = same r (carry (task_element kind kind' (kind_same l kind kind' found found')) refl r') in
      absurd (over' (next_is kind' kind (kind_same l kind' kind found' found) t rest' mid is (sym a.rest)))
  same (run_next {l = l} {rest = rest} m n mid kind t found is r q) (run_more {rest = rest'} kind' t' found' unfinished' is' r') =
      let a = same r (carry (task_element kind kind' (kind_same l kind kind' found found')) refl r') in
      absurd (no_dots rest' (tail_same' t t' mid (dots ∷ rest') a.rest) q)
  same (run_next {l = l} {rest = rest} m n mid kind t found is r q) (run_next {rest = rest'} m' n' mid' kind' t' found' is' r' q') =
      let a = same r (carry (task_element kind kind' (kind_same l kind kind' found found')) refl r') in
      let b = same q (carry refl (sym (tail_same' t t' mid mid' a.rest)) q') in
      record { tree = ap₂ (cell l) a.tree b.tree; nesting = ap₂ max a.nesting b.nesting; rest = b.rest }
