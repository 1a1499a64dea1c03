-- The step of a tree of a phylum that goes on, or is finished.
use Rattle.std.proofs.Common.{◌≡◌, ◌↔◌, ℕ, suc, max, ◌<◌, ◌≤◌, false, List, [], ◌∷◌, Option, Some, None, length, sym, ap, ◌∙◌, subst, arith}
use Rattle.psg_terms.proofs.Lists.{iff_then}
use Rattle.psg_grammar.specs.declared.types.Item.{Item}
use Rattle.psg_grammar.specs.declared.types.Item.TheVariants as items
use Rattle.psg_grammar.specs.declared.types.Operator.{Operator}
use Rattle.psg_grammar.specs.declared.types.Definition.{Definition}
use Rattle.psg_grammar.specs.Fragments.{Fragment, operator, with_child}
use Rattle.psg_grammar.specs.Levels.{level_number, first_level}
use Rattle.psg_lexis.specs.declared.token.Spanned.{Spanned}
use Rattle.psg_class.specs.Terminals.{Token, Terminal, terminal_of}
use Rattle.psg_class.specs.Places.{solid}
use Rattle.psg_class.specs.Follow.{Led}
use Rattle.psg_class.specs.Class.{IsClass}
use Rattle.psg_class.proofs.ClassFacts.{facts}
use Rattle.psg_class.specs.Runs.{Reaches, Stops, grow, parts}
use Rattle.psg_class.proofs.Sameness.{led_same}
use Rattle.psg_class.specs.Machine.{Frame, then_grow, Completes, taken}
use Rattle.psg_class.proofs.Machine.{step_led, step_item}
use Rattle.psg_class.specs.Texts.{tokens_of}
use Rattle.psg_parse.specs.Lookups.{IsBare}
use Rattle.psg_parse.proofs.Items.{bare_solid, none_left}

module _ (def : Definition) (k : IsClass def) (p m : ℕ) where
  pub stops_end : (rest : List Spanned) → length rest ≡ 0 → Stops def p m (tokens_of rest)
  stops_end [] h n terminal l e = absurd (let x : None ≡ Some terminal = e in cc)
  stops_end (s ∷ rest) h n terminal l e = absurd (let x : suc (length rest) ≡ 0 = h in omega arith)

  pub stops_none : (t : Token) (ts : List Token) → ((n : ℕ) → Led def p n (terminal_of def t) → ⊥) → Stops def p m (t ∷ ts)
  stops_none t ts none n terminal l e h = none n (subst (Led def p n) (let x : Some (terminal_of def t) ≡ Some terminal = e in let y : terminal ≡ terminal_of def t = cc in y) l)

  pub stops_low : (t : Token) (ts : List Token) (op : ℕ) (l : Led def p op (terminal_of def t)) (o : Operator) → l.o ≡ o → level_number o.level < m → Stops def p m (t ∷ ts)
  stops_low t ts op l o same low n terminal l' e h =
      let y : terminal ≡ terminal_of def t = (let x : Some (terminal_of def t) ≡ Some terminal = e in cc) in
      let l2 : Led def p n (terminal_of def t) = record { o = l'.o; found = l'.found; phylum = l'.phylum; slot = l'.slot; item = l'.item; more = l'.more; items = l'.items; begins = l'.begins ∙ ap Some y } in
      let k2 : level_number l.o.level ≡ level_number l'.o.level = ap (λ x. level_number x.level) (led_same def (facts def k) p op n (terminal_of def t) l l2).operator in
      let k1 : level_number l.o.level ≡ level_number o.level = ap (λ x. level_number x.level) same in
      omega (arith, low, h, k1, k2)

  pub goes_led : (tree : Fragment) (n : ℕ) (level : Option ℕ) (st : List Frame) (t : Token) (ts : List Token) (F : Fragment) (D : ℕ) (op : ℕ) (l : Led def p op (terminal_of def t)) (o : Operator) → l.o ≡ o
      → m ≤ level_number o.level → Reaches (first_level o.level) level → (slot item : Item) (more : List Item) → solid o.items ≡ slot ∷ item ∷ more
      → Completes def (grow p m tree n level) st (t ∷ ts) F D ↔ Completes def (parts o false (taken item t (with_child (operator op) tree)) (max 0 n) more) (then_grow p m (Some (level_number o.level)) ∷ st) ts F D
  goes_led tree n level st t ts F D op l o same least reach slot item more are =
      let all : items.Slot l.slot ∷ l.item ∷ l.more ≡ slot ∷ item ∷ more = sym l.items ∙ ap (λ x. solid x.items) same ∙ are in
      let one : l.item ≡ item = cc in
      let two : l.more ≡ more = cc in
      let part : taken l.item t (with_child (operator op) tree) ≡ taken item t (with_child (operator op) tree) = ap (λ x. taken x t (with_child (operator op) tree)) one in
      let task : parts l.o false (taken l.item t (with_child (operator op) tree)) (max 0 n) l.more ≡ parts o false (taken item t (with_child (operator op) tree)) (max 0 n) more = cc in
      let frame : then_grow p m (Some (level_number l.o.level)) ∷ st ≡ then_grow p m (Some (level_number o.level)) ∷ st = ap (λ x. then_grow p m (Some (level_number x.level)) ∷ st) same in
      subst (λ x. Completes def (grow p m tree n level) st (t ∷ ts) F D ↔ Completes def x (then_grow p m (Some (level_number o.level)) ∷ st) ts F D) task
      (subst (λ x. Completes def (grow p m tree n level) st (t ∷ ts) F D ↔ Completes def (parts l.o false (taken l.item t (with_child (operator op) tree)) (max 0 n) l.more) x ts F D) frame
      (iff_then (step_led def (facts def k) F D p m tree n level st t ts op l (subst (λ x. m ≤ level_number x.level) (sym same) least) (subst (λ x. Reaches (first_level x.level) level) (sym same) reach))
      (step_item def (facts def k) F D l.o false (with_child (operator op) tree) (max 0 n) l.item l.more (then_grow p m (Some (level_number l.o.level)) ∷ st) t ts l.begins)))

-- the two first solid items
pub two_items : (o : Operator) (left : List Item) (slot : Item) (behind left' : List Item) (item : Item) (more : List Item) → solid left ≡ solid o.items → IsBare left → left ≡ slot ∷ behind
    → solid left' ≡ solid behind → IsBare left' → left' ≡ item ∷ more → solid o.items ≡ slot ∷ item ∷ solid more
two_items o left slot behind left' item more e bare is e' bare' is' = bare_solid left o.items slot behind e bare is ∙ ap (λ x. slot ∷ x) (bare_solid left' behind item more e' bare' is')

-- a led operator has a second solid item
pub item_there : (def : Definition) (p n : ℕ) (t : Terminal) (l : Led def p n t) (o : Operator) → l.o ≡ o → (left : List Item) (slot : Item) (behind left' : List Item) → solid left ≡ solid o.items → IsBare left → left ≡ slot ∷ behind
    → solid left' ≡ solid behind → length left' ≡ 0 → ⊥
item_there def p n t l o same left slot behind left' e bare is e' h =
    let all : slot ∷ solid behind ≡ items.Slot l.slot ∷ l.item ∷ l.more = sym (bare_solid left o.items slot behind e bare is) ∙ ap (λ y. solid y.items) (sym same) ∙ l.items in
    let tail : solid behind ≡ l.item ∷ l.more = cc in
    none_left left' behind l.item l.more e' h tail
