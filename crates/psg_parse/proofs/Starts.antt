-- The step of a tree of a phylum that begins.
use Rattle.std.proofs.Common.{◌≡◌, ◌↔◌, ℕ, ◌<◌, ◌≤◌, true, false, List, ◌∷◌, Some, None, refl, sym, ap, ◌∙◌, subst}
use Rattle.psg_terms.proofs.Lists.{iff_then}
use Rattle.psg_grammar.specs.declared.types.Item.{Item}
use Rattle.psg_grammar.specs.declared.types.Operator.{Operator}
use Rattle.psg_grammar.specs.declared.types.Definition.{Definition}
use Rattle.psg_grammar.specs.Fragments.{Fragment, hole, operator}
use Rattle.psg_grammar.specs.Levels.{level_number}
use Rattle.psg_class.specs.Terminals.{Token, terminal_of}
use Rattle.psg_class.specs.Places.{solid}
use Rattle.psg_class.specs.Follow.{Leads}
use Rattle.psg_class.specs.Class.{IsClass}
use Rattle.psg_class.proofs.ClassFacts.{facts}
use Rattle.psg_class.specs.Runs.{start, grow, parts}
use Rattle.psg_class.specs.Machine.{Frame, then_grow, then_close, Completes, taken}
use Rattle.psg_class.proofs.Machine.{step_hole, step_bracket, step_leading, step_low, step_item}
use Rattle.psg_parse.specs.Tables.{OpensHole, OpensBracket}
use Rattle.psg_parse.proofs.Opens.{hole_token}

module _ (def : Definition) (k : IsClass def) (p m : ℕ) (st : List Frame) (t : Token) (ts : List Token) (F : Fragment) (D : ℕ) where
  pub starts_hole : OpensHole def p (terminal_of def t) → Completes def (start p m) st (t ∷ ts) F D ↔ Completes def (grow p m (hole p) 0 None) st ts F D
  starts_hole h = subst (λ x. Completes def (start p m) st (x ∷ ts) F D ↔ Completes def (grow p m (hole p) 0 None) st ts F D) (sym (hole_token def t h.phylum.name h.is))
      (step_hole def (facts def k) F D p m st h.phylum.name ts h.phylum h.found h.holes refl)

  pub starts_bracket : OpensBracket def p (terminal_of def t) → Completes def (start p m) st (t ∷ ts) F D ↔ Completes def (start p 0) (then_close ∷ then_grow p m None ∷ st) ts F D
  starts_bracket h = step_bracket def (facts def k) F D p m st t ts h.phylum h.found h.bracketed h.is

  pub starts_low : (op : ℕ) (l : Leads def p op (terminal_of def t)) (o : Operator) → l.o ≡ o → level_number o.level < m → Completes def (start p m) st (t ∷ ts) F D → ⊥
  starts_low op l o same h = step_low def (facts def k) F D p m st t ts op l (subst (λ x. level_number x.level < m) (sym same) h)

  pub starts_leading : (op : ℕ) (l : Leads def p op (terminal_of def t)) (o : Operator) → l.o ≡ o → m ≤ level_number o.level → (item : Item) (more : List Item) → solid o.items ≡ item ∷ more
      → Completes def (start p m) st (t ∷ ts) F D ↔ Completes def (parts o false (taken item t (operator op)) 0 more) (then_grow p m (Some (level_number o.level)) ∷ st) ts F D
  starts_leading op l o same least item more are =
      let all : l.item ∷ l.more ≡ item ∷ more = sym l.items ∙ ap (λ x. solid x.items) same ∙ are in
      let one : l.item ≡ item = cc in
      let two : l.more ≡ more = cc in
      let part : taken l.item t (operator op) ≡ taken item t (operator op) = ap (λ x. taken x t (operator op)) one in
      let task : parts l.o false (taken l.item t (operator op)) 0 l.more ≡ parts o false (taken item t (operator op)) 0 more = cc in
      let frame : then_grow p m (Some (level_number l.o.level)) ∷ st ≡ then_grow p m (Some (level_number o.level)) ∷ st = ap (λ x. then_grow p m (Some (level_number x.level)) ∷ st) same in
      subst (λ x. Completes def (start p m) st (t ∷ ts) F D ↔ Completes def x (then_grow p m (Some (level_number o.level)) ∷ st) ts F D) task
      (subst (λ x. Completes def (start p m) st (t ∷ ts) F D ↔ Completes def (parts l.o false (taken l.item t (operator op)) 0 l.more) x ts F D) frame
      (iff_then (step_leading def (facts def k) F D p m st t ts op l (subst (λ x. m ≤ level_number x.level) (sym same) least))
      (step_item def (facts def k) F D l.o true (operator op) 0 l.item l.more (then_grow p m (Some (level_number l.o.level)) ∷ st) t ts l.begins)))
