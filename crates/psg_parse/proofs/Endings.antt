-- What is left to do can be ended.
use Rattle.std.proofs.Common.{◌≡◌, ℕ, suc, max, Bool, false, List, [], ◌∷◌, ◌++◌, refl, sym, ap, ◌∙◌, subst, append-nil}
use Rattle.psg_grammar.specs.declared.types.Kind.{Kind}
use Rattle.psg_grammar.specs.declared.types.Kind.TheVariants as kinds
use Rattle.psg_grammar.specs.declared.types.Item.{Item}
use Rattle.psg_grammar.specs.declared.types.Item.TheVariants as items
use Rattle.psg_grammar.specs.declared.types.Operator.{Operator}
use Rattle.psg_grammar.specs.declared.types.Definition.{Definition}
use Rattle.psg_grammar.specs.Fragments.{Fragment, hole, ending, cell, with_child, with_name, with_number, with_text}
use Rattle.psg_class.specs.Terminals.{Token, word, numeral, quoted, solo, placeholder, a_name, terminal_of}
use Rattle.psg_class.specs.Yields.{of_hole, PartsYield, no_items, of_word, of_refers, of_declares, of_number, of_text, of_slot, of_list_slot, ListYields, no_elements, only_more, elements, SomeYield, last_element, and_more, and_elements, Yields}
use Rattle.psg_class.specs.Runs.{start, grow, parts, list, some_list}
use Rattle.psg_class.specs.Machine.{Frame, then_grow, then_parts, then_close, then_list, behind_all}
use Rattle.psg_parse.specs.Onward.{Aim, running, giving, as_it_is, rest_end, MayLeave, HasList, HasToken, CanEndItems, CanEndStack, CanEndState}
use Rattle.psg_parse.specs.States.{aim_of}
use Rattle.psg_parse.specs.Stops.{Begins}
use Rattle.psg_parse.proofs.Onwards.{name_token}

module _ (def : Definition) (name : HasToken def a_name) where
  pub record HasParts (o : Operator) (first : Bool) (f : Fragment) (d : ℕ) (more : List Item) : Type 0 where
    pub tree : Fragment
    pub nesting : ℕ
    pub own : List Token
    pub yields : PartsYield def o first f d more tree nesting own

  -- tokens for the items
  pub items_end : (o : Operator) (first : Bool) (f : Fragment) (d : ℕ) (more : List Item) → CanEndItems def more → HasParts o first f d more
  items_end o first f d [] c = record { tree = f; nesting = d; own = []; yields = no_items }
  items_end o first f d (items.Word w ∷ more) (t, c) =
      let r = items_end o false f d more c in record { tree = r.tree; nesting = r.nesting; own = t.token ∷ r.own; yields = of_word t.token t.is r.yields }
  items_end o first f d (items.Refers s ∷ more) c =
      let (x, is) = name_token def name.token name.is in
      let n : terminal_of def (word x) ≡ a_name = ap (terminal_of def) (sym is) ∙ name.is in
      let r = items_end o false (with_name f x) d more c in record { tree = r.tree; nesting = r.nesting; own = word x ∷ r.own; yields = of_refers s x n r.yields }
  items_end o first f d (items.Declares s ∷ more) c =
      let (x, is) = name_token def name.token name.is in
      let n : terminal_of def (word x) ≡ a_name = ap (terminal_of def) (sym is) ∙ name.is in
      let r = items_end o false (with_name f x) d more c in record { tree = r.tree; nesting = r.nesting; own = word x ∷ r.own; yields = of_declares s x n r.yields }
  items_end o first f d (items.Number ∷ more) c =
      let r = items_end o false (with_number f 0) d more c in record { tree = r.tree; nesting = r.nesting; own = numeral 0 ∷ r.own; yields = of_number 0 r.yields }
  items_end o first f d (items.Text ∷ more) c =
      let r = items_end o false (with_text f []) d more c in record { tree = r.tree; nesting = r.nesting; own = quoted [] ∷ r.own; yields = of_text [] r.yields }
  items_end o first f d (items.Slot (kinds.Phylum p) ∷ more) (h, c) =
      let r = items_end o false (with_child f (hole p)) (max d 0) more c in
      record { tree = r.tree; nesting = r.nesting; own = (placeholder h.phylum.name ∷ []) ++ r.own; yields = of_slot (hole p) 0 (placeholder h.phylum.name ∷ []) r.own (of_hole h.phylum h.found h.holes) r.yields }
  items_end o first f d (items.Slot (kinds.List l) ∷ more) (h, c) =
      let r = items_end o false (with_child f (ending l false)) (max d 0) more c in
      record { tree = r.tree; nesting = r.nesting; own = [] ++ r.own; yields = of_list_slot (ending l false) 0 [] r.own (no_elements h.kind h.found) r.yields }
  items_end o first f d (items.Space ∷ more) c = absurd c
  items_end o first f d (items.Tight ∷ more) c = absurd c
  items_end o first f d (items.Line ∷ more) c = absurd c
  items_end o first f d (items.In ∷ more) c = absurd c
  items_end o first f d (items.Out ∷ more) c = absurd c

  -- these tokens end the state
  pub record HasEnd (aim : Aim) (st : List Frame) : Type 0 where
    pub more : List Token
    pub tree : Fragment
    pub nesting : ℕ
    pub ends : MayLeave def aim st more tree nesting

  stack_end : (st : List Frame) → CanEndStack def st → (f : Fragment) (d : ℕ) → HasEnd (giving f d) st
  stack_end [] c f d = record { more = []; tree = f; nesting = d; ends = (refl, refl, refl) }
  stack_end (then_grow p m level ∷ st) c f d =
      let r = stack_end st c.1 f d in record { more = r.more; tree = r.tree; nesting = r.nesting; ends = (f, d, [], r.more, refl, as_it_is, r.ends) }
  stack_end (then_parts o f0 d0 left ∷ st) c f d =
      let h = items_end o false (with_child f0 f) (max d0 d) left c.0 in
      let r = stack_end st c.1 h.tree h.nesting in
      record { more = h.own ++ r.more; tree = r.tree; nesting = r.nesting; ends = (h.tree, h.nesting, h.own, r.more, refl, h.yields, r.ends) }
  stack_end (then_close ∷ st) c f d =
      let r = stack_end st c.1 f (suc d) in record { more = solo 41 ∷ r.more; tree = r.tree; nesting = r.nesting; ends = (solo 41, r.more, refl, refl, r.ends) }
  stack_end (then_list l before d0 ∷ st) c f d =
      let r = stack_end st c.1 (behind_all l before (cell l f (ending l false))) (max d0 (max d 0)) in
      record { more = r.more; tree = r.tree; nesting = r.nesting; ends = (ending l false, 0, [], r.more, refl, rest_end c.0.kind c.0.found, r.ends) }

  pub state_end : (aim : Aim) (st : List Frame) → CanEndState def aim st → HasEnd aim st
  state_end (giving f n) st c = stack_end st c.1 f n
  state_end (running (start p m)) st c =
      let r = stack_end st c.1 c.0.tree c.0.nesting in
      record { more = c.0.own ++ r.more; tree = r.tree; nesting = r.nesting; ends = (c.0.tree, c.0.nesting, c.0.own, r.more, refl, c.0.yields, r.ends) }
  state_end (running (grow p m f d level)) st c =
      let r = stack_end st c.1 f d in record { more = r.more; tree = r.tree; nesting = r.nesting; ends = (f, d, [], r.more, refl, as_it_is, r.ends) }
  state_end (running (parts o first f d left)) st c =
      let h = items_end o first f d left c.0 in
      let r = stack_end st c.1 h.tree h.nesting in
      record { more = h.own ++ r.more; tree = r.tree; nesting = r.nesting; ends = (h.tree, h.nesting, h.own, r.more, refl, h.yields, r.ends) }
  state_end (running (list l)) st c =
      let r = stack_end st c.1 (ending l false) 0 in
      record { more = r.more; tree = r.tree; nesting = r.nesting; ends = (ending l false, 0, [], r.more, refl, no_elements c.0.kind c.0.found, r.ends) }
  state_end (running (some_list l)) st c = absurd c.0

module _ (def : Definition) where
  some_list_there : (f : Fragment) (l d : ℕ) (ts : List Token) → SomeYield def f l d ts → HasList def l
  some_list_there f l d ts (last_element kind found y) = record { kind = kind; found = found }
  some_list_there f l d ts (and_more own kind separator found unfinished is y) = record { kind = kind; found = found }
  some_list_there f l d ts (and_elements kind m n own behind separator found is y z) = record { kind = kind; found = found }

  list_there : (f : Fragment) (l d : ℕ) (ts : List Token) → ListYields def f l d ts → HasList def l
  list_there f l d ts (no_elements kind found) = record { kind = kind; found = found }
  list_there f l d ts (only_more kind found unfinished) = record { kind = kind; found = found }
  list_there f l d ts (elements {f = g} {l = k} {depth = e} {ts = us} y) = some_list_there g k e us y

  -- where some tree is of the kind and level, the beginning can be ended
  pub begun_ends : (kind : Kind) (least : ℕ) → Begins def kind least [] → CanEndState def (aim_of kind least) []
  begun_ends (kinds.Phylum p) least b = (record { tree = b.tree; nesting = b.nesting; own = b.more; yields = b.yields }, tt)
  begun_ends (kinds.List l) least b = (list_there b.tree l b.nesting b.more b.yields, tt)

  -- what may come after the beginning is a tree
  pub begun_yields : (kind : Kind) (least : ℕ) (ts : List Token) (F : Fragment) (D : ℕ) → MayLeave def (aim_of kind least) [] ts F D → Yields def F kind least D ts
  begun_yields (kinds.Phylum p) least ts F D (g, e, own, s, are, y, (nil, tree, nesting)) =
      subst (λ z. Yields def z (kinds.Phylum p) least D ts) (sym tree) (subst (λ z. Yields def g (kinds.Phylum p) least z ts) (sym nesting)
      (subst (Yields def g (kinds.Phylum p) least e) (sym (are ∙ ap (λ z. own ++ z) nil ∙ append-nil own)) y))
  begun_yields (kinds.List l) least ts F D (g, e, own, s, are, y, (nil, tree, nesting)) =
      subst (λ z. Yields def z (kinds.List l) least D ts) (sym tree) (subst (λ z. Yields def g (kinds.List l) least z ts) (sym nesting)
      (subst (Yields def g (kinds.List l) least e) (sym (are ∙ ap (λ z. own ++ z) nil ∙ append-nil own)) y))
