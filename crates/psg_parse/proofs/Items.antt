-- The steps of an operator's items, with marks for the layout passed over.
use Rattle.std.proofs.Common.{◌≡◌, ◌↔◌, ℕ, suc, false, cond, List, [], ◌∷◌, Some, length, refl, sym, ap, ◌∙◌, subst, arith, true≢false}
use Rattle.psg_grammar.specs.declared.types.Item.{Item}
use Rattle.psg_grammar.specs.declared.types.Item.TheVariants as items
use Rattle.psg_grammar.specs.declared.types.Kind.TheVariants as kinds
use Rattle.psg_grammar.specs.declared.types.Operator.{Operator}
use Rattle.psg_grammar.specs.declared.types.Definition.{Definition}
use Rattle.psg_grammar.specs.Fragments.{Fragment}
use Rattle.psg_grammar.specs.Levels.{is_mark}
use Rattle.psg_class.specs.Terminals.{Token, Terminal, terminal_of, item_terminal, next_terminal}
use Rattle.psg_class.specs.Places.{slot_level, solid}
use Rattle.psg_class.specs.Class.{IsClass}
use Rattle.psg_class.proofs.ClassFacts.{facts}
use Rattle.psg_class.specs.Runs.{start, list, parts}
use Rattle.psg_class.specs.Machine.{Frame, then_parts, Ends, Completes, taken}
use Rattle.psg_class.proofs.Machine.{step_end, step_slot, step_list_slot, step_item, step_mismatch}
use Rattle.psg_parse.specs.Lookups.{IsBare}

-- a bare row of items begins with a solid one
pub bare_solid : (left all : List Item) (i : Item) (more : List Item) → solid left ≡ solid all → IsBare left → left ≡ i ∷ more → solid all ≡ i ∷ solid more
bare_solid [] all i more e b h = absurd (let x : [] ≡ i ∷ more = h in cc)
bare_solid (j ∷ rest) all i more e b h =
    let first : j ≡ i = (let x : j ∷ rest ≡ i ∷ more = h in cc) in
    let behind : rest ≡ more = (let x : j ∷ rest ≡ i ∷ more = h in cc) in
    sym e ∙ ap (λ t. cond t (solid rest) (j ∷ solid rest)) b ∙ ap (λ x. x ∷ solid rest) first ∙ ap (λ x. i ∷ solid x) behind

solid_none : (left all : List Item) → solid left ≡ solid all → length left ≡ 0 → solid all ≡ []
solid_none [] all e h = sym e
solid_none (i ∷ left) all e h = absurd (let x : suc (length left) ≡ 0 = h in omega arith)

-- a solid item is a slot or a token
kind_of_item : (i : Item) → is_mark i ≡ false → ((k : _) → i ≡ items.Slot k → ⊥) → (t : Terminal) × (item_terminal i ≡ Some t)
kind_of_item (items.Word w) f h = (_, refl)
kind_of_item (items.Slot k) f h = absurd (h k refl)
kind_of_item (items.Refers s) f h = (_, refl)
kind_of_item (items.Declares s) f h = (_, refl)
kind_of_item items.Number f h = (_, refl)
kind_of_item items.Text f h = (_, refl)
kind_of_item items.Space f h = absurd (true≢false f)
kind_of_item items.Tight f h = absurd (true≢false f)
kind_of_item items.Line f h = absurd (true≢false f)
kind_of_item items.In f h = absurd (true≢false f)
kind_of_item items.Out f h = absurd (true≢false f)

bare_item : (left : List Item) (i : Item) (more : List Item) → IsBare left → left ≡ i ∷ more → is_mark i ≡ false
bare_item [] i more b e = absurd (let x : [] ≡ i ∷ more = e in cc)
bare_item (j ∷ rest) i more b e = let same : j ≡ i = (let x : j ∷ rest ≡ i ∷ more = e in cc) in subst (λ x. is_mark x ≡ false) same b

module _ (def : Definition) (k : IsClass def) (o : Operator) (f : Fragment) (d : ℕ) (st : List Frame) (left all : List Item) (e : solid left ≡ solid all) (F : Fragment) (D : ℕ) where
  abbrev Before : List Token → Type 0
  Before ts = Completes def (parts o false f d (solid all)) st ts F D

  pub items_end : length left ≡ 0 → (ts : List Token) → Before ts ↔ Ends def st f d ts F D
  items_end h ts = subst (λ x. Completes def (parts o false f d x) st ts F D ↔ Ends def st f d ts F D) (sym (solid_none left all e h)) (step_end def (facts def k) F D o false f d st ts)

  pub items_slot : IsBare left → (q : ℕ) (behind : List Item) → left ≡ items.Slot (kinds.Phylum q) ∷ behind → (least : ℕ) → least ≡ slot_level o (kinds.Phylum q) false (solid behind)
      → (ts : List Token) → Before ts ↔ Completes def (start q least) (then_parts o f d (solid behind) ∷ st) ts F D
  items_slot b q behind is least h ts =
      subst (λ x. Completes def (parts o false f d x) st ts F D ↔ Completes def (start q least) (then_parts o f d (solid behind) ∷ st) ts F D) (sym (bare_solid left all (items.Slot (kinds.Phylum q)) behind e b is))
      (subst (λ x. Completes def (parts o false f d (items.Slot (kinds.Phylum q) ∷ solid behind)) st ts F D ↔ Completes def (start q x) (then_parts o f d (solid behind) ∷ st) ts F D) (sym h) (step_slot def (facts def k) F D o false f d q (solid behind) st ts))

  pub items_list : IsBare left → (l : ℕ) (behind : List Item) → left ≡ items.Slot (kinds.List l) ∷ behind → (ts : List Token) → Before ts ↔ Completes def (list l) (then_parts o f d (solid behind) ∷ st) ts F D
  items_list b l behind is ts =
      subst (λ x. Completes def (parts o false f d x) st ts F D ↔ Completes def (list l) (then_parts o f d (solid behind) ∷ st) ts F D) (sym (bare_solid left all (items.Slot (kinds.List l)) behind e b is))
      (step_list_slot def (facts def k) F D o false f d l (solid behind) st ts)

  pub items_token : IsBare left → (i : Item) (behind : List Item) → left ≡ i ∷ behind → (t : Token) → item_terminal i ≡ Some (terminal_of def t)
      → (ts : List Token) → Before (t ∷ ts) ↔ Completes def (parts o false (taken i t f) d (solid behind)) st ts F D
  items_token b i behind is t h ts =
      subst (λ x. Completes def (parts o false f d x) st (t ∷ ts) F D ↔ Completes def (parts o false (taken i t f) d (solid behind)) st ts F D) (sym (bare_solid left all i behind e b is))
      (step_item def (facts def k) F D o false f d i (solid behind) st t ts h)

  pub items_mismatch : IsBare left → (i : Item) (behind : List Item) → left ≡ i ∷ behind → ((s : _) → i ≡ items.Slot s → ⊥) → (ts : List Token) → ((t : Terminal) → item_terminal i ≡ Some t → next_terminal def ts ≡ Some t → ⊥)
      → Before ts → ⊥
  items_mismatch b i behind is no_slot ts h x =
      let (t, begins) = kind_of_item i (bare_item left i behind b is) no_slot in
      step_mismatch def (facts def k) F D o false f d i t (solid behind) st ts begins (h t begins) (subst (λ y. Completes def (parts o false f d y) st ts F D) (bare_solid left all i behind e b is) x)

-- there is a solid item left
pub none_left : (left all : List Item) (i : Item) (more : List Item) → solid left ≡ solid all → length left ≡ 0 → solid all ≡ i ∷ more → ⊥
none_left left all i more e h are = let x : [] ≡ i ∷ more = sym (solid_none left all e h) ∙ are in cc
