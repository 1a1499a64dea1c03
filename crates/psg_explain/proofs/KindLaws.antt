-- The kind of a node, and the kinds of the children that are added after a step.
use Rattle.std.proofs.Common.{◌≡◌, ℕ, zero, suc, ◌+◌, ◌-◌, ◌<◌, ◌≤◌, Bool, List, [], ◌∷◌, ◌++◌, drop, get_or, length, Option, Some, None, slice_get, option_and_then, refl, sym, ap, ◌∙◌, subst, append_assoc, append-nil, arith}
use Rattle.std.proofs.lemmas.List.{drop_all}
use Rattle.psg_terms.proofs.Lists.{drop_item}
use Rattle.psg_grammar.specs.declared.types.Kind.{Kind}
use Rattle.psg_grammar.specs.declared.types.Kind.TheVariants as kinds
use Rattle.psg_grammar.specs.declared.types.Item.{Item}
use Rattle.psg_grammar.specs.declared.types.Item.TheVariants as items
use Rattle.psg_grammar.specs.declared.types.ListKind.{ListKind}
use Rattle.psg_grammar.specs.declared.types.Operator.{Operator}
use Rattle.psg_grammar.specs.declared.types.Definition.{Definition}
use Rattle.psg_grammar.specs.Fragments.{Fragment, hole, ending, cell, operator, with_child, with_name, with_number, with_text, anything, observed, top_operator}
use Rattle.psg_grammar.specs.Kinds.{IsOfKind}
use Rattle.psg_grammar.specs.Lookups.{operator_at}
use Rattle.psg_grammar.specs.WellFormed.{WellFormed}
use Rattle.psg_tree.specs.declared.tree.Part.{Part}
use Rattle.psg_tree.specs.declared.tree.Part.TheVariants as parts
use Rattle.psg_tree.specs.Shapes.{with_part, with_parts}
use Rattle.psg_tree.proofs.FormLaws.{no_operator}
use Rattle.psg_eval.specs.Summaries.{slot_kinds}
use Rattle.psg_cache.proofs.RealTrees.{IsSpine}
use Rattle.psg_explain.specs.declared.stages.Site.{Site}
use Rattle.psg_explain.specs.declared.stages.Site.TheVariants as sites
use Rattle.psg_explain.specs.declared.stages.Stage.{Stage}
use Rattle.psg_explain.specs.Added.{HasKindsAt}
use Rattle.psg_explain.specs.Plans.{Step}
use Rattle.psg_explain.specs.Refutations.{kinds_below, kinds_of_cell, kinds_of_slots}
use Rattle.psg_explain.specs.Sources.{IsNodeSite, IsSite, IsStage, IsStepNode}
use Rattle.psg_explain.proofs.CasingLaws.{top_of}
use Rattle.psg_explain.proofs.StagingLaws.{spine_of}

pub none_dropped : {X : Type 0} (n : ℕ) → ◌≡◌ {A = List X} (drop n []) []
none_dropped zero = refl
none_dropped (suc n) = refl

pub two_dropped : {X : Type 0} (n : ℕ) (x y : X) → (n ≡ 0 → ⊥) → (n ≡ 1 → ⊥) → drop n (x ∷ y ∷ []) ≡ []
two_dropped zero x y h k = absurd (h refl)
two_dropped (suc zero) x y h k = absurd (k refl)
two_dropped (suc (suc n)) x y h k = none_dropped n

module _ (def : Definition) where
  pub hole_kinds : (p : ℕ) (f : Fragment) (step : ℕ) (found : List Kind) → hole p ≡ f → found ≡ kinds.Phylum p ∷ [] → HasKindsAt def f step found
  hole_kinds p f step found e is =
      subst (λ g. HasKindsAt def g step found) e (kinds.Phylum p, refl, is ∙ ap (λ (l : List Kind). kinds.Phylum p ∷ l) (sym (none_dropped step)))

  part_kind : (f : Fragment) (p : Part) (kind : Kind) → IsOfKind def f kind → IsOfKind def (with_part f p) kind
  part_kind f (parts.Sub t) kind h = h
  part_kind f (parts.Name n) kind h = h
  part_kind f (parts.Number n) kind h = h
  part_kind f (parts.Text n) kind h = h

  parts_kind : (f : Fragment) (ps : List Part) (kind : Kind) → IsOfKind def f kind → IsOfKind def (with_parts f ps) kind
  parts_kind f [] kind h = h
  parts_kind f (p ∷ ps) kind h = parts_kind (with_part f p) ps kind (part_kind f p kind h)

  spine_below : (f : Fragment) → IsSpine f → kinds_below def f ≡ kinds_of_slots def (option_and_then (operator_at def) (top_operator f))
  spine_below (operator o) h = refl
  spine_below (with_child f t) h = refl
  spine_below (with_name f n) h = refl
  spine_below (with_number f n) h = refl
  spine_below (with_text f n) h = refl
  spine_below (hole p) h = absurd h
  spine_below (ending l u) h = absurd h
  spine_below (cell l e r) h = absurd h
  spine_below anything h = absurd h
  spine_below (observed f) h = absurd h

  pub operator_kinds : (o : ℕ) (op : Operator) (ps : List Part) (f : Fragment) (step : ℕ) (first found : List Kind) → with_parts (operator o) ps ≡ f → slice_get def.operators o ≡ Some op
      → first ≡ kinds.Phylum op.phylum ∷ [] → found ≡ first ++ drop step (slot_kinds def op.items) → HasKindsAt def f step found
  operator_kinds o op ps f step first found e at start is =
      let g : Fragment = with_parts (operator o) ps in
      let below : kinds_below def g ≡ slot_kinds def op.items =
      spine_below g (spine_of (operator o) ps tt) ∙ ap (λ (t : Option ℕ). kinds_of_slots def (option_and_then (operator_at def) t)) (top_of (operator o) ps)
      ∙ ap (kinds_of_slots def) at in
      subst (λ x. HasKindsAt def x step found) e (
        kinds.Phylum op.phylum,
        parts_kind (operator o) ps (kinds.Phylum op.phylum) (op, at, refl),
        is ∙ ap (λ (l : List Kind). l ++ drop step (slot_kinds def op.items)) start ∙ ap (λ (l : List Kind). kinds.Phylum op.phylum ∷ drop step l) (sym below),
      )

  pub no_kinds : (o : ℕ) (ps : List Part) (f : Fragment) → with_parts (operator o) ps ≡ f → slice_get def.operators o ≡ None → IsStepNode def f → ⊥
  no_kinds o ps f e none (kind, formed) = no_operator def o ps kind none (subst (λ g. WellFormed def g kind) (sym e) formed)

  pub cell_kinds_are : (l : ℕ) (own : ListKind) (e r : Fragment) (step : ℕ) (found : List Kind) → slice_get def.lists l ≡ Some own
      → found ≡ kinds.List l ∷ drop step (kinds.Phylum own.element ∷ kinds.List l ∷ []) → HasKindsAt def (cell l e r) step found
  cell_kinds_are l own e r step found at is = (kinds.List l, refl, is ∙ ap (λ (o : Option ListKind). kinds.List l ∷ drop step (kinds_of_cell l o)) (sym at))

  pub no_cell : (l : ℕ) (e r : Fragment) → slice_get def.lists l ≡ None → IsStepNode def (cell l e r) → ⊥
  no_cell l e r none (kind, ((a, b, own, at, fe, fr, un), plain)) = let d : None ≡ Some own = sym none ∙ at in cc

  -- ---- of a step

  module _ (stage : Stage) (s : Step) (is : IsStage def stage s) (found : List Kind) where
    pub node_stage : (t : Fragment) → stage.site ≡ sites.Node t → (IsStepNode def t → IsNodeSite t → HasKindsAt def t stage.step found) → HasKindsAt def s.part s.number found
    node_stage t e h =
        let (same, node) = subst (λ (x : Site). IsSite x s.part) e is.site in
        subst (λ n. HasKindsAt def s.part n found) is.number (subst (λ g. HasKindsAt def g stage.step found) (sym same) (h (subst (IsStepNode def) same is.formed) node))

    pub end_stage : (l : ℕ) (u : Bool) → stage.site ≡ sites.End l u → found ≡ kinds.List l ∷ [] → HasKindsAt def s.part s.number found
    end_stage l u e h =
        let same : s.part ≡ ending l u = subst (λ (x : Site). IsSite x s.part) e is.site in
        subst (λ g. HasKindsAt def g s.number found) (sym same) (kinds.List l, refl, h ∙ ap (λ (k : List Kind). kinds.List l ∷ k) (sym (none_dropped s.number)))

    pub cell_stage : (l : ℕ) → stage.site ≡ sites.Cell l → ((e r : Fragment) → IsStepNode def (cell l e r) → HasKindsAt def (cell l e r) stage.step found) → HasKindsAt def s.part s.number found
    cell_stage l e h =
        let (element, rest, same) = subst (λ (x : Site). IsSite x s.part) e is.site in
        subst (λ n. HasKindsAt def s.part n found) is.number (subst (λ g. HasKindsAt def g stage.step found) (sym same) (h element rest (subst (IsStepNode def) same is.formed)))

-- ---- the kinds of slots

-- of so many slots that are left out one is passed
pub slot_passed : (def : Definition) (kinds_now : List Kind) (k : Kind) (rest : List Item) (item : Item) (skip : ℕ) → item ≡ items.Slot k → 0 < skip
    → kinds_now ++ drop (skip - 1) (slot_kinds def rest) ≡ kinds_now ++ drop skip (slot_kinds def (item ∷ rest))
slot_passed def now k rest item zero e h = absurd (omega (arith, h))
slot_passed def now k rest item (suc n) e h =
    let less : suc n - 1 ≡ n = omega arith in
    ap (λ m. now ++ drop m (slot_kinds def rest)) less ∙ ap (λ (i : Item). now ++ drop (suc n) (slot_kinds def (i ∷ rest))) (sym e)

pub slot_taken : (def : Definition) (old new : List Kind) (k : Kind) (rest : List Item) (item : Item) (skip : ℕ) → item ≡ items.Slot k → skip ≡ 0 → new ≡ old ++ k ∷ []
    → new ++ drop 0 (slot_kinds def rest) ≡ old ++ drop skip (slot_kinds def (item ∷ rest))
slot_taken def old new k rest item skip e none made =
    ap (λ (l : List Kind). l ++ slot_kinds def rest) made ∙ append_assoc old (k ∷ []) (slot_kinds def rest)
    ∙ ap (λ (i : Item). old ++ slot_kinds def (i ∷ rest)) (sym e) ∙ ap (λ m. old ++ drop m (slot_kinds def (item ∷ rest))) (sym none)

pub no_slot : (def : Definition) (now : List Kind) (rest : List Item) (item : Item) (skip : ℕ) → ((k : Kind) → item ≡ items.Slot k → ⊥)
    → now ++ drop skip (slot_kinds def rest) ≡ now ++ drop skip (slot_kinds def (item ∷ rest))
no_slot def now rest (items.Slot k) skip h = absurd (h k refl)
no_slot def now rest _ skip h = refl

pub slots_next : (def : Definition) (all : List Item) (i : ℕ) (item : Item) (old new whole : List Kind) (skip left : ℕ) → i < length all → item ≡ get_or all i item
    → new ++ drop left (slot_kinds def (drop (i + 1) all)) ≡ old ++ drop skip (slot_kinds def (item ∷ drop (i + 1) all)) → old ++ drop skip (slot_kinds def (drop i all)) ≡ whole
    → new ++ drop left (slot_kinds def (drop (i + 1) all)) ≡ whole
slots_next def all i item old new whole skip left lt at one now = one ∙ ap (λ (l : List Item). old ++ drop skip (slot_kinds def l)) (sym (drop_item all i item lt at)) ∙ now

pub slots_end : (def : Definition) (all : List Item) (i : ℕ) (now whole : List Kind) (skip : ℕ) → length all ≤ i → now ++ drop skip (slot_kinds def (drop i all)) ≡ whole → now ≡ whole
slots_end def all i now whole skip le h =
    sym (append-nil now) ∙ ap (λ (l : List Kind). now ++ l) (sym (none_dropped skip)) ∙ ap (λ (l : List Item). now ++ drop skip (slot_kinds def l)) (sym (drop_all i all le)) ∙ h
