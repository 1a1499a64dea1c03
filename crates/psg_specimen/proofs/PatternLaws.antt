-- Patterns of operators and lists from those of their parts and elements.
use Rattle.std.proofs.Common.{◌≡◌, inl, inr, ℕ, zero, suc, ◌+◌, ◌<◌, ◌≤◌, true, false, List, [], ◌∷◌, ◌++◌, length, take, drop, get_or, Option, Some, None, slice_get, refl, sym, ap, ◌∙◌, subst, arith, append_assoc, append-nil, length-append}
use Rattle.std.specs.List.{AllByRecursion}
use Rattle.psg_terms.specs.Names.{Name as Word}
use Rattle.psg_grammar.specs.declared.types.Kind.{Kind}
use Rattle.psg_grammar.specs.declared.types.Kind.TheVariants as kinds
use Rattle.psg_grammar.specs.declared.types.Item.{Item}
use Rattle.psg_grammar.specs.declared.types.Item.TheVariants as items
use Rattle.psg_grammar.specs.declared.types.Operator.{Operator}
use Rattle.psg_grammar.specs.declared.types.Specimen.{Specimen, Op, List as ListOf, Hole}
use Rattle.psg_grammar.specs.declared.types.SpecimenHole.{SpecimenHole}
use Rattle.psg_grammar.specs.declared.types.SpecimenPart.{SpecimenPart, Sub, Name, Number, Text}
use Rattle.psg_grammar.specs.declared.types.Definition.{Definition}
use Rattle.psg_grammar.specs.Fragments.{Fragment, hole, ending, cell, operator, with_child, with_name, with_number, with_text, anything, observed, top_operator, children_of}
use Rattle.psg_grammar.specs.Kinds.{IsOfKind}
use Rattle.psg_grammar.specs.Lookups.{part_items}
use Rattle.psg_grammar.specs.Sound.{IsSound, IsItem, HasKindSort}
use Rattle.psg_grammar.specs.Specimens.{tree_of, part_of, end_tree}
use Rattle.psg_grammar.proofs.SoundParts.{operator_sound, list_sound}
use Rattle.psg_eval.specs.declared.summary.SummaryParts.{SummaryParts}
use Rattle.psg_eval.specs.declared.summary.EvalFault.{EvalFault}
use Rattle.psg_eval.specs.declared.summary.EvalFault.TheVariants as faults
use Rattle.psg_eval.specs.Patterns.{IsChildOf, AreChildrenOf, SuitsKind, SuitKinds, TakesChildrenAt, TakesCellOf}
use Rattle.psg_grammar.specs.Steps.{steps_of}
use Rattle.std.specs.Prelude.{Ok, Err}
use Rattle.std.proofs.lemmas.Option.{slice_get_within}
use Rattle.std.proofs.lemmas.List.{take_all}
use Rattle.psg_terms.proofs.Lists.{take_item}
use Rattle.psg_eval.specs.Summaries.{Answers, IsSummary, are_names, slot_kinds}
use Rattle.psg_eval.specs.Trees.{HasParts, IsNode, own_names}
use Rattle.psg_specimen.specs.Patterns.{parts_on, cells_on, part_names, AddsPart, AreLight, ArePatternsOf, IsLight, IsLightBelow, IsListFor, IsListPattern, IsPartFault, IsPatternFor, IsPatternOf, IsSomeTree, IsTreeOf, IsUsual, IsWideBelow, IsWideList, IsWideTree, SuitsElement, SuitsRest}
use Rattle.psg_specimen.proofs.StepLaws.{IsSpine, IsSuffix, spine_parts, light_cell, light_end, light_open, wide_end, light_list, light_operator, light_part, light_spine, own_spine, below_spine, wide_cell, wide_child, wide_element, wide_list, wide_parts, wide_rest}
use Rattle.psg_specimen.proofs.TreeLaws.{op_tree, list_tree, Fits}

-- ---- names and slots among the parts and the items

names_one : (p : SpecimenPart) (ps : List SpecimenPart) → part_names (p ∷ ps) ≡ part_names (p ∷ []) ++ part_names ps
names_one (Sub s) ps = refl
names_one (Name n) ps = refl
names_one (Number n) ps = refl
names_one (Text t) ps = refl

names_snoc : (ps : List SpecimenPart) (p : SpecimenPart) → part_names (ps ++ p ∷ []) ≡ part_names ps ++ part_names (p ∷ [])
names_snoc [] p = refl
names_snoc (q ∷ ps) p =
    names_one q (ps ++ p ∷ []) ∙ ap (λ l. part_names (q ∷ []) ++ l) (names_snoc ps p)
    ∙ sym (append_assoc (part_names (q ∷ [])) (part_names ps) (part_names (p ∷ []))) ∙ ap (λ l. l ++ part_names (p ∷ [])) (sym (names_one q ps))

pub names_next : (ps : List SpecimenPart) (i : ℕ) (p : SpecimenPart) (before after : List Word) → i < length ps → p ≡ get_or ps i p → after ≡ before ++ part_names (p ∷ []) → before ≡ part_names (take i ps) → after ≡ part_names (take (i + 1) ps)
names_next ps i p before after lt e add h =
    add ∙ ap (λ l. l ++ part_names (p ∷ [])) h ∙ sym (names_snoc (take i ps) p) ∙ ap part_names (sym (take_item ps i p lt e))

own_part : (p : SpecimenPart) (f : Fragment) → own_names (part_of p f) ≡ own_names f ++ part_names (p ∷ [])
own_part (Sub s) f = sym (append-nil (own_names f))
own_part (Name n) f = refl
own_part (Number n) f = sym (append-nil (own_names f))
own_part (Text t) f = sym (append-nil (own_names f))

own_parts : (f : Fragment) (ps : List SpecimenPart) → own_names (parts_on f ps) ≡ own_names f ++ part_names ps
own_parts f [] = sym (append-nil (own_names f))
own_parts f (p ∷ ps) =
    own_parts (part_of p f) ps ∙ ap (λ l. l ++ part_names ps) (own_part p f) ∙ append_assoc (own_names f) (part_names (p ∷ [])) (part_names ps)
    ∙ ap (λ l. own_names f ++ l) (sym (names_one p ps))

top_part : (p : SpecimenPart) (f : Fragment) → top_operator (part_of p f) ≡ top_operator f
top_part (Sub s) f = refl
top_part (Name n) f = refl
top_part (Number n) f = refl
top_part (Text t) f = refl

top_parts : (f : Fragment) (ps : List SpecimenPart) → top_operator (parts_on f ps) ≡ top_operator f
top_parts f [] = refl
top_parts f (p ∷ ps) = top_parts (part_of p f) ps ∙ top_part p f

parts_snoc : (f : Fragment) (ps : List SpecimenPart) (p : SpecimenPart) → parts_on f (ps ++ p ∷ []) ≡ part_of p (parts_on f ps)
parts_snoc f [] p = refl
parts_snoc f (q ∷ ps) p = parts_snoc (part_of q f) ps p

module _ (def : Definition) where
  slots-append : (xs ys : List Item) → slot_kinds def (xs ++ ys) ≡ slot_kinds def xs ++ slot_kinds def ys
  slots-append [] ys = refl
  slots-append (items.Slot k ∷ xs) ys = ap (λ l. k ∷ l) (slots-append xs ys)
  slots-append (items.Word w ∷ xs) ys = slots-append xs ys
  slots-append (items.Refers s ∷ xs) ys = slots-append xs ys
  slots-append (items.Declares s ∷ xs) ys = slots-append xs ys
  slots-append (items.Number ∷ xs) ys = slots-append xs ys
  slots-append (items.Text ∷ xs) ys = slots-append xs ys
  slots-append (items.Space ∷ xs) ys = slots-append xs ys
  slots-append (items.Tight ∷ xs) ys = slots-append xs ys
  slots-append (items.Line ∷ xs) ys = slots-append xs ys
  slots-append (items.In ∷ xs) ys = slots-append xs ys
  slots-append (items.Out ∷ xs) ys = slots-append xs ys

  slots-parts : (xs : List Item) → slot_kinds def (part_items xs) ≡ slot_kinds def xs
  slots-parts [] = refl
  slots-parts (items.Slot k ∷ xs) = ap (λ l. k ∷ l) (slots-parts xs)
  slots-parts (items.Word w ∷ xs) = slots-parts xs
  slots-parts (items.Refers s ∷ xs) = slots-parts xs
  slots-parts (items.Declares s ∷ xs) = slots-parts xs
  slots-parts (items.Number ∷ xs) = slots-parts xs
  slots-parts (items.Text ∷ xs) = slots-parts xs
  slots-parts (items.Space ∷ xs) = slots-parts xs
  slots-parts (items.Tight ∷ xs) = slots-parts xs
  slots-parts (items.Line ∷ xs) = slots-parts xs
  slots-parts (items.In ∷ xs) = slots-parts xs
  slots-parts (items.Out ∷ xs) = slots-parts xs

  names-append : (xs ys : List Item) → are_names def (xs ++ ys) ≡ are_names def xs ++ are_names def ys
  names-append [] ys = refl
  names-append (items.Slot k ∷ xs) ys = names-append xs ys
  names-append (items.Word w ∷ xs) ys = names-append xs ys
  names-append (items.Refers s ∷ xs) ys = ap (λ l. items.Refers s ∷ l) (names-append xs ys)
  names-append (items.Declares s ∷ xs) ys = ap (λ l. items.Declares s ∷ l) (names-append xs ys)
  names-append (items.Number ∷ xs) ys = names-append xs ys
  names-append (items.Text ∷ xs) ys = names-append xs ys
  names-append (items.Space ∷ xs) ys = names-append xs ys
  names-append (items.Tight ∷ xs) ys = names-append xs ys
  names-append (items.Line ∷ xs) ys = names-append xs ys
  names-append (items.In ∷ xs) ys = names-append xs ys
  names-append (items.Out ∷ xs) ys = names-append xs ys

  names-parts : (xs : List Item) → are_names def (part_items xs) ≡ are_names def xs
  names-parts [] = refl
  names-parts (items.Slot k ∷ xs) = names-parts xs
  names-parts (items.Word w ∷ xs) = names-parts xs
  names-parts (items.Refers s ∷ xs) = ap (λ l. items.Refers s ∷ l) (names-parts xs)
  names-parts (items.Declares s ∷ xs) = ap (λ l. items.Declares s ∷ l) (names-parts xs)
  names-parts (items.Number ∷ xs) = names-parts xs
  names-parts (items.Text ∷ xs) = names-parts xs
  names-parts (items.Space ∷ xs) = names-parts xs
  names-parts (items.Tight ∷ xs) = names-parts xs
  names-parts (items.Line ∷ xs) = names-parts xs
  names-parts (items.In ∷ xs) = names-parts xs
  names-parts (items.Out ∷ xs) = names-parts xs

  slot_sorts : (xs : List Item) → AllByRecursion (IsItem def) xs → AllByRecursion (λ k. (s : ℕ) × HasKindSort def k s) (slot_kinds def xs)
  slot_sorts [] h = tt
  slot_sorts (items.Slot k ∷ xs) h = (h.0, slot_sorts xs h.1)
  slot_sorts (items.Word w ∷ xs) h = slot_sorts xs h.1
  slot_sorts (items.Refers s ∷ xs) h = slot_sorts xs h.1
  slot_sorts (items.Declares s ∷ xs) h = slot_sorts xs h.1
  slot_sorts (items.Number ∷ xs) h = slot_sorts xs h.1
  slot_sorts (items.Text ∷ xs) h = slot_sorts xs h.1
  slot_sorts (items.Space ∷ xs) h = slot_sorts xs h.1
  slot_sorts (items.Tight ∷ xs) h = slot_sorts xs h.1
  slot_sorts (items.Line ∷ xs) h = slot_sorts xs h.1
  slot_sorts (items.In ∷ xs) h = slot_sorts xs h.1
  slot_sorts (items.Out ∷ xs) h = slot_sorts xs h.1

  -- ---- what a tree that fits is

  -- a tree that fits is of that kind alone
  pub kind_once : (f : Fragment) (more : List Item) (kind other : Kind) (places left : List Kind) → Fits def f more kind places left → IsOfKind def f other → other ≡ kind
  kind_once (hole p) more kind other places left h is = absurd h.0
  kind_once (ending l true) more kind other places left h is = absurd h.0
  kind_once (ending l false) more kind other places left h is = is ∙ sym h.1
  kind_once (cell l e r) more kind other places left h is = is ∙ sym h.1
  kind_once (operator o) more kind other places left (same, op, found, items, of) (op', found', is) =
      let one : op' ≡ op = let e : Some op' ≡ Some op = sym found' ∙ found in cc in
      is ∙ ap (λ (x : Operator). kinds.Phylum x.phylum) one ∙ sym of
  kind_once (with_child f t) more kind other places left (k, mid, hf, ht) is = kind_once f (items.Slot k ∷ more) kind other places mid hf is
  kind_once (with_name f n) more kind other places left (inl (s, hf)) is = kind_once f (items.Refers s ∷ more) kind other places left hf is
  kind_once (with_name f n) more kind other places left (inr (s, hf)) is = kind_once f (items.Declares s ∷ more) kind other places left hf is
  kind_once (with_number f n) more kind other places left (hf, small) is = kind_once f (items.Number ∷ more) kind other places left hf is
  kind_once (with_text f t) more kind other places left (hf, text) is = kind_once f (items.Text ∷ more) kind other places left hf is
  kind_once anything more kind other places left h is = absurd is
  kind_once (observed f) more kind other places left h is = absurd h.0

  -- a child that fits suits the kind
  suits : (t : Fragment) (c : Option SummaryParts) (k : Kind) → IsTreeOf def k t → ((s : ℕ) × HasKindSort def k s) → IsChildOf def t c → IsUsual def c → SuitsKind def c k
  suits t (Some s) k (places, left, h) sort child usual = (kind_once t [] k s.kind places left h child.kind, usual)
  suits t None k h sort child usual = sort

  -- the children are trees of these kinds
  abbrev AreTrees : List Fragment → List Kind → Type 0
  AreTrees [] [] = Unit {0}
  AreTrees [] (k ∷ ks) = ⊥
  AreTrees (t ∷ ts) [] = ⊥
  AreTrees (t ∷ ts) (k ∷ ks) = IsTreeOf def k t × AreTrees ts ks

  trees_snoc : (ts : List Fragment) (ks : List Kind) (t : Fragment) (k : Kind) → AreTrees ts ks → IsTreeOf def k t → AreTrees (ts ++ t ∷ []) (ks ++ k ∷ [])
  trees_snoc [] [] t k h i = (i, tt)
  trees_snoc [] (j ∷ ks) t k h i = absurd h
  trees_snoc (u ∷ ts) [] t k h i = absurd h
  trees_snoc (u ∷ ts) (j ∷ ks) t k h i = (h.0, trees_snoc ts ks t k h.1 i)

  -- the items whose parts are there
  record HasItems (f : Fragment) (more : List Item) : Type 0 where
    number : ℕ
    top : top_operator f ≡ Some number
    op : Operator
    found : slice_get def.operators number ≡ Some op
    done : List Item
    all : part_items op.items ≡ done ++ more
    child_kinds : List Kind
    trees : AreTrees (children_of f) child_kinds
    slots : slot_kinds def done ≡ child_kinds
    names : length (are_names def done) ≡ length (own_names f)
    parts : HasParts def f more

  abbrev name_item : Item → Type 0
  name_item i = are_names def (i ∷ []) ≡ i ∷ []

  -- one more name position
  name_more : (f : Fragment) (n : Word) (i : Item) (more : List Item) → name_item i → slot_kinds def (i ∷ []) ≡ [] → HasParts def (with_name f n) more → HasItems f (i ∷ more) → HasItems (with_name f n) more
  name_more f n i more is none parts h =
      let longer : length (own_names f ++ n ∷ []) ≡ length (own_names f) + 1 = length-append (own_names f) (n ∷ []) in
      let with_one : length (are_names def h.done ++ i ∷ []) ≡ length (are_names def h.done) + 1 = length-append (are_names def h.done) (i ∷ []) in
      record {
        number = h.number;
        top = h.top;
        op = h.op;
        found = h.found;
        done = h.done ++ i ∷ [];
        all = h.all ∙ sym (append_assoc h.done (i ∷ []) more);
        child_kinds = h.child_kinds;
        trees = h.trees;
        slots = slots-append h.done (i ∷ []) ∙ ap (λ l. slot_kinds def h.done ++ l) none ∙ append-nil (slot_kinds def h.done) ∙ h.slots;
        names = ap length (names-append h.done (i ∷ []) ∙ ap (λ l. are_names def h.done ++ l) is) ∙ with_one ∙ ap (λ k. k + 1) h.names ∙ sym longer;
        parts = parts;
      }

  -- one more literal
  literal_more : (f g : Fragment) (i : Item) (more : List Item) → are_names def (i ∷ []) ≡ [] → slot_kinds def (i ∷ []) ≡ [] → top_operator g ≡ top_operator f → children_of g ≡ children_of f → own_names g ≡ own_names f
      → HasParts def g more → HasItems f (i ∷ more) → HasItems g more
  literal_more f g i more is none top below own parts h = record {
    number = h.number;
    top = top ∙ h.top;
    op = h.op;
    found = h.found;
    done = h.done ++ i ∷ [];
    all = h.all ∙ sym (append_assoc h.done (i ∷ []) more);
    child_kinds = h.child_kinds;
    trees = subst (λ ts. AreTrees ts h.child_kinds) (sym below) h.trees;
    slots = slots-append h.done (i ∷ []) ∙ ap (λ l. slot_kinds def h.done ++ l) none ∙ append-nil (slot_kinds def h.done) ∙ h.slots;
    names = ap length (names-append h.done (i ∷ []) ∙ ap (λ l. are_names def h.done ++ l) is ∙ append-nil (are_names def h.done)) ∙ h.names ∙ ap length (sym own);
    parts = parts;
  }

  has_items : (f : Fragment) (more : List Item) (kind : Kind) (places left : List Kind) → IsSpine f → Fits def f more kind places left → HasItems f more
  has_items (operator o) more kind places left s (same, op, found, e, k) = record {
    number = o;
    top = refl;
    op = op;
    found = found;
    done = [];
    all = sym e;
    child_kinds = [];
    trees = tt;
    slots = refl;
    names = refl;
    parts = (op, found, e);
  }
  has_items (with_child f t) more kind places left s (k, mid, hf, ht) =
      let h = has_items f (items.Slot k ∷ more) kind places mid s hf in
      record {
        number = h.number;
        top = h.top;
        op = h.op;
        found = h.found;
        done = h.done ++ items.Slot k ∷ [];
        all = h.all ∙ sym (append_assoc h.done (items.Slot k ∷ []) more);
        child_kinds = h.child_kinds ++ k ∷ [];
        trees = trees_snoc (children_of f) h.child_kinds t k h.trees (mid, left, ht);
        slots = slots-append h.done (items.Slot k ∷ []) ∙ ap (λ l. l ++ k ∷ []) h.slots;
        names = ap length (names-append h.done (items.Slot k ∷ []) ∙ append-nil (are_names def h.done)) ∙ h.names;
        parts = (k, h.parts);
      }
  has_items (with_name f n) more kind places left s (inl (a, hf)) =
      let h = has_items f (items.Refers a ∷ more) kind places left s hf in name_more f n (items.Refers a) more refl refl (inl (a, h.parts)) h
  has_items (with_name f n) more kind places left s (inr (a, hf)) =
      let h = has_items f (items.Declares a ∷ more) kind places left s hf in name_more f n (items.Declares a) more refl refl (inr (a, h.parts)) h
  has_items (with_number f n) more kind places left s (hf, small) =
      let h = has_items f (items.Number ∷ more) kind places left s hf in literal_more f (with_number f n) items.Number more refl refl refl refl refl h.parts h
  has_items (with_text f t) more kind places left s (hf, text) =
      let h = has_items f (items.Text ∷ more) kind places left s hf in literal_more f (with_text f t) items.Text more refl refl refl refl refl h.parts h
  has_items (hole p) more kind places left s h = absurd s
  has_items (ending l u) more kind places left s h = absurd s
  has_items (cell l e r) more kind places left s h = absurd s
  has_items anything more kind places left s h = absurd s
  has_items (observed f) more kind places left s h = absurd s

  suit_kinds : (ts : List Fragment) (ks : List Kind) (cs : List (Option SummaryParts)) → AreTrees ts ks → AllByRecursion (λ k. (s : ℕ) × HasKindSort def k s) ks → AreChildrenOf def ts cs → AllByRecursion (IsUsual def) cs → SuitKinds def cs ks
  suit_kinds [] [] [] h sorts are usual = tt
  suit_kinds [] [] (c ∷ cs) h sorts are usual = absurd are
  suit_kinds [] (k ∷ ks) cs h sorts are usual = absurd h
  suit_kinds (t ∷ ts) [] cs h sorts are usual = absurd h
  suit_kinds (t ∷ ts) (k ∷ ks) [] h sorts are usual = absurd are
  suit_kinds (t ∷ ts) (k ∷ ks) (c ∷ cs) h sorts are usual = (suits t c k h.0 sorts.0 are.0 usual.0, suit_kinds ts ks cs h.1 sorts.1 are.1 usual.1)

  -- ---- the parts of an operator

  -- the patterns of the children of an operator with some of its parts
  pub record IsGrown (f : Fragment) (cs : List (Option SummaryParts)) : Type 0 where
    pub children : AreChildrenOf def (children_of f) cs
    pub usual : AllByRecursion (IsUsual def) cs
    pub light : IsLightBelow def f

  pub grown_none : (o : ℕ) → IsGrown (operator o) []
  grown_none o = record { children = tt; usual = tt; light = light_operator def o }

  children_snoc : (ts : List Fragment) (cs : List (Option SummaryParts)) (t : Fragment) (c : Option SummaryParts) → AreChildrenOf def ts cs → IsChildOf def t c → AreChildrenOf def (ts ++ t ∷ []) (cs ++ c ∷ [])
  children_snoc [] [] t c h i = (i, tt)
  children_snoc [] (d ∷ cs) t c h i = absurd h
  children_snoc (u ∷ ts) [] t c h i = absurd h
  children_snoc (u ∷ ts) (d ∷ cs) t c h i = (h.0, children_snoc ts cs t c h.1 i)

  usual_snoc : (cs : List (Option SummaryParts)) (c : Option SummaryParts) → AllByRecursion (IsUsual def) cs → IsUsual def c → AllByRecursion (IsUsual def) (cs ++ c ∷ [])
  usual_snoc [] c h i = (i, tt)
  usual_snoc (d ∷ cs) c h i = (h.0, usual_snoc cs c h.1 i)

  grown_part : (p : SpecimenPart) (f : Fragment) (before after : List (Option SummaryParts)) → AddsPart def p before after → IsGrown f before → IsGrown (part_of p f) after
  grown_part (Sub s) f before after (c, e, own) h = subst (IsGrown (with_child f (tree_of s))) (sym e) (record {
    children = children_snoc (children_of f) before (tree_of s) c h.children own.child;
    usual = usual_snoc before c h.usual own.usual;
    light = light_part def (Sub s) f h.light (λ r same. let one : s ≡ r = cc in subst (λ x. IsLight def (tree_of x)) one own.light);
  })
  grown_part (Name n) f before after e h = record { children = subst (AreChildrenOf def (children_of f)) (sym e) h.children; usual = subst (AllByRecursion (IsUsual def)) (sym e) h.usual; light = h.light }
  grown_part (Number n) f before after e h = record { children = subst (AreChildrenOf def (children_of f)) (sym e) h.children; usual = subst (AllByRecursion (IsUsual def)) (sym e) h.usual; light = h.light }
  grown_part (Text n) f before after e h = record { children = subst (AreChildrenOf def (children_of f)) (sym e) h.children; usual = subst (AllByRecursion (IsUsual def)) (sym e) h.usual; light = h.light }

  pub grown_next : (f : Fragment) (ps : List SpecimenPart) (i : ℕ) (p : SpecimenPart) (before after : List (Option SummaryParts)) → i < length ps → p ≡ get_or ps i p
      → AddsPart def p before after → IsGrown (parts_on f (take i ps)) before → IsGrown (parts_on f (take (i + 1) ps)) after
  grown_next f ps i p before after lt e add h =
      subst (λ g. IsGrown g after) (sym (ap (parts_on f) (take_item ps i p lt e) ∙ parts_snoc f (take i ps) p)) (grown_part p (parts_on f (take i ps)) before after add h)

  wide_at : (ps : List SpecimenPart) (f : Fragment) (i : ℕ) (p : SpecimenPart) → i < length ps → p ≡ get_or ps i p → ((g : Fragment) → IsWideBelow def (part_of p g)) → IsWideBelow def (parts_on f ps)
  wide_at [] f i p lt e h = absurd (omega (arith, lt))
  wide_at (q ∷ ps) f zero p lt e h = wide_parts def ps (part_of q f) (subst (λ x. IsWideBelow def (part_of x f)) e (h f))
  wide_at (q ∷ ps) f (suc i) p lt e h = wide_at ps (part_of q f) i p (omega (arith, lt)) e h

  fault_below : (p : SpecimenPart) (step : ℕ) → IsPartFault def p (faults.Wide step) → (g : Fragment) → IsWideBelow def (part_of p g)
  fault_below (Sub s) step h g = wide_child def g (tree_of s) h
  fault_below (Name n) step h g = absurd h
  fault_below (Number n) step h g = absurd h
  fault_below (Text n) step h g = absurd h

  -- where a step of a part passes the limit, a step of the whole does
  pub part_fault : (o : ℕ) (kept ps : List SpecimenPart) (i : ℕ) (p : SpecimenPart) (fault : EvalFault) → ps ≡ kept → i < length ps → p ≡ get_or ps i p → IsPartFault def p fault → IsPatternFor def (tree_of (Op o kept)) (Err fault)
  part_fault o kept ps i p (faults.Wide step) same lt e h =
      subst (IsWideTree def) (sym (op_tree o kept)) (subst (λ xs. IsWideTree def (parts_on (operator o) xs)) same
      (below_spine def (parts_on (operator o) ps) (spine_parts (operator o) ps tt) (wide_at ps (operator o) i p lt e (fault_below p step h))))
  part_fault o kept ps i p faults.Memory same lt e h = tt

  -- what an operator takes
  pub takes : (sound : IsSound def) (o : ℕ) (ps : List SpecimenPart) (names : List Word) (cs : List (Option SummaryParts)) → IsSomeTree def (tree_of (Op o ps)) → names ≡ part_names ps → IsGrown (parts_on (operator o) ps) cs → TakesChildrenAt def o names cs
  takes sound o ps names cs (kind, (places, left, h)) e grown =
      let f = parts_on (operator o) ps in
      let w = has_items f [] kind places left (spine_parts (operator o) ps tt) (subst (λ g. Fits def g [] kind places left) (op_tree o ps) h) in
      let number : w.number ≡ o = let q : Some w.number ≡ Some o = sym w.top ∙ top_parts (operator o) ps in cc in
      let at = subst (λ n. slice_get def.operators n ≡ Some w.op) number w.found in
      let whole : part_items w.op.items ≡ w.done = w.all ∙ append-nil w.done in
      let slots : w.child_kinds ≡ slot_kinds def w.op.items = sym w.slots ∙ ap (slot_kinds def) (sym whole) ∙ slots-parts w.op.items in (
        w.op,
        at,
        record {
          names_fit = ap length (sym (names-parts w.op.items) ∙ ap (are_names def) whole) ∙ w.names ∙ ap length (own_parts (operator o) ps ∙ sym e);
          kinds_fit = subst (SuitKinds def cs) slots
              (suit_kinds (children_of f) w.child_kinds cs w.trees (subst (AllByRecursion (λ k. (s : ℕ) × HasKindSort def k s)) (sym slots) (slot_sorts w.op.items (operator_sound def sound o w.op at).each_item)) grown.children grown.usual);
        },
      )

  pub is_node : (o : ℕ) (ps : List SpecimenPart) (names : List Word) → IsSomeTree def (tree_of (Op o ps)) → names ≡ part_names ps → IsNode def o names (parts_on (operator o) ps)
  is_node o ps names (kind, (places, left, h)) e = record {
    top = top_parts (operator o) ps;
    parts = (has_items (parts_on (operator o) ps) [] kind places left (spine_parts (operator o) ps tt) (subst (λ g. Fits def g [] kind places left) (op_tree o ps) h)).parts;
    own = own_parts (operator o) ps ∙ sym e;
  }

  pub op_done : (o : ℕ) (kept ps : List SpecimenPart) (spec : Specimen) (names : List Word) (cs : List (Option SummaryParts)) (s : SummaryParts) → spec ≡ Op o kept → ps ≡ kept → IsSomeTree def (tree_of spec) → names ≡ part_names ps
      → IsGrown (parts_on (operator o) ps) cs → ((f : Fragment) → IsNode def o names f → AreChildrenOf def (children_of f) cs → Answers def f (Ok s)) → IsSummary def s → IsPatternOf def (tree_of spec) (Some s)
  op_done o kept ps spec names cs s is same tree e grown answer usual =
      let here : IsSomeTree def (tree_of (Op o ps)) = subst (λ xs. IsSomeTree def (tree_of (Op o xs))) (sym same) (subst (λ x. IsSomeTree def (tree_of x)) is tree) in
      let f = parts_on (operator o) ps in
      let got = answer f (is_node o ps names here e) grown.children in
      let whole : tree_of spec ≡ f = ap tree_of is ∙ ap (λ xs. tree_of (Op o xs)) (sym same) ∙ op_tree o ps in
      subst (λ x. IsPatternOf def x (Some s)) (sym whole) (record {
        child = got.0;
        usual = usual;
        light = light_spine def f (spine_parts (operator o) ps tt) grown.light got.1;
      })

  pub op_fault : (o : ℕ) (kept ps : List SpecimenPart) (spec : Specimen) (names : List Word) (cs : List (Option SummaryParts)) (fault : EvalFault) → spec ≡ Op o kept → ps ≡ kept → IsSomeTree def (tree_of spec) → names ≡ part_names ps
      → IsGrown (parts_on (operator o) ps) cs → ((f : Fragment) → IsNode def o names f → AreChildrenOf def (children_of f) cs → Answers def f (Err fault)) → IsPatternFor def (tree_of spec) (Err fault)
  op_fault o kept ps spec names cs (faults.Wide step) is same tree e grown answer =
      let here : IsSomeTree def (tree_of (Op o ps)) = subst (λ xs. IsSomeTree def (tree_of (Op o xs))) (sym same) (subst (λ x. IsSomeTree def (tree_of x)) is tree) in
      let f = parts_on (operator o) ps in
      let whole : tree_of spec ≡ f = ap tree_of is ∙ ap (λ xs. tree_of (Op o xs)) (sym same) ∙ op_tree o ps in
      subst (IsWideTree def) (sym whole) (own_spine def f step (spine_parts (operator o) ps tt) (answer f (is_node o ps names here e) grown.children))
  op_fault o kept ps spec names cs faults.Memory is same tree e grown answer = tt

  -- ---- the elements of a list

  patterns_snoc : (ss : List Specimen) (cs : List (Option SummaryParts)) (s : Specimen) (c : Option SummaryParts) → ArePatternsOf def ss cs → IsPatternOf def (tree_of s) c → ArePatternsOf def (ss ++ s ∷ []) (cs ++ c ∷ [])
  patterns_snoc [] [] s c h i = (i, tt)
  patterns_snoc [] (d ∷ cs) s c h i = absurd h
  patterns_snoc (t ∷ ss) [] s c h i = absurd h
  patterns_snoc (t ∷ ss) (d ∷ cs) s c h i = (h.0, patterns_snoc ss cs s c h.1 i)

  pub patterns_next : (ss : List Specimen) (i : ℕ) (s : Specimen) (before after : List (Option SummaryParts)) (c : Option SummaryParts) → i < length ss → s ≡ get_or ss i s → IsPatternOf def (tree_of s) c → after ≡ before ++ c ∷ []
      → ArePatternsOf def (take i ss) before → ArePatternsOf def (take (i + 1) ss) after
  patterns_next ss i s before after c lt e own add h =
      subst (λ xs. ArePatternsOf def xs after) (sym (take_item ss i s lt e)) (subst (ArePatternsOf def (take i ss ++ s ∷ [])) (sym add) (patterns_snoc (take i ss) before s c h own))

  suffix : (l : ℕ) (rest : Option SpecimenHole) (ss : List Specimen) → IsSuffix def (cells_on l (end_tree l rest) ss)
  suffix l None [] = tt
  suffix l (Some h) [] = tt
  suffix l rest (s ∷ ss) = tt

  wide_element_at : (l : ℕ) (e : Fragment) (ss : List Specimen) (i : ℕ) (s : Specimen) → i < length ss → s ≡ get_or ss i s → IsWideTree def (tree_of s) → IsWideList def (cells_on l e ss)
  wide_element_at l e [] i s lt is h = absurd (omega (arith, lt))
  wide_element_at l e (t ∷ ss) zero s lt is h = wide_element def l (tree_of t) (cells_on l e ss) (subst (λ x. IsWideTree def (tree_of x)) is h)
  wide_element_at l e (t ∷ ss) (suc i) s lt is h = wide_rest def l (tree_of t) (cells_on l e ss) (wide_element_at l e ss i s (omega (arith, lt)) is h)

  wide_behind : (l : ℕ) (e : Fragment) (n : ℕ) (ss : List Specimen) → IsWideList def (cells_on l e (drop n ss)) → IsWideList def (cells_on l e ss)
  wide_behind l e zero ss h = h
  wide_behind l e (suc n) [] h = h
  wide_behind l e (suc n) (s ∷ ss) h = wide_rest def l (tree_of s) (cells_on l e ss) (wide_behind l e n ss h)

  wide_end_of : (l : ℕ) (e : Fragment) (ss : List Specimen) → IsWideList def e → IsWideList def (cells_on l e ss)
  wide_end_of l e [] h = h
  wide_end_of l e (s ∷ ss) h = wide_rest def l (tree_of s) (cells_on l e ss) (wide_end_of l e ss h)

  -- the specimen is a list
  whole_list : (l : ℕ) (kept es : List Specimen) (rest : Option SpecimenHole) (spec : Specimen) → spec ≡ ListOf l kept rest → es ≡ kept → tree_of spec ≡ cells_on l (end_tree l rest) es
  whole_list l kept es rest spec is same = ap tree_of is ∙ ap (λ xs. tree_of (ListOf l xs rest)) (sym same) ∙ list_tree l es rest

  list_wide : (l : ℕ) (kept es : List Specimen) (rest : Option SpecimenHole) (spec : Specimen) → spec ≡ ListOf l kept rest → es ≡ kept → IsWideList def (cells_on l (end_tree l rest) es) → IsWideTree def (tree_of spec)
  list_wide l kept es rest spec is same h =
      subst (IsWideTree def) (sym (whole_list l kept es rest spec is same)) (wide_list def (cells_on l (end_tree l rest) es) (suffix l rest es) h)

  pub element_fault : (l : ℕ) (kept es : List Specimen) (rest : Option SpecimenHole) (spec : Specimen) (i : ℕ) (s : Specimen) (fault : EvalFault) → spec ≡ ListOf l kept rest → es ≡ kept → i < length es → s ≡ get_or es i s
      → IsPatternFor def (tree_of s) (Err fault) → IsPatternFor def (tree_of spec) (Err fault)
  element_fault l kept es rest spec i s (faults.Wide step) is same lt e h = list_wide l kept es rest spec is same (wide_element_at l (end_tree l rest) es i s lt e h)
  element_fault l kept es rest spec i s faults.Memory is same lt e h = tt

  pub end_fault : (l : ℕ) (kept : List Specimen) (rest : Option SpecimenHole) (spec : Specimen) (fault : EvalFault) → spec ≡ ListOf l kept rest → IsListFor def (end_tree l rest) (Err fault) → IsPatternFor def (tree_of spec) (Err fault)
  end_fault l kept rest spec (faults.Wide step) is h = list_wide l kept kept rest spec is refl (wide_end_of l (end_tree l rest) kept h)
  end_fault l kept rest spec faults.Memory is h = tt

  pub list_fault : (l : ℕ) (kept es : List Specimen) (rest : Option SpecimenHole) (spec : Specimen) (fault : EvalFault) → spec ≡ ListOf l kept rest → es ≡ kept → IsListFor def (cells_on l (end_tree l rest) es) (Err fault) → IsPatternFor def (tree_of spec) (Err fault)
  list_fault l kept es rest spec (faults.Wide step) is same h = list_wide l kept es rest spec is same h
  list_fault l kept es rest spec faults.Memory is same h = tt

  usual_rest : (l : ℕ) (c : Option SummaryParts) → SuitsRest def l c → IsUsual def c
  usual_rest l (Some s) h = h.1
  usual_rest l None h = tt

  pub list_done : (l : ℕ) (kept es : List Specimen) (rest : Option SpecimenHole) (spec : Specimen) (c : Option SummaryParts) → spec ≡ ListOf l kept rest → es ≡ kept → IsListFor def (cells_on l (end_tree l rest) es) (Ok c) → SuitsRest def l c → IsPatternOf def (tree_of spec) c
  list_done l kept es rest spec c is same h fits =
      subst (λ x. IsPatternOf def x c) (sym (whole_list l kept es rest spec is same)) (record {
        child = h.child;
        usual = usual_rest l c fits;
        light = light_list def (cells_on l (end_tree l rest) es) (suffix l rest es) h.light;
      })

  there_by : (l : ℕ) (ss : List Specimen) → IsSomeTree def (cells_on l (ending l false) ss) → l < length def.lists
  there_by l [] (kind, (places, left, (none, is, same, (k, at, more)))) = slice_get_within def.lists l k at
  there_by l (s ∷ ss) (kind, (places, left, (none, is, mid, k, at, he, hr))) = slice_get_within def.lists l k at

  pub end_there : (l : ℕ) (kept : List Specimen) (rest : Option SpecimenHole) (spec : Specimen) → spec ≡ ListOf l kept rest → IsSomeTree def (tree_of spec) → rest ≡ None → l < length def.lists
  end_there l kept rest spec is tree none =
      there_by l kept (subst (λ r. IsSomeTree def (cells_on l (end_tree l r) kept)) none (subst (IsSomeTree def) (whole_list l kept kept rest spec is refl) tree))

  suit_by : (sound : IsSound def) (l : ℕ) (e : Fragment) (ss : List Specimen) (cs : List (Option SummaryParts)) → IsSomeTree def (cells_on l e ss) → ArePatternsOf def ss cs → AllByRecursion (SuitsElement def l) cs
  suit_by sound l e [] [] tree h = tt
  suit_by sound l e [] (c ∷ cs) tree h = absurd h
  suit_by sound l e (s ∷ ss) [] tree h = absurd h
  suit_by sound l e (s ∷ ss) (c ∷ cs) (kind, (places, left, (none, is, mid, k, at, he, hr))) h =
      let whole = list_sound def sound l k at in
      ((k, at, suits (tree_of s) c (kinds.Phylum k.element) (places, mid, he) (whole.element, whole.element_sort) h.0.child h.0.usual), suit_by sound l e ss cs (kinds.List l, (mid, left, hr)) h.1)

  pub suit_elements : (sound : IsSound def) (l : ℕ) (kept es : List Specimen) (rest : Option SpecimenHole) (spec : Specimen) (cs : List (Option SummaryParts)) → spec ≡ ListOf l kept rest → es ≡ kept → IsSomeTree def (tree_of spec) → ArePatternsOf def es cs → AllByRecursion (SuitsElement def l) cs
  suit_elements sound l kept es rest spec cs is same tree h = suit_by sound l (end_tree l rest) es cs (subst (IsSomeTree def) (whole_list l kept es rest spec is same) tree) h

  -- ---- a list from its end

  pub takes_cell : (l : ℕ) (c behind : Option SummaryParts) → SuitsElement def l c → SuitsRest def l behind → TakesCellOf def l c behind
  takes_cell l c (Some s) (list, at, fits) h = record { list = list; found = at; element_fits = fits; rest_fits = h }
  takes_cell l c None (list, at, fits) h = record { list = list; found = at; element_fits = fits; rest_fits = (list.sort.0, (list, at, refl)) }

  record IsAt (ss : List Specimen) (n : ℕ) (c : Option SummaryParts) : Type 0 where
    specimen : Specimen
    split : drop n ss ≡ specimen ∷ drop (suc n) ss
    own : IsPatternOf def (tree_of specimen) c

  at_place : (ss : List Specimen) (cs : List (Option SummaryParts)) (n : ℕ) (c : Option SummaryParts) → ArePatternsOf def ss cs → n < length cs → c ≡ get_or cs n c → IsAt ss n c
  at_place [] [] n c h lt e = absurd (omega (arith, lt))
  at_place [] (d ∷ cs) n c h lt e = absurd h
  at_place (s ∷ ss) [] n c h lt e = absurd h
  at_place (s ∷ ss) (d ∷ cs) zero c h lt e = record { specimen = s; split = refl; own = subst (IsPatternOf def (tree_of s)) (sym e) h.0 }
  at_place (s ∷ ss) (d ∷ cs) (suc n) c h lt e = let a = at_place ss cs n c h.1 (omega (arith, lt)) e in record { specimen = a.specimen; split = a.split; own = a.own }

  patterns_many : (ss : List Specimen) (cs : List (Option SummaryParts)) → ArePatternsOf def ss cs → length ss ≡ length cs
  patterns_many [] [] h = refl
  patterns_many [] (c ∷ cs) h = absurd h
  patterns_many (s ∷ ss) [] h = absurd h
  patterns_many (s ∷ ss) (c ∷ cs) h = ap suc (patterns_many ss cs h.1)

  drop_whole : {X : Type 0} (n : ℕ) (xs : List X) → length xs ≡ n → drop n xs ≡ []
  drop_whole zero [] e = refl
  drop_whole zero (x ∷ xs) e = absurd (omega (arith, e))
  drop_whole (suc n) [] e = refl
  drop_whole (suc n) (x ∷ xs) e = drop_whole n xs (omega (arith, e))

  -- the pattern is that of the list from the place on
  abbrev pub IsFrom : ℕ → List (Option SummaryParts) → Option SummaryParts → ℕ → Option SummaryParts → Type 0
  IsFrom l elements end n behind = (ss : List Specimen) (e : Fragment) → ArePatternsOf def ss elements → IsListPattern def e end → IsListPattern def (cells_on l e (drop n ss)) behind

  pub from_end : (l : ℕ) (elements : List (Option SummaryParts)) (end : Option SummaryParts) (n : ℕ) → n ≡ length elements → IsFrom l elements end n end
  from_end l elements end n e ss f h own = subst (λ xs. IsListPattern def (cells_on l f xs) end) (sym (drop_whole n ss (patterns_many ss elements h ∙ sym e))) own

  pub from_next : (l : ℕ) (elements : List (Option SummaryParts)) (end : Option SummaryParts) (n m : ℕ) (c behind : Option SummaryParts) (s : SummaryParts) → m ≡ suc n → n < length elements → c ≡ get_or elements n c
      → ((e r : Fragment) → IsChildOf def e c → IsChildOf def r behind → Answers def (cell l e r) (Ok s)) → IsFrom l elements end m behind → IsFrom l elements end n (Some s)
  from_next l elements end n m c behind s step lt e answer h ss f are own =
      let a = at_place ss elements n c are lt e in
      let r = subst (λ k. IsListPattern def (cells_on l f (drop k ss)) behind) step (h ss f are own) in
      let got = answer (tree_of a.specimen) (cells_on l f (drop (suc n) ss)) a.own.child r.child in
      subst (λ xs. IsListPattern def (cells_on l f xs) (Some s)) (sym a.split) (record {
        child = got.0;
        light = light_cell def l (tree_of a.specimen) (cells_on l f (drop (suc n) ss)) a.own.light r.light got.1;
      })

  pub from_fault : (l : ℕ) (elements : List (Option SummaryParts)) (end : Option SummaryParts) (n m : ℕ) (c behind : Option SummaryParts) (fault : EvalFault) → m ≡ suc n → n < length elements → c ≡ get_or elements n c
      → ((e r : Fragment) → IsChildOf def e c → IsChildOf def r behind → Answers def (cell l e r) (Err fault)) → IsFrom l elements end m behind
      → (ss : List Specimen) (e : Fragment) → ArePatternsOf def ss elements → IsListPattern def e end → IsListFor def (cells_on l e ss) (Err fault)
  from_fault l elements end n m c behind (faults.Wide k) step lt e answer h ss f are own =
      let a = at_place ss elements n c are lt e in
      let r = subst (λ j. IsListPattern def (cells_on l f (drop j ss)) behind) step (h ss f are own) in
      let got = answer (tree_of a.specimen) (cells_on l f (drop (suc n) ss)) a.own.child r.child in
      wide_behind l f n ss (subst (λ xs. IsWideList def (cells_on l f xs)) (sym a.split) (wide_cell def l k (tree_of a.specimen) (cells_on l f (drop (suc n) ss)) got))
  from_fault l elements end n m c behind faults.Memory step lt e answer h ss f are own = tt

  pub suits_at : (l : ℕ) (cs : List (Option SummaryParts)) (n : ℕ) (c : Option SummaryParts) → AllByRecursion (SuitsElement def l) cs → n < length cs → c ≡ get_or cs n c → SuitsElement def l c
  suits_at l [] n c h lt e = absurd (omega (arith, lt))
  suits_at l (d ∷ cs) zero c h lt e = subst (SuitsElement def l) (sym e) h.0
  suits_at l (d ∷ cs) (suc n) c h lt e = suits_at l cs n c h.1 (omega (arith, lt)) e

  -- a place alone
  pub place_done : (h : SpecimenHole) (spec : Specimen) → spec ≡ Hole h → IsPatternOf def (tree_of spec) None
  place_done h spec is = record {
    child = ap tree_of is;
    usual = tt;
    light = λ path. subst (λ f. AreLight def (steps_of def path f)) (sym (ap tree_of is)) (λ place i p. elim i [ ]);
  }

  -- the end of a list that is finished
  pub end_wide : (l : ℕ) (rest : Option SpecimenHole) (fault : EvalFault) → rest ≡ None → Answers def (ending l false) (Err fault) → IsListFor def (end_tree l rest) (Err fault)
  end_wide l rest (faults.Wide k) none h = subst (λ r. IsWideList def (end_tree l r)) (sym none) (wide_end def l k h)
  end_wide l rest faults.Memory none h = tt

  pub end_done : (l : ℕ) (rest : Option SpecimenHole) (s : SummaryParts) → rest ≡ None → Answers def (ending l false) (Ok s) → IsListPattern def (end_tree l rest) (Some s)
  end_done l rest s none h = subst (λ r. IsListPattern def (end_tree l r) (Some s)) (sym none) (record { child = h.0; light = light_end def l h.1 })

  -- a list that goes on at a hole place
  pub open_done : (l : ℕ) (rest : Option SpecimenHole) (h : SpecimenHole) → rest ≡ Some h → IsListPattern def (end_tree l rest) None
  open_done l rest h some = subst (λ r. IsListPattern def (end_tree l r) None) (sym some) (record { child = refl; light = light_open def })

  -- ---- after the last part and the last element

  pub grown_all : (o : ℕ) (kept ps : List SpecimenPart) (i : ℕ) (before after : List (Option SummaryParts)) → ps ≡ kept → length ps ≤ i → after ≡ before → IsGrown (parts_on (operator o) (take i ps)) before → IsGrown (parts_on (operator o) kept) after
  grown_all o kept ps i before after same le e h =
      subst (IsGrown (parts_on (operator o) kept)) (sym e) (subst (λ xs. IsGrown (parts_on (operator o) xs) before) (take_all i ps le ∙ same) h)

  pub patterns_all : (kept es : List Specimen) (i : ℕ) (before after : List (Option SummaryParts)) → es ≡ kept → length es ≤ i → after ≡ before → ArePatternsOf def (take i es) before → ArePatternsOf def kept after
  patterns_all kept es i before after same le e h =
      subst (ArePatternsOf def kept) (sym e) (subst (λ xs. ArePatternsOf def xs before) (take_all i es le ∙ same) h)
