-- Each tree of a kind has a summary, also where the value of one of its nodes is observed.
use Rattle.std.proofs.Common.{◌≡◌, inl, inr, ℕ, ◌+◌, Bool, List, [], ◌∷◌, ◌++◌, length, Some, slice_get, refl, sym, ◌∙◌, ap, ap₂, subst, append_assoc, append-nil, length-append, arith}
use Rattle.std.specs.List.{AllByRecursion}
use Rattle.std.proofs.lemmas.List.{map-append}
use Rattle.psg_grammar.specs.declared.types.Kind.{Kind}
use Rattle.psg_grammar.specs.declared.types.Kind.TheVariants as kinds
use Rattle.psg_grammar.specs.declared.types.Item.{Item}
use Rattle.psg_grammar.specs.declared.types.Item.TheVariants as items
use Rattle.psg_grammar.specs.declared.types.Operator.{Operator}
use Rattle.psg_grammar.specs.declared.types.Definition.{Definition}
use Rattle.psg_grammar.specs.Fragments.{anything, cell, children_of, ending, Fragment, hole, observed, operator, top_operator, with_child, with_name, with_number, with_text}
use Rattle.psg_grammar.specs.Lookups.{part_items}
use Rattle.psg_grammar.specs.Sound.{IsSound}
use Rattle.psg_grammar.specs.WellFormed.{Fits, IsPlain}
use Rattle.psg_eval.specs.declared.summary.SummaryParts.{SummaryParts}
use Rattle.psg_eval.specs.Stages.{kinds_of}
use Rattle.psg_eval.specs.Summaries.{AllSummaries, are_names, IsSummary, IsSummaryOf, slot_kinds}
use Rattle.psg_eval.specs.Trees.{HasParts, own_names, seen_in}
use Rattle.psg_session.proofs.ObservedTold.{observed_told}
use Rattle.psg_session.proofs.SlotItems.{names-append, names-parts, slots-append, slots-parts}
use Rattle.psg_session.proofs.TreesTold.{cell_told, end_told, hole_told, operator_told, Told}

-- an operator with some of its parts
abbrev pub IsSpine : Fragment → Type 0
IsSpine (operator o) = Unit {0}
IsSpine (with_child f t) = IsSpine f
IsSpine (with_name f n) = IsSpine f
IsSpine (with_number f n) = IsSpine f
IsSpine (with_text f t) = IsSpine f
IsSpine (hole p) = ⊥
IsSpine (ending l u) = ⊥
IsSpine (cell l e r) = ⊥
IsSpine anything = ⊥
IsSpine (observed f) = ⊥

-- in an observed node nothing else is observed
abbrev pub IsSimple : Fragment → Type 0
IsSimple (operator o) = Unit {0}
IsSimple (with_child f t) = IsSimple f × IsSimple t
IsSimple (with_name f n) = IsSimple f
IsSimple (with_number f n) = IsSimple f
IsSimple (with_text f t) = IsSimple f
IsSimple (hole p) = Unit {0}
IsSimple (ending l u) = Unit {0}
IsSimple (cell l e r) = IsSimple e × IsSimple r
IsSimple anything = Unit {0}
IsSimple (observed f) = IsPlain f × IsSimple f

pub plain_simple : (f : Fragment) → IsPlain f → IsSimple f
plain_simple (operator o) h = tt
plain_simple (with_child f t) h = (plain_simple f h.0, plain_simple t h.1)
plain_simple (with_name f n) h = plain_simple f h
plain_simple (with_number f n) h = plain_simple f h
plain_simple (with_text f t) h = plain_simple f h
plain_simple (hole p) h = tt
plain_simple (ending l u) h = tt
plain_simple (cell l e r) h = (plain_simple e h.0, plain_simple r h.1)
plain_simple anything h = tt
plain_simple (observed f) h = absurd h

module _ (def : Definition) where
  -- a plain tree has no observed values
  pub silent : (f : Fragment) (more : List Item) (kind : Kind) → Fits def f more kind → IsPlain f → seen_in f ≡ 0
  silent (operator o) more kind h p = refl
  silent (with_child f t) more kind (k, hf, ht) p =
      let a = silent f (items.Slot k ∷ more) kind hf p.0 in
      let b = silent t [] k ht p.1 in omega (arith, a, b)
  silent (with_name f n) more kind (inl (s, h), name) p = silent f (items.Refers s ∷ more) kind h p
  silent (with_name f n) more kind (inr (s, h), name) p = silent f (items.Declares s ∷ more) kind h p
  silent (with_number f n) more kind (h, small) p = silent f (items.Number ∷ more) kind h p
  silent (with_text f t) more kind (h, text) p = silent f (items.Text ∷ more) kind h p
  silent (hole x) more kind h p = refl
  silent (ending l u) more kind h p = refl
  silent (cell l e r) more kind (none, is, k, found, he, hr, u) p =
      let a = silent e [] (kinds.Phylum k.element) he p.0 in
      let b = silent r [] (kinds.List l) hr p.1 in omega (arith, a, b)
  silent anything more kind h p = absurd h
  silent (observed f) more kind h p = absurd p

  -- ---- the parts of an operator

  pub record Spine (f : Fragment) (more : List Item) (kind : Kind) : Type 0 where
    pub number : ℕ
    pub top : top_operator f ≡ Some number
    pub op : Operator
    pub found : slice_get def.operators number ≡ Some op
    pub done : List Item
    pub all : part_items op.items ≡ done ++ more
    pub kind_is : kind ≡ kinds.Phylum op.phylum
    pub parts : HasParts def f more
    pub names : length (are_names def done) ≡ length (own_names f)
    pub summaries : List SummaryParts
    pub are : AllSummaries def (children_of f) summaries
    pub usual : AllByRecursion (IsSummary def) summaries
    pub slots : kinds_of summaries ≡ slot_kinds def done

  all-push : (fs : List Fragment) (ss : List SummaryParts) (f : Fragment) (s : SummaryParts) → AllSummaries def fs ss
      → IsSummaryOf def f s
      → AllSummaries def (fs ++ f ∷ []) (ss ++ s ∷ [])
  all-push [] [] f s h is = (is, tt)
  all-push [] (r ∷ ss) f s h is = absurd h
  all-push (g ∷ fs) [] f s h is = absurd h
  all-push (g ∷ fs) (r ∷ ss) f s h is = (h.0, all-push fs ss f s h.1 is)

  usual-push : (ss : List SummaryParts) (s : SummaryParts) → AllByRecursion (IsSummary def) ss → IsSummary def s
      → AllByRecursion (IsSummary def) (ss ++ s ∷ [])
  usual-push [] s h is = (is, tt)
  usual-push (r ∷ ss) s h is = (h.0, usual-push ss s h.1 is)

  module _ (sound : IsSound def) where
    with_a_child : (f t : Fragment) (more : List Item) (kind k : Kind) → Spine f (items.Slot k ∷ more) kind
        → Told def sound t k
        → Spine (with_child f t) more kind
    with_a_child f t more kind k h told = record {
      number = h.number;
      top = h.top;
      op = h.op;
      found = h.found;
      done = h.done ++ items.Slot k ∷ [];
      all = h.all ∙ sym (append_assoc h.done (items.Slot k ∷ []) more);
      kind_is = h.kind_is;
      parts = (k, h.parts);
      names = ap length (names-append def h.done (items.Slot k ∷ []) ∙ append-nil (are_names def h.done)) ∙ h.names;
      summaries = h.summaries ++ told.known ∷ [];
      are = all-push (children_of f) h.summaries t told.known h.are told.of;
      usual = usual-push h.summaries told.known h.usual told.usual;
      slots = map-append (λ (s : SummaryParts). s.kind) h.summaries (told.known ∷ [])
          ∙ ap₂ (λ xs x. xs ++ x ∷ []) h.slots told.kind_is ∙ sym (slots-append def h.done (items.Slot k ∷ []));
    }

    -- a part that is no child; a name adds one to the names
    with_a_leaf : (f g : Fragment) (more : List Item) (kind : Kind) (i : Item) → Spine f (i ∷ more) kind
        → (top_operator g ≡ top_operator f) → HasParts def g more → children_of g ≡ children_of f
        → slot_kinds def (i ∷ []) ≡ [] → length (own_names g) ≡ length (own_names f) + length (are_names def (i ∷ []))
        → Spine g more kind
    with_a_leaf f g more kind i h top parts same none longer = record {
      number = h.number;
      top = top ∙ h.top;
      op = h.op;
      found = h.found;
      done = h.done ++ i ∷ [];
      all = h.all ∙ sym (append_assoc h.done (i ∷ []) more);
      kind_is = h.kind_is;
      parts = parts;
      names =
          let a = ap length (names-append def h.done (i ∷ [])) in
          let b = length-append (are_names def h.done) (are_names def (i ∷ [])) in
          let c = h.names in omega (arith, a, b, c, longer);
      summaries = h.summaries;
      are = subst (λ fs. AllSummaries def fs h.summaries) (sym same) h.are;
      usual = h.usual;
      slots = h.slots ∙ sym (slots-append def h.done (i ∷ []) ∙ ap (λ l. slot_kinds def h.done ++ l) none
          ∙ append-nil (slot_kinds def h.done));
    }

    spine_told : (f : Fragment) (kind : Kind) → Spine f [] kind → Told def sound f kind
    spine_told f kind h =
        let whole : part_items h.op.items ≡ h.done = h.all ∙ append-nil h.done in
        subst (Told def sound f) (sym h.kind_is)
        (operator_told def sound h.number h.op h.found (own_names f) f (record {
          top = h.top;
          parts = h.parts;
          own =
              refl;
        })
        (ap length (sym (names-parts def h.op.items) ∙ ap (are_names def) whole) ∙ h.names)
        h.summaries h.are h.usual
        (h.slots ∙ sym (ap (slot_kinds def) whole) ∙ slots-parts def h.op.items))

    -- ---- all trees

    record Both (f : Fragment) : Type 0 where
      told : (kind : Kind) → Fits def f [] kind → Told def sound f kind
      spine : (more : List Item) (kind : Kind) → IsSpine f → Fits def f more kind → Spine f more kind

    by_spine : (f : Fragment) → IsSpine f → ((more : List Item) (kind : Kind) → IsSpine f → Fits def f more kind
        → Spine f more kind) → Both f
    by_spine f is spine = record { told = λ kind h. spine_told f kind (spine [] kind is h); spine = spine }

    -- what a part follows is an operator
    pub spine_of : (f : Fragment) (i : Item) (more : List Item) (kind : Kind) → Fits def f (i ∷ more) kind → IsSpine f
    spine_of (hole p) i more kind h = absurd (let e : i ∷ more ≡ [] = h.0 in cc)
    spine_of (ending l u) i more kind h = absurd (let e : i ∷ more ≡ [] = h.0 in cc)
    spine_of (cell l e r) i more kind h = absurd (let d : i ∷ more ≡ [] = h.0 in cc)
    spine_of (operator o) i more kind h = tt
    spine_of (with_child f t) i more kind (k, hf, ht) = spine_of f (items.Slot k) (i ∷ more) kind hf
    spine_of (with_name f n) i more kind (inl (s, h), name) = spine_of f (items.Refers s) (i ∷ more) kind h
    spine_of (with_name f n) i more kind (inr (s, h), name) = spine_of f (items.Declares s) (i ∷ more) kind h
    spine_of (with_number f n) i more kind (h, small) = spine_of f items.Number (i ∷ more) kind h
    spine_of (with_text f t) i more kind (h, text) = spine_of f items.Text (i ∷ more) kind h
    spine_of anything i more kind h = absurd h
    spine_of (observed f) i more kind h = absurd (let e : i ∷ more ≡ [] = h.0 in cc)

    child_spine : (f t : Fragment) → Both f → Both t → (more : List Item) (kind : Kind)
        → Fits def (with_child f t) more kind → Spine (with_child f t) more kind
    child_spine f t one two more kind (k, hf, ht) =
        with_a_child f t more kind k (one.spine (items.Slot k ∷ more) kind (spine_of f (items.Slot k) more kind hf) hf)
        (two.told k ht)

    name_spine : (f : Fragment) (n : List ℕ) → Both f → (more : List Item) (kind : Kind)
        → Fits def (with_name f n) more kind → Spine (with_name f n) more kind
    name_spine f n one more kind (inl (s, h), name) =
        let part = one.spine (items.Refers s ∷ more) kind (spine_of f (items.Refers s) more kind h) h in
        with_a_leaf f (with_name f n) more kind (items.Refers s) part refl (inl (s, part.parts)) refl refl
        (length-append (own_names f) (n ∷ []))
    name_spine f n one more kind (inr (s, h), name) =
        let part = one.spine (items.Declares s ∷ more) kind (spine_of f (items.Declares s) more kind h) h in
        with_a_leaf f (with_name f n) more kind (items.Declares s) part refl (inr (s, part.parts)) refl refl
        (length-append (own_names f) (n ∷ []))

    number_spine : (f : Fragment) (n : ℕ) → Both f → (more : List Item) (kind : Kind)
        → Fits def (with_number f n) more kind → Spine (with_number f n) more kind
    number_spine f n one more kind (h, small) =
        let part = one.spine (items.Number ∷ more) kind (spine_of f items.Number more kind h) h in
        with_a_leaf f (with_number f n) more kind items.Number part refl part.parts refl refl
        (let z : length (own_names f) ≡ length (own_names f) + 0 = omega arith in z)

    text_spine : (f : Fragment) (n : List ℕ) → Both f → (more : List Item) (kind : Kind)
        → Fits def (with_text f n) more kind → Spine (with_text f n) more kind
    text_spine f n one more kind (h, text) =
        let part = one.spine (items.Text ∷ more) kind (spine_of f items.Text more kind h) h in
        with_a_leaf f (with_text f n) more kind items.Text part refl part.parts refl refl
        (let z : length (own_names f) ≡ length (own_names f) + 0 = omega arith in z)

    operator_spine : (o : ℕ) (more : List Item) (kind : Kind) → Fits def (operator o) more kind
        → Spine (operator o) more kind
    operator_spine o more kind (op, found, e, is) = record {
      number = o;
      top = refl;
      op = op;
      found = found;
      done = [];
      all = sym e;
      kind_is = is;
      parts = (op, found, e);
      names = refl;
      summaries = [];
      are = tt;
      usual = tt;
      slots = refl;
    }

    -- what is known of a tree that stands alone, and is no part of an operator
    alone : (f : Fragment) → (IsSpine f → ⊥) → ((kind : Kind) → Fits def f [] kind → Told def sound f kind) → Both f
    alone f never told = record { told = told; spine = λ more kind is h. absurd (never is) }

    hole_kind : (p : ℕ) (kind : Kind) → Fits def (hole p) [] kind → Told def sound (hole p) kind
    hole_kind p kind (none, is, there, still) = subst (Told def sound (hole p)) (sym is) (hole_told def sound p there)

    end_kind : (l : ℕ) (u : Bool) (kind : Kind) → Fits def (ending l u) [] kind → Told def sound (ending l u) kind
    end_kind l u kind (none, is, (list, found, may)) = subst (Told def sound (ending l u)) (sym is)
        (end_told def sound l u list found)

    cell_kind : (l : ℕ) (e r : Fragment) → Both e → Both r → (kind : Kind) → Fits def (cell l e r) [] kind
        → Told def sound (cell l e r) kind
    cell_kind l e r one two kind (none, is, k, found, he, hr, u) =
        subst (Told def sound (cell l e r)) (sym is)
        (cell_told def sound l e r k found (one.told (kinds.Phylum k.element) he) (two.told (kinds.List l) hr))

    observed_kind : (f : Fragment) → IsPlain f → Both f → (kind : Kind) → Fits def (observed f) [] kind
        → Told def sound (observed f) kind
    observed_kind f plain one kind (none, h) =
        observed_told def sound f kind (one.told kind h) (silent f [] kind h plain)

    all_told : (f : Fragment) → IsSimple f → Both f
    all_told (operator o) s = by_spine (operator o) tt (λ more kind is h. operator_spine o more kind h)
    all_told (with_child f t) s =
        let one = all_told f s.0 in
        let two = all_told t s.1 in
        record {
          told = λ kind h. spine_told (with_child f t) kind (child_spine f t one two [] kind h);
          spine = λ more kind is h. child_spine f t one two more kind h;
        }
    all_told (with_name f n) s =
        let one = all_told f s in
        record {
          told = λ kind h. spine_told (with_name f n) kind (name_spine f n one [] kind h);
          spine = λ more kind is h. name_spine f n one more kind h;
        }
    all_told (with_number f n) s =
        let one = all_told f s in
        record {
          told = λ kind h. spine_told (with_number f n) kind (number_spine f n one [] kind h);
          spine = λ more kind is h. number_spine f n one more kind h;
        }
    all_told (with_text f t) s =
        let one = all_told f s in
        record {
          told = λ kind h. spine_told (with_text f t) kind (text_spine f t one [] kind h);
          spine = λ more kind is h. text_spine f t one more kind h;
        }
    all_told (hole p) s = alone (hole p) (λ h. h) (hole_kind p)
    all_told (ending l u) s = alone (ending l u) (λ h. h) (end_kind l u)
    all_told (cell l e r) s = alone (cell l e r) (λ h. h) (cell_kind l e r (all_told e s.0) (all_told r s.1))
    all_told anything s = alone anything (λ h. h) (λ kind h. absurd h)
    all_told (observed f) s = alone (observed f) (λ h. h) (observed_kind f s.0 (all_told f s.1))

    pub tree_told : (f : Fragment) (kind : Kind) → Fits def f [] kind → IsSimple f → Told def sound f kind
    tree_told f kind h simple = let both = all_told f simple in both.told kind h

    -- an operator with all its parts
    pub whole_spine : (f : Fragment) (kind : Kind) → IsSpine f → IsSimple f → Fits def f [] kind → Spine f [] kind
    whole_spine f kind is simple h = let both = all_told f simple in both.spine [] kind is h
