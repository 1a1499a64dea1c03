-- What a node's summary is made of: names and children of the kinds of its items.
use Rattle.std.proofs.Common.{◌≡◌, inl, inr, ℕ, ◌+◌, List, [], ◌∷◌, ◌++◌, map, length, slice_get, Some, refl, sym, ◌∙◌, ap, ap₂, subst, append_assoc, append-nil}
use Rattle.std.specs.List.{AllByRecursion}
use Rattle.std.proofs.Common.{length-append}
use Rattle.std.proofs.lemmas.Option.{same_Some}
use Rattle.psg_grammar.specs.declared.types.Kind.{Kind}
use Rattle.psg_grammar.specs.declared.types.Kind.TheVariants as kinds
use Rattle.psg_grammar.specs.declared.types.Item.{Item}
use Rattle.psg_grammar.specs.declared.types.Item.TheVariants as items
use Rattle.psg_grammar.specs.declared.types.Operator.{Operator}
use Rattle.psg_grammar.specs.declared.types.Definition.{Definition}
use Rattle.psg_grammar.specs.Fragments.{Fragment, hole, ending, cell, operator, with_child, with_name, with_number, with_text, anything, observed, children_of, top_operator}
use Rattle.psg_grammar.specs.Lookups.{part_items}
use Rattle.psg_grammar.specs.WellFormed.{Fits, IsPlain}
use Rattle.psg_tree.specs.declared.tree.Part.{Part}
use Rattle.psg_tree.specs.declared.tree.Part.TheVariants.{Sub, Name as Named, Number, Text}
use Rattle.psg_tree.specs.Shapes.{with_part, with_parts}
use Rattle.psg_eval.specs.declared.summary.SummaryParts.{SummaryParts}
use Rattle.psg_eval.specs.Trees.{HasParts, IsNode, own_names}
use Rattle.psg_grammar.specs.Kinds.{IsOfKind}
use Rattle.psg_eval.specs.Summaries.{AllSummaries, IsSummary, IsSummaryOf, slot_kinds, are_names, TakesAt}
use Rattle.psg_cache.specs.Walks.{names_in}
use Rattle.psg_cache.proofs.RealTrees.{IsSpine}

-- the names of a node with parts
own_part : (f : Fragment) (p : Part) → own_names (with_part f p) ≡ own_names f ++ names_in (p ∷ [])
own_part f (Sub t) = sym (append-nil (own_names f))
own_part f (Named n) = refl
own_part f (Number n) = sym (append-nil (own_names f))
own_part f (Text t) = sym (append-nil (own_names f))

names-cons : (p : Part) (ps : List Part) → names_in (p ∷ []) ++ names_in ps ≡ names_in (p ∷ ps)
names-cons (Sub t) ps = refl
names-cons (Named n) ps = refl
names-cons (Number n) ps = refl
names-cons (Text t) ps = refl

pub own_parts : (f : Fragment) (ps : List Part) → own_names (with_parts f ps) ≡ own_names f ++ names_in ps
own_parts f [] = sym (append-nil (own_names f))
own_parts f (p ∷ ps) =
    own_parts (with_part f p) ps ∙ ap (λ x. x ++ names_in ps) (own_part f p)
    ∙ append_assoc (own_names f) (names_in (p ∷ [])) (names_in ps) ∙ ap (λ x. own_names f ++ x) (names-cons p ps)

top_part : (f : Fragment) (p : Part) → top_operator (with_part f p) ≡ top_operator f
top_part f (Sub t) = refl
top_part f (Named n) = refl
top_part f (Number n) = refl
top_part f (Text t) = refl

pub top_parts : (f : Fragment) (ps : List Part) → top_operator (with_parts f ps) ≡ top_operator f
top_parts f [] = refl
top_parts f (p ∷ ps) = top_parts (with_part f p) ps ∙ top_part f p

spine_part : (f : Fragment) (p : Part) → IsSpine f → IsSpine (with_part f p)
spine_part f (Sub t) s = s
spine_part f (Named n) s = s
spine_part f (Number n) s = s
spine_part f (Text t) s = s

pub spine_parts : (f : Fragment) (ps : List Part) → IsSpine f → IsSpine (with_parts f ps)
spine_parts f [] s = s
spine_parts f (p ∷ ps) s = spine_parts (with_part f p) ps (spine_part f p s)

module _ (def : Definition) where
  pub kind_fits : (f : Fragment) (more : List Item) (kind : Kind) → Fits def f more kind → IsPlain f
      → IsOfKind def f kind
  kind_fits (hole p) more kind h plain = h.1
  kind_fits (ending l u) more kind h plain = h.1
  kind_fits (cell l e r) more kind h plain = h.1
  kind_fits (operator o) more kind (op, found, e, k) plain = (op, found, k)
  kind_fits (with_child f t) more kind (k, hf, ht) plain = kind_fits f (items.Slot k ∷ more) kind hf plain.0
  kind_fits (with_name f n) more kind (inl (s, h), name) plain = kind_fits f (items.Refers s ∷ more) kind h plain
  kind_fits (with_name f n) more kind (inr (s, h), name) plain = kind_fits f (items.Declares s ∷ more) kind h plain
  kind_fits (with_number f n) more kind (h, small) plain = kind_fits f (items.Number ∷ more) kind h plain
  kind_fits (with_text f t) more kind (h, text) plain = kind_fits f (items.Text ∷ more) kind h plain
  kind_fits anything more kind h plain = absurd h
  kind_fits (observed f) more kind h plain = absurd plain

  pub one_kind : (f : Fragment) (j k : Kind) → IsOfKind def f j → IsOfKind def f k → j ≡ k
  one_kind (hole p) j k h i = h ∙ sym i
  one_kind (ending l u) j k h i = h ∙ sym i
  one_kind (cell l e r) j k h i = h ∙ sym i
  one_kind (operator o) j k (a, at, e) (b, there, f) =
      e ∙ ap (λ (z : Operator). kinds.Phylum z.phylum) (same_Some a b (sym at ∙ there)) ∙ sym f
  one_kind (with_child f t) j k h i = one_kind f j k h i
  one_kind (with_name f n) j k h i = one_kind f j k h i
  one_kind (with_number f n) j k h i = one_kind f j k h i
  one_kind (with_text f t) j k h i = one_kind f j k h i
  one_kind anything j k h i = absurd h
  one_kind (observed f) j k h i = one_kind f j k h i

  -- the kind of a summary is the one by which the tree is formed
  pub kind_known : (f : Fragment) (kind : Kind) (s : SummaryParts) → Fits def f [] kind → IsPlain f → IsSummaryOf def f s
      → s.kind ≡ kind
  kind_known f kind s h plain summary = one_kind f s.kind kind summary.kind (kind_fits f [] kind h plain)

  has_parts : (f : Fragment) (more : List Item) (kind : Kind) → Fits def f more kind → IsPlain f → IsSpine f
      → HasParts def f more
  has_parts (operator o) more kind (op, found, e, k) plain s = (op, found, e)
  has_parts (with_child f t) more kind (k, hf, ht) plain s =
      (k, has_parts f (items.Slot k ∷ more) kind hf plain.0 s)
  has_parts (with_name f n) more kind (inl (a, h), name) plain s =
      inl (a, has_parts f (items.Refers a ∷ more) kind h plain s)
  has_parts (with_name f n) more kind (inr (a, h), name) plain s =
      inr (a, has_parts f (items.Declares a ∷ more) kind h plain s)
  has_parts (with_number f n) more kind (h, small) plain s = has_parts f (items.Number ∷ more) kind h plain s
  has_parts (with_text f t) more kind (h, text) plain s = has_parts f (items.Text ∷ more) kind h plain s
  has_parts (hole p) more kind h plain s = absurd s
  has_parts (ending l u) more kind h plain s = absurd s
  has_parts (cell l e r) more kind h plain s = absurd s
  has_parts anything more kind h plain s = absurd s
  has_parts (observed f) more kind h plain s = absurd s

  -- ---- slots and names among the items

  slots-append : (xs ys : List Item) → slot_kinds def (xs ++ ys) ≡ slot_kinds def xs ++ slot_kinds def ys
  slots-append [] ys = refl
  slots-append (items.Slot k ∷ xs) ys = ap (λ l. k ∷ l) (slots-append xs ys)
  slots-append (items.Word w ∷ xs) ys = slots-append xs ys
  slots-append (items.Refers s ∷ xs) ys = slots-append xs ys
  slots-append (items.Declares s ∷ xs) ys = slots-append xs ys
  slots-append (items.Number ∷ xs) ys = slots-append xs ys
  slots-append (items.Text ∷ xs) ys = slots-append xs ys
  slots-append (items.Space ∷ xs) ys = slots-append xs ys
  slots-append (items.Tight ∷ xs) ys = slots-append xs ys
  slots-append (items.Line ∷ xs) ys = slots-append xs ys
  slots-append (items.In ∷ xs) ys = slots-append xs ys
  slots-append (items.Out ∷ xs) ys = slots-append xs ys

  slots-parts : (xs : List Item) → slot_kinds def (part_items xs) ≡ slot_kinds def xs
  slots-parts [] = refl
  slots-parts (items.Slot k ∷ xs) = ap (λ l. k ∷ l) (slots-parts xs)
  slots-parts (items.Word w ∷ xs) = slots-parts xs
  slots-parts (items.Refers s ∷ xs) = slots-parts xs
  slots-parts (items.Declares s ∷ xs) = slots-parts xs
  slots-parts (items.Number ∷ xs) = slots-parts xs
  slots-parts (items.Text ∷ xs) = slots-parts xs
  slots-parts (items.Space ∷ xs) = slots-parts xs
  slots-parts (items.Tight ∷ xs) = slots-parts xs
  slots-parts (items.Line ∷ xs) = slots-parts xs
  slots-parts (items.In ∷ xs) = slots-parts xs
  slots-parts (items.Out ∷ xs) = slots-parts xs

  names-append : (xs ys : List Item) → are_names def (xs ++ ys) ≡ are_names def xs ++ are_names def ys
  names-append [] ys = refl
  names-append (items.Slot k ∷ xs) ys = names-append xs ys
  names-append (items.Word w ∷ xs) ys = names-append xs ys
  names-append (items.Refers s ∷ xs) ys = ap (λ l. items.Refers s ∷ l) (names-append xs ys)
  names-append (items.Declares s ∷ xs) ys = ap (λ l. items.Declares s ∷ l) (names-append xs ys)
  names-append (items.Number ∷ xs) ys = names-append xs ys
  names-append (items.Text ∷ xs) ys = names-append xs ys
  names-append (items.Space ∷ xs) ys = names-append xs ys
  names-append (items.Tight ∷ xs) ys = names-append xs ys
  names-append (items.Line ∷ xs) ys = names-append xs ys
  names-append (items.In ∷ xs) ys = names-append xs ys
  names-append (items.Out ∷ xs) ys = names-append xs ys

  names-parts : (xs : List Item) → are_names def (part_items xs) ≡ are_names def xs
  names-parts [] = refl
  names-parts (items.Slot k ∷ xs) = names-parts xs
  names-parts (items.Word w ∷ xs) = names-parts xs
  names-parts (items.Refers s ∷ xs) = ap (λ l. items.Refers s ∷ l) (names-parts xs)
  names-parts (items.Declares s ∷ xs) = ap (λ l. items.Declares s ∷ l) (names-parts xs)
  names-parts (items.Number ∷ xs) = names-parts xs
  names-parts (items.Text ∷ xs) = names-parts xs
  names-parts (items.Space ∷ xs) = names-parts xs
  names-parts (items.Tight ∷ xs) = names-parts xs
  names-parts (items.Line ∷ xs) = names-parts xs
  names-parts (items.In ∷ xs) = names-parts xs
  names-parts (items.Out ∷ xs) = names-parts xs

  -- the children are trees of these kinds
  abbrev AreOfKinds : List Fragment → List Kind → Type 0
  AreOfKinds [] [] = Unit {0}
  AreOfKinds [] (k ∷ ks) = ⊥
  AreOfKinds (c ∷ cs) [] = ⊥
  AreOfKinds (c ∷ cs) (k ∷ ks) = Fits def c [] k × IsPlain c × AreOfKinds cs ks

  kinds-push : (cs : List Fragment) (ks : List Kind) (c : Fragment) (k : Kind) → AreOfKinds cs ks → Fits def c [] k
      → IsPlain c → AreOfKinds (cs ++ c ∷ []) (ks ++ k ∷ [])
  kinds-push [] [] c k h f p = (f, p, tt)
  kinds-push [] (j ∷ ks) c k h f p = absurd h
  kinds-push (d ∷ cs) [] c k h f p = absurd h
  kinds-push (d ∷ cs) (j ∷ ks) c k h f p = (h.0, h.1, kinds-push cs ks c k h.2 f p)

  kinds_known : (cs : List Fragment) (ks : List Kind) (summaries : List SummaryParts) → AreOfKinds cs ks
      → AllSummaries def cs summaries → map (λ (s : SummaryParts). s.kind) summaries ≡ ks
  kinds_known [] [] [] h s = refl
  kinds_known [] [] (x ∷ xs) h s = absurd s
  kinds_known [] (k ∷ ks) xs h s = absurd h
  kinds_known (c ∷ cs) [] xs h s = absurd h
  kinds_known (c ∷ cs) (k ∷ ks) [] h s = absurd s
  kinds_known (c ∷ cs) (k ∷ ks) (x ∷ xs) h s =
      ap₂ (λ a b. a ∷ b) (kind_known c k x h.0 h.1 s.0) (kinds_known cs ks xs h.2 s.1)

  -- the items whose parts are there
  record HasItems (f : Fragment) (more : List Item) : Type 0 where
    number : ℕ
    top : top_operator f ≡ Some number
    op : Operator
    found : slice_get def.operators number ≡ Some op
    done : List Item
    all : part_items op.items ≡ done ++ more
    child_kinds : List Kind
    children : AreOfKinds (children_of f) child_kinds
    slots : slot_kinds def done ≡ child_kinds
    names : length (are_names def done) ≡ length (own_names f)

  has_items : (f : Fragment) (more : List Item) (kind : Kind) → Fits def f more kind → IsPlain f → IsSpine f
      → HasItems f more
  has_items (operator o) more kind (op, found, e, k) plain s =
      record {
        number =
            o;
        top = refl;
        op = op;
        found = found;
        done = [];
        all = sym e;
        child_kinds = [];
        children = tt;
        slots =
            refl;
        names = refl;
      }
  has_items (with_child f t) more kind (k, hf, ht) plain s =
      let h = has_items f (items.Slot k ∷ more) kind hf plain.0 s in
      record {
        number = h.number;
        top = h.top;
        op = h.op;
        found = h.found;
        done = h.done ++ items.Slot k ∷ [];
        all = h.all ∙ sym (append_assoc h.done (items.Slot k ∷ []) more);
        child_kinds = h.child_kinds ++ k ∷ [];
        children = kinds-push (children_of f) h.child_kinds t k h.children ht plain.1;
        slots = slots-append h.done (items.Slot k ∷ []) ∙ ap (λ l. l ++ k ∷ []) h.slots;
        names = ap length (names-append h.done (items.Slot k ∷ []) ∙ append-nil (are_names def h.done)) ∙ h.names;
      }
  has_items (with_name f n) more kind (inl (a, hf), name) plain s =
      let h = has_items f (items.Refers a ∷ more) kind hf plain s in
      let longer : length (own_names f ++ n ∷ []) ≡ length (own_names f) + 1 = length-append (own_names f) (n ∷ []) in
      let with_one : length (are_names def h.done ++ items.Refers a ∷ []) ≡ length (are_names def h.done) + 1 =
      length-append (are_names def h.done) (items.Refers a ∷ []) in
      record {
        number = h.number;
        top = h.top;
        op = h.op;
        found = h.found;
        done = h.done ++ items.Refers a ∷ [];
        all = h.all ∙ sym (append_assoc h.done (items.Refers a ∷ []) more);
        child_kinds = h.child_kinds;
        children = h.children;
        slots = slots-append h.done (items.Refers a ∷ []) ∙ append-nil (slot_kinds def h.done) ∙ h.slots;
        names = ap length (names-append h.done (items.Refers a ∷ [])) ∙ with_one ∙ ap (λ k. k + 1) h.names ∙ sym longer;
      }
  has_items (with_name f n) more kind (inr (a, hf), name) plain s =
      let h = has_items f (items.Declares a ∷ more) kind hf plain s in
      let longer : length (own_names f ++ n ∷ []) ≡ length (own_names f) + 1 = length-append (own_names f) (n ∷ []) in
      let with_one : length (are_names def h.done ++ items.Declares a ∷ []) ≡ length (are_names def h.done) + 1 =
      length-append (are_names def h.done) (items.Declares a ∷ []) in
      record {
        number = h.number;
        top = h.top;
        op = h.op;
        found = h.found;
        done = h.done ++ items.Declares a ∷ [];
        all = h.all ∙ sym (append_assoc h.done (items.Declares a ∷ []) more);
        child_kinds = h.child_kinds;
        children = h.children;
        slots = slots-append h.done (items.Declares a ∷ []) ∙ append-nil (slot_kinds def h.done) ∙ h.slots;
        names =
            ap length (names-append h.done (items.Declares a ∷ [])) ∙ with_one ∙ ap (λ k. k + 1) h.names ∙ sym longer;
      }
  has_items (with_number f n) more kind (hf, small) plain s =
      let h = has_items f (items.Number ∷ more) kind hf plain s in
      record {
        number = h.number;
        top = h.top;
        op = h.op;
        found = h.found;
        done = h.done ++ items.Number ∷ [];
        all = h.all ∙ sym (append_assoc h.done (items.Number ∷ []) more);
        child_kinds = h.child_kinds;
        children = h.children;
        slots = slots-append h.done (items.Number ∷ []) ∙ append-nil (slot_kinds def h.done) ∙ h.slots;
        names = ap length (names-append h.done (items.Number ∷ []) ∙ append-nil (are_names def h.done)) ∙ h.names;
      }
  has_items (with_text f t) more kind (hf, text) plain s =
      let h = has_items f (items.Text ∷ more) kind hf plain s in
      record {
        number = h.number;
        top = h.top;
        op = h.op;
        found = h.found;
        done = h.done ++ items.Text ∷ [];
        all = h.all ∙ sym (append_assoc h.done (items.Text ∷ []) more);
        child_kinds = h.child_kinds;
        children = h.children;
        slots = slots-append h.done (items.Text ∷ []) ∙ append-nil (slot_kinds def h.done) ∙ h.slots;
        names = ap length (names-append h.done (items.Text ∷ []) ∙ append-nil (are_names def h.done)) ∙ h.names;
      }
  has_items (hole p) more kind h plain s = absurd s
  has_items (ending l u) more kind h plain s = absurd s
  has_items (cell l e r) more kind h plain s = absurd s
  has_items anything more kind h plain s = absurd s
  has_items (observed f) more kind h plain s = absurd s

  -- an operator takes the names and children of its node
  pub takes_at : (o : ℕ) (ps : List Part) (f : Fragment) (kind : Kind) → with_parts (operator o) ps ≡ f
      → Fits def f [] kind → IsPlain f → (summaries : List SummaryParts) → AllSummaries def (children_of f) summaries
      → AllByRecursion (IsSummary def) summaries → TakesAt def o (names_in ps) summaries
  takes_at o ps f kind made fits plain summaries are usual =
      let spine : IsSpine f = subst IsSpine made (spine_parts (operator o) ps tt) in
      let h = has_items f [] kind fits plain spine in
      let number : h.number ≡ o = same_Some h.number o
      (sym h.top ∙ ap top_operator (sym made) ∙ top_parts (operator o) ps) in
      let whole : part_items h.op.items ≡ h.done = h.all ∙ append-nil h.done in (
        h.op,
        subst (λ n. slice_get def.operators n ≡ Some h.op) number h.found,
        record {
          names_fit =
              ap length (sym (names-parts h.op.items) ∙ ap (are_names def) whole) ∙ h.names
              ∙ ap length (ap own_names (sym made) ∙ own_parts (operator o) ps);
          kinds_fit =
              kinds_known (children_of f) h.child_kinds summaries h.children are ∙ sym h.slots
              ∙ ap (slot_kinds def) (sym whole) ∙ slots-parts h.op.items;
          summaries = usual;
        },
      )

  pub is_node : (o : ℕ) (ps : List Part) (f : Fragment) (kind : Kind) → with_parts (operator o) ps ≡ f
      → Fits def f [] kind → IsPlain f → IsNode def o (names_in ps) f
  is_node o ps f kind made fits plain = record {
    top = ap top_operator (sym made) ∙ top_parts (operator o) ps;
    parts = has_parts f [] kind fits plain (subst IsSpine made (spine_parts (operator o) ps tt));
    own = ap own_names (sym made) ∙ own_parts (operator o) ps;
  }
