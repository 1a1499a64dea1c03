-- An operator with its own parts alone: free values in place of its children.
use Rattle.std.proofs.Common.{◌≡◌, inl, inr, ℕ, ◌+◌, true, false, cond, List, [], ◌∷◌, ◌++◌, length, Option, Some, refl, ap, ap₂, sym, ◌∙◌, append_assoc, append-nil, arith, length-append}
use Rattle.std.specs.List.{slice_get}
use Rattle.std.specs.Option.{option_and_then}
use Rattle.std.proofs.lemmas.Bool.{le-ltb}
use Rattle.std.proofs.Math.Bool.{or-false}
use Rattle.psg_terms.proofs.Lists.{slice_get-middle}
use Rattle.psg_terms.specs.Names.{Name}
use Rattle.psg_grammar.specs.declared.types.Item.{Item}
use Rattle.psg_grammar.specs.declared.types.Item.TheVariants as items
use Rattle.psg_grammar.specs.declared.types.Operator.{Operator}
use Rattle.psg_grammar.specs.declared.types.Definition.{Definition}
use Rattle.psg_grammar.specs.Fragments.{Fragment, hole, ending, cell, operator, with_child, with_name, with_number, with_text, anything, observed, top_operator, parts_count, children_of}
use Rattle.psg_grammar.specs.Lookups.{part_items, next_item, is_declares, key_of, key_at, items_of, operator_at}
use Rattle.psg_grammar.specs.Open.{Choice}
use Rattle.psg_grammar.specs.Regions.{declared_inside, names_inside, unfinished_inside, DistinctBelow}
use Rattle.psg_grammar.specs.Steps.{first_children}
use Rattle.psg_scope.specs.Headers.{keys, declared_keys}
use Rattle.psg_eval.specs.Trees.{HasParts, own_names}
use Rattle.psg_eval.specs.OwnRows.{positions}

abbrev pub bare : Fragment → Fragment
bare (operator o) = operator o
bare (with_child f t) = with_child (bare f) anything
bare (with_name f n) = with_name (bare f) n
bare (with_number f n) = with_number (bare f) n
bare (with_text f n) = with_text (bare f) n
bare (hole p) = operator 0
bare (ending l u) = operator 0
bare (cell l e r) = operator 0
bare anything = operator 0
bare (observed f) = operator 0

-- its only choice is that of its own row
abbrev pub choice_of : (f : Fragment) → ℕ → Choice (bare f)
choice_of (operator o) r = r
choice_of (with_child f t) r = (choice_of f r, tt)
choice_of (with_name f n) r = choice_of f r
choice_of (with_number f n) r = choice_of f r
choice_of (with_text f n) r = choice_of f r
choice_of (hole p) r = r
choice_of (ending l u) r = r
choice_of (cell l e v) r = r
choice_of anything r = r
choice_of (observed f) r = r

abbrev pub row_of : (f : Fragment) → Choice (bare f) → ℕ
row_of (operator o) c = c
row_of (with_child f t) c = row_of f c.0
row_of (with_name f n) c = row_of f c
row_of (with_number f n) c = row_of f c
row_of (with_text f n) c = row_of f c
row_of (hole p) c = c
row_of (ending l u) c = c
row_of (cell l e v) c = c
row_of anything c = c
row_of (observed f) c = c

pub choice-row : (f : Fragment) (c : Choice (bare f)) → choice_of f (row_of f c) ≡ c
choice-row (operator o) c = refl
choice-row (with_child f t) c = ap (λ d. (d, tt)) (choice-row f c.0)
choice-row (with_name f n) c = choice-row f c
choice-row (with_number f n) c = choice-row f c
choice-row (with_text f n) c = choice-row f c
choice-row (hole p) c = refl
choice-row (ending l u) c = refl
choice-row (cell l e v) c = refl
choice-row anything c = refl
choice-row (observed f) c = refl

pub row-choice : (f : Fragment) (r : ℕ) → row_of f (choice_of f r) ≡ r
row-choice (operator o) r = refl
row-choice (with_child f t) r = row-choice f r
row-choice (with_name f n) r = row-choice f r
row-choice (with_number f n) r = row-choice f r
row-choice (with_text f n) r = row-choice f r
row-choice (hole p) r = refl
row-choice (ending l u) r = refl
row-choice (cell l e v) r = refl
row-choice anything r = refl
row-choice (observed f) r = refl

module _ (def : Definition) where
  pub first_bare : (f : Fragment) (more : List Item) → HasParts def f more → first_children 0 f ≡ bare f
  first_bare (operator o) more h = refl
  first_bare (with_child f t) more (k, h) =
      ap₂ with_child (first_bare f (items.Slot k ∷ more) h) (ap (λ b. cond b t anything) (le-ltb (length (children_of f)) 0 (omega arith)))
  first_bare (with_name f n) more (inl (s, h)) = ap (λ x. with_name x n) (first_bare f (items.Refers s ∷ more) h)
  first_bare (with_name f n) more (inr (s, h)) = ap (λ x. with_name x n) (first_bare f (items.Declares s ∷ more) h)
  first_bare (with_number f n) more h = ap (λ x. with_number x n) (first_bare f (items.Number ∷ more) h)
  first_bare (with_text f n) more h = ap (λ x. with_text x n) (first_bare f (items.Text ∷ more) h)
  first_bare (hole p) more h = absurd h
  first_bare (ending l u) more h = absurd h
  first_bare (cell l u v) more h = absurd h
  first_bare anything more h = absurd h
  first_bare (observed f) more h = absurd h

  pub bare_unfinished : (f : Fragment) (s : ℕ) → unfinished_inside def s (bare f) ≡ false
  bare_unfinished (operator o) s = refl
  bare_unfinished (with_child f t) s = or-false (unfinished_inside def s (bare f)) ∙ bare_unfinished f s
  bare_unfinished (with_name f n) s = bare_unfinished f s
  bare_unfinished (with_number f n) s = bare_unfinished f s
  bare_unfinished (with_text f n) s = bare_unfinished f s
  bare_unfinished (hole p) s = refl
  bare_unfinished (ending l u) s = refl
  bare_unfinished (cell l u v) s = refl
  bare_unfinished anything s = refl
  bare_unfinished (observed f) s = refl

  pub bare_below : (f : Fragment) → DistinctBelow def (bare f)
  bare_below (operator o) = tt
  bare_below (with_child f t) = (bare_below f, tt, λ e. refl)
  bare_below (with_name f n) = bare_below f
  bare_below (with_number f n) = bare_below f
  bare_below (with_text f n) = bare_below f
  bare_below (hole p) = tt
  bare_below (ending l u) = tt
  bare_below (cell l u v) = tt
  bare_below anything = tt
  bare_below (observed f) = tt

  module _ (o : ℕ) (op : Operator) (found : slice_get def.operators o ≡ Some op) where
    abbrev parts : List Item
    parts = part_items op.items

    same_operator : (p : ℕ) → top_operator (operator p) ≡ Some o → (other : Operator) → slice_get def.operators p ≡ Some other → other ≡ op
    same_operator p top other at =
        let e : p ≡ o = cc in
        let d : Some other ≡ Some op = sym at ∙ ap (slice_get def.operators) e ∙ found in
        cc

    -- the items of the parts that are there, and of those that follow
    pub record Done (f : Fragment) (more : List Item) : Type 0 where
      pub done : List Item
      pub split : parts ≡ done ++ more
      pub count : length done ≡ parts_count (bare f)
      pub top : top_operator (bare f) ≡ Some o

    -- one part more
    done_more : (f g : Fragment) (i : Item) (more : List Item) → parts_count (bare g) ≡ parts_count (bare f) + 1 → top_operator (bare g) ≡ top_operator (bare f) → Done f (i ∷ more) → Done g more
    done_more f g i more e t d = record {
      done = d.done ++ i ∷ [];
      split = d.split ∙ sym (append_assoc d.done (i ∷ []) more);
      count = omega (arith, e, d.count, length-append d.done (i ∷ []));
      top = t ∙ d.top;
    }

    pub done_of : (f : Fragment) (more : List Item) → top_operator f ≡ Some o → HasParts def f more → Done f more
    done_of (operator p) more top (other, at, e) =
        let same = same_operator p top other at in
        record { done = []; split = sym (e ∙ ap (λ (x : Operator). part_items x.items) same); count = refl; top = top }
    done_of (with_child f t) more top (k, h) = done_more f (with_child f t) (items.Slot k) more refl refl (done_of f (items.Slot k ∷ more) top h)
    done_of (with_name f n) more top (inl (s, h)) = done_more f (with_name f n) (items.Refers s) more refl refl (done_of f (items.Refers s ∷ more) top h)
    done_of (with_name f n) more top (inr (s, h)) = done_more f (with_name f n) (items.Declares s) more refl refl (done_of f (items.Declares s ∷ more) top h)
    done_of (with_number f n) more top h = done_more f (with_number f n) items.Number more refl refl (done_of f (items.Number ∷ more) top h)
    done_of (with_text f n) more top h = done_more f (with_text f n) items.Text more refl refl (done_of f (items.Text ∷ more) top h)
    done_of (hole p) more top h = absurd h
    done_of (ending l u) more top h = absurd h
    done_of (cell l u v) more top h = absurd h
    done_of anything more top h = absurd h
    done_of (observed f) more top h = absurd h

    pub item_is : (f : Fragment) (i : Item) (more : List Item) → Done f (i ∷ more) → next_item def (bare f) ≡ Some i
    item_is f i more d =
        let there : operator_at def o ≡ Some op = found in
        let item : slice_get parts (length d.done) ≡ Some i = ap (λ l. slice_get l (length d.done)) d.split ∙ slice_get-middle d.done i more in
        ap (λ (t : Option ℕ). slice_get (items_of (option_and_then (operator_at def) t)) (parts_count (bare f))) d.top
        ∙ ap (λ (x : Option Operator). slice_get (items_of x) (parts_count (bare f))) there ∙ ap (slice_get parts) (sym d.count) ∙ item

    pub key_is : (f : Fragment) (i : Item) (more : List Item) → Done f (i ∷ more) → (n : Name) → key_at def (bare f) n ≡ key_of (Some i) n
    key_is f i more d n = ap (λ x. key_of x n) (item_is f i more d)

    -- ---- the keys of the own positions

    positions_parts : (xs : List Item) (names : List Name) → positions (part_items xs) names ≡ positions xs names
    positions_parts [] names = refl
    positions_parts (items.Refers s ∷ xs) [] = refl
    positions_parts (items.Refers s ∷ xs) (n ∷ names) = ap (λ l. record { space = s; name = n; declared = false } ∷ l) (positions_parts xs names)
    positions_parts (items.Declares s ∷ xs) [] = refl
    positions_parts (items.Declares s ∷ xs) (n ∷ names) = ap (λ l. record { space = s; name = n; declared = true } ∷ l) (positions_parts xs names)
    positions_parts (_ ∷ xs) names = positions_parts xs names

    names_so_far : (f : Fragment) (more : List Item) → top_operator f ≡ Some o → HasParts def f more → (rest : List Name)
        → keys (positions parts (own_names f ++ rest)) ≡ names_inside def (bare f) ++ keys (positions more rest)
    names_so_far (operator p) more top (other, at, e) rest =
        let same = same_operator p top other at in
        ap (λ l. keys (positions l rest)) (sym (e ∙ ap (λ (x : Operator). part_items x.items) same))
    names_so_far (with_child f t) more top (k, h) rest =
        names_so_far f (items.Slot k ∷ more) top h rest ∙ ap (λ l. l ++ keys (positions more rest)) (sym (append-nil (names_inside def (bare f))))
    names_so_far (with_name f n) more top (inl (s, h)) rest =
        ap (λ l. keys (positions parts l)) (append_assoc (own_names f) (n ∷ []) rest) ∙ names_so_far f (items.Refers s ∷ more) top h (n ∷ rest)
        ∙ ap (λ k. names_inside def (bare f) ++ k ∷ keys (positions more rest)) (sym (key_is f (items.Refers s) more (done_of f (items.Refers s ∷ more) top h) n))
        ∙ sym (append_assoc (names_inside def (bare f)) (key_at def (bare f) n ∷ []) (keys (positions more rest)))
    names_so_far (with_name f n) more top (inr (s, h)) rest =
        ap (λ l. keys (positions parts l)) (append_assoc (own_names f) (n ∷ []) rest) ∙ names_so_far f (items.Declares s ∷ more) top h (n ∷ rest)
        ∙ ap (λ k. names_inside def (bare f) ++ k ∷ keys (positions more rest)) (sym (key_is f (items.Declares s) more (done_of f (items.Declares s ∷ more) top h) n))
        ∙ sym (append_assoc (names_inside def (bare f)) (key_at def (bare f) n ∷ []) (keys (positions more rest)))
    names_so_far (with_number f n) more top h rest = names_so_far f (items.Number ∷ more) top h rest
    names_so_far (with_text f n) more top h rest = names_so_far f (items.Text ∷ more) top h rest
    names_so_far (hole p) more top h rest = absurd h
    names_so_far (ending l u) more top h rest = absurd h
    names_so_far (cell l u v) more top h rest = absurd h
    names_so_far anything more top h rest = absurd h
    names_so_far (observed f) more top h rest = absurd h

    pub bare_names : (f : Fragment) → top_operator f ≡ Some o → HasParts def f [] → names_inside def (bare f) ≡ keys (positions op.items (own_names f))
    bare_names f top h =
        sym (append-nil (names_inside def (bare f))) ∙ sym (names_so_far f [] top h []) ∙ ap (λ l. keys (positions parts l)) (append-nil (own_names f)) ∙ ap keys (positions_parts op.items (own_names f))

    declared_so_far : (f : Fragment) (more : List Item) → top_operator f ≡ Some o → HasParts def f more → (rest : List Name)
        → declared_keys (positions parts (own_names f ++ rest)) ≡ declared_inside def (bare f) ++ declared_keys (positions more rest)
    declared_so_far (operator p) more top (other, at, e) rest =
        let same = same_operator p top other at in
        ap (λ l. declared_keys (positions l rest)) (sym (e ∙ ap (λ (x : Operator). part_items x.items) same))
    declared_so_far (with_child f t) more top (k, h) rest =
        declared_so_far f (items.Slot k ∷ more) top h rest ∙ ap (λ l. l ++ declared_keys (positions more rest)) (sym (append-nil (declared_inside def (bare f))))
    declared_so_far (with_name f n) more top (inl (s, h)) rest =
        ap (λ l. declared_keys (positions parts l)) (append_assoc (own_names f) (n ∷ []) rest) ∙ declared_so_far f (items.Refers s ∷ more) top h (n ∷ rest)
        ∙ ap (λ l. l ++ declared_keys (positions more rest)) (sym (append-nil (declared_inside def (bare f))))
        ∙ ap (λ (x : Option Item). (declared_inside def (bare f) ++ cond (is_declares x) (key_of x n ∷ []) []) ++ declared_keys (positions more rest))
        (sym (item_is f (items.Refers s) more (done_of f (items.Refers s ∷ more) top h)))
    declared_so_far (with_name f n) more top (inr (s, h)) rest =
        ap (λ l. declared_keys (positions parts l)) (append_assoc (own_names f) (n ∷ []) rest) ∙ declared_so_far f (items.Declares s ∷ more) top h (n ∷ rest)
        ∙ sym (append_assoc (declared_inside def (bare f)) ((s ∷ n) ∷ []) (declared_keys (positions more rest)))
        ∙ ap (λ (x : Option Item). (declared_inside def (bare f) ++ cond (is_declares x) (key_of x n ∷ []) []) ++ declared_keys (positions more rest))
        (sym (item_is f (items.Declares s) more (done_of f (items.Declares s ∷ more) top h)))
    declared_so_far (with_number f n) more top h rest = declared_so_far f (items.Number ∷ more) top h rest
    declared_so_far (with_text f n) more top h rest = declared_so_far f (items.Text ∷ more) top h rest
    declared_so_far (hole p) more top h rest = absurd h
    declared_so_far (ending l u) more top h rest = absurd h
    declared_so_far (cell l u v) more top h rest = absurd h
    declared_so_far anything more top h rest = absurd h
    declared_so_far (observed f) more top h rest = absurd h

    pub bare_declared : (f : Fragment) → top_operator f ≡ Some o → HasParts def f [] → declared_inside def (bare f) ≡ declared_keys (positions op.items (own_names f))
    bare_declared f top h =
        sym (append-nil (declared_inside def (bare f))) ∙ sym (declared_so_far f [] top h []) ∙ ap (λ l. declared_keys (positions parts l)) (append-nil (own_names f))
        ∙ ap declared_keys (positions_parts op.items (own_names f))
