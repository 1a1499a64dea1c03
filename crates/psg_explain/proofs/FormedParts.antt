-- A tree of a kind has the parts of its operator's items, and names in spaces.
use Rattle.std.proofs.Common.{◌≡◌, inl, inr, ℕ, zero, suc, Bool, true, false, cond, List, [], ◌∷◌, length, Option, Some, refl, sym, ap, ◌∙◌, subst}
use Rattle.std.specs.Prelude.{nat_lt}
use Rattle.std.specs.List.{slice_get, AllByRecursion}
use Rattle.psg_grammar.specs.declared.types.Kind.{Kind}
use Rattle.psg_grammar.specs.declared.types.Kind.TheVariants as kinds
use Rattle.psg_grammar.specs.declared.types.Item.{Item}
use Rattle.psg_grammar.specs.declared.types.Item.TheVariants as items
use Rattle.psg_grammar.specs.declared.types.Operator.{Operator}
use Rattle.psg_grammar.specs.declared.types.Definition.{Definition}
use Rattle.psg_grammar.specs.Fragments.{Fragment, hole, ending, cell, operator, with_child, with_name, with_number, with_text, anything, observed, children_of, top_operator}
use Rattle.psg_grammar.specs.Keys.{Key}
use Rattle.psg_grammar.specs.Lookups.{is_scope, next_item, key_at, key_of}
use Rattle.psg_grammar.specs.Regions.{declared_inside, unfinished_inside, names_inside, passing}
use Rattle.psg_grammar.specs.Steps.{first_children}
use Rattle.psg_grammar.specs.WellFormed.{Fits, IsPlain}
use Rattle.psg_scope.specs.Headers.{IsKey}
use Rattle.psg_scope.proofs.HeaderLaws.{outward-whole, whole-append}
use Rattle.psg_eval.specs.Glues.{outer_names}
use Rattle.psg_eval.specs.Trees.{HasParts}
use Rattle.psg_eval.proofs.Inserting.{whole_parts}
use Rattle.psg_eval.proofs.Spines.{first_bare, done_of, item_is}
use Rattle.psg_cache.proofs.Each.{not_nil}
use Rattle.psg_cache.proofs.RealTrees.{IsSpine}
use Rattle.psg_explain.proofs.Firsts.{same_key, same_item}

passing_whole : (scope : Bool) (u : ℕ → Bool) (d ns : List Key) → AllByRecursion IsKey ns → AllByRecursion IsKey (passing scope u d ns)
passing_whole true u d ns w = outward-whole ns d u w
passing_whole false u d ns w = w

module _ (def : Definition) where
  -- ---- parts

  pub more_parts : (f : Fragment) (i : Item) (more : List Item) (kind : Kind) → Fits def f (i ∷ more) kind → HasParts def f (i ∷ more)
  more_parts (operator o) i more kind (op, found, e, k) = (op, found, e)
  more_parts (with_child f t) i more kind (k, hf, ht) = (k, more_parts f (items.Slot k) (i ∷ more) kind hf)
  more_parts (with_name f n) i more kind (inl (s, h), name) = inl (s, more_parts f (items.Refers s) (i ∷ more) kind h)
  more_parts (with_name f n) i more kind (inr (s, h), name) = inr (s, more_parts f (items.Declares s) (i ∷ more) kind h)
  more_parts (with_number f n) i more kind (h, small) = more_parts f items.Number (i ∷ more) kind h
  more_parts (with_text f t) i more kind (h, text) = more_parts f items.Text (i ∷ more) kind h
  more_parts (hole p) i more kind h = absurd (not_nil i more h.0)
  more_parts (ending l u) i more kind h = absurd (not_nil i more h.0)
  more_parts (cell l e r) i more kind h = absurd (not_nil i more h.0)
  more_parts anything i more kind h = absurd h
  more_parts (observed f) i more kind h = absurd (not_nil i more h.0)

  pub all_parts : (f : Fragment) (kind : Kind) → Fits def f [] kind → IsSpine f → HasParts def f []
  all_parts (operator o) kind (op, found, e, k) s = (op, found, e)
  all_parts (with_child f t) kind (k, hf, ht) s = (k, more_parts f (items.Slot k) [] kind hf)
  all_parts (with_name f n) kind (inl (a, h), name) s = inl (a, more_parts f (items.Refers a) [] kind h)
  all_parts (with_name f n) kind (inr (a, h), name) s = inr (a, more_parts f (items.Declares a) [] kind h)
  all_parts (with_number f n) kind (h, small) s = more_parts f items.Number [] kind h
  all_parts (with_text f t) kind (h, text) s = more_parts f items.Text [] kind h
  all_parts (hole p) kind h s = absurd s
  all_parts (ending l u) kind h s = absurd s
  all_parts (cell l e r) kind h s = absurd s
  all_parts anything kind h s = absurd s
  all_parts (observed f) kind h s = absurd s

  -- the operator of some parts
  pub record OfOperator (f : Fragment) : Type 0 where
    pub o : ℕ
    pub op : Operator
    pub found : slice_get def.operators o ≡ Some op
    pub top : top_operator f ≡ Some o

  same_operator : (f g : Fragment) → top_operator g ≡ top_operator f → OfOperator f → OfOperator g
  same_operator f g e it = record { o = it.o; op = it.op; found = it.found; top = e ∙ it.top }

  pub operator_of : (f : Fragment) (more : List Item) → HasParts def f more → OfOperator f
  operator_of (operator o) more (op, found, e) = record { o = o; op = op; found = found; top = refl }
  operator_of (with_child f t) more (k, h) = same_operator f (with_child f t) refl (operator_of f (items.Slot k ∷ more) h)
  operator_of (with_name f n) more (inl (s, h)) = same_operator f (with_name f n) refl (operator_of f (items.Refers s ∷ more) h)
  operator_of (with_name f n) more (inr (s, h)) = same_operator f (with_name f n) refl (operator_of f (items.Declares s ∷ more) h)
  operator_of (with_number f n) more h = same_operator f (with_number f n) refl (operator_of f (items.Number ∷ more) h)
  operator_of (with_text f t) more h = same_operator f (with_text f t) refl (operator_of f (items.Text ∷ more) h)
  operator_of (hole p) more h = absurd h
  operator_of (ending l u) more h = absurd h
  operator_of (cell l e r) more h = absurd h
  operator_of anything more h = absurd h
  operator_of (observed f) more h = absurd h

  -- ---- names

  pub name_key : (f : Fragment) (i : Item) (more : List Item) (n : List ℕ) → HasParts def f (i ∷ more) → key_at def f n ≡ key_of (Some i) n
  name_key f i more n h =
      let it = operator_of f (i ∷ more) h in
      ap (λ (x : Option Item). key_of x n)
      (sym (same_item def 0 f) ∙ ap (next_item def) (first_bare def f (i ∷ more) h) ∙ item_is def it.o it.op it.found f i more (done_of def it.o it.op it.found f (i ∷ more) it.top h))

  pub whole_names : (f : Fragment) (more : List Item) (kind : Kind) → Fits def f more kind → IsPlain f → AllByRecursion IsKey (names_inside def f)
  whole_names (hole p) more kind h plain = tt
  whole_names (ending l u) more kind h plain = tt
  whole_names (cell l e r) more kind (a, b, k, found, fe, fr, z) plain =
      whole-append (outer_names def e) (names_inside def r)
      (passing_whole (is_scope def e) (λ s. unfinished_inside def s e) (declared_inside def e) (names_inside def e) (whole_names e [] (kinds.Phylum k.element) fe plain.0))
      (whole_names r [] (kinds.List l) fr plain.1)
  whole_names (operator o) more kind h plain = tt
  whole_names (with_child f t) more kind (k, hf, ht) plain =
      whole-append (names_inside def f) (outer_names def t) (whole_names f (items.Slot k ∷ more) kind hf plain.0)
      (passing_whole (is_scope def t) (λ s. unfinished_inside def s t) (declared_inside def t) (names_inside def t) (whole_names t [] k ht plain.1))
  whole_names (with_name f n) more kind (inl (s, h), name) plain =
      whole-append (names_inside def f) (key_at def f n ∷ []) (whole_names f (items.Refers s ∷ more) kind h plain)
      (subst IsKey (sym (name_key f (items.Refers s) more n (more_parts f (items.Refers s) more kind h))) tt, tt)
  whole_names (with_name f n) more kind (inr (s, h), name) plain =
      whole-append (names_inside def f) (key_at def f n ∷ []) (whole_names f (items.Declares s ∷ more) kind h plain)
      (subst IsKey (sym (name_key f (items.Declares s) more n (more_parts f (items.Declares s) more kind h))) tt, tt)
  whole_names (with_number f n) more kind (h, small) plain = whole_names f (items.Number ∷ more) kind h plain
  whole_names (with_text f t) more kind (h, text) plain = whole_names f (items.Text ∷ more) kind h plain
  whole_names anything more kind h plain = absurd h
  whole_names (observed f) more kind h plain = absurd plain

  pub whole_outside : (f : Fragment) (kind : Kind) → Fits def f [] kind → IsPlain f → AllByRecursion IsKey (outer_names def f)
  whole_outside f kind fits plain =
      passing_whole (is_scope def f) (λ s. unfinished_inside def s f) (declared_inside def f) (names_inside def f) (whole_names f [] kind fits plain)

  kept_whole : (b : Bool) (t : Fragment) → AllByRecursion IsKey (outer_names def t) → AllByRecursion IsKey (outer_names def (cond b t anything))
  kept_whole true t w = w
  kept_whole false t w = tt

  -- the names of the first children alone
  pub first_whole : (n : ℕ) (f : Fragment) → AllByRecursion IsKey (names_inside def f) → AllByRecursion IsKey (names_inside def (first_children n f))
  first_whole n (with_child f t) w =
      let b : Bool = nat_lt (length (children_of f)) n in
      let (one, two) = whole_parts (names_inside def f) (outer_names def t) w in
      whole-append (names_inside def (first_children n f)) (outer_names def (cond b t anything)) (first_whole n f one) (kept_whole b t two)
  first_whole n (with_name f m) w =
      let (one, two) = whole_parts (names_inside def f) (key_at def f m ∷ []) w in
      whole-append (names_inside def (first_children n f)) (key_at def (first_children n f) m ∷ []) (first_whole n f one) (subst IsKey (sym (same_key def n f m)) two.0, tt)
  first_whole n (with_number f m) w = first_whole n f w
  first_whole n (with_text f m) w = first_whole n f w
  first_whole n (observed f) w = first_whole n f w
  first_whole zero (cell l e r) w = tt
  first_whole (suc zero) (cell l e r) w =
      let (one, two) = whole_parts (outer_names def e) (names_inside def r) w in
      whole-append (outer_names def e) [] one tt
  first_whole (suc (suc n)) (cell l e r) w = w
  first_whole n (hole p) w = tt
  first_whole n (ending l u) w = tt
  first_whole n (operator o) w = tt
  first_whole n anything w = tt
