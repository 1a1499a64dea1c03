-- The regions of the steps.
use Rattle.std.proofs.Common.{◌≡◌, ℕ, suc, ◌+◌, ◌||◌, ◌&&◌, not, Bool, true, false, cond, List, [], ◌++◌, length, Some, refl, sym, ◌∙◌, subst, add-one, arith}
use Rattle.std.specs.List.{slice_get}
use Rattle.psg_terms.proofs.DeclareLaws.{is_among-append}
use Rattle.psg_grammar.specs.declared.types.Item.{Item}
use Rattle.psg_grammar.specs.declared.types.Definition.{Definition}
use Rattle.psg_grammar.specs.Fragments.{Fragment, hole, ending, cell, operator, with_child, with_name, with_number, with_text, anything, observed, children_of}
use Rattle.psg_grammar.specs.Keys.{outward}
use Rattle.psg_grammar.specs.Lookups.{is_scope}
use Rattle.psg_grammar.specs.Regions.{names_inside, declared_inside, declared_in, unfinished_inside, passing}
use Rattle.psg_grammar.specs.Steps.{first_children, children_count}
use Rattle.psg_scope.specs.Headers.{IsHeader}
use Rattle.psg_scope.specs.declared.header.Header.{Header}
use Rattle.psg_eval.specs.Trees.{HasParts}
use Rattle.psg_eval.specs.Stages.{IsInsideHeader}
use Rattle.psg_eval.specs.Summaries.{IsHeaderOf}
use Rattle.psg_eval.specs.Glues.{outer_names}
use Rattle.psg_eval.proofs.Inserting.{inserted-among, inserted-whole, inserted-order, inserted-twice, whole_parts}
use Rattle.psg_eval.proofs.NextChild.{adds, all_there}
use Rattle.psg_eval.proofs.Replacing.{Replaces, element, rest, names_more, declared_more, unfinished_more}

module _ (def : Definition) where
  -- whether a tree leaves the region in which it stands unfinished
  abbrev pub outer_unfinished : Fragment → ℕ → Bool
  outer_unfinished t s = not (is_scope def t) && unfinished_inside def s t

  -- the header is that of what is inside the first tree and of what the second one gives to its region
  abbrev pub IsJoinedHeader : Fragment → Fragment → Header → Type 0
  IsJoinedHeader a t h = IsHeader (names_inside def a ++ outer_names def t) (declared_inside def a ++ declared_in def t) (λ s. unfinished_inside def s a || outer_unfinished t s) h

  pub replaced_header : (t a b : Fragment) (h : Header) → Replaces def t a b → IsJoinedHeader a t h → IsInsideHeader def b h
  replaced_header t a b h r is =
      let names = names_more def t r in
      let declared = declared_more def t r in
      let whole = whole_parts (names_inside def a) (outer_names def t) is.whole in
      record {
        whole = inserted-whole (outer_names def t) (names_inside def a) (names_inside def b) names whole.0 whole.1;
        keys_are = is.keys_are ∙ sym (inserted-order (outer_names def t) (names_inside def a) (names_inside def b) names is.whole);
        declares = λ k. is.declares k ∙ is_among-append (declared_inside def a) (declared_in def t) k ∙ sym (inserted-among (declared_in def t) (declared_inside def a) (declared_inside def b) declared k);
        spaces = λ s. is.spaces s ∙ sym (unfinished_more def t r s);
        ascending = is.ascending;
        repeats = is.repeats ∙ sym (inserted-twice (declared_in def t) (declared_inside def a) (declared_inside def b) declared);
      }

  -- the header of a step from that of the step before and the child's, joined
  pub next_header : (f t : Fragment) (n : ℕ) (h : Header) → HasParts def f [] → slice_get (children_of f) n ≡ Some t
      → IsHeader (names_inside def (first_children n f) ++ outer_names def t) (declared_inside def (first_children n f) ++ declared_in def t)
      (λ s. unfinished_inside def s (first_children n f) || outer_unfinished t s) h
      → IsInsideHeader def (first_children (n + 1) f) h
  next_header f t n h parts at is =
      subst (λ m. IsInsideHeader def (first_children m f) h) (sym (add-one n)) (replaced_header t (first_children n f) (first_children (suc n) f) h (adds def t f [] n parts at).0 is)

  pub element_header : (l : ℕ) (e r : Fragment) (h : Header) → IsHeaderOf def e h → IsInsideHeader def (first_children 1 (cell l e r)) h
  element_header l e r h is = replaced_header e (cell l anything anything) (cell l e anything) h element is

  pub rest_header : (l : ℕ) (e r : Fragment) (h : Header) → is_scope def r ≡ false
      → IsHeader (names_inside def (first_children 1 (cell l e r)) ++ outer_names def r) (declared_inside def (first_children 1 (cell l e r)) ++ declared_in def r)
      (λ s. unfinished_inside def s (first_children 1 (cell l e r)) || outer_unfinished r s) h
      → IsInsideHeader def (cell l e r) h
  rest_header l e r h scope is = replaced_header r (cell l e anything) (cell l e r) h (rest scope) is

  pub count_is : (f : Fragment) (more : List Item) → HasParts def f more → children_count f ≡ length (children_of f)
  count_is (operator o) more h = refl
  count_is (with_child f t) more h = refl
  count_is (with_name f n) more h = refl
  count_is (with_number f n) more h = refl
  count_is (with_text f n) more h = refl
  count_is (hole p) more h = absurd h
  count_is (ending l u) more h = absurd h
  count_is (cell l u v) more h = absurd h
  count_is anything more h = absurd h
  count_is (observed f) more h = absurd h

  -- the last step has all children
  pub all_children : (f : Fragment) → HasParts def f [] → first_children (children_count f) f ≡ f
  all_children f h = let e = count_is f [] h in all_there def (children_count f) f [] h (omega arith)

  -- from the region inside to that of the tree
  pub closed_header : (f : Fragment) (h : Header) → is_scope def f ≡ true
      → IsHeader (outward (λ s. unfinished_inside def s f) (declared_inside def f) (names_inside def f)) [] (λ s. false) h → IsHeaderOf def f h
  closed_header f h scope is =
      subst (λ b. IsHeader (passing b (λ s. unfinished_inside def s f) (declared_inside def f) (names_inside def f)) (cond b [] (declared_inside def f)) (λ s. not b && unfinished_inside def s f) h)
      (sym scope) is

  pub open_header : (f : Fragment) (h : Header) → is_scope def f ≡ false → IsInsideHeader def f h → IsHeaderOf def f h
  open_header f h scope is =
      subst (λ b. IsHeader (passing b (λ s. unfinished_inside def s f) (declared_inside def f) (names_inside def f)) (cond b [] (declared_inside def f)) (λ s. not b && unfinished_inside def s f) h)
      (sym scope) is
