-- A tree of a kind that isn't declaring declares no name in the region in which it stands.
use Rattle.std.proofs.Common.{◌≡◌, inl, inr, ℕ, zero, suc, ◌<◌, ◌==◌, Bool, true, false, cond, ◌||◌, ◌&&◌, not, List, [], ◌∷◌, ◌++◌, length, slice_get, bytes_eq, Some, refl, ap, ap₂, sym, ◌∙◌, subst, true≢false, eq-eqb}
use Rattle.std.specs.Option.{option_and_then}
use Rattle.std.proofs.lemmas.Option.{none-some, slice_get_within}
use Rattle.std.proofs.lemmas.Bool.{cases_Bool, or_parts}
use Rattle.psg_terms.proofs.DeclareLaws.{bytes_eq-same}
use Rattle.psg_grammar.specs.declared.types.Kind.{Kind}
use Rattle.psg_grammar.specs.declared.types.Item.{Item}
use Rattle.psg_grammar.specs.declared.types.Operator.{Operator}
use Rattle.psg_grammar.specs.declared.types.Definition.{Definition}
use Rattle.psg_grammar.specs.Fragments.{Fragment, hole, ending, cell, operator, with_child, with_name, with_number, with_text, anything, observed}
use Rattle.psg_grammar.specs.Keys.{Key, space_of}
use Rattle.psg_terms.specs.Names.{is_among}
use Rattle.psg_grammar.specs.Lookups.{is_scope, scopes, operator_at, next_item, is_declares, key_of, key_at, part_items}
use Rattle.psg_grammar.specs.Declaring.{is_declaring, declares_by, any_item, any_operator, element_declares}
use Rattle.psg_grammar.specs.Regions.{declared_inside, declared_in}
use Rattle.psg_grammar.specs.WellFormed.{Fits}
use Rattle.psg_completions.proofs.NameLaws.{none_both}
use Rattle.psg_grammar.specs.Kinds.{HasKind}
use Rattle.psg_completions.proofs.Tops.{IsNode, node_before, list_no_scope, top_of, next_is}
use Rattle.psg_grammar.specs.declared.types.Kind.TheVariants as kinds
use Rattle.psg_grammar.specs.declared.types.Item.TheVariants as items

any_skip : (space : ℕ) (test : Kind → Bool) (front rest : List Item) → any_item space test (front ++ rest) ≡ false
    → any_item space test rest ≡ false
any_skip space test [] rest e = e
any_skip space test (items.Declares r ∷ front) rest e =
    any_skip space test front rest (or_parts (r == space) (any_item space test (front ++ rest)) e).1
any_skip space test (items.Slot k ∷ front) rest e =
    any_skip space test front rest (or_parts (test k) (any_item space test (front ++ rest)) e).1
any_skip space test (items.Word w ∷ front) rest e = any_skip space test front rest e
any_skip space test (items.Refers r ∷ front) rest e = any_skip space test front rest e
any_skip space test (items.Number ∷ front) rest e = any_skip space test front rest e
any_skip space test (items.Text ∷ front) rest e = any_skip space test front rest e
any_skip space test (items.Space ∷ front) rest e = any_skip space test front rest e
any_skip space test (items.Tight ∷ front) rest e = any_skip space test front rest e
any_skip space test (items.Line ∷ front) rest e = any_skip space test front rest e
any_skip space test (items.In ∷ front) rest e = any_skip space test front rest e
any_skip space test (items.Out ∷ front) rest e = any_skip space test front rest e

any_parts : (space : ℕ) (test : Kind → Bool) (xs : List Item)
    → any_item space test (part_items xs) ≡ any_item space test xs
any_parts space test [] = refl
any_parts space test (items.Declares r ∷ xs) = ap (λ b. (r == space) || b) (any_parts space test xs)
any_parts space test (items.Slot k ∷ xs) = ap (λ b. test k || b) (any_parts space test xs)
any_parts space test (items.Word w ∷ xs) = any_parts space test xs
any_parts space test (items.Refers r ∷ xs) = any_parts space test xs
any_parts space test (items.Number ∷ xs) = any_parts space test xs
any_parts space test (items.Text ∷ xs) = any_parts space test xs
any_parts space test (items.Space ∷ xs) = any_parts space test xs
any_parts space test (items.Tight ∷ xs) = any_parts space test xs
any_parts space test (items.Line ∷ xs) = any_parts space test xs
any_parts space test (items.In ∷ xs) = any_parts space test xs
any_parts space test (items.Out ∷ xs) = any_parts space test xs

any_at : (space : ℕ) (test : Kind → Bool) (p : ℕ) (ops : List Operator) (o : ℕ) (op : Operator)
    → any_operator space test p ops ≡ false → slice_get ops o ≡ Some op → op.phylum ≡ p → op.scope ≡ false
    → any_item space test op.items ≡ false
any_at space test p [] o op e at same scope = absurd (none-some op at)
any_at space test p (x ∷ ops) zero op e at same scope =
    let is : x ≡ op = (let q : Some x ≡ Some op = at in cc) in
    let (a, b) =
    or_parts ((x.phylum == p) && (not x.scope) && any_item space test x.items) (any_operator space test p ops) e in
    let c : ((op.phylum == p) && (not op.scope) && any_item space test op.items) ≡ false =
    subst (λ (y : Operator). ((y.phylum == p) && (not y.scope) && any_item space test y.items) ≡ false) is a in
    let d : (op.phylum == p) ≡ true = eq-eqb op.phylum p same in
    sym (ap₂ (λ u v. (u && (not v) && any_item space test op.items)) d scope) ∙ c
any_at space test p (x ∷ ops) (suc o) op e at same scope =
    any_at space test p ops o op (or_parts ((x.phylum == p) && (not x.scope) && any_item space test x.items)
    (any_operator space test p ops) e).1 at same scope

module _ (def : Definition) where
  module _ (space : ℕ) (phyla_in : (o : ℕ) (op : Operator) → slice_get def.operators o ≡ Some op → op.phylum < length def.phyla) (closed : (kind : Kind) → HasKind def kind → is_declaring def space kind ≡ false → declares_by def space (is_declaring def space) kind ≡ false) where
    none_follows : (f : Fragment) (more : List Item) (kind : Kind) → IsNode def f → Fits def f more kind
        → is_declaring def space kind ≡ false → is_scope def f ≡ false
        → any_item space (is_declaring def space) more ≡ false
    none_follows f more kind n w q s =
        let t = top_of def f more kind n w in
        let a : declares_by def space (is_declaring def space) (kinds.Phylum t.op.phylum) ≡ false =
        closed (kinds.Phylum t.op.phylum) (phyla_in t.number t.op t.found)
        (subst (λ k. is_declaring def space k ≡ false) t.kind_is q) in
        let b : t.op.scope ≡ false =
        sym (ap (λ o. scopes (option_and_then (operator_at def) o)) t.top ∙ ap scopes t.found) ∙ s in
        let c : any_item space (is_declaring def space) t.op.items ≡ false =
        any_at space (is_declaring def space) t.op.phylum def.operators t.number t.op a t.found refl b in
        any_skip space (is_declaring def space) t.front more
        (ap (any_item space (is_declaring def space)) (sym t.parts)
        ∙ any_parts space (is_declaring def space) t.op.items ∙ c)

    -- no key of the space is among them
    abbrev NoneOf : List Key → Type 0
    NoneOf xs = (k : Key) → space_of k ≡ space → is_among xs k ≡ false

    none_two : (xs ys : List Key) → NoneOf xs → NoneOf ys → NoneOf (xs ++ ys)
    none_two xs ys a b k e = none_both xs ys k (a k e) (b k e)

    adds_none : (t : Fragment) → (is_scope def t ≡ false → NoneOf (declared_inside def t)) → NoneOf (declared_in def t)
    adds_none t h = elim (cases_Bool (is_scope def t)) [
      | inl e ↦ subst (λ b. NoneOf (cond b [] (declared_inside def t))) (sym e) (λ k q. refl)
      | inr e ↦ subst (λ b. NoneOf (cond b [] (declared_inside def t))) (sym e) (h e)
    ]

    quiet_inside : (t : Fragment) (more : List Item) (kind : Kind) → Fits def t more kind
        → is_declaring def space kind ≡ false → is_scope def t ≡ false → NoneOf (declared_inside def t)
    quiet_inside (hole p) more kind w q s = λ k e. refl
    quiet_inside (ending l u) more kind w q s = λ k e. refl
    quiet_inside (cell l e r) more kind (none, iskind, k, found, we, wr, free) q s =
        let ql : is_declaring def space (kinds.List l) ≡ false =
        subst (λ x. is_declaring def space x ≡ false) iskind q in
        let qe : is_declaring def space (kinds.Phylum k.element) ≡ false =
        sym (ap (element_declares (is_declaring def space)) found)
        ∙ closed (kinds.List l) (slice_get_within def.lists l k found) ql in
        none_two (declared_in def e) (declared_inside def r)
        (adds_none e (quiet_inside e [] (kinds.Phylum k.element) we qe))
        (quiet_inside r [] (kinds.List l) wr ql (list_no_scope def r l wr))
    quiet_inside (operator o) more kind w q s = λ k e. refl
    quiet_inside (with_child f t) more kind (k, wf, wt) q s =
        let any : any_item space (is_declaring def space) (items.Slot k ∷ more) ≡ false =
        none_follows f (items.Slot k ∷ more) kind (node_before def f (items.Slot k) more kind wf) wf q s in
        let qk : is_declaring def space k ≡ false =
        (or_parts (is_declaring def space k) (any_item space (is_declaring def space) more) any).0 in
        none_two (declared_inside def f) (declared_in def t) (quiet_inside f (items.Slot k ∷ more) kind wf q s)
        (adds_none t (quiet_inside t [] k wt qk))
    quiet_inside (with_name f x) more kind (inl (sp, wf), name) q s =
        none_two (declared_inside def f) (cond (is_declares (next_item def f)) (key_at def f x ∷ []) [])
        (quiet_inside f (items.Refers sp ∷ more) kind wf q s)
        (subst (λ i. NoneOf (cond (is_declares i) (key_of i x ∷ []) []))
        (sym (next_is def f (items.Refers sp) more kind wf)) (λ k e. refl))
    quiet_inside (with_name f x) more kind (inr (sp, wf), name) q s =
        let any : any_item space (is_declaring def space) (items.Declares sp ∷ more) ≡ false =
        none_follows f (items.Declares sp ∷ more) kind (node_before def f (items.Declares sp) more kind wf) wf q s
        in
        let other : (sp == space) ≡ false =
        (or_parts (sp == space) (any_item space (is_declaring def space) more) any).0 in
        none_two (declared_inside def f) (cond (is_declares (next_item def f)) (key_at def f x ∷ []) [])
        (quiet_inside f (items.Declares sp ∷ more) kind wf q s)
        (subst (λ i. NoneOf (cond (is_declares i) (key_of i x ∷ []) []))
        (sym (next_is def f (items.Declares sp) more kind wf)) (λ k e. elim (cases_Bool (bytes_eq (sp ∷ x) k)) [
          | inl t ↦ absurd (true≢false (sym (eq-eqb sp space (ap space_of (bytes_eq-same (sp ∷ x) k t) ∙ e)) ∙ other))
          | inr t ↦ ap (λ b. b || false) t
        ]))
    quiet_inside (with_number f x) more kind (wf, small) q s = quiet_inside f (items.Number ∷ more) kind wf q s
    quiet_inside (with_text f x) more kind (wf, text) q s = quiet_inside f (items.Text ∷ more) kind wf q s
    quiet_inside anything more kind w q s = absurd w
    quiet_inside (observed f) more kind w q s = quiet_inside f [] kind w.1 q s

    pub quiet : (kind : Kind) (t : Fragment) → Fits def t [] kind → is_declaring def space kind ≡ false → (k : Key)
        → space_of k ≡ space → is_among (declared_in def t) k ≡ false
    quiet kind t w q = adds_none t (quiet_inside t [] kind w q)
