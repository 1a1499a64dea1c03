-- A tree declares no key twice where what fills it declares none twice.
use Rattle.std.proofs.Common.{◌≡◌, inl, inr, true, false, cond, ◌||◌, List, [], ◌∷◌, ◌++◌, bytes_eq, refl, ap, ap₂, sym, ◌∙◌, subst, true≢false}
use Rattle.std.proofs.lemmas.Bool.{or_parts}
use Rattle.psg_terms.specs.Names.{is_among, has_twice}
use Rattle.psg_grammar.specs.declared.types.Kind.{Kind}
use Rattle.psg_grammar.specs.declared.types.Item.{Item}
use Rattle.psg_grammar.specs.declared.types.Definition.{Definition}
use Rattle.psg_grammar.specs.Fragments.{Fragment, hole, ending, cell, operator, with_child, with_name, with_number, with_text, anything, observed}
use Rattle.psg_grammar.specs.Keys.{Key}
use Rattle.psg_grammar.specs.Lookups.{is_scope, next_item, is_declares, key_of, key_at}
use Rattle.psg_grammar.specs.Regions.{declared_inside, DistinctBelow, AreDistinct}
use Rattle.psg_grammar.specs.WellFormed.{Fits}
use Rattle.psg_grammar.specs.Fillings.{Fills}
use Rattle.psg_completions.proofs.Tops.{IsNode, node_before}
use Rattle.psg_completions.proofs.Growth.{adds}
use Rattle.psg_completions.proofs.Filled.{same_scope, IsNodeOrList, next_same}
use Rattle.psg_grammar.specs.declared.types.Kind.TheVariants as kinds
use Rattle.psg_grammar.specs.declared.types.Item.TheVariants as items

-- the names of the first list stand in the second one, in order
data Sub : List Key → List Key → Type 0 where
  ended : Sub [] []
  kept : {n : Key} {xs ys : List Key} → Sub xs ys → Sub (n ∷ xs) (n ∷ ys)
  skipped : {n : Key} {xs ys : List Key} → Sub xs ys → Sub xs (n ∷ ys)

sub_none : (ys : List Key) → Sub [] ys
sub_none [] = ended
sub_none (y ∷ ys) = skipped (sub_none ys)

sub_same : (xs : List Key) → Sub xs xs
sub_same [] = ended
sub_same (x ∷ xs) = kept (sub_same xs)

sub_append : (xs ys us vs : List Key) → Sub xs ys → Sub us vs → Sub (xs ++ us) (ys ++ vs)
sub_append [] [] us vs ended s = s
sub_append (x ∷ xs) (y ∷ ys) us vs (kept r) s = kept (sub_append xs ys us vs r s)
sub_append (x ∷ xs) [] us vs r s = elim r [ ]
sub_append xs (y ∷ ys) us vs (skipped r) s = skipped (sub_append xs ys us vs r s)

sub_among : {xs ys : List Key} (n : Key) → Sub xs ys → is_among ys n ≡ false → is_among xs n ≡ false
sub_among n ended e = refl
sub_among n (kept {n = m} {xs = xs} {ys = ys} r) e = let (a, b) = or_parts (bytes_eq m n) (is_among ys n) e in
    ap₂ (λ x y. x || y) a (sub_among n r b)
sub_among n (skipped {n = m} {ys = ys} r) e = sub_among n r (or_parts (bytes_eq m n) (is_among ys n) e).1

sub_twice : {xs ys : List Key} → Sub xs ys → has_twice ys ≡ false → has_twice xs ≡ false
sub_twice ended e = refl
sub_twice (kept {n = n} {ys = ys} r) e = let (a, b) = or_parts (is_among ys n) (has_twice ys) e in
    ap₂ (λ x y. x || y) (sub_among n r a) (sub_twice r b)
sub_twice (skipped {n = n} {ys = ys} r) e = sub_twice r (or_parts (is_among ys n) (has_twice ys) e).1

sub_once : (xs ys : List Key) → Sub xs ys → has_twice ys ≡ false → has_twice xs ≡ false
sub_once xs ys r e = sub_twice r e

module _ (def : Definition) where
  sub_scope : (c c' : Fragment) → is_scope def c' ≡ is_scope def c
      → Sub (declared_inside def c) (declared_inside def c') → Sub (adds def c) (adds def c')
  sub_scope c c' s d =
      subst (λ b. Sub (adds def c) (cond b [] (declared_inside def c'))) (sym s)
      (elim (is_scope def c) as (λ b. Sub (cond b [] (declared_inside def c)) (cond b [] (declared_inside def c')))
      [ true ↦ ended | false ↦ d ])

  named_sub : (f f' : Fragment) (x : Key) (t : Fragment) (more : List Item) (kind : Kind) → Fits def f more kind
      → IsNode def f → t ≡ with_name f' x → Fills def f f' → Sub (declared_inside def f) (declared_inside def f')
      → Sub (declared_inside def (with_name f x)) (declared_inside def t)
  named_sub f f' x t more kind w n eq h d =
      subst (λ y. Sub (declared_inside def (with_name f x)) (declared_inside def y)) (sym eq)
      (subst (λ i. Sub (declared_inside def (with_name f x))
      (declared_inside def f' ++ cond (is_declares i) (key_of i x ∷ []) []))
      (sym (next_same def f f' more kind w n h))
      (sub_append (declared_inside def f) (declared_inside def f')
      (cond (is_declares (next_item def f)) (key_at def f x ∷ []) [])
      (cond (is_declares (next_item def f)) (key_at def f x ∷ []) []) d
      (sub_same (cond (is_declares (next_item def f)) (key_at def f x ∷ []) []))))

  -- a child adds no names that its filling doesn't add
  adds_sub : (c c' : Fragment) (kind : Kind) → Fits def c [] kind → Fills def c c'
      → (IsNodeOrList def c kind → Sub (declared_inside def c) (declared_inside def c'))
      → Sub (adds def c) (adds def c')
  adds_sub (hole p) c' kind w h d = sub_none (adds def c')
  adds_sub (ending l true) c' kind w h d = sub_none (adds def c')
  adds_sub (ending l false) c' kind w h d = sub_none (adds def c')
  adds_sub (cell l e r) c' kind w (e', r', eq, he, hr) d =
      sub_scope (cell l e r) c' (ap (is_scope def) eq) (d (inr (l, w.1)))
  adds_sub (operator o) c' kind w h d =
      sub_scope (operator o) c' (same_scope def (operator o) c' [] kind w tt h) (d (inl tt))
  adds_sub (with_child f x) c' kind w h d =
      sub_scope (with_child f x) c' (same_scope def (with_child f x) c' [] kind w tt h) (d (inl tt))
  adds_sub (with_name f x) c' kind w h d =
      sub_scope (with_name f x) c' (same_scope def (with_name f x) c' [] kind w tt h) (d (inl tt))
  adds_sub (with_number f x) c' kind w h d =
      sub_scope (with_number f x) c' (same_scope def (with_number f x) c' [] kind w tt h) (d (inl tt))
  adds_sub (with_text f x) c' kind w h d =
      sub_scope (with_text f x) c' (same_scope def (with_text f x) c' [] kind w tt h) (d (inl tt))
  adds_sub anything c' kind w h d = absurd w
  adds_sub (observed f) c' kind w (f', e, hf) d =
      subst (λ y. Sub (adds def f) (adds def y)) (sym e)
      (adds_sub f f' kind w.1 hf (λ n. subst (λ y. Sub (declared_inside def f) (declared_inside def y)) e (d n)))

  -- the names that a tree declares are declared by its filling, in order
  declares_sub : (f t : Fragment) (more : List Item) (kind : Kind) → Fits def f more kind → Fills def f t
      → IsNodeOrList def f kind → Sub (declared_inside def f) (declared_inside def t)
  declares_sub (hole p) t more kind w h n = sub_none (declared_inside def t)
  declares_sub (ending l true) t more kind w h n = sub_none (declared_inside def t)
  declares_sub (ending l false) t more kind w h n = sub_none (declared_inside def t)
  declares_sub (cell l e r) t more kind (none, k, lk, found, we, wr, free) (e', r', eq, he, hr) n =
      subst (λ x. Sub (declared_inside def (cell l e r)) (declared_inside def x)) (sym eq)
      (sub_append (adds def e) (adds def e') (declared_inside def r) (declared_inside def r')
      (adds_sub e e' (kinds.Phylum lk.element) we he (declares_sub e e' [] (kinds.Phylum lk.element) we he))
      (declares_sub r r' [] (kinds.List l) wr hr (inr (l, refl))))
  declares_sub (operator o) t more kind w h n = sub_none (declared_inside def t)
  declares_sub (with_child f c) t more kind (k, wf, wc) (f', c', eq, hf, hc) n =
      subst (λ x. Sub (declared_inside def (with_child f c)) (declared_inside def x)) (sym eq)
      (sub_append (declared_inside def f) (declared_inside def f') (adds def c) (adds def c')
      (declares_sub f f' (items.Slot k ∷ more) kind wf hf (inl (node_before def f (items.Slot k) more kind wf)))
      (adds_sub c c' k wc hc (declares_sub c c' [] k wc hc)))
  declares_sub (with_name f x) t more kind (inl (sp, wf), name) (f', eq, hf) n =
      named_sub f f' x t (items.Refers sp ∷ more) kind wf (node_before def f (items.Refers sp) more kind wf) eq hf
      (declares_sub f f' (items.Refers sp ∷ more) kind wf hf (inl (node_before def f (items.Refers sp) more kind wf)))
  declares_sub (with_name f x) t more kind (inr (sp, wf), name) (f', eq, hf) n =
      named_sub f f' x t (items.Declares sp ∷ more) kind wf (node_before def f (items.Declares sp) more kind wf) eq hf
      (declares_sub f f' (items.Declares sp ∷ more) kind wf hf
      (inl (node_before def f (items.Declares sp) more kind wf)))
  declares_sub (with_number f x) t more kind (wf, small) (f', eq, hf) n =
      subst (λ y. Sub (declared_inside def f) (declared_inside def y)) (sym eq)
      (declares_sub f f' (items.Number ∷ more) kind wf hf (inl (node_before def f items.Number more kind wf)))
  declares_sub (with_text f x) t more kind (wf, text) (f', eq, hf) n =
      subst (λ y. Sub (declared_inside def f) (declared_inside def y)) (sym eq)
      (declares_sub f f' (items.Text ∷ more) kind wf hf (inl (node_before def f items.Text more kind wf)))
  declares_sub anything t more kind w h n = absurd w
  declares_sub (observed f) t more kind w (f', e, hf) n =
      subst (λ y. Sub (declared_inside def f) (declared_inside def y)) (sym e) (declares_sub f f' [] kind w.1 hf n)

  child_distinct : (c c' : Fragment) (kind : Kind) → Fits def c [] kind → Fills def c c'
      → AreDistinct (is_scope def c') (declared_inside def c') → AreDistinct (is_scope def c) (declared_inside def c)
  child_distinct (hole p) c' kind w h d e = absurd (true≢false (sym e))
  child_distinct (ending l u) c' kind w h d e = absurd (true≢false (sym e))
  child_distinct (cell l a r) c' kind w h d e = absurd (true≢false (sym e))
  child_distinct (operator o) c' kind w h d e =
      sub_once (declared_inside def (operator o)) (declared_inside def c')
      (declares_sub (operator o) c' [] kind w h (inl tt)) (d (same_scope def (operator o) c' [] kind w tt h ∙ e))
  child_distinct (with_child f x) c' kind w h d e =
      sub_once (declared_inside def (with_child f x)) (declared_inside def c')
      (declares_sub (with_child f x) c' [] kind w h (inl tt))
      (d (same_scope def (with_child f x) c' [] kind w tt h ∙ e))
  child_distinct (with_name f x) c' kind w h d e =
      sub_once (declared_inside def (with_name f x)) (declared_inside def c')
      (declares_sub (with_name f x) c' [] kind w h (inl tt)) (d (same_scope def (with_name f x) c' [] kind w tt h ∙ e))
  child_distinct (with_number f x) c' kind w h d e =
      sub_once (declared_inside def (with_number f x)) (declared_inside def c')
      (declares_sub (with_number f x) c' [] kind w h (inl tt))
      (d (same_scope def (with_number f x) c' [] kind w tt h ∙ e))
  child_distinct (with_text f x) c' kind w h d e =
      sub_once (declared_inside def (with_text f x)) (declared_inside def c')
      (declares_sub (with_text f x) c' [] kind w h (inl tt)) (d (same_scope def (with_text f x) c' [] kind w tt h ∙ e))
  child_distinct anything c' kind w h d e = absurd w
  child_distinct (observed f) c' kind w (f', eq, hf) d e =
      child_distinct f f' kind w.1 hf (subst (λ y. AreDistinct (is_scope def y) (declared_inside def y)) eq d) e

  pub below_distinct : (f t : Fragment) (more : List Item) (kind : Kind) → Fits def f more kind → Fills def f t
      → DistinctBelow def t → DistinctBelow def f
  below_distinct (hole p) t more kind w h d = tt
  below_distinct (ending l u) t more kind w h d = tt
  below_distinct (cell l e r) t more kind (none, k, lk, found, we, wr, free) (e', r', eq, he, hr) d =
      let (de, ae, dr) = subst (DistinctBelow def) eq d in (
        below_distinct e e' [] (kinds.Phylum lk.element) we he de,
        child_distinct e e' (kinds.Phylum lk.element) we he ae,
        below_distinct r r' [] (kinds.List l) wr hr dr,
      )
  below_distinct (operator o) t more kind w h d = tt
  below_distinct (with_child f c) t more kind (k, wf, wc) (f', c', eq, hf, hc) d =
      let (df, dc, ac) = subst (DistinctBelow def) eq d in (
        below_distinct f f' (items.Slot k ∷ more) kind wf hf df,
        below_distinct c c' [] k wc hc dc,
        child_distinct c c' k wc hc ac,
      )
  below_distinct (with_name f x) t more kind (inl (sp, wf), name) (f', eq, hf) d =
      below_distinct f f' (items.Refers sp ∷ more) kind wf hf (subst (DistinctBelow def) eq d)
  below_distinct (with_name f x) t more kind (inr (sp, wf), name) (f', eq, hf) d =
      below_distinct f f' (items.Declares sp ∷ more) kind wf hf (subst (DistinctBelow def) eq d)
  below_distinct (with_number f x) t more kind (wf, small) (f', eq, hf) d =
      below_distinct f f' (items.Number ∷ more) kind wf hf (subst (DistinctBelow def) eq d)
  below_distinct (with_text f x) t more kind (wf, text) (f', eq, hf) d =
      below_distinct f f' (items.Text ∷ more) kind wf hf (subst (DistinctBelow def) eq d)
  below_distinct anything t more kind w h d = absurd w
  below_distinct (observed f) t more kind w (f', e, hf) d =
      below_distinct f f' [] kind w.1 hf (subst (DistinctBelow def) e d)

  pub declares_once : (x : Fragment) (k : Kind) → Fits def x [] k → (t : Fragment) → Fills def x t
      → has_twice (declared_inside def t) ≡ false → has_twice (declared_inside def x) ≡ false
  declares_once (hole p) k wx t h d = refl
  declares_once (ending l u) k wx t h d = refl
  declares_once (cell l e r) k wx t h d =
      sub_once (declared_inside def (cell l e r)) (declared_inside def t)
      (declares_sub (cell l e r) t [] k wx h (inr (l, wx.1))) d
  declares_once (operator o) k wx t h d = refl
  declares_once (with_child g x) k wx t h d =
      sub_once (declared_inside def (with_child g x)) (declared_inside def t)
      (declares_sub (with_child g x) t [] k wx h (inl tt)) d
  declares_once (with_name g x) k wx t h d =
      sub_once (declared_inside def (with_name g x)) (declared_inside def t)
      (declares_sub (with_name g x) t [] k wx h (inl tt)) d
  declares_once (with_number g x) k wx t h d =
      sub_once (declared_inside def (with_number g x)) (declared_inside def t)
      (declares_sub (with_number g x) t [] k wx h (inl tt)) d
  declares_once (with_text g x) k wx t h d =
      sub_once (declared_inside def (with_text g x)) (declared_inside def t)
      (declares_sub (with_text g x) t [] k wx h (inl tt)) d
  declares_once anything k wx t h d = absurd wx
  declares_once (observed g) k wx t (g', e, h) d =
      declares_once g k wx.1 g' h (subst (λ y. has_twice (declared_inside def y) ≡ false) e d)
