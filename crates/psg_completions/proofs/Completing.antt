-- A fragment with a legal completion is open, where the hole rows miss no value.
use Rattle.std.proofs.Common.{◌≡◌, inl, inr, ℕ, Bool, true, false, cond, ◌&&◌, not, List, [], ◌∷◌, ◌++◌, refl, ap, sym, ◌∙◌, subst, true≢false}
use Rattle.std.proofs.lemmas.Bool.{cases_Bool, or_parts}
use Rattle.psg_terms.specs.Terms.{Term}
use Rattle.psg_terms.specs.Names.{is_among}
use Rattle.psg_grammar.specs.declared.types.Kind.{Kind}
use Rattle.psg_grammar.specs.declared.types.Item.{Item}
use Rattle.psg_grammar.specs.declared.types.Definition.{Definition}
use Rattle.psg_grammar.specs.Fragments.{Fragment, hole, ending, cell, operator, with_child, with_name, with_number, with_text, anything, observed}
use Rattle.psg_grammar.specs.Keys.{Key, space_of}
use Rattle.psg_grammar.specs.Lookups.{is_scope, next_item, is_declares, key_of, key_at}
use Rattle.psg_grammar.specs.Declaring.{is_declaring}
use Rattle.psg_grammar.specs.Regions.{declared_inside, declared_in, unfinished_inside}
use Rattle.psg_grammar.specs.WellFormed.{Fits, IsComplete, IsPlain}
use Rattle.psg_grammar.specs.Fillings.{Fills}
use Rattle.psg_grammar.specs.Legal.{Entities, AreEntities, Within, AgreeOutside, Legal, IsCompletableAs}
use Rattle.psg_grammar.specs.Open.{Choice, Holds, IsOpenAs, Agrees, AgreeOpen, IsOfHoleRow}
use Rattle.psg_completions.proofs.NameLaws.{none_both, none_left, none_right}
use Rattle.psg_completions.proofs.Tops.{IsNode, node_before, list_no_scope}
use Rattle.psg_completions.proofs.Growth.{adds}
use Rattle.psg_completions.proofs.Filled.{same_scope, IsNodeOrList, next_same}
use Rattle.psg_completions.proofs.FilledDistinct.{below_distinct, declares_once}
use Rattle.psg_grammar.specs.declared.types.Kind.TheVariants as kinds
use Rattle.psg_grammar.specs.declared.types.Item.TheVariants as items

and_false : (a b : Bool) → not a && b ≡ false → a ≡ false → b ≡ false
and_false true b e h = absurd (true≢false h)
and_false false b e h = e

module _ (def : Definition) where
  -- What true rows give: hole rows miss no value, and where a kind is not declaring its trees declare nothing.
  pub record IsCovered : Type 0 where
    pub covered : (kind : Kind) (t : Fragment) (inner : Entities) (v : Term) (before after : List Term)
        → Fits def t [] kind → IsComplete t → IsPlain t → AreEntities def inner
        → Legal def inner t [] v before after → (before ≡ after) × ((r : ℕ) × IsOfHoleRow def kind r v)
    pub quiet : (space : ℕ) (kind : Kind) (t : Fragment) → Fits def t [] kind → is_declaring def space kind ≡ false
        → (k : Key) → space_of k ≡ space → is_among (declared_in def t) k ≡ false

  -- keys of the space that the one list doesn't have aren't in the other
  abbrev NoMore : ℕ → List Key → List Key → Type 0
  NoMore space xs ys = (k : Key) → space_of k ≡ space → is_among xs k ≡ false → is_among ys k ≡ false

  no_more : (space : ℕ) (xs ys us vs : List Key) → NoMore space xs us → NoMore space ys vs
      → NoMore space (xs ++ ys) (us ++ vs)
  no_more space xs ys us vs a b k e h = none_both us vs k (a k e (none_left xs ys k h)) (b k e (none_right xs ys k h))

  abbrev DeclaresAlike : Fragment → Fragment → Kind → Type 0
  DeclaresAlike f t kind = IsNodeOrList def f kind → (space : ℕ) → unfinished_inside def space f ≡ false
      → NoMore space (declared_inside def f) (declared_inside def t)

  module _ (rules : IsCovered) where
    same_adds : (space : ℕ) (c c' : Fragment) (kind : Kind) → is_scope def c' ≡ is_scope def c → IsNodeOrList def c kind
        → (not (is_scope def c) && unfinished_inside def space c) ≡ false → DeclaresAlike c c' kind
        → NoMore space (adds def c) (adds def c')
    same_adds space c c' kind s n u d =
        subst (λ b. NoMore space (adds def c) (cond b [] (declared_inside def c'))) (sym s)
        (elim (cases_Bool (is_scope def c)) [
          | inl t ↦ subst (λ b. NoMore space (cond b [] (declared_inside def c)) (cond b [] (declared_inside def c')))
              (sym t) (λ k e q. refl)
          | inr f ↦ subst (λ b. NoMore space (cond b [] (declared_inside def c)) (cond b [] (declared_inside def c')))
              (sym f) (d n space (and_false (is_scope def c) (unfinished_inside def space c) u f))
        ])

    -- a child adds no more keys when it is filled
    adds_same : (space : ℕ) (c c' : Fragment) (kind : Kind) → Fits def c [] kind → Fills def c c'
        → (not (is_scope def c) && unfinished_inside def space c) ≡ false → DeclaresAlike c c' kind
        → NoMore space (adds def c) (adds def c')
    adds_same space (hole p) c' kind w h u d =
        λ k e n. rules.quiet space (kinds.Phylum p) c' h.0.0
        (subst (λ x. is_declaring def space x ≡ false) w.1 (w.3 space)) k e
    adds_same space (ending l true) c' kind w h u d =
        same_adds space (ending l true) c' kind (list_no_scope def c' l h.0.0) (inr (l, w.1)) u d
    adds_same space (ending l false) c' kind w h u d =
        same_adds space (ending l false) c' kind (ap (is_scope def) h) (inr (l, w.1)) u d
    adds_same space (cell l e r) c' kind w (e', r', eq, he, hr) u d =
        same_adds space (cell l e r) c' kind (ap (is_scope def) eq) (inr (l, w.1)) u d
    adds_same space (operator o) c' kind w h u d =
        same_adds space (operator o) c' kind (same_scope def (operator o) c' [] kind w tt h) (inl tt) u d
    adds_same space (with_child f x) c' kind w h u d =
        same_adds space (with_child f x) c' kind (same_scope def (with_child f x) c' [] kind w tt h) (inl tt) u d
    adds_same space (with_name f x) c' kind w h u d =
        same_adds space (with_name f x) c' kind (same_scope def (with_name f x) c' [] kind w tt h) (inl tt) u d
    adds_same space (with_number f x) c' kind w h u d =
        same_adds space (with_number f x) c' kind (same_scope def (with_number f x) c' [] kind w tt h) (inl tt) u d
    adds_same space (with_text f x) c' kind w h u d =
        same_adds space (with_text f x) c' kind (same_scope def (with_text f x) c' [] kind w tt h) (inl tt) u d
    adds_same space anything c' kind w h u d = absurd w
    adds_same space (observed f) c' kind w (f', e, hf) u d =
        subst (λ y. NoMore space (adds def f) (adds def y)) (sym e)
        (adds_same space f f' kind w.1 hf u (subst (λ y. DeclaresAlike f y kind) e d))

    -- a node with the same name more
    alike_name : (space : ℕ) (f f' : Fragment) (x : Key) (t : Fragment) → t ≡ with_name f' x
        → next_item def f' ≡ next_item def f → NoMore space (declared_inside def f) (declared_inside def f')
        → NoMore space (declared_inside def (with_name f x)) (declared_inside def t)
    alike_name space f f' x t eq next h =
        subst (λ y. NoMore space (declared_inside def (with_name f x)) (declared_inside def y)) (sym eq)
        (subst (λ i. NoMore space (declared_inside def (with_name f x))
        (declared_inside def f' ++ cond (is_declares i) (key_of i x ∷ []) [])) (sym next)
        (no_more space (declared_inside def f) (cond (is_declares (next_item def f)) (key_at def f x ∷ []) [])
        (declared_inside def f') (cond (is_declares (next_item def f)) (key_at def f x ∷ []) []) h (λ k e n. n)))

    alike_same : (space : ℕ) (f f' t : Fragment) → declared_inside def t ≡ declared_inside def f'
        → NoMore space (declared_inside def f) (declared_inside def f')
        → NoMore space (declared_inside def f) (declared_inside def t)
    alike_same space f f' t e h = subst (λ y. NoMore space (declared_inside def f) y) (sym e) h

    -- a region that is finished in the space declares no more keys of it when it is filled
    declares_alike : (f t : Fragment) (more : List Item) (kind : Kind) → Fits def f more kind → Fills def f t
        → DeclaresAlike f t kind
    declares_alike (hole p) t more kind w h (inl n) space u = absurd n
    declares_alike (hole p) t more kind w h (inr (l, e)) space u = let d : kinds.Phylum p ≡ kinds.List l =
        sym w.1 ∙ e in cc
    declares_alike (ending l true) t more kind w h n space u =
        λ k e q. subst (λ b. is_among (cond b [] (declared_inside def t)) k ≡ false) (list_no_scope def t l h.0.0)
        (rules.quiet space (kinds.List l) t h.0.0 u k e)
    declares_alike (ending l false) t more kind w h n space u = λ k e q. ap (λ y. is_among (declared_inside def y) k) h
    declares_alike (cell l e r) t more kind (none, k, lk, found, we, wr, free) (e', r', eq, he, hr) n space u =
        let (ue, ur) =
        or_parts (not (is_scope def e) && unfinished_inside def space e) (unfinished_inside def space r) u in
        subst (λ y. NoMore space (declared_inside def (cell l e r)) (declared_inside def y)) (sym eq)
        (no_more space (adds def e) (declared_inside def r) (adds def e') (declared_inside def r')
        (adds_same space e e' (kinds.Phylum lk.element) we he ue
        (declares_alike e e' [] (kinds.Phylum lk.element) we he))
        (declares_alike r r' [] (kinds.List l) wr hr (inr (l, refl)) space ur))
    declares_alike (operator o) t more kind w h n space u = λ k e q. ap (λ y. is_among (declared_inside def y) k) h
    declares_alike (with_child f c) t more kind (k, wf, wc) (f', c', eq, hf, hc) n space u =
        let (uf, uc) =
        or_parts (unfinished_inside def space f) (not (is_scope def c) && unfinished_inside def space c) u in
        subst (λ y. NoMore space (declared_inside def (with_child f c)) (declared_inside def y)) (sym eq)
        (no_more space (declared_inside def f) (adds def c) (declared_inside def f') (adds def c')
        (declares_alike f f' (items.Slot k ∷ more) kind wf hf (inl (node_before def f (items.Slot k) more kind wf))
        space uf) (adds_same space c c' k wc hc uc (declares_alike c c' [] k wc hc)))
    declares_alike (with_name f x) t more kind (inl (sp, wf), name) (f', eq, hf) n space u =
        let b = node_before def f (items.Refers sp) more kind wf in
        alike_name space f f' x t eq (next_same def f f' (items.Refers sp ∷ more) kind wf b hf)
        (declares_alike f f' (items.Refers sp ∷ more) kind wf hf (inl b) space u)
    declares_alike (with_name f x) t more kind (inr (sp, wf), name) (f', eq, hf) n space u =
        let b = node_before def f (items.Declares sp) more kind wf in
        alike_name space f f' x t eq (next_same def f f' (items.Declares sp ∷ more) kind wf b hf)
        (declares_alike f f' (items.Declares sp ∷ more) kind wf hf (inl b) space u)
    declares_alike (with_number f x) t more kind (wf, small) (f', eq, hf) n space u =
        alike_same space f f' t (ap (declared_inside def) eq)
        (declares_alike f f' (items.Number ∷ more) kind wf hf (inl (node_before def f items.Number more kind wf)) space
        u)
    declares_alike (with_text f x) t more kind (wf, text) (f', eq, hf) n space u =
        alike_same space f f' t (ap (declared_inside def) eq)
        (declares_alike f f' (items.Text ∷ more) kind wf hf (inl (node_before def f items.Text more kind wf)) space u)
    declares_alike anything t more kind w h n space u = absurd w
    declares_alike (observed f) t more kind w (f', e, hf) n space u =
        alike_same space f f' t (ap (declared_inside def) e) (declares_alike f f' [] kind w.1 hf n space u)

    -- how a child holds inside: by entities that the open judgement allows
    pub record HoldsInside (c : Fragment) (g : Entities) (v : Term) (before after : List Term) : Type 0 where
      pub choice : Choice c
      pub inner : Entities
      pub entities : AreEntities def inner
      pub agrees : Agrees def c g inner
      pub holds : Holds def inner c choice [] v before after

    open_within : (c c' : Fragment) (kind : Kind) (scope : Bool) (g inner : Entities) → DeclaresAlike c c' kind
        → IsNodeOrList def c kind
        → Within scope (AgreeOutside (declared_inside def c')) g inner
        → Within scope (AgreeOpen (λ s. unfinished_inside def s c) (declared_inside def c)) g inner
    open_within c c' kind false g inner d n h = h
    open_within c c' kind true g inner d n h = λ x u e. h x (d n (space_of x) u x refl e)

    -- a node or list, filled by a legal tree, holds; the columns are the same
    abbrev HoldsAs : Fragment → Fragment → List Item → Type 0
    HoldsAs f t more = (g : Entities) (columns : List Term) (v : Term) (before after : List Term)
        → (more ≡ [] → columns ≡ []) → AreEntities def g → Legal def g t columns v before after
        → (c : Choice f) × Holds def g f c columns v before after

    node_holds : (c c' : Fragment) (kind : Kind) → Fits def c [] kind → IsNode def c → Fills def c c' → HoldsAs c c' []
        → (g inner : Entities) (v : Term) (before after : List Term) → AreEntities def inner
        → Within (is_scope def c') (AgreeOutside (declared_inside def c')) g inner
        → Legal def inner c' [] v before after → HoldsInside c g v before after
    node_holds c c' kind w n h ih g inner v before after ei a l =
        let (choice, it) = ih inner [] v before after (λ e. refl) ei l in
        record {
          choice = choice;
          inner = inner;
          entities = ei;
          agrees =
              open_within c c' kind (is_scope def c) g inner (declares_alike c c' [] kind w h) (inl n)
              (subst (λ b. Within b (AgreeOutside (declared_inside def c')) g inner)
              (same_scope def c c' [] kind w n h) a);
          holds = it;
        }

    -- what holds for the observed node holds for the node
    unwrap : (f f' c' : Fragment) → c' ≡ observed f' → HoldsAs (observed f) c' [] → HoldsAs f f' []
    unwrap f f' c' e ih g columns v before after cols eg l =
        let (ch, (m, same, h)) =
        ih g columns v (v ∷ before) after cols eg
        (subst (λ y. Legal def g y columns v (v ∷ before) after) (sym e) (before, refl, l)) in
        let is : before ≡ m = (let q : v ∷ before ≡ v ∷ m = same in cc) in
        (ch, subst (λ x. Holds def g f ch columns v x after) (sym is) h)

    child_holds : (c c' : Fragment) (kind : Kind) → Fits def c [] kind → Fills def c c' → HoldsAs c c' []
        → (g inner : Entities) (v : Term) (before after : List Term) → AreEntities def g → AreEntities def inner
        → Within (is_scope def c') (AgreeOutside (declared_inside def c')) g inner
        → Legal def inner c' [] v before after → HoldsInside c g v before after
    child_holds (hole p) c' kind w h ih g inner v before after eg ei a l =
        let (same, (r, row)) = rules.covered (kinds.Phylum p) c' inner v before after h.0.0 h.1 h.0.1 ei l in
        record { choice = r; inner = g; entities = eg; agrees = refl; holds = (refl, same, row) }
    child_holds (ending k true) c' kind w h ih g inner v before after eg ei a l =
        let (same, (r, row)) = rules.covered (kinds.List k) c' inner v before after h.0.0 h.1 h.0.1 ei l in
        record { choice = r; inner = g; entities = eg; agrees = refl; holds = (refl, same, row) }
    child_holds (ending k false) c' kind w h ih g inner v before after eg ei a l =
        let (c, it) = ih inner [] v before after (λ e. refl) ei l in
        record {
          choice = c;
          inner = inner;
          entities = ei;
          agrees = subst (λ b. Within b (AgreeOutside (declared_inside def c')) g inner) (ap (is_scope def) h) a;
          holds = it;
        }
    child_holds (cell k e r) c' kind w (e', r', eq, he, hr) ih g inner v before after eg ei a l =
        let (c, it) = ih inner [] v before after (λ x. refl) ei l in
        record {
          choice = c;
          inner = inner;
          entities = ei;
          agrees = subst (λ b. Within b (AgreeOutside (declared_inside def c')) g inner) (ap (is_scope def) eq) a;
          holds = it;
        }
    child_holds (operator o) c' kind w h ih g inner v before after eg ei a l =
        node_holds (operator o) c' kind w tt h ih g inner v before after ei a l
    child_holds (with_child f x) c' kind w h ih g inner v before after eg ei a l =
        node_holds (with_child f x) c' kind w tt h ih g inner v before after ei a l
    child_holds (with_name f x) c' kind w h ih g inner v before after eg ei a l =
        node_holds (with_name f x) c' kind w tt h ih g inner v before after ei a l
    child_holds (with_number f x) c' kind w h ih g inner v before after eg ei a l =
        node_holds (with_number f x) c' kind w tt h ih g inner v before after ei a l
    child_holds (with_text f x) c' kind w h ih g inner v before after eg ei a l =
        node_holds (with_text f x) c' kind w tt h ih g inner v before after ei a l
    child_holds anything c' kind w h ih g inner v before after eg ei a l = absurd w
    child_holds (observed f) c' kind w (f', e, hf) ih g inner v before after eg ei a l =
        let (mid, bm, l') = subst (λ y. Legal def inner y [] v before after) e l in
        let r =
        child_holds f f' kind w.1 hf (unwrap f f' c' e ih) g inner v mid after eg ei
        (subst (λ y. Within (is_scope def y) (AgreeOutside (declared_inside def y)) g inner) e a) l' in
        record {
          choice = r.choice;
          inner = r.inner;
          entities = r.entities;
          agrees = r.agrees;
          holds = (mid, bm, r.holds);
        }

    -- what is legal after filling holds before it
    pub holds_of_legal : (f t : Fragment) (more : List Item) (kind : Kind) → Fits def f more kind → Fills def f t
        → HoldsAs f t more
    holds_of_legal (hole p) t more kind w h g columns v before after cols eg l =
        let none = cols w.0 in
        let (same, (r, row)) =
        rules.covered (kinds.Phylum p) t g v before after h.0.0 h.1 h.0.1 eg
        (subst (λ x. Legal def g t x v before after) none l) in
        (r, (none, same, row))
    holds_of_legal (ending k true) t more kind w h g columns v before after cols eg l =
        let none = cols w.0 in
        let (same, (r, row)) =
        rules.covered (kinds.List k) t g v before after h.0.0 h.1 h.0.1 eg
        (subst (λ x. Legal def g t x v before after) none l) in
        (r, (none, same, row))
    holds_of_legal (ending k false) t more kind w h g columns v before after cols eg l =
        let (none, same, lk, row, r, found, chosen, value) = subst (λ x. Legal def g x columns v before after) h l in
        (r, (none, same, record { kind = lk; list = found; row = row; chosen = chosen; value = value }))
    holds_of_legal (cell k e r) t more kind (m, kk, wk, wfound, we, wr, free) (e', r', eq, he, hr) g columns v before
        after cols eg l =
        let (none, lk, row, number, first, others, mid, inner, found, chosen, value, ei, a, le, lr) =
        subst (λ x. Legal def g x columns v before after) eq l in
        let ce =
        child_holds e e' (kinds.Phylum wk.element) we he (holds_of_legal e e' [] (kinds.Phylum wk.element) we he) g
        inner first before mid eg ei a le in
        let (cr, hrest) = holds_of_legal r r' [] (kinds.List k) wr hr g [] others mid after (λ x. refl) eg lr in (
          (number, ce.choice, cr),
          (
            none,
            first,
            others,
            mid,
            ce.inner,
            record { kind = lk; list = found; row = row; chosen = chosen; value = value },
            ce.entities,
            ce.agrees,
            ce.holds,
            hrest,
          ),
        )
    holds_of_legal (operator o) t more kind w h g columns v before after cols eg l =
        let (same, op, row, r, found, chosen, value) = subst (λ x. Legal def g x columns v before after) h l in
        (r, (same, record { op = op; found = found; row = row; chosen = chosen; value = value }))
    holds_of_legal (with_child f c) t more kind (k, wf, wc) (f', c', eq, hf, hc) g columns v before after cols eg l =
        let (u, mid, inner, lf, ei, a, lc) = subst (λ x. Legal def g x columns v before after) eq l in
        let (cf, hold_f) =
        holds_of_legal f f' (items.Slot k ∷ more) kind wf hf g (u ∷ columns) v before mid (λ e. cc) eg lf in
        let cc' = child_holds c c' k wc hc (holds_of_legal c c' [] k wc hc) g inner u mid after eg ei a lc in
        ((cf, cc'.choice), (u, mid, cc'.inner, hold_f, cc'.entities, cc'.agrees, cc'.holds))
    holds_of_legal (with_name f x) t more kind (inl (sp, wf), name) (f', eq, hf) g columns v before after cols eg l =
        holds_of_legal f f' (items.Refers sp ∷ more) kind wf hf g (g (key_at def f x) ∷ columns) v before after
        (λ e. cc) eg (subst (λ i. Legal def g f' (g (key_of i x) ∷ columns) v before after)
        (next_same def f f' (items.Refers sp ∷ more) kind wf (node_before def f (items.Refers sp) more kind wf) hf)
        (subst (λ y. Legal def g y columns v before after) eq l))
    holds_of_legal (with_name f x) t more kind (inr (sp, wf), name) (f', eq, hf) g columns v before after cols eg l =
        holds_of_legal f f' (items.Declares sp ∷ more) kind wf hf g (g (key_at def f x) ∷ columns) v before after
        (λ e. cc) eg (subst (λ i. Legal def g f' (g (key_of i x) ∷ columns) v before after)
        (next_same def f f' (items.Declares sp ∷ more) kind wf (node_before def f (items.Declares sp) more kind wf) hf)
        (subst (λ y. Legal def g y columns v before after) eq l))
    holds_of_legal (with_number f x) t more kind (wf, small) (f', eq, hf) g columns v before after cols eg l =
        holds_of_legal f f' (items.Number ∷ more) kind wf hf g columns v before after (λ e. cc) eg
        (subst (λ y. Legal def g y columns v before after) eq l)
    holds_of_legal (with_text f x) t more kind (wf, text) (f', eq, hf) g columns v before after cols eg l =
        holds_of_legal f f' (items.Text ∷ more) kind wf hf g columns v before after (λ e. cc) eg
        (subst (λ y. Legal def g y columns v before after) eq l)
    holds_of_legal anything t more kind w h g columns v before after cols eg l = absurd w
    holds_of_legal (observed f) t more kind w (f', e, hf) g columns v before after cols eg l =
        let (mid, bm, l') = subst (λ y. Legal def g y columns v before after) e l in
        let (ch, h) = holds_of_legal f f' [] kind w.1 hf g columns v mid after (λ x. cols w.0) eg l' in
        (ch, (mid, bm, h))

    -- a fragment with a legal completion holds for some choice, under the same entities outside
    pub judged_of_completable : (f : Fragment) (kind : Kind) → Fits def f [] kind → (seen : List Term)
        → IsCompletableAs def f seen
        → (outside : Entities) × AreEntities def outside × ((value : Term) × HoldsInside f outside value seen [])
    judged_of_completable f kind w seen it =
        let legal = it.legal in (
          it.outside,
          it.entities,
          (
            it.value,
            child_holds f it.tree kind w it.fills (holds_of_legal f it.tree [] kind w it.fills) it.outside legal.inner
                it.value seen [] it.entities legal.entities legal.agree legal.legal,
          ),
        )

    -- a tree with a legal completion is open, with the same values of its observed nodes
    pub open_of_completable : (f : Fragment) (kind : Kind) → Fits def f [] kind → (seen : List Term)
        → IsCompletableAs def f seen → IsOpenAs def f seen
    open_of_completable f kind w seen it =
        let (outside, ents, (value, h)) = judged_of_completable f kind w seen it in
        record {
          distinct = (
            declares_once def f kind w it.tree it.fills it.distinct.0,
            below_distinct def f it.tree [] kind w it.fills it.distinct.1,
          );
          choice = h.choice;
          outside = outside;
          entities = ents;
          value = value;
          judged = record { inner = h.inner; entities = h.entities; agree = h.agrees; holds = h.holds };
        }
