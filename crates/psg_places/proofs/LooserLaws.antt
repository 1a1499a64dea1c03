-- What completes a tree completes it too where parts of it are placeholders or unfinished ends.
use Rattle.std.proofs.Common.{◌≡◌, inl, inr, true, false, List, [], ◌∷◌, refl, sym, subst, ℕ}
use Rattle.psg_terms.specs.Names.{Name}
use Rattle.psg_grammar.specs.declared.types.Kind.{Kind}
use Rattle.psg_grammar.specs.declared.types.Kind.TheVariants as kinds
use Rattle.psg_grammar.specs.declared.types.Item.{Item}
use Rattle.psg_grammar.specs.declared.types.Item.TheVariants as items
use Rattle.psg_grammar.specs.declared.types.Definition.{Definition}
use Rattle.psg_grammar.specs.Fragments.{Fragment, hole, ending, cell, operator, with_child, with_name, with_number, with_text, anything, observed}
use Rattle.psg_grammar.specs.Fillings.{Fills}
use Rattle.psg_grammar.specs.Legal.{IsCompletable}
use Rattle.psg_grammar.specs.Open.{IsOpen}
use Rattle.psg_grammar.specs.Sound.{IsSound}
use Rattle.psg_grammar.specs.WellFormed.{Fits, IsComplete, IsPlain, IsUnobserved, WellFormed}
use Rattle.psg_completions.specs.Conditions.{HasTrueRows}
use Rattle.psg_completions.proofs.Law.{open_or_completable}

pub seen_plain : (f : Fragment) → IsPlain f → IsUnobserved f
seen_plain (hole p) w = tt
seen_plain (ending l u) w = tt
seen_plain (cell l e r) w = tt
seen_plain (operator o) w = tt
seen_plain (with_child f t) w = tt
seen_plain (with_name f x) w = tt
seen_plain (with_number f x) w = tt
seen_plain (with_text f x) w = tt
seen_plain anything w = tt
seen_plain (observed f) w = w

module _ (def : Definition) where
  -- a complete tree of the kind, where parts of these items still follow
  record IsWhole (t : Fragment) (more : List Item) (kind : Kind) : Type 0 where
    fits : Fits def t more kind
    plain : IsPlain t
    complete : IsComplete t

  as_kind : (t : Fragment) (more : List Item) (kind k : Kind) → more ≡ [] → kind ≡ k → IsWhole t [] k → IsWhole t more kind
  as_kind t more kind k m e h = subst (λ ms. IsWhole t ms kind) (sym m) (subst (λ j. IsWhole t [] j) (sym e) h)

  filled : (f t : Fragment) (more : List Item) (kind : Kind) → Fits def f more kind → IsPlain f → Fills def f t
      → IsWhole t more kind
  filled (hole p) t more kind (m, k, small, holes) pl h =
      as_kind t more kind (kinds.Phylum p) m k (record { fits = h.0.0; plain = h.0.1; complete = h.1 })
  filled (ending l true) t more kind (m, k, end) pl h =
      as_kind t more kind (kinds.List l) m k (record { fits = h.0.0; plain = h.0.1; complete = h.1 })
  filled (ending l false) t more kind w pl h =
      subst (λ x. IsWhole x more kind) (sym h) (record { fits = w; plain = tt; complete = refl })
  filled (cell l e r) t more kind (m, k, own, found, we, wr, free) (pe, pr) (e', r', eq, he, hr) =
      let a = filled e e' [] (kinds.Phylum own.element) we pe he in
      let b = filled r r' [] (kinds.List l) wr pr hr in
      subst (λ x. IsWhole x more kind) (sym eq) (record {
        fits = (m, k, own, found, a.fits, b.fits, seen_plain r' b.plain);
        plain = (a.plain, b.plain);
        complete = (a.complete, b.complete);
      })
  filled (operator o) t more kind w pl h =
      subst (λ x. IsWhole x more kind) (sym h) (record { fits = w; plain = tt; complete = tt })
  filled (with_child f c) t more kind (k, wf, wc) (pf, pc) (f', c', eq, hf, hc) =
      let a = filled f f' (items.Slot k ∷ more) kind wf pf hf in
      let b = filled c c' [] k wc pc hc in
      subst (λ x. IsWhole x more kind) (sym eq)
      (record { fits = (k, a.fits, b.fits); plain = (a.plain, b.plain); complete = (a.complete, b.complete) })
  filled (with_name f x) t more kind (inl (s, wf), name) pl (f', eq, hf) =
      let a = filled f f' (items.Refers s ∷ more) kind wf pl hf in
      subst (λ y. IsWhole y more kind) (sym eq)
      (record { fits = (inl (s, a.fits), name); plain = a.plain; complete = a.complete })
  filled (with_name f x) t more kind (inr (s, wf), name) pl (f', eq, hf) =
      let a = filled f f' (items.Declares s ∷ more) kind wf pl hf in
      subst (λ y. IsWhole y more kind) (sym eq)
      (record { fits = (inr (s, a.fits), name); plain = a.plain; complete = a.complete })
  filled (with_number f x) t more kind (wf, small) pl (f', eq, hf) =
      let a = filled f f' (items.Number ∷ more) kind wf pl hf in
      subst (λ y. IsWhole y more kind) (sym eq)
      (record { fits = (a.fits, small); plain = a.plain; complete = a.complete })
  filled (with_text f x) t more kind (wf, text) pl (f', eq, hf) =
      let a = filled f f' (items.Text ∷ more) kind wf pl hf in
      subst (λ y. IsWhole y more kind) (sym eq)
      (record { fits = (a.fits, text); plain = a.plain; complete = a.complete })
  filled anything t more kind w pl h = absurd w
  filled (observed f) t more kind w pl h = absurd pl

  -- b is a with a placeholder or an unfinished end in place of one of its parts
  pub data Loosens : Fragment → Fragment → Type 0 where
    to_hole : {a : Fragment} (p : ℕ) → WellFormed def a (kinds.Phylum p) → Loosens a (hole p)
    to_end : {a : Fragment} (l : ℕ) → WellFormed def a (kinds.List l) → Loosens a (ending l true)
    in_element : {l : ℕ} {e e' r : Fragment} → Loosens e e' → Loosens (cell l e r) (cell l e' r)
    in_rest : {l : ℕ} {e r r' : Fragment} → Loosens r r' → Loosens (cell l e r) (cell l e r')
    in_node : {f f' t : Fragment} → Loosens f f' → Loosens (with_child f t) (with_child f' t)
    in_child : {f t t' : Fragment} → Loosens t t' → Loosens (with_child f t) (with_child f t')
    before_name : {f f' : Fragment} (x : Name) → Loosens f f' → Loosens (with_name f x) (with_name f' x)
    before_number : {f f' : Fragment} (x : ℕ) → Loosens f f' → Loosens (with_number f x) (with_number f' x)
    before_text : {f f' : Fragment} (x : List ℕ) → Loosens f f' → Loosens (with_text f x) (with_text f' x)

  fills_looser : {a b : Fragment} → Loosens a b → (t : Fragment) → Fills def a t → Fills def b t
  fills_looser (to_hole {a = a} p w) t h =
      let f = filled a t [] (kinds.Phylum p) w.0 w.1 h in ((f.fits, f.plain), f.complete)
  fills_looser (to_end {a = a} l w) t h =
      let f = filled a t [] (kinds.List l) w.0 w.1 h in ((f.fits, f.plain), f.complete)
  fills_looser (in_element r) t (e', r', eq, he, hr) = (e', r', eq, fills_looser r e' he, hr)
  fills_looser (in_rest r) t (e', r', eq, he, hr) = (e', r', eq, he, fills_looser r r' hr)
  fills_looser (in_node r) t (f', c', eq, hf, hc) = (f', c', eq, fills_looser r f' hf, hc)
  fills_looser (in_child r) t (f', c', eq, hf, hc) = (f', c', eq, hf, fills_looser r c' hc)
  fills_looser (before_name x r) t (f', eq, hf) = (f', eq, fills_looser r f' hf)
  fills_looser (before_number x r) t (f', eq, hf) = (f', eq, fills_looser r f' hf)
  fills_looser (before_text x r) t (f', eq, hf) = (f', eq, fills_looser r f' hf)

  pub completable_looser : {a b : Fragment} → Loosens a b → IsCompletable def a → IsCompletable def b
  completable_looser r c = record {
    tree = c.tree;
    fills = fills_looser r c.tree c.fills;
    distinct = c.distinct;
    outside = c.outside;
    entities = c.entities;
    value = c.value;
    legal = c.legal;
  }

  -- What is open is still open, if hole rows are true of trees.
  pub open_looser : {a b : Fragment} → Loosens a b → IsSound def → HasTrueRows def → (kind : Kind) → WellFormed def a kind
      → WellFormed def b kind → IsOpen def a → IsOpen def b
  open_looser {a} {b} r sound rows kind wa wb o =
      (open_or_completable def sound rows b kind wb).1
      (completable_looser r ((open_or_completable def sound rows a kind wa).0 o))
