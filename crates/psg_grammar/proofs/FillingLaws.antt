-- Paths of a tree stay paths of what fills it.
use Rattle.std.proofs.Common.{◌≡◌, ◌⊎◌, inl, inr, ℕ, zero, suc, ◌+◌, Bool, true, false, List, [], ◌∷◌, ◌++◌, length, slice_get, option_and_then, Option, Some, None, refl, ap, sym, ◌∙◌, subst, arith, length-append}
use Rattle.std.proofs.lemmas.Option.{slice_get_past, same_Some}
use Rattle.psg_grammar.specs.declared.types.Kind.{Kind}
use Rattle.psg_grammar.specs.declared.types.Kind.TheVariants as kinds
use Rattle.psg_grammar.specs.declared.types.Item.{Item}
use Rattle.psg_grammar.specs.declared.types.Item.TheVariants as items
use Rattle.psg_grammar.specs.declared.types.Definition.{Definition}
use Rattle.psg_grammar.specs.Fragments.{Fragment, hole, ending, cell, operator, with_child, with_name, with_number, with_text, anything, observed, children_of}
use Rattle.psg_grammar.specs.Paths.{Path, node_at}
use Rattle.psg_grammar.specs.WellFormed.{Fits, WellFormed}
use Rattle.psg_grammar.specs.Fillings.{Fills}
use Rattle.psg_grammar.specs.Ways.{IsThere, KeepsPaths}
use Rattle.psg_grammar.proofs.PathLaws.{Spot, before, at_end, past, spot, got_front, got_next, step}

more_items : (i : Item) (more : List Item) → i ∷ more ≡ [] → ⊥
more_items i more e = cc

module _ (def : Definition) where
  -- what fills an operator with some of its parts has as many children
  count_filled : (f t : Fragment) (i : Item) (more : List Item) (kind : Kind) → Fits def f (i ∷ more) kind → Fills def f t
      → length (children_of f) ≡ length (children_of t)
  count_filled (hole p) t i more kind h fills = absurd (more_items i more h.0)
  count_filled (ending l u) t i more kind h fills = absurd (more_items i more h.0)
  count_filled (cell l e r) t i more kind h fills = absurd (more_items i more h.0)
  count_filled (operator o) t i more kind h fills = ap (λ x. length (children_of x)) (sym fills)
  count_filled (with_child f c) t i more kind (k, hf, hc) (f', c', e, ff, fc) =
      length-append (children_of f) (c ∷ []) ∙ ap (λ n. n + 1) (count_filled f f' (items.Slot k) (i ∷ more) kind hf ff)
      ∙ sym (length-append (children_of f') (c' ∷ [])) ∙ ap (λ x. length (children_of x)) (sym e)
  count_filled (with_name f n) t i more kind (inl (s, h), name) (f', e, ff) =
      count_filled f f' (items.Refers s) (i ∷ more) kind h ff ∙ ap (λ x. length (children_of x)) (sym e)
  count_filled (with_name f n) t i more kind (inr (s, h), name) (f', e, ff) =
      count_filled f f' (items.Declares s) (i ∷ more) kind h ff ∙ ap (λ x. length (children_of x)) (sym e)
  count_filled (with_number f n) t i more kind (h, small) (f', e, ff) =
      count_filled f f' items.Number (i ∷ more) kind h ff ∙ ap (λ x. length (children_of x)) (sym e)
  count_filled (with_text f n) t i more kind (h, text) (f', e, ff) =
      count_filled f f' items.Text (i ∷ more) kind h ff ∙ ap (λ x. length (children_of x)) (sym e)
  count_filled anything t i more kind h fills = absurd h
  count_filled (observed f) t i more kind h fills = absurd (more_items i more h.0)

  -- a child with what fills it at the same place
  pub record IsFilledAt (t : Fragment) (k : ℕ) (s : Fragment) : Type 0 where
    pub there : Fragment
    pub found : slice_get (children_of t) k ≡ Some there
    pub fills : Fills def s there
    pub kind : Kind
    pub fits : Fits def s [] kind

  moved : (t u : Fragment) (k : ℕ) (s : Fragment) → t ≡ u → IsFilledAt u k s → IsFilledAt t k s
  moved t u k s e h = subst (λ x. IsFilledAt x k s) (sym e) h

  lengthened : (f' c' : Fragment) (k : ℕ) (s : Fragment) → IsFilledAt f' k s → ((x : Fragment) → slice_get (children_of f') k ≡ Some x → slice_get (children_of f' ++ c' ∷ []) k ≡ Some x)
      → IsFilledAt (with_child f' c') k s
  lengthened f' c' k s h front = record { there = h.there; found = front h.there h.found; fills = h.fills; kind = h.kind; fits = h.fits }

  child_filled : (f t : Fragment) (more : List Item) (kind : Kind) → Fits def f more kind → Fills def f t → (k : ℕ) (s : Fragment)
      → slice_get (children_of f) k ≡ Some s → IsFilledAt t k s
  child_filled (hole p) t more kind h fills k s e = absurd (cc)
  child_filled (ending l u) t more kind h fills k s e = absurd (cc)
  child_filled (cell l c r) t more kind (n, i, kl, at, hc, hr, un) (c', r', d, fc, fr) zero s e =
      moved t (cell l c' r') 0 s d (record {
        there = c';
        found = refl;
        fills = subst (λ x. Fills def x c') (same_Some c s e) fc;
        kind = kinds.Phylum kl.element;
        fits = subst (λ x. Fits def x [] (kinds.Phylum kl.element)) (same_Some c s e) hc;
      })
  child_filled (cell l c r) t more kind (n, i, kl, at, hc, hr, un) (c', r', d, fc, fr) (suc k) s e =
      let inner = child_filled r r' [] (kinds.List l) hr fr k s e in
      moved t (cell l c' r') (suc k) s d (record { there = inner.there; found = inner.found; fills = inner.fills; kind = inner.kind; fits = inner.fits })
  child_filled (operator o) t more kind h fills k s e = absurd (cc)
  child_filled (with_child f c) t more kind (kc, hf, hc) (f', c', d, ff, fc) k s e =
      let n : length (children_of f) ≡ length (children_of f') = count_filled f f' (items.Slot kc) more kind hf ff in
      moved t (with_child f' c') k s d
      (elim (spot (children_of f) k) [
        | before h ↦
            lengthened f' c' k s (child_filled f f' (items.Slot kc ∷ more) kind hf ff k s (sym (got_front (children_of f) (c ∷ []) k h) ∙ e))
            (λ x g. got_front (children_of f') (c' ∷ []) k (omega (arith, n, h)) ∙ g)
        | at_end h ↦ (
            let same : c ≡ s = same_Some c s (sym (got_next (children_of f) c k h) ∙ e) in
            record {
              there = c';
              found = got_next (children_of f') c' k (omega (arith, n, h));
              fills = subst (λ x. Fills def x c') same fc;
              kind = kc;
              fits = subst (λ x. Fits def x [] kc) same hc;
            })
        | past h ↦ absurd (let none : None ≡ Some s = sym (slice_get_past (children_of f ++ c ∷ []) k (omega (arith, h, length-append (children_of f) (c ∷ [])))) ∙ e in cc)
      ])
  child_filled (with_name f m) t more kind (inl (j, h), name) (f', d, ff) k s e =
      let inner = child_filled f f' (items.Refers j ∷ more) kind h ff k s e in
      moved t (with_name f' m) k s d (record { there = inner.there; found = inner.found; fills = inner.fills; kind = inner.kind; fits = inner.fits })
  child_filled (with_name f m) t more kind (inr (j, h), name) (f', d, ff) k s e =
      let inner = child_filled f f' (items.Declares j ∷ more) kind h ff k s e in
      moved t (with_name f' m) k s d (record { there = inner.there; found = inner.found; fills = inner.fills; kind = inner.kind; fits = inner.fits })
  child_filled (with_number f m) t more kind (h, small) (f', d, ff) k s e =
      let inner = child_filled f f' (items.Number ∷ more) kind h ff k s e in
      moved t (with_number f' m) k s d (record { there = inner.there; found = inner.found; fills = inner.fills; kind = inner.kind; fits = inner.fits })
  child_filled (with_text f m) t more kind (h, text) (f', d, ff) k s e =
      let inner = child_filled f f' (items.Text ∷ more) kind h ff k s e in
      moved t (with_text f' m) k s d (record { there = inner.there; found = inner.found; fills = inner.fills; kind = inner.kind; fits = inner.fits })
  child_filled anything t more kind h fills k s e = absurd h
  child_filled (observed f) t more kind (none, h) (f', d, ff) k s e =
      let inner = child_filled f f' [] kind h ff k s e in
      moved t (observed f') k s d (record { there = inner.there; found = inner.found; fills = inner.fills; kind = inner.kind; fits = inner.fits })

  path_filled : (path : Path) (f t : Fragment) (kind : Kind) → Fits def f [] kind → Fills def f t → (node : Fragment) → node_at f path ≡ Some node
      → IsThere (Fills def node) (node_at t path)
  path_filled [] f t kind h fills node e = subst (λ x. Fills def x t) (same_Some f node e) fills
  path_filled (k ∷ path) f t kind h fills node e =
      let c = step (slice_get (children_of f) k) path node e in
      let inner = child_filled f t [] kind h fills k c.0 c.1 in
      subst (λ o. IsThere (Fills def node) (option_and_then (λ x. node_at x path) o)) (sym inner.found)
      (path_filled path c.0 inner.there inner.kind inner.fits inner.fills node c.2)

pub keeps_paths : (def : Definition) → KeepsPaths def
keeps_paths def f t kind formed fills path node e = path_filled def path f t kind formed.0 fills node e
