-- A tree whose node at a path is observed is of the tree's kind.
use Rattle.std.proofs.Common.{◌≡◌, inl, inr, ℕ, zero, suc, ◌+◌, ◌==◌, true, false, cond, List, [], ◌∷◌, ◌++◌, length, slice_get, option_and_then, Option, Some, None, refl, sym, ◌∙◌, subst, arith, length-append, eq-eqb}
use Rattle.std.proofs.lemmas.Bool.Decides.{eqb_tells}
use Rattle.std.proofs.lemmas.Option.{none-some, slice_get_past}
use Rattle.psg_grammar.specs.declared.types.Kind.{Kind}
use Rattle.psg_grammar.specs.declared.types.Kind.TheVariants as kinds
use Rattle.psg_grammar.specs.declared.types.Item.{Item}
use Rattle.psg_grammar.specs.declared.types.Item.TheVariants as items
use Rattle.psg_grammar.specs.declared.types.Definition.{Definition}
use Rattle.psg_grammar.specs.Fragments.{Fragment, hole, ending, cell, operator, with_child, with_name, with_number, with_text, anything, observed, children_of}
use Rattle.psg_grammar.specs.Paths.{Path, node_at, change_child, observe}
use Rattle.psg_grammar.specs.WellFormed.{Fits, IsUnobserved}
use Rattle.psg_grammar.proofs.PathLaws.{before, at_end, past, spot, got_front, got_next}

-- a change of a child does not observe the node above it
change_unobserved : (g : Fragment → Fragment) (k : ℕ) (f : Fragment) → IsUnobserved f
    → IsUnobserved (change_child g k f)
change_unobserved g k (hole p) h = tt
change_unobserved g k (ending l u) h = tt
change_unobserved g zero (cell l e r) h = tt
change_unobserved g (suc k) (cell l e r) h = tt
change_unobserved g k (operator o) h = tt
change_unobserved g k (with_child f t) h =
    elim (length (children_of f) == k) as
    (λ b. IsUnobserved (cond b (with_child f (g t)) (with_child (change_child g k f) t))) [ true ↦ tt | false ↦ tt ]
change_unobserved g k (with_name f n) h = tt
change_unobserved g k (with_number f n) h = tt
change_unobserved g k (with_text f n) h = tt
change_unobserved g k anything h = tt
change_unobserved g k (observed f) h = absurd h

module _ (def : Definition) where
  -- the change keeps each kind of the tree
  abbrev Keeps : (Fragment → Fragment) → Fragment → Type 0
  Keeps g t = (kind : Kind) → Fits def t [] kind → Fits def (g t) [] kind

  keeps_same : (g : Fragment → Fragment) (t u : Fragment) → Some t ≡ Some u → Keeps g u → Keeps g t
  keeps_same g t u e h = let same : t ≡ u = cc in subst (Keeps g) (sym same) h

  child_fits : (g : Fragment → Fragment) (k : ℕ) (f : Fragment) (more : List Item) (kind : Kind) (t : Fragment)
      → slice_get (children_of f) k ≡ Some t → Keeps g t
      → Fits def f more kind → Fits def (change_child g k f) more kind
  child_fits g k (hole p) more kind t e keeps h = absurd (none-some t e)
  child_fits g k (ending l u) more kind t e keeps h = absurd (none-some t e)
  child_fits g zero (cell l c r) more kind t e keeps (a, b, lk, at, hc, hr, free) =
      (a, b, lk, at, keeps_same g c t e keeps (kinds.Phylum lk.element) hc, hr, free)
  child_fits g (suc k) (cell l c r) more kind t e keeps (a, b, lk, at, hc, hr, free) =
      (a, b, lk, at, hc, child_fits g k r [] (kinds.List l) t e keeps hr, change_unobserved g k r free)
  child_fits g k (operator o) more kind t e keeps h = absurd (none-some t e)
  child_fits g k (with_child f c) more kind t e keeps (s, hf, hc) = elim (spot (children_of f) k) [
    | before lt ↦
        let there : slice_get (children_of f) k ≡ Some t = sym (got_front (children_of f) (c ∷ []) k lt) ∙ e in
        let other : (length (children_of f) == k) ≡ false =
        elim (eqb_tells (length (children_of f)) k)
        [ inl x ↦ absurd (let y = x.1 in omega (arith, lt, y)) | inr x ↦ x.0 ] in
        subst (λ b. Fits def (cond b (with_child f (g c)) (with_child (change_child g k f) c)) more kind) (sym other)
        (s, child_fits g k f (items.Slot s ∷ more) kind t there keeps hf, hc)
    | at_end is ↦
        let here : (length (children_of f) == k) ≡ true = eq-eqb (length (children_of f)) k is in
        subst (λ b. Fits def (cond b (with_child f (g c)) (with_child (change_child g k f) c)) more kind) (sym here)
        (s, hf, keeps_same g c t (sym (got_next (children_of f) c k is) ∙ e) keeps s hc)
    | past lt ↦
        let l : length (children_of f ++ c ∷ []) ≡ length (children_of f) + 1 =
        length-append (children_of f) (c ∷ []) in
        absurd (none-some t (sym (slice_get_past (children_of f ++ c ∷ []) k (omega (arith, lt, l))) ∙ e))
  ]
  child_fits g k (with_name f n) more kind t e keeps (inl (s, h), name) =
      (inl (s, child_fits g k f (items.Refers s ∷ more) kind t e keeps h), name)
  child_fits g k (with_name f n) more kind t e keeps (inr (s, h), name) =
      (inr (s, child_fits g k f (items.Declares s ∷ more) kind t e keeps h), name)
  child_fits g k (with_number f n) more kind t e keeps (h, small) =
      (child_fits g k f (items.Number ∷ more) kind t e keeps h, small)
  child_fits g k (with_text f n) more kind t e keeps (h, text) =
      (child_fits g k f (items.Text ∷ more) kind t e keeps h, text)
  child_fits g k anything more kind t e keeps h = absurd h
  child_fits g k (observed f) more kind t e keeps (none, h) = (none, child_fits g k f [] kind t e keeps h)

  pub observe_fits : (path : Path) (f : Fragment) (kind : Kind) (node : Fragment) → node_at f path ≡ Some node
      → Fits def f [] kind → Fits def (observe path f) [] kind
  observe_fits [] f kind node e h = (refl, h)
  observe_fits (k ∷ path) f kind node e h =
      go (λ t at s i. observe_fits path t s node at i) (slice_get (children_of f) k) refl e where
        go : ((t : Fragment) → node_at t path ≡ Some node → Keeps (observe path) t) → (o : Option Fragment)
            → slice_get (children_of f) k ≡ o → option_and_then (λ t. node_at t path) o ≡ Some node
            → Fits def (change_child (observe path) k f) [] kind
        go rest None at e = absurd (none-some node e)
        go rest (Some t) at e = child_fits (observe path) k f [] kind t at (rest t e) h
