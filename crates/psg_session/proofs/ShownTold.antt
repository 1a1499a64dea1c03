-- The values of a node in its tree have a relation.
use Rattle.std.proofs.Common.{◌≡◌, inl, inr, ℕ, zero, suc, ◌+◌, cond, List, [], ◌∷◌, ◌++◌, length, Some, slice_get, refl, sym, ◌∙◌, ap, subst, arith}
use Rattle.std.proofs.lemmas.Bool.Decides.{eqb_tells}
use Rattle.std.proofs.lemmas.Option.{none-some, option_and_then_some}
use Rattle.psg_terms.proofs.Lists.{slice_get-end}
use Rattle.psg_terms.specs.Relations.{IsRelation}
use Rattle.psg_grammar.specs.declared.types.Kind.{Kind}
use Rattle.psg_grammar.specs.declared.types.Kind.TheVariants as kinds
use Rattle.psg_grammar.specs.declared.types.Item.{Item}
use Rattle.psg_grammar.specs.declared.types.Item.TheVariants as items
use Rattle.psg_grammar.specs.declared.types.Definition.{Definition}
use Rattle.psg_grammar.specs.Fragments.{anything, cell, children_of, ending, Fragment, hole, observed, operator, with_child, with_name, with_number, with_text}
use Rattle.psg_grammar.specs.Paths.{change_at, change_child, node_at, observe, Path}
use Rattle.psg_grammar.specs.Sound.{IsSound}
use Rattle.psg_grammar.specs.WellFormed.{Fits, IsPlain, IsUnobserved}
use Rattle.psg_relation.specs.Choices.{all_picked, IsProjected, picked}
use Rattle.psg_relation.proofs.Columns.{all_sorted, projected}
use Rattle.psg_relation.proofs.Existing.{relation_exists}
use Rattle.psg_eval.specs.Trees.{seen_in}
use Rattle.psg_focus.proofs.SeenRows.{seen_relation, whole_sorts}
use Rattle.psg_session.specs.Told.{HasRelations, HasShownRelations}
use Rattle.psg_session.proofs.AllTold.{IsSimple, plain_simple, silent, tree_told}

before_end : {X : Type 0} (xs : List X) (x y : X) (k : ℕ) → slice_get (xs ++ x ∷ []) k ≡ Some y → (length xs ≡ k → ⊥)
    → slice_get xs k ≡ Some y
before_end [] x y zero e other = absurd (other refl)
before_end [] x y (suc k) e other = absurd (none-some y e)
before_end (z ∷ xs) x y zero e other = e
before_end (z ∷ xs) x y (suc k) e other = before_end xs x y k e (λ d. other (ap suc d))

module _ (def : Definition) where
  -- the tree stays of its kind, and one value is observed in it
  pub record Watched (f : Fragment) (more : List Item) (kind : Kind) : Type 0 where
    pub fits : Fits def f more kind
    pub simple : IsSimple f
    pub one : seen_in f ≡ 1

  -- where this is so of a child, it is of the tree
  module _ (g : Fragment → Fragment) where
    abbrev Child : Fragment → Type 0
    Child c = (K : Kind) → Fits def c [] K → IsPlain c → Watched (g c) [] K

    abbrev Changed : Fragment → List Item → Kind → Type 0
    Changed f more kind = Watched f more kind × IsUnobserved f

    at_child : (c d : Fragment) → c ≡ d → Child d → Child c
    at_child c d e h = subst Child (sym e) h

    changed : (f : Fragment) (more : List Item) (kind : Kind) → Fits def f more kind → IsPlain f
        → (k : ℕ) (c : Fragment)
        → slice_get (children_of f) k ≡ Some c → Child c → Changed (change_child g k f) more kind
    changed (cell l e r) more kind (none, is, list, found, he, hr, u) p zero c at h =
        let same : e ≡ c = cc in
        let w = at_child e c same h (kinds.Phylum list.element) he p.0 in
        let a = w.one in
        let b = silent def r [] (kinds.List l) hr p.1 in (
          record {
            fits = (none, is, list, found, w.fits, hr, u);
            simple = (w.simple, plain_simple r p.1);
            one = omega (arith, a, b);
          },
          tt,
        )
    changed (cell l e r) more kind (none, is, list, found, he, hr, u) p (suc k) c at h =
        let (w, still) = changed r [] (kinds.List l) hr p.1 k c at h in
        let a = w.one in
        let b = silent def e [] (kinds.Phylum list.element) he p.0 in (
          record {
            fits = (none, is, list, found, he, w.fits, still);
            simple = (plain_simple e p.0, w.simple);
            one = omega (arith, a, b);
          },
          tt,
        )
    changed (with_child f t) more kind (K, hf, ht) p k c at h = elim (eqb_tells (length (children_of f)) k) [
      | inl last ↦
          let there : slice_get (children_of f ++ t ∷ []) k ≡ Some t =
          subst (λ n. slice_get (children_of f ++ t ∷ []) n ≡ Some t) last.1 (slice_get-end (children_of f) t) in
          let same : t ≡ c = let d : Some t ≡ Some c = sym there ∙ at in cc in
          let w = at_child t c same h K ht p.1 in
          let a = w.one in
          let b = silent def f (items.Slot K ∷ more) kind hf p.0 in
          subst (λ b. Changed (cond b (with_child f (g t)) (with_child (change_child g k f) t)) more kind) (sym last.0) (
            record { fits = (K, hf, w.fits); simple = (plain_simple f p.0, w.simple); one = omega (arith, a, b) },
            tt,
          )
      | inr other ↦
          let (w, still) = changed f (items.Slot K ∷ more) kind hf p.0 k c (before_end (children_of f) t c k at other.1)
          h in
          let a = w.one in
          let b = silent def t [] K ht p.1 in
          subst (λ b. Changed (cond b (with_child f (g t)) (with_child (change_child g k f) t)) more kind) (sym other.0) (
            record { fits = (K, w.fits, ht); simple = (w.simple, plain_simple t p.1); one = omega (arith, a, b) },
            tt,
          )
    ]
    changed (with_name f n) more kind (inl (s, hf), name) p k c at h =
        let (w, still) = changed f (items.Refers s ∷ more) kind hf p k c at h in
        (record { fits = (inl (s, w.fits), name); simple = w.simple; one = w.one }, tt)
    changed (with_name f n) more kind (inr (s, hf), name) p k c at h =
        let (w, still) = changed f (items.Declares s ∷ more) kind hf p k c at h in
        (record { fits = (inr (s, w.fits), name); simple = w.simple; one = w.one }, tt)
    changed (with_number f n) more kind (hf, small) p k c at h =
        let (w, still) = changed f (items.Number ∷ more) kind hf p k c at h in
        (record { fits = (w.fits, small); simple = w.simple; one = w.one }, tt)
    changed (with_text f t) more kind (hf, text) p k c at h =
        let (w, still) = changed f (items.Text ∷ more) kind hf p k c at h in
        (record { fits = (w.fits, text); simple = w.simple; one = w.one }, tt)
    changed (hole x) more kind hf p k c at h = absurd (none-some c at)
    changed (ending l u) more kind hf p k c at h = absurd (none-some c at)
    changed (operator o) more kind hf p k c at h = absurd (none-some c at)
    changed anything more kind hf p k c at h = absurd hf
    changed (observed f) more kind hf p k c at h = absurd p

  pub watched : (path : Path) (f : Fragment) (kind : Kind) (node : Fragment) → Fits def f [] kind → IsPlain f
      → node_at f path ≡ Some node → Watched (observe path f) [] kind
  watched [] f kind node h plain at =
      let bare = silent def f [] kind h plain in
      record {
        fits = (refl, h);
        simple = (plain, plain_simple f plain);
        one = let z : 1 + seen_in f ≡ 1 = omega (arith, bare) in z;
      }
  watched (k ∷ path) f kind node h plain at =
      option_and_then_some (λ t. node_at t path) (slice_get (children_of f) k) node at
      (λ c child below. (changed (change_at observed path) f [] kind h plain k c child (λ K hc pc. watched path c K node
      hc pc below)).0)

  module _ (sound : IsSound def) where
    pub some_relations : HasRelations def
    some_relations f kind (h, plain) =
        let t = tree_told def sound f kind h (plain_simple f plain) in (t.known.rel, t.of.rows)

    pub some_shown : HasShownRelations def
    some_shown f kind path node (h, plain) at =
        let w = watched path f kind node h plain at in
        let t = tree_told def sound (observe path f) kind w.fits w.simple in
        let one = t.of.seen ∙ w.one in
        let ss = whole_sorts def t.known t.usual one in
        let (rel, made) = relation_exists def.signature sound.signature (all_picked t.known.rel (1 ∷ []))
        (picked ss (1 ∷ []))
        (all_sorted def.signature t.known.rel (1 ∷ []) ss t.usual.sorted) in
        let r : IsRelation def.signature (picked ss (1 ∷ [])) (IsProjected def.signature t.known.rel (1 ∷ [])) rel =
        projected def.signature t.known.rel (1 ∷ []) (picked ss (1 ∷ [])) rel made in
        (rel, seen_relation def t.known t.usual one (observe path f) t.of rel r)
