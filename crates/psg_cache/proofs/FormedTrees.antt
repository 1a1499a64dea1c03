-- Trees stay well-formed as commands change them.
use Rattle.std.proofs.Common.{◌≡◌, inl, inr, ℕ, zero, suc, Bool, true, cond, List, [], ◌∷◌, ◌++◌, length, slice_get, Some, refl, sym, subst}
use Rattle.std.proofs.lemmas.Option.{none-some}
use Rattle.std.proofs.lemmas.Bool.Decides.{eqb_tells}
use Rattle.psg_completions.proofs.Growth.{unobserved}
use Rattle.psg_grammar.proofs.PathLaws.{step}
use Rattle.psg_terms.proofs.Lists.{slice_get-end_is, slice_get-not_end}
use Rattle.psg_grammar.specs.declared.types.Kind.{Kind}
use Rattle.psg_grammar.specs.declared.types.Kind.TheVariants as kinds
use Rattle.psg_grammar.specs.declared.types.Item.{Item}
use Rattle.psg_grammar.specs.declared.types.Item.TheVariants as items
use Rattle.psg_grammar.specs.declared.types.ListKind.{ListKind}
use Rattle.psg_grammar.specs.declared.types.Definition.{Definition}
use Rattle.psg_grammar.specs.Fragments.{Fragment, hole, ending, cell, operator, with_child, with_name, with_number, with_text, anything, observed, children_of}
use Rattle.psg_grammar.specs.Kinds.{IsOfKind}
use Rattle.psg_grammar.specs.Paths.{Path, node_at, change_child, change_at, replaced, inserted, removed, ended}
use Rattle.psg_grammar.specs.WellFormed.{Fits, IsPlain, WellFormed}
use Rattle.psg_cache.specs.Notes.{IsFormed}
use Rattle.psg_cache.proofs.Each.{each_got}
use Rattle.psg_cache.proofs.ChildLaws.{formed_below}
use Rattle.psg_cache.proofs.Evaluations.{kind_fits, one_kind}

same_list : (l m : ℕ) → kinds.List l ≡ kinds.List m → m ≡ l
same_list l m e = cc

module _ (def : Definition) where
  -- ---- kinds

  pub formed_is_kind : (f : Fragment) (kind : Kind) → WellFormed def f kind → IsOfKind def f kind
  formed_is_kind f kind (fits, plain) = kind_fits def f [] kind fits plain

  pub kind_once : (f : Fragment) (a b : Kind) → IsOfKind def f a → IsOfKind def f b → a ≡ b
  kind_once f a b h i = one_kind def f a b h i

  -- ---- a change below

  -- a node stays of its kind where a child is changed to one of the child's kind
  child_changed : (g : Fragment → Fragment) (f : Fragment) (more : List Item) (kind : Kind) (k : ℕ) (c : Fragment)
      → Fits def f more kind → IsPlain f → slice_get (children_of f) k ≡ Some c
      → ((K : Kind) → WellFormed def c K → WellFormed def (g c) K)
      → Fits def (change_child g k f) more kind × IsPlain (change_child g k f)
  child_changed g (hole p) more kind k c fits plain at keeps = absurd (none-some c at)
  child_changed g (ending l u) more kind k c fits plain at keeps = absurd (none-some c at)
  child_changed g (cell l e r) more kind zero c (a, b, list, found, fe, fr, z) plain at keeps =
      let same : c ≡ e = cc in
      let element = kinds.Phylum list.element in
      let (fits, flat) = keeps element (subst (λ x. WellFormed def x element) (sym same) (fe, plain.0)) in (
        (a, b, list, found, subst (λ x. Fits def (g x) [] element) same fits, fr, z),
        (subst (λ x. IsPlain (g x)) same flat, plain.1),
      )
  child_changed g (cell l e r) more kind (suc k) c (a, b, list, found, fe, fr, z) plain at keeps =
      let (fits, flat) = child_changed g r [] (kinds.List l) k c fr plain.1 at keeps in
      ((a, b, list, found, fe, fits, unobserved (change_child g k r) flat), (plain.0, flat))
  child_changed g (operator o) more kind k c fits plain at keeps = absurd (none-some c at)
  child_changed g (with_child f t) more kind k c (K, ff, ft) plain at keeps =
      let Keeps : Bool → Type 0 =
      λ b. Fits def (cond b (with_child f (g t)) (with_child (change_child g k f) t)) more kind
      × IsPlain (cond b (with_child f (g t)) (with_child (change_child g k f) t)) in
      elim (eqb_tells (length (children_of f)) k) [
        | inl e ↦
            let there = subst (λ n. slice_get (children_of f ++ t ∷ []) n ≡ Some c) (sym e.1) at in
            let same : c ≡ t = slice_get-end_is (children_of f) t c there in
            let (fits, flat) = keeps K (subst (λ x. WellFormed def x K) (sym same) (ft, plain.1)) in
            subst Keeps (sym e.0) (
              (K, ff, subst (λ x. Fits def (g x) [] K) same fits),
              (plain.0, subst (λ x. IsPlain (g x)) same flat),
            )
        | inr e ↦
            let (fits, flat) = child_changed g f (items.Slot K ∷ more) kind k c ff plain.0
            (slice_get-not_end (children_of f) t c k e.1 at) keeps in
            subst Keeps (sym e.0) ((K, fits, ft), (flat, plain.1))
      ]
  child_changed g (with_name f n) more kind k c (inl (s, h), name) plain at keeps =
      let (fits, flat) = child_changed g f (items.Refers s ∷ more) kind k c h plain at keeps in
      ((inl (s, fits), name), flat)
  child_changed g (with_name f n) more kind k c (inr (s, h), name) plain at keeps =
      let (fits, flat) = child_changed g f (items.Declares s ∷ more) kind k c h plain at keeps in
      ((inr (s, fits), name), flat)
  child_changed g (with_number f n) more kind k c (h, small) plain at keeps =
      let (fits, flat) = child_changed g f (items.Number ∷ more) kind k c h plain at keeps in ((fits, small), flat)
  child_changed g (with_text f t) more kind k c (h, text) plain at keeps =
      let (fits, flat) = child_changed g f (items.Text ∷ more) kind k c h plain at keeps in ((fits, text), flat)
  child_changed g anything more kind k c fits plain at keeps = absurd fits
  child_changed g (observed f) more kind k c fits plain at keeps = absurd plain

  -- a tree stays of its kind where a node is changed to one of the node's kind
  pub changed_formed : (g : Fragment → Fragment) (f : Fragment) (kind : Kind) (path : Path) (node : Fragment)
      → WellFormed def f kind → node_at f path ≡ Some node
      → ((K : Kind) → WellFormed def node K → WellFormed def (g node) K) → WellFormed def (change_at g path f) kind
  changed_formed g f kind [] node h at keeps =
      let same : f ≡ node = cc in
      subst (λ x. WellFormed def (g x) kind) (sym same) (keeps kind (subst (λ x. WellFormed def x kind) same h))
  changed_formed g f kind (k ∷ path) node (fits, plain) at keeps =
      let (c, child, below) = step (slice_get (children_of f) k) path node at in
      child_changed (change_at g path) f [] kind k c fits plain child
      (λ K h. changed_formed g c K path node h below keeps)

  -- a tree in place of a node of its kind
  pub replaced_formed : (f : Fragment) (kind : Kind) (path : Path) (node new : Fragment) (K : Kind)
      → WellFormed def f kind → node_at f path ≡ Some node → IsOfKind def node K → WellFormed def new K
      → WellFormed def (replaced path new f) kind
  replaced_formed f kind path node new K h at same_kind fresh =
      changed_formed (λ old. new) f kind path node h at
      (λ J formed. subst (WellFormed def new) (kind_once node K J same_kind (formed_is_kind node J formed)) fresh)

  -- a node of a tree is a tree of some kind
  pub node_formed : (f : Fragment) (kind : Kind) (path : Path) (node : Fragment) → WellFormed def f kind
      → node_at f path ≡ Some node → (K : Kind) × WellFormed def node K
  node_formed f kind [] node h at = let same : f ≡ node = cc in (kind, subst (λ x. WellFormed def x kind) same h)
  node_formed f kind (k ∷ path) node (fits, plain) at =
      let (c, child, below) = step (slice_get (children_of f) k) path node at in
      let (K, formed) = each_got (IsFormed def) (children_of f) k c (formed_below def f [] kind fits plain) child in
      node_formed c K path node formed below

  -- ---- lists

  there : (l m : ℕ) (k : ListKind) → kinds.List l ≡ kinds.List m → slice_get def.lists l ≡ Some k
      → slice_get def.lists m ≡ Some k
  there l m k e found = subst (λ n. slice_get def.lists n ≡ Some k) (sym (same_list l m e)) found

  pub inserted_formed : (n : ℕ) (new f : Fragment) (l : ℕ) (k : ListKind) → WellFormed def f (kinds.List l)
      → slice_get def.lists l ≡ Some k → WellFormed def new (kinds.Phylum k.element)
      → WellFormed def (inserted n new f) (kinds.List l)
  inserted_formed zero new (ending m u) l k ((a, b, end), plain) found (fresh, flat) =
      ((refl, b, k, there l m k b found, fresh, (refl, refl, end), tt), (flat, tt))
  inserted_formed zero new (cell m e r) l k ((a, b, own, at, fe, fr, z), plain) found (fresh, flat) =
      ((refl, b, k, there l m k b found, fresh, (refl, refl, own, at, fe, fr, z), tt), (flat, plain))
  inserted_formed (suc n) new (cell m e r) l k ((a, b, own, at, fe, fr, z), plain) found fresh =
      let (fits, flat) = inserted_formed n new r m k (fr, plain.1) (there l m k b found) fresh in
      ((refl, b, own, at, fe, fits, unobserved (inserted n new r) flat), (plain.0, flat))
  inserted_formed zero new _ l k h found fresh = h
  inserted_formed (suc n) new _ l k h found fresh = h

  pub removed_formed : (n : ℕ) (f : Fragment) (kind : Kind) → WellFormed def f kind → WellFormed def (removed n f) kind
  removed_formed zero (cell l e r) kind ((a, b, own, at, fe, fr, z), plain) =
      subst (WellFormed def r) (sym b) (fr, plain.1)
  removed_formed (suc n) (cell l e r) kind ((a, b, own, at, fe, fr, z), plain) =
      let (fits, flat) = removed_formed n r (kinds.List l) (fr, plain.1) in
      ((a, b, own, at, fe, fits, unobserved (removed n r) flat), (plain.0, flat))
  removed_formed zero _ kind h = h
  removed_formed (suc n) _ kind h = h

  pub ended_formed : (u : Bool) (f : Fragment) (l : ℕ) (k : ListKind) → WellFormed def f (kinds.List l)
      → slice_get def.lists l ≡ Some k → (u ≡ true → k.unfinished ≡ true) → WellFormed def (ended u f) (kinds.List l)
  ended_formed u (cell m e r) l k ((a, b, own, at, fe, fr, z), plain) found may =
      let (fits, flat) = ended_formed u r m k (fr, plain.1) (there l m k b found) may in
      ((a, b, own, at, fe, fits, unobserved (ended u r) flat), (plain.0, flat))
  ended_formed u (ending m v) l k ((a, b, end), plain) found may = ((a, b, (k, there l m k b found, may)), tt)
  ended_formed u _ l k h found may = h
