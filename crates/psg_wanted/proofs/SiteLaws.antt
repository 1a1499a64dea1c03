-- The frames around the placeholders and the lists of a noted tree, and its names.
use Rattle.std.proofs.Common.{◌≡◌, ◌<◌, ◌≤◌, ℕ, Bool, true, List, [], ◌∷◌, length, Option, Some, None, slice_get, refl, ap, sym, subst, ◌∙◌}
use Rattle.std.specs.Prelude.{MatchOption, Vec, bytes_eq}
use Rattle.std.specs.List.{AllByRecursion}
use Rattle.std.specs.declared.alloc.Global.{Global}
use Rattle.std.proofs.lemmas.Bool.{or_left, or_right}
use Rattle.std.proofs.lemmas.Option.{same_Some}
use Rattle.std.proofs.lemmas.Slice.Eq.{bytes_eq-Decides}
use Rattle.psg_terms.specs.Names.{Name, is_among}
use Rattle.psg_terms.specs.Relations.{IsIn, first, later}
use Rattle.psg_grammar.specs.declared.types.Definition.{Definition}
use Rattle.psg_grammar.specs.declared.types.Kind.{Kind}
use Rattle.psg_grammar.specs.declared.types.Kind.TheVariants as kinds
use Rattle.psg_grammar.specs.declared.types.ListKind.{ListKind}
use Rattle.psg_grammar.specs.Fragments.{Fragment, hole, ending, cell, operator, with_child, with_name, with_number}
use Rattle.psg_grammar.specs.Fragments.{with_text, anything, observed}
use Rattle.psg_grammar.specs.Kinds.{IsOfKind}
use Rattle.psg_grammar.specs.Paths.{IsList, Path, node_at}
use Rattle.psg_grammar.specs.Sound.{IsSound}
use Rattle.psg_grammar.specs.Steps.{IsWide}
use Rattle.psg_grammar.proofs.SoundParts.{elements_in}
use Rattle.psg_tree.specs.declared.tree.Shape.{Shape}
use Rattle.psg_tree.specs.declared.tree.Shape.TheVariants.{List as ListOf, Hole}
use Rattle.psg_tree.specs.Shapes.{list_of as elements_of, tree_of}
use Rattle.psg_tree.proofs.Children.{children-list}
use Rattle.psg_eval.specs.declared.frame.Frame.{Frame}
use Rattle.psg_eval.specs.Frames.{CanClimb, StandAt}
use Rattle.psg_cache.specs.Annotated.{Annotated, tree_in}
use Rattle.psg_cache.specs.Edits.{IsNoSummaryAt}
use Rattle.psg_cache.specs.NoteFrames.{AreElementFramesAt, AreFramesAt, IsNoElementAt}
use Rattle.psg_cache.specs.Notes.{IsNoteOf}
use Rattle.psg_cache.proofs.FormedTrees.{node_formed}
use Rattle.psg_renaming.specs.Occurring.{occurring}
use Rattle.psg_menu.specs.Menus.{AreUsed}
use Rattle.psg_wanted.specs.Fronts.{list_of}
use Rattle.psg_wanted.specs.Listed.{IsListAt}

-- ---- the names of a tree are used in it

in_among : (n : Name) (xs : List Name) → IsIn n xs → is_among xs n ≡ true
in_among n [] i = elim i [ ]
in_among n (x ∷ xs) first = or_left (bytes_eq n n) (is_among xs n) ((bytes_eq-Decides n n).1 refl)
in_among n (x ∷ xs) (later i) = or_right (bytes_eq x n) (is_among xs n) (in_among n xs i)

each_among : (all xs : List Name) → ((n : Name) → IsIn n xs → is_among all n ≡ true) → AllByRecursion (λ n. is_among all n ≡ true) xs
each_among all [] h = tt
each_among all (x ∷ xs) h = (h x first, each_among all xs (λ n i. h n (later i)))

pub names_used : (used : List Name) (f : Fragment) → used ≡ occurring f → AreUsed used f
names_used used f e = subst (λ (u : List Name). AreUsed u f) (sym e) (each_among (occurring f) (occurring f) (λ n i. in_among n (occurring f) i))

-- ---- the list of a kind

number_of : (def : Definition) (node : Fragment) (l : ℕ) → IsList node → IsOfKind def node (kinds.List l) → list_of (Some node) ≡ l
number_of def (ending m u) l is e = cc
number_of def (cell m a r) l is e = cc
number_of def (hole p) l is e = absurd is
number_of def (operator o) l is e = absurd is
number_of def (with_child f t) l is e = absurd is
number_of def (with_name f x) l is e = absurd is
number_of def (with_number f x) l is e = absurd is
number_of def (with_text f x) l is e = absurd is
number_of def anything l is e = absurd is
number_of def (observed f) l is e = absurd is

made_list : (l : ℕ) (es : List Fragment) (u : Bool) → IsList (elements_of l es u) × (list_of (Some (elements_of l es u)) ≡ l)
made_list l [] u = (tt, refl)
made_list l (e ∷ es) u = (tt, refl)

-- what is at a path, by its shape
pub list_here : (def : Definition) (f : Fragment) (path : Path) (node : Fragment) (s : Shape) (l : ℕ) (es : List Fragment) (u : Bool) (kind : ListKind) (place phylum : ℕ)
    → node_at f path ≡ Some node → tree_of s ≡ node → s ≡ ListOf l es u → slice_get def.lists l ≡ Some kind → place ≤ length es → phylum ≡ kind.element
    → IsListAt def f path place phylum
list_here def f path node s l es u kind place phylum at shape is found within element =
    let made : elements_of l es u ≡ node = sym (ap tree_of is) ∙ shape in
    let (is_list, number) = made_list l es u in
    record {
      node = elements_of l es u;
      there = at ∙ ap Some (sym made);
      is_list = is_list;
      within = subst (λ (cs : List Fragment). place ≤ length cs) (sym (children-list l es u)) within;
      kind = kind;
      found = ap (slice_get def.lists) number ∙ found;
      element = element;
    }

pub hole_here : (f : Fragment) (path : Path) (node : Fragment) (s : Shape) (p : ℕ) → node_at f path ≡ Some node → tree_of s ≡ node → s ≡ Hole p → node_at f path ≡ Some (hole p)
hole_here f path node s p at shape is = at ∙ ap Some (sym shape ∙ ap tree_of is)

module _ (def : Definition) (n : Annotated) (is : IsNoteOf def (tree_in n) n) (path : Path) where
  pub narrow : IsWide def (tree_in n) → ⊥
  narrow = is.within.narrow

  module _ (p : ℕ) (at : node_at (tree_in n) path ≡ Some (hole p)) where
    pub hole_known : p < length def.phyla
    hole_known = let (K, formed) = node_formed def (tree_in n) is.formed.0 path (hole p) is.formed.1 at in formed.0.2

    pub no_hole_frames : (o : Option (Vec Frame Global)) → o ≡ None → MatchOption o (IsNoSummaryAt n path) (λ v. AreFramesAt n path v.items) → ⊥
    no_hole_frames o e h =
        let none : IsNoSummaryAt n path = subst (λ (x : Option (Vec Frame Global)). MatchOption x (IsNoSummaryAt n path) (λ v. AreFramesAt n path v.items)) e h in
        let d : ◌≡◌ {A = Option Fragment} None (Some (hole p)) = sym (none def (tree_in n) is) ∙ at in absurd (cc)

    module _ (o : Option (Vec Frame Global)) (v : Vec Frame Global) (around : List Frame) (e : o ≡ Some v) (same : around ≡ v.items) (h : MatchOption o (IsNoSummaryAt n path) (λ w. AreFramesAt n path w.items)) where
      are : AreFramesAt n path around
      are = subst (AreFramesAt n path) (sym same)
          (subst (λ (x : Option (Vec Frame Global)). MatchOption x (IsNoSummaryAt n path) (λ w. AreFramesAt n path w.items)) e h)

      pub hole_climbs : CanClimb def around (kinds.Phylum p)
      hole_climbs =
          let a = are def (tree_in n) is in
          let one : a.node ≡ hole p = same_Some a.node (hole p) (sym a.there ∙ at) in
          let of : IsOfKind def (hole p) a.kind = subst (λ (x : Fragment). IsOfKind def x a.kind) one a.of_kind in
          subst (λ (k : Kind). CanClimb def around k) of a.climb

      pub hole_stands : StandAt def around path None (tree_in n)
      hole_stands = let a = are def (tree_in n) is in (a.node, a.stand)

  module _ (place phylum : ℕ) (l : IsListAt def (tree_in n) path place phylum) where
    pub element_known : IsSound def → phylum < length def.phyla
    element_known sound = subst (λ (q : ℕ). q < length def.phyla) (sym l.element) (elements_in def sound (list_of (Some l.node)) l.kind l.found)

    pub no_element_frames : (o : Option (Vec Frame Global)) → o ≡ None
        → MatchOption o (IsNoElementAt n path place) (λ v. AreElementFramesAt n path place v.items) → ⊥
    no_element_frames o e h =
        let none : IsNoElementAt n path place =
        subst (λ (x : Option (Vec Frame Global)). MatchOption x (IsNoElementAt n path place) (λ v. AreElementFramesAt n path place v.items)) e h in
        none def (tree_in n) is l.node l.there l.is_list l.within

    module _ (o : Option (Vec Frame Global)) (v : Vec Frame Global) (around : List Frame) (e : o ≡ Some v) (same : around ≡ v.items) (h : MatchOption o (IsNoElementAt n path place) (λ w. AreElementFramesAt n path place w.items)) where
      elements_are : AreElementFramesAt n path place around
      elements_are = subst (AreElementFramesAt n path place) (sym same)
          (subst (λ (x : Option (Vec Frame Global)). MatchOption x (IsNoElementAt n path place) (λ w. AreElementFramesAt n path place w.items)) e h)

      pub element_climbs : CanClimb def around (kinds.Phylum phylum)
      element_climbs =
          let a = elements_are def (tree_in n) is in
          let one : a.node ≡ l.node = same_Some a.node l.node (sym a.there ∙ l.there) in
          let number : list_of (Some l.node) ≡ a.number = number_of def l.node a.number l.is_list (subst (λ (x : Fragment). IsOfKind def x (kinds.List a.number)) one a.of_kind) in
          let kind : a.list ≡ l.kind = same_Some a.list l.kind (sym a.found ∙ ap (slice_get def.lists) (sym number) ∙ l.found) in
          subst (λ (q : ℕ). CanClimb def around (kinds.Phylum q)) (ap (λ (k : ListKind). k.element) kind ∙ sym l.element) a.climb

      pub element_stands : StandAt def around path (Some place) (tree_in n)
      element_stands = (elements_are def (tree_in n) is).stand
