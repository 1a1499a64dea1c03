-- Lists that want a further element: what is known of them, and the tree with one.
use Rattle.std.proofs.Common.{◌≡◌, inl, inr, ◌<◌, ℕ, zero, suc, Bool, true, false, List, [], ◌∷◌, ◌++◌, length, Option, Some, None, slice_get, option_and_then, refl, ap, sym, subst, ◌∙◌, arith, true≢false}
use Rattle.std.specs.Prelude.{IfSome, codes}
use Rattle.std.proofs.lemmas.Bool.{cases_Bool}
use Rattle.std.proofs.lemmas.Option.{none-some}
use Rattle.psg_terms.specs.Terms.{Term}
use Rattle.psg_grammar.specs.declared.types.Definition.{Definition}
use Rattle.psg_grammar.specs.declared.types.Kind.{Kind}
use Rattle.psg_grammar.specs.declared.types.Kind.TheVariants as kinds
use Rattle.psg_grammar.specs.declared.types.ListKind.{ListKind}
use Rattle.psg_grammar.specs.Declaring.{HasHoles}
use Rattle.psg_grammar.specs.Fragments.{Fragment, hole, ending, cell, operator, with_child, with_name, with_number}
use Rattle.psg_grammar.specs.Fragments.{with_text, anything, observed, children_of}
use Rattle.psg_grammar.specs.Paths.{IsList, Path, change_at, inserted, node_at}
use Rattle.psg_grammar.specs.Sound.{IsSound}
use Rattle.psg_grammar.specs.WellFormed.{WellFormed}
use Rattle.psg_grammar.proofs.PathLaws.{change-below}
use Rattle.psg_grammar.proofs.SoundParts.{elements_in}
use Rattle.psg_tree.specs.declared.tree.Part.{Part}
use Rattle.psg_tree.specs.declared.tree.Part.TheVariants.{Sub, Name, Number, Text}
use Rattle.psg_tree.specs.declared.tree.Shape.{Shape}
use Rattle.psg_tree.specs.declared.tree.Shape.TheVariants.{Op, List as ListOf, Hole}
use Rattle.psg_tree.specs.Shapes.{list_of as list_with, tree_of, with_part, with_parts}
use Rattle.psg_tree.proofs.Children.{children-list}
use Rattle.psg_cache.specs.Annotated.{Annotated, tree_in}
use Rattle.psg_cache.specs.Notes.{IsFormed, IsNoteOf}
use Rattle.psg_cache.proofs.FormedTrees.{changed_formed, inserted_formed, node_formed}
use Rattle.psg_menu.specs.Menus.{IsMenu}
use Rattle.psg_places.specs.Places.{declares}
use Rattle.psg_places.proofs.InsideLaws.{IsChain}
use Rattle.psg_places.proofs.SpaceLaws.{quiet}
use Rattle.psg_places.proofs.WalkLaws.{IsShaped, shaped}
use Rattle.psg_wanted.specs.Fronts.{AreValues, IsListed as IsInMenu, IsTooMuch, elements_of, last_path, list_of, with_last}
use Rattle.psg_wanted.specs.Listed.{IsListAt}
use Rattle.psg_wanted.specs.Texts.{menu_or_none, say_nothing, values_text}
use Rattle.psg_lint.specs.declared.ends.Listed.{Listed}
use Rattle.psg_lint.specs.Blamed.{IsElementMenu, IsEndMessage, beyond, by_menu, by_values, declaring, element_of, element_phylum, listed, silent}
use Rattle.psg_lint.specs.Lists.{IsListOf, IsListThere}
use Rattle.psg_lint.specs.OpenPlaces.{is_unfinished}

-- ---- what is known of a list

-- the kind of a list is there
kind_there : (def : Definition) (l : ℕ) (es : List Fragment) (u : Bool) (kind : Kind) → WellFormed def (list_with l es u) kind → (k : ListKind) × (slice_get def.lists l ≡ Some k)
kind_there def l [] u kind h = (h.0.2.0, h.0.2.1)
kind_there def l (e ∷ es) u kind h = (h.0.2, h.0.3)

pub no_kind : (def : Definition) (f : Fragment) (s : Shape) (l : ℕ) (es : List Fragment) (u : Bool) → IsFormed def f → tree_of s ≡ f → s ≡ ListOf l es u → slice_get def.lists l ≡ None → ⊥
no_kind def f s l es u (kind, formed) shape is none =
    let made : f ≡ list_with l es u = sym shape ∙ ap tree_of is in
    let (k, found) = kind_there def l es u kind (subst (λ (g : Fragment). WellFormed def g kind) made formed) in
    none-some k (sym none ∙ found)

pub is_a_list : (l : ℕ) (es : List Fragment) (u : Bool) → IsList (list_with l es u)
is_a_list l [] u = tt
is_a_list l (e ∷ es) u = tt

number_is : (l : ℕ) (es : List Fragment) (u : Bool) → list_of (Some (list_with l es u)) ≡ l
number_is l [] u = refl
number_is l (e ∷ es) u = refl

unfinished_is : (l : ℕ) (es : List Fragment) (u : Bool) → is_unfinished (list_with l es u) ≡ u
unfinished_is l [] u = refl
unfinished_is l (e ∷ es) u = unfinished_is l es u

pub list_known : (def : Definition) (f : Fragment) (s : Shape) (l : ℕ) (es : List Fragment) (u : Bool) (kind : ListKind) (made : Listed) → tree_of s ≡ f → s ≡ ListOf l es u
    → slice_get def.lists l ≡ Some kind → made.elements ≡ length es → made.phylum ≡ kind.element → made.unfinished ≡ u → IsListOf def f made
list_known def f s l es u kind made shape is found elements phylum open_end =
    let same : list_with l es u ≡ f = sym (ap tree_of is) ∙ shape in
    subst (λ (g : Fragment). IsListOf def g made) same
    (record {
      is_list = is_a_list l es u;
      elements = elements ∙ ap length (sym (children-list l es u));
      kind = kind;
      found = ap (slice_get def.lists) (number_is l es u) ∙ found;
      phylum = phylum;
      unfinished = open_end ∙ sym (unfinished_is l es u);
    })

-- an operator with parts is no list
no_list_part : (f : Fragment) (p : Part) → IsList (with_part f p) → ⊥
no_list_part f (Sub t) h = h
no_list_part f (Name n) h = h
no_list_part f (Number n) h = h
no_list_part f (Text t) h = h

no_list_parts : (f : Fragment) (ps : List Part) → (IsList f → ⊥) → IsList (with_parts f ps) → ⊥
no_list_parts f [] never h = never h
no_list_parts f (p ∷ ps) never h = no_list_parts (with_part f p) ps (no_list_part f p) h

pub operator_no_list : (f : Fragment) (s : Shape) (o : ℕ) (ps : List Part) → tree_of s ≡ f → s ≡ Op o ps → IsList f → ⊥
operator_no_list f s o ps shape is h = no_list_parts (operator o) ps (λ c. c) (subst IsList (sym shape ∙ ap tree_of is) h)

pub hole_no_list : (f : Fragment) (s : Shape) (p : ℕ) → tree_of s ≡ f → s ≡ Hole p → IsList f → ⊥
hole_no_list f s p shape is h = subst IsList (sym shape ∙ ap tree_of is) h

-- ---- the list at a path

module _ (def : Definition) (f : Fragment) (path : Path) (list : Fragment) (at : node_at f path ≡ Some list) where
  pub list_formed : IsFormed def f → IsFormed def list
  list_formed (kind, formed) = node_formed def f kind path list formed at

  pub list_there : (l : Listed) → IsListOf def list l → IsListThere def f path l
  list_there l is = record { node = list; there = at; is = is }

  pub phylum_is : (l : Listed) → IsListThere def f path l → l.phylum ≡ element_phylum def (node_at f path)
  phylum_is l is =
      is.is.phylum ∙ sym (ap element_of is.is.found)
      ∙ sym (ap (λ (o : Option Fragment). element_phylum def o) is.there)

pub phylum_there : (def : Definition) (f : Fragment) (path : Path) (l : Listed) → IsListThere def f path l → l.phylum ≡ element_phylum def (node_at f path)
phylum_there def f path l is = phylum_is def f path is.node is.there l is

-- as the menus ask for it
pub list_at_is : (def : Definition) (f : Fragment) (path : Path) (l : Listed) (place : ℕ) → IsListThere def f path l → place ≡ l.elements → IsListAt def f path place l.phylum
list_at_is def f path l place is e =
    let many : place ≡ length (children_of is.node) = e ∙ is.is.elements in
    record {
      node = is.node;
      there = is.there;
      is_list = is.is.is_list;
      within = omega (arith, many);
      kind = is.is.kind;
      found = is.is.found;
      element = is.is.phylum;
    }

pub menu_place : (f : Fragment) (path : Path) (def : Definition) (l : Listed) (place : ℕ) → IsListThere def f path l → place ≡ l.elements → place ≡ elements_of (node_at f path)
menu_place f path def l place is e = e ∙ is.is.elements ∙ sym (ap elements_of is.there)

pub listed_is : (def : Definition) (f : Fragment) (o : Option Listed) (l : Listed) → o ≡ Some l → IfSome o (IsListOf def f) → IsListOf def f l
listed_is def f o l e h = subst (λ (x : Option Listed). IfSome x (IsListOf def f)) e h

-- ---- the menu of a noted tree

pub own_note : (def : Definition) (f : Fragment) (n : Annotated) → IsNoteOf def f n → IsNoteOf def (tree_in n) n
own_note def f n is = subst (λ (t : Fragment). IsNoteOf def t n) (sym is.tree) is

few : (def : Definition) (f : Fragment) (n : Annotated) → IsNoteOf def f n → IsTooMuch def f → ⊥
few def f n is (inl deep) = is.within.shallow deep
few def f n is (inr (inl big)) = is.within.small big
few def f n is (inr (inr (inl wide))) = is.within.narrow wide
few def f n is (inr (inr (inr heavy))) = is.within.light heavy

pub menu_told : (def : Definition) (f : Fragment) (n : Annotated) → IsNoteOf def f n → (path : Path) (l : Listed) (place : ℕ) → IsListThere def f path l → place ≡ l.elements → (ops : List ℕ)
    → IsMenu def (tree_in n) path (Some place) (IsInMenu def) l.phylum ops → IsElementMenu def f path l.phylum ops
menu_told def f n is path l place there e ops h =
    listed ops (few def f n is)
    (subst (λ k. IsMenu def f path (Some k) (IsInMenu def) l.phylum ops) (menu_place f path def l place there e)
    (subst (λ (t : Fragment). IsMenu def t path (Some place) (IsInMenu def) l.phylum ops) is.tree h))

pub no_menu : (def : Definition) (f : Fragment) (path : Path) (p : ℕ) (ops : List ℕ) → IsTooMuch def f → ops ≡ [] → IsElementMenu def f path p ops
no_menu def f path p ops much none = subst (IsElementMenu def f path p) (sym none) (beyond much)

-- ---- what is told

pub menu_message : (def : Definition) (f : Fragment) (path : Path) (l : Listed) → IsListThere def f path l → (values : List Term) (ops : List ℕ)
    → (declares def l.phylum ≡ false → AreValues def (with_last f path l.phylum) (last_path f path) values) → say_nothing values ≡ true
    → IsElementMenu def f path l.phylum ops → IsEndMessage def f path (codes "an element is missing here: " ++ menu_or_none def ops)
menu_message def f path l there values ops h silence menu =
    by_menu l.phylum ops (phylum_there def f path l there)
    (elim (cases_Bool (declares def l.phylum)) [ inl d ↦ declaring d | inr calm ↦ silent values (h calm) silence ]) menu

pub values_message : (def : Definition) (f : Fragment) (path : Path) (l : Listed) → IsListThere def f path l → (values : List Term)
    → (declares def l.phylum ≡ true → values ≡ []) → (declares def l.phylum ≡ false → AreValues def (with_last f path l.phylum) (last_path f path) values) → say_nothing values ≡ false
    → IsEndMessage def f path (codes "an element is missing here, wanted " ++ values_text def.signature values)
values_message def f path l there values none h loud =
    elim (cases_Bool (declares def l.phylum)) [
      | inl d ↦ absurd (true≢false (sym (ap say_nothing (none d)) ∙ loud))
      | inr calm ↦ by_values l.phylum values (phylum_there def f path l there) calm (h calm) loud
    ]

-- ---- the tree with one more element

pub more_is : (f : Fragment) (path : Path) (p place : ℕ) (node : Fragment) → node_at f path ≡ Some node → place ≡ length (children_of node)
    → change_at (inserted place (hole p)) path f ≡ with_last f path p
more_is f path p place node at e = ap (λ n. change_at (inserted n (hole p)) path f) (e ∙ sym (ap elements_of at))

-- the new element is the last child
last_child : (new f : Fragment) (n : ℕ) → IsChain f → n ≡ length (children_of f) → slice_get (children_of (inserted n new f)) n ≡ Some new
last_child new (ending l u) zero c e = refl
last_child new (ending l u) (suc n) c e = absurd (omega (arith, e))
last_child new (cell l a r) zero c e = absurd (omega (arith, e))
last_child new (cell l a r) (suc n) c e = last_child new r n c (omega (arith, e))
last_child new (hole p) n c e = absurd c
last_child new (operator o) n c e = absurd c
last_child new (with_child f t) n c e = absurd c
last_child new (with_name f x) n c e = absurd c
last_child new (with_number f x) n c e = absurd c
last_child new (with_text f x) n c e = absurd c
last_child new anything n c e = absurd c
last_child new (observed f) n c e = absurd c

list_chain : (f : Fragment) → IsShaped f → IsList f → IsChain f
list_chain (ending l u) s is = tt
list_chain (cell l e r) s is = s.1.1
list_chain (hole p) s is = absurd is
list_chain (operator o) s is = absurd is
list_chain (with_child f t) s is = absurd is
list_chain (with_name f x) s is = absurd is
list_chain (with_number f x) s is = absurd is
list_chain (with_text f x) s is = absurd is
list_chain anything s is = absurd is
list_chain (observed f) s is = absurd is

pub chain_of : (def : Definition) (f : Fragment) (path : Path) (list : Fragment) → node_at f path ≡ Some list → IsFormed def f → IsList list → IsChain list
chain_of def f path list at formed is =
    let (kind, (fits, plain)) = list_formed def f path list at formed in
    list_chain list (shaped def list [] kind fits plain).0 is

number_of : (def : Definition) (f : Fragment) (kind : Kind) → IsList f → WellFormed def f kind → kind ≡ kinds.List (list_of (Some f))
number_of def (ending l u) kind is h = h.0.1
number_of def (cell l e r) kind is h = h.0.1
number_of def (hole p) kind is h = absurd is
number_of def (operator o) kind is h = absurd is
number_of def (with_child f t) kind is h = absurd is
number_of def (with_name f x) kind is h = absurd is
number_of def (with_number f x) kind is h = absurd is
number_of def (with_text f x) kind is h = absurd is
number_of def anything kind is h = absurd is
number_of def (observed f) kind is h = absurd is

module _ (def : Definition) (sound : IsSound def) (f : Fragment) (path : Path) (l : Listed) (is : IsListThere def f path l) (formed : IsFormed def f) where
  -- it is of the same kind
  pub more_formed : declares def l.phylum ≡ false → WellFormed def (with_last f path l.phylum) formed.0
  more_formed calm =
      let k = is.is.kind in
      let known : k.element < length def.phyla = elements_in def sound (list_of (Some is.node)) k is.is.found in
      let new : WellFormed def (hole l.phylum) (kinds.Phylum k.element) = (
        (
          refl,
          ap (λ n. kinds.Phylum n) (sym is.is.phylum),
          subst (λ n. n < length def.phyla) (sym is.is.phylum) known,
          subst (λ n. HasHoles def (kinds.Phylum n)) is.is.phylum (quiet def sound l.phylum calm),
        ),
        tt,
      ) in
      let longer : (K : Kind) → WellFormed def is.node K → WellFormed def (inserted (elements_of (node_at f path)) (hole l.phylum) is.node) K =
      λ K h.
      let own = number_of def is.node K is.is.is_list h in
      subst (WellFormed def (inserted (elements_of (node_at f path)) (hole l.phylum) is.node)) (sym own)
      (inserted_formed def (elements_of (node_at f path)) (hole l.phylum) is.node (list_of (Some is.node)) k (subst (WellFormed def is.node) own h) is.is.found new) in
      changed_formed def (inserted (elements_of (node_at f path)) (hole l.phylum)) f formed.0 path is.node formed.1 is.there longer

  pub last_there : (longer : Path) (place : ℕ) → place ≡ l.elements → longer ≡ path ++ place ∷ []
      → (node : Fragment) × (node_at (with_last f path l.phylum) longer ≡ Some node)
  last_there longer place e own =
      let n = elements_of (node_at f path) in
      let many : n ≡ length (children_of is.node) = ap elements_of is.there in
      let number : place ≡ n = e ∙ is.is.elements ∙ sym many in
      let chain : IsChain is.node = chain_of def f path is.node is.there formed is.is.is_list in
      let at_end : node_at (inserted n (hole l.phylum) is.node) (n ∷ []) ≡ Some (hole l.phylum) =
      ap (λ o. option_and_then (λ (t : Fragment). Some t) o) (last_child (hole l.phylum) is.node n chain many) in (
        hole l.phylum,
        ap (node_at (with_last f path l.phylum)) (own ∙ ap (λ k. path ++ k ∷ []) number)
            ∙ change-below (inserted n (hole l.phylum)) path (n ∷ []) f is.node is.there ∙ at_end,
      )

  pub last_is : (longer : Path) (place : ℕ) → place ≡ l.elements → longer ≡ path ++ place ∷ [] → longer ≡ last_path f path
  last_is longer place e own =
      own ∙ ap (λ k. path ++ k ∷ []) (e ∙ is.is.elements ∙ sym (ap elements_of is.there))
