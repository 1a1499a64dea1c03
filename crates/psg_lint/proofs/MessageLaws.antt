-- What is told of blamed places: where they are, and of which node.
use Rattle.std.proofs.Common.{◌≡◌, Bor, ◌⊎◌, inl, inr, ◌<◌, ℕ, zero, suc, ◌+◌, Bool, true, false, cond, List, [], ◌∷◌, length, take, Option, Some, None, slice_get, option_and_then, refl, ap, ap₂, sym, subst, ◌∙◌, true≢false}
use Rattle.std.specs.Prelude.{codes}
use Rattle.std.proofs.lemmas.Bool.{cases_Bool}
use Rattle.std.proofs.lemmas.Option.{none-some, same_Some}
use Rattle.std.proofs.lemmas.Slice.Eq.{bytes_eq-Decides}
use Rattle.std.specs.Prelude.{option_copied}
use Rattle.psg_terms.specs.Names.{Name as Word}
use Rattle.psg_terms.proofs.Lists.{suc_is_not_zero}
use Rattle.psg_terms.specs.Signature.{Signature}
use Rattle.psg_terms.specs.Terms.{Term}
use Rattle.psg_grammar.specs.declared.types.Definition.{Definition}
use Rattle.psg_grammar.specs.Fragments.{Fragment, hole, ending, cell, operator, with_child, with_name, with_number}
use Rattle.psg_grammar.specs.Fragments.{with_text, anything, observed, top_operator}
use Rattle.psg_grammar.specs.Lookups.{operator_at}
use Rattle.psg_grammar.specs.Open.{IsOpen}
use Rattle.psg_grammar.specs.Paths.{IsList, Path, node_at}
use Rattle.psg_grammar.specs.Sound.{IsSound}
use Rattle.psg_tree.specs.declared.tree.Part.{Part}
use Rattle.psg_tree.specs.declared.tree.Shape.{Shape}
use Rattle.psg_tree.specs.declared.tree.Shape.TheVariants.{Op, List as ListOf, Hole}
use Rattle.psg_tree.specs.Shapes.{list_of as list_with, tree_of}
use Rattle.psg_cache.specs.Notes.{IsFormed}
use Rattle.psg_cache.proofs.Evaluations.{top_parts}
use Rattle.psg_cache.proofs.FormedTrees.{node_formed}
use Rattle.psg_places.specs.declared.place.Place.{Place}
use Rattle.psg_places.specs.declared.place.Place.TheVariants.{Node, Element, End, Name}
use Rattle.psg_places.specs.Blame.{is_some_true, kept_in}
use Rattle.psg_places.specs.Leading.{gone_of, is_node, is_opened_at}
use Rattle.psg_places.specs.Opened.{contents, opened}
use Rattle.psg_places.specs.Places.{content_count, declares, element_size, has_no_placeholder, may_go_on, places_of}
use Rattle.psg_places.specs.Ways.{there_of}
use Rattle.psg_places.proofs.FormedLaws.{formed}
use Rattle.psg_places.proofs.InsideLaws.{IsChain}
use Rattle.psg_places.proofs.NewNameLaws.{is_name}
use Rattle.psg_places.proofs.OfPlacesLaws.{of_places}
use Rattle.psg_places.proofs.WalkLaws.{leads_there}
use Rattle.psg_ranges.specs.Forests.{Forest}
use Rattle.psg_recover.specs.Spotted.{AreNodesOf, IsSpotsOf, read_by}
use Rattle.psg_recover.specs.TextPlaces.{Read, name_byte}
use Rattle.psg_recover.proofs.SpotLaws.{read_is}
use Rattle.psg_uses.specs.declared.names.Named.{Named}
use Rattle.psg_uses.specs.declared.names.Written.{Written}
use Rattle.psg_uses.specs.Naming.{nth_name, path_of_place}
use Rattle.psg_wanted.specs.Fronts.{is_first}
use Rattle.psg_wanted.specs.Texts.{AreSorted, node_message}
use Rattle.psg_lint.specs.declared.trials.Judged.{Judged}
use Rattle.psg_lint.specs.declared.trials.Wrong.{Wrong}
use Rattle.psg_lint.specs.Blamed.{element_message, operator_message}
use Rattle.psg_lint.specs.Judged.{IsJudged, IsWrong, def_of, fresh_of, tree_in}
use Rattle.psg_lint.proofs.EndLaws.{chain_of}
use Rattle.psg_lint.proofs.HiddenLaws.{hides}
use Rattle.psg_lint.proofs.PlaceLaws.{placed}
use Rattle.psg_lint.proofs.SeenLaws.{end_seen, node_seen, none_opened, there_is}

-- ---- one place kept

first_kept : (n : ℕ) → kept_in (true ∷ []) n ≡ is_first n
first_kept zero = refl
first_kept (suc n) = sym (suc_is_not_zero n)

pub only_first : (def : Definition) (fresh : ℕ → Word) (f : Fragment) → opened def (kept_in (true ∷ [])) fresh f ≡ opened def is_first fresh f
only_first def fresh f = of_places def f (kept_in (true ∷ [])) is_first fresh fresh (λ n lt. first_kept n) (λ n lt. refl)

-- ---- what is told of an element

top_of_list : (l : ℕ) (es : List Fragment) (u : Bool) → top_operator (list_with l es u) ≡ None
top_of_list l [] u = refl
top_of_list l (e ∷ es) u = refl

pub operator_element : (def : Definition) (f : Fragment) (s : Shape) (o : ℕ) (ps : List Part) → tree_of s ≡ f → s ≡ Op o ps → operator_message def (operator_at def o) ≡ element_message def f
operator_element def f s o ps shape is =
    ap (λ t. operator_message def (option_and_then (operator_at def) t)) (sym (top_parts (operator o) ps))
    ∙ ap (λ (g : Fragment). element_message def g) (sym (ap tree_of is) ∙ shape)

pub list_element : (def : Definition) (f : Fragment) (s : Shape) (l : ℕ) (es : List Fragment) (u : Bool) → tree_of s ≡ f → s ≡ ListOf l es u
    → codes "no further element fits here" ≡ element_message def f
list_element def f s l es u shape is =
    ap (λ t. operator_message def (option_and_then (operator_at def) t)) (sym (top_of_list l es u))
    ∙ ap (λ (g : Fragment). element_message def g) (sym (ap tree_of is) ∙ shape)

pub hole_element : (def : Definition) (f : Fragment) (s : Shape) (p : ℕ) → tree_of s ≡ f → s ≡ Hole p → codes "no further element fits here" ≡ element_message def f
hole_element def f s p shape is = ap (λ (g : Fragment). element_message def g) (sym (ap tree_of is) ∙ shape)

-- ---- a list stays one

either_list : (a b : Bool) (x y z : Fragment) → IsList x → IsList y → IsList z → IsList (cond a (cond b x y) z)
either_list true true x y z p q r = p
either_list true false x y z p q r = q
either_list false b x y z p q r = r

contents_list : (def : Definition) (keep : ℕ → Bool) (fresh : ℕ → Word) (d n : ℕ) (f : Fragment) → IsChain f → IsList (contents def keep fresh d n f)
contents_list def keep fresh d n (ending l u) c = tt
contents_list def keep fresh d n (cell l e r) c =
    either_list (may_go_on def l) (keep n) _ _ _ tt (contents_list def keep fresh d (n + element_size def l e (content_count def e)) r c) tt
contents_list def keep fresh d n (hole p) c = absurd c
contents_list def keep fresh d n (operator o) c = absurd c
contents_list def keep fresh d n (with_child f t) c = absurd c
contents_list def keep fresh d n (with_name f x) c = absurd c
contents_list def keep fresh d n (with_number f x) c = absurd c
contents_list def keep fresh d n (with_text f x) c = absurd c
contents_list def keep fresh d n anything c = absurd c
contents_list def keep fresh d n (observed f) c = absurd c

no_node_list : (def : Definition) (f : Fragment) → IsList f → has_no_placeholder def f ≡ false → ⊥
no_node_list def (ending l u) is e = true≢false e
no_node_list def (cell l a r) is e = true≢false e
no_node_list def (hole p) is e = is
no_node_list def (operator o) is e = is
no_node_list def (with_child f t) is e = is
no_node_list def (with_name f x) is e = is
no_node_list def (with_number f x) is e = is
no_node_list def (with_text f x) is e = is
no_node_list def anything is e = is
no_node_list def (observed f) is e = is

module _ (def : Definition) (f : Fragment) (well : IsFormed def f) (kept : List Bool) (fresh : ℕ → Word) (path : Path) (list : Fragment) (at : node_at f path ≡ Some list) (is : IsList list) where
  -- it is no place of a node
  not_node : (n : ℕ) (x : Place) → slice_get (places_of def f) n ≡ Some x → is_node path x ≡ false
  not_node n (Node q) here = elim (cases_Bool (is_node path (Node q))) [
    | inl t ↦
        let same : q ≡ path = (bytes_eq-Decides q path).0 t in
        let node = placed def f well n (Node q) here in
        let one : node.node ≡ list = same_Some node.node list (sym node.there ∙ ap (node_at f) same ∙ at) in
        absurd (no_node_list def node.node (subst IsList (sym one) is) node.free)
    | inr e ↦ e
  ]
  not_node n (Element q) here = refl
  not_node n (End q) here = refl
  not_node n (Name q k) here = refl

  pub list_kept : (there : Path) → there_of (gone_of def kept fresh f) path ≡ Some there
      → (u : Fragment) × (node_at (opened def (kept_in kept) fresh f) there ≡ Some u) × IsList u
  list_kept there e =
      let (u, found, becomes) = leads_there def kept fresh f well path there list at e in
      let whole : is_opened_at (gone_of def kept fresh f) path ≡ false = none_opened (is_node path) kept 0 (places_of def f) (λ i x here lost. not_node i x here) in
      let (d, n, made) = becomes.same whole in
      (u, found, subst IsList (sym made) (contents_list def (kept_in kept) fresh d n list (chain_of def f path list at well is)))

pub node_kept : (def : Definition) (f : Fragment) (well : IsFormed def f) (kept : List Bool) (fresh : ℕ → Word) (path there : Path) (node : Fragment) → node_at f path ≡ Some node
    → there_of (gone_of def kept fresh f) path ≡ Some there → (u : Fragment) × (node_at (opened def (kept_in kept) fresh f) there ≡ Some u)
node_kept def f well kept fresh path there node at e =
    let (u, found, becomes) = leads_there def kept fresh f well path there node at e in (u, found)

-- ---- what is found at a path, and told

pub found_node : (f : Fragment) (path : Path) (o : Option (Bor Fragment)) (x : Bor Fragment) → option_copied o ≡ node_at f path → o ≡ Some x → node_at f path ≡ Some x.now
found_node f path o x e is = sym e ∙ ap option_copied is

pub no_node : (f : Fragment) (path : Path) (o : Option (Bor Fragment)) → option_copied o ≡ node_at f path → o ≡ None → ((node : Fragment) × (node_at f path ≡ Some node)) → ⊥
no_node f path o e is (node, at) = none-some node (sym (ap option_copied is) ∙ e ∙ at)

pub same_found : (f : Fragment) (path : Path) (o : Option (Bor Fragment)) (x : Bor Fragment) (node : Fragment) → option_copied o ≡ node_at f path → o ≡ Some x → node_at f path ≡ Some node → x.now ≡ node
same_found f path o x node e is at = same_Some x.now node (sym (found_node f path o x e is) ∙ at)

pub same_sorted : (sig : Signature) (terms own : List Term) → own ≡ terms → AreSorted sig terms → AreSorted sig own
same_sorted sig terms own e h = subst (AreSorted sig) (sym e) h

pub none_sorted : (sig : Signature) (terms : List Term) → terms ≡ [] → AreSorted sig terms
none_sorted sig terms e = subst (AreSorted sig) (sym e) (λ t i. elim i [ ])

pub told_both : (sig : Signature) (a b c d : List Term) → a ≡ b → c ≡ d → node_message sig a c ≡ node_message sig b d
told_both sig a b c d e h = ap₂ (node_message sig) e h

pub named_so : (own : Named) (o : Option Named) (b : Bool) → o ≡ Some own → own.declares ≡ b → o ≡ Some (record { name = own.name; declares = b })
named_so own o b e d = e ∙ ap (λ (x : Bool). Some (as_named own.name x)) d where
  as_named : Written → Bool → Named
  as_named w x = record { name = w; declares = x }

-- ---- what is judged

pub byte_is : (j : Judged) → IsJudged j → (r : Read) → IsSpotsOf j.spots r → (path : Path) (k byte : ℕ)
    → ((nodes : Forest) → AreNodesOf j.spots nodes → byte ≡ name_byte j.spots.known.definition.now (read_by j.spots nodes) path k) → byte ≡ name_byte j.definition.now r path k
byte_is j is r spots path k byte h =
    h r.nodes spots.nodes ∙ ap₂ (λ (def : Definition) (s : Read). name_byte def s path k) is.same (read_is j.spots r spots)

pub name_is : (w : Wrong) → IsWrong w → (number : ℕ) (path : Path) (k : ℕ) → slice_get w.places.now number ≡ Some (Name path k) → (found : Option Named)
    → found ≡ nth_name (def_of w) path k (node_at (tree_in w) path) → found ≡ None → ⊥
name_is w is number path k e found is_found none =
    let here : slice_get (places_of (def_of w) (tree_in w)) number ≡ Some (Name path k) = ap (λ (ps : List Place). slice_get ps number) (sym is.places) ∙ e in
    let it = placed (def_of w) (tree_in w) is.judged.formed number (Name path k) here in
    none-some it.name (sym none ∙ is_found ∙ it.is)

pub judged_sound : (j : Judged) → IsJudged j → IsSound j.definition.now
judged_sound j is = subst IsSound is.same is.known.sound

-- the known definition says of a phylum whether it declares
pub known_declares : (j : Judged) → IsJudged j → (b : Bool) (p : ℕ) → b ≡ declares j.spots.known.definition.now p → b ≡ declares j.definition.now p
known_declares j is b p e = e ∙ ap (λ (def : Definition). declares def p) is.same

module _ (w : Wrong) (is : IsWrong w) where
  pub wrong_sound : IsSound (def_of w)
  wrong_sound = judged_sound w.judged is.judged

  -- the tree of the kept places, and a node with some of its places kept
  pub opened_formed : (keep : ℕ → Bool) (g : Fragment) → IsFormed (def_of w) g → IsFormed (def_of w) (opened (def_of w) keep (fresh_of w) g)
  opened_formed keep g (kind, h) =
      (kind, formed (def_of w) wrong_sound keep (fresh_of w) (is_name (def_of w) (tree_in w) w.names.now is.names) g kind h)

  pub made_formed : (kept : List Bool) (t : Fragment) → t ≡ opened (def_of w) (kept_in kept) (fresh_of w) (tree_in w) → IsFormed (def_of w) t
  made_formed kept t e = subst (IsFormed (def_of w)) (sym e) (opened_formed (kept_in kept) (tree_in w) is.judged.formed)

  pub alone_formed : (path : Path) (node t : Fragment) → node_at (tree_in w) path ≡ Some node → t ≡ opened (def_of w) (kept_in (true ∷ [])) (fresh_of w) node → IsFormed (def_of w) t
  alone_formed path node t at e =
      let (kind, h) = is.judged.formed in
      subst (IsFormed (def_of w)) (sym e) (opened_formed (kept_in (true ∷ [])) node (node_formed (def_of w) (tree_in w) kind path node h at))

-- ---- a blamed node or end

lost_is : (kept : List Bool) (n : ℕ) → slice_get kept n ≡ Some false → kept_in kept n ≡ false
lost_is kept n e = ap is_some_true e

module _ (w : Wrong) (is : IsWrong w) (number : ℕ) (lt : number < length w.kept.now) (blamed : slice_get w.kept.now number ≡ Some false) where
  place_is : (x : Place) → slice_get w.places.now number ≡ Some x → slice_get (places_of (def_of w) (tree_in w)) number ≡ Some x
  place_is x e = ap (λ (ps : List Place). slice_get ps number) (sym is.places) ∙ e

  seen_there : (x : Place) → slice_get w.places.now number ≡ Some x → hides x (path_of_place x) ≡ false → (found : Option Path)
      → found ≡ there_of (gone_of (def_of w) (take number w.kept.now) (fresh_of w) (tree_in w)) (path_of_place x) → found ≡ None → ⊥
  seen_there x e seen found is_found none =
      none-some _ (sym none ∙ is_found
      ∙ there_is (def_of w) (tree_in w) is.judged.formed (fresh_of w) (IsOpen (def_of w)) w.kept.now is.answers.answers number lt
      (lost_is w.kept.now number blamed) x (place_is x e) seen)

  pub is_seen : (path : Path) → (slice_get w.places.now number ≡ Some (Node path)) ⊎ (slice_get w.places.now number ≡ Some (End path)) → (found : Option Path)
      → found ≡ there_of (gone_of (def_of w) (take number w.kept.now) (fresh_of w) (tree_in w)) path → found ≡ None → ⊥
  is_seen path (inl e) found is_found none = seen_there (Node path) e (node_seen path) found is_found none
  is_seen path (inr e) found is_found none = seen_there (End path) e (end_seen path) found is_found none

  pub end_is : (path : Path) → slice_get w.places.now number ≡ Some (End path) → (list : Fragment) × (node_at (tree_in w) path ≡ Some list) × IsList list
  end_is path e = let it = placed (def_of w) (tree_in w) is.judged.formed number (End path) (place_is (End path) e) in (it.list, it.there, it.is_list)

  pub node_is : (path : Path) → slice_get w.places.now number ≡ Some (Node path) → (node : Fragment) × (node_at (tree_in w) path ≡ Some node)
  node_is path e = let it = placed (def_of w) (tree_in w) is.judged.formed number (Node path) (place_is (Node path) e) in (it.node, it.there)

  pub element_is : (path : Path) → slice_get w.places.now number ≡ Some (Element path) → (e : Fragment) × (node_at (tree_in w) path ≡ Some e)
  element_is path e = let it = placed (def_of w) (tree_in w) is.judged.formed number (Element path) (place_is (Element path) e) in (it.element, it.element_there)

  -- in the tree of the places that are kept before
  pub node_before : (path own : Path) → slice_get w.places.now number ≡ Some (Node path)
      → there_of (gone_of (def_of w) (take number w.kept.now) (fresh_of w) (tree_in w)) path ≡ Some own
      → (node : Fragment) × (node_at (opened (def_of w) (kept_in (take number w.kept.now)) (fresh_of w) (tree_in w)) own ≡ Some node)
  node_before path own e there =
      let (node, at) = node_is path e in
      node_kept (def_of w) (tree_in w) is.judged.formed (take number w.kept.now) (fresh_of w) path own node at there

  pub list_before : (path own : Path) → slice_get w.places.now number ≡ Some (End path)
      → there_of (gone_of (def_of w) (take number w.kept.now) (fresh_of w) (tree_in w)) path ≡ Some own
      → (list : Fragment) × (node_at (opened (def_of w) (kept_in (take number w.kept.now)) (fresh_of w) (tree_in w)) own ≡ Some list) × IsList list
  list_before path own e there =
      let (list, at, is_list) = end_is path e in
      list_kept (def_of w) (tree_in w) is.judged.formed (take number w.kept.now) (fresh_of w) path list at is_list own there
