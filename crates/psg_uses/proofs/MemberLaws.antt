-- The elements of fixed lists, part by part and element by element.
use Rattle.std.proofs.Common.{◌≡◌, ℕ, suc, ◌+◌, ◌<◌, ◌≤◌, Bool, true, false, cond, List, [], ◌∷◌, ◌++◌, length, take, get_or, slice_get, refl, ap, ap₂, sym, ◌∙◌, arith, append_assoc, append-nil}
use Rattle.std.proofs.lemmas.List.{take_all}
use Rattle.psg_terms.proofs.Lists.{take_item}
use Rattle.psg_grammar.specs.declared.types.Definition.{Definition}
use Rattle.psg_grammar.specs.Fragments.{Fragment, operator, children_of}
use Rattle.psg_grammar.specs.Paths.{Path}
use Rattle.psg_tree.specs.declared.tree.Part.{Part}
use Rattle.psg_tree.specs.declared.tree.Part.TheVariants.{Sub, Name, Number, Text}
use Rattle.psg_tree.specs.declared.tree.Shape.{Shape}
use Rattle.psg_tree.specs.declared.tree.Shape.TheVariants.{Op}
use Rattle.psg_tree.specs.Shapes.{list_of, tree_of, with_part, with_parts}
use Rattle.psg_places.specs.Places.{below, declares_by, may_go_on}
use Rattle.psg_places.proofs.OpeningLaws.{length_taken, parts_push}
use Rattle.psg_uses.specs.ByParts.{children_in}
use Rattle.psg_uses.specs.Members.{all_members, fixed_members, is_declaring, list_members, member_and_own, part_members}
use Rattle.psg_uses.specs.declared.elements.Member.{Member}
use Rattle.psg_uses.proofs.NamesLaws.{children_with}
use Rattle.psg_uses.proofs.PartLaws.{same_children, top_of_parts}

-- elements that were added after others
pub added : (a b c xs ys : List Member) → b ≡ a ++ xs → c ≡ b ++ ys → c ≡ a ++ (xs ++ ys)
added a b c xs ys h k = k ∙ ap (λ s. s ++ ys) h ∙ append_assoc a xs ys

module _ (def : Definition) where
  by_part : (path : Path) (f : Fragment) (p : Part) → fixed_members def path (with_part f p)
      ≡ fixed_members def path f ++ part_members def path (length (children_of f)) p
  by_part path f (Sub t) = refl
  by_part path f (Name x) = sym (append-nil (fixed_members def path f))
  by_part path f (Number x) = sym (append-nil (fixed_members def path f))
  by_part path f (Text x) = sym (append-nil (fixed_members def path f))

  -- the operator's number does not count
  same_part : (path : Path) (f g : Fragment) (p : Part) → children_of f ≡ children_of g
      → fixed_members def path f ≡ fixed_members def path g
      → fixed_members def path (with_part f p) ≡ fixed_members def path (with_part g p)
  same_part path f g p c e =
      by_part path f p ∙ ap₂ (λ a b. a ++ part_members def path (length b) p) e c ∙ sym (by_part path g p)

  same_parts : (path : Path) (f g : Fragment) (ps : List Part) → children_of f ≡ children_of g
      → fixed_members def path f ≡ fixed_members def path g
      → fixed_members def path (with_parts f ps) ≡ fixed_members def path (with_parts g ps)
  same_parts path f g [] c e = e
  same_parts path f g (p ∷ ps) c e =
      same_parts path (with_part f p) (with_part g p) ps (same_children f g p c) (same_part path f g p c e)

  pub any_operator : (path : Path) (o : ℕ) (ps : List Part)
      → fixed_members def path (with_parts (operator 0) ps) ≡ fixed_members def path (with_parts (operator o) ps)
  any_operator path o ps = same_parts path (operator 0) (operator o) ps refl refl

  -- the parts that were passed
  pub record PartsTo (path : Path) (done : List Part) (children : ℕ) (old new : List Member) : Type 0 where
    pub children_are : children ≡ length (children_of (with_parts (operator 0) done))
    pub found : new ≡ old ++ fixed_members def path (with_parts (operator 0) done)

  pub none_passed : (path : Path) (old : List Member) → PartsTo path [] 0 old old
  none_passed path old = record { children_are = refl; found = sym (append-nil old) }

  pub part_passed : (path : Path) (all : List Part) (i : ℕ) (x : Part) (children own more : ℕ) (old now next : List Member)
      → i < length all → x ≡ get_or all i x → PartsTo path (take i all) children old now
      → next ≡ now ++ part_members def path children x → own ≡ children_in x → more ≡ children + own
      → PartsTo path (take (i + 1) all) more old next
  part_passed path all i x children own more old now next lt at h l o m =
      let F = with_parts (operator 0) (take i all) in
      let grown : with_part F x ≡ with_parts (operator 0) (take (i + 1) all) =
      sym (ap (with_parts (operator 0)) (take_item all i x lt at) ∙ parts_push (operator 0) (take i all) x) in
      record {
        children_are =
            m ∙ ap₂ (λ a b. a + b) h.children_are o ∙ sym (children_with F x) ∙ ap (λ f. length (children_of f)) grown;
        found =
            added old now next (fixed_members def path F) (part_members def path (length (children_of F)) x) h.found
            (l ∙ ap (λ c. now ++ part_members def path c x) h.children_are)
            ∙ ap (λ s. old ++ s) (sym (by_part path F x) ∙ ap (fixed_members def path) grown);
      }

  pub all_passed : (path : Path) (all : List Part) (i children : ℕ) (old new : List Member) → length all ≤ i
      → PartsTo path (take i all) children old new → new ≡ old ++ fixed_members def path (with_parts (operator 0) all)
  all_passed path all i children old new le h =
      h.found ∙ ap (λ ps. old ++ fixed_members def path (with_parts (operator 0) ps)) (take_all i all le)

  -- ---- elements

  elements_push : (path : Path) (k : ℕ) (xs : List Fragment) (x : Fragment) → all_members def path k (xs ++ x ∷ [])
      ≡ all_members def path k xs ++ member_and_own def path (k + length xs) x
  elements_push path k [] x =
      let z : k ≡ k + 0 = omega arith in
      append-nil (member_and_own def path k x) ∙ ap (λ m. member_and_own def path m x) z
  elements_push path k (e ∷ xs) x =
      let z : suc k + length xs ≡ k + length (e ∷ xs) = omega arith in
      ap (λ s. member_and_own def path k e ++ s) (elements_push path (suc k) xs x
      ∙ ap (λ m. all_members def path (suc k) xs ++ member_and_own def path m x) z)
      ∙ sym (append_assoc (member_and_own def path k e) (all_members def path (suc k) xs)
      (member_and_own def path (k + length (e ∷ xs)) x))

  pub element_passed : (path : Path) (all : List Fragment) (i : ℕ) (x : Fragment) (old now next : List Member)
      → i < length all → x ≡ get_or all i x → now ≡ old ++ all_members def path 0 (take i all)
      → next ≡ now ++ member_and_own def path i x → next ≡ old ++ all_members def path 0 (take (i + 1) all)
  element_passed path all i x old now next lt at h l =
      let long : length (take i all) ≡ i = length_taken i all (omega (arith, lt)) in
      let zero_on : 0 + length (take i all) ≡ i = omega (arith, long) in
      added old now next (all_members def path 0 (take i all)) (member_and_own def path i x) h l
      ∙ ap (λ s. old ++ s) (ap (λ m. all_members def path 0 (take i all) ++ member_and_own def path m x) (sym zero_on)
      ∙ sym (elements_push path 0 (take i all) x) ∙ ap (all_members def path 0) (sym (take_item all i x lt at)))

  pub elements_passed : (path : Path) (all : List Fragment) (i : ℕ) (old new : List Member) → length all ≤ i
      → new ≡ old ++ all_members def path 0 (take i all) → new ≡ old ++ all_members def path 0 all
  elements_passed path all i old new le h = h ∙ ap (λ es. old ++ all_members def path 0 es) (take_all i all le)

  pub no_list_of : (path : Path) (k l : ℕ) (es : List Fragment) (u : Bool) → may_go_on def l ≡ true
      → [] ≡ list_members def path k (list_of l es u)
  no_list_of path k l [] u h = refl
  no_list_of path k l (e ∷ es) u h =
      sym (ap (λ b. cond b [] (member_and_own def path k e ++ list_members def path (suc k) (list_of l es u))) h)

  pub members_of : (path : Path) (k l : ℕ) (es : List Fragment) (u : Bool) → may_go_on def l ≡ false
      → all_members def path k es ≡ list_members def path k (list_of l es u)
  members_of path k l [] u h = refl
  members_of path k l (e ∷ es) u h =
      ap (λ s. member_and_own def path k e ++ s) (members_of path (suc k) l es u h)
      ∙ sym (ap (λ b. cond b [] (member_and_own def path k e ++ list_members def path (suc k) (list_of l es u))) h)

  -- ---- no list

  no_members_part : (path : Path) (k : ℕ) (f : Fragment) (p : Part) → list_members def path k f ≡ []
      → list_members def path k (with_part f p) ≡ []
  no_members_part path k f (Sub t) h = refl
  no_members_part path k f (Name x) h = refl
  no_members_part path k f (Number x) h = refl
  no_members_part path k f (Text x) h = refl

  no_members_parts : (path : Path) (k : ℕ) (f : Fragment) (ps : List Part) → list_members def path k f ≡ []
      → list_members def path k (with_parts f ps) ≡ []
  no_members_parts path k f [] h = h
  no_members_parts path k f (p ∷ ps) h = no_members_parts path k (with_part f p) ps (no_members_part path k f p h)

  pub none_of_operator : (path : Path) (k o : ℕ) (ps : List Part) (t : Fragment) (s : Shape) → s ≡ Op o ps → tree_of s ≡ t
      → [] ≡ list_members def path k t
  none_of_operator path k o ps t s is e =
      sym (no_members_parts path k (operator o) ps refl) ∙ ap (list_members def path k) (ap tree_of (sym is) ∙ e)

  pub none_of_list : (path : Path) (l : ℕ) (es : List Fragment) (u : Bool) → [] ≡ fixed_members def path (list_of l es u)
  none_of_list path l [] u = refl
  none_of_list path l (e ∷ es) u = refl

  -- ---- an operator that declares

  pub declaring_is : (o : ℕ) (ps : List Part) → declares_by def (slice_get def.operators o) ≡ is_declaring def (with_parts (operator o) ps)
  declaring_is o ps = sym (ap (declares_by def) (top_of_parts def o ps))

  pub list_declares_not : (l : ℕ) (es : List Fragment) (u : Bool) → false ≡ is_declaring def (list_of l es u)
  list_declares_not l [] u = refl
  list_declares_not l (e ∷ es) u = refl

  -- the element, and those of its own lists
  abbrev pub member_with : Path → ℕ → Member
  member_with path k = record { list = path; number = k }

  pub with_own : (path p : Path) (k n : ℕ) (e : Fragment) (b : Bool) (old first next : List Member)
      → p ≡ path → n ≡ k → b ≡ is_declaring def e → first ≡ old ++ member_with p n ∷ []
      → next ≡ first ++ cond b (fixed_members def (below path k) e) [] → next ≡ old ++ member_and_own def path k e
  with_own path p k n e b old first next pe ne d f m =
      added old first next (member_with p n ∷ []) (cond b (fixed_members def (below path k) e) []) f m
      ∙ ap₂ (λ a c. old ++ a ∷ cond c (fixed_members def (below path k) e) []) (ap₂ member_with pe ne) d
