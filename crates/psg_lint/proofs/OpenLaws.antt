-- What is told of the nodes of a program, one after the other.
use Rattle.std.proofs.Common.{◌≡◌, ℕ, zero, suc, ◌+◌, ◌<◌, ◌≤◌, Bool, false, List, [], ◌∷◌, ◌++◌, length, take, drop, get_or, Some, slice_get, refl, ap, ap₂, sym, ◌∙◌, subst, arith, true≢false, append_assoc, append-nil, length-append}
use Rattle.std.proofs.lemmas.List.{take_all}
use Rattle.psg_terms.proofs.Lists.{drop_item, slice_get-middle, take_item}
use Rattle.psg_grammar.specs.declared.types.Definition.{Definition}
use Rattle.psg_grammar.specs.Fragments.{Fragment, hole, ending, cell, operator, with_child, with_name, with_number}
use Rattle.psg_grammar.specs.Fragments.{with_text, anything, observed, children_of}
use Rattle.psg_grammar.specs.Marks.{Located, nodes_below, nodes_from}
use Rattle.psg_grammar.specs.Paths.{Path, node_at}
use Rattle.psg_tree.specs.declared.tree.Part.{Part}
use Rattle.psg_tree.specs.declared.tree.Part.TheVariants.{Sub, Name, Number, Text}
use Rattle.psg_tree.specs.Shapes.{height, list_of, subtrees, with_part, with_parts}
use Rattle.psg_tree.proofs.Children.{children-list, children-with_parts, subtrees-append}
use Rattle.psg_tree.proofs.Texts.{with_parts-push}
use Rattle.psg_places.specs.Places.{below, is_hole}
use Rattle.psg_places.proofs.InsideLaws.{IsParts}
use Rattle.psg_recover.specs.declared.finding.Finding.{Finding}
use Rattle.psg_recover.specs.TextPlaces.{Read}
use Rattle.psg_uses.specs.ByParts.{children_in}
use Rattle.psg_lint.specs.OpenPlaces.{AreNoted, IsNoted, is_unfinished, none_noted, not_open, noted}
use Rattle.psg_lint.specs.Opens.{IsPartThere, part_nodes}
use Rattle.psg_lint.proofs.PlaceLaws.{child_below}

-- ---- nodes

abbrev located : Path → Fragment → Located
located p f = record { path = p; node = f }

nodes_own : (path : Path) (f : Fragment) → nodes_from path f ≡ located path f ∷ nodes_below path 0 f
nodes_own path (hole p) = refl
nodes_own path (ending l u) = refl
nodes_own path (cell l e r) = refl
nodes_own path (operator o) = refl
nodes_own path (with_child f t) = refl
nodes_own path (with_name f x) = refl
nodes_own path (with_number f x) = refl
nodes_own path (with_text f x) = refl
nodes_own path anything = refl
nodes_own path (observed f) = refl

part_added : (path : Path) (f : Fragment) (p : Part)
    → nodes_below path 0 (with_part f p) ≡ nodes_below path 0 f ++ part_nodes path (length (children_of f)) p
part_added path f (Sub t) = refl
part_added path f (Name x) = sym (append-nil (nodes_below path 0 f))
part_added path f (Number x) = sym (append-nil (nodes_below path 0 f))
part_added path f (Text x) = sym (append-nil (nodes_below path 0 f))

children_added : (f : Fragment) (p : Part) → length (children_of (with_part f p)) ≡ length (children_of f) + children_in p
children_added f (Sub t) = length-append (children_of f) (t ∷ [])
children_added f (Name x) = omega arith
children_added f (Number x) = omega arith
children_added f (Text x) = omega arith

same_children : (f g : Fragment) (p : Part) → children_of f ≡ children_of g → children_of (with_part f p) ≡ children_of (with_part g p)
same_children f g (Sub t) e = ap (λ cs. cs ++ t ∷ []) e
same_children f g (Name x) e = e
same_children f g (Number x) e = e
same_children f g (Text x) e = e

-- which operator it is does not matter
pub same_below : (path : Path) (f g : Fragment) (ps : List Part) → nodes_below path 0 f ≡ nodes_below path 0 g
    → children_of f ≡ children_of g → nodes_below path 0 (with_parts f ps) ≡ nodes_below path 0 (with_parts g ps)
same_below path f g [] e c = e
same_below path f g (p ∷ ps) e c =
    same_below path (with_part f p) (with_part g p) ps
    (part_added path f p ∙ ap₂ (λ xs n. xs ++ part_nodes path n p) e (ap length c) ∙ sym (part_added path g p))
    (same_children f g p c)

pub same_list : (path : Path) (k l : ℕ) (es : List Fragment) (u : Bool)
    → nodes_below path k (list_of l es u) ≡ nodes_below path k (list_of 0 es false)
same_list path k l [] u = refl
same_list path k l (e ∷ es) u = ap (λ ns. nodes_from (path ++ k ∷ []) e ++ ns) (same_list path (k + 1) l es u)

element_added : (path : Path) (k : ℕ) (xs : List Fragment) (e : Fragment)
    → nodes_below path k (list_of 0 (xs ++ e ∷ []) false)
    ≡ nodes_below path k (list_of 0 xs false) ++ nodes_from (path ++ (k + length xs) ∷ []) e
element_added path k [] e =
    let z : k ≡ k + 0 = omega arith in
    append-nil (nodes_from (path ++ k ∷ []) e) ∙ ap (λ n. nodes_from (path ++ n ∷ []) e) z
element_added path k (x ∷ xs) e =
    let z : k + 1 + length xs ≡ k + length (x ∷ xs) = omega arith in
    ap (λ ns. nodes_from (path ++ k ∷ []) x ++ ns)
    (element_added path (k + 1) xs e ∙ ap (λ n. nodes_below path (k + 1) (list_of 0 xs false) ++ nodes_from (path ++ n ∷ []) e) z)
    ∙ sym (append_assoc (nodes_from (path ++ k ∷ []) x) (nodes_below path (k + 1) (list_of 0 xs false))
    (nodes_from (path ++ (k + length (x ∷ xs)) ∷ []) e))

-- ---- what is there

module _ (f : Fragment) where
  -- the part of the number is there
  pub part_there : (path : Path) (op : ℕ) (parts : List Part) (i children : ℕ) (p : Part) → i < length parts → p ≡ get_or parts i p
      → node_at f path ≡ Some (with_parts (operator op) parts)
      → children ≡ length (children_of (with_parts (operator 0) (take i parts))) → IsPartThere f path children p
  part_there path op parts i children (Sub t) lt at there count =
      let whole : children_of (with_parts (operator op) parts) ≡ subtrees parts = children-with_parts (operator op) parts in
      let split : subtrees parts ≡ subtrees (take i parts) ++ t ∷ subtrees (drop (i + 1) parts) =
      ap subtrees (both i parts ∙ ap (λ ps. take i parts ++ ps) (drop_item parts i (Sub t) lt at))
      ∙ subtrees-append (take i parts) (Sub t ∷ drop (i + 1) parts) in
      let many : children ≡ length (subtrees (take i parts)) =
      count ∙ ap length (children-with_parts (operator 0) (take i parts)) in
      child_below f path (with_parts (operator op) parts) children t there
      (ap (λ cs. slice_get cs children) (whole ∙ split)
      ∙ ap (slice_get (subtrees (take i parts) ++ t ∷ subtrees (drop (i + 1) parts))) many
      ∙ slice_get-middle (subtrees (take i parts)) t (subtrees (drop (i + 1) parts)))
    where
      both : (n : ℕ) (ys : List Part) → ys ≡ take n ys ++ drop n ys
      both zero ys = refl
      both (suc n) [] = refl
      both (suc n) (y ∷ ys) = ap (λ zs. y ∷ zs) (both n ys)
  part_there path op parts i children (Name x) lt at there count = tt
  part_there path op parts i children (Number x) lt at there count = tt
  part_there path op parts i children (Text x) lt at there count = tt

  pub element_there : (path : Path) (l : ℕ) (es : List Fragment) (u : Bool) (i : ℕ) (e : Fragment) → i < length es
      → e ≡ get_or es i e → node_at f path ≡ Some (list_of l es u) → node_at f (below path i) ≡ Some e
  element_there path l es u i e lt at there =
      child_below f path (list_of l es u) i e there (ap (λ cs. slice_get cs i) (children-list l es u) ∙ got es i lt at)
    where
      got : (xs : List Fragment) (i : ℕ) → i < length xs → e ≡ get_or xs i e → slice_get xs i ≡ Some e
      got [] i lt at = absurd (omega (arith, lt))
      got (x ∷ xs) zero lt at = ap Some (sym at)
      got (x ∷ xs) (suc i) lt at = got xs i (omega (arith, lt)) at

pub sub_lower : (p : Part) (t : Fragment) → p ≡ Sub t → height t + 1 ≤ height (with_part (operator 0) p)
sub_lower p t e = subst (λ q. height t + 1 ≤ height (with_part (operator 0) q)) (sym e) (omega arith)

pub count_more : (parts : List Part) (i children more : ℕ) (p : Part) → i < length parts → p ≡ get_or parts i p
    → more ≡ children + children_in p → children ≡ length (children_of (with_parts (operator 0) (take i parts)))
    → more ≡ length (children_of (with_parts (operator 0) (take (i + 1) parts)))
count_more parts i children more p lt at m count =
    let before = with_parts (operator 0) (take i parts) in
    let next : with_parts (operator 0) (take (i + 1) parts) ≡ with_part before p =
    ap (with_parts (operator 0)) (take_item parts i p lt at) ∙ with_parts-push (operator 0) (take i parts) p in
    m ∙ ap (λ n. n + children_in p) count ∙ sym (ap (λ g. length (children_of g)) next ∙ children_added before p)

-- ---- notes

module _ (def : Definition) (f : Fragment) (r : Read) where
  abbrev Noted : List Located → List Finding → Type 0
  Noted ns told = AreNoted def f r ns told

  pub noted_both : (xs ys : List Located) (a b : List Finding) → Noted xs a → Noted ys b → Noted (xs ++ ys) (a ++ b)
  noted_both _ ys _ b none_noted k = k
  noted_both _ ys _ b (noted {rest} {own} {more} node is h) k =
      subst (Noted (node ∷ (rest ++ ys))) (sym (append_assoc own more b)) (noted node is (noted_both rest ys more b h k))

  pub noted_node : (path : Path) (t : Fragment) (own more : List Finding) → IsNoted def f r path t own
      → Noted (nodes_below path 0 t) more → Noted (nodes_from path t) (own ++ more)
  noted_node path t own more is h =
      subst (λ ns. Noted ns (own ++ more)) (sym (nodes_own path t)) (noted (located path t) is h)

  -- ---- parts

  pub record PartsTo (path : Path) (parts : List Part) (i children : ℕ) (told : List Finding) : Type 0 where
    pub count : children ≡ length (children_of (with_parts (operator 0) (take i parts)))
    pub are : Noted (nodes_below path 0 (with_parts (operator 0) (take i parts))) told

  pub parts_none : (path : Path) (parts : List Part) → PartsTo path parts 0 0 []
  parts_none path parts = record { count = refl; are = none_noted }

  pub parts_more : (path : Path) (parts : List Part) (i children more : ℕ) (p : Part) (told own : List Finding)
      → i < length parts → p ≡ get_or parts i p → more ≡ children + children_in p → Noted (part_nodes path children p) own
      → PartsTo path parts i children told → PartsTo path parts (i + 1) more (told ++ own)
  parts_more path parts i children more p told own lt at m is h =
      let before = with_parts (operator 0) (take i parts) in
      let next : with_parts (operator 0) (take (i + 1) parts) ≡ with_part before p =
      ap (with_parts (operator 0)) (take_item parts i p lt at) ∙ with_parts-push (operator 0) (take i parts) p in
      record {
        count = m ∙ ap (λ n. n + children_in p) h.count ∙ sym (ap (λ g. length (children_of g)) next ∙ children_added before p);
        are =
            subst (λ ns. Noted ns (told ++ own)) (sym (ap (nodes_below path 0) next ∙ part_added path before p))
            (noted_both (nodes_below path 0 before) (part_nodes path (length (children_of before)) p) told own h.are
            (subst (λ n. Noted (part_nodes path n p) own) h.count is));
      }

  pub parts_all : (path : Path) (parts : List Part) (i children : ℕ) (told : List Finding) → length parts ≤ i
      → PartsTo path parts i children told → Noted (nodes_below path 0 (with_parts (operator 0) parts)) told
  parts_all path parts i children told le h =
      subst (λ ps. Noted (nodes_below path 0 (with_parts (operator 0) ps)) told) (take_all i parts le) h.are

  -- ---- elements

  abbrev pub ElementsTo : Path → List Fragment → ℕ → List Finding → Type 0
  ElementsTo path es i told = Noted (nodes_below path 0 (list_of 0 (take i es) false)) told

  pub elements_none : (path : Path) (es : List Fragment) → ElementsTo path es 0 []
  elements_none path es = none_noted

  long_take : {X : Type 0} (i : ℕ) (xs : List X) → i ≤ length xs → length (take i xs) ≡ i
  long_take zero xs le = refl
  long_take (suc i) [] le = absurd (omega (arith, le))
  long_take (suc i) (x ∷ xs) le = ap suc (long_take i xs (omega (arith, le)))

  pub elements_more : (path : Path) (es : List Fragment) (i : ℕ) (e : Fragment) (told own : List Finding) → i < length es
      → e ≡ get_or es i e → Noted (nodes_from (below path i) e) own → ElementsTo path es i told
      → ElementsTo path es (i + 1) (told ++ own)
  elements_more path es i e told own lt at is h =
      let long : 0 + length (take i es) ≡ i = let l = long_take i es (omega (arith, lt)) in omega (arith, l) in
      subst (λ xs. Noted (nodes_below path 0 (list_of 0 xs false)) (told ++ own)) (sym (take_item es i e lt at))
      (subst (λ ns. Noted ns (told ++ own)) (sym (element_added path 0 (take i es) e))
      (noted_both (nodes_below path 0 (list_of 0 (take i es) false)) (nodes_from (path ++ (0 + length (take i es)) ∷ []) e) told own h
      (subst (λ n. Noted (nodes_from (path ++ n ∷ []) e) own) (sym long) is)))

  pub elements_all : (path : Path) (es : List Fragment) (i : ℕ) (told : List Finding) → length es ≤ i → ElementsTo path es i told
      → Noted (nodes_below path 0 (list_of 0 es false)) told
  elements_all path es i told le h = subst (λ xs. Noted (nodes_below path 0 (list_of 0 xs false)) told) (take_all i es le) h

  -- ---- nodes that are not open

  parts_of : (g : Fragment) (ps : List Part) → IsParts g → IsParts (with_parts g ps)
  parts_of g [] h = h
  parts_of g (Sub t ∷ ps) h = parts_of (with_child g t) ps h
  parts_of g (Name x ∷ ps) h = parts_of (with_name g x) ps h
  parts_of g (Number x ∷ ps) h = parts_of (with_number g x) ps h
  parts_of g (Text x ∷ ps) h = parts_of (with_text g x) ps h

  closed : (g : Fragment) → IsParts g → (is_unfinished g ≡ false) × (is_hole g ≡ false)
  closed (operator o) h = (refl, refl)
  closed (with_child g t) h = (refl, refl)
  closed (with_name g x) h = (refl, refl)
  closed (with_number g x) h = (refl, refl)
  closed (with_text g x) h = (refl, refl)
  closed (hole p) h = absurd h
  closed (ending l u) h = absurd h
  closed (cell l e q) h = absurd h
  closed anything h = absurd h
  closed (observed g) h = absurd h

  pub operator_closed : (path : Path) (op : ℕ) (ps : List Part) → IsNoted def f r path (with_parts (operator op) ps) []
  operator_closed path op ps =
      let c = closed (with_parts (operator op) ps) (parts_of (operator op) ps tt) in
      not_open path (with_parts (operator op) ps) c.0 (λ p e. true≢false (sym (ap is_hole e) ∙ c.1))

  -- ---- whole nodes

  pub hole_alone : (path : Path) (tree : Fragment) (p : ℕ) (told : Finding) → hole p ≡ tree
      → IsNoted def f r path (hole p) (told ∷ []) → Noted (nodes_from path tree) (told ∷ [])
  hole_alone path tree p told e h =
      subst (λ t. Noted (nodes_from path t) (told ∷ [])) e (noted_node path (hole p) (told ∷ []) [] h none_noted)

  pub operator_whole : (path : Path) (tree : Fragment) (op : ℕ) (ps : List Part) (told : List Finding)
      → with_parts (operator op) ps ≡ tree → Noted (nodes_below path 0 (with_parts (operator 0) ps)) told
      → Noted (nodes_from path tree) told
  operator_whole path tree op ps told e h =
      subst (λ t. Noted (nodes_from path t) told) e
      (noted_node path (with_parts (operator op) ps) [] told (operator_closed path op ps)
      (subst (λ ns. Noted ns told) (same_below path (operator 0) (operator op) ps refl refl) h))

  pub list_whole : (path : Path) (tree : Fragment) (l : ℕ) (es : List Fragment) (u : Bool) (own told : List Finding)
      → list_of l es u ≡ tree → IsNoted def f r path tree own → Noted (nodes_below path 0 (list_of 0 es false)) told
      → Noted (nodes_from path tree) (own ++ told)
  list_whole path tree l es u own told e is h =
      noted_node path tree own told is
      (subst (λ t. Noted (nodes_below path 0 t) told) e (subst (λ ns. Noted ns told) (sym (same_list path 0 l es u)) h))
