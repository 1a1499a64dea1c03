-- The places of a tree that can be kept or opened, in the order of the text, and how many there are.
use Rattle.std.specs.Prelude.{ℕ, ◌≡◌, zero, suc, ◌+◌, ◌||◌, ◌&&◌, not, Bool, true, false, cond, List, [], ◌∷◌, ◌++◌}
use Rattle.std.specs.Prelude.{length, Option, Some, None, slice_get, option_and_then}
use Rattle.psg_grammar.specs.declared.types.Kind.TheVariants as kinds
use Rattle.psg_grammar.specs.declared.types.Operator.{Operator}
use Rattle.psg_grammar.specs.declared.types.Definition.{Definition}
use Rattle.psg_grammar.specs.Declaring.{is_declaring}
use Rattle.psg_grammar.specs.Fragments.{Fragment, hole, ending, cell, operator, with_child, with_name, with_number}
use Rattle.psg_grammar.specs.Fragments.{with_text, anything, observed, children_of, top_operator}
use Rattle.psg_grammar.specs.Insertion.{may_be_unfinished}
use Rattle.psg_grammar.specs.Lookups.{next_item, is_declares, operator_at}
use Rattle.psg_grammar.specs.Paths.{Path}
use Rattle.psg_places.specs.declared.place.Place.{Place}
use Rattle.psg_places.specs.declared.place.Place.TheVariants.{Node, Element, End, Name}

-- whether trees of the phylum declare in one of the first n spaces
abbrev pub declares_among : Definition → ℕ → ℕ → Bool
declares_among def zero p = false
declares_among def (suc n) p = is_declaring def n (kinds.Phylum p) || declares_among def n p

-- whether trees of the phylum declare; such a phylum has no placeholder
abbrev pub declares : Definition → ℕ → Bool
declares def p = declares_among def (length def.spaces) p

-- whether the list is of a kind that may be unfinished
abbrev pub may_go_on : Definition → ℕ → Bool
may_go_on def l = may_be_unfinished (slice_get def.lists l)

-- the operator at the top, if the definition has it
abbrev pub operator_of : Definition → Fragment → Option Operator
operator_of def f = option_and_then (operator_at def) (top_operator f)

abbrev pub phylum_in : Option Operator → ℕ
phylum_in None = 0
phylum_in (Some o) = o.phylum

-- the phylum of a node with an operator at its top
abbrev pub phylum_of : Definition → Fragment → ℕ
phylum_of def f = phylum_in (operator_of def f)

abbrev pub declares_by : Definition → Option Operator → Bool
declares_by def None = false
declares_by def (Some o) = declares def o.phylum

abbrev pub is_list : Fragment → Bool
is_list (ending l u) = true
is_list (cell l e r) = true
is_list _ = false

abbrev pub is_hole : Fragment → Bool
is_hole (hole p) = true
is_hole _ = false

-- A list, or an operator of a phylum that declares: no placeholder can take its place, so it is no place of its own,
-- and its declared names are numbered with those of the operator above it. Of a placeholder itself it is false.
abbrev pub has_no_placeholder : Definition → Fragment → Bool
has_no_placeholder def f = is_list f || declares_by def (operator_of def f)

-- how many names the node has in front of its next part
abbrev pub names_before : Fragment → ℕ
names_before (with_name f x) = suc (names_before f)
names_before (with_child f t) = names_before f
names_before (with_number f x) = names_before f
names_before (with_text f x) = names_before f
names_before (observed f) = names_before f
names_before _ = 0

-- the element k of the list at the path, or the child k of the node there
abbrev pub below : Path → ℕ → Path
below path k = path ++ k ∷ []

-- The declared names that are there as soon as the operator at the path is: its own, and those of its children that no
-- placeholder can take the place of, also those of the elements of such lists. Of a list that may be unfinished there
-- are none. k is the number of the list's first element.
abbrev pub declared_places : Definition → Path → ℕ → Fragment → List Place
declared_places def path k (hole p) = []
declared_places def path k (ending l u) = []
declared_places def path k (cell l e r) =
    cond (may_go_on def l) [] (cond (has_no_placeholder def e) (declared_places def (below path k) 0 e) [])
    ++ declared_places def path (suc k) r
declared_places def path k (operator o) = []
declared_places def path k (with_child f t) = declared_places def path k f
    ++ cond (has_no_placeholder def t) (declared_places def (below path (length (children_of f))) 0 t) []
declared_places def path k (with_name f x) = declared_places def path k f
    ++ cond (is_declares (next_item def f)) (Name path (names_before f) ∷ []) []
declared_places def path k (with_number f x) = declared_places def path k f
declared_places def path k (with_text f x) = declared_places def path k f
declared_places def path k anything = []
declared_places def path k (observed f) = []

-- The places of a child, from those of its contents: its operator is one. The names that the operator declares are
-- before its other places.
abbrev pub child_places : Definition → Path → Fragment → List Place → List Place
child_places def path t contents = cond (has_no_placeholder def t) contents
    (cond (is_hole t) [] (Node path ∷ (declared_places def path 0 t ++ contents)))

-- those of an element, which is a place itself if the list may go on
abbrev pub element_places : Definition → ℕ → Path → Fragment → List Place → List Place
element_places def l path e contents = cond (may_go_on def l)
    (Element path ∷ cond (has_no_placeholder def e) (declared_places def path 0 e ++ contents)
    (child_places def path e contents))
    (child_places def path e contents)

-- The places below an operator or a list, in the order of the text, without the names that its operator declares. The
-- end of a list is one if the list may go on and is finished.
abbrev pub content_places : Definition → Path → ℕ → Fragment → List Place
content_places def path k (hole p) = []
content_places def path k (ending l u) = cond (may_go_on def l && not u) (End path ∷ []) []
content_places def path k (cell l e r) =
    element_places def l (below path k) e (content_places def (below path k) 0 e) ++ content_places def path (suc k) r
content_places def path k (operator o) = []
content_places def path k (with_child f t) = content_places def path k f
    ++ child_places def (below path (length (children_of f))) t
    (content_places def (below path (length (children_of f))) 0 t)
content_places def path k (with_name f x) = content_places def path k f
    ++ cond (is_declares (next_item def f)) [] (Name path (names_before f) ∷ [])
content_places def path k (with_number f x) = content_places def path k f
content_places def path k (with_text f x) = content_places def path k f
content_places def path k anything = []
content_places def path k (observed f) = []

-- all places of a tree, in their order
abbrev pub places_of : Definition → Fragment → List Place
places_of def f = cond (has_no_placeholder def f) (declared_places def [] 0 f ++ content_places def [] 0 f)
    (child_places def [] f (content_places def [] 0 f))

-- ---- how many there are: the lengths of these lists, whatever the path is

abbrev pub declared_count : Definition → Fragment → ℕ
declared_count def (hole p) = 0
declared_count def (ending l u) = 0
declared_count def (cell l e r) =
    cond (may_go_on def l) 0 (cond (has_no_placeholder def e) (declared_count def e) 0) + declared_count def r
declared_count def (operator o) = 0
declared_count def (with_child f t) = declared_count def f + cond (has_no_placeholder def t) (declared_count def t) 0
declared_count def (with_name f x) = declared_count def f + cond (is_declares (next_item def f)) 1 0
declared_count def (with_number f x) = declared_count def f
declared_count def (with_text f x) = declared_count def f
declared_count def anything = 0
declared_count def (observed f) = 0

abbrev pub child_size : Definition → Fragment → ℕ → ℕ
child_size def t contents = cond (has_no_placeholder def t) contents
    (cond (is_hole t) 0 (1 + (declared_count def t + contents)))

abbrev pub element_size : Definition → ℕ → Fragment → ℕ → ℕ
element_size def l e contents = cond (may_go_on def l)
    (1 + cond (has_no_placeholder def e) (declared_count def e + contents) (child_size def e contents))
    (child_size def e contents)

abbrev pub content_count : Definition → Fragment → ℕ
content_count def (hole p) = 0
content_count def (ending l u) = cond (may_go_on def l && not u) 1 0
content_count def (cell l e r) = element_size def l e (content_count def e) + content_count def r
content_count def (operator o) = 0
content_count def (with_child f t) = content_count def f + child_size def t (content_count def t)
content_count def (with_name f x) = content_count def f + cond (is_declares (next_item def f)) 0 1
content_count def (with_number f x) = content_count def f
content_count def (with_text f x) = content_count def f
content_count def anything = 0
content_count def (observed f) = 0

abbrev pub place_count : Definition → Fragment → ℕ
place_count def f = cond (has_no_placeholder def f) (declared_count def f + content_count def f)
    (child_size def f (content_count def f))

-- what a law states: as many places are counted as are listed
abbrev pub AreCounted : Definition → Type 0
AreCounted def = (f : Fragment) → length (places_of def f) ≡ place_count def f
