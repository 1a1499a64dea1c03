-- Which wrong place is next, and what is wrong at a blamed one.
use Rattle.std.specs.Prelude.{◌≡◌, ◌==◌, Bool, true, false, List, [], ◌∷◌, ◌++◌, Option, Some, None, cond, bytes_eq}
use Rattle.std.specs.Prelude.{slice_get}
use Rattle.psg_terms.specs.Names.{Name}
use Rattle.psg_terms.specs.Relations.{IsIn}
use Rattle.psg_grammar.specs.Fragments.{Fragment, with_child, with_name, with_number, with_text, observed}
use Rattle.psg_grammar.specs.Paths.{Path, node_at}
use Rattle.psg_keys.specs.declared.key.Key.{Key}
use Rattle.psg_keys.specs.declared.key.Key.TheVariants as keys
use Rattle.psg_face.specs.Opens.{is_before}
use Rattle.psg_places.specs.declared.place.Place.{Place}
use Rattle.psg_places.specs.declared.place.Place.TheVariants as places
use Rattle.psg_tree.specs.declared.tree.Part.{Part}
use Rattle.psg_tree.specs.declared.tree.Part.TheVariants as parts
use Rattle.psg_keymap.specs.Faces.{Why, of_element, of_end, of_name, of_node}
use Rattle.psg_keymap.specs.Repairs.{place_path}

abbrev pub one_of : Option Path → Option Path → Option Path
one_of (Some found) far = Some found
one_of None far = far

-- the lesser of two paths in the order of the text, and the greater one
abbrev pub lesser : Path → Option Path → Path
lesser p None = p
lesser p (Some q) = cond (is_before q p) q p

abbrev pub greater : Path → Option Path → Path
greater p None = p
greater p (Some q) = cond (is_before q p) p q

-- the least of the paths that pass a test, and of `best`; and the greatest
abbrev pub least_with : (Path → Bool) → Option Path → List Path → Option Path
least_with test best [] = best
least_with test best (p ∷ ps) = least_with test (cond (test p) (Some (lesser p best)) best) ps

abbrev pub greatest_with : (Path → Bool) → Option Path → List Path → Option Path
greatest_with test best [] = best
greatest_with test best (p ∷ ps) = greatest_with test (cond (test p) (Some (greater p best)) best) ps

abbrev pub any : Path → Bool
any p = true

-- The paths may be in any order. The next one in the order of the text is the least of those after the path, else the
-- least of all.
abbrev pub next_path : List Path → Path → Option Path
next_path paths path = one_of (least_with (λ other. is_before path other) None paths) (least_with any None paths)

-- the one before is the greatest of those before the path, else the greatest of all
abbrev pub path_before : List Path → Path → Option Path
path_before paths path =
    one_of (greatest_with (λ other. is_before other path) None paths) (greatest_with any None paths)

abbrev pub next_of : List Path → Path → Bool → Option Path
next_of paths path forward = cond forward (next_path paths path) (path_before paths path)

-- the second path is further on; going back, it is further back
abbrev pub is_further : Bool → Path → Path → Bool
is_further true from path = is_before from path
is_further false from path = is_before path from

-- What is next of the paths: the path is further on than `from`, and none of the paths is between them; where none of
-- the paths is further on, no path is before it on the way.
pub data IsNext (forward : Bool) (paths : List Path) (from : Path) : Path → Type 0 where
  near : (path : Path) → IsIn path paths → is_further forward from path ≡ true
      → ((other : Path) → IsIn other paths → is_further forward from other ≡ true
      → is_further forward other path ≡ false) → IsNext forward paths from path
  round : (path : Path) → IsIn path paths
      → ((other : Path) → IsIn other paths → is_further forward from other ≡ false)
      → ((other : Path) → IsIn other paths → is_further forward other path ≡ false) → IsNext forward paths from path

-- `n` goes forward, `N` back
abbrev pub is_forward : Key → Bool
is_forward (keys.Char c) = c == 110
is_forward _ = false

-- the names of a node, in the order of its items
abbrev pub names_of : Fragment → List Name
names_of (with_child f t) = names_of f
names_of (with_name f x) = names_of f ++ x ∷ []
names_of (with_number f x) = names_of f
names_of (with_text f x) = names_of f
names_of (observed f) = names_of f
names_of _ = []

-- those among the parts of a node
abbrev pub name_in : Part → List Name
name_in (parts.Name x) = x ∷ []
name_in _ = []

abbrev pub names_in : List Part → List Name
names_in [] = []
names_in (part ∷ rest) = name_in part ++ names_in rest

abbrev pub names_at : Option Fragment → List Name
names_at None = []
names_at (Some f) = names_of f

abbrev pub name_why : Option Name → Why
name_why None = of_node
name_why (Some name) = of_name name

abbrev pub why_at : Fragment → Place → Why
why_at f (places.Node path) = of_node
why_at f (places.Element path) = of_element
why_at f (places.End path) = of_end
why_at f (places.Name path n) = name_why (slice_get (names_at (node_at f path)) n)

-- the first of the places that has this path; what is wrong at another one of this path is reported once this one is
-- mended
abbrev pub place_of : List Place → Path → Option Place
place_of [] path = None
place_of (place ∷ places) path = cond (bytes_eq (place_path place) path) (Some place) (place_of places path)
