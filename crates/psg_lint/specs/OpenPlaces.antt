-- What is reported about the places of a program that are still open.
use Rattle.std.specs.Prelude.{ℕ, ◌≡◌, ◌||◌, Bool, true, false, cond, List, [], ◌∷◌, ◌++◌, length, Option, Some, None}
use Rattle.std.specs.Prelude.{slice_get, codes}
use Rattle.psg_terms.specs.Signature.{Signature, only_constructor}
use Rattle.psg_terms.specs.Terms.{Term}
use Rattle.psg_grammar.specs.declared.types.Phylum.{Phylum}
use Rattle.psg_grammar.specs.declared.types.Definition.{Definition}
use Rattle.psg_grammar.specs.Fragments.{Fragment, hole, ending, cell, children_of}
use Rattle.psg_grammar.specs.Marks.{Located, nodes_from}
use Rattle.psg_grammar.specs.Paths.{Path}
use Rattle.psg_menu.specs.Menus.{IsMenu}
use Rattle.psg_recover.specs.declared.finding.Finding.{Finding}
use Rattle.psg_lint.specs.Blamed.{element_phylum}
use Rattle.psg_recover.specs.Findings.{note_at}
use Rattle.psg_wanted.specs.Fronts.{AreValues, IsListed}
use Rattle.psg_recover.specs.TextPlaces.{Read, last_byte, node_byte}
use Rattle.psg_wanted.specs.Texts.{menu_or_none, say_nothing, values_text}

-- the list is unfinished
abbrev pub is_unfinished : Fragment → Bool
is_unfinished (ending l u) = u
is_unfinished (cell l e r) = is_unfinished r
is_unfinished _ = false

-- whether there is a constructor
abbrev pub is_there : Option ℕ → Bool
is_there None = false
is_there (Some c) = true

-- The sort has one constructor alone, which is then a constant in each signature.
abbrev pub has_one_value : Signature → ℕ → Bool
has_one_value sig sort = is_there (only_constructor sig sort)

-- nothing is reported about the values of a placeholder of the phylum
abbrev pub is_plain : Definition → Phylum → List Term → Bool
is_plain def p values = has_one_value def.signature p.sort.0 || say_nothing values

-- `, wanted T` or nothing
abbrev pub wanted_text : Definition → Phylum → List Term → List ℕ
wanted_text def p values = cond (is_plain def p values) [] (codes ", wanted " ++ values_text def.signature values)

-- `?P is open, wanted T: MENU`
abbrev pub hole_message : Definition → Phylum → List Term → List ℕ → List ℕ
hole_message def p values ops = 63 ∷ p.name ++ (codes " is open"
    ++ (wanted_text def p values ++ (codes ": " ++ menu_or_none def ops)))

module _ (def : Definition) (f : Fragment) (r : Read) where
  -- what is reported about the node at the path; about most nodes nothing is
  pub data IsNoted : Path → Fragment → List Finding → Type 0 where
    open_hole : (path : Path) (p : ℕ) (phylum : Phylum) (values : List Term) (ops : List ℕ)
        → slice_get def.phyla p ≡ Some phylum → AreValues def f path values
        → IsMenu def f path None (IsListed def) p ops
        → IsNoted path (hole p) (note_at (node_byte def r path) (hole_message def phylum values ops) ∷ [])
    open_list : (path : Path) (g : Fragment) (ops : List ℕ) → is_unfinished g ≡ true
        → IsMenu def f path (Some (length (children_of g))) (IsListed def) (element_phylum def (Some g)) ops
        → IsNoted path g (note_at (last_byte def r path) (codes "the list is open: " ++ menu_or_none def ops) ∷ [])
    not_open : (path : Path) (g : Fragment) → is_unfinished g ≡ false → ((p : ℕ) → g ≡ hole p → ⊥)
        → IsNoted path g []

  -- each node in turn
  pub data AreNoted : List Located → List Finding → Type 0 where
    none_noted : AreNoted [] []
    noted : {rest : List Located} {own more : List Finding} (node : Located) → IsNoted node.path node.node own
        → AreNoted rest more → AreNoted (node ∷ rest) (own ++ more)

  abbrev pub AreNotes : List Finding → Type 0
  AreNotes found = AreNoted (nodes_from [] f) found
