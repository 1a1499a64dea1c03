-- The elements of a node's fixed lists.
use Rattle.std.specs.Prelude.{ℕ, suc, Bool, cond, List, [], ◌∷◌, ◌++◌, length, Option, Some, None}
use Rattle.psg_grammar.specs.declared.types.Definition.{Definition}
use Rattle.psg_grammar.specs.Fragments.{Fragment, hole, ending, cell, operator, with_child, with_name, with_number}
use Rattle.psg_grammar.specs.Fragments.{with_text, anything, observed, children_of}
use Rattle.psg_grammar.specs.Paths.{Path}
use Rattle.psg_tree.specs.declared.tree.Part.{Part}
use Rattle.psg_tree.specs.declared.tree.Part.TheVariants as parts
use Rattle.psg_places.specs.Places.{below, declares_by, may_go_on, operator_of}
use Rattle.psg_uses.specs.declared.elements.Member.{Member}

abbrev pub member_path : Member → Path
member_path m = below m.list m.number

-- the tree is an operator that declares
abbrev pub is_declaring : Definition → Fragment → Bool
is_declaring def f = declares_by def (operator_of def f)

-- The elements of the fixed lists of the operator at the path, and of those of their elements that declare, at any
-- depth of fixed lists. list_members has those of a fixed list, the first element of which has the number k.
module _ (def : Definition) where
  abbrev mutual
    pub fixed_members : Path → Fragment → List Member
    fixed_members path (hole p) = []
    fixed_members path (ending l u) = []
    fixed_members path (cell l e r) = []
    fixed_members path (operator o) = []
    fixed_members path (with_child f t) =
        fixed_members path f ++ list_members (below path (length (children_of f))) 0 t
    fixed_members path (with_name f x) = fixed_members path f
    fixed_members path (with_number f x) = fixed_members path f
    fixed_members path (with_text f x) = fixed_members path f
    fixed_members path anything = []
    fixed_members path (observed f) = []

    pub list_members : Path → ℕ → Fragment → List Member
    list_members path k (cell l e r) = cond (may_go_on def l) []
        (record { list = path; number = k } ∷
        (cond (is_declaring def e) (fixed_members (below path k) e) [] ++ list_members path (suc k) r))
    list_members path k (hole p) = []
    list_members path k (ending l u) = []
    list_members path k (operator o) = []
    list_members path k (with_child f t) = []
    list_members path k (with_name f x) = []
    list_members path k (with_number f x) = []
    list_members path k (with_text f x) = []
    list_members path k anything = []
    list_members path k (observed f) = []

  -- ---- by parts and elements

  abbrev pub member_and_own : Path → ℕ → Fragment → List Member
  member_and_own path k e =
      record { list = path; number = k } ∷ cond (is_declaring def e) (fixed_members (below path k) e) []

  abbrev pub all_members : Path → ℕ → List Fragment → List Member
  all_members path k [] = []
  all_members path k (e ∷ es) = member_and_own path k e ++ all_members path (suc k) es

  abbrev pub child_members : Path → ℕ → Fragment → List Member
  child_members path child t = list_members (below path child) 0 t

  abbrev pub part_members : Path → ℕ → Part → List Member
  part_members path child (parts.Sub t) = child_members path child t
  part_members path child (parts.Name x) = []
  part_members path child (parts.Number x) = []
  part_members path child (parts.Text x) = []

abbrev pub members_at : Definition → Path → Option Fragment → List Member
members_at def path None = []
members_at def path (Some g) = fixed_members def path g
