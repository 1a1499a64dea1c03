-- Where a key puts an operator.
use Rattle.std.specs.Prelude.{ℕ, ◌+◌, ◌==◌, cond, Option, Some, None}
use Rattle.psg_grammar.specs.Fragments.{Fragment}
use Rattle.psg_grammar.specs.Paths.{Path, node_at}
use Rattle.psg_keys.specs.declared.key.Key.{Key}
use Rattle.psg_keys.specs.declared.key.Key.TheVariants as keys
use Rattle.psg_places.specs.Places.{is_hole, is_list}
use Rattle.psg_face.specs.Moves.{is_dots}
use Rattle.psg_keymap.specs.declared.spots.Spot.{Spot}
use Rattle.psg_keymap.specs.Table.{by_place_of, count_of, list_above}

abbrev pub spot : Path → Option ℕ → Option Spot
spot target place = Some (record { target = target; place = place })

-- before the chosen place of a list, or that many places after it
abbrev pub spot_beside : Fragment → ℕ → Path → Option Spot
spot_beside tree more path = by_place_of (list_above tree path) (λ list place. spot list (Some (place + more))) None

-- in place of a placeholder, at the end of a list, or at a `...`
abbrev pub spot_of : Fragment → Path → Option Fragment → Option Spot
spot_of tree path None = spot_beside tree 0 path
spot_of tree path (Some node) =
    cond (is_hole node) (spot path None) (cond (is_list node) (spot path (Some (count_of node))) None)

-- Enter at a placeholder, at a list, at whose end it is put, or at a `...`
abbrev pub spot_at : Fragment → Path → Option Spot
spot_at tree path = spot_of tree path (node_at tree path)

-- `i` puts it before the chosen place of a list, `a` after it; at a `...` both put it there
abbrev pub spot_by : Fragment → Path → ℕ → Option Spot
spot_by tree path c =
    cond (c == 105) (spot_beside tree 0 path)
    (cond (c == 97) (spot_beside tree (cond (is_dots tree path) 0 1) path) None)

abbrev pub spot_for : Fragment → Path → Key → Option Spot
spot_for tree path keys.Enter = spot_at tree path
spot_for tree path (keys.Char c) = spot_by tree path c
spot_for tree path _ = None
