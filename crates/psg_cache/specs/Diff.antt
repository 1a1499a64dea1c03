-- How many evaluations a change from one tree to another takes.
use Rattle.std.specs.Prelude.{ℕ, zero, suc, ◌+◌, ◌==◌, Bool, true, false, cond, length, Option, Some, None}
use Rattle.std.specs.Bool.{beq}
use Rattle.psg_grammar.specs.Fragments.{Fragment, ending, cell, with_child, with_name, with_number}
use Rattle.psg_grammar.specs.Fragments.{with_text, top_operator, children_of}
use Rattle.psg_grammar.specs.Same.{same_tree}
use Rattle.psg_grammar.specs.Work.{work_of, works_of}

-- the list that the fragment is
abbrev pub list_number : Fragment → Option ℕ
list_number (ending l u) = Some l
list_number (cell l e r) = Some l
list_number _ = None

abbrev pub same_some : Option ℕ → Option ℕ → Bool
same_some (Some a) (Some b) = a == b
same_some _ _ = false

-- whether two lists are equally long and end alike
abbrev pub agree : Fragment → Fragment → Bool
agree (cell l e r) (cell k d s) = agree r s
agree (ending l u) (ending k v) = beq u v
agree _ _ = false

-- One more than the last place that differs: n is that number of the places after the first one, and the test says
-- whether the first ones are the same. It is 0 where no place differs.
abbrev pub place_before : Bool → ℕ → ℕ
place_before true zero = 0
place_before false zero = 1
place_before same (suc n) = suc (suc n)

-- one more than the last place at which two lists differ
abbrev pub last_differing : Fragment → Fragment → ℕ
last_differing (cell l e r) (cell k d s) = place_before (same_tree e d) (last_differing r s)
last_differing _ _ = 0

-- the cells and the end of the new list that are made again
abbrev pub diff_cells : Fragment → Fragment → ℕ
diff_cells old new = cond (agree old new) (last_differing old new) (length (children_of new) + 1)

-- the sum for two trees, from that of their children or elements
abbrev pub diff_with : Fragment → Fragment → ℕ → ℕ
diff_with old new below =
    cond (same_tree old new) 0
    (cond (same_some (top_operator old) (top_operator new)) (below + 1)
    (cond (same_some (list_number old) (list_number new)) (below + diff_cells old new)
    (work_of new)))

-- The sum over the children of an operator, or over the elements of two lists at the same places and those of the new
-- list without a partner. Those of the old list without a partner are not evaluated. Parts of an operator are at the
-- same places, since they are those of its items.
abbrev pub diff_below : Fragment → Fragment → ℕ
diff_below (with_child f t) (with_child g u) = diff_below f g + diff_with t u (diff_below t u)
diff_below (with_name f n) (with_name g m) = diff_below f g
diff_below (with_number f n) (with_number g m) = diff_below f g
diff_below (with_text f t) (with_text g u) = diff_below f g
diff_below (cell l e r) (cell k d s) = diff_with e d (diff_below e d) + diff_below r s
diff_below (ending l u) (cell k d s) = works_of (cell k d s)
diff_below _ _ = 0

-- Of a change from the one tree to the other: equal trees take nothing, the same operator takes one and what its
-- children take, two lists of a kind take what their elements take and the cells up to the last place that differs, or
-- all where they differ in length or end; any other new tree is made whole.
abbrev pub diff_of : Fragment → Fragment → ℕ
diff_of old new = diff_with old new (diff_below old new)
