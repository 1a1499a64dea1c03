-- The tree in which only some of its places are kept, and the others are opened.
use Rattle.std.specs.Prelude.{ℕ, ◌+◌, ◌||◌, ◌&&◌, not, Bool, cond}
use Rattle.psg_terms.specs.Names.{Name}
use Rattle.psg_grammar.specs.declared.types.Definition.{Definition}
use Rattle.psg_grammar.specs.Fragments.{Fragment, hole, ending, cell, operator, with_child, with_name, with_number}
use Rattle.psg_grammar.specs.Fragments.{with_text, anything, observed}
use Rattle.psg_grammar.specs.Lookups.{next_item, is_declares}
use Rattle.psg_places.specs.Places.{has_no_placeholder, is_hole, may_go_on, phylum_of, element_size}
use Rattle.psg_places.specs.Places.{declared_count, content_count}

-- Places are kept by their number, and `fresh` has a name for each place of a name that is not kept.
module _ (def : Definition) (keep : ℕ → Bool) (fresh : ℕ → Name) where
  abbrev pub name_or_fresh : ℕ → Name → Name
  name_or_fresh n x = cond (keep n) x (fresh n)

  -- a child whose places begin at n, from its trees as one without placeholder and as a node whose operator is kept
  abbrev pub opened_child : ℕ → Fragment → Fragment → Fragment → Fragment
  opened_child n t as_fixed as_node = cond (has_no_placeholder def t) as_fixed
      (cond (is_hole t) t (cond (keep n) as_node (hole (phylum_of def t))))

  -- an element of a list that may go on, if it is kept, from its trees as one without placeholder and as a child
  abbrev pub opened_element : Fragment → Fragment → Fragment → Fragment
  opened_element e as_fixed as_child = cond (has_no_placeholder def e) as_fixed as_child

  -- The numbers of the declared names are d and those after it, and the numbers of the other places n and those after
  -- it. A node that is not kept is a placeholder, an element that is not kept is left out, an end that is not kept is
  -- unfinished, and a name that is not kept is a new one. `opened_by` says the same without numbers.
  abbrev pub contents : ℕ → ℕ → Fragment → Fragment
  contents d n (hole p) = hole p
  contents d n (ending l u) = ending l (u || (may_go_on def l && not (keep n)))
  contents d n (cell l e r) = cond (may_go_on def l)
      (cond (keep n)
      (cell l
      (opened_element e (contents (n + 1) (n + 1 + declared_count def e) e)
      (opened_child (n + 1) e (contents 0 (n + 1) e)
      (contents (n + 1 + 1) (n + 1 + 1 + declared_count def e) e)))
      (contents d (n + element_size def l e (content_count def e)) r))
      (contents d (n + element_size def l e (content_count def e)) r))
      (cell l (opened_child n e (contents d n e) (contents (n + 1) (n + 1 + declared_count def e) e))
      (contents (d + cond (has_no_placeholder def e) (declared_count def e) 0)
      (n + element_size def l e (content_count def e)) r))
  contents d n (operator o) = operator o
  contents d n (with_child f t) = with_child (contents d n f)
      (opened_child (n + content_count def f) t (contents (d + declared_count def f) (n + content_count def f) t)
      (contents (n + content_count def f + 1) (n + content_count def f + 1 + declared_count def t) t))
  contents d n (with_name f x) = with_name (contents d n f)
      (cond (is_declares (next_item def f)) (name_or_fresh (d + declared_count def f) x)
      (name_or_fresh (n + content_count def f) x))
  contents d n (with_number f x) = with_number (contents d n f) x
  contents d n (with_text f x) = with_text (contents d n f) x
  contents d n anything = anything
  contents d n (observed f) = observed f

  abbrev pub opened : Fragment → Fragment
  opened f = opened_child 0 f (contents 0 (declared_count def f) f) (contents 1 (1 + declared_count def f) f)
