-- The abstract text of a tree: operators with their parts in brackets, lists in square ones.
use Rattle.std.specs.Prelude.{ℕ, ◌==◌, Bool, true, false, cond, List, [], ◌∷◌, ◌++◌, Option, None, Some, slice_get}
use Rattle.std.specs.Prelude.{codes, decimal}
use Rattle.std.specs.List.{flat_map}
use Rattle.psg_lexis.specs.Tokens.{escaped}
use Rattle.psg_grammar.specs.declared.types.Phylum.{Phylum}
use Rattle.psg_grammar.specs.declared.types.Operator.{Operator}
use Rattle.psg_grammar.specs.declared.types.Definition.{Definition}
use Rattle.psg_grammar.specs.Fragments.{Fragment, hole, ending, cell, operator, with_child, with_name, with_number}
use Rattle.psg_grammar.specs.Fragments.{with_text, anything, observed}

-- the name of an operator that is there
abbrev pub name_of_operator : Option Operator → List ℕ
name_of_operator None = []
name_of_operator (Some o) = o.name

-- the name of a phylum that is there
abbrev pub name_of_phylum : Option Phylum → List ℕ
name_of_phylum None = []
name_of_phylum (Some p) = p.name

-- the names of an operator and of a phylum; a number that the definition has nothing for has no name
abbrev pub operator_name : Definition → ℕ → List ℕ
operator_name def o = name_of_operator (slice_get def.operators o)

-- the name of the phylum of this number
abbrev pub phylum_name : Definition → ℕ → List ℕ
phylum_name def p = name_of_phylum (slice_get def.phyla p)

-- a text in quotes, with its escapes
abbrev pub quoted : List ℕ → List ℕ
quoted t = codes "\"" ++ flat_map escaped t ++ codes "\""

-- whether the fragment is an operator with a part
abbrev pub has_parts : Fragment → Bool
has_parts (with_child f t) = true
has_parts (with_name f n) = true
has_parts (with_number f n) = true
has_parts (with_text f t) = true
has_parts (observed f) = has_parts f
has_parts _ = false

-- what is written before the next part of an operator
abbrev pub mark : Fragment → List ℕ
mark f = cond (has_parts f) (codes ",") (codes "(")

-- what is written between an element and the rest of its list
abbrev pub comma : Fragment → List ℕ
comma (cell l e r) = codes ","
comma (observed f) = comma f
comma _ = []

-- the tree's text, made of what it is without its last bracket, for a list without both
abbrev pub closed : Fragment → List ℕ → List ℕ
closed (ending l u) text = codes "[" ++ text ++ codes "]"
closed (cell l e r) text = codes "[" ++ text ++ codes "]"
closed (hole p) text = text
closed (operator o) text = text
closed (with_child f t) text = text ++ codes ")"
closed (with_name f n) text = text ++ codes ")"
closed (with_number f n) text = text ++ codes ")"
closed (with_text f t) text = text ++ codes ")"
closed (observed f) text = closed f text
closed anything text = text

-- Everything but those brackets: an operator's name and its parts so far, a list's elements and `|...` where it is
-- unfinished.
abbrev pub inner : Definition → Fragment → List ℕ
inner def (hole p) = codes "?" ++ phylum_name def p
inner def (ending l u) = cond u (codes "|...") []
inner def (cell l e r) = closed e (inner def e) ++ (comma r ++ inner def r)
inner def (operator o) = operator_name def o
inner def (with_child f t) = inner def f ++ (mark f ++ closed t (inner def t))
inner def (with_name f n) = inner def f ++ (mark f ++ n)
inner def (with_number f x) = inner def f ++ (mark f ++ decimal x)
inner def (with_text f t) = inner def f ++ (mark f ++ quoted t)
inner def anything = []
inner def (observed f) = inner def f

-- the abstract text of a fragment, with the bracket that closes it
abbrev pub abstract_text : Definition → Fragment → List ℕ
abstract_text def f = closed f (inner def f)
