-- How values, menus and names are reported in a message.
use Rattle.std.specs.Prelude.{ℕ, Bool, true, false, cond, List, [], ◌∷◌, ◌++◌, map, Option, Some, None, codes, nat_lt}
use Rattle.std.specs.Prelude.{length, take}
use Rattle.psg_terms.specs.Relations.{IsIn}
use Rattle.psg_terms.specs.Signature.{HasSort, Signature}
use Rattle.psg_terms.specs.Terms.{Term, variable, symbol, apply}
use Rattle.psg_terms.specs.Text.{term_text}
use Rattle.psg_grammar.specs.declared.types.Definition.{Definition}
use Rattle.psg_grammar.specs.declared.types.Operator.{Operator}
use Rattle.psg_grammar.specs.Lookups.{operator_at}

-- each term has a sort
abbrev pub AreSorted : Signature → List Term → Type 0
AreSorted sig terms = (t : Term) → IsIn t terms → (s : ℕ) × HasSort sig t s

-- that many values are reported at most
abbrev pub most_values : ℕ
most_values = 6

-- each text after this one
abbrev pub after_each : List ℕ → List (List ℕ) → List ℕ
after_each between [] = []
after_each between (x ∷ rest) = between ++ (x ++ after_each between rest)

-- the texts with this one between two of them
abbrev pub joined : List ℕ → List (List ℕ) → List ℕ
joined between [] = []
joined between (x ∷ rest) = x ++ after_each between rest

-- the values, ` or ` between two
abbrev pub all_values : Signature → List Term → List ℕ
all_values sig terms = joined (codes " or ") (map (term_text sig) terms)

-- the first six, and then `..` where there are more
abbrev pub values_text : Signature → List Term → List ℕ
values_text sig terms = cond (nat_lt most_values (length terms))
    (all_values sig (take most_values terms) ++ codes " or ..") (all_values sig terms)

-- a term that may be any of its sort
abbrev pub is_variable : Term → Bool
is_variable (variable s n) = true
is_variable (symbol c) = false
is_variable (apply f a) = false

-- nothing is said by these: there is none, or one that may be any
abbrev pub say_nothing : List Term → Bool
say_nothing [] = true
say_nothing (t ∷ []) = is_variable t
say_nothing (t ∷ u ∷ rest) = false

-- there are no terms
abbrev pub is_none : List Term → Bool
is_none [] = true
is_none (t ∷ ts) = false

-- ---- messages

-- `wanted T or T, found T`
abbrev pub node_message : Signature → List Term → List Term → List ℕ
node_message sig wanted found = cond (say_nothing wanted) (codes "this does not fit here")
    (codes "wanted " ++ (values_text sig wanted
    ++ cond (is_none found) [] (codes ", found " ++ values_text sig found)))

-- what is wanted of an entity, if anything is
abbrev pub entity_wanted : Signature → List Term → List ℕ
entity_wanted sig terms = cond (say_nothing terms) [] (codes ", wanted " ++ values_text sig terms)

-- the name of the operator, if the definition has it
abbrev pub operator_name : Option Operator → List ℕ
operator_name None = []
operator_name (Some o) = o.name

-- of the number
abbrev pub name_of : Definition → ℕ → List ℕ
name_of def o = operator_name (operator_at def o)

-- the names of the operators, a space between two
abbrev pub menu_text : Definition → List ℕ → List ℕ
menu_text def ops = joined (codes " ") (map (name_of def) ops)

-- or `none`
abbrev pub menu_or_none : Definition → List ℕ → List ℕ
menu_or_none def [] = codes "none"
menu_or_none def (o ∷ ops) = menu_text def (o ∷ ops)
