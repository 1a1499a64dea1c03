-- What is never missing: relations of trees and of their steps, whether or not they are within the limit, and tokens or
-- a fault.
use Rattle.std.specs.Prelude.{ℕ, ◌≡◌, ◌⊎◌, List, [], Some}
use Rattle.psg_terms.specs.Names.{Name}
use Rattle.psg_terms.specs.Terms.{Term}
use Rattle.psg_terms.specs.Relations.{IsIn}
use Rattle.psg_grammar.specs.declared.types.Kind.{Kind}
use Rattle.psg_grammar.specs.declared.types.Definition.{Definition}
use Rattle.psg_grammar.specs.Fragments.{Fragment, observed}
use Rattle.psg_grammar.specs.Paths.{Path, node_at, observe}
use Rattle.psg_grammar.specs.Relations.{IsRelationOf, IsShownRelation}
use Rattle.psg_grammar.specs.Steps.{Place, steps_of, steps_above, IsStepRelation, HasWeights}
use Rattle.psg_grammar.specs.WellFormed.{WellFormed}
use Rattle.psg_lexis.specs.Classes.{Chars}
use Rattle.psg_lexis.specs.Faults.{HasFault}
use Rattle.psg_lexis.specs.Tokens.{HasTokens}
use Rattle.psg_lexis.specs.declared.token.LexFault.{LexFault}
use Rattle.psg_lexis.specs.declared.token.Spanned.{Spanned}

-- each tree of a kind has a relation
abbrev pub HasRelations : Definition → Type 0
HasRelations def = (f : Fragment) (kind : Kind) → WellFormed def f kind
    → (rows : List (List Term)) × IsRelationOf def f rows

-- and one of the values of each of its nodes
abbrev pub HasShownRelations : Definition → Type 0
HasShownRelations def = (f : Fragment) (kind : Kind) (path : Path) (node : Fragment) → WellFormed def f kind
    → node_at f path ≡ Some node → (rows : List (List Term)) × IsShownRelation def f path rows

-- the step of the place has a relation
abbrev pub HasRowsAt : Definition → Place → Type 0
HasRowsAt def place = (rows : List (List Term)) × IsStepRelation def place.part place.step rows

-- each step of each node of a tree of a kind has a relation
abbrev pub HasStepRelations : Definition → Type 0
HasStepRelations def = (f : Fragment) (kind : Kind) (place : Place) → WellFormed def f kind
    → IsIn place (steps_of def [] f) → HasRowsAt def place

-- Of a node whose value is asked for: the node with its value repeated has a relation, and so has each step of a node
-- above it with that value as one more column.
pub record HasRelationsAt (def : Definition) (f : Fragment) (path : Path) (node : Fragment) : Type 0 where
  pub own : (rows : List (List Term)) × IsRelationOf def (observed node) rows
  pub above : (place : Place) → IsIn place (steps_above def [] path (observe path f)) → HasRowsAt def place

-- so it is of each node of a tree of a kind
abbrev pub HasAskedRelations : Definition → Type 0
HasAskedRelations def = (f : Fragment) (kind : Kind) (path : Path) (node : Fragment) → WellFormed def f kind
    → node_at f path ≡ Some node → HasRelationsAt def f path node

-- the relations of all nodes and list suffixes of a tree of a kind have a weight together
abbrev pub HasTreeWeights : Definition → Type 0
HasTreeWeights def = (f : Fragment) (kind : Kind) → WellFormed def f kind → (n : ℕ) × HasWeights def f n

-- characters have tokens, or a first place without one
abbrev pub HasTokensOrFault : List Name → Type 0
HasTokensOrFault fixed = (cs : Chars)
    → ((ts : List Spanned) × HasTokens fixed cs 0 ts) ⊎ ((fault : LexFault) × HasFault fixed cs 0 fault)
