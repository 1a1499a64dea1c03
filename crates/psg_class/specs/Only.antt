-- At most one tree, with one nesting of brackets, for a kind, a level and a list of tokens, and that it is well formed.
use Rattle.std.specs.Prelude.{ℕ, ◌≡◌, ◌<◌, ◌^◌, List, IsUtf8}
use Rattle.std.specs.List.{AllByRecursion}
use Rattle.psg_grammar.specs.declared.types.Kind.{Kind}
use Rattle.psg_grammar.specs.declared.types.Definition.{Definition}
use Rattle.psg_grammar.specs.Fragments.{Fragment}
use Rattle.psg_grammar.specs.WellFormed.{WellFormed}
use Rattle.psg_class.specs.Terminals.{Token, numeral, quoted}
use Rattle.psg_class.specs.Yields.{Yields}

pub record IsOnly (f g : Fragment) (d e : ℕ) : Type 0 where
  pub tree : f ≡ g
  pub nesting : d ≡ e

-- no list of tokens has two trees of a kind at a level, and none is read with two nestings of brackets
abbrev pub HasOnlyTrees : Definition → Type 0
HasOnlyTrees def = (kind : Kind) (level : ℕ) (ts : List Token) (f g : Fragment) (d e : ℕ) → Yields def f kind level d ts
    → Yields def g kind level e ts → IsOnly f g d e

-- a number is below 2^128 and a text is UTF-8, as those of a program's tokens are
abbrev pub IsValue : Token → Type 0
IsValue (numeral n) = n < 2 ^ 128
IsValue (quoted t) = IsUtf8 t
IsValue _ = Unit {0}

-- what yields such tokens is a tree of the kind
abbrev pub YieldsAreTrees : Definition → Type 0
YieldsAreTrees def = (kind : Kind) (level d : ℕ) (f : Fragment) (ts : List Token) → AllByRecursion IsValue ts
    → Yields def f kind level d ts → WellFormed def f kind
