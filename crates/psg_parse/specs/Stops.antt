-- Where a list of tokens stops being the beginning of a tree.
use Rattle.std.specs.Prelude.{ℕ, ◌≡◌, ◌≤◌, List, [], ◌∷◌, ◌++◌, length, take, Some, slice_get}
use Rattle.psg_grammar.specs.declared.types.Kind.{Kind}
use Rattle.psg_grammar.specs.declared.types.Definition.{Definition}
use Rattle.psg_grammar.specs.Fragments.{Fragment}
use Rattle.psg_class.specs.Terminals.{Token, terminal_of}
use Rattle.psg_class.specs.Yields.{Yields}

module _ (def : Definition) (kind : Kind) (level : ℕ) where
  -- some tree of the kind and level yields these tokens and then some more, or none
  pub record Begins (ts : List Token) : Type 0 where
    pub more : List Token
    pub tree : Fragment
    pub nesting : ℕ
    pub yields : Yields def tree kind level nesting (ts ++ more)

  -- some tree yields just these
  abbrev pub MayEnd : List Token → Type 0
  MayEnd ts = (tree : Fragment) × (nesting : ℕ) × Yields def tree kind level nesting ts

  -- With the token k, or with any other token that the grammar sees as that, the first k begin no tree; or there is no
  -- token k.
  abbrev pub StopsAt : List Token → ℕ → Type 0
  StopsAt ts k = (t u : Token) → slice_get ts k ≡ Some t → terminal_of def u ≡ terminal_of def t
      → Begins (take k ts ++ u ∷ []) → ⊥

  -- the first k begin a tree, and with the next one they do not
  pub record IsStop (ts : List Token) (k : ℕ) : Type 0 where
    pub inside : k ≤ length ts
    pub front : Begins (take k ts)
    pub stops : StopsAt ts k
