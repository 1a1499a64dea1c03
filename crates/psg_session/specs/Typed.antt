-- What is read from a text that is typed in place of a node.
use Rattle.std.specs.Prelude.{ℕ, ◌≡◌, ◌<◌, ◌≤◌, ◌⊎◌, ◌+◌, List, length, Result, Ok, Err}
use Rattle.psg_grammar.specs.declared.types.Kind.{Kind}
use Rattle.psg_grammar.specs.declared.types.Definition.{Definition}
use Rattle.psg_grammar.specs.Fragments.{Fragment}
use Rattle.psg_grammar.specs.Kinds.{IsOfKind}
use Rattle.psg_grammar.specs.Sizes.{IsDeep}
use Rattle.psg_grammar.specs.WellFormed.{WellFormed}
use Rattle.psg_class.specs.Texts.{HasNoTokens, HasNoTree, ReadsAs, TextTokens}
use Rattle.psg_lexis.specs.declared.token.Spanned.{Spanned}
use Rattle.psg_session.specs.declared.refusal.Refusal.TheVariants.{NoTokens, NoTree, TooDeep}
use Rattle.psg_session.specs.declared.stop.Stop.{Stop}
use Rattle.psg_session.specs.declared.stop.Stop.TheVariants.{Refused, Memory}

-- how many pairs of brackets may be inside each other
abbrev pub most_brackets : ℕ
most_brackets = 400

module _ (def : Definition) where
  -- ---- a text in place of a node

  -- The text is read as this tree of the node's kind, with brackets nested so deep. An operator of any level may be on
  -- top.
  pub record ReadsFor (node : Fragment) (text : List ℕ) (new : Fragment) (nesting : ℕ) : Type 0 where
    pub kind : Kind
    pub of_kind : IsOfKind def node kind
    pub reads : ReadsAs def kind 0 text new nesting

  -- the text has tokens, and no tree of the node's kind has them
  pub record HasNoTreeFor (node : Fragment) (text : List ℕ) : Type 0 where
    pub kind : Kind
    pub of_kind : IsOfKind def node kind
    pub none : HasNoTree def kind text

  -- the text is read as a tree, and its brackets nest too deep
  pub record NestsTooDeep (node : Fragment) (text : List ℕ) : Type 0 where
    pub new : Fragment
    pub nesting : ℕ
    pub reads : ReadsFor node text new nesting
    pub deep : most_brackets < nesting

  -- ---- what is answered for a text

  -- some tree of the kind that is too deep, or whose brackets nest too deep, is read from the text
  pub record HasDeepTree (kind : Kind) (text : List ℕ) : Type 0 where
    pub new : Fragment
    pub nesting : ℕ
    pub reads : ReadsAs def kind 0 text new nesting
    pub deep : IsDeep new ⊎ (most_brackets < nesting)

  -- a well-formed tree of the kind that the text is read as, within the limit of brackets
  pub record HasTree (kind : Kind) (text : List ℕ) (new : Fragment) : Type 0 where
    pub nesting : ℕ
    pub reads : ReadsAs def kind 0 text new nesting
    pub formed : WellFormed def new kind
    pub within : nesting ≤ most_brackets

  -- the tree, or why there is none
  abbrev pub IsTextAnswer : Kind → List ℕ → Result Fragment Stop → Type 0
  IsTextAnswer kind text (Ok new) = HasTree kind text new
  IsTextAnswer kind text (Err Memory) = Unit {0}
  IsTextAnswer kind text (Err (Refused r)) =
      ((r ≡ NoTokens) × HasNoTokens def text)
      ⊎ (((r ≡ NoTree) × HasNoTree def kind text) ⊎ ((r ≡ TooDeep) × HasDeepTree kind text))

  -- nothing was counted, or at most one for each token of the text
  abbrev pub HasRead : List ℕ → ℕ → ℕ → Type 0
  HasRead text from to =
      (to ≡ from) ⊎ ((ts : List Spanned) × TextTokens def text ts × (to ≤ from + length ts))
