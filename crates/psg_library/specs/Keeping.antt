-- Which bytes keep a fragment, and why bytes keep none.
use Rattle.std.specs.Prelude.{ℕ, ◌≡◌, ◌⊎◌, ◌<◌, ◌≤◌, ◌+◌, List, [], ◌∷◌, ◌++◌, length, Some}
use Rattle.std.specs.Option.{unwrap_or}
use Rattle.psg_grammar.specs.declared.types.Kind.{Kind}
use Rattle.psg_grammar.specs.declared.types.Definition.{Definition}
use Rattle.psg_grammar.specs.Fragments.{Fragment}
use Rattle.psg_grammar.specs.Kinds.{kind_name_of}
use Rattle.psg_grammar.specs.Printable.{IsPrintable}
use Rattle.psg_grammar.specs.Sizes.{depth_of}
use Rattle.psg_grammar.specs.WellFormed.{WellFormed}
use Rattle.psg_lexis.specs.declared.token.Spanned.{Spanned}
use Rattle.psg_class.specs.Texts.{TextTokens, ReadsAs, HasNoTokens, HasNoTree}
use Rattle.psg_unparse.specs.Layout.{text_of}
use Rattle.psg_script.specs.Forms.{IsName}
use Rattle.psg_library.specs.declared.fragment.SavedFragment.{SavedFragment}
use Rattle.psg_library.specs.declared.fragment.KeptFault.{KeptFault}
use Rattle.psg_library.specs.declared.fragment.KeptFault.TheVariants as faults
use Rattle.psg_library.specs.Heads.{head_of, HasHead, text_in}

-- ---- what is written

-- The head line with the name of the kind, a line feed, the printed text, a line feed. A kind that is not there has no
-- name.
abbrev pub bytes_of : Definition → SavedFragment → List ℕ
bytes_of def s = head_of s.name (unwrap_or (kind_name_of def s.kind) []) ++ 10 ∷ (text_of def s.tree ++ 10 ∷ [])

-- ---- what is read

module _ (def : Definition) (kind : Kind) (text : List ℕ) where
  -- The text reads as the tree of the kind, at level 0. The tree is at most 200 deep, and its brackets nest at most 400
  -- deep.
  pub record IsReadAs (f : Fragment) : Type 0 where
    pub nesting : ℕ
    pub reads : ReadsAs def kind 0 text f nesting
    pub depth : depth_of f ≤ 200
    pub brackets : nesting ≤ 400

  -- why the text reads as no such tree: it has no tokens; it has some and no tree has them; one has them and is too
  -- deep
  pub data IsTextFault : KeptFault → Type 0 where
    no_tokens : HasNoTokens def text → IsTextFault faults.NoTokens
    no_tree : HasNoTree def kind text → IsTextFault faults.NoTree
    too_deep : (f : Fragment) (nesting : ℕ) → ReadsAs def kind 0 text f nesting → (200 < depth_of f) ⊎ (400 < nesting)
        → IsTextFault faults.Deep

-- a step for each token of the text, at most; nothing is counted where it has none
pub data CountsTokens (def : Definition) (text : List ℕ) (before after : ℕ) : Type 0 where
  nothing : after ≡ before → CountsTokens def text before after
  tokens : (ts : List Spanned) → TextTokens def text ts → after ≤ before + length ts
      → CountsTokens def text before after

module _ (def : Definition) (bytes : List ℕ) where
  -- the head has the name, and its other word is the name of the kind
  pub record BeginsAs (name : List ℕ) (kind : Kind) : Type 0 where
    pub word : List ℕ
    pub head : HasHead bytes name word
    pub kind_word : kind_name_of def kind ≡ Some word

  -- The bytes keep the fragment: its name and kind are those of the head, and what follows the head reads as its tree.
  pub record IsKept (s : SavedFragment) : Type 0 where
    pub begins : BeginsAs s.name s.kind
    pub reads : IsReadAs def s.kind (text_in bytes) s.tree

  -- The first fault. Each one is looked at only where none before it is there.
  pub data IsFirstFault : KeptFault → Type 0 where
    no_head : ((name word : List ℕ) → HasHead bytes name word → ⊥) → IsFirstFault faults.Head
    no_kind : (name word : List ℕ) → HasHead bytes name word → ((kind : Kind) → kind_name_of def kind ≡ Some word → ⊥)
        → IsFirstFault faults.Phylum
    unread : (name : List ℕ) (kind : Kind) (fault : KeptFault) → BeginsAs name kind
        → IsTextFault def kind (text_in bytes) fault → IsFirstFault fault

  -- What may be counted while the bytes are read: the tokens of the text after a head that names a kind. Where there
  -- is no such head, or the text has no tokens, nothing is counted.
  pub data MayCount (before after : ℕ) : Type 0 where
    uncounted : after ≡ before → MayCount before after
    counted : (name : List ℕ) (kind : Kind) → BeginsAs name kind → CountsTokens def (text_in bytes) before after
        → MayCount before after

-- the first fault, or there was no memory
abbrev pub OrMemory : (KeptFault → Type 0) → KeptFault → Type 0
OrMemory P fault = (fault ≡ faults.Memory) ⊎ P fault

-- ---- laws

-- bytes keep at most one fragment, or they have one first fault
pub record HasOneReading (def : Definition) (bytes : List ℕ) : Type 0 where
  pub fragment : (s t : SavedFragment) → IsKept def bytes s → IsKept def bytes t → s ≡ t
  pub fault : (x y : KeptFault) → IsFirstFault def bytes x → IsFirstFault def bytes y → x ≡ y
  pub either : (s : SavedFragment) (x : KeptFault) → IsKept def bytes s → IsFirstFault def bytes x → ⊥

-- What is written of a fragment keeps it, where its name is one, and its tree is printable and at most 200 deep.
abbrev pub IsKeptIfPrintable : Definition → SavedFragment → Type 0
IsKeptIfPrintable def s =
    IsName s.name → IsPrintable s.tree → WellFormed def s.tree s.kind → depth_of s.tree ≤ 200
    → IsKept def (bytes_of def s) s
