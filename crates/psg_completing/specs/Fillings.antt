-- What is put in place of a word so that a text becomes a program: a placeholder, alone or beside a separator.
use Rattle.std.specs.Prelude.{ℕ, suc, ◌≡◌, ◌+◌, ◌==◌, cond, List, [], ◌∷◌, ◌++◌, length, take, drop, slice_get}
use Rattle.std.specs.Prelude.{Option, Some, None}
use Rattle.std.specs.Str.{IsUtf8}
use Rattle.psg_grammar.specs.declared.types.Definition.{Definition}
use Rattle.psg_grammar.specs.declared.types.Kind.{Kind}
use Rattle.psg_grammar.specs.declared.types.ListKind.{ListKind}
use Rattle.psg_grammar.specs.declared.types.Phylum.{Phylum}
use Rattle.psg_grammar.specs.Fragments.{Fragment, hole}
use Rattle.psg_grammar.specs.Paths.{Path, node_at}
use Rattle.psg_class.specs.Texts.{TextTokens, tokens_of}
use Rattle.psg_class.specs.Yields.{Yields}
use Rattle.psg_lexis.specs.declared.token.Spanned.{Spanned}
use Rattle.psg_program.specs.Programs.{IsProgramText}
use Rattle.psg_ranges.specs.Forests.{nodes_of}
use Rattle.psg_tree.specs.AbstractText.{phylum_name}
use Rattle.psg_completing.specs.declared.around.Word.{Word}
use Rattle.psg_completing.specs.declared.fillings.Filling.{Filling}
use Rattle.psg_completing.specs.declared.fillings.Side.{Side}
use Rattle.psg_completing.specs.declared.fillings.Side.TheVariants.{Alone, Before, Behind}
use Rattle.psg_pointing.specs.Pointing.{IsPointed}

-- ---- which there are

abbrev pub filling : ℕ → Side → Filling
filling phylum side = record { phylum = phylum; side = side }

-- before and after the separator of a list, where its elements are of the phylum
abbrev pub list_fillings : ℕ → ℕ → ListKind → List Filling
list_fillings phylum list kind =
    cond (kind.element == phylum) (filling phylum (Before list) ∷ filling phylum (Behind list) ∷ []) []

-- those of the lists from a number on
abbrev pub lists_from : ℕ → ℕ → List ListKind → List Filling
lists_from phylum list [] = []
lists_from phylum list (kind ∷ kinds) = list_fillings phylum list kind ++ lists_from phylum (suc list) kinds

-- those of the phyla from a number on: of each first the placeholder alone
abbrev pub fillings_from : List ListKind → ℕ → List Phylum → List Filling
fillings_from lists phylum [] = []
fillings_from lists phylum (p ∷ ps) =
    (filling phylum Alone ∷ lists_from phylum 0 lists) ++ fillings_from lists (suc phylum) ps

-- of each phylum in the order of the definition
abbrev pub fillings : Definition → List Filling
fillings def = fillings_from def.lists 0 def.phyla

-- ---- the text with one of them

abbrev pub separator_of : Option ListKind → List ℕ
separator_of None = []
separator_of (Some l) = l.separator

-- what is before the placeholder: a separator and a space, or nothing
abbrev pub before : Definition → Side → List ℕ
before def Alone = []
before def (Before list) = []
before def (Behind list) = separator_of (slice_get def.lists list) ++ 32 ∷ []

-- what is after it: a space and a separator, or nothing
abbrev pub behind : Definition → Side → List ℕ
behind def Alone = []
behind def (Before list) = 32 ∷ separator_of (slice_get def.lists list)
behind def (Behind list) = []

-- the same with a space on the other side
abbrev pub front : Definition → Side → List ℕ
front def side = 32 ∷ before def side

abbrev pub back : Definition → Side → List ℕ
back def side = behind def side ++ 32 ∷ []

-- the text with the filling in place of the word
abbrev pub filled : Definition → List ℕ → Word → Filling → List ℕ
filled def own w f =
    take w.from own ++ (front def f.side ++ (63 ∷ (phylum_name def f.phylum ++ (back def f.side ++ drop w.to own))))

-- where its placeholder is
abbrev pub mark_byte : Definition → Word → Filling → ℕ
mark_byte def w f = w.from + length (front def f.side)

-- ---- whether one fits

-- the text is a program in which the node at the byte is a placeholder of the phylum
pub record HasPlaceholder (def : Definition) (kind : Kind) (own : List ℕ) (byte phylum : ℕ) (f : Fragment) (path : Path)
    : Type 0 where
  pub is_text : IsUtf8 own
  pub program : IsProgramText def kind own f
  pub tokens : List Spanned
  pub are : TextTokens def own tokens
  pub nesting : ℕ
  pub yields : Yields def f kind 0 nesting (tokens_of tokens)
  pub pointed : IsPointed tokens byte (nodes_of def f kind 0 nesting (tokens_of tokens) yields) (Some path)
  pub there : node_at f path ≡ Some (hole phylum)

-- so the text with the filling is
abbrev pub Fits : Definition → Kind → List ℕ → Word → Filling → Type 0
Fits def kind own w f = (tree : Fragment) × (path : Path)
    × HasPlaceholder def kind (filled def own w f) (mark_byte def w f) f.phylum tree path

-- the first of the fillings that fits, if there is one
pub data IsFirst (Fit : Filling → Type 0) : List Filling → Option Filling → Type 0 where
  none_fits : IsFirst Fit [] None
  fits : {f : Filling} {more : List Filling} → Fit f → IsFirst Fit (f ∷ more) (Some f)
  fits_later : {f : Filling} {more : List Filling} {found : Option Filling} → (Fit f → ⊥) → IsFirst Fit more found
      → IsFirst Fit (f ∷ more) found
