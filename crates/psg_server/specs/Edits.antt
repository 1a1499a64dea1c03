-- The text that a document is to have, as an edit.
use Rattle.std.specs.Prelude.{ℕ, ◌≡◌, ◌<◌, ◌≤◌, ◌++◌, List, length, take, drop, Option, Some, None, codes}
use Rattle.serde_json.specs.Data.{Data, null, array, no_items, item, string, object, member, no_members}
use Rattle.psg_terms.specs.Names.{Name}
use Rattle.psg_comments.specs.declared.finding.Comment.{Comment}
use Rattle.psg_commented.specs.Keeping.{IsWithComments}
use Rattle.psg_class.specs.Texts.{TextTokens}
use Rattle.psg_documents.specs.declared.encoding.Encoding.{Encoding}
use Rattle.psg_documents.specs.Positions.{IsLineStart, IsStop}
use Rattle.psg_grammar.specs.declared.types.Definition.{Definition}
use Rattle.psg_grammar.specs.declared.types.Kind.{Kind}
use Rattle.psg_grammar.specs.Fragments.{Fragment}
use Rattle.psg_grammar.specs.WellFormed.{fixed_words}
use Rattle.psg_lexis.specs.declared.token.Spanned.{Spanned}
use Rattle.psg_program.specs.Decoding.{unmarked}
use Rattle.psg_program.specs.Formatted.{formatted}
use Rattle.psg_program.specs.Programs.{IsFaulty, IsProgram}
use Rattle.psg_unparse.specs.Layout.{text_of}
use Rattle.psg_server.specs.declared.judging.Defined.{Defined}
use Rattle.psg_server.specs.Judging.{OfJudged}
use Rattle.psg_server.specs.Ranges.{IsRange}

abbrev pub edit_data : Data → List ℕ → Data
edit_data range new = object (member (codes "newText") (string new) (member (codes "range") range no_members))

-- whole lines at the beginning of both texts are the same: those before this place
pub record HaveFront (text wanted : List ℕ) (from : ℕ) : Type 0 where
  pub start : IsLineStart text from
  pub start_wanted : IsLineStart wanted from
  pub same : take from text ≡ take from wanted

-- Whole lines at the end of both texts are the same, or there are none: those from these places on.
pub record HaveTail (text wanted : List ℕ) (to until : ℕ) : Type 0 where
  pub within : to ≤ length text
  pub within_wanted : until ≤ length wanted
  pub start : to < length text → IsLineStart text to
  pub start_wanted : until < length wanted → IsLineStart wanted until
  pub same : drop to text ≡ drop until wanted

-- the first line that differs begins at this place
pub record IsFront (text wanted : List ℕ) (from : ℕ) : Type 0 where
  pub have : HaveFront text wanted from
  pub longest : (other : ℕ) → HaveFront text wanted other → other ≤ from

-- from these places on are all the whole lines at the end that are the same, of what is not before a place
pub record IsTail (text wanted : List ℕ) (from to until : ℕ) : Type 0 where
  pub before : from ≤ to
  pub before_wanted : from ≤ until
  pub have : HaveTail text wanted to until
  pub longest : (other stop : ℕ) → from ≤ other → from ≤ stop → HaveTail text wanted other stop → to ≤ other

-- A text in place of a range of the text makes it the one that is wanted. The range begins with the first line that
-- differs. It ends as early as it may then: whole lines that are the same at the end are not in it. Its ends are places
-- where a person may be, so its positions name these bytes.
pub record IsEdit (encoding : Encoding) (text wanted : List ℕ) (d : Data) : Type 0 where
  pub from : ℕ
  pub to : ℕ
  pub until : ℕ
  pub front : IsFront text wanted from
  pub tail : IsTail text wanted from to until
  pub begins : IsStop text from
  pub ends : IsStop text to
  pub new : List ℕ
  pub gives : take from text ++ (new ++ drop to text) ≡ wanted
  pub range : Data
  pub is_range : IsRange encoding text from to range
  pub is : d ≡ edit_data range new

-- What the text is to be, where it is this program without these comments: the printed text of the program, and a line
-- feed. In a language with comments the comments are in it.
abbrev pub IsWanted : Definition → Option Name → List ℕ → List Comment → List ℕ → Fragment → List ℕ → Type 0
IsWanted def None text comments judged f wanted = wanted ≡ formatted def f
IsWanted def (Some token) text comments judged f wanted =
    (ts : List Spanned) × TextTokens def (unmarked judged) ts
    × IsWithComments (fixed_words def) token (unmarked text) ts comments (text_of def f) wanted

-- What formatting answers: nothing where the text without its comments is no program, no edit where the text is as it is
-- to be, and else one edit.
pub data IsFormatting (def : Defined) (kind : Kind) (encoding : Encoding) (text : List ℕ) (comments : List Comment)
    (judged : List ℕ) : Data → Type 0 where
  no_program : (line column : ℕ) (message : List ℕ) → IsFaulty def.language kind judged line column message
      → IsFormatting def kind encoding text comments judged null
  as_it_is : (f : Fragment) → IsProgram def.language kind judged f
      → IsWanted def.language def.comment text comments judged f text
      → IsFormatting def kind encoding text comments judged (array no_items)
  one_edit : (f : Fragment) (wanted : List ℕ) (d : Data) → IsProgram def.language kind judged f
      → IsWanted def.language def.comment text comments judged f wanted → (text ≡ wanted → ⊥)
      → IsEdit encoding text wanted d
      → IsFormatting def kind encoding text comments judged (array (item d no_items))

-- Of a text that is not known: nothing.
abbrev pub IsFormattingOf : Defined → Kind → Encoding → Option (List ℕ) → Data → Type 0
IsFormattingOf def kind encoding None d = d ≡ null
IsFormattingOf def kind encoding (Some text) d =
    OfJudged def text (λ comments judged. IsFormatting def kind encoding text comments judged d)
