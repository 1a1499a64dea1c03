-- What may be put in place of the word at a position of a document.
use Rattle.std.specs.Prelude.{ℕ, ◌≡◌, ◌≤◌, ◌-◌, ◌++◌, Bool, true, false, cond, List, [], ◌∷◌, codes}
use Rattle.std.specs.Prelude.{drop, length, take, Option, Some, None}
use Rattle.std.specs.Str.{IsUtf8}
use Rattle.serde_json.specs.Data.{Data, array, boolean, null, string, object, member, no_members}
use Rattle.serde_json.specs.View.{items_of}
use Rattle.psg_comments.specs.Blanking.{is_inside}
use Rattle.psg_comments.specs.declared.finding.Comment.{Comment}
use Rattle.psg_documents.specs.declared.encoding.Encoding.{Encoding}
use Rattle.psg_documents.specs.declared.lines.Position.{Position}
use Rattle.psg_documents.specs.Positions.{IsByteOf}
use Rattle.psg_grammar.specs.declared.types.Definition.{Definition}
use Rattle.psg_grammar.specs.declared.types.Kind.{Kind}
use Rattle.psg_completing.specs.declared.completing.Completion.{Completion}
use Rattle.psg_completing.specs.declared.offering.Entry.{Entry}
use Rattle.psg_completing.specs.Offering.{IsCompletion}
use Rattle.psg_server.specs.declared.judging.Defined.{Defined}
use Rattle.psg_server.specs.Edits.{edit_data}
use Rattle.psg_server.specs.Judging.{OfAsked, is_within, own_byte}
use Rattle.psg_server.specs.Ranges.{IsRange}

-- what an entry writes, with what is around it
abbrev pub written : Completion → Entry → List ℕ
written c e = c.before ++ (e.text ++ c.behind)

abbrev pub item_with : Entry → List ℕ → Data → Data
item_with e filter edit =
    object (member (codes "detail") (string e.operator) (member (codes "filterText") (string filter)
    (member (codes "label") (string e.text) (member (codes "textEdit") edit no_members))))

-- An entry: its label is what it writes, and an editor compares the word with the word itself, so that it shows each
-- one.
abbrev pub item_data : Completion → List ℕ → Data → Entry → Data
item_data c filter range e = item_with e filter (edit_data range (written c e))

abbrev pub list_data : Bool → List Data → Data
list_data more items =
    object (member (codes "isIncomplete") (boolean more) (member (codes "items") (array (items_of items)) no_members))

-- the bytes between two places are a text
pub record IsTextBetween (text : List ℕ) (from to : ℕ) : Type 0 where
  pub order : from ≤ to
  pub within : to ≤ length text
  pub text_there : IsUtf8 (take (to - from) (drop from text))

-- the word of the text; where its bytes are none, nothing
pub data IsWord (text : List ℕ) (c : Completion) : List ℕ → Type 0 where
  word_there : IsWord text c (take (c.to - c.from) (drop c.from text))
  no_word : (IsTextBetween text c.from c.to → ⊥) → IsWord text c []

-- an entry, whose edit has the word's bytes
pub record IsItem (encoding : Encoding) (text : List ℕ) (c : Completion) (filter : List ℕ) (e : Entry) (d : Data)
    : Type 0 where
  pub range : Data
  pub is_range : IsRange encoding text c.from c.to range
  pub is : d ≡ item_data c filter range e

-- the entries, in their order
pub data AreItems (encoding : Encoding) (text : List ℕ) (c : Completion) (filter : List ℕ) : List Entry → List Data
    → Type 0 where
  no_items : AreItems encoding text c filter [] []
  one_item : {es : List Entry} {ds : List Data} (e : Entry) (d : Data) → IsItem encoding text c filter e d
      → AreItems encoding text c filter es ds → AreItems encoding text c filter (e ∷ es) (d ∷ ds)

pub record IsCompletionValue (encoding : Encoding) (text : List ℕ) (c : Completion) (d : Data) : Type 0 where
  pub filter : List ℕ
  pub is_word : IsWord text c filter
  pub items : List Data
  pub are : AreItems encoding text c filter c.entries.items items
  pub is : d ≡ list_data c.incomplete items

-- what is put, with a space after it where a comment begins right after the word: so it does not run together with the
-- token of comments
abbrev pub spaced : List ℕ → List Comment → Completion → Completion
spaced text comments c =
    cond (is_inside comments (own_byte text c.to)) (record c { behind = c.behind ++ 32 ∷ [] }) c

-- What may be put in place of the word at a byte, by what is judged of the text: nothing in a comment.
pub data IsCompletedAt (def : Definition) (kind : Kind) (encoding : Encoding) (text : List ℕ) (comments : List Comment)
    (judged : List ℕ) (byte : ℕ) (d : Data) : Type 0 where
  completed_in_comment : is_within comments (own_byte text byte) ≡ true → d ≡ null
      → IsCompletedAt def kind encoding text comments judged byte d
  completed_there : (completion : Completion) → is_within comments (own_byte text byte) ≡ false
      → IsCompletion def kind judged byte completion
      → IsCompletionValue encoding text (spaced text comments completion) d
      → IsCompletedAt def kind encoding text comments judged byte d

-- What may be put in place of the word at the position.
pub record IsCompletedOf (def : Defined) (kind : Kind) (encoding : Encoding) (text : List ℕ) (position : Position)
    (d : Data) : Type 0 where
  pub byte : ℕ
  pub is_byte : IsByteOf encoding text position.line position.column byte
  pub asked : OfAsked def text byte (λ comments judged.
      IsCompletedAt def.language kind encoding text comments judged byte d)

-- Of a text that is not known: nothing.
abbrev pub IsCompletedIn : Defined → Kind → Encoding → Option (List ℕ) → Position → Data → Type 0
IsCompletedIn def kind encoding None position d = d ≡ null
IsCompletedIn def kind encoding (Some text) position d = IsCompletedOf def kind encoding text position d
