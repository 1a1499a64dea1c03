-- What is said of the node at a position of a document.
use Rattle.std.specs.Prelude.{ℕ, ◌≡◌, true, false, List, [], ◌∷◌, ◌++◌, map, codes, string_bytes, Option, Some, None}
use Rattle.serde_json.specs.Data.{Data, null, string, object, member, no_members}
use Rattle.psg_comments.specs.Blanking.{is_inside}
use Rattle.psg_comments.specs.declared.finding.Comment.{Comment}
use Rattle.psg_documents.specs.declared.encoding.Encoding.{Encoding}
use Rattle.psg_documents.specs.declared.lines.Position.{Position}
use Rattle.psg_documents.specs.Positions.{IsByteOf}
use Rattle.psg_grammar.specs.declared.types.Definition.{Definition}
use Rattle.psg_grammar.specs.declared.types.Kind.{Kind}
use Rattle.psg_pointing.specs.declared.hovering.Hover.{Hover}
use Rattle.psg_pointing.specs.Hovering.{IsHovered}
use Rattle.psg_server.specs.declared.judging.Defined.{Defined}
use Rattle.psg_server.specs.Judging.{OfJudged, own_byte}
use Rattle.psg_server.specs.Ranges.{IsRange}

-- the lines as one text
abbrev pub after_feeds : List (List ℕ) → List ℕ
after_feeds [] = []
after_feeds (line ∷ lines) = 10 ∷ (line ++ after_feeds lines)

abbrev pub joined : List (List ℕ) → List ℕ
joined [] = []
joined (line ∷ lines) = line ++ after_feeds lines

abbrev pub plain_text : List ℕ → Data
plain_text value =
    object (member (codes "kind") (string (codes "plaintext")) (member (codes "value") (string value) no_members))

abbrev pub contents : Data → Data → Data
contents range value = object (member (codes "contents") value (member (codes "range") range no_members))

abbrev pub hover_data : Data → List ℕ → Data
hover_data range value = contents range (plain_text value)

-- the bytes of the node, and the lines
pub record IsHoverValue (encoding : Encoding) (text : List ℕ) (h : Hover) (d : Data) : Type 0 where
  pub range : Data
  pub is_range : IsRange encoding text h.start h.end range
  pub is : d ≡ hover_data range (joined (map string_bytes h.lines.items))

abbrev pub IsTold : Encoding → List ℕ → Option Hover → Data → Type 0
IsTold encoding text None d = d ≡ null
IsTold encoding text (Some h) d = IsHoverValue encoding text h d

-- What is said of the node at the position, by what is judged of the text: nothing at a byte of a comment, where no node
-- is, and where it is no program.
pub data IsToldAt (def : Definition) (kind : Kind) (encoding : Encoding) (text : List ℕ) (comments : List Comment)
    (judged : List ℕ) (position : Position) (d : Data) : Type 0 where
  told_in_comment : (byte : ℕ) → IsByteOf encoding text position.line position.column byte
      → is_inside comments (own_byte text byte) ≡ true → d ≡ null
      → IsToldAt def kind encoding text comments judged position d
  told_there : (byte : ℕ) (hover : Option Hover) → IsByteOf encoding text position.line position.column byte
      → is_inside comments (own_byte text byte) ≡ false → IsHovered def kind judged byte hover
      → IsTold encoding text hover d → IsToldAt def kind encoding text comments judged position d

-- Of a text that is not known: nothing.
abbrev pub IsToldIn : Defined → Kind → Encoding → Option (List ℕ) → Position → Data → Type 0
IsToldIn def kind encoding None position d = d ≡ null
IsToldIn def kind encoding (Some text) position d =
    OfJudged def text (λ comments judged. IsToldAt def.language kind encoding text comments judged position d)
