-- What the parameters of a message say.
use Rattle.std.specs.Prelude.{ℕ, ℤ, List, Bool, true, false, Option, Some, None, ◌||◌, codes}
use Rattle.std.specs.Prelude.{is_some, not, option_and_then, unwrap_or, if◌then◌else◌}
use Rattle.std.specs.Str.{bytes_eq}
use Rattle.psg_documents.specs.declared.encoding.Encoding.{Encoding}
use Rattle.psg_documents.specs.declared.encoding.Encoding.TheVariants as encodings
use Rattle.psg_documents.specs.declared.lines.Position.{Position}
use Rattle.serde_json.specs.Data.{Data, Items, no_items, item}
use Rattle.serde_json.specs.Find.{as_array, as_bool, as_i64, as_null, as_number, as_str, as_u64, get}
use Rattle.psg_messages.specs.Messages.{Given, nothing, fields, wrong_params}
use Rattle.psg_server.specs.declared.documents.Document.{Document}

abbrev pub fields_in : Given → Option Data
fields_in nothing = None
fields_in (fields d) = Some d
fields_in wrong_params = None

-- the member of a value that there may be
abbrev pub member_in : List ℕ → Option Data → Option Data
member_in key None = None
member_in key (Some d) = get key d

abbrev pub text_in : Option Data → Option (List ℕ)
text_in None = None
text_in (Some d) = as_str d

-- a whole number of 64 bits
abbrev pub whole_in : Option Data → Option ℤ
whole_in None = None
whole_in (Some d) = option_and_then as_i64 (as_number d)

abbrev pub items_in : Option Data → Option Items
items_in None = None
items_in (Some d) = as_array d

-- ---- the document that is named

abbrev pub document_in : Given → Option Data
document_in given = member_in (codes "textDocument") (fields_in given)

abbrev pub address_in : Given → Option (List ℕ)
address_in given = text_in (member_in (codes "uri") (document_in given))

abbrev pub version_in : Given → Option ℤ
version_in given = whole_in (member_in (codes "version") (document_in given))

-- ---- its text

-- of a document that is opened
abbrev pub opened_text_in : Given → Option (List ℕ)
opened_text_in given = text_in (member_in (codes "text") (document_in given))

abbrev pub last_of : Items → Option Data
last_of no_items = None
last_of (item d no_items) = Some d
last_of (item d (item e ds)) = last_of (item e ds)

abbrev pub last_in : Option Items → Option Data
last_in None = None
last_in (Some ds) = last_of ds

-- a change of a part of the text has a range, which is not null
abbrev pub is_part : Option Data → Bool
is_part None = false
is_part (Some range) = not (is_some (as_null range))

-- the text of a change of the whole text
abbrev pub whole_text : Option Data → Option (List ℕ)
whole_text None = None
whole_text (Some d) = if is_part (get (codes "range") d) then None else text_in (get (codes "text") d)

-- the changes of a document
abbrev pub changes_in : Given → Option Items
changes_in given = items_in (member_in (codes "contentChanges") (fields_in given))

-- there is a list, and it is empty
abbrev pub is_empty : Option Items → Bool
is_empty None = false
is_empty (Some no_items) = true
is_empty (Some (item d ds)) = false

-- The text after changes: as before where there are none, and else that of the last change. It is not known where that
-- is none of the whole text.
abbrev pub text_after : Option Items → Option (List ℕ) → Option (List ℕ)
text_after changes before = if is_empty changes then before else whole_text (last_in changes)

-- ---- the document as it is to be

abbrev pub document_by : Option (List ℕ) → Option ℤ → Option (List ℕ) → Option Document
document_by None version text = None
document_by (Some address) None text = None
document_by (Some address) (Some version) None = None
document_by (Some address) (Some version) (Some text) =
    Some (record { address = address; version = version; text = Some text })

abbrev pub opened_in : Given → Option Document
opened_in given = document_by (address_in given) (version_in given) (opened_text_in given)

-- A document after a change. A version that is none leaves the old one.
abbrev pub changed_in : Given → Document → Document
changed_in given before = record {
  address = before.address;
  version = unwrap_or (version_in given) before.version;
  text = text_after (changes_in given) before.text;
}

-- ---- a position

-- a whole number that is not negative
abbrev pub number_in : Option Data → Option ℕ
number_in None = None
number_in (Some d) = option_and_then as_u64 (as_number d)

abbrev pub position_by : Option ℕ → Option ℕ → Option Position
position_by None column = None
position_by (Some line) None = None
position_by (Some line) (Some column) = Some (record { line = line; column = column })

-- the position that the parameters name
abbrev pub place_of : Given → Option Data
place_of given = member_in (codes "position") (fields_in given)

abbrev pub position_in : Given → Option Position
position_in given = position_by (number_in (member_in (codes "line") (place_of given)))
    (number_in (member_in (codes "character") (place_of given)))

-- ---- what is asked of names

abbrev pub flag_in : Option Data → Option Bool
flag_in None = None
flag_in (Some d) = as_bool d

abbrev pub declaring_in : Given → Option Bool
declaring_in given = flag_in (member_in (codes "includeDeclaration") (member_in (codes "context") (fields_in given)))

-- names that declare are wanted too, unless the parameters say otherwise
abbrev pub wants_declaring : Given → Bool
wants_declaring given = unwrap_or (declaring_in given) true

abbrev pub new_name_in : Given → Option (List ℕ)
new_name_in given = text_in (member_in (codes "newName") (fields_in given))

-- a position, and the new name of the name there
pub record Renamed : Type 0 where
  pub at : Position
  pub name : List ℕ

abbrev pub naming_by : Option Position → Option (List ℕ) → Option Renamed
naming_by None name = None
naming_by (Some at) None = None
naming_by (Some at) (Some name) = Some (record { at = at; name = name })

abbrev pub naming_in : Given → Option Renamed
naming_in given = naming_by (position_in given) (new_name_in given)

-- ---- the encoding in which columns are counted

abbrev pub is_text : List ℕ → Option (List ℕ) → Bool
is_text name None = false
is_text name (Some text) = bytes_eq text name

abbrev pub has_text : List ℕ → Items → Bool
has_text name no_items = false
has_text name (item d ds) = is_text name (as_str d) || has_text name ds

abbrev pub offers : List ℕ → Option Items → Bool
offers name None = false
offers name (Some ds) = has_text name ds

-- the encodings that the client offers
abbrev pub offered_in : Given → Option Items
offered_in given = items_in (member_in (codes "positionEncodings")
    (member_in (codes "general") (member_in (codes "capabilities") (fields_in given))))

-- utf-8 where the client offers it, and utf-16 else
abbrev pub encoding_in : Given → Encoding
encoding_in given = if offers (codes "utf-8") (offered_in given) then encodings.Utf8 else encodings.Utf16
