-- What the server says of itself.
use Rattle.std.specs.Prelude.{ℕ, true, List, codes}
use Rattle.serde_json.specs.Data.{Data, boolean, number, unsigned, string, object, Members, member, no_members}
use Rattle.psg_documents.specs.declared.encoding.Encoding.{Encoding}
use Rattle.psg_documents.specs.declared.encoding.Encoding.TheVariants as encodings

-- documents are opened and closed, and each change has the whole text
abbrev pub sync : Data
sync = object (member (codes "change") (number (unsigned 1)) (member (codes "openClose") (boolean true) no_members))

-- a new name is prepared
abbrev pub preparing : Data
preparing = object (member (codes "prepareProvider") (boolean true) no_members)

abbrev pub synced : Members
synced = member (codes "referencesProvider") (boolean true)
    (member (codes "renameProvider") preparing (member (codes "textDocumentSync") sync no_members))

-- with an encoding
abbrev pub named : List ℕ → Members
named name = member (codes "positionEncoding") (string name) synced

-- utf-16 is left out
abbrev pub with_encoding : Encoding → Members
with_encoding encodings.Utf8 = named (codes "utf-8")
with_encoding encodings.Utf16 = synced
with_encoding encodings.Utf32 = named (codes "utf-32")

-- what the server can do, in the order of the names; of what may be put at a place nothing more is said
abbrev pub can : Members → Data
can encoded = object (member (codes "completionProvider") (object no_members)
    (member (codes "definitionProvider") (boolean true) (member (codes "documentFormattingProvider") (boolean true)
    (member (codes "documentHighlightProvider") (boolean true)
    (member (codes "hoverProvider") (boolean true) encoded)))))

abbrev pub capabilities_of : Encoding → Data
capabilities_of encoding = can (with_encoding encoding)

-- the answer to `initialize`
abbrev pub greeting_with : Data → Data
greeting_with capabilities = object (member (codes "capabilities") capabilities
    (member (codes "serverInfo") (object (member (codes "name") (string (codes "psg")) no_members)) no_members))

abbrev pub greeting_of : Encoding → Data
greeting_of encoding = greeting_with (capabilities_of encoding)
