-- The values that a server sends.
use Rattle.std.specs.Prelude.{ℕ, List, Option, Some, None, codes, ◌≡◌}
use Rattle.serde_json.specs.Data.{Data, null, number, string, object, member, no_members}
use Rattle.serde_json.specs.Find.{of_integer}
use Rattle.psg_messages.specs.declared.turns.Fault.{Fault}
use Rattle.psg_messages.specs.Turns.{code_of}

abbrev pub version : Data
version = string (codes "2.0")

-- the answer to a request with this id
abbrev pub answer_of : Data → Data → Data
answer_of id value = object (member (codes "id") id
    (member (codes "jsonrpc") version (member (codes "result") value no_members)))

-- the id of what is refused, or null where there is none
abbrev pub id_or_null : Option Data → Data
id_or_null None = null
id_or_null (Some id) = id

-- a fault with its message
abbrev pub fault_of : Fault → List ℕ → Data
fault_of fault message =
    object (member (codes "code") (number (of_integer (code_of fault)))
    (member (codes "message") (string message) no_members))

-- the answer to a message that is refused
abbrev pub refusal_of : Option Data → Fault → List ℕ → Data
refusal_of id fault message = object (member (codes "error") (fault_of fault message)
    (member (codes "id") (id_or_null id) (member (codes "jsonrpc") version no_members)))

-- a note of the server
abbrev pub note_of : List ℕ → Data → Data
note_of method value = object (member (codes "jsonrpc") version
    (member (codes "method") (string method) (member (codes "params") value no_members)))
