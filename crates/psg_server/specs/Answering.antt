-- What a body makes of the server, and what is sent: a case for each row of what is served. A server is where the
-- conversation is, the encoding in which columns are counted, and the documents that are open.
use Rattle.std.specs.Prelude.{ℕ, ◌≡◌, ◌⊎◌, List, Option, Some, None, codes}
use Rattle.std.specs.declared.result.Result.{Result}
use Rattle.std.specs.declared.result.Result.TheVariants.{Ok, Err}
use Rattle.serde_json.specs.Data.{Data, null}
use Rattle.serde_json.specs.View.{view}
use Rattle.serde_json.specs.declared.value.Value.{Value}
use Rattle.psg_documents.specs.declared.encoding.Encoding.{Encoding}
use Rattle.psg_documents.specs.declared.lines.Position.{Position}
use Rattle.psg_grammar.specs.declared.types.Kind.{Kind}
use Rattle.psg_messages.specs.Answers.{answer_of, refusal_of}
use Rattle.psg_messages.specs.Messages.{Given, IsValueOf, Said, note, request, said}
use Rattle.psg_messages.specs.Turns.{due, passed, phase_after, refused, served, status_of}
use Rattle.psg_messages.specs.declared.turns.Fault.{Fault}
use Rattle.psg_messages.specs.declared.turns.Fault.TheVariants as faults
use Rattle.psg_server.specs.declared.documents.Document.{Document}
use Rattle.psg_server.specs.declared.judging.Defined.{Defined}
use Rattle.psg_server.specs.declared.renaming.Unnamed.{Unnamed}
use Rattle.psg_server.specs.declared.methods.Ask.{Ask}
use Rattle.psg_server.specs.declared.methods.Call.TheVariants as calls
use Rattle.psg_server.specs.declared.methods.Notice.TheVariants as notices
use Rattle.psg_server.specs.declared.server.Reply.{Reply}
use Rattle.psg_server.specs.declared.server.Reply.TheVariants as replies
use Rattle.psg_server.specs.declared.server.Server.{Server}
use Rattle.psg_server.specs.Capabilities.{greeting_of}
use Rattle.psg_server.specs.Completing.{IsCompletedIn}
use Rattle.psg_server.specs.Diagnostics.{IsPublished, cleared_data}
use Rattle.psg_server.specs.Documents.{Becomes, document_at}
use Rattle.psg_server.specs.Edits.{IsFormattingOf}
use Rattle.psg_server.specs.Fields.{Renamed, address_in, changed_in, encoding_in, naming_in}
use Rattle.psg_server.specs.Fields.{opened_in, position_in, wants_declaring}
use Rattle.psg_server.specs.Hovering.{IsToldIn}
use Rattle.psg_server.specs.Linking.{IsNamedOf, IsRepliedOf, IsUnnamedOf, words_of}
use Rattle.psg_server.specs.Methods.{call_of, is_known, notice_of}

-- what follows from a message: nothing, a value that is sent, or the end with a status
pub data Out : Type 0 where
  silent : Out
  sent : (value : Data) → Out
  ended : (status : ℕ) → Out

abbrev pub out_of : Reply → Out
out_of replies.Nothing = silent
out_of (replies.Sent value) = sent (view value)
out_of (replies.Ended status) = ended status

-- the words for a fault
abbrev pub reason_of : Fault → List ℕ
reason_of faults.NoJson = codes "this is no JSON"
reason_of faults.WrongShape = codes "this is no message that may come here"
reason_of faults.UnknownMethod = codes "there is no such method"
reason_of faults.WrongParams = codes "these are no parameters of the method"
reason_of faults.NotInitialized = codes "the conversation has not begun"

abbrev pub refusal : Option Data → Fault → Out
refusal id fault = sent (refusal_of id fault (reason_of fault))

-- what is sent of a new name
abbrev pub naming_out : Data → Result Value Unnamed → Out
naming_out id (Ok value) = sent (answer_of id (view value))
naming_out id (Err why) = sent (refusal_of (Some id) faults.WrongParams (words_of why))

-- the document that the parameters name, if it is open
abbrev pub open_at : Option (List ℕ) → List Document → Option Document
open_at None documents = None
open_at (Some address) documents = document_at address documents

abbrev pub open_in : Given → List Document → Option Document
open_in given documents = open_at (address_in given) documents

-- a position of a document
pub record Place : Type 0 where
  pub document : Document
  pub position : Position

abbrev pub place_by : Option Document → Option Position → Option Place
place_by None position = None
place_by (Some d) None = None
place_by (Some d) (Some position) = Some (record { document = d; position = position })

-- the one that the parameters name, if the document is open
abbrev pub place_in : Given → List Document → Option Place
place_in given documents = place_by (open_in given documents) (position_in given)

module _ (def : Defined) (kind : Kind) where
  -- What is served: the encoding and the documents then, and what follows from it. What is published of a document is
  -- made of its text alone, so no older one can be shown.
  pub data Serves (old : Server) : Said → Encoding → List Document → Out → Type 0 where
    -- `initialize`
    greets : (id : Data) (method : List ℕ) (given : Given) → call_of method ≡ Some calls.Initialize
        → Serves old (request id method given) (encoding_in given) old.documents
        (sent (answer_of id (greeting_of (encoding_in given))))
    -- `shutdown`
    shuts_down : (id : Data) (method : List ℕ) (given : Given) → call_of method ≡ Some calls.Shutdown
        → Serves old (request id method given) old.encoding old.documents (sent (answer_of id null))
    -- `formatting`, of a document that is open, and of one that is not
    formats : (id : Data) (method : List ℕ) (given : Given) (d : Document) (edits : Data)
        → call_of method ≡ Some calls.Formatting → open_in given old.documents ≡ Some d
        → IsFormattingOf def kind old.encoding d.text edits
        → Serves old (request id method given) old.encoding old.documents (sent (answer_of id edits))
    formats_none : (id : Data) (method : List ℕ) (given : Given) → call_of method ≡ Some calls.Formatting
        → open_in given old.documents ≡ None
        → Serves old (request id method given) old.encoding old.documents (refusal (Some id) faults.WrongParams)
    -- `hover`, at a position of a document that is open, and where there is none
    hovers : (id : Data) (method : List ℕ) (given : Given) (p : Place) (told : Data) → call_of method ≡ Some calls.Hover
        → place_in given old.documents ≡ Some p → IsToldIn def kind old.encoding p.document.text p.position told
        → Serves old (request id method given) old.encoding old.documents (sent (answer_of id told))
    hovers_none : (id : Data) (method : List ℕ) (given : Given) → call_of method ≡ Some calls.Hover
        → place_in given old.documents ≡ None
        → Serves old (request id method given) old.encoding old.documents (refusal (Some id) faults.WrongParams)
    -- `completion`, at a position of a document that is open, and where there is none
    completes : (id : Data) (method : List ℕ) (given : Given) (p : Place) (told : Data)
        → call_of method ≡ Some calls.Completion → place_in given old.documents ≡ Some p
        → IsCompletedIn def kind old.encoding p.document.text p.position told
        → Serves old (request id method given) old.encoding old.documents (sent (answer_of id told))
    completes_none : (id : Data) (method : List ℕ) (given : Given) → call_of method ≡ Some calls.Completion
        → place_in given old.documents ≡ None
        → Serves old (request id method given) old.encoding old.documents (refusal (Some id) faults.WrongParams)
    -- a question about the name at a position of a document that is open, and where there is none
    asks : (id : Data) (method : List ℕ) (given : Given) (p : Place) (ask : Ask) (value : Data)
        → call_of method ≡ Some (calls.Asking ask) → place_in given old.documents ≡ Some p
        → IsRepliedOf def kind old.encoding p.document.address p.document.text ask
        (wants_declaring given) p.position value
        → Serves old (request id method given) old.encoding old.documents (sent (answer_of id value))
    asks_none : (id : Data) (method : List ℕ) (given : Given) (ask : Ask) → call_of method ≡ Some (calls.Asking ask)
        → place_in given old.documents ≡ None
        → Serves old (request id method given) old.encoding old.documents (refusal (Some id) faults.WrongParams)
    -- `rename`, of a document that is open, where the name gets its new name, and where it can't; and where there is
    -- none
    names : (id : Data) (method : List ℕ) (given : Given) (d : Document) (r : Renamed) (value : Data)
        → call_of method ≡ Some calls.Renaming → open_in given old.documents ≡ Some d → naming_in given ≡ Some r
        → IsNamedOf def kind old.encoding d.address d.text r value
        → Serves old (request id method given) old.encoding old.documents (sent (answer_of id value))
    names_not : (id : Data) (method : List ℕ) (given : Given) (d : Document) (r : Renamed) (why : Unnamed)
        → call_of method ≡ Some calls.Renaming → open_in given old.documents ≡ Some d → naming_in given ≡ Some r
        → IsUnnamedOf def kind old.encoding d.address d.text r why
        → Serves old (request id method given) old.encoding old.documents
        (sent (refusal_of (Some id) faults.WrongParams (words_of why)))
    names_none : (id : Data) (method : List ℕ) (given : Given) → call_of method ≡ Some calls.Renaming
        → (open_in given old.documents ≡ None) ⊎ (naming_in given ≡ None)
        → Serves old (request id method given) old.encoding old.documents (refusal (Some id) faults.WrongParams)
    -- `didOpen`
    opens : (method : List ℕ) (given : Given) (d : Document) (documents : List Document) (told : Data)
        → notice_of method ≡ Some notices.Opened → opened_in given ≡ Some d
        → Becomes d.address (Some d) old.documents documents → IsPublished def kind old.encoding d told
        → Serves old (note method given) old.encoding documents (sent told)
    opens_none : (method : List ℕ) (given : Given) → notice_of method ≡ Some notices.Opened → opened_in given ≡ None
        → Serves old (note method given) old.encoding old.documents silent
    -- `didChange`, of a document that is open, and of one that is not. Where the change has not the whole text, the
    -- text is not known then.
    changes : (method : List ℕ) (given : Given) (before : Document) (documents : List Document) (told : Data)
        → notice_of method ≡ Some notices.Changed → open_in given old.documents ≡ Some before
        → Becomes before.address (Some (changed_in given before)) old.documents documents
        → IsPublished def kind old.encoding (changed_in given before) told
        → Serves old (note method given) old.encoding documents (sent told)
    changes_none : (method : List ℕ) (given : Given) → notice_of method ≡ Some notices.Changed
        → open_in given old.documents ≡ None → Serves old (note method given) old.encoding old.documents silent
    -- `didClose`, of a document that is open, and of one that is not
    closes : (method address : List ℕ) (given : Given) (d : Document) (documents : List Document)
        → notice_of method ≡ Some notices.Closed → address_in given ≡ Some address
        → document_at address old.documents ≡ Some d → Becomes address None old.documents documents
        → Serves old (note method given) old.encoding documents (sent (cleared_data address))
    closes_none : (method : List ℕ) (given : Given) → notice_of method ≡ Some notices.Closed
        → open_in given old.documents ≡ None → Serves old (note method given) old.encoding old.documents silent
    -- `exit`
    exits : (method : List ℕ) (given : Given) → notice_of method ≡ Some notices.Exit
        → Serves old (note method given) old.encoding old.documents (ended (status_of old.phase))

  -- what a message gets: it is passed over, refused, or served
  pub data Gets (old : Server) (s : Said) : Server → Out → Type 0 where
    is_passed : due old.phase (is_known s) s ≡ passed → Gets old s old silent
    is_refused : (id : Option Data) (fault : Fault) → due old.phase (is_known s) s ≡ refused id fault
        → Gets old s old (refusal id fault)
    is_served : (encoding : Encoding) (documents : List Document) (out : Out) → due old.phase (is_known s) s ≡ served
        → Serves old s encoding documents out
        → Gets old s (record { phase = phase_after old.phase served s; encoding = encoding; documents = documents }) out

  -- what a body makes of the server
  pub data Answers (bytes : List ℕ) (old : Server) : Server → Out → Type 0 where
    no_json : ((d : Data) → IsValueOf bytes d → ⊥) → Answers bytes old old (refusal None faults.NoJson)
    json : (d : Data) (new : Server) (out : Out) → IsValueOf bytes d → Gets old (said d) new out
        → Answers bytes old new out
