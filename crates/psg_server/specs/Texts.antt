-- The text of a document over several messages: it is the last one that was sent for it.
use Rattle.std.specs.Prelude.{ℕ, ◌≡◌, List, [], ◌∷◌, Option, Some, None, option_and_then, unwrap_or, if◌then◌else◌}
use Rattle.std.specs.Option.{option_map}
use Rattle.std.specs.Str.{bytes_eq}
use Rattle.serde_json.specs.Data.{Items}
use Rattle.psg_grammar.specs.declared.types.Kind.{Kind}
use Rattle.psg_messages.specs.Messages.{Given, Said, answer, note, request, wrong}
use Rattle.psg_messages.specs.Turns.{due, served}
use Rattle.psg_server.specs.declared.documents.Document.{Document}
use Rattle.psg_server.specs.declared.judging.Defined.{Defined}
use Rattle.psg_server.specs.declared.methods.Notice.{Notice}
use Rattle.psg_server.specs.declared.methods.Notice.TheVariants as notices
use Rattle.psg_server.specs.declared.server.Server.{Server}
use Rattle.psg_server.specs.Answering.{Gets, Out}
use Rattle.psg_server.specs.Documents.{document_at}
use Rattle.psg_server.specs.Fields.{address_in, changes_in, is_empty, last_in, opened_in, whole_text}
use Rattle.psg_server.specs.Methods.{is_known, notice_of}

-- the text of the document at the address: none where no document is open there, or where its text is not known
abbrev pub text_at : List ℕ → List Document → Option (List ℕ)
text_at address documents = option_and_then (λ d. d.text) (document_at address documents)

-- ---- what a message says of a text: the whole text, that it is not known, or nothing

-- a list without changes says nothing
abbrev pub changed_word : Option Items → Option (Option (List ℕ))
changed_word changes = if is_empty changes then None else Some (whole_text (last_in changes))

abbrev pub notice_word : Given → Option Notice → Option (Option (List ℕ))
notice_word given None = None
notice_word given (Some notices.Opened) = option_map (λ d. d.text) (opened_in given)
notice_word given (Some notices.Changed) = changed_word (changes_in given)
notice_word given (Some notices.Closed) = Some None
notice_word given (Some notices.Exit) = None

-- it is said of this address
abbrev pub word_at : List ℕ → Option (List ℕ) → Option (Option (List ℕ)) → Option (Option (List ℕ))
word_at address None word = None
word_at address (Some other) word = if bytes_eq other address then word else None

-- what the message says of the text at the address
abbrev pub word_of : List ℕ → Said → Option (Option (List ℕ))
word_of address (request id method given) = None
word_of address (note method given) = word_at address (address_in given) (notice_word given (notice_of method))
word_of address answer = None
word_of address (wrong id) = None

-- what the messages say at last, after what was said before them
abbrev pub last_word : List ℕ → Option (List ℕ) → List Said → Option (List ℕ)
last_word address before [] = before
last_word address before (s ∷ messages) = last_word address (unwrap_or (word_of address s) before) messages

-- ---- the law

module _ (def : Defined) (kind : Kind) where
  -- Messages are read one after the other, from one server to another. Those that are served are listed.
  pub data Comes : Server → List Said → Server → Type 0 where
    no_more : (old : Server) → Comes old [] old
    next_served : (old between new : Server) (s : Said) (out : Out) (messages : List Said)
        → due old.phase (is_known s) s ≡ served → Gets def kind old s between out → Comes between messages new
        → Comes old (s ∷ messages) new
    next_not : (old between new : Server) (s : Said) (out : Out) (messages : List Said)
        → (due old.phase (is_known s) s ≡ served → ⊥) → Gets def kind old s between out → Comes between messages new
        → Comes old messages new

  -- A text that is known is the last one that was sent, where no documents were open before the messages.
  abbrev pub KeepsLast : Type 0
  KeepsLast =
      (old new : Server) (messages : List Said) (address text : List ℕ) → old.documents ≡ [] → Comes old messages new
      → text_at address new.documents ≡ Some text → last_word address None messages ≡ Some text
