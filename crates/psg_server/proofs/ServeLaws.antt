-- What is served, as the program has it.
use Rattle.std.proofs.Common.{◌≡◌, ℕ, Bool, true, false, List, Option, Some, None, refl, sym, ◌∙◌, ap, subst}
use Rattle.std.specs.Prelude.{MatchOption, is_some}
use Rattle.std.specs.Option.{option_map, unwrap_or}
use Rattle.serde_json.specs.Data.{Data}
use Rattle.serde_json.specs.View.{view}
use Rattle.serde_json.specs.declared.value.Value.{Value}
use denote.Ref.{Bor}
use Rattle.std.proofs.lemmas.Bool.{false≢true}
use Rattle.std.proofs.lemmas.Option.{none-some}
use Rattle.psg_documents.specs.declared.encoding.Encoding.{Encoding}
use Rattle.psg_grammar.specs.declared.types.Kind.{Kind}
use Rattle.psg_messages.specs.Messages.{Given, IsValueOf, Said, note, said}
use Rattle.psg_messages.specs.Turns.{Due, due, due_of, phase_after, refused, served}
use Rattle.psg_messages.specs.declared.turns.Fault.{Fault}
use Rattle.psg_messages.specs.declared.turns.Fault.TheVariants as faults
use Rattle.psg_messages.specs.declared.turns.Phase.{Phase}
use Rattle.psg_messages.specs.declared.turns.Turn.{Turn}
use Rattle.psg_messages.specs.declared.turns.Turn.TheVariants as turns
use Rattle.psg_server.specs.declared.documents.Document.{Document}
use Rattle.psg_server.specs.declared.judging.Defined.{Defined}
use Rattle.psg_server.specs.declared.methods.Notice.TheVariants as notices
use Rattle.psg_server.specs.declared.server.Server.{Server}
use Rattle.psg_server.specs.Answering.{Answers, Gets, Out, Serves, changes, changes_none, closes, closes_none, open_at, open_in, opens, sent, silent}
use Rattle.psg_server.specs.Answering.{is_refused, is_served, json, no_json, refusal}
use Rattle.psg_server.specs.Diagnostics.{IsPublished}
use Rattle.psg_server.specs.Documents.{Becomes, document_at}
use Rattle.psg_server.specs.Fields.{address_in, changed_in, opened_in}
use Rattle.psg_server.specs.Kept.{IsClosed, IsKept, is_closed, was_closed}
use Rattle.psg_server.specs.Methods.{is_known, notice_of}

pub served_as : (def : Defined) (kind : Kind) (old : Server) (s : Said) (e1 e2 : Encoding) (d1 d2 : List Document) (o1 o2 : Out)
    → e2 ≡ e1 → d2 ≡ d1 → o2 ≡ o1 → Serves def kind old s e1 d1 o1 → Serves def kind old s e2 d2 o2
served_as def kind old s e1 e2 d1 d2 o1 o2 e d o so =
    subst (λ x. Serves def kind old s x d2 o2) (sym e)
    (subst (λ x. Serves def kind old s e1 x o2) (sym d) (subst (λ x. Serves def kind old s e1 d1 x) (sym o) so))

pub some_of : (o : Option Document) → is_some o ≡ true → (d : Document) × (o ≡ Some d)
some_of None e = absurd (false≢true e)
some_of (Some d) e = (d, refl)

pub none_of : (o : Option Document) → is_some o ≡ false → o ≡ None
none_of None e = refl
none_of (Some d) e = absurd (false≢true (sym e))

pub opened_as : (def : Defined) (kind : Kind) (d : Document) (old new : Server) (out : Out) (method : List ℕ) (given : Given)
    → notice_of method ≡ Some notices.Opened → opened_in given ≡ Some d → IsKept def kind d old new out
    → Serves def kind old (note method given) new.encoding new.documents out
opened_as def kind d old new out method given is told so =
    served_as def kind old (note method given) old.encoding new.encoding new.documents new.documents (sent so.told) out
    so.encoding_is refl so.out_is (opens method given d new.documents so.told is told so.becomes so.published)

mapped : (f : Document → Document) (o : Option Document) (d : Document) → Some d ≡ option_map f o
    → (before : Document) × (o ≡ Some before) × (f before ≡ d)
mapped f None d e = absurd (none-some d (sym e))
mapped f (Some before) d e = (before, refl, ap (λ (o : Option Document). unwrap_or o d) (sym e))

none_mapped : (f : Document → Document) (o : Option Document) → None ≡ option_map f o → o ≡ None
none_mapped f None e = refl
none_mapped f (Some before) e = absurd (none-some (f before) e)

pub changed_as : (def : Defined) (kind : Kind) (d : Document) (old new : Server) (out : Out) (method : List ℕ) (given : Given)
    → notice_of method ≡ Some notices.Changed → Some d ≡ option_map (changed_in given) (open_in given old.documents)
    → IsKept def kind d old new out → Serves def kind old (note method given) new.encoding new.documents out
changed_as def kind d old new out method given is e kept =
    let found = mapped (changed_in given) (open_in given old.documents) d e in
    let so : IsKept def kind (changed_in given found.0) old new out =
    subst (λ (x : Document). IsKept def kind x old new out) (sym found.2) kept in
    served_as def kind old (note method given) old.encoding new.encoding new.documents new.documents (sent so.told) out
    so.encoding_is refl so.out_is (changes method given found.0 new.documents so.told is found.1 so.becomes so.published)

pub unchanged_as : (def : Defined) (kind : Kind) (old : Server) (method : List ℕ) (given : Given)
    → notice_of method ≡ Some notices.Changed → None ≡ option_map (changed_in given) (open_in given old.documents)
    → Serves def kind old (note method given) old.encoding old.documents silent
unchanged_as def kind old method given is e =
    changes_none method given is (none_mapped (changed_in given) (open_in given old.documents) e)

pub closed_as : (def : Defined) (kind : Kind) (address : List ℕ) (old new : Server) (out : Out) (method : List ℕ) (given : Given)
    → notice_of method ≡ Some notices.Closed → address_in given ≡ Some address → IsClosed address old new out
    → Serves def kind old (note method given) new.encoding new.documents out
closed_as def kind address old new out method given is named (was_closed none same quiet) =
    served_as def kind old (note method given) old.encoding new.encoding old.documents new.documents silent out
    (ap (λ (s : Server). s.encoding) same) (ap (λ (s : Server). s.documents) same) quiet
    (closes_none method given is (ap (λ (o : Option (List ℕ)). open_at o old.documents) named ∙ none))
closed_as def kind address old new out method given is named (is_closed d there gone encoding phase told) =
    served_as def kind old (note method given) old.encoding new.encoding new.documents new.documents _ out
    encoding refl told (closes method address given d new.documents is named there gone)

pub closed_phase : (address : List ℕ) (old new : Server) (out : Out) → IsClosed address old new out → new.phase ≡ old.phase
closed_phase address old new out (was_closed none same quiet) = ap (λ (s : Server). s.phase) same
closed_phase address old new out (is_closed d there gone encoding phase told) = phase

pub kept_as : (def : Defined) (kind : Kind) (d own : Document) (old new : Server) (out : Out) (value : Data) → own ≡ d
    → Becomes own.address (Some own) old.documents new.documents → new.encoding ≡ old.encoding → new.phase ≡ old.phase
    → IsPublished def kind old.encoding own value → out ≡ sent value → IsKept def kind d old new out
kept_as def kind d own old new out value e becomes encoding phase published told =
    subst (λ (x : Document). IsKept def kind x old new out) e
    (record {
      becomes = becomes;
      encoding_is = encoding;
      phase_is = phase;
      told = value;
      published = published;
      out_is = told;
    })

-- ---- what a message gets

pub due_is : (phase : Phase) (known : Bool) (s : Said) (turn : Turn) (d : Due) → known ≡ is_known s
    → due_of turn ≡ due phase known s → due_of turn ≡ d → due phase (is_known s) s ≡ d
due_is phase known s turn d k is e = ap (λ (b : Bool). due phase b s) (sym k) ∙ (sym is ∙ e)

pub refused_due : (id : Option (Bor Value)) (fault : Fault)
    → due_of (turns.Refuse id fault) ≡ refused (option_map (λ i. view i.now) id) fault
refused_due None fault = refl
refused_due (Some id) fault = refl

pub refused_as : (def : Defined) (kind : Kind) (old : Server) (s : Said) (out : Out) (id : Option Data) (fault : Fault)
    → due old.phase (is_known s) s ≡ refused id fault → out ≡ refusal id fault → Gets def kind old s old out
refused_as def kind old s out id fault is e =
    subst (λ (o : Out). Gets def kind old s old o) (sym e) (is_refused id fault is)

pub served_gets : (def : Defined) (kind : Kind) (old new : Server) (s : Said) (out : Out)
    → due old.phase (is_known s) s ≡ served → Serves def kind old s new.encoding new.documents out
    → new.phase ≡ phase_after old.phase served s → Gets def kind old s new out
served_gets def kind old new s out is so e =
    subst (λ (p : Phase). Gets def kind old s (record { phase = p; encoding = new.encoding; documents = new.documents }) out)
    (sym e) (is_served new.encoding new.documents out is so)

pub phase_is : (now old phase : Phase) (d : Due) (s : Said) → now ≡ phase_after phase d s → phase ≡ old → d ≡ served
    → now ≡ phase_after old served s
phase_is now old phase d s e p is =
    e ∙ (ap (λ (x : Phase). phase_after x d s) p ∙ ap (λ (x : Due). phase_after old x s) is)

-- ---- what a body is

pub no_value : (bytes : List ℕ) (o : Option Value)
    → MatchOption o ((d : Data) → IsValueOf bytes d → ⊥) (λ v. IsValueOf bytes (view v)) → o ≡ None
    → (d : Data) → IsValueOf bytes d → ⊥
no_value bytes None found e = found
no_value bytes (Some v) found e = absurd cc

pub value_is : (bytes : List ℕ) (o : Option Value) (v : Value)
    → MatchOption o ((d : Data) → IsValueOf bytes d → ⊥) (λ w. IsValueOf bytes (view w)) → o ≡ Some v
    → IsValueOf bytes (view v)
value_is bytes o v found e =
    subst (λ (x : Option Value). MatchOption x ((d : Data) → IsValueOf bytes d → ⊥) (λ w. IsValueOf bytes (view w))) e found

pub none_answered : (def : Defined) (kind : Kind) (bytes : List ℕ) (old : Server) (out : Out)
    → ((d : Data) → IsValueOf bytes d → ⊥) → out ≡ refusal None faults.NoJson → Answers def kind bytes old old out
none_answered def kind bytes old out none e =
    subst (λ (o : Out). Answers def kind bytes old old o) (sym e) (no_json none)

pub json_as : (def : Defined) (kind : Kind) (bytes : List ℕ) (old new : Server) (out : Out) (d : Data) (s : Said)
    → IsValueOf bytes d → s ≡ said d → Gets def kind old s new out → Answers def kind bytes old new out
json_as def kind bytes old new out d s is e gets =
    json d new out is (subst (λ (t : Said). Gets def kind old t new out) e gets)
