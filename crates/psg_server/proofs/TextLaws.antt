-- The text of a document over several messages.
use Rattle.std.proofs.Common.{◌≡◌, ℕ, Bool, true, false, List, [], ◌∷◌, Option, Some, None, refl, sym, ◌∙◌, ap, subst}
use Rattle.std.specs.Prelude.{option_and_then, unwrap_or, if◌then◌else◌}
use Rattle.std.specs.Option.{option_map}
use Rattle.std.specs.Str.{bytes_eq}
use Rattle.std.proofs.lemmas.Bool.{false≢true}
use Rattle.std.proofs.lemmas.Option.{none-some}
use Rattle.std.proofs.lemmas.Slice.Eq.{bytes_eq-Decides}
use Rattle.psg_documents.specs.declared.encoding.Encoding.{Encoding}
use Rattle.psg_grammar.specs.declared.types.Kind.{Kind}
use Rattle.psg_messages.specs.Messages.{Given, Said}
use Rattle.psg_messages.specs.Turns.{due, served}
use Rattle.psg_server.specs.declared.documents.Document.{Document}
use Rattle.psg_server.specs.declared.judging.Defined.{Defined}
use Rattle.psg_server.specs.declared.methods.Notice.{Notice}
use Rattle.psg_server.specs.declared.server.Server.{Server}
use Rattle.psg_server.specs.Answering.{completes, completes_none, asks, asks_none, names, names_none, names_not}
use Rattle.psg_server.specs.Answering.{Gets, Out, Serves, changes, changes_none, closes, closes_none, exits, formats, formats_none, greets, hovers, hovers_none, is_passed, is_refused, is_served, open_at, open_in, opens, opens_none, shuts_down}
use Rattle.psg_server.specs.Documents.{document_at}
use Rattle.psg_server.specs.Fields.{address_in, changed_in, changes_in, is_empty, last_in, opened_in, whole_text}
use Rattle.psg_server.specs.Methods.{is_known, notice_of}
use Rattle.psg_server.specs.Texts.{Comes, KeepsLast, changed_word, last_word, next_not, next_served, no_more, notice_word, text_at, word_at, word_of}
use Rattle.psg_server.proofs.ApartLaws.{addressed, named}

-- the text at the address, where one is known, is what was said at last
abbrev Agrees : List ℕ → Option (List ℕ) → List Document → Type 0
Agrees address before documents = (text : List ℕ) → text_at address documents ≡ Some text → before ≡ Some text

abbrev text_of : Option Document → Option (List ℕ)
text_of o = option_and_then (λ d. d.text) o

-- nothing is said of any address
unsaid : (address : List ℕ) (o : Option (List ℕ)) → word_at address o None ≡ None
unsaid address None = refl
unsaid address (Some other) = by (bytes_eq other address) where
  none : Option (Option (List ℕ))
  none = None

  by : (b : Bool) → (if b then none else none) ≡ none
  by true = refl
  by false = refl

-- a message that says something of an address
spoken : (address a : List ℕ) (o : Option (List ℕ)) (word : Option (Option (List ℕ))) (before : Option (List ℕ))
    (old new : List Document) → o ≡ Some a → (a ≡ address → Agrees address (unwrap_or word before) new)
    → ((address ≡ a → ⊥) → document_at address new ≡ document_at address old) → Agrees address before old
    → Agrees address (unwrap_or (word_at address o word) before) new
spoken address a o word before old new e here elsewhere so =
    subst (λ (x : Option (List ℕ)). Agrees address (unwrap_or (word_at address x word) before) new) (sym e)
    (by (bytes_eq a address) refl) where
      by : (b : Bool) → bytes_eq a address ≡ b → Agrees address (unwrap_or (if b then word else None) before) new
      by true t = here ((bytes_eq-Decides a address).0 t)
      by false f = λ text is.
          so text (ap text_of (sym (elsewhere
          (λ same. false≢true (sym f ∙ (bytes_eq-Decides a address).1 (sym same))))) ∙ is)

-- where no document is open at the address that a message has, it leaves what was said
unopened : (address : List ℕ) (o : Option (List ℕ)) (word : Option (Option (List ℕ))) (before : Option (List ℕ))
    (documents : List Document) → open_at o documents ≡ None → Agrees address before documents
    → Agrees address (unwrap_or (word_at address o word) before) documents
unopened address None word before documents none so = so
unopened address (Some a) word before documents none so =
    spoken address a (Some a) word before documents documents refl
    (λ same text is. absurd (none-some text
    (sym (ap text_of (ap (λ (b : List ℕ). document_at b documents) (sym same) ∙ none)) ∙ is)))
    (λ other. refl) so

-- what a change says is what the text is then
changed_says : (given : Given) (d : Document) (before : Option (List ℕ)) (text : List ℕ)
    → (d.text ≡ Some text → before ≡ Some text) → (changed_in given d).text ≡ Some text
    → unwrap_or (changed_word (changes_in given)) before ≡ Some text
changed_says given d before text so is = by (is_empty (changes_in given)) is where
  by : (b : Bool) → (if b then d.text else whole_text (last_in (changes_in given))) ≡ Some text
      → unwrap_or (if b then None else Some (whole_text (last_in (changes_in given)))) before ≡ Some text
  by true e = so e
  by false e = e

-- the notice of a note
noticed : (address : List ℕ) (method : List ℕ) (given : Given) (n : Notice) (word : Option (Option (List ℕ)))
    → notice_of method ≡ Some n → notice_word given (Some n) ≡ word
    → word_at address (address_in given) (notice_word given (notice_of method)) ≡ word_at address (address_in given) word
noticed address method given n word is e =
    ap (λ (o : Option Notice). word_at address (address_in given) (notice_word given o)) is
    ∙ ap (λ (w : Option (Option (List ℕ))). word_at address (address_in given) w) e

as_word : (address : List ℕ) (before : Option (List ℕ)) (one other : Option (Option (List ℕ))) (documents : List Document)
    → one ≡ other → Agrees address (unwrap_or other before) documents → Agrees address (unwrap_or one before) documents
as_word address before one other documents e so =
    subst (λ (w : Option (Option (List ℕ))). Agrees address (unwrap_or w before) documents) (sym e) so

module _ (def : Defined) (kind : Kind) where
  row : (address : List ℕ) (before : Option (List ℕ)) (s : Said) (old : Server) (encoding : Encoding)
      (documents : List Document) (out : Out) → Serves def kind old s encoding documents out
      → Agrees address before old.documents → Agrees address (unwrap_or (word_of address s) before) documents
  row address before _ old encoding documents out (greets id method given is) so = so
  row address before _ old encoding documents out (shuts_down id method given is) so = so
  row address before _ old encoding documents out (formats id method given d edits is there good) so = so
  row address before _ old encoding documents out (formats_none id method given is none) so = so
  row address before _ old encoding documents out (hovers id method given p told is there good) so = so
  row address before _ old encoding documents out (hovers_none id method given is none) so = so
  row address before _ old encoding documents out (completes id method given p told is there good) so = so
  row address before _ old encoding documents out (completes_none id method given is none) so = so
  row address before _ old encoding documents out (asks id method given p ask value is there good) so = so
  row address before _ old encoding documents out (asks_none id method given ask is none) so = so
  row address before _ old encoding documents out (names id method given d r value is there says good) so = so
  row address before _ old encoding documents out (names_not id method given d r why is there says good) so = so
  row address before _ old encoding documents out (names_none id method given is none) so = so
  row address before _ old encoding documents out (opens method given d new told is says becomes published) so =
      as_word address before _ _ new (noticed address method given _ (Some d.text) is
      (ap (λ (o : Option Document). option_map (λ d. d.text) o) says))
      (spoken address d.address (address_in given) (Some d.text) before old.documents new
      (addressed (address_in given) _ _ d says)
      (λ same text here. sym (ap text_of (ap (λ (a : List ℕ). document_at a new) (sym same) ∙ becomes.here)) ∙ here)
      (becomes.others address) so)
  row address before _ old encoding documents out (opens_none method given is says) so =
      as_word address before _ _ documents (noticed address method given _ None is
      (ap (λ (o : Option Document). option_map (λ d. d.text) o) says) ∙ unsaid address (address_in given)) so
  row address before _ old encoding documents out (changes method given d new told is there becomes published) so =
      as_word address before _ _ new (noticed address method given _ (changed_word (changes_in given)) is refl)
      (spoken address d.address (address_in given) (changed_word (changes_in given)) before old.documents new
      (named (address_in given) old.documents d there)
      (λ same text here. changed_says given d before text
      (λ known. so text (text_before address given d old.documents there same ∙ known))
      (sym (ap text_of (ap (λ (a : List ℕ). document_at a new) (sym same) ∙ becomes.here)) ∙ here))
      (becomes.others address) so) where
        text_before : (address : List ℕ) (given : Given) (d : Document) (old : List Document)
            → open_in given old ≡ Some d → d.address ≡ address → text_at address old ≡ d.text
        text_before address given d old there same =
            ap text_of (ap (λ (a : List ℕ). document_at a old) (sym same)
            ∙ (ap (λ (o : Option (List ℕ)). open_at o old) (sym (named (address_in given) old d there)) ∙ there))
  row address before _ old encoding documents out (changes_none method given is none) so =
      as_word address before _ _ documents (noticed address method given _ (changed_word (changes_in given)) is refl)
      (unopened address (address_in given) (changed_word (changes_in given)) before documents none so)
  row address before _ old encoding documents out (closes method own given d new is says there becomes) so =
      as_word address before _ _ new (noticed address method given _ (Some None) is refl)
      (spoken address own (address_in given) (Some None) before old.documents new says
      (λ same text here. absurd (none-some text
      (sym (ap text_of (ap (λ (a : List ℕ). document_at a new) (sym same) ∙ becomes.here)) ∙ here)))
      (becomes.others address) so)
  row address before _ old encoding documents out (closes_none method given is none) so =
      as_word address before _ _ documents (noticed address method given _ (Some None) is refl)
      (unopened address (address_in given) (Some None) before documents none so)
  row address before _ old encoding documents out (exits method given is) so =
      as_word address before _ _ documents (noticed address method given _ None is refl
      ∙ unsaid address (address_in given)) so

  -- a message that is served
  heard : (address : List ℕ) (before : Option (List ℕ)) (s : Said) (old new : Server) (out : Out)
      → due old.phase (is_known s) s ≡ served → Gets def kind old s new out → Agrees address before old.documents
      → Agrees address (unwrap_or (word_of address s) before) new.documents
  heard address before s old new out ready (is_passed other) so = absurd (let both = sym ready ∙ other in cc)
  heard address before s old new out ready (is_refused id fault other) so = absurd (let both = sym ready ∙ other in cc)
  heard address before s old _ _ ready (is_served encoding documents out is row') so =
      row address before s old encoding documents out row' so

  -- one that is not
  unheard : (address : List ℕ) (before : Option (List ℕ)) (s : Said) (old new : Server) (out : Out)
      → (due old.phase (is_known s) s ≡ served → ⊥) → Gets def kind old s new out → Agrees address before old.documents
      → Agrees address before new.documents
  unheard address before s old new out not (is_passed other) so = so
  unheard address before s old new out not (is_refused id fault other) so = so
  unheard address before s old _ _ not (is_served encoding documents out is row') so = absurd (not is)

  all_heard : (address : List ℕ) (before : Option (List ℕ)) (old new : Server) (messages : List Said)
      → Comes def kind old messages new → Agrees address before old.documents
      → Agrees address (last_word address before messages) new.documents
  all_heard address before old _ _ (no_more same) so = so
  all_heard address before old new _ (next_served first between last s out messages is gets comes) so =
      all_heard address (unwrap_or (word_of address s) before) between new messages comes
      (heard address before s old between out is gets so)
  all_heard address before old new messages (next_not first between last s out own not gets comes) so =
      all_heard address before between new messages comes (unheard address before s old between out not gets so)

  pub last_kept : KeepsLast def kind
  last_kept old new messages address text none comes =
      all_heard address None old new messages comes
      (λ other is. absurd (none-some other
      (sym (ap (λ (documents : List Document). text_at address documents) none) ∙ is))) text
