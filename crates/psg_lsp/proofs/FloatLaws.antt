-- What the server sends has no floats, so that it is written without spaces.
use Rattle.std.proofs.Common.{◌≡◌, ℕ, ℤ, Bool, true, false, List, Option, Some, None, refl, ◌∙◌, ap, ap₂, subst}
use Rattle.std.specs.Prelude.{pos, negsuc, ◌||◌, ◌&&◌, codes, is_some, not, if◌then◌else◌}
use Rattle.std.specs.Str.{bytes_eq}
use Rattle.serde_json.specs.Data.{unsigned, negative, float, Data, null, boolean, number, string, array, object}
use Rattle.serde_json.specs.Find.{as_str, get, is_float, of_integer}
use Rattle.serde_json.specs.View.{items_of}
use Rattle.serde_json.specs.Written.{has_float, items_have_float}
use Rattle.psg_comments.specs.declared.finding.Comment.{Comment}
use Rattle.psg_completing.specs.declared.completing.Completion.{Completion}
use Rattle.psg_completing.specs.declared.offering.Entry.{Entry}
use Rattle.psg_documents.specs.declared.encoding.Encoding.{Encoding}
use Rattle.psg_documents.specs.declared.encoding.Encoding.TheVariants as encodings
use Rattle.psg_documents.specs.declared.lines.Position.{Position}
use Rattle.psg_grammar.specs.declared.types.Definition.{Definition}
use Rattle.psg_grammar.specs.declared.types.Kind.{Kind}
use Rattle.psg_links.specs.declared.linked.Linked.{Linked}
use Rattle.psg_links.specs.declared.spot.Spot.{Spot}
use Rattle.psg_messages.specs.Answers.{answer_of, id_or_null, refusal_of}
use Rattle.psg_messages.specs.Messages.{Given, Said, answer, given_by, id_by, is_id, note, request, said, said_by, said_method, said_with, wrong}
use Rattle.psg_messages.specs.Turns.{Due, are_wrong, code_of, due, due_known, due_request, is_ready, passed, refused, served}
use Rattle.psg_messages.specs.declared.turns.Fault.{Fault}
use Rattle.psg_messages.specs.declared.turns.Fault.TheVariants as faults
use Rattle.psg_messages.specs.declared.turns.Phase.{Phase}
use Rattle.psg_messages.specs.declared.turns.Phase.TheVariants as phases
use Rattle.psg_pointing.specs.declared.hovering.Hover.{Hover}
use Rattle.psg_recover.specs.declared.finding.Finding.{Finding}
use Rattle.psg_server.specs.declared.documents.Document.{Document}
use Rattle.psg_server.specs.declared.judging.Defined.{Defined}
use Rattle.psg_server.specs.declared.methods.Ask.{Ask}
use Rattle.psg_server.specs.declared.methods.Ask.TheVariants as asked
use Rattle.psg_server.specs.declared.server.Server.{Server}
use Rattle.psg_server.specs.Answering.{completes, completes_none, asks, asks_none, names, names_none, names_not}
use Rattle.psg_server.specs.Answering.{Answers, Gets, Out, Serves, changes, changes_none, closes, closes_none, exits, formats, formats_none, greets, hovers, hovers_none, is_passed, is_refused, is_served, json, no_json, opens, opens_none, sent, shuts_down, reason_of}
use Rattle.psg_server.specs.Capabilities.{greeting_of}
use Rattle.psg_server.specs.Completing.{AreItems, IsCompletedAt, IsCompletedIn, completed_in_comment, completed_there, no_items, one_item, spaced}
use Rattle.psg_server.specs.Diagnostics.{AreDiagnostics, IsPublished, IsPublishedOf, all_told, diagnostic_data, more_may_follow, one_more, publish_data, severity_of}
use Rattle.psg_server.specs.Edits.{IsFormatting, IsFormattingOf, as_it_is, no_program, one_edit}
use Rattle.psg_server.specs.Fields.{Renamed, changed_in, encoding_in, wants_declaring}
use Rattle.psg_server.specs.Hovering.{IsTold, IsToldAt, IsToldIn, told_in_comment, told_there}
use Rattle.psg_server.specs.Linking.{AreShown, IsDeclaration, IsList, IsNamedOf, IsPrepared, IsRepliedOf, IsReply, IsReplyOf, IsShown, Way}
use Rattle.psg_server.specs.Linking.{as_edit, as_light, as_place, left_out, none_left, shown, shown_data, words_of}
use Rattle.psg_server.specs.Methods.{is_known}
use Rattle.psg_server.specs.Ranges.{IsRange}
use Rattle.psg_lsp.specs.Talking.{IsPlainOut}

whole_number : (z : ℤ) → is_float (of_integer z) ≡ false
whole_number (pos n) = refl
whole_number (negsuc n) = refl

-- ---- ids

plain_id : (d : Data) → is_id d ≡ true → has_float d ≡ false
plain_id null e = refl
plain_id (boolean b) e = refl
plain_id (number (unsigned n)) e = refl
plain_id (number (negative z)) e = refl
plain_id (number (float x)) e = absurd cc
plain_id (string s) e = refl
plain_id (array ds) e = absurd cc
plain_id (object ms) e = absurd cc

-- the id that there may be is one
abbrev IsPlainId : Option Data → Type 0
IsPlainId None = Unit {0}
IsPlainId (Some d) = is_id d ≡ true

abbrev HasPlainId : Said → Type 0
HasPlainId (request id method given) = is_id id ≡ true
HasPlainId (note method given) = Unit {0}
HasPlainId answer = Unit {0}
HasPlainId (wrong id) = IsPlainId id

plain_null : (id : Option Data) → IsPlainId id → has_float (id_or_null id) ≡ false
plain_null None so = refl
plain_null (Some d) so = plain_id d so

id_plain : (o : Option Data) → IsPlainId (id_by o)
id_plain None = tt
id_plain (Some d) = by (is_id d) refl where
  by : (b : Bool) → is_id d ≡ b → IsPlainId (if b then Some d else None)
  by true e = e
  by false e = tt

with_plain : (o : Option Data) (method : List ℕ) (given : Given) → HasPlainId (said_with o method given)
with_plain None method given = tt
with_plain (Some d) method given = by (is_id d) refl where
  by : (b : Bool) → is_id d ≡ b → HasPlainId (if b then request d method given else wrong None)
  by true e = e
  by false e = tt

method_plain : (method : Option (List ℕ)) (d : Data) → HasPlainId (said_method method d)
method_plain None d = id_plain (get (codes "id") d)
method_plain (Some method) d = with_plain (get (codes "id") d) method (given_by (get (codes "params") d))

member_plain : (m : Option Data) (d : Data) → HasPlainId (said_by m d)
member_plain None d = by (is_some (get (codes "result") d) || is_some (get (codes "error") d)) where
  by : (b : Bool) → HasPlainId (if b then answer else wrong (id_by (get (codes "id") d)))
  by true = tt
  by false = id_plain (get (codes "id") d)
member_plain (Some m) d = method_plain (as_str m) d

said_plain : (d : Data) → HasPlainId (said d)
said_plain d = member_plain (get (codes "method") d) d

-- ---- what is refused

abbrev id_in : Due → Option Data
id_in served = None
id_in passed = None
id_in (refused id fault) = id

known_id : (id : Data) (known ill : Bool) → is_id id ≡ true → IsPlainId (id_in (due_known id known ill))
known_id id true true e = e
known_id id true false e = tt
known_id id false ill e = e

request_id : (phase : Phase) (id : Data) (starts known ill : Bool) → is_id id ≡ true
    → IsPlainId (id_in (due_request phase id starts known ill))
request_id phases.Before id true known ill e = known_id id known ill e
request_id phases.Before id false known ill e = e
request_id phases.Ready id true known ill e = e
request_id phases.Ready id false known ill e = known_id id known ill e
request_id phases.After id starts known ill e = e

note_id : (leaves due' : Bool) → IsPlainId (id_in (if leaves then served else if due' then served else passed))
note_id true due' = tt
note_id false true = tt
note_id false false = tt

due_id : (phase : Phase) (known : Bool) (s : Said) → HasPlainId s → IsPlainId (id_in (due phase known s))
due_id phase known (request id method given) h =
    request_id phase id (bytes_eq method (codes "initialize")) known (are_wrong given) h
due_id phase known (note method given) h =
    note_id (bytes_eq method (codes "exit")) (is_ready phase && known && not (are_wrong given))
due_id phase known answer h = tt
due_id phase known (wrong id) h = h

-- ---- values

answer_plain : (id value : Data) → has_float id ≡ false → has_float value ≡ false → has_float (answer_of id value) ≡ false
answer_plain id value i v = ap₂ (λ a b. a || (false || (b || false))) i v

refusal_plain : (id : Option Data) (fault : Fault) (message : List ℕ) → IsPlainId id
    → has_float (refusal_of id fault message) ≡ false
refusal_plain id fault message so =
    ap₂ (λ a b. (a || (false || false)) || (b || (false || false))) (whole_number (code_of fault)) (plain_null id so)

greeting_plain : (encoding : Encoding) → has_float (greeting_of encoding) ≡ false
greeting_plain encodings.Utf8 = refl
greeting_plain encodings.Utf16 = refl
greeting_plain encodings.Utf32 = refl

range_plain : (encoding : Encoding) (text : List ℕ) (from to : ℕ) (d : Data) → IsRange encoding text from to d
    → has_float d ≡ false
range_plain encoding text from to d r = ap has_float r.is

data_plain : (range : Data) (severity : ℕ) (message : List ℕ) → has_float range ≡ false
    → has_float (diagnostic_data range severity message) ≡ false
data_plain range severity message r = ap (λ a. false || (a || (false || (false || false)))) r

diagnostics_plain : (encoding : Encoding) (text : List ℕ) (found : List Finding) (more : Bool) (ds : List Data)
    → AreDiagnostics encoding text found more ds → items_have_float (items_of ds) ≡ false
diagnostics_plain encoding text _ _ _ all_told = refl
diagnostics_plain encoding text _ _ _ (more_may_follow range r) =
    ap (λ a. a || false) (data_plain range 4 (codes "more may follow") (range_plain encoding text 0 0 range r))
diagnostics_plain encoding text _ _ _ (one_more f d is rest) =
    ap₂ (λ a b. a || b)
    (ap has_float is.is ∙ data_plain is.range (severity_of f.grade) f.message (range_plain encoding text _ _ is.range is.is_range))
    (diagnostics_plain encoding text _ _ _ rest)

publish_plain : (address : List ℕ) (version : ℤ) (ds : List Data) → items_have_float (items_of ds) ≡ false
    → has_float (publish_data address version ds) ≡ false
publish_plain address version ds e =
    ap₂ (λ a b. false || (false || ((a || (false || (b || false))) || false))) e (whole_number version)

formatting_plain : (def : Defined) (kind : Kind) (encoding : Encoding) (text : List ℕ) (comments : List Comment)
    (judged : List ℕ) (d : Data) → IsFormatting def kind encoding text comments judged d → has_float d ≡ false
formatting_plain def kind encoding text comments judged _ (no_program line column message is) = refl
formatting_plain def kind encoding text comments judged _ (as_it_is f program same) = refl
formatting_plain def kind encoding text comments judged _ (one_edit f wanted d program is other edit) =
    ap (λ a. a || false)
    (ap has_float edit.is ∙ ap (λ a. false || (a || false)) (range_plain encoding text edit.from edit.to edit.range edit.is_range))

format_plain : (def : Defined) (kind : Kind) (encoding : Encoding) (text : Option (List ℕ)) (d : Data)
    → IsFormattingOf def kind encoding text d → has_float d ≡ false
format_plain def kind encoding None d e = ap has_float e
format_plain def kind encoding (Some text) d so = formatting_plain def kind encoding text so.comments so.judged d so.so

told_plain : (encoding : Encoding) (text : List ℕ) (hover : Option Hover) (d : Data) → IsTold encoding text hover d
    → has_float d ≡ false
told_plain encoding text None d is = ap has_float is
told_plain encoding text (Some h) d is =
    ap has_float is.is ∙ ap (λ a. false || (a || false)) (range_plain encoding text h.start h.end is.range is.is_range)

told_at_plain : (def : Definition) (kind : Kind) (encoding : Encoding) (text : List ℕ) (comments : List Comment) (judged : List ℕ)
    (position : Position) (d : Data) → IsToldAt def kind encoding text comments judged position d → has_float d ≡ false
told_at_plain def kind encoding text comments judged position d (told_in_comment byte is inside e) = ap has_float e
told_at_plain def kind encoding text comments judged position d (told_there byte hover is outside says so) =
    told_plain encoding text hover d so

hover_plain : (def : Defined) (kind : Kind) (encoding : Encoding) (text : Option (List ℕ)) (position : Position) (d : Data)
    → IsToldIn def kind encoding text position d → has_float d ≡ false
hover_plain def kind encoding None position d e = ap has_float e
hover_plain def kind encoding (Some text) position d so =
    told_at_plain def.language kind encoding text so.comments so.judged position d so.so

-- ---- names

shown_data_plain : (way : Way) (declares : Bool) (range : Data) → has_float range ≡ false
    → has_float (shown_data way declares range) ≡ false
shown_data_plain (as_place address) declares range e = ap (λ a. a || (false || false)) e
shown_data_plain as_light declares range e = ap (λ a. false || (a || false)) e
shown_data_plain (as_edit new) declares range e = ap (λ a. false || (a || false)) e

module _ (encoding : Encoding) (text : List ℕ) where
  shown_plain : (way : Way) (s : Spot) (d : Data) → IsShown encoding text way s d → has_float d ≡ false
  shown_plain way s d is =
      ap has_float is.is ∙ shown_data_plain way s.declares is.range (range_plain encoding text _ _ is.range is.is_range)

  all_plain : (way : Way) (all : Bool) (ss : List Spot) (ds : List Data) → AreShown encoding text way all ss ds
      → items_have_float (items_of ds) ≡ false
  all_plain way all _ _ none_left = refl
  all_plain way all _ _ (left_out s e rest) = all_plain way all _ _ rest
  all_plain way all _ _ (shown s d e is rest) =
      ap₂ (λ a b. a || b) (shown_plain way s d is) (all_plain way all _ _ rest)

  list_plain : (way : Way) (all : Bool) (ss : List Spot) (d : Data) → IsList encoding text way all ss d → has_float d ≡ false
  list_plain way all ss d is = ap has_float is.is ∙ all_plain way all ss is.values is.are

  declaration_plain : (address : List ℕ) (o : Option Spot) (d : Data) → IsDeclaration encoding text address o d
      → has_float d ≡ false
  declaration_plain address None d e = ap has_float e
  declaration_plain address (Some s) d is = shown_plain (as_place address) s d is

  prepared_plain : (o : Option Spot) (own : Spot) (d : Data) → IsPrepared encoding text o own d → has_float d ≡ false
  prepared_plain None own d e = ap has_float e
  prepared_plain (Some s) own d is = range_plain encoding text _ _ d is

  name_plain : (address : List ℕ) (ask : Ask) (all : Bool) (a : Linked) (d : Data) → IsReplyOf encoding text address ask all a d
      → has_float d ≡ false
  name_plain address asked.Definition all a d is = declaration_plain address a.declaration d is
  name_plain address asked.References all a d is = list_plain (as_place address) all a.together.items d is
  name_plain address asked.Highlights all a d is = list_plain as_light true a.together.items d is
  name_plain address asked.Preparing all a d is = prepared_plain a.declaration a.own d is

  reply_plain : (address : List ℕ) (ask : Ask) (all : Bool) (a : Option Linked) (d : Data)
      → IsReply encoding text address ask all a d → has_float d ≡ false
  reply_plain address ask all None d e = ap has_float e
  reply_plain address ask all (Some a) d is = name_plain address ask all a d is

replied_plain : (def : Defined) (kind : Kind) (encoding : Encoding) (address : List ℕ) (text : Option (List ℕ)) (ask : Ask)
    (all : Bool) (at : Position) (d : Data) → IsRepliedOf def kind encoding address text ask all at d → has_float d ≡ false
replied_plain def kind encoding address None ask all at d e = ap has_float e
replied_plain def kind encoding address (Some text) ask all at d so =
    reply_plain encoding text address ask all so.so.linked d so.so.is

named_plain : (def : Defined) (kind : Kind) (encoding : Encoding) (address : List ℕ) (text : Option (List ℕ)) (r : Renamed)
    (d : Data) → IsNamedOf def kind encoding address text r d → has_float d ≡ false
named_plain def kind encoding address None r d never = absurd never
named_plain def kind encoding address (Some text) r d so =
    ap has_float so.so.is
    ∙ ap (λ a. (a || false) || false)
    (all_plain encoding text (as_edit r.name) true so.so.spots.items so.so.edits so.so.are)

-- ---- what may be put at a place

entries_plain : (encoding : Encoding) (text : List ℕ) (c : Completion) (filter : List ℕ) (es : List Entry) (ds : List Data)
    → AreItems encoding text c filter es ds → items_have_float (items_of ds) ≡ false
entries_plain encoding text c filter _ _ no_items = refl
entries_plain encoding text c filter _ _ (one_item {es} {ds} e d is rest) =
    ap₂ (λ a b. a || b)
    (ap has_float is.is
    ∙ ap (λ a. false || (false || (false || ((false || (a || false)) || false))))
    (range_plain encoding text c.from c.to is.range is.is_range))
    (entries_plain encoding text c filter es ds rest)

completed_at_plain : (def : Definition) (kind : Kind) (encoding : Encoding) (text : List ℕ) (comments : List Comment)
    (judged : List ℕ) (byte : ℕ) (d : Data) → IsCompletedAt def kind encoding text comments judged byte d
    → has_float d ≡ false
completed_at_plain def kind encoding text comments judged byte d (completed_in_comment inside e) = ap has_float e
completed_at_plain def kind encoding text comments judged byte d (completed_there c outside completed so) =
    let put = spaced text comments c in
    ap has_float so.is
    ∙ ap (λ a. false || (a || false)) (entries_plain encoding text put so.filter put.entries.items so.items so.are)

completed_plain : (def : Defined) (kind : Kind) (encoding : Encoding) (text : Option (List ℕ)) (position : Position)
    (d : Data) → IsCompletedIn def kind encoding text position d → has_float d ≡ false
completed_plain def kind encoding None position d e = ap has_float e
completed_plain def kind encoding (Some text) position d so =
    completed_at_plain def.language kind encoding text so.asked.comments so.asked.judged so.byte d so.asked.so

-- ---- what is sent

published_plain : (def : Defined) (kind : Kind) (encoding : Encoding) (d : Document) (told : Data)
    → IsPublished def kind encoding d told → has_float told ≡ false
published_plain def kind encoding d told p = by d.text p where
  by : (text : Option (List ℕ)) → IsPublishedOf def kind encoding d.address d.version text told → has_float told ≡ false
  by None e = ap has_float e
  by (Some text) p =
      ap has_float p.so.is ∙ publish_plain d.address d.version p.so.diagnostics
      (diagnostics_plain encoding text p.so.found p.so.more p.so.diagnostics p.so.are)

module _ (def : Defined) (kind : Kind) where
  served_plain : (s : Said) (old : Server) (encoding : Encoding) (documents : List Document) (out : Out)
      → Serves def kind old s encoding documents out → HasPlainId s → IsPlainOut out
  served_plain _ old _ _ _ (greets id method given is) h =
      answer_plain id (greeting_of (encoding_in given)) (plain_id id h) (greeting_plain (encoding_in given))
  served_plain _ old _ _ _ (shuts_down id method given is) h = answer_plain id null (plain_id id h) refl
  served_plain _ old _ _ _ (formats id method given d edits is there so) h =
      answer_plain id edits (plain_id id h) (format_plain def kind old.encoding d.text edits so)
  served_plain _ old _ _ _ (formats_none id method given is none) h =
      refusal_plain (Some id) faults.WrongParams (reason_of faults.WrongParams) h
  served_plain _ old _ _ _ (hovers id method given p told is there so) h =
      answer_plain id told (plain_id id h) (hover_plain def kind old.encoding p.document.text p.position told so)
  served_plain _ old _ _ _ (hovers_none id method given is none) h =
      refusal_plain (Some id) faults.WrongParams (reason_of faults.WrongParams) h
  served_plain _ old _ _ _ (completes id method given p told is there so) h =
      answer_plain id told (plain_id id h) (completed_plain def kind old.encoding p.document.text p.position told so)
  served_plain _ old _ _ _ (completes_none id method given is none) h =
      refusal_plain (Some id) faults.WrongParams (reason_of faults.WrongParams) h
  served_plain _ old _ _ _ (asks id method given p ask value is there so) h =
      answer_plain id value (plain_id id h)
      (replied_plain def kind old.encoding p.document.address p.document.text ask (wants_declaring given) p.position value so)
  served_plain _ old _ _ _ (asks_none id method given ask is none) h =
      refusal_plain (Some id) faults.WrongParams (reason_of faults.WrongParams) h
  served_plain _ old _ _ _ (names id method given d r value is there says so) h =
      answer_plain id value (plain_id id h) (named_plain def kind old.encoding d.address d.text r value so)
  served_plain _ old _ _ _ (names_not id method given d r why is there says so) h =
      refusal_plain (Some id) faults.WrongParams (words_of why) h
  served_plain _ old _ _ _ (names_none id method given is none) h =
      refusal_plain (Some id) faults.WrongParams (reason_of faults.WrongParams) h
  served_plain _ old _ _ _ (opens method given d new told is says becomes published) h =
      published_plain def kind old.encoding d told published
  served_plain _ old _ _ _ (opens_none method given is says) h = tt
  served_plain _ old _ _ _ (changes method given before new told is there becomes published) h =
      published_plain def kind old.encoding (changed_in given before) told published
  served_plain _ old _ _ _ (changes_none method given is none) h = tt
  served_plain _ old _ _ _ (closes method address given d new is says there becomes) h = refl
  served_plain _ old _ _ _ (closes_none method given is says) h = tt
  served_plain _ old _ _ _ (exits method given is) h = tt

  gets_plain : (s : Said) (old new : Server) (out : Out) → Gets def kind old s new out → HasPlainId s → IsPlainOut out
  gets_plain s old _ _ (is_passed is) h = tt
  gets_plain s old _ _ (is_refused id fault is) h =
      refusal_plain id fault (reason_of fault) (subst (λ (x : Due). IsPlainId (id_in x)) is (due_id old.phase (is_known s) s h))
  gets_plain s old _ _ (is_served encoding documents out is so) h = served_plain s old encoding documents out so h

  pub answers_plain : (bytes : List ℕ) (old new : Server) (out : Out) → Answers def kind bytes old new out → IsPlainOut out
  answers_plain bytes old _ _ (no_json none) = refusal_plain None faults.NoJson (reason_of faults.NoJson) tt
  answers_plain bytes old _ _ (json d new out is gets) = gets_plain (said d) old new out gets (said_plain d)
