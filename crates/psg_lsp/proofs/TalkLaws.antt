-- Frames that are taken one after the other, and what is put for them.
use Rattle.std.proofs.Common.{◌≡◌, ◌<◌, ◌≤◌, ◌+◌, ◌⊎◌, ℕ, suc, Bool, true, false, List, [], ◌∷◌, ◌++◌, length, take, drop, get_or, map, Option, Some, None, inl, inr, refl, sym, ◌∙◌, ap, subst, arith, append_assoc, append-nil}
use Rattle.std.specs.Prelude.{◌==◌, MatchOption, Vec, vec_len}
use Rattle.std.proofs.lemmas.Bool.Decides.{nat_tests}
use Rattle.std.specs.declared.alloc.Global.{Global}
use Rattle.std.specs.Io.KnownBytes.{Consumes, Keeps}
use Rattle.std.proofs.Math.Seq.{take-suc}
use Rattle.std.proofs.lemmas.List.{drop_more, map-append, take-append-drop, take_all}
use Rattle.psg_server.specs.declared.judging.Defined.{Defined}
use Rattle.psg_grammar.specs.declared.types.Kind.{Kind}
use Rattle.psg_protocol.specs.declared.reader.Frame.{Frame}
use Rattle.psg_protocol.specs.declared.reader.Frame.TheVariants as frames
use Rattle.psg_protocol.specs.Frames.{Event, HasRead, HasReadBy, Reads, Rest, at_first, body, event_of, long, lost}
use Rattle.psg_protocol.proofs.CutLaws.{first_nil, reads_on, reads_stopped}
use Rattle.serde_json.specs.View.{view}
use Rattle.serde_json.specs.Written.{has_float}
use Rattle.serde_json.specs.declared.value.Value.{Value}
use Rattle.psg_server.specs.Answering.{Answers, Out, out_of, sent}
use Rattle.psg_server.specs.declared.server.Reply.{Reply}
use Rattle.psg_server.specs.declared.server.Reply.TheVariants as replies
use Rattle.psg_server.specs.declared.server.Server.{Server}
use Rattle.psg_world.specs.Pieces.{IsPieceOf}
use Rattle.psg_lsp.specs.declared.ending.Ending.{Ending}
use Rattle.psg_lsp.specs.declared.ending.Ending.TheVariants as endings
use Rattle.psg_lsp.specs.Talking.{AreTaken, EndsWith, GoesOn, IsBroken, IsPieceTaken, IsPlainOut, IsPut, IsPutValue, IsOver, IsTaken, Place, Stops, StopsAtPiece, StopsWithin, Talks, at_end, at_fault, at_start, by_break, by_exit, long_data, more_taken, no_more, no_piece, no_reading, no_way, none_taken, place_at, takes_body, takes_long, within}

-- by whether there is a value
pub both_then : {T P Q : Type 0} {R S : T → Type 0} (o : Option T) → (P → Q) → ((x : T) → R x → S x) → MatchOption o P R
    → MatchOption o Q S
both_then None f g p = f p
both_then (Some x) f g p = g x p

-- ---- bytes that were read

empty_is : (xs : List ℕ) → (length xs == 0) ≡ true → xs ≡ []
empty_is [] e = refl
empty_is (x ∷ xs) e = absurd (let none : suc (length xs) ≡ 0 = grind (arith, nat_tests, e) in omega (arith, none))

-- a piece without bytes
pub vec_empty : (v : Vec ℕ Global) → (vec_len v == 0) ≡ true → v.items ≡ []
vec_empty v e =
    let size : vec_len v ≡ length v.items = omega (arith, v.ok.0) in
    empty_is v.items (ap (λ n. n == 0) (sym size) ∙ e)

consumes_none : (a : Option (List ℕ)) → Consumes a a []
consumes_none None = tt
consumes_none (Some xs) = refl

consumes_more : (a b c : Option (List ℕ)) (one other : List ℕ) → Consumes a b one → Consumes b c other
    → Consumes a c (one ++ other)
consumes_more None b c one other p q = tt
consumes_more (Some xs) None c one other p q = absurd p
consumes_more (Some xs) (Some ys) None one other p q = absurd q
consumes_more (Some xs) (Some ys) (Some zs) one other p q =
    p ∙ ap (λ (l : List ℕ). one ++ l) q ∙ sym (append_assoc one other zs)

consumes_kept : (a b c : Option (List ℕ)) (one : List ℕ) → Consumes a b one → Keeps b c → Consumes a c one
consumes_kept None b c one p q = tt
consumes_kept (Some xs) None c one p q = absurd p
consumes_kept (Some xs) (Some ys) None one p q = absurd q
consumes_kept (Some xs) (Some ys) (Some zs) one p q = p ∙ ap (λ (l : List ℕ). one ++ l) (sym q)

-- a piece more is read
pub reads_more : (bytes : List ℕ) (events : List Event) (rest : Rest) (piece : List ℕ) (more : List Event) (new : Rest)
    → Reads 0 bytes events rest → HasRead rest piece more new → Reads 0 (bytes ++ piece) (events ++ more) new
reads_more bytes events rest piece more new reads read = by rest.stopped refl read where
  by : (b : Bool) → rest.stopped ≡ b → HasReadBy b rest piece more new → Reads 0 (bytes ++ piece) (events ++ more) new
  by true off (none, same) =
      let all : events ≡ events ++ more = sym (append-nil events) ∙ ap (λ (es : List Event). events ++ es) (sym none) in
      subst (λ (r : Rest). Reads 0 (bytes ++ piece) (events ++ more) r) (sym same)
      (subst (λ (es : List Event). Reads 0 (bytes ++ piece) es rest) all (reads_stopped 0 bytes events rest piece reads off))
  by false on now = reads_on 0 bytes events rest piece more new reads on now

-- ---- what comes of a message

abbrev pub IsReplyPut : Option Ending → Out → (before after : Option (List ℕ)) → Type 0
IsReplyPut o out before after =
    MatchOption o (IsPlainOut out → IsPut out before after) (λ e. EndsWith out before after e)

pub reply_nothing : (reply : Reply) (before after : Option (List ℕ)) → reply ≡ replies.Nothing → after ≡ before
    → IsReplyPut None (out_of reply) before after
reply_nothing reply before after is same =
    subst (λ (r : Reply). IsReplyPut None (out_of r) before after) (sym is) (λ plain. same)

pub reply_sent : (o : Option Ending) (reply : Reply) (value : Value) (before after : Option (List ℕ)) → reply ≡ replies.Sent value
    → MatchOption o (has_float (view value) ≡ false → IsPutValue (view value) before after) (λ e. IsBroken e)
    → IsReplyPut o (out_of reply) before after
reply_sent o reply value before after is put =
    subst (λ (r : Reply). IsReplyPut o (out_of r) before after) (sym is) (by o put) where
      by : (x : Option Ending)
          → MatchOption x (has_float (view value) ≡ false → IsPutValue (view value) before after) (λ e. IsBroken e)
          → IsReplyPut x (sent (view value)) before after
      by None put = put
      by (Some e) broken = inl broken

pub reply_ended : (reply : Reply) (status : ℕ) (before after : Option (List ℕ)) → reply ≡ replies.Ended status → after ≡ before
    → IsReplyPut (Some (endings.Told status)) (out_of reply) before after
reply_ended reply status before after is same =
    subst (λ (r : Reply). IsReplyPut (Some (endings.Told status)) (out_of r) before after) (sym is)
    (inr (status, refl, same, refl))

module _ (def : Defined) (kind : Kind) where
  -- ---- a body that is taken

  -- the server ends with what comes of a body
  pub body_ends : (bytes : List ℕ) (old new : Server) (out : Out) (before after : Option (List ℕ)) (ending : Ending)
      → Answers def kind bytes old new out → EndsWith out before after ending
      → Stops def kind old before after (body bytes) ending
  body_ends bytes old new out before after ending answers (inl broken) = by_break (body bytes) ending broken
  body_ends bytes old new out before after ending answers (inr (status, is, same, told)) =
      subst (λ (e : Ending). Stops def kind old before after (body bytes) e) (sym told)
      (by_exit bytes new status (subst (λ (o : Out). Answers def kind bytes old new o) is answers) same)

  -- ---- a frame that is taken

  abbrev pub IsFrameTaken : Option Ending → (old new : Server) (before after : Option (List ℕ)) → Event → Type 0
  IsFrameTaken o old new before after event =
      MatchOption o (IsTaken def kind old new before after event) (λ e. Stops def kind old before after event e)

  pub frame_body : (o : Option Ending) (old new : Server) (before after : Option (List ℕ)) (frame : Frame) (v : Vec ℕ Global)
      (bytes : List ℕ) → frame ≡ frames.Body v → bytes ≡ v.items
      → MatchOption o ((out : Out) × Answers def kind bytes old new out × IsPut out before after)
      (λ e. Stops def kind old before after (body bytes) e)
      → IsFrameTaken o old new before after (event_of frame)
  frame_body o old new before after frame v bytes is same taken =
      subst (λ (f : Frame). IsFrameTaken o old new before after (event_of f)) (sym is)
      (subst (λ (bs : List ℕ). IsFrameTaken o old new before after (body bs)) same (by o taken)) where
        by : (x : Option Ending) → MatchOption x ((out : Out) × Answers def kind bytes old new out × IsPut out before after)
            (λ e. Stops def kind old before after (body bytes) e) → IsFrameTaken x old new before after (body bytes)
        by None (out, answers, put) = takes_body bytes out answers put
        by (Some e) stops = stops

  pub frame_long : (o : Option Ending) (old : Server) (before after : Option (List ℕ)) (frame : Frame) (size : ℕ)
      → frame ≡ frames.TooLong size → MatchOption o (IsPutValue long_data before after) (λ e. IsBroken e)
      → IsFrameTaken o old old before after (event_of frame)
  frame_long o old before after frame size is put =
      subst (λ (f : Frame). IsFrameTaken o old old before after (event_of f)) (sym is) (by o put) where
        by : (x : Option Ending) → MatchOption x (IsPutValue long_data before after) (λ e. IsBroken e)
            → IsFrameTaken x old old before after (long size)
        by None put = takes_long size refl put
        by (Some e) broken = by_break (long size) e broken

  pub frame_lost : (ending : Ending) (old : Server) (before after : Option (List ℕ)) (frame : Frame) → frame ≡ frames.Lost
      → Stops def kind old before after lost ending → IsFrameTaken (Some ending) old old before after (event_of frame)
  frame_lost ending old before after frame is stops =
      subst (λ (f : Frame). IsFrameTaken (Some ending) old old before after (event_of f)) (sym is) stops

  -- ---- frames that are taken

  both_taken : {s t u : Server} {v w x : Option (List ℕ)} {events more : List Event} → AreTaken def kind s v events t w
      → AreTaken def kind t w more u x → AreTaken def kind s v (events ++ more) u x
  both_taken none_taken next = next
  both_taken (more_taken between written first so rest) next = more_taken between written first so (both_taken rest next)

  -- so many of the frames are taken
  abbrev pub AreTakenTo : Server → Option (List ℕ) → List Frame → ℕ → Server → Option (List ℕ) → Type 0
  AreTakenTo s v frames i t w = AreTaken def kind s v (map event_of (take i frames)) t w

  pub taken_none : (s : Server) (v : Option (List ℕ)) (frames : List Frame) → AreTakenTo s v frames 0 s v
  taken_none s v frames = none_taken

  pub taken_one : (s t u : Server) (v w x : Option (List ℕ)) (frames : List Frame) (i : ℕ) (frame : Frame) → i < length frames
      → frame ≡ get_or frames i frame → AreTakenTo s v frames i t w → IsTaken def kind t u w x (event_of frame)
      → AreTakenTo s v frames (i + 1) u x
  taken_one s t u v w x frames i frame lt at so taken =
      let next : suc i ≡ i + 1 = omega arith in
      let longer : take (suc i) frames ≡ take i frames ++ frame ∷ [] =
      take-suc frames i frame lt ∙ ap (λ (f : Frame). take i frames ++ f ∷ []) (sym at) in
      let told : map event_of (take (suc i) frames) ≡ map event_of (take i frames) ++ event_of frame ∷ [] =
      ap (λ (fs : List Frame). map event_of fs) longer ∙ map-append event_of (take i frames) (frame ∷ []) in
      subst (λ (n : ℕ). AreTaken def kind s v (map event_of (take n frames)) u x) next
      (subst (λ (es : List Event). AreTaken def kind s v es u x) (sym told)
      (both_taken so (more_taken u x (event_of frame) taken none_taken)))

  pub taken_all : (s t : Server) (v w : Option (List ℕ)) (frames : List Frame) (i : ℕ) → length frames ≤ i
      → AreTakenTo s v frames i t w → AreTaken def kind s v (map event_of frames) t w
  taken_all s t v w frames i size so =
      subst (λ (fs : List Frame). AreTaken def kind s v (map event_of fs) t w) (take_all i frames size) so

  pub stops_here : (s t : Server) (v w x : Option (List ℕ)) (frames : List Frame) (i : ℕ) (frame : Frame) (ending : Ending)
      → i < length frames → frame ≡ get_or frames i frame → AreTakenTo s v frames i t w
      → Stops def kind t w x (event_of frame) ending → StopsWithin def kind s v x (map event_of frames) ending
  stops_here s t v w x frames i frame ending lt at so stops = record {
    taken = map event_of (take i frames);
    event = event_of frame;
    left = map event_of (drop (i + 1) frames);
    all =
        ap (λ (fs : List Frame). map event_of fs)
        (sym (take-append-drop i frames) ∙ ap (λ (fs : List Frame). take i frames ++ fs)
        (drop_more frames i frame lt ∙ ap (λ (f : Frame). f ∷ drop (i + 1) frames) (sym at)))
        ∙ map-append event_of (take i frames) (frame ∷ drop (i + 1) frames);
    server = t;
    written = w;
    are_taken = so;
    stops = stops;
  }

  stops_after : (s t : Server) (v w x : Option (List ℕ)) (events more : List Event) (ending : Ending)
      → AreTaken def kind s v events t w → StopsWithin def kind t w x more ending
      → StopsWithin def kind s v x (events ++ more) ending
  stops_after s t v w x events more ending so stops = record {
    taken = events ++ stops.taken;
    event = stops.event;
    left = stops.left;
    all =
        ap (λ (es : List Event). events ++ es) stops.all
        ∙ sym (append_assoc events stops.taken (stops.event ∷ stops.left));
    server = stops.server;
    written = stops.written;
    are_taken = both_taken so stops.are_taken;
    stops = stops.stops;
  }

  -- ---- a piece of the input

  pub piece_taken : (o : Option Ending) (old new : Server) (rest next : Rest) (piece : List ℕ) (frames told : List Frame)
      (before after : Option (List ℕ)) → frames ≡ told → HasRead rest piece (map event_of told) next
      → MatchOption o (AreTaken def kind old before (map event_of frames) new after)
      (λ e. StopsWithin def kind old before after (map event_of frames) e)
      → MatchOption o (IsPieceTaken def kind old new rest next piece before after)
      (λ e. StopsAtPiece def kind old rest piece before after e)
  piece_taken o old new rest next piece frames told before after same read taken = by o taken where
    events : HasRead rest piece (map event_of frames) next
    events = subst (λ (fs : List Frame). HasRead rest piece (map event_of fs) next) (sym same) read

    by : (x : Option Ending) → MatchOption x (AreTaken def kind old before (map event_of frames) new after)
        (λ e. StopsWithin def kind old before after (map event_of frames) e)
        → MatchOption x (IsPieceTaken def kind old new rest next piece before after)
        (λ e. StopsAtPiece def kind old rest piece before after e)
    by None all = (map event_of frames, events, all)
    by (Some e) stops = inr (map event_of frames, next, events, stops)

  -- the input is at its end
  pub next_at_end : (left now : Option (List ℕ)) (rest : Rest) (server : Server) (written : Option (List ℕ)) (piece : List ℕ)
      → IsPieceOf left now piece → piece ≡ []
      → IsOver def kind (place_at left rest server written) now written (endings.Told 0)
  next_at_end left now rest server written piece gives none =
      no_piece (subst (λ (bs : List ℕ). Consumes left now bs) none gives.0) (gives.1 none) refl

  -- it can't be read
  pub next_stop : (left now : Option (List ℕ)) (rest : Rest) (server : Server) (written : Option (List ℕ)) (ending : Ending)
      → Keeps left now → IsBroken ending ⊎ (ending ≡ endings.ReadFault)
      → IsOver def kind (place_at left rest server written) now written ending
  next_stop left now rest server written ending kept (inl broken) = no_way ending broken
  next_stop left now rest server written ending kept (inr is) =
      subst (λ (e : Ending). IsOver def kind (place_at left rest server written) now written e) (sym is) (no_reading kept refl)

  -- a piece comes
  pub next_piece : (o : Option Ending) (old new : Server) (rest next : Rest) (left now : Option (List ℕ)) (piece bytes : List ℕ)
      (before after : Option (List ℕ)) → bytes ≡ piece → IsPieceOf left now piece
      → MatchOption o (IsPieceTaken def kind old new rest next bytes before after)
      (λ e. StopsAtPiece def kind old rest bytes before after e)
      → MatchOption o (GoesOn def kind (place_at left rest old before) (place_at now next new after))
      (λ e. IsOver def kind (place_at left rest old before) now after e)
  next_piece o old new rest next left now piece bytes before after same gives taken = by o taken where
    input : Consumes left now bytes
    input = subst (λ (bs : List ℕ). Consumes left now bs) (sym same) gives.0

    by : (x : Option Ending) → MatchOption x (IsPieceTaken def kind old new rest next bytes before after)
        (λ e. StopsAtPiece def kind old rest bytes before after e)
        → MatchOption x (GoesOn def kind (place_at left rest old before) (place_at now next new after))
        (λ e. IsOver def kind (place_at left rest old before) now after e)
    by None (events, read, all) = record { piece = bytes; input = input; events = events; reads = read; taken = all }
    by (Some e) (inl broken) = no_way e broken
    by (Some e) (inr (events, last, read, stops)) = no_more bytes events last e input read stops

  -- ---- the conversation

  -- the frames of what was taken of the input are all taken
  pub record IsTalking (left before : Option (List ℕ)) (p : Place) : Type 0 where
    pub bytes : List ℕ
    pub input : Consumes left p.left bytes
    pub events : List Event
    pub reads : Reads 0 bytes events p.rest
    pub taken : AreTaken def kind at_start before events p.server p.written

  talk_start : (left before : Option (List ℕ)) (p : Place) → place_at left at_first at_start before ≡ p
      → IsTalking left before p
  talk_start left before p e = subst (λ (x : Place). IsTalking left before x) e (record {
    bytes = [];
    input = consumes_none left;
    events = [];
    reads = (first_nil, refl);
    taken = none_taken;
  })

  -- before the first piece
  pub begun : (left before : Option (List ℕ)) (rest : Rest) (server : Server) → rest ≡ at_first → server ≡ at_start
      → IsTalking left before (place_at left rest server before)
  begun left before rest server first starts =
      talk_start left before (place_at left rest server before)
      (ap (λ (r : Rest). place_at left r at_start before) (sym first) ∙ ap (λ (s : Server). place_at left rest s before) (sym starts))

  pub talk_on : (left before : Option (List ℕ)) (old new : Place) → IsTalking left before old → GoesOn def kind old new
      → IsTalking left before new
  talk_on left before old new so on = record {
    bytes = so.bytes ++ on.piece;
    input = consumes_more left old.left new.left so.bytes on.piece so.input on.input;
    events = so.events ++ on.events;
    reads = reads_more so.bytes so.events old.rest on.piece on.events new.rest so.reads on.reads;
    taken = both_taken so.taken on.taken;
  }

  now_taken : (before after written : Option (List ℕ)) (events : List Event) (server : Server) → after ≡ written
      → AreTaken def kind at_start before events server written → AreTaken def kind at_start before events server after
  now_taken before after written events server e so =
      subst (λ (w : Option (List ℕ)). AreTaken def kind at_start before events server w) (sym e) so

  pub talk_over : (left before : Option (List ℕ)) (old : Place) (now after : Option (List ℕ)) (ending : Ending)
      → IsTalking left before old → IsOver def kind old now after ending → Talks def kind left now before after ending
  talk_over left before old now after _ so (no_piece input end e) = inr (record {
    bytes = so.bytes;
    input =
        subst (λ (bs : List ℕ). Consumes left now bs) (append-nil so.bytes)
        (consumes_more left old.left now so.bytes [] so.input input);
    events = so.events;
    rest = old.rest;
    reads = so.reads;
    ends = at_end old.server (now_taken before after old.written so.events old.server e so.taken) end;
  })
  talk_over left before old now after _ so (no_reading kept e) = inr (record {
    bytes = so.bytes;
    input = consumes_kept left old.left now so.bytes so.input kept;
    events = so.events;
    rest = old.rest;
    reads = so.reads;
    ends = at_fault old.server (now_taken before after old.written so.events old.server e so.taken);
  })
  talk_over left before old now after ending so (no_more piece events rest same input read stops) = inr (record {
    bytes = so.bytes ++ piece;
    input = consumes_more left old.left now so.bytes piece so.input input;
    events = so.events ++ events;
    rest = rest;
    reads = reads_more so.bytes so.events old.rest piece events rest so.reads read;
    ends = within ending (stops_after at_start old.server before old.written after so.events events ending so.taken stops);
  })
  talk_over left before old now after ending so (no_way same broken) = inl broken

  -- and where the input was read for so long
  pub talk_worn : (left before : Option (List ℕ)) (p : Place) → IsTalking left before p
      → Talks def kind left p.left before p.written endings.ReadFault
  talk_worn left before p so = inr (record {
    bytes = so.bytes;
    input = so.input;
    events = so.events;
    rest = p.rest;
    reads = so.reads;
    ends = at_fault p.server so.taken;
  })
