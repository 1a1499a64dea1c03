-- A walk over the frames of a text.
use Rattle.std.proofs.Common.{◌≡◌, ℕ, suc, ◌+◌, ◌-◌, ◌<◌, Bool, true, false, List, [], ◌∷◌, ◌++◌, length, take, drop, map, refl, sym, ap, subst, ◌∙◌, arith, Option, Some, None, Vec, Global, option_map, append_assoc, append-nil, length-append, length-drop}
use Rattle.std.specs.Prelude.{MatchOption, unwrap_or}
use Rattle.std.proofs.lemmas.Option.{none-some}
use Rattle.std.proofs.lemmas.List.{map-append, take-append-drop}
use Rattle.psg_protocol.specs.declared.reader.Frame.{Frame}
use Rattle.psg_protocol.specs.Frames.{Event, Finds, Goes, HasRead, HasReadBy, Reads, Rest, at_stop, body, event_of, first_of_all, found, is_lost, long, lost, nothing}
use Rattle.psg_protocol.proofs.WithinLaws.{takes, takes_some}

-- What was read, and where the walk is: whatever completes the rest completes the whole, and the rest is the end of the
-- text.
pub record IsReading (passing : ℕ) (text : List ℕ) (events : List Event) (pass : ℕ) (rest : List ℕ) : Type 0 where
  pub goes : (more : List Event) (final : Rest) → Reads pass rest more final → Reads passing text (events ++ more) final
  pub front : List ℕ
  pub whole : text ≡ front ++ rest

pub reading_starts : (passing : ℕ) (text : List ℕ) (frames : List Frame) → frames ≡ []
    → IsReading passing text (map event_of frames) passing text
reading_starts passing text frames none =
    let P : List Frame → Type 0 = λ xs. IsReading passing text (map event_of xs) passing text in
    subst P (sym none) (record { goes = λ more final reads. reads; front = []; whole = refl })

goes_of : (e : Event) (more : List Event) (final : Rest) (A : Type 0) → is_lost e ≡ false → A → Goes e more final A
goes_of (body bytes) more final A no_stop reads = reads
goes_of (long n) more final A no_stop reads = reads
goes_of lost more final A no_stop reads = absurd (cc)

reading_more : (passing : ℕ) (text : List ℕ) (events : List Event) (pass : ℕ) (rest : List ℕ) → IsReading passing text events pass rest
    → (e : Event) (size : ℕ) → first_of_all (drop pass rest) ≡ found e size → is_lost e ≡ false
    → IsReading passing text (events ++ e ∷ []) size (drop pass rest)
reading_more passing text events pass rest reading e size first no_stop = record {
  goes = λ more final reads.
      let P : List Event → Type 0 = λ xs. Reads passing text xs final in
      subst P (sym (append_assoc events (e ∷ []) more))
      (reading.goes (e ∷ more) final (size, first, goes_of e more final (Reads size (drop pass rest) more final) no_stop reads));
  front = reading.front ++ take pass rest;
  whole = reading.whole ∙ ap (λ xs. reading.front ++ xs) (sym (take-append-drop pass rest))
      ∙ sym (append_assoc reading.front (take pass rest) (drop pass rest));
}

pub reading_next : (passing : ℕ) (text : List ℕ) (frames new : List Frame) (frame : Frame) (pass size : ℕ) (rest next : List ℕ)
    → IsReading passing text (map event_of frames) pass rest → next ≡ drop pass rest
    → first_of_all next ≡ found (event_of frame) size → is_lost (event_of frame) ≡ false → new ≡ frames ++ frame ∷ []
    → IsReading passing text (map event_of new) size next
reading_next passing text frames new frame pass size rest next reading there first no_stop push =
    let P : List Event → Type 0 = λ xs. IsReading passing text xs size (drop pass rest) in
    let Q : List ℕ → Type 0 = λ xs. IsReading passing text (map event_of new) size xs in
    subst Q (sym there)
    (subst P (sym (ap (map event_of) push ∙ map-append event_of frames (frame ∷ [])))
    (reading_more passing text (map event_of frames) pass rest reading (event_of frame) size (ap first_of_all (sym there) ∙ first) no_stop))

-- a frame takes a byte at least
pub reading_falls : (pass size : ℕ) (rest next : List ℕ) (frame : Frame) → next ≡ drop pass rest
    → first_of_all next ≡ found (event_of frame) size → is_lost (event_of frame) ≡ false → length (drop size next) < length (drop pass rest)
reading_falls pass size rest next frame there first no_stop =
    let takes_one : 0 < size = takes next (event_of frame) size first no_stop in
    let some : 0 < length next = takes_some next (event_of frame) size first in
    let same : length next ≡ length (drop pass rest) = ap length there in
    let left : length (drop size next) ≡ length next - size = length-drop size next in
    omega (arith, takes_one, some, same, left)

-- ---- what is found

pub found_none : {X : Type 0} (o : Option X) (Never : Type 0) (Is : X → Type 0) → ((x : X) → o ≡ Some x → ⊥) → MatchOption o Never Is → Never
found_none None Never Is n h = h
found_none (Some x) Never Is n h = absurd (n x refl)

some_same : {X : Type 0} (y x : X) → Some y ≡ Some x → y ≡ x
some_same y x e = cc

pub found_some : {X : Type 0} (o : Option X) (x : X) (Never : Type 0) (Is : X → Type 0) → o ≡ Some x → MatchOption o Never Is → Is x
found_some None x Never Is e h = absurd (none-some x e)
found_some (Some y) x Never Is e h = subst Is (some_same y x e) h

pub items_kept : (o : Option (Vec ℕ Global)) (Never : Type 0) (xs : List ℕ) → MatchOption o Never (λ v. v.items ≡ xs)
    → MatchOption (option_map (λ v. v.items) o) Never (λ bytes. bytes ≡ xs)
items_kept None Never xs h = h
items_kept (Some v) Never xs h = h

pub newer_is : (o : Option (Vec ℕ Global)) (old new : Vec ℕ Global) → new ≡ unwrap_or o old
    → MatchOption (option_map (λ v. v.items) o) (new.items ≡ old.items) (λ bytes. new.items ≡ bytes)
newer_is None old new is = ap (λ (v : Vec ℕ Global). v.items) is
newer_is (Some v) old new is = ap (λ (v : Vec ℕ Global). v.items) is

lost_is : (e : Event) → is_lost e ≡ true → e ≡ lost
lost_is (body bytes) is = absurd (cc)
lost_is (long n) is = absurd (cc)
lost_is lost is = refl

pub finds_stop : (passing : ℕ) (text : List ℕ) (frames new : List Frame) (frame : Frame) (pass size : ℕ) (rest next : List ℕ)
    (out : ℕ) (kept : Option (List ℕ)) (stopped : Bool) → IsReading passing text (map event_of frames) pass rest → next ≡ drop pass rest
    → first_of_all next ≡ found (event_of frame) size → is_lost (event_of frame) ≡ true → new ≡ frames ++ frame ∷ []
    → out ≡ 0 → kept ≡ Some [] → stopped ≡ true → Finds passing text (map event_of new) out kept stopped
finds_stop passing text frames new frame pass size rest next out kept stopped reading there first is push none empty off =
    let stop : event_of frame ≡ lost = lost_is (event_of frame) is in
    let events : map event_of frames ++ lost ∷ [] ≡ map event_of new =
    ap (λ e. map event_of frames ++ e ∷ []) (sym stop) ∙ sym (ap (map event_of) push ∙ map-append event_of frames (frame ∷ [])) in
    let P : List Event → Type 0 = λ xs. Reads passing text xs at_stop in
    let last : Reads passing text (map event_of new) at_stop =
    subst P events
    (reading.goes (lost ∷ []) at_stop (size, ap first_of_all (sym there) ∙ first ∙ ap (λ e. found e size) stop, (refl, refl))) in
    let Q : ℕ → Type 0 = λ n. Finds passing text (map event_of new) n kept stopped in
    let R : Option (List ℕ) → Type 0 = λ k. Finds passing text (map event_of new) 0 k stopped in
    let S : Bool → Type 0 = λ b. Finds passing text (map event_of new) 0 (Some []) b in
    subst Q (sym none) (subst R (sym empty) (subst S (sym off) (record { rest = []; reads = last; keeps = refl })))

-- the end of a text that is as long as the text is the text
whole_end : (front back text : List ℕ) → text ≡ front ++ back → length back ≡ length text → back ≡ text
whole_end [] back text whole size = sym whole
whole_end (x ∷ front) back text whole size =
    absurd (let sum : length text ≡ suc (length (front ++ back)) = ap length whole in
    let parts : length (front ++ back) ≡ length front + length back = length-append front back in omega (arith, sum, parts, size))

keeps_all : (kept : Option (List ℕ)) (last text : List ℕ) → (length last ≡ length text → last ≡ text)
    → MatchOption kept (length last ≡ length text) (λ bytes. bytes ≡ last) → MatchOption kept (last ≡ text) (λ bytes. bytes ≡ last)
keeps_all None last text same keeps = same keeps
keeps_all (Some bytes) last text same keeps = keeps

pub finds_end : (passing : ℕ) (text : List ℕ) (frames : List Frame) (pass : ℕ) (rest last : List ℕ) (out : ℕ) (kept : Option (List ℕ))
    → IsReading passing text (map event_of frames) pass rest → last ≡ drop pass rest → first_of_all last ≡ nothing
    → out ≡ pass - length rest → MatchOption kept (length last ≡ length text) (λ bytes. bytes ≡ last)
    → Finds passing text (map event_of frames) out kept false
finds_end passing text frames pass rest last out kept reading there none left keeps =
    let f : ℕ → List ℕ → Rest = λ a b. record { passing = a; bytes = b; stopped = false } in
    let is : f out last ≡ f (pass - length rest) (drop pass rest) = ap (λ n. f n last) left ∙ ap (f (pass - length rest)) there in
    let P : List Event → Type 0 = λ xs. Reads passing text xs (f out last) in
    let whole : text ≡ (reading.front ++ take pass rest) ++ last =
    reading.whole ∙ ap (λ xs. reading.front ++ xs) (sym (take-append-drop pass rest))
    ∙ sym (append_assoc reading.front (take pass rest) (drop pass rest)) ∙ ap (λ xs. (reading.front ++ take pass rest) ++ xs) (sym there) in
    record {
      rest = last;
      reads = subst P (append-nil (map event_of frames)) (reading.goes [] (f out last) (ap first_of_all (sym there) ∙ none, is));
      keeps = keeps_all kept last text (whole_end (reading.front ++ take pass rest) last text whole) keeps;
    }

-- ---- what is read of a piece

kept_is : (kept : Option (List ℕ)) (rest text new : List ℕ) → MatchOption kept (rest ≡ text) (λ bytes. bytes ≡ rest)
    → MatchOption kept (new ≡ text) (λ bytes. new ≡ bytes) → new ≡ rest
kept_is None rest text new keeps is = is ∙ sym keeps
kept_is (Some bytes) rest text new keeps is = is ∙ keeps

pub read_is : (old new : Rest) (piece text : List ℕ) (events : List Event) (pass : ℕ) (kept : Option (List ℕ)) (stopped : Bool)
    → old.stopped ≡ false → text ≡ old.bytes ++ piece → Finds old.passing text events pass kept stopped → new.passing ≡ pass
    → new.stopped ≡ stopped → MatchOption kept (new.bytes ≡ text) (λ bytes. new.bytes ≡ bytes) → HasRead old piece events new
read_is old new piece text events pass kept stopped on whole finds passing stops bytes =
    let f : ℕ → List ℕ → Bool → Rest = λ a b c. record { passing = a; bytes = b; stopped = c } in
    let same : new.bytes ≡ finds.rest = kept_is kept finds.rest text new.bytes finds.keeps bytes in
    let is : f pass finds.rest stopped ≡ f new.passing new.bytes new.stopped =
    ap (λ a. f a finds.rest stopped) (sym passing) ∙ ap (λ b. f new.passing b stopped) (sym same) ∙ ap (f new.passing new.bytes) (sym stops) in
    let P : Rest → Type 0 = λ r. Reads old.passing text events r in
    let Q : List ℕ → Type 0 = λ t. Reads old.passing t events new in
    let R : Bool → Type 0 = λ b. HasReadBy b old piece events new in
    subst R (sym on) (subst Q whole (subst P is finds.reads))

pub read_stopped : (old new : Rest) (piece : List ℕ) (frames : List Frame) → old.stopped ≡ true → frames ≡ [] → new ≡ old
    → HasRead old piece (map event_of frames) new
read_stopped old new piece frames off none same =
    let R : Bool → Type 0 = λ b. HasReadBy b old piece (map event_of frames) new in
    subst R (sym off) (ap (map event_of) none, same)
