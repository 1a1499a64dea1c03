-- Files and definitions that are read, and runs that go on from there.
use Rattle.std.proofs.Common.{◌≡◌, ℕ, ◌+◌, ◌<◌, ◌≤◌, min, List, length, take, Option, Some, None, Result, Ok, Err, IfSome, IfOk, IfErr, refl, sym, ◌∙◌, ap, subst, arith}
use Rattle.std.proofs.lemmas.List.{length-take, take_all}
use Rattle.std.specs.Prelude.{OnOk}
use Rattle.std.specs.Io.KnownBytes.{append_known}
use Rattle.psg_terms.specs.Names.{Name}
use Rattle.psg_world.specs.Files.{Held, Entry, bytes_of, front_of, entries_after_read}
use Rattle.psg_world.specs.Sinks.{HasRisen, TakesFront}
use Rattle.psg_world.specs.declared.world.ReadStop.{ReadStop}
use Rattle.psg_world.specs.declared.world.ReadStop.TheVariants as read_stops
use Rattle.psg_world.specs.declared.world.WriteStop.{WriteStop}
use Rattle.psg_world.specs.declared.world.WriteStop.TheVariants as stops
use Rattle.psg_grammar.specs.declared.types.Definition.{Definition}
use Rattle.psg_defcomment.specs.Reading.{comment_of}
use Rattle.psg_run.specs.declared.status.Status.{Status}
use Rattle.psg_run.specs.declared.status.Status.TheVariants as ends_with
use Rattle.psg_run.specs.Endings.{read_status, write_status}
use Rattle.psg_run.specs.Reading.{Defines, Nowhere, OnCommented, OnDefinition, Reads, is_accepted, is_long, is_read, is_refused, is_unread, no_room_for_definition, no_room_for_file}
use Rattle.psg_run.specs.Worlds.{Act, Incoming, Puts, World, not_put, put_failed, put_front, put_in_part, put_whole, seen}
use Rattle.psg_run.proofs.Chains.{append_known-nil, took_front}

-- ---- results

pub map_ok : {X Y P Q : Type 0} (r : Result X Y) → (P → Q) → OnOk r P → OnOk r Q
map_ok (Ok x) f h = f h
map_ok (Err y) f h = tt

pub map_err : {X Y : Type 0} {P Q : Y → Type 0} (r : Result X Y) → ((y : Y) → P y → Q y) → IfErr r P → IfErr r Q
map_err (Ok x) f h = tt
map_err (Err y) f h = f y h

-- two facts of one result
pub both_ok : {X Y B : Type 0} {P Q : X → Type 0} (r : Result X Y) → ((x : X) → P x → B → Q x) → IfOk r P → OnOk r B
    → IfOk r Q
both_ok (Ok x) f p b = f x p b
both_ok (Err y) f p b = tt

pub map_if_ok : {X Y : Type 0} {P Q : X → Type 0} (r : Result X Y) → ((x : X) → P x → Q x) → IfOk r P → IfOk r Q
map_if_ok (Ok x) f h = f x h
map_if_ok (Err y) f h = tt

-- what holds whatever the error is
pub if_err : {X Y : Type 0} {P : Y → Type 0} (r : Result X Y) → ((y : Y) → P y) → IfErr r P
if_err (Ok x) p = tt
if_err (Err y) p = p y

-- ---- worlds of which each part is the same

pub same_seen : (held held' : Option Held) (entries entries' : List Entry) (input : Incoming) (ticks : ℕ) (written written' : Option (List ℕ)) (count count' : ℕ)
    → held' ≡ held → entries' ≡ entries → written' ≡ written → count' ≡ count
    → ◌≡◌ {A = World} (seen held' entries' input ticks written' count') (seen held entries input ticks written count)
same_seen held held' entries entries' input ticks written written' count count' h e w c =
    ap (λ (x : Option Held). seen x entries' input ticks written' count') h
    ∙ ap (λ (x : List Entry). seen held x input ticks written' count') e
    ∙ ap (λ (x : Option (List ℕ)). seen held entries input ticks x count') w
    ∙ ap (λ (x : ℕ). seen held entries input ticks written x) c

-- ---- files

whole_front : (limit : ℕ) (bytes : List ℕ) → length (front_of limit bytes) ≤ limit → front_of limit bytes ≡ bytes
whole_front limit bytes small =
    take_all (limit + 1) bytes (let e : length (take (limit + 1) bytes) ≡ min (limit + 1) (length bytes) = length-take (limit + 1) bytes in omega (arith, e, small))

-- what was read are the bytes of the file, where they are not too many
pub read_short : (held : Option Held) (name : Name) (limit : ℕ) (bytes : List ℕ) → IfSome held (λ h. bytes ≡ front_of limit (bytes_of h name)) → length bytes ≤ limit
    → IfSome held (λ h. bytes ≡ bytes_of h name)
read_short None name limit bytes read small = tt
read_short (Some h) name limit bytes read small = read ∙ whole_front limit (bytes_of h name) (subst (λ l. length l ≤ limit) read small)

module _ (file : Name) (limit : ℕ) where
  pub read_long : (old new : World) (bytes : List ℕ) → IfSome old.files.held (λ h. bytes ≡ front_of limit (bytes_of h file)) → limit < length bytes
      → new ≡ old → Reads file limit (λ _. Nowhere) old new ends_with.TooLong
  read_long old new bytes read more same = by old.files.held refl read where
    by : (held : Option Held) → old.files.held ≡ held → IfSome held (λ h. bytes ≡ front_of limit (bytes_of h file))
        → Reads file limit (λ _. Nowhere) old new ends_with.TooLong
    by None is h = is_long bytes (subst (λ x. IfSome x (λ k. bytes ≡ bytes_of k file)) (sym is) tt) more same
    by (Some held) is h =
        let e : length (take (limit + 1) (bytes_of held file)) ≡ min (limit + 1) (length (bytes_of held file)) = length-take (limit + 1) (bytes_of held file) in
        let long : limit < length (take (limit + 1) (bytes_of held file)) = subst (λ l. limit < length l) h more in
        is_long (bytes_of held file) (subst (λ x. IfSome x (λ k. bytes_of held file ≡ bytes_of k file)) (sym is) refl) (omega (arith, e, long)) same

  -- a read that stopped
  pub read_stopped : (held held' : Option Held) (entries entries' : List Entry) (input : Incoming) (ticks : ℕ) (written : Option (List ℕ)) (count : ℕ) (stop : ReadStop)
      → held' ≡ held → entries' ≡ entries_after_read entries file (Err stop)
      → Reads file limit (λ _. Nowhere) (seen held entries input ticks written count) (seen held' entries' input ticks written count) (read_status stop)
  read_stopped held held' entries entries' input ticks written count read_stops.Failed h e =
      is_unread (same_seen held held' (entries_after_read entries file (Err read_stops.Failed)) entries' input ticks written written count count h e refl refl)
  read_stopped held held' entries entries' input ticks written count read_stops.Memory h e =
      no_room_for_file (same_seen held held' entries entries' input ticks written written count count h e refl refl)

  -- a run that ends here ends here whatever it would go on with
  pub reads_on : (Next : List ℕ → Act) (old new : World) (status : Status) → Reads file limit (λ _. Nowhere) old new status → Reads file limit Next old new status
  reads_on Next old new status (is_read bytes are short never) = absurd never
  reads_on Next old new status (is_unread is) = is_unread is
  reads_on Next old new status (is_long bytes are long is) = is_long bytes are long is
  reads_on Next old new status (no_room_for_file is) = no_room_for_file is

pub defines_on : (bytes : List ℕ) (Next : Definition → Act) (old new : World) (status : Status) → Defines bytes (λ _. Nowhere) old new status
    → Defines bytes Next old new status
defines_on bytes Next old new status (is_accepted def accepted never) = absurd never
defines_on bytes Next old new status (is_refused line refusal puts) = is_refused line refusal puts
defines_on bytes Next old new status (no_room_for_definition is) = no_room_for_definition is

pub definition_on : (file : Name) (Next : Definition → Act) (old new : World) (status : Status) → OnDefinition file (λ _. Nowhere) old new status
    → OnDefinition file Next old new status
definition_on file Next old new status (is_read bytes are short h) = is_read bytes are short (defines_on bytes Next old new status h)
definition_on file Next old new status (is_unread is) = is_unread is
definition_on file Next old new status (is_long bytes are long is) = is_long bytes are long is
definition_on file Next old new status (no_room_for_file is) = no_room_for_file is

pub commented_on : (file : Name) (Next : Option Name → Definition → Act) (old new : World) (status : Status) → OnDefinition file (λ _. Nowhere) old new status
    → OnCommented file Next old new status
commented_on file Next old new status (is_read bytes are short h) =
    is_read bytes are short (defines_on bytes (Next (comment_of bytes)) old new status h)
commented_on file Next old new status (is_unread is) = is_unread is
commented_on file Next old new status (is_long bytes are long is) = is_long bytes are long is
commented_on file Next old new status (no_room_for_file is) = no_room_for_file is

-- ---- one text that is put at the end

module _ (bytes : List ℕ) (done : Status) (old new : World) (files : new.files ≡ old.files) (input : new.input ≡ old.input) (ticks : new.ticks ≡ old.ticks) where
  pub all_put : new.written ≡ append_known old.written bytes → Puts bytes done old new done
  all_put took = put_whole (record { files = files; input = input; ticks = ticks; took = took })

  pub none_put : new.written ≡ old.written → Puts bytes done old new ends_with.Memory
  none_put same = put_front (not_put (record { files = files; input = input; ticks = ticks; took = same ∙ sym (append_known-nil old.written) }))

  pub front_put : TakesFront old.written bytes new.written → (stop : WriteStop) → (stop ≡ stops.Failed → HasRisen old.count new.count)
      → Puts bytes done old new (write_status stop)
  front_put takes stops.Failed risen =
      let (front, proper, wrote) = took_front bytes old new files input ticks takes in
      put_front (put_failed front proper wrote (risen refl))
  front_put takes stops.Memory risen =
      let (front, proper, wrote) = took_front bytes old new files input ticks takes in
      put_front (put_in_part front proper wrote)
