-- Two runs over files that held the same, none of whose calls failed, write the same.
use Rattle.std.proofs.Common.{◌≡◌, ℕ, ◌≤◌, ◌+◌, List, [], ◌∷◌, ◌++◌, length, Option, Some, None, refl, sym, ◌∙◌, ap}
use Rattle.std.proofs.Common.{ap₂, subst, append-nil, arith}
use Rattle.std.proofs.lemmas.List.{length-append}
use Rattle.std.specs.FinMap as map
use Rattle.std.specs.Prelude.{option_map}
use Rattle.std.specs.Io.KnownBytes.{append_known}
use Rattle.psg_terms.specs.Names.{Name}
use Rattle.psg_grammar.specs.declared.types.Definition.{Definition}
use Rattle.psg_grammar.specs.Sound.{IsSound}
use Rattle.psg_class.specs.Class.{IsClass}
use Rattle.psg_library.specs.declared.fragment.SavedFragment.{SavedFragment as Saved}
use Rattle.psg_library.specs.Keeping.{bytes_of as kept_bytes}
use Rattle.psg_script.specs.declared.command.Command.{Command}
use Rattle.psg_script.specs.declared.command.Command.TheVariants.{Keep, Fetch}
use Rattle.psg_world.specs.Files.{Entry, Held, bytes_of, front_of}
use Rattle.psg_session.specs.Applied.{IsAskedBy}
use Rattle.psg_session.specs.Exchanges.{Asked, IsAnswered, Outside, fetching, gets, keeping, loses_fetch, loses_keep}
use Rattle.psg_session.specs.Exchanges.{most_kept_bytes, nobody, stores}
use Rattle.psg_session.specs.Kept.{Asks}
use Rattle.psg_session.specs.Lines.{HasAnswered, to_command, to_nothing}
use Rattle.psg_session.specs.PlainState.{Answer, State, got, not_asked, stored}
use Rattle.psg_session.specs.Replies.{Reply, reply_text}
use Rattle.psg_session.specs.Shelf.{saved_at}
use Rattle.psg_session.proofs.StepLaws.{some_once}
use Rattle.psg_run.specs.declared.status.Status.{Status}
use Rattle.psg_run.specs.declared.status.Status.TheVariants as ends_with
use Rattle.psg_run.specs.Chain.{Finishes, IsPlayed, Point, Runs, closes, first_point, goes, is_played, puts_front, rests}
use Rattle.psg_run.specs.Editing.{BreaksOff, Edits, Editor, IsReplied, JustEnds, new_editor}
use Rattle.psg_run.specs.Outputs.{HasOneRunOf}
use Rattle.psg_run.specs.Promise.{edit}
use Rattle.psg_run.specs.Reading.{Defines, IsAccepted, OnDefinition, Reads, is_accepted, is_read, is_refused}
use Rattle.psg_run.specs.Reading.{most_script_bytes}
use Rattle.psg_run.specs.Scripts.{script_lines}
use Rattle.psg_run.specs.Worlds.{Act, AreBytes, Puts, PutsFront, World, Wrote, put_front, put_whole}
use Rattle.psg_run.proofs.Chains.{append_known-nil}
use Rattle.psg_run.proofs.EndingWell.{if_known, known_bytes, one_accepted}
use Rattle.psg_run.proofs.LineCommands.{spelled_once}
use Rattle.psg_run.proofs.OneOutput.{stepped_once}

-- ---- entries of calls that failed

pub same_long : (before after : List Entry) → after ≡ before → length before ≤ length after
same_long before after e = let same : length after ≡ length before = ap length e in omega (arith, same)

one_longer : (before after : List Entry) (x : Entry) → after ≡ before ++ x ∷ [] → length after ≡ length before + 1
one_longer before after x e = ap length e ∙ length-append before (x ∷ [])

pub answers_grow : {before after : Outside} {asked : Option Asked} {answer : Answer} → IsAnswered before after asked answer
    → length before.entries ≤ length after.entries
answers_grow {before = before} {after = after} (nobody same) =
    same_long before.entries after.entries (ap (λ (x : Outside). x.entries) same)
answers_grow {before = before} {after = after} (stores held entries) = same_long before.entries after.entries entries
answers_grow (loses_keep others entries) = let more = one_longer _ _ _ entries in omega (arith, more)
answers_grow {before = before} {after = after} (gets same short known) =
    same_long before.entries after.entries (ap (λ (x : Outside). x.entries) same)
answers_grow (loses_fetch held entries) = let more = one_longer _ _ _ entries in omega (arith, more)

line_grows : {def : Definition} {s t : State} {line : List ℕ} {before after : Outside} {from to : ℕ} {reply : Reply}
    → HasAnswered def s t line before after from to reply → length before.entries ≤ length after.entries
line_grows {before = before} {after = after} (to_nothing none state files count is) =
    same_long before.entries after.entries (ap (λ (x : Outside). x.entries) files)
line_grows (to_command command spells applied) = answers_grow applied.answers

pub runs_grow : {def : Definition} {s t : Point Editor} {lines : List (List ℕ)} {texts : List ℕ}
    → Runs Editor (IsReplied def) s lines texts t → length s.files.entries ≤ length t.files.entries
runs_grow rests = omega arith
runs_grow (goes mid text texts played more) =
    let first = line_grows played.0.answers in
    let later = runs_grow more in
    omega (arith, first, later)

-- ---- files that do not fail

pub answer_from : Held → Option Asked → Answer
answer_from held None = not_asked
answer_from held (Some (keeping file bytes)) = stored
answer_from held (Some (fetching file)) = got (front_of most_kept_bytes (bytes_of held file))

pub held_after : Held → Option Asked → Held
held_after held None = held
held_after held (Some (keeping file bytes)) = map.insert held file bytes
held_after held (Some (fetching file)) = held

abbrev pub IsToldBy : Held → Option Asked → Answer → Option Held → Type 0
IsToldBy held asked answer known = (answer ≡ answer_from held asked) × (known ≡ Some (held_after held asked))

pub told : (held : Held) {before after : Outside} {asked : Option Asked} {answer : Answer} → before.held ≡ Some held
    → length after.entries ≤ length before.entries → IsAnswered before after asked answer
    → IsToldBy held asked answer after.held
unfolding answer_from held_after
told held known few (nobody same) = (refl, ap (λ (x : Outside). x.held) same ∙ known)
told held known few (stores {file = file} {bytes = bytes} now entries) =
    (refl, now ∙ ap (option_map (λ (h : Held). map.insert h file bytes)) known)
told held known few (loses_keep others entries) =
    let more = one_longer _ _ _ entries in absurd (omega (arith, more, few))
told held {before = before} known few (gets {file = file} {bytes = bytes} same short are) = (
  ap got (if_known before.held held (λ h. bytes ≡ front_of most_kept_bytes (bytes_of h file)) known are),
  ap (λ (x : Outside). x.held) same ∙ known,
)
told held known few (loses_fetch now entries) =
    let more = one_longer _ _ _ entries in absurd (omega (arith, more, few))

-- ---- two runs of one line

-- a command asks one thing
asked_once : (def : Definition) (s : State) (c : Command) (a b : Asked) → Asks def s c a → Asks def s c b → b ≡ a
asked_once def s (Keep name file) a b (x, is, (short, e)) (y, is', (short', e')) =
    let one : y ≡ x = some_once y x (saved_at s.saved name) is' is in
    e' ∙ ap (λ (z : Saved). keeping file (kept_bytes def z)) one ∙ sym e
asked_once def s (Fetch file) a b e e' = e' ∙ sym e
asked_once def s _ a b h g = absurd h

pub asked_alike : (def : Definition) (s : State) (c : Command) (a b : Option Asked) → IsAskedBy def s c a
    → IsAskedBy def s c b → b ≡ a
asked_alike def s c None None h g = refl
asked_alike def s c None (Some b) h g = absurd (h b g)
asked_alike def s c (Some a) None h g = absurd (g a h)
asked_alike def s c (Some a) (Some b) h g = ap Some (asked_once def s c a b h g)

-- both runs are in one state, with one reply, and the files hold the same
record AreAlike (t t' : State) (r r' : Reply) (known known' : Option Held) : Type 0 where
  held : Held
  left : known ≡ Some held
  right : known' ≡ Some held
  state : t' ≡ t
  reply : r' ≡ r

-- two commands of one line that ask alike are answered alike
module _ (def : Definition) (sound : IsSound def) (is_class : IsClass def) (held : Held) where
  line_alike : {s s' t t' : State} {line : List ℕ} {before after before' after' : Outside} {from to from' to' : ℕ}
      {reply reply' : Reply} → HasAnswered def s t line before after from to reply
      → HasAnswered def s' t' line before' after' from' to' reply'
      → s' ≡ s → before.held ≡ Some held → before'.held ≡ Some held
      → length after.entries ≤ length before.entries → length after'.entries ≤ length before'.entries
      → AreAlike t t' reply reply' after.held after'.held
  line_alike (to_nothing none state files count is) (to_nothing none' state' files' count' is') e known known' few
      few' =
      record {
        held = held;
        left = ap (λ (x : Outside). x.held) files ∙ known;
        right = ap (λ (x : Outside). x.held) files' ∙ known';
        state = state' ∙ e ∙ sym state;
        reply = is' ∙ sym is;
      }
  line_alike (to_nothing none state files count is) (to_command d spells' applied') e known known' few few' =
      absurd (none d spells')
  line_alike (to_command c spells applied) (to_nothing none' state' files' count' is') e known known' few few' =
      absurd (none' c spells)
  line_alike {s = s} {s' = s'} {t = t} {t' = t'} {line = line} {reply = reply} {reply' = reply'}
      (to_command c spells applied) (to_command d spells' applied') e known known' few few' =
      let there : IsAskedBy def s d applied'.asked =
      subst (λ (x : State). IsAskedBy def x d applied'.asked) e applied'.asks in
      let moved : IsAskedBy def s c applied'.asked =
      subst (λ (x : Command). IsAskedBy def s x applied'.asked) (spelled_once line d c spells' spells) there in
      let same : applied'.asked ≡ applied.asked = asked_alike def s c applied.asked applied'.asked applied.asks moved in
      let one = told held known few applied.answers in
      let other = told held known' few' applied'.answers in
      let answers : applied'.answer ≡ applied.answer = other.0 ∙ ap (answer_from held) same ∙ sym one.0 in
      let steps = stepped_once def sound is_class s s' t t' line c d applied.answer applied'.answer reply reply' spells
      spells' applied.steps applied'.steps e answers in
      record {
        held = held_after held applied.asked;
        left = one.1;
        right = other.1 ∙ ap (λ (x : Option Asked). Some (held_after held x)) same;
        state = steps.0;
        reply = steps.1;
      }

-- ---- two runs of lines

module _ (def : Definition) (sound : IsSound def) (is_class : IsClass def) where
  pub runs_alike : (held : Held) {s s' t t' : Point Editor} {lines : List (List ℕ)} {texts texts' : List ℕ}
      → Runs Editor (IsReplied def) s lines texts t → Runs Editor (IsReplied def) s' lines texts' t'
      → s'.state.state ≡ s.state.state → s.files.held ≡ Some held → s'.files.held ≡ Some held
      → length t.files.entries ≤ length s.files.entries → length t'.files.entries ≤ length s'.files.entries
      → (texts' ≡ texts) × (t'.files.held ≡ t.files.held) × (t'.state.state ≡ t.state.state)
  runs_alike held rests rests e known known' few few' = (refl, known' ∙ sym known, e)
  runs_alike held {s = s} {s' = s'} {t = t} {t' = t'} (goes mid text texts played more)
      (goes mid' text' texts' played' more') e known known' few few' =
      let now : length s.files.entries ≤ length mid.files.entries = line_grows played.0.answers in
      let now' : length s'.files.entries ≤ length mid'.files.entries = line_grows played'.0.answers in
      let later : length mid.files.entries ≤ length t.files.entries = runs_grow more in
      let later' : length mid'.files.entries ≤ length t'.files.entries = runs_grow more' in
      let alike = line_alike def sound is_class held played.0.answers played'.0.answers e known known'
      (omega (arith, few, later)) (omega (arith, few', later')) in
      let ends = runs_alike alike.held more more' alike.state alike.left alike.right (omega (arith, few, now))
      (omega (arith, few', now')) in
      (ap₂ (λ x y. x ++ y) (played'.1 ∙ ap reply_text alike.reply ∙ sym played.1) ends.0, ends.1, ends.2)

-- ---- runs that end well

pub no_front : {bytes : List ℕ} {old new : World} → PutsFront bytes old new ends_with.Done → ⊥
no_front h = elim h [ ]

pub whole_put : {bytes : List ℕ} {ended : Status} {old new : World} → Puts bytes ended old new ends_with.Done
    → Wrote bytes old new
whole_put (put_whole wrote) = wrote
whole_put (put_front front) = absurd (no_front front)

pub no_refusal_put : {bytes : List ℕ} {old new : World} → Puts bytes ends_with.DefinitionRefused old new ends_with.Done → ⊥
no_refusal_put (put_front front) = no_front front

pub was_read : {file : Name} {limit : ℕ} {Next : List ℕ → Act} {old new : World}
    → Reads file limit Next old new ends_with.Done
    → (bytes : List ℕ) × AreBytes old file bytes × Next bytes old new ends_with.Done
was_read (is_read bytes are short on) = (bytes, are, on)

pub was_accepted : {bytes : List ℕ} {Next : Definition → Act} {old new : World} → Defines bytes Next old new ends_with.Done
    → (def : Definition) × IsAccepted bytes def × Next def old new ends_with.Done
was_accepted (is_accepted def accepted on) = (def, accepted, on)
was_accepted (is_refused line refusal puts) = absurd (no_refusal_put puts)

-- all lines were played, and their texts written
module _ (S : Type 0) (Plays : Point S → List ℕ → List ℕ → Point S → Type 0) (start : S) where
  pub record IsWhole (lines : List (List ℕ)) (old new : World) : Type 0 where
    pub texts : List ℕ
    pub last : Point S
    pub runs : Runs S Plays (first_point S start old) lines texts last
    pub wrote : new.written ≡ append_known old.written texts
    pub files : new.files ≡ last.files

  abbrev HasFinished : World → List ℕ → Point S → List (List ℕ) → World → Type 0
  HasFinished old texts s left new =
      (left ≡ []) × (new.files ≡ s.files) × (new.written ≡ append_known old.written texts)

  module _ (Breaks : Point S → List ℕ → Point S → Type 0) where
    finished : {old new : World} {texts : List ℕ} {s : Point S} {left : List (List ℕ)}
        → Finishes S Plays Breaks JustEnds old texts s left new ends_with.Done → HasFinished old texts s left new
    finished {old = old} {new = new} {texts = texts} (closes t text ended (none, is_done, same) puts) =
        let wrote = whole_put puts in (
          refl,
          wrote.files ∙ ap (λ (x : Point S). x.files) same,
          wrote.took ∙ ap (append_known (append_known old.written texts)) none
              ∙ append_known-nil (append_known old.written texts),
        )
    finished (puts_front t text played front) = absurd (no_front front)

    pub played_whole : {lines : List (List ℕ)} {old new : World}
        → IsPlayed S Plays Breaks JustEnds start lines old new ends_with.Done → IsWhole lines old new
    played_whole {lines = lines} {old = old} (is_played first left texts last split runs finishes) =
        let ends = finished finishes in
        let all : first ≡ lines = sym (split ∙ ap (λ l. first ++ l) ends.0 ∙ append-nil first) in
        record {
          texts = texts;
          last = last;
          runs = subst (λ l. Runs S Plays (first_point S start old) l texts last) all runs;
          wrote = ends.2;
          files = ends.1;
        }

  pub no_entries : (lines : List (List ℕ)) (old new : World) (done : IsWhole lines old new)
      → new.files.entries ≡ old.files.entries → length done.last.files.entries ≤ length old.files.entries
  no_entries lines old new done kept =
      let same : done.last.files.entries ≡ old.files.entries =
      sym (ap (λ (x : Outside). x.entries) done.files) ∙ kept in
      same_long done.last.files.entries old.files.entries (sym same)

-- what a run with a definition and a script did with them, where it is known what the files held
pub was_done : (def : Definition) (definition script : Name) (held : Held) (Next : Definition → List (List ℕ) → Act)
    → IsAccepted (bytes_of held definition) def → (old new : World) → old.files.held ≡ Some held
    → OnDefinition definition (λ d. Reads script most_script_bytes (λ bytes. Next d (script_lines bytes))) old new
    ends_with.Done → Next def (script_lines (bytes_of held script)) old new ends_with.Done
was_done def definition script held Next accepted old new known run =
    let (text, are, defines) = was_read run in
    let (other, other_accepted, reads) = was_accepted defines in
    let (bytes, are_script, done) = was_read reads in
    let is_text : text ≡ bytes_of held definition = known_bytes old.files.held held definition text known are in
    let is_script : bytes ≡ bytes_of held script = known_bytes old.files.held held script bytes known are_script in
    let same : other ≡ def =
    one_accepted (bytes_of held definition) def other accepted
    (subst (λ b. IsAccepted b other) is_text other_accepted) in
    let here : Next def (script_lines bytes) old new ends_with.Done =
    subst (λ (x : Definition). Next x (script_lines bytes) old new ends_with.Done) same done in
    subst (λ b. Next def (script_lines b) old new ends_with.Done) is_script here

pub edits_alike : (def : Definition) → IsSound def → IsClass def → (definition script : Name)
    → HasOneRunOf def (edit definition script) definition
edits_alike def sound is_class definition script held old new old' new' accepted run run' known known' kept kept' =
    let one = played_whole Editor (IsReplied def) new_editor (BreaksOff def)
    (was_done def definition script held Edits accepted old new known run) in
    let other = played_whole Editor (IsReplied def) new_editor (BreaksOff def)
    (was_done def definition script held Edits accepted old' new' known' run') in
    let both = runs_alike def sound is_class held one.runs other.runs refl known known'
    (no_entries Editor (IsReplied def) new_editor (script_lines (bytes_of held script)) old new one kept)
    (no_entries Editor (IsReplied def) new_editor (script_lines (bytes_of held script)) old' new' other kept') in (
      one.texts,
      one.wrote,
      other.wrote ∙ ap (append_known old'.written) both.0,
      ap (λ (x : Outside). x.held) other.files ∙ both.1 ∙ sym (ap (λ (x : Outside). x.held) one.files),
    )
