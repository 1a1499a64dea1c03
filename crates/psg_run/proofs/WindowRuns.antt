-- Two runs of windows over files that held the same, none of whose calls failed, write the same.
use Rattle.std.proofs.Common.{◌≡◌, ℕ, ◌≤◌, List, ◌++◌, length, Option, Some, refl, sym, ◌∙◌, ap}
use Rattle.std.proofs.Common.{ap₂, subst, arith}
use Rattle.std.specs.Io.KnownBytes.{append_known}
use Rattle.psg_terms.specs.Names.{Name}
use Rattle.psg_class.specs.Class.{IsClass}
use Rattle.psg_grammar.specs.declared.types.Definition.{Definition}
use Rattle.psg_grammar.specs.Sound.{IsSound}
use Rattle.psg_script.specs.declared.command.Command.{Command}
use Rattle.psg_world.specs.Files.{Held, bytes_of}
use Rattle.psg_session.specs.Applied.{IsAskedBy}
use Rattle.psg_session.specs.Exchanges.{Asked, Outside}
use Rattle.psg_session.specs.Replies.{Reply}
use Rattle.psg_run.specs.Chain.{Point, Runs, goes, rests}
use Rattle.psg_run.specs.Outputs.{HasOneRunOf}
use Rattle.psg_run.specs.Promise.{windows}
use Rattle.psg_run.specs.Scripts.{script_lines}
use Rattle.psg_run.specs.Windowed.{AnswersFor, BreaksFor, IsPlayedFor, PlaysWindows, Windowed, new_windows, to_none}
use Rattle.psg_run.specs.Windowed.{to_window}
use Rattle.psg_run.proofs.OneRun.{answer_from, answers_grow, asked_alike, held_after, no_entries, played_whole}
use Rattle.psg_run.proofs.OneRun.{same_long, told, was_done}
use Rattle.psg_run.proofs.WindowOutputs.{AreSame, answered_for_once, commanded_once, same_text}

-- both runs are in one state, with one reply to one window, and the files hold the same
record AreAlikeFor (window window' : Option ℕ) (reply reply' : Reply) (t t' : Point Windowed) : Type 0 where
  held : Held
  left : t.files.held ≡ Some held
  right : t'.files.held ≡ Some held
  same : AreSame window window' reply reply' t.state t'.state

module _ (def : Definition) (sound : IsSound def) (is_class : IsClass def) where
  line_grows : (s t : Point Windowed) (line : List ℕ) {window : Option ℕ} {reply : Reply}
      → AnswersFor def s line t window reply → length s.files.entries ≤ length t.files.entries
  line_grows s t line (to_none none same) =
      same_long s.files.entries t.files.entries (ap (λ (p : Point Windowed). p.files.entries) same)
  line_grows s t line (to_window w command reply is does moves input) = answers_grow does.answers

  runs_grow : {s t : Point Windowed} {lines : List (List ℕ)} {texts : List ℕ}
      → Runs Windowed (IsPlayedFor def) s lines texts t → length s.files.entries ≤ length t.files.entries
  runs_grow rests = omega arith
  runs_grow {s = s} {t = t} (goes {line = line} mid text texts played more) =
      let first = line_grows s mid line played.answers in
      let later = runs_grow more in
      omega (arith, first, later)

  line_alike : (held : Held) (s s' t t' : Point Windowed) (line : List ℕ) {window window' : Option ℕ}
      {reply reply' : Reply} → AnswersFor def s line t window reply → AnswersFor def s' line t' window' reply'
      → s'.state ≡ s.state → s.files.held ≡ Some held → s'.files.held ≡ Some held
      → length t.files.entries ≤ length s.files.entries → length t'.files.entries ≤ length s'.files.entries
      → AreAlikeFor window window' reply reply' t t'
  line_alike held s s' t t' line (to_none none same) (to_none none' same') e known known' few few' = record {
    held = held;
    left = ap (λ (p : Point Windowed). p.files.held) same ∙ known;
    right = ap (λ (p : Point Windowed). p.files.held) same' ∙ known';
    same = (
      refl,
      refl,
      ap (λ (p : Point Windowed). p.state) same' ∙ e ∙ sym (ap (λ (p : Point Windowed). p.state) same),
    );
  }
  line_alike held s s' t t' line (to_none none same) (to_window w command reply is does moves input) e known known' few
      few' =
      absurd (none w is.spelled is.spells)
  line_alike held s s' t t' line (to_window w command reply is does moves input) (to_none none' same') e known known'
      few few' =
      absurd (none' w is.spelled is.spells)
  line_alike held s s' t t' line (to_window w c reply is does moves input)
      (to_window v d reply' is' does' moves' input') e known known' few few' =
      let cursors : s'.state.cursors ≡ s.state.cursors = ap (λ (x : Windowed). x.cursors) e in
      let (one, command) = commanded_once s.state.cursors s'.state.cursors line w v c d is is' cursors in
      let there : IsAskedBy def s.state.state d does'.asked =
      subst (λ (x : Windowed). IsAskedBy def x.state d does'.asked) e does'.asks in
      let moved : IsAskedBy def s.state.state c does'.asked =
      subst (λ (x : Command). IsAskedBy def s.state.state x does'.asked) command there in
      let same : does'.asked ≡ does.asked =
      asked_alike def s.state.state c does.asked does'.asked does.asks moved in
      let mine = told held known few does.answers in
      let other = told held known' few' does'.answers in
      let answers : does'.answer ≡ does.answer = other.0 ∙ ap (answer_from held) same ∙ sym mine.0 in
      record {
        held = held_after held does.asked;
        left = mine.1;
        right = other.1 ∙ ap (λ (x : Option Asked). Some (held_after held x)) same;
        same = answered_for_once def sound is_class s s' t t' line (to_window w c reply is does moves input)
            (to_window v d reply' is' does' moves' input') e answers;
      }

  windows_alike : (held : Held) {s s' t t' : Point Windowed} {lines : List (List ℕ)} {texts texts' : List ℕ}
      → Runs Windowed (IsPlayedFor def) s lines texts t → Runs Windowed (IsPlayedFor def) s' lines texts' t'
      → s'.state ≡ s.state → s.files.held ≡ Some held → s'.files.held ≡ Some held
      → length t.files.entries ≤ length s.files.entries → length t'.files.entries ≤ length s'.files.entries
      → (texts' ≡ texts) × (t'.files.held ≡ t.files.held)
  windows_alike held rests rests e known known' few few' = (refl, known' ∙ sym known)
  windows_alike held {s = s} {s' = s'} {t = t} {t' = t'} (goes {line = line} mid text texts played more)
      (goes mid' text' texts' played' more') e known known' few few' =
      let now : length s.files.entries ≤ length mid.files.entries = line_grows s mid line played.answers in
      let now' : length s'.files.entries ≤ length mid'.files.entries = line_grows s' mid' line played'.answers in
      let later : length mid.files.entries ≤ length t.files.entries = runs_grow more in
      let later' : length mid'.files.entries ≤ length t'.files.entries = runs_grow more' in
      let alike = line_alike held s s' mid mid' line played.answers played'.answers e known known'
      (omega (arith, few, later)) (omega (arith, few', later')) in
      let (window, reply, state) = alike.same in
      let ends = windows_alike alike.held more more' state alike.left alike.right (omega (arith, few, now))
      (omega (arith, few', now')) in (
        ap₂ (λ x y. x ++ y)
            (played'.put ∙ same_text def sound is_class window reply ∙ sym played.put) ends.0,
        ends.1,
      )

pub windowed_alike : (def : Definition) → IsSound def → IsClass def → (definition script : Name)
    → HasOneRunOf def (windows definition script) definition
windowed_alike def sound is_class definition script held old new old' new' accepted run run' known known' kept kept' =
    let one = played_whole Windowed (IsPlayedFor def) new_windows (BreaksFor def)
    (was_done def definition script held PlaysWindows accepted old new known run) in
    let other = played_whole Windowed (IsPlayedFor def) new_windows (BreaksFor def)
    (was_done def definition script held PlaysWindows accepted old' new' known' run') in
    let both = windows_alike def sound is_class held one.runs other.runs refl known known'
    (no_entries Windowed (IsPlayedFor def) new_windows (script_lines (bytes_of held script)) old new one kept)
    (no_entries Windowed (IsPlayedFor def) new_windows (script_lines (bytes_of held script)) old' new' other kept') in (
      one.texts,
      one.wrote,
      other.wrote ∙ ap (append_known old'.written) both.0,
      ap (λ (x : Outside). x.held) other.files ∙ both.1 ∙ sym (ap (λ (x : Outside). x.held) one.files),
    )
