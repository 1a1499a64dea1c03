-- `self` writes no file but its own, after the commands of its script.
use Rattle.std.proofs.Common.{◌≡◌, ◌⊎◌, inl, inr, ℕ, List, [], ◌∷◌, ◌++◌, Option, Some, refl, sym, ◌∙◌, ap, append_assoc}
use Rattle.psg_langs.specs.declared.named.TheConstants.{SELF}
use Rattle.psg_terms.specs.Names.{Name}
use Rattle.psg_grammar.specs.declared.types.Definition.{Definition}
use Rattle.psg_session.specs.Exchanges.{IsAnswered, Outside, keeping, loses_keep, stores}
use Rattle.psg_session.specs.Lines.{HasBroken, at_command, at_line}
use Rattle.psg_session.specs.PlainState.{Answer, Opened, State}
use Rattle.psg_run.specs.declared.status.Status.{Status}
use Rattle.psg_run.specs.Chain.{Finishes, Point, Runs, breaks, closes, first_point, is_played, no_room_to_begin, puts_front}
use Rattle.psg_run.specs.Editing.{BreaksOff, Editor, IsSilent, new_editor}
use Rattle.psg_run.specs.Exporting.{Exports, GoesOnAsSelf, IsExport, TellsExport, is_exported, is_itself, is_lost, is_other}
use Rattle.psg_run.specs.Exporting.{is_unfinished, no_lines, no_room_to_export, nothing_opened, tells_export}
use Rattle.psg_run.specs.ExportLaws.{HoldsOthers, HoldsOthersSince, WritesNoOther}
use Rattle.psg_run.specs.Reading.{IsAccepted, Reads, is_accepted, is_long, is_read, is_refused, is_unread, most_script_bytes}
use Rattle.psg_run.specs.Reading.{no_room_for_definition, no_room_for_file}
use Rattle.psg_run.specs.Scripts.{script_lines}
use Rattle.psg_run.specs.Worlds.{AreBytes, World}
use Rattle.psg_run.proofs.Chains.{runs_more}
use Rattle.psg_run.proofs.GenFiles.{front_leaves, puts_leaves}

holds_as : {before after : Outside} → after ≡ before → after.held ≡ before.held
holds_as same = ap (λ (x : Outside). x.held) same

others_then : (file : Name) (before middle after : Outside) → HoldsOthers file before middle → after ≡ middle
    → HoldsOthers file before after
others_then file before middle after (inl held) same = inl (holds_as same ∙ held)
others_then file before middle after (inr (bytes, held)) same = inr (bytes, holds_as same ∙ held)

-- ---- what the close of a run asks

answer_holds : {file : Name} {bytes : List ℕ} {before after : Outside} {answer : Answer}
    → IsAnswered before after (Some (keeping file bytes)) answer → HoldsOthers file before after
answer_holds (stores {bytes = bytes} held entries) = inr (bytes, held)
answer_holds (loses_keep held entries) = inl held

export_holds : {def : Definition} {file : Name} {opened : Option Opened} {before after : Outside} {text : List ℕ}
    → IsExport def file opened before after text → HoldsOthers file before after
export_holds (nothing_opened none same) = inl (holds_as same)
export_holds (no_lines old is other same) = inl (holds_as same)
export_holds (is_unfinished old path is lines first same) = inl (holds_as same)
export_holds (is_lost old is lines complete answers) = answer_holds answers
export_holds (is_exported old line is lines complete answers says) = answer_holds answers

tells_holds : {def : Definition} {file : Name} {s t : Point Editor} {text : List ℕ} {done : Status}
    → TellsExport def file s text done t → HoldsOthers file s.files t.files
tells_holds (tells_export text after says) = export_holds says
tells_holds no_room_to_export = inl refl

broken_same : {def : Definition} {s : State} {line : List ℕ} {before after : Outside} {from to : ℕ}
    → HasBroken def s line before after from to → after ≡ before
broken_same (at_line files count) = files
broken_same (at_command command spells stopped) = stopped.files

-- ---- the whole run

module _ (def : Definition) (accepted : IsAccepted SELF.now def) (script file : Name) (old new : World) (bytes : List ℕ)
    (are : AreBytes old script bytes) where
  ended : {status : Status} (played left : List (List ℕ)) (texts : List ℕ) (last : Point Editor)
      → script_lines bytes ≡ played ++ left
      → Runs Editor (IsSilent def) (first_point Editor new_editor old) played texts last
      → Finishes Editor (IsSilent def) (BreaksOff def) (TellsExport def file) old texts last left new status
      → HoldsOthersSince script file old new
  ended played left texts last split runs (closes t text close tells puts) = record {
    def = def;
    accepted = accepted;
    bytes = bytes;
    are = are;
    played = played;
    left = [];
    split = split;
    texts = texts;
    last = last;
    runs = runs;
    others = others_then file last.files t.files new.files (tells_holds tells) (puts_leaves puts);
  }
  ended played left texts last split runs (puts_front {line = line} {rest = rest} t text plays front) = record {
    def = def;
    accepted = accepted;
    bytes = bytes;
    are = are;
    played = played ++ line ∷ [];
    left = rest;
    split = split ∙ sym (append_assoc played (line ∷ []) rest);
    texts = texts ++ text;
    last = t;
    runs = runs_more Editor (IsSilent def) runs plays;
    others = inl (holds_as (front_leaves front));
  }
  ended played left texts last split runs (breaks {line = line} {rest = rest} t broken wrote) = record {
    def = def;
    accepted = accepted;
    bytes = bytes;
    are = are;
    played = played;
    left = line ∷ rest;
    split = split;
    texts = texts;
    last = last;
    runs = runs;
    others = inl (holds_as (wrote.files ∙ broken_same broken.breaks));
  }

  exported : {status : Status} → Exports def file (script_lines bytes) old new status
      → (new.files.held ≡ old.files.held) ⊎ HoldsOthersSince script file old new
  exported (is_played played left texts last split runs finishes) = inr (ended played left texts last split runs finishes)
  exported (no_room_to_begin same) = inl (ap (λ (w : World). w.files.held) same)

module _ (script file : Name) (old new : World) where
  read : (def : Definition) → IsAccepted SELF.now def → {status : Status}
      → Reads script most_script_bytes (λ bytes. Exports def file (script_lines bytes)) old new status
      → (new.files.held ≡ old.files.held) ⊎ HoldsOthersSince script file old new
  read def accepted (is_read bytes are short run) = exported def accepted script file old new bytes are run
  read def accepted (is_unread same) = inl (ap (λ (w : World). w.files.held) same)
  read def accepted (is_long bytes are long same) = inl (ap (λ (w : World). w.files.held) same)
  read def accepted (no_room_for_file same) = inl (ap (λ (w : World). w.files.held) same)

  on_itself : (def : Definition) → IsAccepted SELF.now def → {status : Status}
      → GoesOnAsSelf def (Reads script most_script_bytes (λ bytes. Exports def file (script_lines bytes))) old new status
      → (new.files.held ≡ old.files.held) ⊎ HoldsOthersSince script file old new
  on_itself def accepted (is_itself is run) = read def accepted run
  on_itself def accepted (is_other other puts) = inl (holds_as (puts_leaves puts))

pub writes_no_other : WritesNoOther
writes_no_other script file old new status (is_accepted def accepted run) = on_itself script file old new def accepted run
writes_no_other script file old new status (is_refused line refusal puts) = inl (holds_as (puts_leaves puts))
writes_no_other script file old new status (no_room_for_definition same) = inl (ap (λ (w : World). w.files.held) same)
