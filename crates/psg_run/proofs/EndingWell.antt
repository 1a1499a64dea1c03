-- A run for which nothing goes wrong outside ends well.
use Rattle.std.proofs.Common.{◌≡◌, inl, inr, ℕ, ◌<◌, ◌≤◌, ◌⊎◌, Bool, true, false, List, [], ◌∷◌, ◌++◌, length, slice_get, Option, Some, IfSome, refl}
use Rattle.std.proofs.Common.{cond, sym, ◌∙◌, ap, subst, arith}
use Rattle.std.specs.Prelude.{codes}
use Rattle.psg_terms.specs.Names.{Name}
use Rattle.psg_grammar.specs.declared.types.Definition.{Definition}
use Rattle.psg_grammar.specs.declared.types.Kind.{Kind}
use Rattle.psg_grammar.specs.Kinds.{kind_name_of}
use Rattle.psg_program.specs.Formatted.{IsFirstDifference, pieces}
use Rattle.psg_grammar.specs.WellFormed.{fixed_words}
use Rattle.psg_comments.specs.Fitting.{IsFit}
use Rattle.psg_defcomment.specs.Plain.{named_in}
use Rattle.psg_defcomment.specs.Reading.{AreFit, comment_of}
use Rattle.psg_defcomment.specs.Refusals.{FileRefusal, IsSecond, named_before, named_twice, of_definition, unfit}
use Rattle.psg_defcomment.specs.declared.fault.FileFault.{FileFault}
use Rattle.psg_defcomment.specs.declared.lines.Named.{Named}
use Rattle.psg_specimen.specs.Refusal.{IsAccepted as IsAcceptable}
use Rattle.psg_specimen.proofs.Stages.{not_both}
use Rattle.psg_langs.specs.declared.named.TheConstants.{MINI, SELF}
use Rattle.psg_world.specs.Files.{Held, bytes_of}
use Rattle.psg_world.specs.Sinks.{HasRisen}
use Rattle.psg_self.specs.SelfLanguage.{IsSelf}
use Rattle.psg_session.specs.Replies.{Reply, feed, reply_text}
use Rattle.psg_run.specs.declared.status.Status.{Status}
use Rattle.psg_run.specs.declared.status.Status.TheVariants as ends_with
use Rattle.psg_layout.specs.declared.layout.Layout.{Layout}
use Rattle.psg_layout.specs.Layouts.{LayoutRefusal}
use Rattle.psg_run.specs.Arranging.{Arranges, ArrangesBy, ReadsLayout, is_bad_line, is_layout, most_layout_bytes}
use Rattle.psg_run.specs.Arranging.{no_room_for_layout, no_room_to_arrange, tells_arranged}
use Rattle.psg_run.specs.Chain.{IsPlayed, Point, Runs, breaks, closes, goes, is_played, no_room_to_begin, puts_front}
use Rattle.psg_run.specs.Chain.{rests}
use Rattle.psg_run.specs.Editing.{BreaksOff, Edits, Editor, IsReplied, JustEnds, new_editor}
use Rattle.psg_run.specs.Explaining.{Explains, no_room_to_explain, tells_why}
use Rattle.psg_run.specs.Exporting.{Exports, GoesOnAsSelf, is_itself, is_other, no_room_to_export, tells_export}
use Rattle.psg_run.specs.Formatting.{Formats, FormatsFile, IsTold, TellsProgram, formats_file, is_as_it_is_to_be, is_declaring, is_faulty, is_formatted, no_room_to_format}
use Rattle.psg_run.specs.Formatting.{is_kind, is_no_program, is_not_formatted, is_unknown, most_program_bytes}
use Rattle.psg_run.specs.Formatting.{no_room_for_program, tells_program}
use Rattle.psg_run.specs.Framed.{framed_text}
use Rattle.psg_run.specs.Generated.{Generates, no_room_to_tell, tells}
use Rattle.psg_run.specs.Live.{EndsInput, IsRepliedLiveBy, Talks, TalksBy, is_at_end, is_unread_line, no_room_for_line}
use Rattle.psg_run.specs.Linting.{IsLint, Lints, LintsFile, TellsLint, lints_file, no_room_for_lint, no_room_without, tells_lint}
use Rattle.psg_comments.specs.declared.finding.Comment.{Comment}
use Rattle.psg_run.specs.Without.{IsWithout}
use Rattle.psg_run.specs.Outputs.{EndsWell, HasDefinition, HasFaultless, HasLayout, HasProgram, IsFaultless, IsRight, IsShort, WasRead}
use Rattle.psg_run.specs.Promise.{check, edit, framed, live, windows, gen, layout, itself, format, check_format}
use Rattle.psg_run.specs.Promise.{explain, lint}
use Rattle.psg_run.specs.Reading.{Defines, IsAccepted, IsFileRefusalLine, Reads, is_accepted, is_long, is_read, is_refused}
use Rattle.psg_run.specs.Reading.{is_unread, most_definition_bytes, most_script_bytes, no_file}
use Rattle.psg_run.specs.Reading.{no_room_for_definition, no_room_for_file, not_acceptable}
use Rattle.psg_run.specs.Scripts.{script_lines}
use Rattle.psg_run.specs.Windowed.{BreaksFor, IsPlayedFor, PlaysWindows, Windowed, new_windows}
use Rattle.psg_run.specs.Worlds.{Act, Incoming, Puts, PutsFront, World, not_put, put_failed, put_front, put_in_part}
use Rattle.psg_run.specs.Worlds.{put_whole}
use Rattle.psg_run.proofs.LiveLines.{input_kept}

-- ---- definitions

pub one_accepted : (bytes : List ℕ) (def other : Definition) → IsAccepted bytes def → IsAccepted bytes other
    → other ≡ def
one_accepted bytes def other a b = a.only other b.read.spells

refused_by : (bytes : List ℕ) (def : Definition) (fault : FileFault) → IsAccepted bytes def → FileRefusal bytes fault → ⊥
refused_by bytes def _ a (of_definition fault r none) = a.read.faultless fault r
refused_by bytes def _ a (named_before line fault s r l) = a.read.faultless fault r
refused_by bytes def _ a (named_twice line s r) = two (named_in bytes) a.fit s
  where
    two : (named : List Named) → AreFit (fixed_words def) named → IsSecond named line → ⊥
    two [] f i = i
    two (first ∷ []) f i = i
    two (first ∷ second ∷ rest) f i = f
refused_by bytes def _ a (unfit named other e read never) =
    never (subst (λ (d : Definition). IsFit (fixed_words d) named.token) (sym (a.only other read.spells))
    (subst (AreFit (fixed_words def)) e a.fit))

pub not_refused : (bytes line : List ℕ) (def : Definition) → IsAccepted bytes def → IsFileRefusalLine bytes line → ⊥
not_refused bytes line def a (no_file fault refusal is) = refused_by bytes def fault a refusal
not_refused bytes line def a (not_acceptable other fault read only refusal is) =
    not_both other (subst IsAcceptable (only def a.read.spells) a.accepted) fault refusal

-- what is said of the files where it is known what they hold
pub if_known : (known : Option Held) (held : Held) (P : Held → Type 0) → known ≡ Some held → IfSome known P → P held
if_known known held P e h = subst (λ (x : Option Held). IfSome x P) e h

pub known_bytes : (known : Option Held) (held : Held) (file : Name) (bytes : List ℕ) → known ≡ Some held
    → IfSome known (λ h. bytes ≡ bytes_of h file) → bytes ≡ bytes_of held file
known_bytes known held file bytes e are = if_known known held (λ h. bytes ≡ bytes_of h file) e are

longer : (xs : List ℕ) (x : ℕ) → xs ++ x ∷ [] ≡ xs → ⊥
longer [] x e = cc
longer (y ∷ ys) x e = let rest : ys ++ x ∷ [] ≡ ys = cc in longer ys x rest

-- the same text differs nowhere
no_difference : (bytes wanted : List ℕ) (line : ℕ) (text : List ℕ) → bytes ≡ wanted
    → IsFirstDifference bytes wanted line text → ⊥
no_difference bytes wanted line text same d = d.differs (ap (λ b. slice_get (pieces b) d.before) same)

-- ---- endings

-- it is a good one, or memory ran out
abbrev IsWell : Status → Type 0
IsWell status = (status ≡ ends_with.Done) ⊎ (status ≡ ends_with.Memory)

-- a front is put where the sink failed, or memory ran out
front_well : {bytes : List ℕ} {old new : World} {status : Status} → (HasRisen old.count new.count → ⊥)
    → PutsFront bytes old new status → IsWell status
front_well sink (put_failed front proper wrote risen) = absurd (sink risen)
front_well sink (put_in_part front proper wrote) = inr refl
front_well sink (not_put wrote) = inr refl

puts_well : {bytes : List ℕ} {ended status : Status} {old new : World} → IsWell ended
    → (HasRisen old.count new.count → ⊥) → Puts bytes ended old new status → IsWell status
puts_well well sink (put_whole wrote) = well
puts_well well sink (put_front front) = front_well sink front

module _ (old new : World) (sink : HasRisen old.count new.count → ⊥) where
  -- ---- what is played

  -- lines after which nothing more is put
  lines_well : (S : Type 0) (Plays : Point S → List ℕ → List ℕ → Point S → Type 0)
      (Breaks : Point S → List ℕ → Point S → Type 0) (start : S) (lines : List (List ℕ)) (status : Status)
      → IsPlayed S Plays Breaks JustEnds start lines old new status → IsWell status
  lines_well S Plays Breaks start lines status
      (is_played first left texts last split runs (closes t text ended (none, is_done, same) puts)) =
      puts_well (inl is_done) sink puts
  lines_well S Plays Breaks start lines status
      (is_played first left texts last split runs (puts_front t text played front)) =
      front_well sink front
  lines_well S Plays Breaks start lines status
      (is_played first left texts last split runs (breaks t broken wrote)) = inr refl
  lines_well S Plays Breaks start lines status (no_room_to_begin same) = inr refl

  edit_well : (def : Definition) (lines : List (List ℕ)) (status : Status) → Edits def lines old new status
      → IsWell status
  edit_well def lines status run = lines_well Editor (IsReplied def) (BreaksOff def) new_editor lines status run

  windows_well : (def : Definition) (lines : List (List ℕ)) (status : Status) → PlaysWindows def lines old new status
      → IsWell status
  windows_well def lines status run = lines_well Windowed (IsPlayedFor def) (BreaksFor def) new_windows lines status run

  gen_well : (def : Definition) (number : ℕ) (status : Status) → Generates def number old new status → IsWell status
  gen_well def number status
      (is_played first left texts last split runs (closes t text ended (tells lines five) puts)) =
      puts_well (inl refl) sink puts
  gen_well def number status (is_played first left texts last split runs (closes t text ended no_room_to_tell puts)) =
      puts_well (inr refl) sink puts
  gen_well def number status (is_played first left texts last split runs (puts_front t text played front)) =
      front_well sink front
  gen_well def number status (is_played first left texts last split runs (breaks t broken wrote)) = inr refl
  gen_well def number status (no_room_to_begin same) = inr refl

  arranges_well : (def : Definition) (by : Layout) (columns : ℕ) (lines : List (List ℕ)) (status : Status)
      → Arranges def by columns lines old new status → IsWell status
  arranges_well def by columns lines status
      (is_played first left texts last split runs (closes t text ended tells_arranged puts)) =
      puts_well (inl refl) sink puts
  arranges_well def by columns lines status
      (is_played first left texts last split runs (closes t text ended no_room_to_arrange puts)) =
      puts_well (inr refl) sink puts
  arranges_well def by columns lines status
      (is_played first left texts last split runs (puts_front t text played front)) =
      front_well sink front
  arranges_well def by columns lines status (is_played first left texts last split runs (breaks t broken wrote)) = inr refl
  arranges_well def by columns lines status (no_room_to_begin same) = inr refl

  exports_well : (def : Definition) (file : Name) (lines : List (List ℕ)) (status : Status)
      → Exports def file lines old new status → IsWell status
  exports_well def file lines status
      (is_played first left texts last split runs (closes t text ended (tells_export told after export) puts)) =
      puts_well (inl refl) sink puts
  exports_well def file lines status
      (is_played first left texts last split runs (closes t text ended no_room_to_export puts)) =
      puts_well (inr refl) sink puts
  exports_well def file lines status (is_played first left texts last split runs (puts_front t text played front)) =
      front_well sink front
  exports_well def file lines status (is_played first left texts last split runs (breaks t broken wrote)) = inr refl
  exports_well def file lines status (no_room_to_begin same) = inr refl

  explains_well : (def : Definition) (lines : List (List ℕ)) (status : Status) → Explains def lines old new status
      → IsWell status
  explains_well def lines status
      (is_played first left texts last split runs (closes t text ended (tells_why told ticks said few) puts)) =
      puts_well (inl refl) sink puts
  explains_well def lines status
      (is_played first left texts last split runs (closes t text ended (no_room_to_explain ticks few) puts)) =
      puts_well (inr refl) sink puts
  explains_well def lines status (is_played first left texts last split runs (puts_front t text played front)) =
      front_well sink front
  explains_well def lines status (is_played first left texts last split runs (breaks t broken wrote)) = inr refl
  explains_well def lines status (no_room_to_begin same) = inr refl

  -- no line that was given is missed
  none_missed : (write : Reply → List ℕ) (def : Definition) {s t : Point Editor} {pieces : List (List ℕ)}
      {texts : List ℕ} → Runs Editor (IsRepliedLiveBy def write) s pieces texts t → t.input.missed ≡ s.input.missed
  none_missed write def rests = refl
  none_missed write def (goes mid text texts (input, gives, runs) more) =
      none_missed write def more ∙ ap (λ (x : Incoming). x.missed) (input_kept def write runs) ∙ gives.missed

  -- the input ended
  input_well : (before last : Incoming) (ended status : Status) {bytes : List ℕ} {from : World} → from.count ≡ old.count
      → from.input ≡ last → before.missed ≡ old.input.missed → new.input.missed ≡ old.input.missed
      → EndsInput before last ended → Puts bytes ended from new status → IsWell status
  input_well before last ended status counts is same missed (is_at_end at_end given kept) puts =
      puts_well (inl refl) (λ risen. sink (subst (λ n. HasRisen n new.count) counts risen)) puts
  input_well before last ended status counts is same missed (is_unread_line given entry) (put_whole wrote) =
      let now : new.input.missed ≡ last.missed = ap (λ (x : Incoming). x.missed) (wrote.input ∙ is) in
      absurd (longer before.missed before.given (sym entry ∙ sym now ∙ missed ∙ sym same))
  input_well before last ended status counts is same missed (is_unread_line given entry) (put_front front) =
      front_well (λ risen. sink (subst (λ n. HasRisen n new.count) counts risen)) front
  input_well before last ended status counts is same missed (no_room_for_line given kept) puts =
      puts_well (inr refl) (λ risen. sink (subst (λ n. HasRisen n new.count) counts risen)) puts

  live_well : (write : Reply → List ℕ) (def : Definition) (status : Status) → new.input.missed ≡ old.input.missed
      → TalksBy write def old new status → IsWell status
  live_well write def status missed
      (pieces, is_played first left texts last split runs (closes t text ended (none, at_end, same) puts)) =
      input_well last.input t.input ended status refl refl (none_missed write def runs) missed at_end puts
  live_well write def status missed
      (pieces, is_played first left texts last split runs (puts_front t text played front)) =
      front_well sink front
  live_well write def status missed (pieces, is_played first left texts last split runs (breaks t broken wrote)) =
      inr refl
  live_well write def status missed (pieces, no_room_to_begin same) = inr refl

  -- ---- what is read

  defines_well : (bytes : List ℕ) (def : Definition) (Next : Definition → Act) (status : Status) → IsAccepted bytes def
      → ((other : Definition) (status : Status) → Next other old new status → IsWell status)
      → Defines bytes Next old new status → IsWell status
  defines_well bytes def Next status accepted next (is_accepted other other_accepted on) = next other status on
  defines_well bytes def Next status accepted next (is_refused line refusal puts) =
      absurd (not_refused bytes line def accepted refusal)
  defines_well bytes def Next status accepted next (no_room_for_definition same) = inr refl

  reads_well : (held : Held) (file : Name) (limit : ℕ) (Next : List ℕ → Act) (status : Status)
      → old.files.held ≡ Some held → length (bytes_of held file) ≤ limit → WasRead old new file
      → ((status : Status) → Next (bytes_of held file) old new status → IsWell status)
      → Reads file limit Next old new status → IsWell status
  reads_well held file limit Next status known short was next (is_read bytes are within on) =
      next status (subst (λ b. Next b old new status) (known_bytes old.files.held held file bytes known are) on)
  reads_well held file limit Next status known short was next (is_unread same) = absurd (was same)
  reads_well held file limit Next status known short was next (is_long bytes are long same) =
      let more : limit < length (bytes_of held file) =
      subst (λ b. limit < length b) (known_bytes old.files.held held file bytes known are) long in
      absurd (omega (arith, short, more))
  reads_well held file limit Next status known short was next (no_room_for_file same) = inr refl

  -- the definition's file is read, and the run goes on
  file_well : (file : Name) (Next : Definition → Act) (status : Status) → HasDefinition old file → WasRead old new file
      → ((other : Definition) (status : Status) → Next other old new status → IsWell status)
      → Reads file most_definition_bytes (λ bytes. Defines bytes Next) old new status → IsWell status
  file_well file Next status has was next run =
      reads_well has.held file most_definition_bytes (λ bytes. Defines bytes Next) status has.known has.short was
      (λ ended on. defines_well (bytes_of has.held file) has.def Next ended has.accepted next on) run

  lays_well : (def : Definition) (bytes : List ℕ) (Next : Layout → Act) (status : Status)
      → ((line code : ℕ) → LayoutRefusal def bytes line code → ⊥)
      → ((by : Layout) (status : Status) → Next by old new status → IsWell status)
      → ReadsLayout def bytes Next old new status → IsWell status
  lays_well def bytes Next status faultless next (is_layout by read on) = next by status on
  lays_well def bytes Next status faultless next (is_bad_line line code refusal puts) =
      absurd (faultless line code refusal)
  lays_well def bytes Next status faultless next (no_room_for_layout same) = inr refl

  -- the layout's file is read, and the lines are played
  layout_well : (definition file : Name) (def : Definition) (columns : ℕ) (lines : List (List ℕ)) (status : Status)
      → (has : HasLayout old definition file) → IsAccepted (bytes_of has.held definition) def → WasRead old new file
      → ArrangesBy def file columns lines old new status → IsWell status
  layout_well definition file def columns lines status has accepted was run =
      reads_well has.held file most_layout_bytes
      (λ bytes. ReadsLayout def bytes (λ by. Arranges def by columns lines)) status has.known has.short was
      (λ ended on. lays_well def (bytes_of has.held file) (λ by. Arranges def by columns lines) ended
      (has.faultless def accepted) (λ by status told. arranges_well def by columns lines status told) on) run

  script_well : (script : Name) (Next : List (List ℕ) → Act) (status : Status) → IsShort old script most_script_bytes
      → WasRead old new script → ((lines : List (List ℕ)) (ended : Status) → Next lines old new ended → IsWell ended)
      → Reads script most_script_bytes (λ bytes. Next (script_lines bytes)) old new status → IsWell status
  script_well script Next status short was next run =
      reads_well short.held script most_script_bytes (λ bytes. Next (script_lines bytes)) status short.known short.short
      was (λ ended on. next (script_lines (bytes_of short.held script)) ended on) run

  -- ---- a program file

  told_well : (def : Definition) (comment : Option Name) (name program : Name) (bytes : List ℕ) (comments : List Comment)
      (own : List ℕ) (checks : Bool) → IsRight def comment name bytes checks
      → IsWithout (fixed_words def) comment bytes comments own
      → (kind : Kind) → kind_name_of def kind ≡ Some name → (text : List ℕ) (done : Status)
      → IsTold def comment program kind bytes comments own checks text done → IsWell done
  told_well def comment name program bytes comments own false right without kind named text end
      (is_formatted f wanted read is) = inl refl
  told_well def comment name program bytes comments own false right without kind named text end
      (is_faulty line column message faulty) =
      absurd (right.faultless kind named comments own without line column message faulty)
  told_well def comment name program bytes comments own true right without kind named text end
      (is_as_it_is_to_be f read same) = inl refl
  told_well def comment name program bytes comments own true right without kind named text end
      (is_not_formatted f wanted line here read is differs) =
      absurd (no_difference bytes wanted line here
      (right.is_formatted refl kind named comments own without f wanted read is) differs)
  told_well def comment name program bytes comments own true right without kind named text end
      (is_no_program line column message faulty) =
      absurd (right.faultless kind named comments own without line column message faulty)

  tells_well : (def : Definition) (comment : Option Name) (name program : Name) (bytes : List ℕ) (comments : List Comment)
      (own : List ℕ) (checks : Bool) → IsRight def comment name bytes checks
      → IsWithout (fixed_words def) comment bytes comments own
      → (kind : Kind) → kind_name_of def kind ≡ Some name → (status : Status)
      → TellsProgram def own (IsTold def comment program kind bytes comments own checks) old new status → IsWell status
  tells_well def comment name program bytes comments own checks right without kind named status
      (tells_program ticks text end counted told puts) =
      puts_well (told_well def comment name program bytes comments own checks right without kind named text end told) sink
      puts
  tells_well def comment name program bytes comments own checks right without kind named status
      (no_room_for_program ticks counted same) = inr refl

  formats_file_well : (checks : Bool) (def : Definition) (comment : Option Name) (name program : Name) (bytes : List ℕ)
      → IsRight def comment name bytes checks → (kind : Kind) → kind_name_of def kind ≡ Some name → (status : Status)
      → FormatsFile checks def comment program kind bytes old new status → IsWell status
  formats_file_well checks def comment name program bytes right kind named status (formats_file comments own without told) =
      tells_well def comment name program bytes comments own checks right without kind named status told
  formats_file_well checks def comment name program bytes right kind named status (no_room_to_format same) = inr refl

  lint_told_well : (def : Definition) (comment : Option Name) (name program : Name) (bytes : List ℕ)
      (comments : List Comment) (own : List ℕ) → IsFaultless def comment name bytes
      → IsWithout (fixed_words def) comment bytes comments own
      → (kind : Kind) → kind_name_of def kind ≡ Some name → (text : List ℕ) (done : Status)
      → IsLint def program kind own text done → IsWell done
  lint_told_well def comment name program bytes comments own right without kind named text end told =
      inl (told.done_is ∙ ap (λ (b : Bool). cond b ends_with.Wrong ends_with.Done)
      (right.faultless kind named comments own without told.text told.limited told.found told.more told.report))

  tells_lint_well : (def : Definition) (comment : Option Name) (name program : Name) (bytes : List ℕ)
      (comments : List Comment) (own : List ℕ) → IsFaultless def comment name bytes
      → IsWithout (fixed_words def) comment bytes comments own
      → (kind : Kind) → kind_name_of def kind ≡ Some name → (status : Status)
      → TellsLint def program kind own old new status → IsWell status
  tells_lint_well def comment name program bytes comments own right without kind named status (tells_lint ticks text end told puts) =
      puts_well (lint_told_well def comment name program bytes comments own right without kind named text end told) sink puts
  tells_lint_well def comment name program bytes comments own right without kind named status (no_room_for_lint ticks same) =
      inr refl

  lints_file_well : (def : Definition) (comment : Option Name) (name program : Name) (bytes : List ℕ)
      → IsFaultless def comment name bytes → (kind : Kind) → kind_name_of def kind ≡ Some name → (status : Status)
      → LintsFile def comment program kind bytes old new status → IsWell status
  lints_file_well def comment name program bytes right kind named status (lints_file comments own without told) =
      tells_lint_well def comment name program bytes comments own right without kind named status told
  lints_file_well def comment name program bytes right kind named status (no_room_without same) = inr refl

  lints_well : (comment : Option Name) (name program : Name) (def : Definition) (held : Held)
      → old.files.held ≡ Some held → length (bytes_of held program) ≤ most_program_bytes
      → IsFaultless def comment name (bytes_of held program) → WasRead old new program → (status : Status)
      → Lints def comment name program old new status → IsWell status
  lints_well comment name program def held known short right was status (is_kind kind named quiet on) =
      reads_well held program most_program_bytes (LintsFile def comment program kind) status known short was
      (λ ended told. lints_file_well def comment name program (bytes_of held program) right kind named ended told) on
  lints_well comment name program def held known short right was status (is_unknown none puts) =
      absurd (right.some_kind none)
  lints_well comment name program def held known short right was status (is_declaring kind named declares puts) =
      absurd (right.quiet kind named declares)

  formats_well : (checks : Bool) (comment : Option Name) (name program : Name) (def : Definition) (held : Held)
      → old.files.held ≡ Some held → length (bytes_of held program) ≤ most_program_bytes
      → IsRight def comment name (bytes_of held program) checks → WasRead old new program → (status : Status)
      → Formats checks def comment name program old new status → IsWell status
  formats_well checks comment name program def held known short right was status (is_kind kind named quiet on) =
      reads_well held program most_program_bytes (FormatsFile checks def comment program kind) status known short was
      (λ ended told. formats_file_well checks def comment name program (bytes_of held program) right kind named ended
      told) on
  formats_well checks comment name program def held known short right was status (is_unknown none puts) =
      absurd (right.some_kind none)
  formats_well checks comment name program def held known short right was status (is_declaring kind named declares puts) =
      absurd (right.quiet kind named declares)

-- what is known of the files is one thing
one_held : (known : Option Held) (one other : Held) → known ≡ Some one → known ≡ Some other → one ≡ other
one_held known one other e f = let both : Some one ≡ Some other = sym e ∙ f in cc

module _ (old new : World) (sink : HasRisen old.count new.count → ⊥) where
  -- the definition is one, the script's file and the layout's are read, and the lines are played
  arranged_well : (d s l : Name) (columns : ℕ) (has : HasDefinition old d) → IsShort old s most_script_bytes
      → HasLayout old d l → WasRead old new s → WasRead old new l → (status : Status)
      → Defines (bytes_of has.held d)
      (λ def. Reads s most_script_bytes (λ text. ArrangesBy def l columns (script_lines text))) old new status
      → IsWell status
  arranged_well d s l columns has short lay was_script was_lay status (is_accepted def accepted on) =
      let here : IsAccepted (bytes_of lay.held d) def =
      subst (λ (h : Held). IsAccepted (bytes_of h d) def) (one_held old.files.held has.held lay.held has.known lay.known)
      accepted in
      reads_well old new sink short.held s most_script_bytes (λ text. ArrangesBy def l columns (script_lines text)) status
      short.known short.short was_script
      (λ ended told. layout_well old new sink d l def columns (script_lines (bytes_of short.held s)) ended lay here was_lay
      told) on
  arranged_well d s l columns has short lay was_script was_lay status (is_refused line refusal puts) =
      absurd (not_refused (bytes_of has.held d) line has.def has.accepted refusal)
  arranged_well d s l columns has short lay was_script was_lay status (no_room_for_definition same) = inr refl

  -- the definition is one, and the program's file is read
  formatted_well : (checks : Bool) (d k p : Name) (has : HasDefinition old d) (program : HasProgram old d k p checks)
      → WasRead old new p → (status : Status)
      → Defines (bytes_of has.held d) (λ def. Formats checks def (comment_of (bytes_of has.held d)) k p) old new status
      → IsWell status
  formatted_well checks d k p has program was status (is_accepted def accepted on) =
      let same : has.held ≡ program.held = one_held old.files.held has.held program.held has.known program.known in
      let here : IsAccepted (bytes_of program.held d) def =
      subst (λ (h : Held). IsAccepted (bytes_of h d) def) same accepted in
      let comment : comment_of (bytes_of program.held d) ≡ comment_of (bytes_of has.held d) =
      ap (λ (h : Held). comment_of (bytes_of h d)) (sym same) in
      formats_well old new sink checks (comment_of (bytes_of has.held d)) k p def program.held program.known program.short
      (subst (λ c. IsRight def c k (bytes_of program.held p) checks) comment (program.right def here)) was status on
  formatted_well checks d k p has program was status (is_refused line refusal puts) =
      absurd (not_refused (bytes_of has.held d) line has.def has.accepted refusal)
  formatted_well checks d k p has program was status (no_room_for_definition same) = inr refl

  -- the definition is one, and the program's file is read
  linted_well : (d k p : Name) (has : HasDefinition old d) (program : HasFaultless old d k p) → WasRead old new p
      → (status : Status)
      → Defines (bytes_of has.held d) (λ def. Lints def (comment_of (bytes_of has.held d)) k p) old new status
      → IsWell status
  linted_well d k p has program was status (is_accepted def accepted on) =
      let same : has.held ≡ program.held = one_held old.files.held has.held program.held has.known program.known in
      let here : IsAccepted (bytes_of program.held d) def =
      subst (λ (h : Held). IsAccepted (bytes_of h d) def) same accepted in
      let comment : comment_of (bytes_of program.held d) ≡ comment_of (bytes_of has.held d) =
      ap (λ (h : Held). comment_of (bytes_of h d)) (sym same) in
      lints_well old new sink (comment_of (bytes_of has.held d)) k p def program.held program.known program.short
      (subst (λ c. IsFaultless def c k (bytes_of program.held p)) comment (program.right def here)) was status on
  linted_well d k p has program was status (is_refused line refusal puts) =
      absurd (not_refused (bytes_of has.held d) line has.def has.accepted refusal)
  linted_well d k p has program was status (no_room_for_definition same) = inr refl

  -- the language is that of definitions, the script's file is read, and the lines are played
  self_well : (s file : Name) (def : Definition) → IsAccepted SELF.now def → IsSelf def → IsShort old s most_script_bytes
      → WasRead old new s → (status : Status)
      → Defines SELF.now
      (λ other. GoesOnAsSelf other (Reads s most_script_bytes (λ bytes. Exports other file (script_lines bytes)))) old new
      status → IsWell status
  self_well s file def accepted is short was status (is_accepted other read (is_itself own on)) =
      script_well old new sink s (Exports other file) status short was (exports_well old new sink other file) on
  self_well s file def accepted is short was status (is_accepted other read (is_other never puts)) =
      absurd (never (subst IsSelf (sym (one_accepted SELF.now def other accepted read)) is))
  self_well s file def accepted is short was status (is_refused line refusal puts) =
      absurd (not_refused SELF.now line def accepted refusal)
  self_well s file def accepted is short was status (no_room_for_definition same) = inr refl

pub has_ended_well : EndsWell
has_ended_well (check d) old new status run (has, was, sink) =
    file_well old new sink d (λ def. Puts (feed (codes "accepted")) ends_with.Done) status has was
    (λ def ended puts. puts_well (inl refl) sink puts) run
has_ended_well (edit d s) old new status run ((has, was, short, was_script), sink) =
    file_well old new sink d (λ def. Reads s most_script_bytes (λ bytes. Edits def (script_lines bytes))) status has was
    (λ def ended on. script_well old new sink s (Edits def) ended short was_script (edit_well old new sink def) on) run
has_ended_well (windows d s) old new status run ((has, was, short, was_script), sink) =
    file_well old new sink d (λ def. Reads s most_script_bytes (λ bytes. PlaysWindows def (script_lines bytes))) status
    has was (λ def ended on. script_well old new sink s (PlaysWindows def) ended short was_script
    (windows_well old new sink def) on) run
has_ended_well (explain d s) old new status run ((has, was, short, was_script), sink) =
    file_well old new sink d (λ def. Reads s most_script_bytes (λ bytes. Explains def (script_lines bytes))) status
    has was (λ def ended on. script_well old new sink s (Explains def) ended short was_script
    (explains_well old new sink def) on) run
has_ended_well (live d) old new status run (has, was, missed, sink) =
    file_well old new sink d Talks status has was
    (λ def ended on. live_well old new sink reply_text def ended missed on) run
has_ended_well (framed d) old new status run (has, was, missed, sink) =
    file_well old new sink d (TalksBy framed_text) status has was
    (λ def ended on. live_well old new sink framed_text def ended missed on) run
has_ended_well (gen number) old new status run ((def, accepted), sink) =
    defines_well old new sink MINI.now def (λ other. Generates other number) status accepted
    (λ other ended on. gen_well old new sink other number ended on) run
has_ended_well (layout d s l columns) old new status run ((has, was, short, was_script), lay, was_lay, sink) =
    reads_well old new sink has.held d most_definition_bytes
    (λ bytes. Defines bytes (λ def. Reads s most_script_bytes (λ text. ArrangesBy def l columns (script_lines text))))
    status has.known has.short was
    (λ ended on. arranged_well old new sink d s l columns has short lay was_script was_lay ended on) run
has_ended_well (itself s file) old new status run ((def, accepted, is), short, was, sink) =
    self_well old new sink s file def accepted is short was status run
has_ended_well (format d k p) old new status run (has, was, program, was_program, sink) =
    reads_well old new sink has.held d most_definition_bytes
    (λ bytes. Defines bytes (λ def. Formats false def (comment_of bytes) k p)) status has.known has.short was (λ ended on. formatted_well old new sink false d k p has program was_program ended on) run
has_ended_well (check_format d k p) old new status run (has, was, program, was_program, sink) =
    reads_well old new sink has.held d most_definition_bytes
    (λ bytes. Defines bytes (λ def. Formats true def (comment_of bytes) k p)) status has.known has.short was (λ ended on. formatted_well old new sink true d k p has program was_program ended on) run
has_ended_well (lint d k p) old new status run (has, was, program, was_program, sink) =
    reads_well old new sink has.held d most_definition_bytes
    (λ bytes. Defines bytes (λ def. Lints def (comment_of bytes) k p)) status
    has.known has.short was (λ ended on. linted_well old new sink d k p has program was_program ended on) run
