-- Two runs of `layout` over the same files write the same; and so with each form that plays a script.
use Rattle.std.proofs.Common.{◌≡◌, ℕ, ◌≤◌, List, length, Some, refl, sym, ◌∙◌, ap, subst}
use Rattle.std.specs.Io.KnownBytes.{append_known}
use Rattle.psg_terms.specs.Names.{Name}
use Rattle.psg_class.specs.Class.{IsClass}
use Rattle.psg_grammar.specs.declared.types.Definition.{Definition}
use Rattle.psg_grammar.specs.Sound.{IsSound}
use Rattle.psg_layout.specs.declared.layout.Layout.{Layout}
use Rattle.psg_session.specs.Exchanges.{Outside}
use Rattle.psg_session.specs.PlainState.{State}
use Rattle.psg_session.specs.Replies.{feed}
use Rattle.psg_world.specs.Files.{Held, bytes_of}
use Rattle.psg_run.specs.declared.status.Status.TheVariants as ends_with
use Rattle.psg_run.specs.Arranging.{ArrangesBy, Arranges, IsReadLayout, ReadsLayout, arranged_text, is_bad_line, is_layout}
use Rattle.psg_run.specs.Outputs.{HasOneRun, HasOneRunOf}
use Rattle.psg_run.specs.Promise.{IsRunOf, layout}
use Rattle.psg_run.specs.Reading.{IsAccepted}
use Rattle.psg_run.specs.Scripts.{script_lines}
use Rattle.psg_run.specs.Worlds.{Puts, World, put_front}
use Rattle.psg_run.proofs.ArrangedRuns.{HasArranged, has_arranged}
use Rattle.psg_run.proofs.EndingWell.{known_bytes, one_accepted}
use Rattle.psg_run.proofs.OneRun.{edits_alike, no_front, runs_alike, same_long, was_accepted, was_read}
use Rattle.psg_run.proofs.WindowRuns.{windowed_alike}

no_layout_put : {bytes : List ℕ} {old new : World} → Puts bytes ends_with.LayoutRefused old new ends_with.Done → ⊥
no_layout_put (put_front front) = no_front front

was_layout : {def : Definition} {columns : ℕ} {bytes : List ℕ} {lines : List (List ℕ)} {old new : World}
    → ReadsLayout def bytes (λ by. Arranges def by columns lines) old new ends_with.Done
    → (by : Layout) × IsReadLayout def bytes by × HasArranged def by columns lines old new
was_layout {def = def} {columns = columns} {lines = lines} {old = old} {new = new} (is_layout by read on) =
    (by, read, has_arranged def by columns old new lines on)
was_layout (is_bad_line line code refusal puts) = absurd (no_layout_put puts)

module _ (def : Definition) (definition script rules : Name) (columns : ℕ) (held : Held)
    (accepted : IsAccepted (bytes_of held definition) def) where
  abbrev IsArranged : World → World → Layout → Type 0
  IsArranged old new by =
      IsReadLayout def (bytes_of held rules) by
      × HasArranged def by columns (script_lines (bytes_of held script)) old new

  was_arranged : (old new : World) → old.files.held ≡ Some held
      → IsRunOf (layout definition script rules columns) old new ends_with.Done → (by : Layout) × IsArranged old new by
  was_arranged old new known run =
      let (text, are, defines) = was_read run in
      let (other, other_accepted, reads) = was_accepted defines in
      let (bytes, are_script, arranges) = was_read reads in
      let is_text : text ≡ bytes_of held definition = known_bytes old.files.held held definition text known are in
      let is_script : bytes ≡ bytes_of held script = known_bytes old.files.held held script bytes known are_script in
      let same : other ≡ def =
      one_accepted (bytes_of held definition) def other accepted
      (subst (λ b. IsAccepted b other) is_text other_accepted) in
      let here : ArrangesBy def rules columns (script_lines (bytes_of held script)) old new ends_with.Done =
      subst (λ b. ArrangesBy def rules columns (script_lines b) old new ends_with.Done) is_script
      (subst (λ (x : Definition). ArrangesBy x rules columns (script_lines bytes) old new ends_with.Done) same arranges) in
      let (lay, are_rules, laid) = was_read here in
      let is_rules : lay ≡ bytes_of held rules = known_bytes old.files.held held rules lay known are_rules in
      let (by, read, has) = was_layout laid in
      (by, (subst (λ b. IsReadLayout def b by) is_rules read, has))

  no_entries : (old new : World) (by : Layout) (h : HasArranged def by columns (script_lines (bytes_of held script)) old new)
      → new.files.entries ≡ old.files.entries → length h.last.files.entries ≤ length old.files.entries
  no_entries old new by h kept =
      same_long h.last.files.entries old.files.entries (sym (sym (ap (λ (x : Outside). x.entries) h.files) ∙ kept))

layouts_alike : (def : Definition) → IsSound def → IsClass def → (definition script rules : Name) (columns : ℕ)
    → HasOneRunOf def (layout definition script rules columns) definition
layouts_alike def sound is_class definition script rules columns held old new old' new' accepted run run' known known' kept kept' =
    let (by, (read, one)) = was_arranged def definition script rules columns held accepted old new known run in
    let (by', (read', other)) = was_arranged def definition script rules columns held accepted old' new' known' run' in
    let both = runs_alike def sound is_class held one.runs other.runs refl known known'
    (no_entries def definition script rules columns held accepted old new by one kept)
    (no_entries def definition script rules columns held accepted old' new' by' other kept') in
    let same : by' ≡ by = read.only by' read'.spelled in (
      feed (arranged_text def by columns one.last.state.state.opened),
      one.wrote,
      other.wrote
          ∙ ap (λ (x : Layout). append_known old'.written (feed (arranged_text def x columns other.last.state.state.opened))) same
          ∙ ap (λ (x : State). append_known old'.written (feed (arranged_text def by columns x.opened))) both.2,
      ap (λ (x : Outside). x.held) other.files ∙ both.1 ∙ sym (ap (λ (x : Outside). x.held) one.files),
    )

pub has_one_run : (def : Definition) → IsSound def → IsClass def → HasOneRun def
has_one_run def sound is_class = record {
  edits = edits_alike def sound is_class;
  windowed = windowed_alike def sound is_class;
  layouts = layouts_alike def sound is_class;
}
