-- Lines of windows are commands of the plain editor, one after the other.
use Rattle.std.proofs.Common.{◌≡◌, ℕ, List, [], ◌∷◌, ◌++◌, Option, refl, sym, ◌∙◌, ap, subst}
use Rattle.psg_grammar.specs.declared.types.Definition.{Definition}
use Rattle.psg_session.specs.Replies.{Reply}
use Rattle.psg_run.specs.Chain.{Point, Runs, rests, goes}
use Rattle.psg_run.specs.Windowed.{AnswersFor, IsPlayedFor, Windowed, text_for, to_none, to_window}
use Rattle.psg_run.specs.WindowLaws.{AreApplied, AreOfLines, DoneCommand, WindowsArePlain, no_line, none_applied}
use Rattle.psg_run.specs.WindowLaws.{one_applied, refused_line, window_line}

module _ (def : Definition) where
  -- what the plain editor did at the lines
  abbrev pub HasDone : Point Windowed → List (List ℕ) → List ℕ → Point Windowed → Type 0
  HasDone s lines texts t =
      (all : List DoneCommand) × AreApplied def s.state.state s.files s.ticks all t.state.state t.files t.ticks
      × AreOfLines s.state.cursors lines all texts t.state.cursors × (t.input ≡ s.input)

  one_more : (s mid t : Point Windowed) (line text : List ℕ) (lines : List (List ℕ)) (texts : List ℕ)
      {window : Option ℕ} {reply : Reply} → AnswersFor def s line mid window reply → text ≡ text_for window reply
      → HasDone mid lines texts t → HasDone s (line ∷ lines) (text ++ texts) t
  one_more s mid t line text lines texts (to_none none same) put (all, applied, of, input) = (
    all,
    subst (λ (p : Point Windowed). AreApplied def p.state.state p.files p.ticks all t.state.state t.files t.ticks) same
        applied,
    subst (λ x. AreOfLines s.state.cursors (line ∷ lines) all (x ++ texts) t.state.cursors) (sym put)
        (refused_line texts none
        (subst (λ (p : Point Windowed). AreOfLines p.state.cursors lines all texts t.state.cursors) same of)),
    input ∙ ap (λ (p : Point Windowed). p.input) same,
  )
  one_more s mid t line text lines texts (to_window w command reply is does moves same) put (all, applied, of, input) =
      let one : DoneCommand = record { command = command; reply = reply; cursor = mid.state.state.cursor } in (
        one ∷ all,
        one_applied mid.state.state mid.files mid.ticks command reply does applied,
        subst (λ x. AreOfLines s.state.cursors (line ∷ lines) (one ∷ all) (x ++ texts) t.state.cursors) (sym put)
            (window_line w one texts is (subst (λ cs. AreOfLines cs lines all texts t.state.cursors) moves of)),
        input ∙ same,
      )

  have_done : (s t : Point Windowed) (lines : List (List ℕ)) (texts : List ℕ)
      → Runs Windowed (IsPlayedFor def) s lines texts t → HasDone s lines texts t
  have_done s t [] texts rests = ([], none_applied, no_line, refl)
  have_done s t (line ∷ lines) whole (goes mid text texts plays more) =
      one_more s mid t line text lines texts plays.answers plays.put (have_done mid t lines texts more)

  pub windows_plain : WindowsArePlain def
  windows_plain s t lines texts runs = have_done s t lines texts runs
