-- What `layout` reads and prints: a layout of the definition's operators, and the opened fragment arranged by it.
use Rattle.std.specs.Prelude.{ℕ, ◌≡◌, List, [], Option, Some, None, codes}
use Rattle.psg_terms.specs.Names.{Name}
use Rattle.psg_grammar.specs.declared.types.Definition.{Definition}
use Rattle.psg_layout.specs.declared.layout.Layout.{Layout}
use Rattle.psg_layout.specs.Arranged.{arranged_in}
use Rattle.psg_layout.specs.Layouts.{IsLayoutOf, LayoutRefusal, refusal_line}
use Rattle.psg_session.specs.PlainState.{Opened}
use Rattle.psg_session.specs.Replies.{feed}
use Rattle.psg_run.specs.declared.status.Status.{Status}
use Rattle.psg_run.specs.declared.status.Status.TheVariants as ends_with
use Rattle.psg_run.specs.Chain.{IsPlayed, Point}
use Rattle.psg_run.specs.Editing.{BreaksOff, Editor, IsSilent, new_editor}
use Rattle.psg_run.specs.Reading.{Reads}
use Rattle.psg_run.specs.Worlds.{Act, Puts, World}

-- the most bytes that a layout may have
abbrev pub most_layout_bytes : ℕ
most_layout_bytes = 65536

-- the greatest number of columns
abbrev pub most_columns : ℕ
most_columns = 400

module _ (def : Definition) where
  -- The bytes spell the layout and no other one, and no line of them is refused.
  pub record IsReadLayout (bytes : List ℕ) (layout : Layout) : Type 0 where
    pub spelled : IsLayoutOf def bytes layout
    pub only : (other : Layout) → IsLayoutOf def bytes other → other ≡ layout
    pub faultless : (line code : ℕ) → LayoutRefusal def bytes line code → ⊥

  module _ (bytes : List ℕ) (Next : Layout → Act) where
    -- The bytes are a layout, and the run goes on with it. Or it ends here: a line of them is refused, and the line
    -- that names it is put; or memory ran out, and nothing else happened.
    pub data ReadsLayout (old new : World) : Status → Type 0 where
      is_layout : {status : Status} (layout : Layout) → IsReadLayout bytes layout → Next layout old new status
          → ReadsLayout old new status
      is_bad_line : {status : Status} (line code : ℕ) → LayoutRefusal def bytes line code
          → Puts (feed (refusal_line line code)) ends_with.LayoutRefused old new status → ReadsLayout old new status
      no_room_for_layout : new ≡ old → ReadsLayout old new ends_with.Memory

  module _ (layout : Layout) (columns : ℕ) where
    -- the opened fragment, arranged by the layout for that many columns; the word `none`, if nothing is opened
    abbrev pub arranged_text : Option Opened → List ℕ
    arranged_text None = codes "none"
    arranged_text (Some old) = (arranged_in def layout columns old.tree).text

    -- the arranged text is put, with a line feed; or there is no memory for it
    pub data TellsArranged (s : Point Editor) : List ℕ → Status → Point Editor → Type 0 where
      tells_arranged : TellsArranged s (feed (arranged_text s.state.state.opened)) ends_with.Done s
      no_room_to_arrange : TellsArranged s [] ends_with.Memory s

    -- the lines are played in silence, and what is opened then is put, arranged
    abbrev pub Arranges : List (List ℕ) → Act
    Arranges lines = IsPlayed Editor (IsSilent def) (BreaksOff def) TellsArranged new_editor lines

  -- the file of a layout is read before any of the lines is played
  abbrev pub ArrangesBy : Name → ℕ → List (List ℕ) → Act
  ArrangesBy rules columns lines =
      Reads rules most_layout_bytes (λ bytes. ReadsLayout bytes (λ layout. Arranges layout columns lines))
