-- How a node is written that is met.
use Rattle.std.proofs.Common.{◌≡◌, ℕ, ◌+◌, ◌&&◌, Bool, true, false, cond, ◌++◌, Option, Some, None, refl, ap, ap₂, subst, ◌∙◌}
use Rattle.std.proofs.lemmas.Bool.{true≢false, false≢true}
use Rattle.psg_unparse.specs.Layout.{last_in}
use Rattle.psg_layout.specs.declared.layout.Layout.{Layout}
use Rattle.psg_layout.specs.declared.line_end.LineEnd.{LineEnd}
use Rattle.psg_layout.specs.declared.nodes.Flat.{Flat}
use Rattle.psg_layout.specs.declared.sheet.Sheet.{Sheet}
use Rattle.psg_layout.specs.Pages.{chars_in, gap_by, spaces_before}
use Rattle.psg_layout.specs.Sheets.{gap_bytes, IsEnd, PutsChars, Ink, IsInk}
use Rattle.psg_layout.specs.Arranged.{Mode, is_group}
use Rattle.psg_layout.specs.Walking.{line_ahead, fits_in, decided_by}

pub ahead : (s : Sheet) (k : Ink) (f : Flat) (line : LineEnd) → PutsChars (gap_by s.marks.last s.broken (gap_bytes f.lead)) s.line line → IsInk s k
    → IsEnd line (chars_in k.page.puts ++ gap_by (last_in None k.page.before) k.page.broken (gap_bytes f.lead))
ahead s k f line p h =
    subst (λ g. IsEnd line (chars_in k.page.puts ++ g)) (ap₂ (λ l b. gap_by l b (gap_bytes f.lead)) h.marks.last h.broken) (p (chars_in k.page.puts) h.line)

none_cond : (a g : Bool) (s : Mode) → a ≡ false → g ≡ true → None ≡ cond {A = Mode} a None (cond {A = Mode} g None s)
none_cond true g s e f = absurd (true≢false e)
none_cond false true s e f = refl
none_cond false false s e f = absurd (false≢true f)

some_cond : (a g : Bool) (s : Mode) → a ≡ false → g ≡ false → s ≡ cond {A = Mode} a None (cond {A = Mode} g None s)
some_cond true g s e f = absurd (true≢false e)
some_cond false true s e f = absurd (true≢false f)
some_cond false false s e f = refl

module _ (layout : Layout) (cols : ℕ) (flat : Bool) (k : Ink) (f : Flat) (o : Option ℕ) where
  pub decided_none : flat ≡ false → (is_group layout o && fits_in cols (line_ahead k f) f.width) ≡ true → None ≡ decided_by layout cols flat k f o
  decided_none e g = none_cond flat (is_group layout o && fits_in cols (line_ahead k f) f.width) (Some (spaces_before (line_ahead k f) + 2)) e g

  pub decided_some : (n m : ℕ) → flat ≡ false → (is_group layout o && fits_in cols (line_ahead k f) f.width) ≡ false → m ≡ spaces_before (line_ahead k f) → n ≡ m + 2
      → Some n ≡ decided_by layout cols flat k f o
  decided_some n m e g s t =
      ap Some (t ∙ ap (λ x. x + 2) s)
      ∙ some_cond flat (is_group layout o && fits_in cols (line_ahead k f) f.width) (Some (spaces_before (line_ahead k f) + 2)) e g
