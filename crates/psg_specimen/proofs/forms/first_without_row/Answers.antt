use Rattle.std.proofs.Common.{◌≡◌, ◌<◌, ℕ, length, true, false, subst}
use Rattle.std.specs.Prelude.{◌↔◌}
use Rattle.psg_specimen.specs.declared.forms.Mark.{Mark}
use Rattle.psg_specimen.specs.Tables.{has_mark, IsRowOf, IsMarked}
use Rattle.psg_specimen.proofs.MarkLaws.{phylum_first, list_first, all_kinds}
use Rattle.psg_specimen.proofs.forms.first_without_row.Goals as goal

pub returns-in-Some-clause-first : goal.returns-in-Some-clause-first
returns-in-Some-clause-first c =
    let n = c.in-Some.phylum in
    let marks = subst (λ rows. (k : Mark) → (has_mark c.in_ok-marks.marks k ≡ true) ↔ IsRowOf rows k) c.as_slice.ensures c.in_ok-marks.ensures in
    phylum_first c.args.definition.now (has_mark c.in_ok-marks.marks) marks n (subst (λ l. n < length l) c.as_slice-2.ensures c.in-Some.ensures.0) c.in-Some.ensures.1

pub returns-in-Some-first_unmarked-clause-first : goal.returns-in-Some-first_unmarked-clause-first
returns-in-Some-first_unmarked-clause-first c =
    let n = c.in-Some-first_unmarked.list in
    let marks = subst (λ rows. (k : Mark) → (has_mark c.in_ok-marks.marks k ≡ true) ↔ IsRowOf rows k) c.as_slice.ensures c.in_ok-marks.ensures in
    list_first c.args.definition.now (has_mark c.in_ok-marks.marks) marks
    (subst (λ l. (m : ℕ) → m < length l → IsMarked c.in_ok-marks.marks false m) c.as_slice-2.ensures c.in_default.ensures)
    n (subst (λ l. n < length l) c.as_slice-3.ensures c.in-Some-first_unmarked.ensures.0) c.in-Some-first_unmarked.ensures.1

pub returns-clause-first : goal.returns-clause-first
returns-clause-first c =
    let marks = subst (λ rows. (k : Mark) → (has_mark c.in_ok-marks.marks k ≡ true) ↔ IsRowOf rows k) c.as_slice.ensures c.in_ok-marks.ensures in
    all_kinds c.args.definition.now (has_mark c.in_ok-marks.marks) marks
    (subst (λ l. (m : ℕ) → m < length l → IsMarked c.in_ok-marks.marks false m) c.as_slice-2.ensures c.in_default.ensures)
    (subst (λ l. (m : ℕ) → m < length l → IsMarked c.in_ok-marks.marks true m) c.as_slice-3.ensures c.in_default-first_unmarked.ensures)
