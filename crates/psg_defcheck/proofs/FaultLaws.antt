-- Lines that pass all tests, and the first one that does not.
use Rattle.std.proofs.Common.{◌≡◌, ◌↔◌, ℕ, ◌+◌, ◌<◌, Bool, false, IsTrue, suc, List, [], ◌∷◌, ◌++◌, take, drop, get_or, length, ap, sym, ◌∙◌, subst, Some, None, append_assoc, append-nil}
use Rattle.std.proofs.lemmas.Bool.{false≢true}
use Rattle.psg_terms.proofs.Lists.{take_item}
use Rattle.std.specs.List.{AllByRecursion}
use Rattle.psg_terms.proofs.DeclareLaws.{around}
use Rattle.psg_deflines.specs.Entries.{Entry, written}
use Rattle.psg_deflines.specs.declared.fault.DefCode.{DefCode}
use Rattle.psg_deflines.specs.declared.lines.Line.{Line}
use Rattle.psg_defcheck.specs.Faults.{meaning_codes, PassesMeaning, ArePassed, IsMeaningFault, IsLineFault}
use Rattle.psg_defcheck.specs.Meanings.{IsNew}
use Rattle.psg_defcheck.specs.Aboves.{IsAbove}
use Rattle.psg_defcheck.specs.declared.above.Above.{Above}
use Rattle.psg_defcheck.proofs.GroundLaws.{written-append}
use Rattle.psg_defcheck.proofs.SortLaws.{take-length}

-- a test that a line fails
pub fails : {P : Type 0} (b : Bool) → b ≡ false → IsTrue b ↔ P → P → ⊥
fails b e h p = false≢true (sym e ∙ h.1 p)

-- lines that pass
pub record HasPassed (file front : List Line) (kept : Above) : Type 0 where
  pub above : IsAbove front kept
  pub passed : ArePassed file [] front

passed-push : (file above xs : List Line) (line : Line) → ArePassed file above xs → AllByRecursion (PassesMeaning file (above ++ xs) line) meaning_codes → ArePassed file above (xs ++ line ∷ [])
passed-push file above [] line h k = (subst (λ ls. AllByRecursion (PassesMeaning file ls line) meaning_codes) (append-nil above) k, tt)
passed-push file above (x ∷ xs) line h k =
    (h.0, passed-push file (above ++ x ∷ []) xs line h.1 (subst (λ ls. AllByRecursion (PassesMeaning file ls line) meaning_codes) (sym (append_assoc above (x ∷ []) xs)) k))

pub passed-none : (file : List Line) (entries : List Entry) (i : ℕ) (e : Entry) (above : Above) → HasPassed file (written (take i entries)) above → i < length entries → e ≡ get_or entries i e → e ≡ None → HasPassed file (written (take (i + 1) entries)) above
passed-none file entries i e above h lt at is =
    subst (λ ls. HasPassed file ls above) (sym (ap written (take_item entries i e lt at ∙ ap (λ (x : Entry). take i entries ++ x ∷ []) is) ∙ written-append (take i entries) (None ∷ []) ∙ append-nil (written (take i entries)))) h

pub passed-some : (file : List Line) (entries : List Entry) (i : ℕ) (e : Entry) (line : Line) (above after : Above) → HasPassed file (written (take i entries)) above → i < length entries → e ≡ get_or entries i e → e ≡ Some line
    → ((ls : List Line) → IsAbove ls above → IsLineFault file ls line None) → ((ls : List Line) → IsAbove ls above → IsNew ls line → IsAbove (ls ++ line ∷ []) after) → HasPassed file (written (take (i + 1) entries)) after
passed-some file entries i e line above after h lt at is passes step =
    let front = written (take i entries) in
    subst (λ ls. HasPassed file ls after) (sym (ap written (take_item entries i e lt at ∙ ap (λ (x : Entry). take i entries ++ x ∷ []) is) ∙ written-append (take i entries) (Some line ∷ [])))
    (record { above = step front h.above (passes front h.above).0; passed = passed-push file [] front line h.passed (passes front h.above) })

pub fault-at : (entries : List Entry) (i : ℕ) (e : Entry) (line : Line) (above : Above) (code : DefCode) (place : ℕ) → HasPassed (written entries) (written (take i entries)) above → i < length entries → e ≡ get_or entries i e → e ≡ Some line
    → ((ls : List Line) → IsAbove ls above → IsLineFault (written entries) ls line (Some code)) → place ≡ i + 2 → IsMeaningFault entries (record { line = place; code = code })
fault-at entries i e line above code place h lt at is first where_ = record {
  front = take i entries;
  line = line;
  behind = drop (suc i) entries;
  split = around entries i e lt at ∙ ap (λ (x : Entry). take i entries ++ x ∷ drop (suc i) entries) is;
  passed = h.passed;
  first = first (written (take i entries)) h.above;
  place = where_ ∙ ap (λ n. n + 2) (sym (take-length i entries lt));
}

pub passed-all : (entries : List Entry) (i : ℕ) (above : Above) → HasPassed (written entries) (written (take i entries)) above → take i entries ≡ entries → ArePassed (written entries) [] (written entries)
passed-all entries i above h e = subst (λ es. ArePassed (written entries) [] (written es)) e h.passed
