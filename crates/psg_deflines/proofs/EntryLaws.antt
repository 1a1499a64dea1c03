-- What stands in a text behind lines.
use Rattle.std.proofs.Common.{◌≡◌, ℕ, Bool, true, false, cond, List, [], ◌∷◌, length, codes, inl, inr, refl, ap, sym, ◌∙◌, subst, arith}
use Rattle.std.specs.Prelude.{◌==◌, ◌&&◌, Some, None, MatchBool, IsTrue, ◌↔◌, not}
use Rattle.std.specs.List.{list_any}
use Rattle.std.proofs.lemmas.Bool.{cases_Bool, false≢true}
use Rattle.psg_deflines.specs.Forms.{HasFixedWords, IsShallow, parts_of}
use Rattle.psg_deflines.specs.Versions.{is_of}
use Rattle.psg_deflines.specs.FormReads.{IsForm}
use Rattle.psg_deflines.specs.Entries.{IsSkipped, IsLineBehind, IsEntry, Entry, HasPlace, takes_rows, takes_cases}
use Rattle.psg_deflines.specs.EntryReads.{IsEntryRead}
use Rattle.psg_deflines.specs.Refusals.{IsFirstOf, PassesForm, form_codes}
use Rattle.psg_deflines.specs.declared.fault.DefCode.{DefCode}
use Rattle.psg_deflines.specs.declared.fault.DefCode.TheVariants as codes_of
use Rattle.psg_deflines.specs.Parts.{HasParts, HasNoParts}
use Rattle.psg_deflines.specs.Only.{IsOnly}
use Rattle.psg_deflines.specs.TermWalks.{Parts}
use Rattle.psg_deflines.specs.declared.lines.Line.{Line}
use Rattle.psg_deflines.specs.declared.lines.Line.TheVariants as lines
use Rattle.psg_deflines.specs.declared.entries.EntryRead.{EntryRead}
use Rattle.psg_deflines.specs.declared.entries.EntryRead.TheVariants as reads
use Rattle.psg_deflines.proofs.SpellLaws.{spells-form, form-spells, spells-no_parts}
use Rattle.psg_deflines.proofs.PartReads.{first_of}
use Rattle.psg_deflines.proofs.LineInverses.{Is_row, row_line, row-inverse, Is_case, case_line, case-inverse, no-empty}

-- ---- places

pub placed : (above : List Line) (ps : Parts) → (first_of ps ≡ codes "row" → takes_rows above ≡ true) → (first_of ps ≡ codes "case" → takes_cases false above ≡ true) → (line : Line) → IsForm ps line → HasPlace above line
placed above ps rows cases (lines.Sort d) h = tt
placed above ps rows cases (lines.Space spot s) h = tt
placed above ps rows cases (lines.Phylum n s b) h = tt
placed above ps rows cases (lines.List n s e w l u) h = tt
placed above ps rows cases (lines.Operator n k s l ms) h = tt
placed above ps rows cases (lines.Row t ts) h = rows (ap first_of (sym h.written))
placed above ps rows cases (lines.Nil n t) h = tt
placed above ps rows cases (lines.Cell n t u v) h = tt
placed above ps rows cases (lines.Hole n t w) h = tt
placed above ps rows cases (lines.Case t w) h = cases (ap first_of (sym h.written))
placed above ps rows cases (lines.Declare spot n t u w) h = tt

not-row : (above : List Line) (rest : Parts) → takes_rows above ≡ false → (line : Line) → IsForm (codes "row" ∷ rest) line → HasPlace above line → ⊥
not-row above rest e line h place = by_line line (row-inverse rest line h.written) place
  where
    by_line : (line : Line) → Is_row rest line → HasPlace above line → ⊥
    by_line _ (row_line t ts f) p = false≢true (sym e ∙ p)

not-case : (above : List Line) (rest : Parts) → takes_cases false above ≡ false → (line : Line) → IsForm (codes "case" ∷ rest) line → HasPlace above line → ⊥
not-case above rest e line h place = by_line line (case-inverse rest line h.written) place
  where
    by_line : (line : Line) → Is_case rest line → HasPlace above line → ⊥
    by_line _ (case_line t w f) p = false≢true (sym e ∙ p)

abbrev pub IsPlaced : List Line → Parts → Bool → Type 0
IsPlaced above ps b = MatchBool b ((line : Line) → IsForm ps line → HasPlace above line) ((line : Line) → IsForm ps line → HasPlace above line → ⊥)

differs : (v w : List ℕ) → (v ≡ w → ⊥) → (p : List ℕ) → p ≡ v → p ≡ w → ⊥
differs v w d p e f = d (sym e ∙ f)

pub place-row : (above : List Line) (ps rest : Parts) (b : Bool) → ps ≡ codes "row" ∷ rest → takes_rows above ≡ b → IsPlaced above ps b
place-row above ps rest true e rows = placed above ps (λ f. rows) (λ f. absurd (row-case (sym (ap first_of e) ∙ f)))
  where
    row-case : codes "row" ≡ codes "case" → ⊥
    row-case e = omega (arith, ap length e)
place-row above ps rest false e rows = λ line h. not-row above rest rows line (subst (λ x. IsForm x line) e h)

pub place-case : (above : List Line) (ps rest : Parts) (b : Bool) → ps ≡ codes "case" ∷ rest → takes_cases false above ≡ b → IsPlaced above ps b
place-case above ps rest true e cases = placed above ps (λ f. absurd (case-row (sym (ap first_of e) ∙ f))) (λ f. cases)
  where
    case-row : codes "case" ≡ codes "row" → ⊥
    case-row e = omega (arith, ap length e)
place-case above ps rest false e cases = λ line h. not-case above rest cases line (subst (λ x. IsForm x line) e h)

pub place-else : (above : List Line) (ps rest : Parts) (p : List ℕ) → ps ≡ p ∷ rest → (p ≡ codes "row" → ⊥) → (p ≡ codes "case" → ⊥) → IsPlaced above ps true
place-else above ps rest p e row case_word = placed above ps (λ f. absurd (row (sym (ap first_of e) ∙ f))) (λ f. absurd (case_word (sym (ap first_of e) ∙ f)))

pub place-none : (above : List Line) (ps : Parts) → ps ≡ [] → IsPlaced above ps true
place-none above ps e = placed above ps (λ f. absurd (omega (arith, ap length (sym (ap first_of e) ∙ f)))) (λ f. absurd (omega (arith, ap length (sym (ap first_of e) ∙ f))))

-- ---- entries

pub skipped-only : (above : List Line) (text : List ℕ) → IsSkipped text → IsOnly (IsEntry above text) None
skipped-only above text s = record { is = s; only = λ e h. by_entry e h }
  where
    by_entry : (e : Entry) → IsEntry above text e → e ≡ None
    by_entry None h = refl
    by_entry (Some line) h = absurd (h.no_comment s)

module _ (version : ℕ) (above : List Line) (text : List ℕ) (parts : Parts) (no_comment : IsSkipped text → ⊥) (o : IsOnly (HasParts text) parts) where
  behind-form : (line : Line) → IsLineBehind above text line → IsForm parts line
  behind-form line h = spells-form text parts line o h.spelled

  pub no-form : ((line : Line) → IsForm parts line → HasPlace above line → ⊥) → IsFirstOf (PassesForm version above text) form_codes codes_of.Form
  no-form none = inl (λ passes. elim passes [ inl s ↦ no_comment s | inr found ↦ none found.0 (behind-form found.0 found.1) found.1.place ], refl)

  is-line : (line : Line) → IsForm parts line → HasPlace above line → IsLineBehind above text line
  is-line line f place = record { no_comment = no_comment; spelled = form-spells text parts line o f; place = place }

  -- a line of the other version
  pub no-version : (line : Line) → IsOnly (IsForm parts) line → is_of version line ≡ false → IsFirstOf (PassesForm version above text) form_codes codes_of.Form
  no-version line f other =
      inl (λ passes. elim passes [ inl s ↦ no_comment s | inr found ↦ false≢true (sym other ∙ sym (ap (is_of version) (f.only found.0 (behind-form found.0 found.1))) ∙ found.2) ], refl)

  too-deep : (line : Line) → IsOnly (IsForm parts) line → HasPlace above line → is_of version line ≡ true → HasFixedWords line → (IsShallow line → ⊥) → IsFirstOf (PassesForm version above text) form_codes codes_of.Nested
  too-deep line f place right fixed deep =
      let here = is-line line f.is place in
      inr (inr (line, here, right), inr (λ other h. subst HasFixedWords (sym (f.only other (behind-form other h))) fixed, inl (λ passes. deep (passes line here), refl)))

  no-token : (line : Line) → IsOnly (IsForm parts) line → HasPlace above line → is_of version line ≡ true → (HasFixedWords line → ⊥) → IsFirstOf (PassesForm version above text) form_codes codes_of.Token
  no-token line f place right loose = let here = is-line line f.is place in inr (inr (line, here, right), inl (λ passes. loose (passes line here), refl))

  line-only : (line : Line) → IsOnly (IsForm parts) line → HasPlace above line → IsOnly (IsEntry above text) (Some line)
  line-only line f place = record { is = is-line line f.is place; only = λ e h. by_entry e h }
    where
      by_entry : (e : Entry) → IsEntry above text e → e ≡ Some line
      by_entry None h = absurd (no_comment h)
      by_entry (Some other) h = ap Some (f.only other (behind-form other h))

  pub deep-read : (line : Line) (code : DefCode) → IsOnly (IsForm parts) line → HasPlace above line → HasFixedWords line → (IsShallow line → ⊥) → code ≡ cond (is_of version line) codes_of.Nested codes_of.Form
      → IsFirstOf (PassesForm version above text) form_codes code
  deep-read line code f place fixed deep e = elim (cases_Bool (is_of version line)) [
    | inl k ↦ subst (IsFirstOf (PassesForm version above text) form_codes) (sym (e ∙ ap (λ b. cond b codes_of.Nested codes_of.Form) k)) (too-deep line f place k fixed deep)
    | inr k ↦ subst (IsFirstOf (PassesForm version above text) form_codes) (sym (e ∙ ap (λ b. cond b codes_of.Nested codes_of.Form) k)) (no-version line f k)
  ]

  pub line-read : (line : Line) (right fixed : Bool) (entry : EntryRead) → entry ≡ cond right (cond fixed (reads.Found (Some line)) (reads.Fault codes_of.Token)) (reads.Fault codes_of.Form) → right ≡ is_of version line
      → (IsTrue fixed ↔ HasFixedWords line) → IsOnly (IsForm parts) line → IsShallow line → HasPlace above line → IsEntryRead version above text entry
  line-read line false fixed entry e right words f shallow place = subst (IsEntryRead version above text) (sym e) (no-version line f (sym right))
  line-read line true true entry e right words f shallow place =
      subst (IsEntryRead version above text) (sym e) (line-only line f place, record { of_version = sym right; words = words.0 refl; shallow = shallow })
  line-read line true false entry e right words f shallow place =
      subst (IsEntryRead version above text) (sym e) (no-token line f place (sym right) (λ w. false≢true (words.1 w)))

pub no-parts : (version : ℕ) (above : List Line) (text : List ℕ) → (IsSkipped text → ⊥) → HasNoParts text → IsFirstOf (PassesForm version above text) form_codes codes_of.Form
no-parts version above text no_comment none = inl (λ passes. elim passes [ inl s ↦ no_comment s | inr found ↦ spells-no_parts text found.0 none found.1.spelled ], refl)

-- ---- lines that are nested too deep

-- which words begin declare rows, the first without a space and the second with one
pub deep-of : (version : ℕ) (word : List ℕ) (rest : Parts) (bare tagged : Bool) (line : Line) → (IsTrue bare ↔ (word ≡ codes "declare")) → tagged ≡ list_any (λ c. c == 64) word → IsForm (word ∷ rest) line → (IsShallow line → ⊥)
    → cond bare (not (version == 2)) (cond tagged (version == 2) true) ≡ is_of version line
deep-of version word rest bare tagged line b t h deep = by_line line h.written deep
  where
    other : (w : List ℕ) → w ≡ word → (w ≡ codes "declare" → ⊥) → list_any (λ c. c == 64) w ≡ false → cond bare (not (version == 2)) (cond tagged (version == 2) true) ≡ true
    other w e apart plain = elim (cases_Bool bare) [
      | inl k ↦ absurd (apart (e ∙ b.0 k))
      | inr k ↦ ap (λ x. cond x (not (version == 2)) (cond tagged (version == 2) true)) k ∙ ap (λ x. cond x (version == 2) true) (t ∙ ap (list_any (λ c. c == 64)) (sym e) ∙ plain)
    ]

    without : (v : Bool) → not v ≡ cond v false true
    without true = refl
    without false = refl

    within : (v : Bool) → v ≡ cond v true false
    within true = refl
    within false = refl

    by_line : (line : Line) → parts_of line ≡ word ∷ rest → (IsShallow line → ⊥) → cond bare (not (version == 2)) (cond tagged (version == 2) true) ≡ is_of version line
    by_line (lines.Sort d) e k = absurd (k tt)
    by_line (lines.Space n s) e k = absurd (k tt)
    by_line (lines.Phylum n s f) e k = absurd (k tt)
    by_line (lines.List n s x w l u) e k = absurd (k tt)
    by_line (lines.Operator n p s l ms) e k = absurd (k tt)
    by_line (lines.Row x ts) e k = other (codes "row") (ap first_of e) (λ f. omega (arith, ap length f)) refl
    by_line (lines.Nil n x) e k = other (codes "nil") (ap first_of e) (λ f. omega (arith, ap length f)) refl
    by_line (lines.Cell n x u v) e k = other (codes "cell") (ap first_of e) (λ f. omega (arith, ap length f)) refl
    by_line (lines.Hole n x w) e k = other (codes "hole") (ap first_of e) (λ f. omega (arith, ap length f)) refl
    by_line (lines.Case x w) e k = other (codes "case") (ap first_of e) (λ f. omega (arith, ap length f)) refl
    by_line (lines.Declare [] n x u w) e k = ap (λ y. cond y (not (version == 2)) (cond tagged (version == 2) true)) (b.1 (sym (ap first_of e))) ∙ without (version == 2)
    by_line (lines.Declare (c ∷ cs) n x u w) e k = elim (cases_Bool bare) [
      | inl y ↦ absurd (omega (arith, ap length (ap first_of e ∙ b.0 y)))
      | inr y ↦ ap (λ z. cond z (not (version == 2)) (cond tagged (version == 2) true)) y ∙ ap (λ z. cond z (version == 2) true) (t ∙ ap (list_any (λ d. d == 64)) (sym (ap first_of e))) ∙ within (version == 2)
    ]

pub deep-none : (version : ℕ) (ps : Parts) (line : Line) → ps ≡ [] → IsForm ps line → ⊥
deep-none version ps line e h = no-empty line (h.written ∙ e)

-- one test for the version and the words, and what is wrong where it fails
pub found-by : (line : Line) (right fixed good : Bool) (code : DefCode) (entry : EntryRead) → good ≡ (right && fixed) → code ≡ cond right codes_of.Token codes_of.Form
    → entry ≡ cond good (reads.Found (Some line)) (reads.Fault code) → entry ≡ cond right (cond fixed (reads.Found (Some line)) (reads.Fault codes_of.Token)) (reads.Fault codes_of.Form)
found-by line true true good code entry g m e = e ∙ ap (λ b. cond b (reads.Found (Some line)) (reads.Fault code)) g
found-by line true false good code entry g m e = e ∙ ap (λ b. cond b (reads.Found (Some line)) (reads.Fault code)) g ∙ ap reads.Fault m
found-by line false fixed good code entry g m e = e ∙ ap (λ b. cond b (reads.Found (Some line)) (reads.Fault code)) g ∙ ap reads.Fault m
