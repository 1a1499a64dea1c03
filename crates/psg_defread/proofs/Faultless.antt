-- A file whose lines pass all tests has no fault.
use Rattle.std.proofs.Common.{◌≡◌, inl, inr, ℕ, true, List, [], ◌∷◌, ◌++◌, Some, sym, ◌∙◌, ap, subst}
use Rattle.std.proofs.Common.{Result}
use Rattle.std.specs.Prelude.{IfErr, IsErrAnd}
use Rattle.std.proofs.lemmas.Result.{err_from_is_err_and}
use Rattle.std.specs.List.{AllByRecursion}
use Rattle.std.specs.Str.Lines.{lines}
use Rattle.std.proofs.lemmas.List.{append_assoc, append-nil}
use Rattle.psg_grammar.specs.declared.types.Definition.{Definition}
use Rattle.psg_deflines.specs.Versions.{is_of}
use Rattle.psg_deflines.specs.Entries.{Entry, written, IsPlain}
use Rattle.psg_deflines.specs.Reading.{HasEntries, AreLinesOf, HasNoFormFault}
use Rattle.psg_deflines.specs.Refusals.{IsFirstOf}
use Rattle.psg_deflines.specs.declared.fault.DefCode.{DefCode}
use Rattle.psg_deflines.specs.declared.fault.DefFault.{DefFault}
use Rattle.psg_deflines.specs.declared.fault.ReadFault.{ReadFault}
use Rattle.psg_deflines.specs.declared.fault.ReadFault.TheVariants.{Def, Memory}
use Rattle.psg_deflines.specs.Refusals.{IsFormFault}
use Rattle.psg_deflines.specs.declared.lines.Line.{Line}
use Rattle.psg_defcheck.specs.Faults.{meaning_codes, PassesMeaning, ArePassed, IsMeaningFault}
use Rattle.psg_defcheck.specs.Checks.{IsCheckFault}
use Rattle.psg_defcheck.proofs.GroundLaws.{written-append}
use Rattle.psg_defread.specs.Refusals.{IsReadFault, Refusal, no_form, no_meaning}
use Rattle.psg_defread.specs.Reading.{IsFaultless, Spells}
use Rattle.psg_defnumber.specs.Numbers.{IsNumbered}
use Rattle.psg_defnumber.specs.Once.{OneNumbering}

-- what passes all tests has no first one that fails
pub all_pass : (Passes : DefCode → Type 0) (tests : List DefCode) (code : DefCode) → AllByRecursion Passes tests → IsFirstOf Passes tests code → ⊥
all_pass Passes [] code all first = first
all_pass Passes (t ∷ tests) code all (inl (fails, is)) = fails all.0
all_pass Passes (t ∷ tests) code all (inr (passes, first)) = all_pass Passes tests code all.1 first

pub passed_at : (file above front : List Line) (line : Line) (behind : List Line) → ArePassed file above (front ++ line ∷ behind) → AllByRecursion (PassesMeaning file (above ++ front) line) meaning_codes
passed_at file above [] line behind h = subst (λ a. AllByRecursion (PassesMeaning file a line) meaning_codes) (sym (append-nil above)) h.0
passed_at file above (x ∷ front) line behind h =
    subst (λ a. AllByRecursion (PassesMeaning file a line) meaning_codes) (append_assoc above (x ∷ []) front) (passed_at file (above ++ x ∷ []) front line behind h.1)

no_meaning_fault : (entries : List Entry) (fault : DefFault) → ArePassed (written entries) [] (written entries) → IsMeaningFault entries fault → ⊥
no_meaning_fault entries fault passed m =
    all_pass (PassesMeaning (written entries) (written m.front) m.line) meaning_codes fault.code
    (passed_at (written entries) [] (written m.front) m.line (written m.behind)
    (subst (ArePassed (written entries) []) (ap written m.split ∙ written-append m.front (Some m.line ∷ m.behind)) passed))
    m.first

-- plain lines are of the version
pub all_of : (version : ℕ) (lines : List Line) → AllByRecursion (IsPlain version) lines → AllByRecursion (λ line. is_of version line ≡ true) lines
all_of version [] h = tt
all_of version (line ∷ lines) h = (h.0.of_version, all_of version lines h.1)

-- the only entries are those that were read
pub faultless : (bytes : List ℕ) (version : ℕ) (entries : List Entry) → AreLinesOf bytes version entries → ((v : ℕ) (other : List Entry) → HasEntries bytes v other → (v ≡ version) × (other ≡ entries))
    → HasNoFormFault bytes → ArePassed (written entries) [] (written entries) → IsFaultless bytes
faultless bytes version entries read only none passed fault (no_form f) = none fault f
faultless bytes version entries read only none passed fault (no_meaning v utf8 head m) =
    let same : m.entries ≡ entries = (only v m.entries (record { utf8 = utf8; spelled = record { head = head; each = m.each; of_version = all_of v (written m.entries) m.plain } })).1 in
    no_meaning_fault entries fault passed (subst (λ es. IsMeaningFault es fault) same m.meaning)

pub meaning_refused : (bytes : List ℕ) (version : ℕ) (entries : List Entry) (fault : DefFault) → AreLinesOf bytes version entries → IsMeaningFault entries fault → Refusal bytes fault
meaning_refused bytes version entries fault read meaning =
    no_meaning version read.spelled.utf8 read.spelled.spelled.head (record { entries = entries; each = read.spelled.spelled.each; plain = read.plain; meaning = meaning })

form_refused : (bytes : List ℕ) (fault : ReadFault) → IsFormFault bytes fault → IsReadFault bytes fault
form_refused bytes (Def fault) f = no_form f
form_refused bytes Memory f = f

-- a fault of the lines, handed on
pub form_passed : {T : Type 0} (bytes : List ℕ) (r : Result T ReadFault) (fault : ReadFault) → IsErrAnd r (λ e. e ≡ fault) → IsFormFault bytes fault → IfErr r (IsReadFault bytes)
form_passed bytes r fault h f = let q = err_from_is_err_and r h in rw q.1 (subst (IsReadFault bytes) (sym q.2) (form_refused bytes fault f))

-- what else the bytes spell has the version and the entries that were read, and so is the same definition
pub one_read : (bytes : List ℕ) (version : ℕ) (entries : List Entry) (def : Definition)
    → ((v : ℕ) (others : List Entry) → HasEntries bytes v others → (v ≡ version) × (others ≡ entries))
    → IsNumbered version (written entries) def → OneNumbering → (other : Definition) → Spells bytes other → other ≡ def
one_read bytes version entries def only numbered once other s =
    let e = only s.version s.entries (record { utf8 = s.utf8; spelled = s.spelled }) in
    once version (written entries) other def
    (subst (λ v. IsNumbered v (written entries) other) e.0
    (subst (λ es. IsNumbered s.version (written es) other) e.1 s.numbered)) numbered

-- a fault of the meaning of the lines, handed on
pub meaning_passed : {T : Type 0} (bytes : List ℕ) (version : ℕ) (entries : List Entry) (r : Result T ReadFault) (fault : ReadFault) → AreLinesOf bytes version entries → IsErrAnd r (λ e. e ≡ fault) → IsCheckFault entries fault → IfErr r (IsReadFault bytes)
meaning_passed bytes version entries r fault read h f = let q = err_from_is_err_and r h in rw q.1 (subst (IsReadFault bytes) (sym q.2) (refused fault f))
  where
    refused : (fault : ReadFault) → IsCheckFault entries fault → IsReadFault bytes fault
    refused (Def fault) m = meaning_refused bytes version entries fault read m
    refused Memory m = m

-- memory that ran out, handed on
pub memory_passed : {T : Type 0} (bytes : List ℕ) (r : Result T ReadFault) → IsErrAnd r (λ e. e ≡ Memory) → IfErr r (IsReadFault bytes)
memory_passed bytes r h = let q = err_from_is_err_and r h in rw q.1 (subst (IsReadFault bytes) (sym q.2) tt)

-- the lines that were checked are those of the entries that were read
pub checked_lines : {checked : List Line} {seen entries : List Entry} → checked ≡ written seen → seen ≡ entries → checked ≡ written entries
checked_lines e f = e ∙ ap written f
