-- The texts of a file, one after the other.
use Rattle.std.proofs.Common.{◌≡◌, ℕ, ◌+◌, ◌<◌, ◌≤◌, ◌||◌, Bool, true, false, zero, suc, List, [], ◌∷◌, ◌++◌, take, drop, get_or, length, length-append, append_assoc, append-nil, inl, inr, refl, ap, sym, ◌∙◌, subst, arith}
use Rattle.std.specs.Prelude.{Some, None, map, ◌⊎◌}
use Rattle.std.specs.List.{AllByRecursion}
use Rattle.std.specs.Borrow.{Bor}
use Rattle.std.proofs.lemmas.List.{take-append-drop, length-take, take_all, get_or_default}
use Rattle.std.proofs.Math.Seq.{take-append_seam}
use Rattle.std.proofs.lemmas.Bool.Decides.{eqb_tells}
use Rattle.psg_terms.proofs.Lists.{take_item, each_push}
use Rattle.psg_deflines.specs.Parts.{texts}
use Rattle.psg_deflines.specs.Versions.{is_of}
use Rattle.psg_deflines.specs.Entries.{IsSkipped, IsLineBehind, IsEntry, Entry, written, AreEntries, IsPlain, takes_rows, takes_cases}
use Rattle.psg_deflines.specs.EntryReads.{is_operator, cases_behind, rows_after, cases_after, IsPlainEntry, IsEntryRead, AreEntriesRead}
use Rattle.psg_deflines.specs.Refusals.{IsFirstOf, PassesForm, form_codes, HasFormFault}
use Rattle.psg_deflines.specs.declared.fault.DefCode.{DefCode}
use Rattle.psg_deflines.specs.declared.fault.DefCode.TheVariants as codes_of
use Rattle.psg_deflines.specs.declared.fault.DefFault.{DefFault}
use Rattle.psg_deflines.specs.declared.lines.Line.{Line}
use Rattle.psg_deflines.specs.declared.lines.Line.TheVariants as lines_of
use Rattle.psg_deflines.specs.declared.entries.EntryRead.TheVariants as reads
use Rattle.psg_deflines.specs.Only.{IsOnly}

-- ---- one more entry

written-cons : (e : Entry) (es : List Entry) → written (e ∷ es) ≡ written (e ∷ []) ++ written es
written-cons None es = refl
written-cons (Some line) es = refl

written-append : (es fs : List Entry) → written (es ++ fs) ≡ written es ++ written fs
written-append [] fs = refl
written-append (None ∷ es) fs = written-append es fs
written-append (Some line ∷ es) fs = ap (λ x. line ∷ x) (written-append es fs)

above-more : (above : List Line) (e : Entry) (es : List Entry) → (above ++ written (e ∷ [])) ++ written es ≡ above ++ written (e ∷ es)
above-more above e es = append_assoc above (written (e ∷ [])) (written es) ∙ ap (λ x. above ++ x) (sym (written-cons e es))

snoc-sound : (above : List Line) (ts : List (List ℕ)) (t : List ℕ) (es : List Entry) (e : Entry) → AreEntries above ts es → IsEntry (above ++ written es) t e → AreEntries above (ts ++ t ∷ []) (es ++ e ∷ [])
snoc-sound above [] t [] e h k = (subst (λ x. IsEntry x t e) (append-nil above) k, tt)
snoc-sound above [] t (f ∷ es) e h k = absurd h
snoc-sound above (u ∷ ts) t [] e h k = absurd h
snoc-sound above (u ∷ ts) t (f ∷ es) e h k =
    (h.0, snoc-sound (above ++ written (f ∷ [])) ts t es e h.1 (subst (λ x. IsEntry x t e) (sym (above-more above f es)) k))

-- what the texts with one more are
pub record IsSnoc (above : List Line) (ts : List (List ℕ)) (t : List ℕ) (whole : List Entry) : Type 0 where
  pub front : List Entry
  pub last : Entry
  pub split : whole ≡ front ++ last ∷ []
  pub each : AreEntries above ts front
  pub is : IsEntry (above ++ written front) t last

snoc-split : (above : List Line) (ts : List (List ℕ)) (t : List ℕ) (whole : List Entry) → AreEntries above (ts ++ t ∷ []) whole → IsSnoc above ts t whole
snoc-split above [] t [] h = absurd h
snoc-split above [] t (e ∷ []) h = record { front = []; last = e; split = refl; each = tt; is = subst (λ x. IsEntry x t e) (sym (append-nil above)) h.0 }
snoc-split above [] t (e ∷ f ∷ es) h = absurd h.1
snoc-split above (u ∷ ts) t [] h = absurd h
snoc-split above (u ∷ ts) t (e ∷ es) h =
    let rest = snoc-split (above ++ written (e ∷ [])) ts t es h.1 in
    record {
      front = e ∷ rest.front;
      last = rest.last;
      split = ap (λ x. e ∷ x) rest.split;
      each = (h.0, rest.each);
      is = subst (λ x. IsEntry x t rest.last) (above-more above e rest.front) rest.is;
    }

-- ---- what may follow

rows-more : (above : List Line) (line : Line) → takes_rows (above ++ line ∷ []) ≡ (takes_rows above || is_operator line)
rows-more [] (lines_of.Operator n k s l ms) = refl
rows-more [] (lines_of.Sort d) = refl
rows-more [] (lines_of.Space spot s) = refl
rows-more [] (lines_of.Phylum n s b) = refl
rows-more [] (lines_of.List n s e w l u) = refl
rows-more [] (lines_of.Row t ts) = refl
rows-more [] (lines_of.Nil n t) = refl
rows-more [] (lines_of.Cell n t u v) = refl
rows-more [] (lines_of.Hole n t w) = refl
rows-more [] (lines_of.Case t w) = refl
rows-more [] (lines_of.Declare spot n t u w) = refl
rows-more (lines_of.Operator n k s l ms ∷ above) line = refl
rows-more (lines_of.Sort d ∷ above) line = rows-more above line
rows-more (lines_of.Space spot s ∷ above) line = rows-more above line
rows-more (lines_of.Phylum n s b ∷ above) line = rows-more above line
rows-more (lines_of.List n s e w l u ∷ above) line = rows-more above line
rows-more (lines_of.Row t ts ∷ above) line = rows-more above line
rows-more (lines_of.Nil n t ∷ above) line = rows-more above line
rows-more (lines_of.Cell n t u v ∷ above) line = rows-more above line
rows-more (lines_of.Hole n t w ∷ above) line = rows-more above line
rows-more (lines_of.Case t w ∷ above) line = rows-more above line
rows-more (lines_of.Declare spot n t u w ∷ above) line = rows-more above line

cases-one : (so_far : Bool) (line : Line) → takes_cases so_far (line ∷ []) ≡ cases_behind so_far line
cases-one so_far (lines_of.Hole n t None) = refl
cases-one so_far (lines_of.Hole n t (Some w)) = refl
cases-one so_far (lines_of.Operator n k s l ms) = refl
cases-one so_far (lines_of.Sort d) = refl
cases-one so_far (lines_of.Space spot s) = refl
cases-one so_far (lines_of.Phylum n s b) = refl
cases-one so_far (lines_of.List n s e w l u) = refl
cases-one so_far (lines_of.Row t ts) = refl
cases-one so_far (lines_of.Nil n t) = refl
cases-one so_far (lines_of.Cell n t u v) = refl
cases-one so_far (lines_of.Case t w) = refl
cases-one so_far (lines_of.Declare spot n t u w) = refl

cases-more : (so_far : Bool) (above : List Line) (line : Line) → takes_cases so_far (above ++ line ∷ []) ≡ cases_behind (takes_cases so_far above) line
cases-more so_far [] line = cases-one so_far line
cases-more so_far (lines_of.Hole n t None ∷ above) line = cases-more true above line
cases-more so_far (lines_of.Hole n t (Some w) ∷ above) line = cases-more false above line
cases-more so_far (lines_of.Operator n k s l ms ∷ above) line = cases-more so_far above line
cases-more so_far (lines_of.Sort d ∷ above) line = cases-more so_far above line
cases-more so_far (lines_of.Space spot s ∷ above) line = cases-more so_far above line
cases-more so_far (lines_of.Phylum n s b ∷ above) line = cases-more so_far above line
cases-more so_far (lines_of.List n s e w l u ∷ above) line = cases-more so_far above line
cases-more so_far (lines_of.Row t ts ∷ above) line = cases-more so_far above line
cases-more so_far (lines_of.Nil n t ∷ above) line = cases-more so_far above line
cases-more so_far (lines_of.Cell n t u v ∷ above) line = cases-more so_far above line
cases-more so_far (lines_of.Case t w ∷ above) line = cases-more so_far above line
cases-more so_far (lines_of.Declare spot n t u w ∷ above) line = cases-more so_far above line

rows-entry : (es : List Entry) (e : Entry) → takes_rows (written (es ++ e ∷ [])) ≡ rows_after (takes_rows (written es)) e
rows-entry es None = ap takes_rows (written-append es (None ∷ []) ∙ append-nil (written es))
rows-entry es (Some line) = ap takes_rows (written-append es (Some line ∷ [])) ∙ rows-more (written es) line

cases-entry : (es : List Entry) (e : Entry) → takes_cases false (written (es ++ e ∷ [])) ≡ cases_after (takes_cases false (written es)) e
cases-entry es None = ap (takes_cases false) (written-append es (None ∷ []) ∙ append-nil (written es))
cases-entry es (Some line) = ap (takes_cases false) (written-append es (Some line ∷ [])) ∙ cases-more false (written es) line

plain-entry : (version : ℕ) (es : List Entry) (e : Entry) → AllByRecursion (IsPlain version) (written es) → IsPlainEntry version e → AllByRecursion (IsPlain version) (written (es ++ e ∷ []))
plain-entry version es None h p = subst (AllByRecursion (IsPlain version)) (sym (written-append es (None ∷ []) ∙ append-nil (written es))) h
plain-entry version es (Some line) h p = subst (AllByRecursion (IsPlain version)) (sym (written-append es (Some line ∷ []))) (each_push (IsPlain version) (written es) line h p)

-- ---- a text that is read has no fault

passes-all : (version : ℕ) (above : List Line) (text : List ℕ) (e : Entry) → IsOnly (IsEntry above text) e → IsPlainEntry version e → (code : DefCode) → PassesForm version above text code
passes-all version above text e o p codes_of.Form = by_entry e o.is p
  where
    by_entry : (e : Entry) → IsEntry above text e → IsPlainEntry version e → IsSkipped text ⊎ ((line : Line) × IsLineBehind above text line × (is_of version line ≡ true))
    by_entry None h k = inl h
    by_entry (Some line) h k = inr (line, h, k.of_version)
passes-all version above text e o p codes_of.Token = λ line h. (let same = o.only (Some line) h in (subst (IsPlainEntry version) (sym same) p).words)
passes-all version above text e o p codes_of.Nested = λ line h. (let same = o.only (Some line) h in (subst (IsPlainEntry version) (sym same) p).shallow)
passes-all version above text e o p codes_of.NotText = tt
passes-all version above text e o p codes_of.Version = tt
passes-all version above text e o p codes_of.Repeated = tt
passes-all version above text e o p codes_of.Unknown = tt
passes-all version above text e o p codes_of.Sort = tt
passes-all version above text e o p codes_of.Count = tt
passes-all version above text e o p codes_of.NoEntity = tt
passes-all version above text e o p codes_of.Later = tt
passes-all version above text e o p codes_of.NoGround = tt
passes-all version above text e o p codes_of.OneWide = tt

first-none : (Passes : DefCode → Type 0) → ((code : DefCode) → Passes code) → (cs : List DefCode) (code : DefCode) → IsFirstOf Passes cs code → ⊥
first-none Passes all [] code h = h
first-none Passes all (c ∷ cs) code (inl h) = h.0 (all c)
first-none Passes all (c ∷ cs) code (inr h) = first-none Passes all cs code h.1

-- ---- the loop

pub record IsReadUpTo (version : ℕ) (ts : List (List ℕ)) (i : ℕ) (entries : List Entry) (rows cases : Bool) : Type 0 where
  pub only : IsOnly (AreEntries [] (take i ts)) entries
  pub plain : AllByRecursion (IsPlain version) (written entries)
  pub rows_are : takes_rows (written entries) ≡ rows
  pub cases_are : takes_cases false (written entries) ≡ cases
  pub count : length entries ≡ i
  pub clean : (fault : DefFault) (h : HasFormFault version ts fault) → length h.front < i → ⊥

pub read-start : (version : ℕ) (ts : List (List ℕ)) (entries : List Entry) → entries ≡ [] → IsReadUpTo version ts 0 entries false false
read-start version ts entries e = subst (λ es. IsReadUpTo version ts 0 es false false) (sym e) (record {
  only = record { is = tt; only = λ z h. nothing z h };
  plain = tt;
  rows_are = refl;
  cases_are = refl;
  count = refl;
  clean = λ fault h l. omega arith;
})
  where
    nothing : (z : List Entry) → AreEntries [] [] z → z ≡ []
    nothing [] h = refl
    nothing (x ∷ z) h = absurd h

-- the front of the texts is fixed by its length
front-is : (ts front : List (List ℕ)) (text : List ℕ) (behind : List (List ℕ)) → ts ≡ front ++ text ∷ behind → (front ≡ take (length front) ts) × (text ≡ get_or ts (length front) text) × (length front < length ts)
front-is ts front text behind e = (
  sym (ap (take (length front)) e ∙ take-append_seam front (text ∷ behind)),
  sym (ap (λ x. get_or x (length front) text) e ∙ at front),
  omega (arith, ap length e, length-append front (text ∷ behind)),
)
  where
    at : (xs : List (List ℕ)) → get_or (xs ++ text ∷ behind) (length xs) text ≡ text
    at [] = refl
    at (x ∷ xs) = at xs

pub read-next : (version : ℕ) (ts : List (List ℕ)) (i : ℕ) (t : List ℕ) (entries new : List Entry) (rows cases : Bool) (e : Entry) → i < length ts → t ≡ get_or ts i t → IsReadUpTo version ts i entries rows cases
    → IsEntryRead version (written entries) t (reads.Found e) → new ≡ entries ++ e ∷ [] → IsReadUpTo version ts (i + 1) new (rows_after rows e) (cases_after cases e)
read-next version ts i t entries new rows cases e l at h r added =
    let grown : take (i + 1) ts ≡ take i ts ++ t ∷ [] = take_item ts i t l at in
    subst (λ es. IsReadUpTo version ts (i + 1) es (rows_after rows e) (cases_after cases e)) (sym added) (record {
      only = record {
        is = subst (λ xs. AreEntries [] xs (entries ++ e ∷ [])) (sym grown) (snoc-sound [] (take i ts) t entries e h.only.is r.0.is);
        only = λ whole k. others whole (snoc-split [] (take i ts) t whole (subst (λ xs. AreEntries [] xs whole) grown k));
      };
      plain = plain-entry version entries e h.plain r.1;
      rows_are = rows-entry entries e ∙ ap (λ b. rows_after b e) h.rows_are;
      cases_are = cases-entry entries e ∙ ap (λ b. cases_after b e) h.cases_are;
      count = omega (arith, length-append entries (e ∷ []), h.count);
      clean = λ fault f m. by_place fault f (before (length f.front) i m);
    })
  where
    others : (whole : List Entry) → IsSnoc [] (take i ts) t whole → whole ≡ entries ++ e ∷ []
    others whole s =
        let front : s.front ≡ entries = h.only.only s.front s.each in
        let last : s.last ≡ e = r.0.only s.last (subst (λ x. IsEntry (written x) t s.last) front s.is) in
        s.split ∙ ap (λ x. x ++ s.last ∷ []) front ∙ ap (λ x. entries ++ x ∷ []) last

    before : (m n : ℕ) → m < n + 1 → (m < n) ⊎ (m ≡ n)
    before m n k = elim (eqb_tells m n) [ inl x ↦ inr x.1 | inr x ↦ inl (omega (arith, x.1)) ]

    by_place : (fault : DefFault) (f : HasFormFault version ts fault) → (length f.front < i) ⊎ (length f.front ≡ i) → ⊥
    by_place fault f (inl m) = h.clean fault f m
    by_place fault f (inr m) =
        let place = front-is ts f.front f.text f.behind f.split in
        let front : f.front ≡ take i ts = place.0 ∙ ap (λ n. take n ts) m in
        let text : f.text ≡ t = place.1 ∙ ap (λ n. get_or ts n f.text) m ∙ get_or_default ts i f.text t l ∙ sym at in
        let same : f.entries ≡ entries = h.only.only f.entries (subst (λ xs. AreEntries [] xs f.entries) front f.each) in
        first-none (PassesForm version (written entries) t) (passes-all version (written entries) t e r.0 r.1) form_codes fault.code
        (subst (λ x. IsFirstOf (PassesForm version (written entries) x) form_codes fault.code) text (subst (λ x. IsFirstOf (PassesForm version (written x) f.text) form_codes fault.code) same f.first))

pub read-fault : (version : ℕ) (ts : List (List ℕ)) (i : ℕ) (t : List ℕ) (entries : List Entry) (rows cases : Bool) (fault : DefFault) → i < length ts → t ≡ get_or ts i t → IsReadUpTo version ts i entries rows cases
    → IsEntryRead version (written entries) t (reads.Fault fault.code) → fault.line ≡ length entries + 2 → HasFormFault version ts fault
read-fault version ts i t entries rows cases fault l at h r place = record {
  front = take i ts;
  text = t;
  behind = drop (i + 1) ts;
  split = sym (take-append-drop (i + 1) ts) ∙ ap (λ x. x ++ drop (i + 1) ts) (take_item ts i t l at) ∙ append_assoc (take i ts) (t ∷ []) (drop (i + 1) ts);
  entries = entries;
  each = h.only.is;
  plain = h.plain;
  first = r;
  place = omega (arith, place, h.count, length-take i ts);
}

pub read-all : (version : ℕ) (ts : List (List ℕ)) (i : ℕ) (entries : List Entry) (rows cases : Bool) → length ts ≤ i → IsReadUpTo version ts i entries rows cases → AreEntriesRead version ts entries
read-all version ts i entries rows cases l h = record {
  only = subst (λ xs. IsOnly (AreEntries [] xs) entries) (take_all i ts l) h.only;
  plain = h.plain;
  clean = λ fault f. h.clean fault f (omega (arith, (front-is ts f.front f.text f.behind f.split).2));
}

-- ---- texts at their indices

pub text-at : (ts : List (Bor (List ℕ))) (i : ℕ) (d : Bor (List ℕ)) → i < length ts → (get_or ts i d).now ≡ get_or (texts ts) i (get_or ts i d).now
text-at [] i d h = absurd (omega arith)
text-at (t ∷ ts) zero d h = refl
text-at (t ∷ ts) (suc i) d h = text-at ts i d (omega arith)

pub map-texts : (ts : List (Bor (List ℕ))) → map (λ t. t.now) ts ≡ texts ts
map-texts [] = refl
map-texts (t ∷ ts) = ap (λ x. t.now ∷ x) (map-texts ts)
