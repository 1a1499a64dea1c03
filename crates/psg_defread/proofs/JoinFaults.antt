-- A text whose lines are spelled, plain and passed has no fault, and what is known of the lines of a text without a
-- fault.
use Rattle.std.proofs.Common.{◌≡◌, true, inl, inr, ℕ, ◌+◌, List, [], ◌∷◌, ◌++◌, length, map, refl, ap, ap₂, sym, ◌∙◌, subst, append_assoc, append-nil, arith}
use Rattle.std.specs.Prelude.{Some, None, IsUtf8}
use Rattle.std.specs.List.{AllByRecursion}
use Rattle.std.specs.Str.Lines.{lines as texts_of}
use Rattle.std.proofs.lemmas.List.{take_all}
use Rattle.psg_deflines.specs.Forms.{SpellsLine, HasFixedWords, IsShallow}
use Rattle.psg_deflines.specs.Versions.{is_of}
use Rattle.psg_deflines.proofs.HeadLaws.{one-head-line}
use Rattle.psg_deflines.specs.Entries.{IsLineBehind, Entry, IsEntry, written, AreEntries, AreSpelled, HasHead, behind_head, IsPlain}
use Rattle.psg_deflines.specs.Reading.{HasEntries, AreLinesOf, HasNoFormFault}
use Rattle.psg_deflines.specs.Refusals.{HasFormFault, IsFirstOf, PassesForm, form_codes, no_text, no_head, no_form}
use Rattle.psg_deflines.specs.declared.fault.DefCode.{DefCode}
use Rattle.psg_deflines.specs.declared.fault.DefCode.TheVariants as codes_of
use Rattle.psg_deflines.specs.declared.fault.DefFault.{DefFault}
use Rattle.psg_deflines.specs.declared.lines.Line.{Line}
use Rattle.psg_defcheck.specs.Faults.{ArePassed}
use Rattle.psg_defread.specs.Refusals as refusals
use Rattle.psg_defread.specs.Reading.{IsFaultless}
use Rattle.psg_defread.proofs.JoinTexts.{written-some}
use Rattle.psg_defread.proofs.Faultless.{faultless, all_pass}
use Rattle.psg_defcheck.proofs.GroundLaws.{written-append}

pub heads-same : (v w : ℕ) (texts : List (List ℕ)) → HasHead v texts → HasHead w texts → v ≡ w
heads-same v w [] h k = absurd h
heads-same v w (t ∷ texts) h k = one-head-line v w t h k

-- a text spells one line
abbrev pub SpellOnce : Type 0
SpellOnce = (t : List ℕ) (a b : Line) → SpellsLine t a → SpellsLine t b → a ≡ b

module _ (once : SpellOnce) where
  entry-once : (above : List Line) (t : List ℕ) (e f : Entry) → IsEntry above t e → IsEntry above t f → e ≡ f
  entry-once above t None None h k = refl
  entry-once above t None (Some b) h k = absurd (k.no_comment h)
  entry-once above t (Some a) None h k = absurd (h.no_comment k)
  entry-once above t (Some a) (Some b) h k = ap Some (once t a b h.spelled k.spelled)

  pub entries-once : (above : List Line) (ts : List (List ℕ)) (es fs : List Entry) → AreEntries above ts es
      → AreEntries above ts fs → es ≡ fs
  entries-once above [] [] [] h k = refl
  entries-once above [] [] (f ∷ fs) h k = absurd k
  entries-once above [] (e ∷ es) fs h k = absurd h
  entries-once above (t ∷ ts) [] fs h k = absurd h
  entries-once above (t ∷ ts) (e ∷ es) [] h k = absurd k
  entries-once above (t ∷ ts) (e ∷ es) (f ∷ fs) h k =
      let same = entry-once above t e f h.0 k.0 in
      ap₂ (λ x xs. x ∷ xs) same
      (entries-once (above ++ written (e ∷ [])) ts es fs h.1
      (subst (λ x. AreEntries (above ++ written (x ∷ [])) ts fs) (sym same) k.1))

  -- ---- no fault of form

  passes : (version : ℕ) (above : List Line) (t : List ℕ) (e : Entry) → IsEntry above t e → AllByRecursion (IsPlain version) (written (e ∷ []))
      → AllByRecursion (PassesForm version above t) form_codes
  passes version above t None h p = (
    inl h,
    ((λ line k. absurd (k.no_comment h)), ((λ line k. absurd (k.no_comment h)), tt)),
  )
  passes version above t (Some own) h p = (
    inr (own, h, p.0.of_version),
    (
      (λ line k. subst HasFixedWords (once t own line h.spelled k.spelled) p.0.words),
      ((λ line k. subst IsShallow (once t own line h.spelled k.spelled) p.0.shallow), tt),
    ),
  )

  -- the entry at a text
  pub clean-at : (version : ℕ) (above : List Line) (front : List (List ℕ)) (t : List ℕ) (behind : List (List ℕ)) (es fs : List Entry)
      → AreEntries above (front ++ t ∷ behind) es → AreEntries above front fs → AllByRecursion (IsPlain version) (written es)
      → AllByRecursion (PassesForm version (above ++ written fs) t) form_codes
  clean-at version above [] t behind [] fs h k p = absurd h
  clean-at version above [] t behind (e ∷ es) (f ∷ fs) h k p = absurd k
  clean-at version above [] t behind (e ∷ es) [] h k p =
      subst (λ a. AllByRecursion (PassesForm version a t) form_codes) (sym (append-nil above))
      (passes version above t e h.0 (first e es p))
    where
      first : (x : Entry) (xs : List Entry) → AllByRecursion (IsPlain version) (written (x ∷ xs))
          → AllByRecursion (IsPlain version) (written (x ∷ []))
      first None xs q = tt
      first (Some line) xs q = (q.0, tt)
  clean-at version above (u ∷ front) t behind [] fs h k p = absurd h
  clean-at version above (u ∷ front) t behind (e ∷ es) [] h k p = absurd k
  clean-at version above (u ∷ front) t behind (e ∷ es) (f ∷ fs) h k p =
      let same = entry-once above u e f h.0 k.0 in
      let far : (above ++ written (e ∷ [])) ++ written fs ≡ above ++ written (f ∷ fs) =
      append_assoc above (written (e ∷ [])) (written fs)
      ∙ ap (λ l. above ++ l) (sym (written-append (e ∷ []) fs) ∙ ap (λ x. written (x ∷ fs)) same) in
      subst (λ a. AllByRecursion (PassesForm version a t) form_codes) far
      (clean-at version (above ++ written (e ∷ [])) front t behind es fs h.1
      (subst (λ x. AreEntries (above ++ written (x ∷ [])) front fs) (sym same) k.1) (rest e es p))
    where
      rest : (x : Entry) (xs : List Entry) → AllByRecursion (IsPlain version) (written (x ∷ xs))
          → AllByRecursion (IsPlain version) (written xs)
      rest None xs q = q
      rest (Some line) xs q = q.1

  pub clean : (version : ℕ) (bytes : List ℕ) (es : List Entry) → IsUtf8 bytes → AreSpelled version (texts_of bytes) es
      → AllByRecursion (IsPlain version) (written es) → HasNoFormFault bytes
  clean version bytes es utf8 spelled plain fault (no_text n bad line code) =
      bad.longest (length bytes) bad.inside (omega arith)
      (subst IsUtf8 (sym (take_all (length bytes) bytes (omega arith))) utf8)
  clean version bytes es utf8 spelled plain fault (no_head u none line code) = none version spelled.head
  clean version bytes es utf8 spelled plain fault (no_form v u head g) =
      let f = subst (λ n. HasFormFault n (behind_head (texts_of bytes)) fault) (heads-same v version (texts_of bytes) head spelled.head) g in
      let each = subst (λ ts. AreEntries [] ts es) f.split spelled.each in
      all_pass (PassesForm version (written f.entries) f.text) form_codes fault.code
      (clean-at version [] f.front f.text f.behind es f.entries each f.each plain) f.first

  pub text-faultless : (version : ℕ) (bytes : List ℕ) (ls : List Line) → IsUtf8 bytes → AreSpelled version (texts_of bytes) (map Some ls)
      → ((AllByRecursion (IsPlain version) ls → ⊥) → ⊥) → ArePassed ls [] ls → IsFaultless bytes
  text-faultless version bytes ls utf8 spelled plain passed fault refused = plain (λ p.
      let es = map Some ls in
      let all : AllByRecursion (IsPlain version) (written es) = subst (AllByRecursion (IsPlain version)) (sym (written-some ls)) p in
      let passes : ArePassed (written es) [] (written es) =
      subst (λ l. ArePassed l [] l) (sym (written-some ls)) passed in
      let read : AreLinesOf bytes version es = record { spelled = record { utf8 = utf8; spelled = spelled }; plain = all } in
      let only : (v : ℕ) (other : List Entry) → HasEntries bytes v other → (v ≡ version) × (other ≡ es) =
      λ v other h. (heads-same v version (texts_of bytes) h.spelled.head spelled.head, entries-once [] (behind_head (texts_of bytes)) other es h.spelled.each spelled.each) in
      faultless bytes version es read only (clean version bytes es utf8 spelled all) passes fault refused)

  -- ---- what is known of a text without a fault

  entries-snoc : (above : List Line) (ts : List (List ℕ)) (es : List Entry) (t : List ℕ) (e : Entry)
      → AreEntries above ts es → IsEntry (above ++ written es) t e → AreEntries above (ts ++ t ∷ []) (es ++ e ∷ [])
  entries-snoc above [] [] t e h k = (subst (λ a. IsEntry a t e) (append-nil above) k, tt)
  entries-snoc above [] (f ∷ es) t e h k = absurd h
  entries-snoc above (u ∷ ts) [] t e h k = absurd h
  entries-snoc above (u ∷ ts) (f ∷ es) t e h k =
      let far : above ++ written (f ∷ es) ≡ (above ++ written (f ∷ [])) ++ written es =
      ap (λ l. above ++ l) (written-append (f ∷ []) es) ∙ sym (append_assoc above (written (f ∷ [])) (written es)) in
      (h.0, entries-snoc (above ++ written (f ∷ [])) ts es t e h.1 (subst (λ a. IsEntry a t e) far k))

  plain-snoc : (version : ℕ) (xs ys : List Line) → AllByRecursion (IsPlain version) xs → AllByRecursion (IsPlain version) ys
      → AllByRecursion (IsPlain version) (xs ++ ys)
  plain-snoc version [] ys h k = k
  plain-snoc version (x ∷ xs) ys h k = (h.0, plain-snoc version xs ys h.1 k)

  module _ (version : ℕ) (bytes : List ℕ) (utf8 : IsUtf8 bytes) (none : IsFaultless bytes) (head : HasHead version (texts_of bytes)) where
    -- a fault of the form of a line
    refused : (front : List (List ℕ)) (t : List ℕ) (behind : List (List ℕ)) (es : List Entry) (code : DefCode)
        → behind_head (texts_of bytes) ≡ front ++ t ∷ behind → AreEntries [] front es
        → AllByRecursion (IsPlain version) (written es)
        → IsFirstOf (PassesForm version (written es) t) form_codes code → ⊥
    refused front t behind es code e each plain first =
        let fault : DefFault = record { line = length front + 2; code = code } in
        none fault (refusals.no_form (no_form version utf8 head (record {
          front = front;
          text = t;
          behind = behind;
          split = e;
          entries = es;
          each = each;
          plain = plain;
          first = first;
          place = refl;
        })))

    line-plain : (front : List (List ℕ)) (t : List ℕ) (behind : List (List ℕ)) (es : List Entry) (line : Line)
        → behind_head (texts_of bytes) ≡ front ++ t ∷ behind → AreEntries [] front es
        → AllByRecursion (IsPlain version) (written es)
        → IsLineBehind (written es) t line → is_of version line ≡ true → (IsPlain version line → ⊥) → ⊥
    line-plain front t behind es line e each plain is right not =
        let no-words : HasFixedWords line → ⊥ = λ words.
        let no-shallow : IsShallow line → ⊥ = λ shallow. not (record { of_version = right; words = words; shallow = shallow }) in
        refused front t behind es codes_of.Nested e each plain (inr (
          inr (line, is, right),
          inr (
            (λ other k. subst HasFixedWords (once t line other is.spelled k.spelled) words),
            inl ((λ all. no-shallow (all line is)), refl),
          ),
        )) in
        refused front t behind es codes_of.Token e each plain
        (inr (inr (line, is, right), inl ((λ all. no-words (all line is)), refl)))

    entries-plain : (front ts : List (List ℕ)) (es fs : List Entry) → behind_head (texts_of bytes) ≡ front ++ ts
        → AreEntries [] front es → AllByRecursion (IsPlain version) (written es) → AreEntries (written es) ts fs
        → AllByRecursion (λ line. is_of version line ≡ true) (written fs) → (AllByRecursion (IsPlain version) (written fs) → ⊥) → ⊥
    entries-plain front [] es [] e each plain h right not = not tt
    entries-plain front [] es (f ∷ fs) e each plain h right not = absurd h
    entries-plain front (t ∷ ts) es [] e each plain h right not = absurd h
    entries-plain front (t ∷ ts) es (None ∷ fs) e each plain h right not =
        let same : written (es ++ None ∷ []) ≡ written es = written-append es (None ∷ []) ∙ append-nil (written es) in
        let same2 : written es ++ [] ≡ written (es ++ None ∷ []) = append-nil (written es) ∙ sym same in
        entries-plain (front ++ t ∷ []) ts (es ++ None ∷ []) fs (e ∙ sym (append_assoc front (t ∷ []) ts))
        (entries-snoc [] front es t None each h.0) (subst (AllByRecursion (IsPlain version)) (sym same) plain)
        (subst (λ a. AreEntries a ts fs) same2 h.1) right not
    entries-plain front (t ∷ ts) es (Some line ∷ fs) e each plain h right not =
        line-plain front t ts es line e each plain h.0 right.0 (λ own.
        let same : written (es ++ Some line ∷ []) ≡ written es ++ line ∷ [] = written-append es (Some line ∷ []) in
        entries-plain (front ++ t ∷ []) ts (es ++ Some line ∷ []) fs (e ∙ sym (append_assoc front (t ∷ []) ts))
        (entries-snoc [] front es t (Some line) each h.0)
        (subst (AllByRecursion (IsPlain version)) (sym same) (plain-snoc version (written es) (line ∷ []) plain (own, tt)))
        (subst (λ a. AreEntries a ts fs) (sym same) h.1) right.1 (λ rest. not (own, rest)))

    pub text-plain : (es : List Entry) → AreEntries [] (behind_head (texts_of bytes)) es
        → AllByRecursion (λ line. is_of version line ≡ true) (written es) → (AllByRecursion (IsPlain version) (written es) → ⊥) → ⊥
    text-plain es h right not = entries-plain [] (behind_head (texts_of bytes)) [] es refl tt tt h right not
