-- Texts with a line feed behind each, and the lines that they spell. No line feed and no carriage return is in a line.
use Rattle.std.proofs.Common.{◌≡◌, ◌≢◌, ◌==◌, ◌||◌, ℕ, ◌<◌, ◌≤◌, Bool, true, false, cond, List, [], ◌∷◌, ◌++◌, length, get_or, replicate, zero, suc, append-nil, inl, inr, refl, sym, ◌∙◌, subst, arith, ◌+◌, ◌-◌, if◌then◌else◌, take, map, ap, ap₂, append_assoc}
use Rattle.std.specs.Prelude.{chars, encode_utf8, encode_utf8_all, is_some, nat_lt, nat_le, codes, Some, slice_index}
use Rattle.std.specs.List.{AllByRecursion, list_all, list_any, slice_split}
use Rattle.std.proofs.lemmas.Bool.{and_parts, or_cases, cases_lt, eqb-true, false≢true}
use Rattle.std.proofs.lemmas.Bool.Decides.{eqb_tells, nat_tests}
use Rattle.std.proofs.lemmas.Str.{inside_one}
use Rattle.std.proofs.lemmas.List.Elements.{recursion_from_All, All-from_get_or, All-from_recursion, All-weaker}
use Rattle.unicode_width.specs.Width.{char_width}
use Rattle.psg_grammar.specs.Sound.{is_upper, is_lower, is_digit}
use Rattle.psg_lexis.specs.Classes.{All}
use Rattle.psg_lexis.specs.Tokens.{is_content, escaped, quoted}
use Rattle.psg_deflines.specs.WrittenTrees.{IsQuotable, quoted_part}
use Rattle.psg_deflines.specs.WrittenTerms.{is_plain}
use Rattle.psg_deflines.specs.Written.{goes_on_word, IsWritten}
use Rattle.psg_deflines.specs.Parts.{is_mark, is_sigil, goes_behind, IsPart, a_word, a_mark, a_sigil, a_quoted}
use Rattle.psg_deflines.specs.Forms.{SpellsLine, parts_of, HasForm, tag}
use Rattle.psg_deflines.specs.declared.lines.Line.{Line}
use Rattle.psg_deflines.proofs.SpellLaws.{line-parts}
use Rattle.std.specs.List as lists
use Rattle.std.specs.Str.Lines.{lines as texts_of, lines_of_parts, strip_carriage_return}
use Rattle.std.proofs.lemmas.List.Splits.{slice_split_at}
use Rattle.psg_terms.proofs.Lists.{take_item}
use Rattle.psg_deflines.specs.Versions.{IsVersion, is_of}
use Rattle.psg_defread.specs.DefinitionText.{fed, head_text, line_text}
use Rattle.psg_deflines.specs.Entries.{IsSkipped, HasPlace, AreEntries, AreSpelled, HasHead, written}
use Rattle.psg_deflines.specs.declared.lines.Line.TheVariants as lines

-- a space, or a character behind it in the order of codes
abbrev pub IsClear : ℕ → Type 0
IsClear c = 32 ≤ c

abbrev pub AreClear : List ℕ → Type 0
AreClear = AllByRecursion IsClear

pub clear-append : (xs ys : List ℕ) → AreClear xs → AreClear ys → AreClear (xs ++ ys)
clear-append [] ys h k = k
clear-append (x ∷ xs) ys h k = (h.0, clear-append xs ys h.1 k)

run-clear : (test : ℕ → Bool) → ((c : ℕ) → test c ≡ true → IsClear c) → (cs : List ℕ) → list_all test cs ≡ true
    → AreClear cs
run-clear test clear [] h = tt
run-clear test clear (c ∷ cs) h =
    let both = and_parts (test c) (list_all test cs) h in
    (clear c both.0, run-clear test clear cs both.1)

-- ---- the characters of words, marks and names

word-clear : (c : ℕ) → goes_on_word c ≡ true → IsClear c
word-clear c h = elim (cases_lt c 32) [
  | inl small ↦ absurd (false≢true (sym (below c small) ∙ h))
  | inr large ↦ large
]
  where
    below : (d : ℕ) → d < 32 → goes_on_word d ≡ false
    below d small = grind (arith, nat_tests)

behind-clear : (s c : ℕ) → goes_behind s c ≡ true → IsClear c
behind-clear s c h = by_sigil (s == 63) h
  where
    small : (d : ℕ) → d < 32 → ((is_upper d || is_lower d) || is_digit d) ≡ false
    small d k = grind (arith, nat_tests)

    lower : (d : ℕ) → d < 32 → (is_lower d || is_digit d) ≡ false
    lower d k = grind (arith, nat_tests)

    by_sigil : (b : Bool) → cond b (is_plain c) (is_lower c || is_digit c) ≡ true → IsClear c
    by_sigil true k = elim (cases_lt c 32) [ inl l ↦ absurd (false≢true (sym (small c l) ∙ k)) | inr l ↦ l ]
    by_sigil false k = elim (cases_lt c 32) [ inl l ↦ absurd (false≢true (sym (lower c l) ∙ k)) | inr l ↦ l ]

any-clear : (c : ℕ) (ds : List ℕ) → AreClear ds → list_any (λ d. c == d) ds ≡ true → IsClear c
any-clear c [] h k = absurd (false≢true k)
any-clear c (d ∷ ds) h k = elim (or_cases (c == d) (list_any (λ e. c == e) ds) k) [
  | inl e ↦ subst IsClear (sym (eqb-true c d e)) h.0
  | inr e ↦ any-clear c ds h.1 e
]

mark-clear : (c : ℕ) → is_mark c ≡ true → IsClear c
mark-clear c h = any-clear c (codes ":=(),[]|") (run-clear (λ d. nat_le 32 d) large (codes ":=(),[]|") refl) h
  where
    large : (d : ℕ) → nat_le 32 d ≡ true → 32 ≤ d
    large d k = grind (arith, nat_tests)

sigil-clear : (c : ℕ) → is_sigil c ≡ true → IsClear c
sigil-clear c h = elim (or_cases (c == 63) (c == 36) h) [
  | inl e ↦ omega (arith, eqb-true c 63 e)
  | inr e ↦ omega (arith, eqb-true c 36 e)
]

-- ---- quoted texts

no_width : (c : ℕ) → c < 32 → is_some (char_width false c) ≡ false
unfolding char_width
no_width c small =
    let a : nat_lt c 0x7F ≡ true = grind (arith, nat_tests) in
    let b : nat_le 0x20 c ≡ false = grind (arith, nat_tests) in
    rw (a, b) refl

content-clear : (c : ℕ) → is_content c ≡ true → c ≢ 10 → IsClear c
content-clear c h other = elim (cases_lt c 32) [
  | inl small ↦ elim (or_cases (c == 10) (is_some (char_width false c)) h) [
    | inl e ↦ absurd (other (eqb-true c 10 e))
    | inr e ↦ absurd (false≢true (sym (no_width c small) ∙ e))
  ]
  | inr large ↦ large
]

escaped-clear : (c : ℕ) → is_content c ≡ true → AreClear (escaped c)
escaped-clear c h =
    elim (eqb_tells c 34) [
      | inl p ↦ rw p.0 (omega arith, (omega arith, tt))
      | inr p ↦ elim (eqb_tells c 92) [
        | inl q ↦ rw (p.0, q.0) (omega arith, (omega arith, tt))
        | inr q ↦ elim (eqb_tells c 10) [
          | inl r ↦ rw (p.0, q.0, r.0) (omega arith, (omega arith, tt))
          | inr r ↦ rw (p.0, q.0, r.0) (content-clear c h r.1, tt)
        ]
      ]
    ]

quoted-clear : (cs : List ℕ) → All is_content cs → AreClear (quoted cs)
quoted-clear [] h = tt
quoted-clear (c ∷ cs) h = clear-append (escaped c) (quoted cs) (escaped-clear c h.0) (quoted-clear cs h.1)

encode-clear : (c : ℕ) → IsClear c → AreClear (encode_utf8 c)
encode-clear c h = recursion_from_All IsClear (encode_utf8 c) (All-from_get_or IsClear (encode_utf8 c) 0 each)
  where
    each : (i : ℕ) → i < length (encode_utf8 c) → IsClear (get_or (encode_utf8 c) i 0)
    each i l = elim (cases_lt (get_or (encode_utf8 c) i 0) 128) [
      | inl small ↦ omega (arith, h, inside_one c [] (encode_utf8 c) i (sym (append-nil (encode_utf8 c))) l small)
      | inr large ↦ omega (arith, large)
    ]

encodes-clear : (cs : List ℕ) → AreClear cs → AreClear (encode_utf8_all cs)
encodes-clear [] h = tt
encodes-clear (c ∷ cs) h = clear-append (encode_utf8 c) (encode_utf8_all cs) (encode-clear c h.0) (encodes-clear cs h.1)

text-clear : (w : List ℕ) → IsQuotable w → AreClear (quoted_part w)
text-clear w h =
    encodes-clear (34 ∷ (quoted (chars w) ++ 34 ∷ []))
    (omega arith, clear-append (quoted (chars w)) (34 ∷ []) (quoted-clear (chars w) h.contents) (omega arith, tt))

-- ---- parts and lines

pub part-clear : (p : List ℕ) → IsPart p → AreClear p
part-clear p (a_word w) = run-clear goes_on_word word-clear p w.1
part-clear p (a_mark m) = subst AreClear (sym m.whole) (mark-clear m.mark m.is, tt)
part-clear p (a_sigil s) =
    subst AreClear (sym s.whole) (
      sigil-clear s.sigil s.is,
      run-clear (goes_behind s.sigil) (behind-clear s.sigil)
          s.name s.run,
    )
part-clear p (a_quoted q) = subst AreClear (sym q.whole) (text-clear q.contents q.is)

spaces-clear : (n : ℕ) → AreClear (replicate n 32)
spaces-clear zero = tt
spaces-clear (suc n) = (omega arith, spaces-clear n)

written-clear : (ps : List (List ℕ)) (t : List ℕ) → AllByRecursion IsPart ps → IsWritten ps t → AreClear t
written-clear [] t h e = subst AreClear (sym e) tt
written-clear (p ∷ []) t h e = subst AreClear (sym e) (part-clear p h.0)
written-clear (p ∷ q ∷ ps) t h (n, rest, e, apart, w) =
    subst AreClear (sym e)
    (clear-append p (replicate n 32 ++ rest) (part-clear p h.0)
    (clear-append (replicate n 32) rest (spaces-clear n) (written-clear (q ∷ ps) rest h.1 w)))

pub line-clear : (t : List ℕ) (line : Line) → SpellsLine t line → AreClear t
line-clear t line h = written-clear (parts_of line) t (line-parts line h.form) h.written

-- ---- texts with line feeds

fed-snoc : (ts : List (List ℕ)) (t : List ℕ) → fed (ts ++ t ∷ []) ≡ fed ts ++ (t ++ 10 ∷ [])
fed-snoc [] t = refl
fed-snoc (u ∷ ts) t = ap (λ l. u ++ 10 ∷ l) (fed-snoc ts t) ∙ sym (append_assoc u (10 ∷ fed ts) (t ++ 10 ∷ []))

-- ---- each text is a line again

clear-at : (xs : List ℕ) (i d : ℕ) → i < length xs → AreClear xs → IsClear (get_or xs i d)
clear-at [] i d h all = absurd (omega (arith, h))
clear-at (x ∷ xs) zero d h all = all.0
clear-at (x ∷ xs) (suc i) d h all = clear-at xs i d (omega (arith, h)) all.1

last-clear : (t : List ℕ) → AreClear t → slice_index t (length t - 1) ≢ 13
last-clear [] h e = absurd (omega (arith, e))
last-clear (c ∷ cs) h e =
    let k = clear-at (c ∷ cs) (length (c ∷ cs) - 1) 0 (omega arith) h in
    absurd (omega (arith, k, e))

strip-clear : (t : List ℕ) → AreClear t → strip_carriage_return t ≡ t
strip-clear t h = elim (eqb_tells (slice_index t (length t - 1)) 13) [
  | inl p ↦ absurd (last-clear t h p.1)
  | inr p ↦ ap (λ b. if b then take (length t - 1) t else t) p.0
]

no-feed : (t : List ℕ) → AreClear t → lists.All (λ b. (b == 10) ≡ false) t
no-feed t h = All-weaker IsClear (λ b. (b == 10) ≡ false) other t (All-from_recursion IsClear t h)
  where
    other : (b : ℕ) → IsClear b → (b == 10) ≡ false
    other b k = elim (eqb_tells b 10) [ inl p ↦ absurd (let e = p.1 in omega (arith, k, e)) | inr p ↦ p.0 ]

split-fed : (t : List ℕ) (rest : List ℕ) → AreClear t
    → slice_split (λ b. b == 10) (t ++ 10 ∷ rest) ≡ t ∷ slice_split (λ b. b == 10) rest
split-fed t rest h = slice_split_at (λ b. b == 10) t 10 rest (no-feed t h) refl

pub texts-again : (ts : List (List ℕ)) → AllByRecursion AreClear ts → texts_of (fed ts) ≡ ts
texts-again [] h = refl
texts-again (t ∷ []) h = ap lines_of_parts (split-fed t [] h.0) ∙ ap (λ x. x ∷ []) (strip-clear t h.0)
texts-again (t ∷ u ∷ ts) h =
    let rest = fed (u ∷ ts) in
    let more = slice_split (λ b. b == 10) (fed ts) in
    let second : slice_split (λ b. b == 10) rest ≡ u ∷ more = split-fed u (fed ts) h.1.0 in
    let behind : lines_of_parts (u ∷ more) ≡ u ∷ ts = ap lines_of_parts (sym second) ∙ texts-again (u ∷ ts) h.1 in
    ap lines_of_parts (split-fed t rest h.0 ∙ ap (λ l. t ∷ l) second) ∙ ap₂ (λ x l. x ∷ l) (strip-clear t h.0) behind

-- ---- the texts of lines

-- each text is that of its line, where the line has its form
abbrev pub AreTexts : List Line → List (List ℕ) → Type 0
AreTexts [] [] = Unit {0}
AreTexts [] (t ∷ ts) = ⊥
AreTexts (line ∷ ls) [] = ⊥
AreTexts (line ∷ ls) (t ∷ ts) = (HasForm line → SpellsLine t line) × AreTexts ls ts

texts-snoc : (ls : List Line) (ts : List (List ℕ)) (line : Line) (t : List ℕ) → AreTexts ls ts
    → (HasForm line → SpellsLine t line) → AreTexts (ls ++ line ∷ []) (ts ++ t ∷ [])
texts-snoc [] [] line t h k = (k, tt)
texts-snoc [] (u ∷ ts) line t h k = absurd h
texts-snoc (l ∷ ls) [] line t h k = absurd h
texts-snoc (l ∷ ls) (u ∷ ts) line t h k = (h.0, texts-snoc ls ts line t h.1 k)

-- each text is its line's, with one space between two parts, where the line has its form
abbrev pub AreSame : List Line → List (List ℕ) → Type 0
AreSame [] [] = Unit {0}
AreSame [] (t ∷ ts) = ⊥
AreSame (line ∷ ls) [] = ⊥
AreSame (line ∷ ls) (t ∷ ts) = (HasForm line → t ≡ line_text line) × AreSame ls ts

same-snoc : (ls : List Line) (ts : List (List ℕ)) (line : Line) (t : List ℕ) → AreSame ls ts
    → (HasForm line → t ≡ line_text line) → AreSame (ls ++ line ∷ []) (ts ++ t ∷ [])
same-snoc [] [] line t h k = (k, tt)
same-snoc [] (u ∷ ts) line t h k = absurd h
same-snoc (l ∷ ls) [] line t h k = absurd h
same-snoc (l ∷ ls) (u ∷ ts) line t h k = (h.0, same-snoc ls ts line t h.1 k)

same-texts : (ls : List Line) (ts : List (List ℕ)) → AreSame ls ts → AllByRecursion HasForm ls → ts ≡ map line_text ls
same-texts [] [] h f = refl
same-texts [] (t ∷ ts) h f = absurd h
same-texts (l ∷ ls) [] h f = absurd h
same-texts (l ∷ ls) (t ∷ ts) h f = ap₂ (λ x xs. x ∷ xs) (h.0 f.0) (same-texts ls ts h.1 f.1)

-- the text is the head and then the texts of the lines
pub record IsLaid (version : ℕ) (ls : List Line) (text : List ℕ) : Type 0 where
  pub texts : List (List ℕ)
  pub whole : text ≡ fed (head_text version ∷ texts)
  pub each : AreTexts ls texts
  pub same : AreSame ls texts

pub laid-start : (version : ℕ) (text : List ℕ) → text ≡ codes "psg " ++ (48 + version) ∷ 10 ∷ [] → IsLaid version [] text
laid-start version text e = record { texts = []; whole = e; each = tt; same = tt }

pub laid-next : (version : ℕ) (ls : List Line) (i : ℕ) (line : Line) (own before after : List ℕ) → i < length ls
    → line ≡ get_or ls i line → (HasForm line → SpellsLine own line) → (HasForm line → own ≡ line_text line)
    → after ≡ before ++ (own ++ 10 ∷ []) → IsLaid version (take i ls) before → IsLaid version (take (i + 1) ls) after
laid-next version ls i line own before after h e is so a b = record {
  texts = b.texts ++ own ∷ [];
  whole = a ∙ ap (λ x. x ++ (own ++ 10 ∷ [])) b.whole ∙ sym (fed-snoc (head_text version ∷ b.texts) own);
  each = subst (λ l. AreTexts l (b.texts ++ own ∷ [])) (sym (take_item ls i line h e))
      (texts-snoc (take i ls) b.texts line own b.each is);
  same = subst (λ l. AreSame l (b.texts ++ own ∷ [])) (sym (take_item ls i line h e))
      (same-snoc (take i ls) b.texts line own b.same so);
}

-- where all lines have their forms, the text is the head and the lines' texts
pub laid-text : (version : ℕ) (ls : List Line) (text : List ℕ) → IsLaid version ls text → AllByRecursion HasForm ls
    → text ≡ fed (head_text version ∷ map line_text ls)
laid-text version ls text laid forms =
    laid.whole ∙ ap (λ ts. fed (head_text version ∷ ts)) (same-texts ls laid.texts laid.same forms)

texts-clear : (ls : List Line) (ts : List (List ℕ)) → AreTexts ls ts → AllByRecursion HasForm ls
    → AllByRecursion AreClear ts
texts-clear [] [] h f = tt
texts-clear [] (t ∷ ts) h f = absurd h
texts-clear (l ∷ ls) [] h f = tt
texts-clear (l ∷ ls) (t ∷ ts) h f = (line-clear t l (h.0 f.0), texts-clear ls ts h.1 f.1)

-- ---- a line begins with its word

word-first : (c : ℕ) (w : List ℕ) (ps : List (List ℕ)) (t : List ℕ) → IsWritten ((c ∷ w) ∷ ps) t → c ≢ 35
    → IsSkipped t → ⊥
word-first c w [] t e other h = other (subst IsSkipped e h)
word-first c w (q ∷ ps) t (n, rest, e, apart, k) other h = other (subst IsSkipped e h)

abbrev behind_first : List (List ℕ) → List (List ℕ)
behind_first [] = []
behind_first (p ∷ ps) = ps

pub not-skipped : (line : Line) (t : List ℕ) → IsWritten (parts_of line) t → IsSkipped t → ⊥
not-skipped (lines.Sort d) t w h =
    word-first 115 (codes "ort") (behind_first (parts_of (lines.Sort d))) t w (λ e. absurd (omega (arith, e))) h
not-skipped (lines.Space [] s) t w h =
    word-first 101 (codes "ntity") (behind_first (parts_of (lines.Space [] s))) t w (λ e. absurd (omega (arith, e))) h
not-skipped (lines.Space (c ∷ cs) s) t w h =
    word-first 115 (codes "pace") (behind_first (parts_of (lines.Space (c ∷ cs) s))) t w (λ e. absurd (omega (arith, e))) h
not-skipped (lines.Phylum n s b) t w h =
    word-first 112 (codes "hylum") (behind_first (parts_of (lines.Phylum n s b))) t w (λ e. absurd (omega (arith, e))) h
not-skipped (lines.List n s e p l u) t w h =
    word-first 108 (codes "ist") (behind_first (parts_of (lines.List n s e p l u))) t w
    (λ e. absurd (omega (arith, e))) h
not-skipped (lines.Operator n k s l ms) t w h =
    word-first 111 (codes "p") (behind_first (parts_of (lines.Operator n k s l ms))) t w
    (λ e. absurd (omega (arith, e))) h
not-skipped (lines.Row u us) t w h =
    word-first 114 (codes "ow") (behind_first (parts_of (lines.Row u us))) t w (λ e. absurd (omega (arith, e))) h
not-skipped (lines.Nil n u) t w h =
    word-first 110 (codes "il") (behind_first (parts_of (lines.Nil n u))) t w (λ e. absurd (omega (arith, e))) h
not-skipped (lines.Cell n u v x) t w h =
    word-first 99 (codes "ell") (behind_first (parts_of (lines.Cell n u v x))) t w (λ e. absurd (omega (arith, e))) h
not-skipped (lines.Hole n u s) t w h =
    word-first 104 (codes "ole") (behind_first (parts_of (lines.Hole n u s))) t w (λ e. absurd (omega (arith, e))) h
not-skipped (lines.Case u s) t w h =
    word-first 99 (codes "ase") (behind_first (parts_of (lines.Case u s))) t w (λ e. absurd (omega (arith, e))) h
not-skipped (lines.Declare spot n u v s) t w h =
    word-first 100 (codes "eclare" ++ tag spot) (behind_first (parts_of (lines.Declare spot n u v s))) t w
    (λ e. absurd (omega (arith, e))) h

-- ---- the lines are spelled

-- each row and each case stands where it may
abbrev pub HavePlaces : List Line → Type 0
HavePlaces whole = (front : List Line) (line : Line) (behind : List Line) → whole ≡ front ++ line ∷ behind
    → HasPlace front line

entries-are : (whole : List Line) → HavePlaces whole → (above ls : List Line) (ts : List (List ℕ)) → AreTexts ls ts
    → AllByRecursion HasForm ls → whole ≡ above ++ ls → AreEntries above ts (map Some ls)
entries-are whole places above [] [] h f e = tt
entries-are whole places above [] (t ∷ ts) h f e = absurd h
entries-are whole places above (line ∷ ls) [] h f e = absurd h
entries-are whole places above (line ∷ ls) (t ∷ ts) h f e =
    let is = h.0 f.0 in (
      record { no_comment = not-skipped line t is.written; spelled = is; place = places above line ls e },
      entries-are whole places (above ++ line ∷ []) ls ts h.1 f.1 (e ∙ sym (append_assoc above (line ∷ []) ls)),
    )

head-clear : (version : ℕ) → IsVersion version → AreClear (head_text version)
head-clear version (inl e) = subst (λ v. AreClear (head_text v)) (sym e) (omega arith, (omega arith, (omega arith, (omega arith, (omega arith, tt)))))
head-clear version (inr e) = subst (λ v. AreClear (head_text v)) (sym e) (omega arith, (omega arith, (omega arith, (omega arith, (omega arith, tt)))))

head-written : (version : ℕ) → IsVersion version → HasHead version (head_text version ∷ [])
head-written version (inl e) = subst (λ v. HasHead v (head_text v ∷ [])) (sym e) (inl refl, (1, codes "1", refl, refl, refl))
head-written version (inr e) = subst (λ v. HasHead v (head_text v ∷ [])) (sym e) (inr refl, (1, codes "2", refl, refl, refl))

pub written-some : (ls : List Line) → written (map Some ls) ≡ ls
written-some [] = refl
written-some (line ∷ rest) = ap (λ l. line ∷ l) (written-some rest)

pub laid-spelled : (version : ℕ) (ls : List Line) (text : List ℕ) → IsVersion version → AllByRecursion (λ line. is_of version line ≡ true) ls → HavePlaces ls → AllByRecursion HasForm ls → IsLaid version ls text
    → AreSpelled version (texts_of text) (map Some ls)
laid-spelled version ls text is right places forms laid =
    let all = texts-again (head_text version ∷ laid.texts) (head-clear version is, texts-clear ls laid.texts laid.each forms) in
    let e : texts_of text ≡ head_text version ∷ laid.texts = ap texts_of laid.whole ∙ all in
    subst (λ ts. AreSpelled version ts (map Some ls)) (sym e) (record {
      head = head-written version is;
      each = entries-are ls places [] ls laid.texts laid.each forms refl;
      of_version = subst (AllByRecursion (λ line. is_of version line ≡ true)) (sym (written-some ls)) right;
    })
