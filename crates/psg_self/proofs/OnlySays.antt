-- An exported text is read as a definition only where the tree says it.
use Rattle.std.proofs.Common.{arith, ◌≡◌, ◌⊎◌, ℕ, zero, suc, ◌+◌, true, inl, inr, Option, Some, None, List, [], ◌∷◌, ◌++◌, length, map, slice_get, refl, ap, ap₂, sym, ◌∙◌, subst, append_assoc, append-nil, codes, decimal}
use Rattle.std.specs.Prelude.{IsUtf8}
use Rattle.std.specs.List.{AllByRecursion, list_any}
use Rattle.std.specs.Str.Lines.{lines as texts_of}
use Rattle.std.proofs.lemmas.Bool.{false≢true}
use Rattle.psg_grammar.specs.declared.types.Item.{Item}
use Rattle.psg_grammar.specs.declared.types.Item.TheVariants as made
use Rattle.psg_grammar.specs.declared.types.ListKind.{ListKind}
use Rattle.psg_grammar.specs.declared.types.Operator.{Operator}
use Rattle.psg_grammar.specs.declared.types.Space.{Space}
use Rattle.psg_grammar.specs.declared.types.DeclareRow.{DeclareRow}
use Rattle.psg_grammar.specs.declared.types.Definition.{Definition}
use Rattle.psg_grammar.specs.Fragments.{Fragment}
use Rattle.psg_grammar.specs.Lookups.{part_items}
use Rattle.psg_grammar.specs.Sound.{AreColumns, HasSpaceSort}
use Rattle.psg_deflines.specs.WrittenTerms.{WrittenTerm, variable, named, apply, HasTermForm}
use Rattle.psg_deflines.specs.Forms.{HasForm}
use Rattle.psg_deflines.specs.Entries.{Entry, IsSkipped, AreEntries, HasHead, behind_head, written, IsPlain}
use Rattle.psg_deflines.specs.Refusals.{IsFirstOf}
use Rattle.psg_deflines.specs.declared.fault.DefCode.{DefCode}
use Rattle.psg_deflines.specs.declared.lines.LineItem.{LineItem}
use Rattle.psg_deflines.specs.declared.lines.LineItem.TheVariants as items
use Rattle.psg_deflines.specs.declared.lines.Line.{Line}
use Rattle.psg_deflines.specs.declared.lines.Line.TheVariants as lines
use Rattle.psg_defcheck.specs.Scopes.{spaces}
use Rattle.psg_defcheck.specs.Meanings.{is_name_item}
use Rattle.psg_defcheck.specs.Faults.{meaning_codes, PassesMeaning, ArePassed}
use Rattle.psg_defcheck.proofs.GroundLaws.{written-append}
use Rattle.psg_defnumber.specs.Numbers.{IsNumbered, AreItems, AreOperators, AreSpaces, AreLists, AreDeclareRows}
use Rattle.psg_defread.specs.DefinitionText.{fed}
use Rattle.psg_defread.specs.Reading.{IsReadAs, IsFaultless}
use Rattle.psg_defread.specs.Refusals.{no_meaning}
use Rattle.psg_defread.proofs.JoinFaults.{heads-same, text-plain}
use Rattle.psg_self.specs.SelfLines.{lines_in}
use Rattle.psg_self.specs.Export.{exported}
use Rattle.psg_self.specs.Says.{HasPlainNames, HasPlainVariables, AreSorted, Says}
use Rattle.psg_self.specs.Pieces.{IsRun}
use Rattle.psg_self.proofs.LinesLaid.{IsOwnLine}
use Rattle.psg_self.proofs.LineOnce.{SpellOnce, AreTold, HasNameItem, line-told}
use Rattle.psg_self.proofs.TextLines.{IsLineText, text_of, texts-again, fed-lines, lines-texts}

-- ---- no line of an exported text is skipped

pub own-not-skipped : (own : Line) → IsOwnLine own → IsSkipped (text_of own) → ⊥
own-not-skipped (lines.Sort d) h e = omega (arith, e)
own-not-skipped (lines.Phylum n s b) h e = omega (arith, e)
own-not-skipped (lines.Operator n p s l is) h e = omega (arith, e)
own-not-skipped (lines.Row t ts) h e = omega (arith, e)
own-not-skipped (lines.Hole n t (Some w)) h e = omega (arith, e)
own-not-skipped (lines.Hole n t None) h e = absurd h
own-not-skipped (lines.Space n t) h e = absurd h
own-not-skipped (lines.List n t x w l u) h e = absurd h
own-not-skipped (lines.Nil n t) h e = absurd h
own-not-skipped (lines.Cell n t u v) h e = absurd h
own-not-skipped (lines.Case t w) h e = absurd h
own-not-skipped (lines.Declare a n t u w) h e = absurd h

-- ---- a file with a name position and without a space

abbrev HasOdd : List Line → Type 0
HasOdd [] = ⊥
HasOdd (l ∷ ls) = HasNameItem l ⊎ HasOdd ls

module _ (def : Definition) (none : def.spaces ≡ []) where
  no-space : (n s : ℕ) → HasSpaceSort def n s → ⊥
  no-space n s (k, at, e) = no-at n k (ap (λ xs. slice_get xs n) (sym none) ∙ at)
    where
      no-at : (m : ℕ) (x : Space) → ◌≡◌ {A = Option Space} (slice_get [] m) (Some x) → ⊥
      no-at zero x f = cc
      no-at (suc m) x f = cc

  column-more : (i : Item) (is : List Item) (cs : List ℕ) → ((ds : List ℕ) → AreColumns def (part_items is) ds → ⊥)
      → AreColumns def (part_items (i ∷ is)) cs → ⊥
  column-more (made.Slot k) is cs f (s, more, e, h, hs) = f more hs
  column-more (made.Refers n) is cs f (s, more, e, h, hs) = no-space n s h
  column-more (made.Declares n) is cs f (s, more, e, h, hs) = no-space n s h
  column-more made.Number is cs f h = f cs h
  column-more made.Text is cs f h = f cs h
  column-more (made.Word w) is cs f h = f cs h
  column-more made.Space is cs f h = f cs h
  column-more made.Tight is cs f h = f cs h
  column-more made.Line is cs f h = f cs h
  column-more made.In is cs f h = f cs h
  column-more made.Out is cs f h = f cs h

  refers-no : (n : ℕ) (is : List Item) (cs : List ℕ) → AreColumns def (part_items (made.Refers n ∷ is)) cs → ⊥
  refers-no n is cs (s, more, e, h, hs) = no-space n s h

  declares-no : (n : ℕ) (is : List Item) (cs : List ℕ) → AreColumns def (part_items (made.Declares n ∷ is)) cs → ⊥
  declares-no n is cs (s, more, e, h, hs) = no-space n s h

  pub items-no : (ms : List LineItem) (is : List Item) → AreItems def ms is → list_any is_name_item ms ≡ true → (cs : List ℕ)
      → AreColumns def (part_items is) cs → ⊥
  items-no [] is h odd cs k = false≢true odd
  items-no (items.Refers s ∷ ms) is h odd cs k =
      refers-no h.3.0 h.1 cs (subst (λ x. AreColumns def (part_items x) cs) (h.2 ∙ ap (λ j. j ∷ h.1) h.3.2) k)
  items-no (items.Declares s ∷ ms) is h odd cs k =
      declares-no h.3.0 h.1 cs (subst (λ x. AreColumns def (part_items x) cs) (h.2 ∙ ap (λ j. j ∷ h.1) h.3.2) k)
  items-no (m ∷ ms) is h odd cs k =
      column-more h.0 h.1 cs (items-no ms h.1 h.4 odd) (subst (λ x. AreColumns def (part_items x) cs) h.2 k)

  odd-no : (file : List Line) (ops : List Operator) → AreOperators def file ops → HasOdd file → ⊥
  odd-no [] ops h odd = odd
  odd-no (lines.Operator n p s l ms ∷ file) ops h (inl odd) = items-no ms h.0.items h.3.each_item odd h.3.columns h.3.are_columns
  odd-no (lines.Operator n p s l ms ∷ file) ops h (inr odd) = odd-no file h.1 h.4 odd
  odd-no (line ∷ file) ops h (inl odd) = absurd odd
  odd-no (line ∷ file) ops h (inr odd) = odd-no file ops h odd

-- ---- lists, spaces and declare rows

abbrev IsUsual : Line → Type 0
IsUsual (lines.Sort d) = Unit {0}
IsUsual (lines.Phylum n s b) = Unit {0}
IsUsual (lines.Operator n p s l is) = Unit {0}
IsUsual (lines.Row t ts) = Unit {0}
IsUsual (lines.Hole n t w) = Unit {0}
IsUsual _ = ⊥

own-usual : (l : Line) → IsOwnLine l → IsUsual l
own-usual (lines.Sort d) h = tt
own-usual (lines.Phylum n s b) h = tt
own-usual (lines.Operator n p s l is) h = tt
own-usual (lines.Row t ts) h = tt
own-usual (lines.Hole n t w) h = tt
own-usual (lines.Space n t) h = absurd h
own-usual (lines.List n t x w l u) h = absurd h
own-usual (lines.Nil n t) h = absurd h
own-usual (lines.Cell n t u v) h = absurd h
own-usual (lines.Case t w) h = absurd h
own-usual (lines.Declare a n t u w) h = absurd h

odd-usual : (l : Line) → HasNameItem l → IsUsual l
odd-usual (lines.Operator n p s l is) h = tt
odd-usual (lines.Sort d) h = absurd h
odd-usual (lines.Phylum n s b) h = absurd h
odd-usual (lines.Row t ts) h = absurd h
odd-usual (lines.Hole n t w) h = absurd h
odd-usual (lines.Space n t) h = absurd h
odd-usual (lines.List n t x w l u) h = absurd h
odd-usual (lines.Nil n t) h = absurd h
odd-usual (lines.Cell n t u v) h = absurd h
odd-usual (lines.Case t w) h = absurd h
odd-usual (lines.Declare a n t u w) h = absurd h

no-spaces : (ls : List Line) → AllByRecursion IsUsual ls → spaces ls ≡ []
no-spaces [] h = refl
no-spaces (lines.Space n t ∷ ls) h = absurd h.0
no-spaces (l ∷ ls) h = no-spaces ls h.1

no-lists : (def : Definition) (file ls : List Line) (all : List ListKind) → AllByRecursion IsUsual ls → AreLists def file ls all → all ≡ []
no-lists def file [] all h k = k
no-lists def file (lines.List n t x w l u ∷ ls) all h k = absurd h.0
no-lists def file (l ∷ ls) all h k = no-lists def file ls all h.1 k

no-declares : (def : Definition) (ls : List Line) (all : List DeclareRow) → AllByRecursion IsUsual ls → AreDeclareRows def ls all → all ≡ []
no-declares def [] all h k = k
no-declares def (lines.Declare a n t u w ∷ ls) all h k = absurd h.0
no-declares def (l ∷ ls) all h k = no-declares def ls all h.1 k

-- ---- variables

plain-names : (t : WrittenTerm) → HasTermForm t → HasPlainNames t
plain-names (variable n) h = h
plain-names (named n) h = tt
plain-names (apply f a) h = (plain-names f h.1, plain-names a h.2)

all-plain-names : (ts : List WrittenTerm) → AllByRecursion HasTermForm ts → AllByRecursion HasPlainNames ts
all-plain-names [] h = tt
all-plain-names (t ∷ ts) h = (plain-names t h.0, all-plain-names ts h.1)

plain-variables : (l : Line) → HasForm l → HasPlainVariables l
plain-variables (lines.Row t ts) h = (plain-names t h.0, all-plain-names ts h.1)
plain-variables (lines.Hole n t w) h = plain-names t h.1
plain-variables (lines.Sort d) h = tt
plain-variables (lines.Phylum n s b) h = tt
plain-variables (lines.Operator n p s l is) h = tt
plain-variables (lines.Space n t) h = tt
plain-variables (lines.List n t x w l u) h = tt
plain-variables (lines.Nil n t) h = tt
plain-variables (lines.Cell n t u v) h = tt
plain-variables (lines.Case t w) h = tt
plain-variables (lines.Declare a n t u w) h = tt

pub entries-formed : (above : List Line) (ts : List (List ℕ)) (es : List Entry) → AreEntries above ts es → AllByRecursion HasForm (written es)
entries-formed above [] [] h = tt
entries-formed above [] (e ∷ es) h = absurd h
entries-formed above (t ∷ ts) [] h = absurd h
entries-formed above (t ∷ ts) (None ∷ es) h = entries-formed (above ++ []) ts es h.1
entries-formed above (t ∷ ts) (Some l ∷ es) h = (h.0.spelled.form, entries-formed (above ++ l ∷ []) ts es h.1)

all-variables : (ls : List Line) → AllByRecursion HasForm ls → AllByRecursion HasPlainVariables ls
all-variables [] h = tt
all-variables (l ∷ ls) h = (plain-variables l h.0, all-variables ls h.1)

-- ---- the entries of an exported text

record IsToldAs (ls : List Line) (es : List Entry) : Type 0 where
  usual : AllByRecursion IsUsual (written es)
  which : (written es ≡ ls) ⊎ HasOdd (written es)

module _ (once : SpellOnce) (told : AreTold) (digits : (n : ℕ) → IsRun (decimal n)) where
  entries-told : (above : List Line) (ls : List Line) (es : List Entry) → AllByRecursion IsOwnLine ls → AreEntries above (map text_of ls) es
      → IsToldAs ls es
  entries-told above [] [] h k = record { usual = tt; which = inl refl }
  entries-told above [] (e ∷ es) h k = absurd k
  entries-told above (l ∷ ls) [] h k = absurd k
  entries-told above (l ∷ ls) (None ∷ es) h k = absurd (own-not-skipped l h.0 k.0)
  entries-told above (l ∷ ls) (Some m ∷ es) h k =
      let rest = entries-told (above ++ m ∷ []) ls es h.1 k.1 in
      elim (line-told once told digits (text_of l) m l k.0.spelled h.0 refl) [
        | inr odd ↦ record { usual = (odd-usual m odd, rest.usual); which = inr (inl odd) }
        | inl same ↦ record {
          usual = (subst IsUsual (sym same) (own-usual l h.0), rest.usual);
          which = both m l (written es) ls same rest.which;
        }
      ]
    where
      both : (m l : Line) (ms ls : List Line) → m ≡ l → (ms ≡ ls) ⊎ HasOdd ms → (m ∷ ms ≡ l ∷ ls) ⊎ HasOdd (m ∷ ms)
      both m l ms ls e (inl f) = inl (ap₂ (λ x xs. x ∷ xs) e f)
      both m l ms ls e (inr f) = inr (inr f)

-- ---- a text without a fault passes the tests of meaning

module _ (version : ℕ) (bytes : List ℕ) (utf8 : IsUtf8 bytes) (none : IsFaultless bytes) (head : HasHead version (texts_of bytes))
    (es : List Entry) (each : AreEntries [] (behind_head (texts_of bytes)) es) (plain : AllByRecursion (IsPlain version) (written es)) where
  refused : (front : List Entry) (line : Line) (behind : List Entry) (code : DefCode) → es ≡ front ++ Some line ∷ behind
      → ArePassed (written es) [] (written front) → IsFirstOf (PassesMeaning (written es) (written front) line) meaning_codes code → ⊥
  refused front line behind code split passed first =
      none (record { line = length front + 2; code = code }) (no_meaning version utf8 head (record {
        entries = es;
        each = each;
        plain = plain;
        meaning = record {
          front = front;
          line = line;
          behind = behind;
          split = split;
          passed = passed;
          first = first;
          place = refl;
        };
      }))

  -- the tests of one line, one after the other
  tests-pass : (Passes : DefCode → Type 0) (tests : List DefCode) → ((code : DefCode) → IsFirstOf Passes tests code → ⊥)
      → (AllByRecursion Passes tests → ⊥) → ⊥
  tests-pass Passes [] refuse not = not tt
  tests-pass Passes (c ∷ tests) refuse not =
      refuse c (inl ((λ p. tests-pass Passes tests (λ code f. refuse code (inr (p, f))) (λ all. not (p, all))), refl))

  passed-snoc : (file above xs : List Line) (y : Line) → ArePassed file above xs
      → AllByRecursion (PassesMeaning file (above ++ xs) y) meaning_codes → ArePassed file above (xs ++ y ∷ [])
  passed-snoc file above [] y h k = (subst (λ a. AllByRecursion (PassesMeaning file a y) meaning_codes) (append-nil above) k, tt)
  passed-snoc file above (x ∷ xs) y h k = (
    h.0,
    passed-snoc file (above ++ x ∷ []) xs y h.1
        (subst (λ a. AllByRecursion (PassesMeaning file a y) meaning_codes) (sym (append_assoc above (x ∷ []) xs)) k),
  )

  all-pass : (front behind : List Entry) → es ≡ front ++ behind → ArePassed (written es) [] (written front)
      → (ArePassed (written es) [] (written es) → ⊥) → ⊥
  all-pass front [] e h not = not (subst (λ x. ArePassed (written es) [] (written x)) (sym (e ∙ append-nil front)) h)
  all-pass front (None ∷ behind) e h not =
      let same : written (front ++ None ∷ []) ≡ written front = written-append front (None ∷ []) ∙ append-nil (written front) in
      all-pass (front ++ None ∷ []) behind (e ∙ sym (append_assoc front (None ∷ []) behind))
      (subst (ArePassed (written es) []) (sym same) h) not
  all-pass front (Some line ∷ behind) e h not =
      tests-pass (PassesMeaning (written es) (written front) line) meaning_codes (λ code f. refused front line behind code e h f) (λ own.
      let same : written (front ++ Some line ∷ []) ≡ written front ++ line ∷ [] = written-append front (Some line ∷ []) in
      all-pass (front ++ Some line ∷ []) behind (e ∙ sym (append_assoc front (Some line ∷ []) behind))
      (subst (ArePassed (written es) []) (sym same) (passed-snoc (written es) [] (written front) line h own)) not)

  pub text-passed : (ArePassed (written es) [] (written es) → ⊥) → ⊥
  text-passed not = all-pass [] es refl tt not

-- each line of them is sorted
passed-sorted : (file above ls : List Line) → ((ArePassed file above ls → ⊥) → ⊥) → AreSorted file above ls
passed-sorted file above [] h = tt
passed-sorted file above (l ∷ ls) h =
    ((λ not. h (λ p. not p.0.1.1.1.0)), passed-sorted file (above ++ l ∷ []) ls (λ not. h (λ p. not p.1)))

-- ---- the whole

pub head-one : (ts : List (List ℕ)) → HasHead 1 (codes "psg 1" ∷ ts)
head-one ts = (inl refl, (1, codes "1", refl, refl, refl))

pub only-says : SpellOnce → AreTold → ((n : ℕ) → IsRun (decimal n)) → (f : Fragment) → AllByRecursion IsOwnLine (lines_in f)
    → (def : Definition) → IsReadAs (exported f) def → Says f def
only-says once told digits f own def read =
    let ls = lines_in f in
    let s = read.spells in
    let head : IsLineText (codes "psg 1") = record { no_feed = (refl, (refl, (refl, (refl, (refl, tt))))); no_return = λ e. omega (arith, e) } in
    let whole : exported f ≡ fed (codes "psg 1" ∷ map text_of ls) = ap (λ x. codes "psg 1\n" ++ x) (fed-lines ls) in
    let texts : texts_of (exported f) ≡ codes "psg 1" ∷ map text_of ls =
    ap texts_of whole ∙ texts-again (codes "psg 1" ∷ map text_of ls) (head, lines-texts digits ls own) in
    let version : s.version ≡ 1 =
    heads-same s.version 1 (texts_of (exported f)) s.spelled.head (subst (HasHead 1) (sym texts) (head-one (map text_of ls))) in
    let each : AreEntries [] (map text_of ls) s.entries = subst (λ ts. AreEntries [] (behind_head ts) s.entries) texts s.spelled.each in
    let t = entries-told once told digits [] ls s.entries own each in
    let no_space : def.spaces ≡ [] = subst (λ x. AreSpaces def x def.spaces) (no-spaces (written s.entries) t.usual) s.numbered.spaces in
    let same : written s.entries ≡ ls = elim t.which [
      | inl e ↦ e
      | inr odd ↦ absurd (odd-no def no_space (written s.entries) def.operators s.numbered.operators odd)
    ] in
    let forms : AllByRecursion HasForm ls = subst (AllByRecursion HasForm) same (entries-formed [] (map text_of ls) s.entries each) in
    let passed : (ArePassed (written s.entries) [] (written s.entries) → ⊥) → ⊥ =
    λ not. text-plain once s.version (exported f) s.utf8 read.faultless s.spelled.head s.entries s.spelled.each s.spelled.of_version
    (λ plain. text-passed s.version (exported f) s.utf8 read.faultless s.spelled.head s.entries s.spelled.each plain not) in
    record {
      version = s.numbered.same_version ∙ version;
      no_spaces = no_space;
      no_lists = no-lists def (written s.entries) (written s.entries) def.lists t.usual s.numbered.lists;
      no_declares = no-declares def (written s.entries) def.declare_rows t.usual s.numbered.declare_rows;
      numbered = subst (λ x. IsNumbered 1 x def) same (subst (λ v. IsNumbered v (written s.entries) def) version s.numbered);
      variables = all-variables ls forms;
      sorted = subst (λ x. AreSorted x [] x) same (passed-sorted (written s.entries) [] (written s.entries) passed);
    }
