-- What a tree says and some bytes spell without a fault, its exported text is read as.
use Rattle.std.proofs.Common.{arith, ◌≡◌, ◌==◌, ◌≤◌, ℕ, ◌<◌, true, false, inl, inr, Some, None, List, [], ◌∷◌, ◌++◌, length, map, is_some, refl, ap, sym, ◌∙◌, subst, codes, decimal}
use Rattle.std.specs.Prelude.{IsUtf8, chars}
use Rattle.std.specs.Str.{all_scalars}
use Rattle.std.specs.List.{AllByRecursion, list_any}
use Rattle.std.specs.Str.Lines.{lines as texts_of}
use Rattle.std.proofs.lemmas.Bool.{false≢true, cases_Bool, and_parts, and_from, or_cases, eqb-true, cases_lt}
use Rattle.std.proofs.lemmas.Bool.Decides.{eqb_tells}
use Rattle.std.proofs.lemmas.Str.{IsUtf8-append, scalars-chars}
use lib.Utf8.{scalar}
use Rattle.psg_grammar.specs.declared.types.ListKind.{ListKind}
use Rattle.psg_grammar.specs.declared.types.Operator.{Operator}
use Rattle.psg_grammar.specs.declared.types.Definition.{Definition}
use Rattle.psg_grammar.specs.Fragments.{Fragment}
use Rattle.psg_lexis.specs.Tokens.{quoted}
use Rattle.psg_deflines.specs.WrittenTerms.{WrittenTerm, most_nested}
use Rattle.psg_deflines.specs.WrittenTrees.{WrittenTree, HasTreeForm, IsShallowTree, quoted_part}
use Rattle.psg_deflines.specs.Written.{IsWritten}
use Rattle.psg_deflines.specs.Parts.{is_mark, is_sigil, IsPart, a_word, a_mark, a_sigil, a_quoted}
use Rattle.psg_deflines.specs.Forms.{HasForm, IsShallow, parts_of, item_part}
use Rattle.psg_deflines.specs.Versions.{is_of}
use Rattle.psg_deflines.specs.Entries.{AreEntries, AreSpelled, behind_head, written, IsPlain, HasPlace}
use Rattle.psg_deflines.specs.declared.lines.Line.{Line}
use Rattle.psg_deflines.specs.declared.lines.Line.TheVariants as lines
use Rattle.psg_deflines.proofs.SpellLaws.{line-parts}
use Rattle.psg_defcheck.specs.Scopes.{last_operator, kind_declared}
use Rattle.psg_defcheck.proofs.AboveLaws.{last_operator-append}
use Rattle.psg_defcheck.specs.Meanings.{IsKnown, IsSorted, HasGround, HasChoice, KnowsTree, is_name_item}
use Rattle.psg_defcheck.specs.Faults.{ArePassed}
use Rattle.psg_defnumber.specs.Numbers.{IsNumbered, AreRows, AreOperators, AreLists, sort_decls}
use Rattle.psg_defread.specs.DefinitionText.{fed}
use Rattle.psg_defread.specs.Reading.{IsReadAs, IsFaultless}
use Rattle.psg_defread.proofs.JoinFaults.{text-plain, text-faultless}
use Rattle.psg_defread.proofs.JoinTexts.{written-some}
use Rattle.psg_defread.proofs.PassedTests.{PassesRest, AreRight, all-passed}
use Rattle.psg_self.specs.SelfLines.{lines_in}
use Rattle.psg_self.specs.Export.{exported}
use Rattle.psg_self.specs.Says.{AreSorted, Says}
use Rattle.psg_self.specs.Pieces.{IsRun, Laid}
use Rattle.psg_self.proofs.PiecesOnce.{kind_of_byte, mark-kind, kind-high, all-weaker, behind-word}
use Rattle.psg_self.proofs.LinesLaid.{first_byte, IsOwnLine, own_parts, line-laid}
use Rattle.psg_self.proofs.LineOnce.{SpellOnce, words-are}
use Rattle.psg_self.proofs.TextLines.{IsLineText, text_of, texts-again, fed-lines, lines-texts}
use Rattle.psg_self.proofs.OnlySays.{own-not-skipped, items-no, head-one, entries-formed, text-passed}
use Rattle.psg_self.proofs.DeclsOnce.{decls-once}
use Rattle.psg_self.proofs.NamesFormed.{symbols-formed, phyla-formed}
use Rattle.psg_self.proofs.FileShape.{IsUsual, IsNoList, HasNoNameItems, HasSame, sorts_in, phyla_in, operators_in, rows_in, holes_in, of-sorts, of-phyla, of-operators, of-all, sorts-same, phyla-same, phyla-are, operators-same, same-inhabited, kind-declared-in}
use Rattle.psg_self.proofs.RowFacts.{HasSmall, operators-shallow, rows-right, holes-good, holes-right, HasGood, HasOwnTree, IsRightRow, IsRightHole}
use Rattle.psg_self.proofs.KnownLines.{HasOperator, own-no-name, term-known, terms-known, tree-known, sort-line-known, phylum-line-known, operator-line-known, operator-line-entity, row-line-counted, hole-line-counted}
use Rattle.psg_self.proofs.ThereLines.{each-row, each-hole, row-form, hole-form, kind-found, own-version, AreReady, IsReadyFor, tree-ready, written-utf8, ascii-utf8, word-low}
use Rattle.psg_self.proofs.BackWritten.{laid-written}

-- ---- UTF-8 of parts

scalars-quoted : (cs : List ℕ) → all_scalars cs ≡ true → all_scalars (quoted cs ++ 34 ∷ []) ≡ true
scalars-quoted [] h = refl
scalars-quoted (c ∷ cs) h =
    let both = and_parts (scalar c) (all_scalars cs) h in
    let behind = scalars-quoted cs both.1 in
    elim (eqb_tells c 34) [
      | inl p ↦ rw p.0 behind
      | inr p ↦ elim (eqb_tells c 92) [
        | inl q ↦ rw (p.0, q.0) behind
        | inr q ↦ elim (eqb_tells c 10) [
          | inl r ↦ rw (p.0, q.0, r.0) behind
          | inr r ↦ rw (p.0, q.0, r.0) (and_from (scalar c) _ both.0 behind)
        ]
      ]
    ]

quoted-utf8 : (w : List ℕ) → IsUtf8 w → IsUtf8 (quoted_part w)
quoted-utf8 w u = (34 ∷ quoted (chars w) ++ 34 ∷ [], (scalars-quoted (chars w) (scalars-chars w u), refl))

sign-low : (c : ℕ) → is_sigil c ≡ true → c < 128
sign-low c h = elim (or_cases (c == 63) (c == 36) h) [
  | inl e ↦ omega (arith, eqb-true c 63 e)
  | inr e ↦ omega (arith, eqb-true c 36 e)
]

-- ---- the lines of the other file

lists-none : (def : Definition) (file ls : List Line) (all : List ListKind) → AreLists def file ls all → all ≡ [] → AllByRecursion IsNoList ls
lists-none def file [] all h e = tt
lists-none def file (lines.List n t x w l u ∷ ls) all h e = absurd (omega (arith, ap length (sym h.2 ∙ e)))
lists-none def file (lines.Sort d ∷ ls) all h e = (tt, lists-none def file ls all h e)
lists-none def file (lines.Space n t ∷ ls) all h e = (tt, lists-none def file ls all h e)
lists-none def file (lines.Phylum n t b ∷ ls) all h e = (tt, lists-none def file ls all h e)
lists-none def file (lines.Operator n p s l is ∷ ls) all h e = (tt, lists-none def file ls all h e)
lists-none def file (lines.Row t ts ∷ ls) all h e = (tt, lists-none def file ls all h e)
lists-none def file (lines.Nil n t ∷ ls) all h e = (tt, lists-none def file ls all h e)
lists-none def file (lines.Cell n t u v ∷ ls) all h e = (tt, lists-none def file ls all h e)
lists-none def file (lines.Hole n t w ∷ ls) all h e = (tt, lists-none def file ls all h e)
lists-none def file (lines.Case t w ∷ ls) all h e = (tt, lists-none def file ls all h e)
lists-none def file (lines.Declare a n t u w ∷ ls) all h e = (tt, lists-none def file ls all h e)

items-none : (def : Definition) → def.spaces ≡ [] → (ls : List Line) (all : List Operator) → AreOperators def ls all
    → AllByRecursion (HasNoNameItems def) ls
items-none def none [] all h = tt
items-none def none (lines.Operator n p s l ms ∷ ls) all h = (
  elim (cases_Bool (list_any is_name_item ms)) [
    | inl odd ↦ absurd (items-no def none ms h.0.items h.3.each_item odd h.3.columns h.3.are_columns)
    | inr e ↦ e
  ],
  items-none def none ls h.1 h.4,
)
items-none def none (lines.Sort d ∷ ls) all h = (tt, items-none def none ls all h)
items-none def none (lines.Space n t ∷ ls) all h = (tt, items-none def none ls all h)
items-none def none (lines.Phylum n t b ∷ ls) all h = (tt, items-none def none ls all h)
items-none def none (lines.List n t x w l u ∷ ls) all h = (tt, items-none def none ls all h)
items-none def none (lines.Row t ts ∷ ls) all h = (tt, items-none def none ls all h)
items-none def none (lines.Nil n t ∷ ls) all h = (tt, items-none def none ls all h)
items-none def none (lines.Cell n t u v ∷ ls) all h = (tt, items-none def none ls all h)
items-none def none (lines.Hole n t w ∷ ls) all h = (tt, items-none def none ls all h)
items-none def none (lines.Case t w ∷ ls) all h = (tt, items-none def none ls all h)
items-none def none (lines.Declare a n t u w ∷ ls) all h = (tt, items-none def none ls all h)

-- ---- what holds of an own line

each : (P Q : Line → Type 0) → ((l : Line) → P l → Q l) → (ls : List Line) → AllByRecursion P ls → AllByRecursion Q ls
each P Q f [] h = tt
each P Q f (l ∷ ls) h = (f l h.0, each P Q f ls h.1)

own-no_list : (l : Line) → IsOwnLine l → IsNoList l
own-no_list (lines.List n t x w k u) h = absurd h
own-no_list (lines.Sort d) h = tt
own-no_list (lines.Space n t) h = tt
own-no_list (lines.Phylum n t b) h = tt
own-no_list (lines.Operator n p s k is) h = tt
own-no_list (lines.Row t ts) h = tt
own-no_list (lines.Nil n t) h = tt
own-no_list (lines.Cell n t u v) h = tt
own-no_list (lines.Hole n t w) h = tt
own-no_list (lines.Case t w) h = tt
own-no_list (lines.Declare a n t u w) h = tt

own-no-items : (def : Definition) (l : Line) → IsOwnLine l → HasNoNameItems def l
own-no-items def (lines.Operator n p s k is) h = own-no-name is h.3
own-no-items def (lines.Sort d) h = tt
own-no-items def (lines.Space n t) h = tt
own-no-items def (lines.Phylum n t b) h = tt
own-no-items def (lines.List n t x w k u) h = tt
own-no-items def (lines.Row t ts) h = tt
own-no-items def (lines.Nil n t) h = tt
own-no-items def (lines.Cell n t u v) h = tt
own-no-items def (lines.Hole n t w) h = tt
own-no-items def (lines.Case t w) h = tt
own-no-items def (lines.Declare a n t u w) h = tt

own-usual-too : (l : Line) → IsOwnLine l → IsUsual l
own-usual-too (lines.Sort d) h = tt
own-usual-too (lines.Phylum n s b) h = tt
own-usual-too (lines.Operator n p s l is) h = tt
own-usual-too (lines.Row t ts) h = tt
own-usual-too (lines.Hole n t w) h = tt
own-usual-too (lines.Space n t) h = absurd h
own-usual-too (lines.List n t x w l u) h = absurd h
own-usual-too (lines.Nil n t) h = absurd h
own-usual-too (lines.Cell n t u v) h = absurd h
own-usual-too (lines.Case t w) h = absurd h
own-usual-too (lines.Declare a n t u w) h = absurd h

own-tree-of : (def : Definition) (Small : ℕ → Type 0) (Good : WrittenTree → Type 0) (l : Line) → IsOwnLine l → HasOwnTree def Small Good l
own-tree-of def Small Good (lines.Hole n t (Some w)) h = h.2
own-tree-of def Small Good (lines.Hole n t None) h = absurd h
own-tree-of def Small Good (lines.Sort d) h = tt
own-tree-of def Small Good (lines.Space n t) h = tt
own-tree-of def Small Good (lines.Phylum n t b) h = tt
own-tree-of def Small Good (lines.Operator n p s k is) h = tt
own-tree-of def Small Good (lines.List n t x w k u) h = tt
own-tree-of def Small Good (lines.Row t ts) h = tt
own-tree-of def Small Good (lines.Nil n t) h = tt
own-tree-of def Small Good (lines.Cell n t u v) h = tt
own-tree-of def Small Good (lines.Case t w) h = tt
own-tree-of def Small Good (lines.Declare a n t u w) h = tt

-- ---- what holds of the lines of the other file

abbrev Any : ℕ → Type 0
Any n = Unit {0}

all-any : (ts : List WrittenTerm) → AllByRecursion (λ (v : WrittenTerm). Unit {0}) ts
all-any [] = tt
all-any (t ∷ ts) = (tt, all-any ts)

any-small : (l : Line) → HasForm l → HasSmall Any l
any-small (lines.Row t ts) h = (tt, all-any ts)
any-small (lines.Hole n t w) h = tt
any-small (lines.Case t w) h = tt
any-small (lines.Sort d) h = tt
any-small (lines.Space n t) h = tt
any-small (lines.Phylum n t b) h = tt
any-small (lines.Operator n p s k is) h = tt
any-small (lines.List n t x w k u) h = tt
any-small (lines.Nil n t) h = tt
any-small (lines.Cell n t u v) h = tt
any-small (lines.Declare a n t u w) h = tt

form-good : (def : Definition) (l : Line) → HasForm l → HasGood def Any HasTreeForm l
form-good def (lines.Hole n t (Some w)) h = h.2
form-good def (lines.Hole n t None) h = tt
form-good def (lines.Case t w) h = h.1
form-good def (lines.Sort d) h = tt
form-good def (lines.Space n t) h = tt
form-good def (lines.Phylum n t b) h = tt
form-good def (lines.Operator n p s k is) h = tt
form-good def (lines.List n t x w k u) h = tt
form-good def (lines.Row t ts) h = tt
form-good def (lines.Nil n t) h = tt
form-good def (lines.Cell n t u v) h = tt
form-good def (lines.Declare a n t u w) h = tt

abbrev IsLow : ℕ → Type 0
IsLow n = n ≤ most_nested

low-small : (l : Line) → IsShallow l → HasSmall IsLow l
low-small (lines.Row t ts) h = h
low-small (lines.Hole n t w) h = h.0
low-small (lines.Case t w) h = h.0
low-small (lines.Sort d) h = tt
low-small (lines.Space n t) h = tt
low-small (lines.Phylum n t b) h = tt
low-small (lines.Operator n p s k is) h = tt
low-small (lines.List n t x w k u) h = tt
low-small (lines.Nil n t) h = tt
low-small (lines.Cell n t u v) h = tt
low-small (lines.Declare a n t u w) h = tt

-- a specimen that is known and not too deep
abbrev IsFine : List Line → WrittenTree → Type 0
IsFine file w = KnowsTree file w × IsShallowTree w

fine-good : (def : Definition) (file : List Line) (l : Line) → IsKnown file l → IsShallow l → HasGood def IsLow (IsFine file) l
fine-good def file (lines.Hole n t (Some w)) h k = (h.2, k.1)
fine-good def file (lines.Hole n t None) h k = tt
fine-good def file (lines.Case t w) h k = (h.1, k.1)
fine-good def file (lines.Sort d) h k = tt
fine-good def file (lines.Space n t) h k = tt
fine-good def file (lines.Phylum n t b) h k = tt
fine-good def file (lines.Operator n p s l is) h k = tt
fine-good def file (lines.List n t x w l u) h k = tt
fine-good def file (lines.Row t ts) h k = tt
fine-good def file (lines.Nil n t) h k = tt
fine-good def file (lines.Cell n t u v) h k = tt
fine-good def file (lines.Declare a n t u w) h k = tt

both-lines : (P Q R : Line → Type 0) → ((l : Line) → P l → Q l → R l) → (ls : List Line) → AllByRecursion P ls → AllByRecursion Q ls
    → AllByRecursion R ls
both-lines P Q R f [] h k = tt
both-lines P Q R f (l ∷ ls) h k = (f l h.0 k.0, both-lines P Q R f ls h.1 k.1)

-- the tests that each line passes, one by one
all-known : (file above ls : List Line) → ArePassed file above ls → AllByRecursion (IsKnown file) ls
all-known file above [] h = tt
all-known file above (l ∷ ls) h = (h.0.1.0, all-known file (above ++ l ∷ []) ls h.1)

all-ground : (file above ls : List Line) → ArePassed file above ls → AllByRecursion (HasGround file) ls
all-ground file above [] h = tt
all-ground file above (l ∷ ls) h = (h.0.1.1.1.1.1.0, all-ground file (above ++ l ∷ []) ls h.1)

all-choice : (file above ls : List Line) → ArePassed file above ls → AllByRecursion HasChoice ls
all-choice file above [] h = tt
all-choice file above (l ∷ ls) h = (h.0.1.1.1.1.1.1.0, all-choice file (above ++ l ∷ []) ls h.1)

ground-same : (ls ms : List Line) → HasSame ls ms → (l : Line) → HasGround ms l → HasGround ls l
ground-same ls ms s (lines.Sort d) h = same-inhabited ls ms s (d.name ∷ []) h
ground-same ls ms s (lines.Space n t) h = tt
ground-same ls ms s (lines.Phylum n t b) h = tt
ground-same ls ms s (lines.List n t x w k u) h = tt
ground-same ls ms s (lines.Operator n p c k is) h = tt
ground-same ls ms s (lines.Row t ts) h = tt
ground-same ls ms s (lines.Nil n t) h = tt
ground-same ls ms s (lines.Cell n t u v) h = tt
ground-same ls ms s (lines.Hole n t w) h = tt
ground-same ls ms s (lines.Case t w) h = tt
ground-same ls ms s (lines.Declare a n t u w) h = tt

-- ---- the tests of meaning

abbrev IsSortedNow : List Line → List Line → List Line → Type 0
IsSortedNow file above [] = Unit {0}
IsSortedNow file above (l ∷ ls) = IsSorted file above l × IsSortedNow file (above ++ l ∷ []) ls

sorted-now : (file above ls : List Line) → AreSorted file above ls → (IsSortedNow file above ls → ⊥) → ⊥
sorted-now file above [] h not = not tt
sorted-now file above (l ∷ ls) h not = h.0 (λ s. sorted-now file (above ++ l ∷ []) ls h.1 (λ rest. not (s, rest)))

line-passes : (file above : List Line) (l : Line) → IsOwnLine l → IsKnown file l → HasGround file l → HasChoice l → IsSorted file above l
    → IsReadyFor above l → PassesRest file above l
line-passes file above (lines.Sort d) o k g c s r =
    record { known = k; counted = tt; sorted = s; entity = tt; ground = g; choice = c }
line-passes file above (lines.Phylum n t b) o k g c s r =
    record { known = k; counted = tt; sorted = s; entity = tt; ground = tt; choice = tt }
line-passes file above (lines.Operator n p x l is) o k g c s r =
    record { known = k; counted = tt; sorted = s; entity = operator-line-entity file n p x l is o.3; ground = tt; choice = tt }
line-passes file above (lines.Row w ws) o k g c s r =
    record { known = k; counted = row-line-counted file above s.0 w ws r.operator s.1; sorted = s; entity = tt; ground = tt; choice = tt }
line-passes file above (lines.Hole n w (Some tree)) o k g c s r =
    record { known = k; counted = hole-line-counted file above s.0 n w tree o.2 s.1; sorted = s; entity = tt; ground = tt; choice = tt }
line-passes file above (lines.Hole n w None) o k g c s r = absurd o
line-passes file above (lines.Space n t) o k g c s r = absurd o
line-passes file above (lines.List n t x w l u) o k g c s r = absurd o
line-passes file above (lines.Nil n t) o k g c s r = absurd o
line-passes file above (lines.Cell n t u v) o k g c s r = absurd o
line-passes file above (lines.Case t w) o k g c s r = absurd o
line-passes file above (lines.Declare a n t u w) o k g c s r = absurd o

lines-pass : (file above ls : List Line) → AllByRecursion IsOwnLine ls → AllByRecursion (IsKnown file) ls → AllByRecursion (HasGround file) ls
    → AllByRecursion HasChoice ls → IsSortedNow file above ls → AreReady above ls → AreRight file above ls
lines-pass file above [] o k g c s r = tt
lines-pass file above (l ∷ ls) o k g c s r =
    (line-passes file above l o.0 k.0 g.0 c.0 s.0 r.0, lines-pass file (above ++ l ∷ []) ls o.1 k.1 g.1 c.1 s.1 r.1)

-- ---- entries

module _ (once : SpellOnce) (digits : (n : ℕ) → IsRun (decimal n)) where
  own-parts-are : (l : Line) → IsOwnLine l → HasForm l → own_parts l ≡ parts_of l
  own-parts-are (lines.Operator n p true l is) o f = absurd (false≢true (sym o.2))
  own-parts-are (lines.Operator n p false l is) o f =
      ap (λ x. codes "op" ∷ n ∷ codes ":" ∷ p ∷ (x ++ (codes "=" ∷ map item_part is))) (sym (words-are l f.2))
  own-parts-are l o f = refl

  first-byte : (l : Line) → IsOwnLine l → first_byte (text_of l) ≡ 32 → ⊥
  first-byte (lines.Sort d) o e = omega (arith, e)
  first-byte (lines.Phylum n t b) o e = omega (arith, e)
  first-byte (lines.Operator n p x l is) o e = omega (arith, e)
  first-byte (lines.Row w ws) o e = omega (arith, e)
  first-byte (lines.Hole n w (Some tree)) o e = omega (arith, e)
  first-byte (lines.Hole n w None) o e = absurd o
  first-byte (lines.Space n t) o e = absurd o
  first-byte (lines.List n t x w l u) o e = absurd o
  first-byte (lines.Nil n t) o e = absurd o
  first-byte (lines.Cell n t u v) o e = absurd o
  first-byte (lines.Case t w) o e = absurd o
  first-byte (lines.Declare a n t u w) o e = absurd o

  has-parts : (l : Line) → IsOwnLine l → parts_of l ≡ [] → ⊥
  has-parts (lines.Sort d) o e = omega (arith, ap length e)
  has-parts (lines.Phylum n t b) o e = omega (arith, ap length e)
  has-parts (lines.Operator n p x l is) o e = omega (arith, ap length e)
  has-parts (lines.Row w ws) o e = omega (arith, ap length e)
  has-parts (lines.Hole n w (Some tree)) o e = omega (arith, ap length e)
  has-parts (lines.Hole n w None) o e = absurd o
  has-parts (lines.Space n t) o e = absurd o
  has-parts (lines.List n t x w l u) o e = absurd o
  has-parts (lines.Nil n t) o e = absurd o
  has-parts (lines.Cell n t u v) o e = absurd o
  has-parts (lines.Case t w) o e = absurd o
  has-parts (lines.Declare a n t u w) o e = absurd o

  any-written : (ps : List (List ℕ)) (x : List ℕ) → Laid ps x → (first_byte x ≡ 32 → ⊥) → (ps ≡ [] → ⊥) → IsWritten ps x
  any-written [] x h n e = absurd (e refl)
  any-written (p ∷ ps) x h n e = laid-written p ps x h n

  own-written : (l : Line) → IsOwnLine l → HasForm l → IsWritten (parts_of l) (text_of l)
  own-written l o f =
      any-written (parts_of l) (text_of l) (subst (λ ps. Laid ps (text_of l)) (own-parts-are l o f) (line-laid digits l o)) (first-byte l o)
      (has-parts l o)

  own-place : (above : List Line) (l : Line) → IsOwnLine l → IsReadyFor above l → HasPlace above l
  own-place above (lines.Row w ws) o r = r.rows
  own-place above (lines.Sort d) o r = tt
  own-place above (lines.Phylum n t b) o r = tt
  own-place above (lines.Operator n p x l is) o r = tt
  own-place above (lines.Hole n w tree) o r = tt
  own-place above (lines.Space n t) o r = tt
  own-place above (lines.List n t x w l u) o r = tt
  own-place above (lines.Nil n t) o r = tt
  own-place above (lines.Cell n t u v) o r = tt
  own-place above (lines.Case t w) o r = absurd o
  own-place above (lines.Declare a n t u w) o r = tt

  own-entries : (above ls : List Line) → AllByRecursion IsOwnLine ls → AllByRecursion HasForm ls → AreReady above ls
      → AreEntries above (map text_of ls) (map Some ls)
  own-entries above [] o f r = tt
  own-entries above (l ∷ ls) o f r = (
    record {
      no_comment = own-not-skipped l o.0;
      spelled = record { form = f.0; written = own-written l o.0 f.0 };
      place = own-place above l o.0 r.0;
    },
    own-entries (above ++ l ∷ []) ls o.1 f.1 r.1,
  )

  -- ---- UTF-8

  part-utf8 : (p : List ℕ) → IsPart p → IsUtf8 p
  part-utf8 p (a_word w) = ascii-utf8 p (word-low p w.1)
  part-utf8 p (a_mark m) = subst IsUtf8 (sym m.whole) (ascii-utf8 (m.mark ∷ []) (mark-low m.mark m.is, tt))
    where
      mark-low : (c : ℕ) → is_mark c ≡ true → c < 128
      mark-low c h = elim (cases_lt c 128) [
        | inl small ↦ small
        | inr large ↦ absurd (high c large (mark-kind c h))
      ]
        where
          high : (d : ℕ) → 128 ≤ d → kind_of_byte d ≡ 2 → ⊥
          high d large k = kind-high d large k
  part-utf8 p (a_sigil g) =
      subst IsUtf8 (sym g.whole) (ascii-utf8 (g.sigil ∷ g.name) (
        sign-low g.sigil g.is,
        word-low g.name
            (all-weaker _ _ (behind-word g.sigil) g.name g.run),
      ))
  part-utf8 p (a_quoted q) = subst IsUtf8 (sym q.whole) (quoted-utf8 q.contents q.is.utf8)

  text-utf8 : (ls : List Line) → AllByRecursion IsOwnLine ls → AllByRecursion HasForm ls → IsUtf8 (fed (map text_of ls))
  text-utf8 [] o f = ascii-utf8 [] tt
  text-utf8 (l ∷ ls) o f =
      IsUtf8-append (text_of l) (10 ∷ fed (map text_of ls))
      (written-utf8 part-utf8 (parts_of l) (text_of l) (line-parts l f.0) (own-written l o.0 f.0))
      (IsUtf8-append (10 ∷ []) (fed (map text_of ls)) (ascii-utf8 (10 ∷ []) (omega arith, tt)) (text-utf8 ls o.1 f.1))

  -- ---- rows before the first operator

  start-rows : (def : Definition) (above ls : List Line) → last_operator None above ≡ None → AreReady above ls → AreRows def 0 [] ls []
  start-rows def above [] e r = refl
  start-rows def above (lines.Operator n p x l is ∷ ls) e r = refl
  start-rows def above (lines.Row w ws ∷ ls) e r = absurd (subst HasOperator e r.0.operator)
  start-rows def above (lines.Sort d ∷ ls) e r = start-rows def (above ++ lines.Sort d ∷ []) ls (last_operator-append None above (lines.Sort d ∷ []) ∙ e) r.1
  start-rows def above (lines.Space n t ∷ ls) e r = start-rows def (above ++ lines.Space n t ∷ []) ls (last_operator-append None above (lines.Space n t ∷ []) ∙ e) r.1
  start-rows def above (lines.Phylum n t b ∷ ls) e r = start-rows def (above ++ lines.Phylum n t b ∷ []) ls (last_operator-append None above (lines.Phylum n t b ∷ []) ∙ e) r.1
  start-rows def above (lines.List n t x w l u ∷ ls) e r = start-rows def (above ++ lines.List n t x w l u ∷ []) ls (last_operator-append None above (lines.List n t x w l u ∷ []) ∙ e) r.1
  start-rows def above (lines.Nil n t ∷ ls) e r = start-rows def (above ++ lines.Nil n t ∷ []) ls (last_operator-append None above (lines.Nil n t ∷ []) ∙ e) r.1
  start-rows def above (lines.Cell n t u v ∷ ls) e r = start-rows def (above ++ lines.Cell n t u v ∷ []) ls (last_operator-append None above (lines.Cell n t u v ∷ []) ∙ e) r.1
  start-rows def above (lines.Hole n t w ∷ ls) e r = start-rows def (above ++ lines.Hole n t w ∷ []) ls (last_operator-append None above (lines.Hole n t w ∷ []) ∙ e) r.1
  start-rows def above (lines.Case t w ∷ ls) e r = start-rows def (above ++ lines.Case t w ∷ []) ls (last_operator-append None above (lines.Case t w ∷ []) ∙ e) r.1
  start-rows def above (lines.Declare a n t u w ∷ ls) e r = start-rows def (above ++ lines.Declare a n t u w ∷ []) ls (last_operator-append None above (lines.Declare a n t u w ∷ []) ∙ e) r.1

-- ---- what is known

module _ (file other : List Line) (same : HasSame file other) where
  known-sorts : (ls : List Line) → AllByRecursion (IsKnown other) (sorts_in ls) → AllByRecursion (IsKnown file) (sorts_in ls)
  known-sorts [] k = tt
  known-sorts (lines.Sort d ∷ ls) k = (sort-line-known file other same d k.0, known-sorts ls k.1)
  known-sorts (_ ∷ ls) k = known-sorts ls k

  known-phyla : (ls : List Line) → AllByRecursion (IsKnown other) (phyla_in ls) → AllByRecursion (IsKnown file) (phyla_in ls)
  known-phyla [] k = tt
  known-phyla (lines.Phylum n s b ∷ ls) k = (phylum-line-known file other same n s b k.0, known-phyla ls k.1)
  known-phyla (_ ∷ ls) k = known-phyla ls k

  known-operators : (ls : List Line) → AllByRecursion IsOwnLine ls → AllByRecursion (IsKnown other) (operators_in ls)
      → AllByRecursion (IsKnown file) (operators_in ls)
  known-operators [] o k = tt
  known-operators (lines.Operator n p s l is ∷ ls) o k = (operator-line-known file other same n p s l is o.0.3 k.0, known-operators ls o.1 k.1)
  known-operators (_ ∷ ls) o k = known-operators ls o.1 k

-- ---- the whole

pub there : SpellOnce → ((n : ℕ) → IsRun (decimal n)) → (f : Fragment) → AllByRecursion IsOwnLine (lines_in f) → (def : Definition)
    → Says f def → (bytes : List ℕ) → IsReadAs bytes def → IsReadAs (exported f) def
there once digits f own def says bytes read =
    let file = lines_in f in
    let s = read.spells in
    let other = written s.entries in
    let version : s.version ≡ 1 = sym s.numbered.same_version ∙ says.version in
    let ready : AreReady [] file = tree-ready f in
    let usual : AllByRecursion IsUsual file = each IsOwnLine IsUsual own-usual-too file own in
    let forms_other : AllByRecursion HasForm other = entries-formed [] (behind_head (texts_of bytes)) s.entries s.spelled.each in
    let symbols = symbols-formed other def.signature s.numbered.signature forms_other in
    let phyla = phyla-formed def other def.phyla s.numbered.phyla forms_other in
    let no_lists : AllByRecursion IsNoList file = each IsOwnLine IsNoList own-no_list file own in
    let same : HasSame file other = record {
      sorts = sorts-same file other (decls-once (sort_decls file) (sort_decls other) def.signature says.numbered.signature s.numbered.signature);
      phyla = phyla-same def file other says.numbered.phyla s.numbered.phyla;
      operators = operators-same def file other (each IsOwnLine (HasNoNameItems def) (own-no-items def) file own)
          (items-none def says.no_spaces other def.operators s.numbered.operators) says.numbered.operators s.numbered.operators;
      no_lists = no_lists;
      nor_lists = lists-none def other other def.lists s.numbered.lists says.no_lists;
    } in
    let start = start-rows once digits def [] file refl ready in
    let any_rows : AllByRecursion (IsRightRow def Any) (rows_in file) =
    rows-right def Any 0 [] [] file def.operators start tt says.numbered.operators
    (operators-shallow def Any other def.operators s.numbered.operators (each HasForm (HasSmall Any) any-small other forms_other)) in
    let any_holes : AllByRecursion (IsRightHole def Any HasTreeForm) (holes_in file) =
    holes-right def Any HasTreeForm file def.hole_rows (each IsOwnLine (HasOwnTree def Any HasTreeForm) (own-tree-of def Any HasTreeForm) file own)
    says.numbered.hole_rows (holes-good def Any HasTreeForm other def.hole_rows s.numbered.hole_rows
    (each HasForm (HasGood def Any HasTreeForm) (form-good def) other forms_other)
    (each HasForm (HasSmall Any) any-small other forms_other)) in
    let forms : AllByRecursion HasForm file =
    of-all HasForm file usual (subst (AllByRecursion HasForm) (sym same.sorts) (of-sorts HasForm other forms_other))
    (subst (AllByRecursion HasForm) (sym same.phyla) (of-phyla HasForm other forms_other))
    (subst (AllByRecursion HasForm) (sym same.operators) (of-operators HasForm other forms_other))
    (each-row def Any HasForm (row-form def symbols phyla says.no_lists Any) file own says.variables any_rows)
    (each-hole def Any HasForm HasTreeForm (hole-form def symbols phyla says.no_lists Any) file own says.variables any_holes) in
    let head : IsLineText (codes "psg 1") = record { no_feed = (refl, (refl, (refl, (refl, (refl, tt))))); no_return = λ e. omega (arith, e) } in
    let whole : exported f ≡ fed (codes "psg 1" ∷ map text_of file) = ap (λ x. codes "psg 1\n" ++ x) (fed-lines file) in
    let texts : texts_of (exported f) ≡ codes "psg 1" ∷ map text_of file =
    ap texts_of whole ∙ texts-again (codes "psg 1" ∷ map text_of file) (head, lines-texts digits file own) in
    let spelled : AreSpelled 1 (texts_of (exported f)) (map Some file) = subst (λ ts. AreSpelled 1 ts (map Some file)) (sym texts) (record {
      head = head-one (map text_of file);
      each = own-entries once digits [] file own forms ready;
      of_version = subst (AllByRecursion (λ line. is_of 1 line ≡ true)) (sym (written-some file))
          (each IsOwnLine (λ line. is_of 1 line ≡ true) own-version file own);
    }) in
    let utf8 : IsUtf8 (exported f) = subst IsUtf8 (sym whole)
    (IsUtf8-append (codes "psg 1\n") (fed (map text_of file))
    (ascii-utf8 (codes "psg 1\n") (omega arith, (omega arith, (omega arith, (omega arith, (omega arith, (omega arith, tt))))))) (text-utf8 once digits file own forms)) in
    let faultless : IsFaultless (exported f) = λ fault refused.
    text-plain once s.version bytes s.utf8 read.faultless s.spelled.head s.entries s.spelled.each s.spelled.of_version (λ plain_as.
    text-passed s.version bytes s.utf8 read.faultless s.spelled.head s.entries s.spelled.each plain_as (λ passed_other.
    sorted-now file [] file says.sorted (λ sorted.
    let plain_other : AllByRecursion (IsPlain 1) other = subst (λ v. AllByRecursion (IsPlain v) other) version plain_as in
    let known_other = all-known other [] other passed_other in
    let small_other : AllByRecursion (HasSmall IsLow) other = each (IsPlain 1) (HasSmall IsLow) (λ l p. low-small l p.shallow) other plain_other in
    let low_rows : AllByRecursion (IsRightRow def IsLow) (rows_in file) =
    rows-right def IsLow 0 [] [] file def.operators start tt says.numbered.operators
    (operators-shallow def IsLow other def.operators s.numbered.operators small_other) in
    let fine_holes : AllByRecursion (IsRightHole def IsLow (IsFine other)) (holes_in file) =
    holes-right def IsLow (IsFine other) file def.hole_rows
    (each IsOwnLine (HasOwnTree def IsLow (IsFine other)) (own-tree-of def IsLow (IsFine other)) file own)
    says.numbered.hole_rows (holes-good def IsLow (IsFine other) other def.hole_rows s.numbered.hole_rows
    (both-lines (IsKnown other) (IsPlain 1) (HasGood def IsLow (IsFine other)) (λ l k p. fine-good def other l k p.shallow) other known_other plain_other)
    small_other) in
    let plain : AllByRecursion (IsPlain 1) file =
    of-all (IsPlain 1) file usual (subst (AllByRecursion (IsPlain 1)) (sym same.sorts) (of-sorts (IsPlain 1) other plain_other))
    (subst (AllByRecursion (IsPlain 1)) (sym same.phyla) (of-phyla (IsPlain 1) other plain_other))
    (subst (AllByRecursion (IsPlain 1)) (sym same.operators) (of-operators (IsPlain 1) other plain_other))
    (each-row def IsLow (IsPlain 1) (λ w ws o v r. record { of_version = refl; words = tt; shallow = r.shallow }) file own says.variables low_rows)
    (each-hole def IsLow (IsPlain 1) (IsFine other) (λ k w tree o v h. record { of_version = refl; words = tt; shallow = (h.shallow, h.good.1) })
    file own says.variables fine_holes) in
    let known : AllByRecursion (IsKnown file) file =
    of-all (IsKnown file) file usual
    (known-sorts file other same file (subst (AllByRecursion (IsKnown other)) (sym same.sorts) (of-sorts (IsKnown other) other known_other)))
    (known-phyla file other same file (subst (AllByRecursion (IsKnown other)) (sym same.phyla) (of-phyla (IsKnown other) other known_other)))
    (known-operators file other same file own
    (subst (AllByRecursion (IsKnown other)) (sym same.operators) (of-operators (IsKnown other) other known_other)))
    (each-row def IsLow (IsKnown file) (λ w ws o v r. (
      term-known def.signature file says.numbered.signature r.is.names [] r.sort w r.row.head r.is.of_head,
      terms-known def.signature file says.numbered.signature r.is.names r.columns ws r.row.columns r.is.of_columns,
    )) file own says.variables low_rows)
    (each-hole def IsLow (IsKnown file) (IsFine other) (λ k w tree o v h. (
      ap is_some (kind-declared-in file no_lists k) ∙ ap (λ x. is_some (kind_declared x k)) (phyla-are def file def.phyla says.numbered.phyla)
          ∙ kind-found def symbols phyla says.no_lists k h.row.kind h.is.of_kind,
      term-known def.signature file says.numbered.signature h.is.has_cases.3.names [] h.is.sort w h.is.has_cases.0.term h.is.has_cases.3.of_term,
      tree-known file other same tree o.2 h.good.0,
    )) file own says.variables fine_holes) in
    let ground_other : AllByRecursion (HasGround file) other =
    each (HasGround other) (HasGround file) (ground-same file other same) other (all-ground other [] other passed_other) in
    let ground : AllByRecursion (HasGround file) file =
    of-all (HasGround file) file usual (subst (AllByRecursion (HasGround file)) (sym same.sorts) (of-sorts (HasGround file) other ground_other))
    (subst (AllByRecursion (HasGround file)) (sym same.phyla) (of-phyla (HasGround file) other ground_other))
    (subst (AllByRecursion (HasGround file)) (sym same.operators) (of-operators (HasGround file) other ground_other))
    (each-row def IsLow (HasGround file) (λ w ws o v r. tt) file own says.variables low_rows)
    (each-hole def IsLow (HasGround file) (IsFine other) (λ k w tree o v h. tt) file own says.variables fine_holes) in
    let choice_other = all-choice other [] other passed_other in
    let choice : AllByRecursion HasChoice file =
    of-all HasChoice file usual (subst (AllByRecursion HasChoice) (sym same.sorts) (of-sorts HasChoice other choice_other))
    (subst (AllByRecursion HasChoice) (sym same.phyla) (of-phyla HasChoice other choice_other))
    (subst (AllByRecursion HasChoice) (sym same.operators) (of-operators HasChoice other choice_other))
    (each-row def IsLow HasChoice (λ w ws o v r. tt) file own says.variables low_rows)
    (each-hole def IsLow HasChoice (IsFine other) (λ k w tree o v h. tt) file own says.variables fine_holes) in
    let passed : ArePassed file [] file =
    all-passed file def says.numbered [] file refl (lines-pass file [] file own known ground choice sorted ready) in
    text-faultless once 1 (exported f) file utf8 spelled (λ no. no plain) passed fault refused))) in
    record {
      spells = record {
        utf8 = utf8;
        version = 1;
        entries = map Some file;
        spelled = spelled;
        numbered = subst (λ ls. IsNumbered 1 ls def) (sym (written-some file)) says.numbered;
      };
      faultless = faultless;
    }
