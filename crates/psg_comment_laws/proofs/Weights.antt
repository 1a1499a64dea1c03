-- A tree fixes how many of the tokens that it yields are counted.
use Rattle.std.proofs.Common.{◌≡◌, ℕ, ◌+◌, ◌==◌, Bool, true, false, cond, List, [], ◌∷◌, ◌++◌, Option, Some, None, slice_get, sym, ap, ◌∙◌, subst, refl, arith}
use Rattle.std.specs.Prelude.{bytes_eq, chars, codes, count_by, encode_utf8_all, not, ◌&&◌, ◌||◌}
use Rattle.std.proofs.lemmas.Bool.{eqb-true, false≢true}
use Rattle.std.proofs.lemmas.List.Sums.{sum_by-cons}
use Rattle.std.proofs.lemmas.Str.{chars-encodes, encode_ascii}
use Rattle.psg_terms.specs.Names.{Name, is_among}
use Rattle.psg_terms.specs.Words.{starts_word}
use Rattle.psg_lexis.specs.Classes.{is_solo}
use Rattle.psg_lexis.specs.declared.token.Spanned.{Spanned}
use Rattle.psg_lexis.proofs.Disjoint.{solo_apart}
use Rattle.psg_grammar.specs.declared.types.Definition.{Definition}
use Rattle.psg_grammar.specs.declared.types.Item.{Item}
use Rattle.psg_grammar.specs.declared.types.Item.TheVariants as items
use Rattle.psg_grammar.specs.declared.types.Kind.{Kind}
use Rattle.psg_grammar.specs.declared.types.Kind.TheVariants as kinds
use Rattle.psg_grammar.specs.declared.types.ListKind.{ListKind}
use Rattle.psg_grammar.specs.declared.types.Operator.{Operator}
use Rattle.psg_grammar.specs.Fragments.{Fragment, hole, ending, cell, operator, with_child, with_name, with_number, with_text, anything, observed}
use Rattle.psg_grammar.specs.WellFormed.{fixed_words}
use Rattle.psg_class.specs.Places.{solid}
use Rattle.psg_class.specs.Terminals.{Token, word, numeral, quoted, solo, symbols, placeholder, dots, fixed, a_name, a_number, a_text, a_hole, a_more, stray, is_word, is_run, are_word, word_terminal, fixed_if, terminal_of}
use Rattle.psg_class.specs.Texts.{tokens_of}
use Rattle.psg_class.specs.Yields.{TreeYields, of_hole, of_operator, in_brackets, PartsYield, no_items, of_word, of_refers, of_declares, of_number, of_text, of_slot, of_list_slot, ListYields, no_elements, only_more, elements, SomeYield, last_element, and_more, and_elements, Yields}
use Rattle.psg_commented.specs.Noting.{counts, is_counted}

-- ---- words that are counted

abbrev is_bracket : Name → Bool
is_bracket [] = false
is_bracket (c ∷ []) = (c == 40) || (c == 41)
is_bracket (c ∷ d ∷ cs) = false

abbrev word_weight : Name → ℕ
word_weight w = cond (is_bracket w) 0 1

one_char : (c : ℕ) → c ≡ 40 → chars (c ∷ []) ≡ c ∷ []
one_char c e = subst (λ d. chars (d ∷ []) ≡ d ∷ []) (sym e)
    (ap chars (sym (ap (λ l. l ++ []) (encode_ascii 40 (omega arith)))) ∙ chars-encodes (40 ∷ []) refl)

one_char' : (c : ℕ) → c ≡ 41 → chars (c ∷ []) ≡ c ∷ []
one_char' c e = subst (λ d. chars (d ∷ []) ≡ d ∷ []) (sym e)
    (ap chars (sym (ap (λ l. l ++ []) (encode_ascii 41 (omega arith)))) ∙ chars-encodes (41 ∷ []) refl)

no_word : (c : ℕ) → chars (c ∷ []) ≡ c ∷ [] → starts_word c ≡ false → is_word (c ∷ []) ≡ false
no_word c e h =
    ap (λ cs. are_word cs && bytes_eq (encode_utf8_all cs) (c ∷ [])) e
    ∙ ap (λ b. (b && true) && bytes_eq (encode_utf8_all (c ∷ [])) (c ∷ [])) h

-- what a word or a run of symbols is not
apart : (test : Name → Bool) → (test (40 ∷ []) ≡ false) → (test (41 ∷ []) ≡ false) → (w : Name) → test w ≡ true
    → is_bracket w ≡ false
apart test none none' [] h = refl
apart test none none' (c ∷ []) h = by (c == 40) refl (c == 41) refl
  where
    by : (a : Bool) → (c == 40) ≡ a → (b : Bool) → (c == 41) ≡ b → (a || b) ≡ false
    by true e b f = absurd (false≢true (sym none ∙ sym (ap (λ d. test (d ∷ [])) (eqb-true c 40 e)) ∙ h))
    by false e true f = absurd (false≢true (sym none' ∙ sym (ap (λ d. test (d ∷ [])) (eqb-true c 41 f)) ∙ h))
    by false e false f = refl
apart test none none' (c ∷ d ∷ cs) h = refl

word_apart : (w : Name) → is_word w ≡ true → is_bracket w ≡ false
word_apart = apart is_word (no_word 40 (one_char 40 refl) (solo_apart 40 refl).0) (no_word 41 (one_char' 41 refl) (solo_apart 41 refl).0)

run_apart : (w : Name) → is_run w ≡ true → is_bracket w ≡ false
run_apart = apart is_run refl refl

same_fixed : (w v : Name) → fixed w ≡ fixed v → w ≡ v
same_fixed w v e = cc

not_cond : (b : Bool) → cond (not b) 1 0 ≡ cond {A = ℕ} b 0 1
not_cond true = refl
not_cond false = refl

module _ (def : Definition) where
  token_weight : (t : Token) (w : Name) → terminal_of def t ≡ fixed w → cond (is_counted t) 1 0 ≡ word_weight w
  token_weight (word x) w e = by (is_word x) refl (is_among (fixed_words def) x) e
    where
      by : (a : Bool) → is_word x ≡ a → (b : Bool) → word_terminal x a b ≡ fixed w → 1 ≡ word_weight w
      by true k true f = ap (λ b. cond b 0 1) (sym (word_apart x k)) ∙ ap word_weight (same_fixed x w f)
      by true k false f = let y : a_name ≡ fixed w = f in absurd (cc)
      by false k b f = let y : stray ≡ fixed w = f in absurd (cc)
  token_weight (solo c) w e = by (is_solo c) e
    where
      by : (a : Bool) → fixed_if a (c ∷ []) ≡ fixed w → cond (not ((c == 40) || (c == 41))) 1 0 ≡ word_weight w
      by true f = not_cond ((c == 40) || (c == 41)) ∙ ap word_weight (same_fixed (c ∷ []) w f)
      by false f = let y : stray ≡ fixed w = f in absurd (cc)
  token_weight (symbols x) w e = by (is_run x) refl e
    where
      by : (a : Bool) → is_run x ≡ a → fixed_if a x ≡ fixed w → 1 ≡ word_weight w
      by true k f = ap (λ b. cond b 0 1) (sym (run_apart x k)) ∙ ap word_weight (same_fixed x w f)
      by false k f = let y : stray ≡ fixed w = f in absurd (cc)
  token_weight (numeral n) w e = let y : a_number ≡ fixed w = e in absurd (cc)
  token_weight (quoted s) w e = let y : a_text ≡ fixed w = e in absurd (cc)
  token_weight (placeholder p) w e = let y : a_hole p ≡ fixed w = e in absurd (cc)
  token_weight dots w e = let y : a_more ≡ fixed w = e in absurd (cc)

  -- ---- the weight of a tree

  abbrev words_in : List Item → ℕ
  words_in [] = 0
  words_in (items.Word w ∷ more) = word_weight w + words_in more
  words_in (items.Slot k ∷ more) = words_in more
  words_in (items.Refers s ∷ more) = words_in more
  words_in (items.Declares s ∷ more) = words_in more
  words_in (items.Number ∷ more) = words_in more
  words_in (items.Text ∷ more) = words_in more
  words_in (i ∷ more) = words_in more

  abbrev operator_words : Option Operator → ℕ
  operator_words None = 0
  operator_words (Some o) = words_in (solid o.items)

  abbrev separator_weight : Option ListKind → ℕ
  separator_weight None = 0
  separator_weight (Some k) = word_weight k.separator

  abbrev goes_on : Fragment → Bool
  goes_on (ending l false) = false
  goes_on _ = true

  abbrev weight : Fragment → ℕ
  weight (hole p) = 1
  weight (ending l u) = cond u 1 0
  weight (cell l e r) = weight e + (cond (goes_on r) (separator_weight (slice_get def.lists l)) 0 + weight r)
  weight (operator n) = operator_words (slice_get def.operators n)
  weight (with_child f t) = weight f + weight t
  weight (with_name f x) = weight f + 1
  weight (with_number f x) = weight f + 1
  weight (with_text f x) = weight f + 1
  weight anything = 0
  weight (observed f) = 0

  abbrev count : List Token → ℕ
  count [] = 0
  count (t ∷ ts) = cond (is_counted t) 1 0 + count ts

  count_append : (xs ys : List Token) → count (xs ++ ys) ≡ count xs + count ys
  count_append [] ys = omega arith
  count_append (x ∷ xs) ys = let k = count_append xs ys in omega (arith, k)

  some_goes_on : {f : Fragment} {l d : ℕ} {ts : List Token} → SomeYield def f l d ts → goes_on f ≡ true
  some_goes_on (last_element kind found y) = refl
  some_goes_on (and_more ts kind separator found unfinished is y) = refl
  some_goes_on (and_elements kind m n own behind separator found is y r) = refl

  mutual
    tree_weight : {f : Fragment} {p level d : ℕ} {ts : List Token} → TreeYields def f p level d ts → count ts ≡ weight f
    tree_weight (of_hole phylum found closed) = refl
    tree_weight (of_operator {f = f} {ts = ts} n o found is least parts) =
        let k : weight f + words_in (solid o.items) ≡ operator_words (slice_get def.operators n) + count ts = parts_weight parts in
        let m : operator_words (slice_get def.operators n) ≡ words_in (solid o.items) = ap operator_words found in
        omega (arith, k, m)
    tree_weight (in_brackets {ts = ts} phylum t u found bracketed opens closes y) =
        let k = tree_weight y in
        let a : cond (is_counted t) 1 0 ≡ 0 = token_weight t (codes "(") opens in
        let b : cond (is_counted u) 1 0 ≡ 0 = token_weight u (codes ")") closes in
        let m = count_append ts (u ∷ []) in
        omega (arith, k, a, b, m)

    parts_weight : {o : Operator} {first : Bool} {f g : Fragment} {d e : ℕ} {more : List Item} {ts : List Token}
        → PartsYield def o first f d more g e ts → weight g + words_in more ≡ weight f + count ts
    parts_weight no_items = refl
    parts_weight (of_word {w = w} t is y) =
        let k = parts_weight y in
        let m : cond (is_counted t) 1 0 ≡ word_weight w = token_weight t w is in
        omega (arith, k, m)
    parts_weight (of_refers s x is y) = let k = parts_weight y in omega (arith, k)
    parts_weight (of_declares s x is y) = let k = parts_weight y in omega (arith, k)
    parts_weight (of_number x y) = let k = parts_weight y in omega (arith, k)
    parts_weight (of_text x y) = let k = parts_weight y in omega (arith, k)
    parts_weight (of_slot t depth own behind tree y) =
        let k = parts_weight y in
        let m = tree_weight tree in
        let n = count_append own behind in
        omega (arith, k, m, n)
    parts_weight (of_list_slot t depth own behind tree y) =
        let k = parts_weight y in
        let m = list_weight tree in
        let n = count_append own behind in
        omega (arith, k, m, n)

    list_weight : {f : Fragment} {l d : ℕ} {ts : List Token} → ListYields def f l d ts → count ts ≡ weight f
    list_weight (no_elements kind found) = refl
    list_weight (only_more kind found unfinished) = refl
    list_weight (elements y) = some_weight y

    some_weight : {f : Fragment} {l d : ℕ} {ts : List Token} → SomeYield def f l d ts → count ts ≡ weight f
    some_weight (last_element kind found y) = let k = tree_weight y in omega (arith, k)
    some_weight (and_more {l = l} ts kind separator found unfinished is y) =
        let k = tree_weight y in
        let m : cond (is_counted separator) 1 0 ≡ word_weight kind.separator = token_weight separator kind.separator is in
        let n : separator_weight (slice_get def.lists l) ≡ word_weight kind.separator = ap separator_weight found in
        let q = count_append ts (separator ∷ dots ∷ []) in
        omega (arith, k, m, n, q)
    some_weight (and_elements {l = l} {r = r} kind a b own behind separator found is y more) =
        let k = tree_weight y in
        let j = some_weight more in
        let m : cond (is_counted separator) 1 0 ≡ word_weight kind.separator = token_weight separator kind.separator is in
        let n : separator_weight (slice_get def.lists l) ≡ word_weight kind.separator = ap separator_weight found in
        let c : cond (goes_on r) (separator_weight (slice_get def.lists l)) 0 ≡ separator_weight (slice_get def.lists l) =
        ap (λ q. cond q (separator_weight (slice_get def.lists l)) 0) (some_goes_on more) in
        let q = count_append own (separator ∷ behind) in
        omega (arith, k, j, m, n, c, q)

  yields_weight : (f : Fragment) (kind : Kind) (level d : ℕ) (ts : List Token) → Yields def f kind level d ts
      → count ts ≡ weight f
  yields_weight f (kinds.Phylum p) level d ts y = tree_weight y
  yields_weight f (kinds.List l) level d ts y = list_weight y

  spans_count : (ts : List Spanned) → count_by counts ts ≡ count (tokens_of ts)
  spans_count [] = refl
  spans_count (t ∷ ts) =
      sum_by-cons (λ (s : Spanned). cond (counts s) 1 0) t ts ∙ ap (λ n. cond (is_counted t.token) 1 0 + n) (spans_count ts)

  -- two lists of tokens that a tree yields have as many that are counted
  pub same_count : (f : Fragment) (kind : Kind) (level level' d e : ℕ) (ts us : List Spanned)
      → Yields def f kind level d (tokens_of ts) → Yields def f kind level' e (tokens_of us)
      → count_by counts ts ≡ count_by counts us
  same_count f kind level level' d e ts us y z =
      spans_count ts ∙ yields_weight f kind level d (tokens_of ts) y
      ∙ sym (yields_weight f kind level' e (tokens_of us) z) ∙ sym (spans_count us)
