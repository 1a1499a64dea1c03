-- Tests of names, character by character and word by word.
use Rattle.std.proofs.Common.{◌≡◌, ℕ, ◌+◌, ◌<◌, Bool, true, false, cond, ◌&&◌, ◌||◌, List, [], ◌∷◌, ◌++◌, length, drop, get_or, refl, ap, sym, ◌∙◌, true≢false, IsTrue, bytes_eq}
use Rattle.std.specs.List.{AllByRecursion}
use Rattle.std.specs.Cmp.{first_so, second_so}
use Rattle.std.specs.Str.{chars, IsUtf8}
use Rattle.std.proofs.lemmas.List.{at_drop_more}
use Rattle.std.proofs.lemmas.Str.{encodes-chars, encodes_same}
use Rattle.std.proofs.Math.Bool.{or_assoc}
use Rattle.std.proofs.lemmas.Bool.{and_from}
use Rattle.psg_terms.specs.Names.{Name, is_among}
use Rattle.psg_terms.specs.Words.{starts_word, goes_on_word, IsWord, IsFreeWord}
use Rattle.psg_grammar.specs.declared.types.Operator.{Operator}
use Rattle.psg_grammar.specs.declared.types.ListKind.{ListKind}
use Rattle.psg_grammar.specs.declared.types.Item.{Item}
use Rattle.psg_grammar.specs.declared.types.Definition.{Definition}
use Rattle.psg_grammar.specs.WellFormed.{words_in, operator_words, separators, fixed_words}
use Rattle.psg_tree.specs.WordTests.{is_word_from}

among-append : (xs ys : List Name) (n : Name) → is_among (xs ++ ys) n ≡ is_among xs n || is_among ys n
among-append [] ys n = refl
among-append (x ∷ xs) ys n = ap (λ b. bytes_eq x n || b) (among-append xs ys n) ∙ sym (or_assoc (bytes_eq x n) (is_among xs n) (is_among ys n))

operators_next : (ops : List Operator) (i : ℕ) (op : Operator) (n : Name) → i < length ops → op ≡ get_or ops i op
    → is_among (operator_words (drop i ops)) n ≡ is_among (words_in op.items) n || is_among (operator_words (drop (i + 1) ops)) n
operators_next ops i op n h e =
    at_drop_more (λ xs. is_among (operator_words xs) n) ops i op h
    ∙ ap (λ (o : Operator). is_among (words_in o.items ++ operator_words (drop (i + 1) ops)) n) (sym e)
    ∙ among-append (words_in op.items) (operator_words (drop (i + 1) ops)) n

-- a word of the operator
pub operator_word : (ops : List Operator) (i : ℕ) (op : Operator) (n : Name) (slice : List Item) (r : Bool) → i < length ops → op ≡ get_or ops i op
    → slice ≡ op.items → r ≡ is_among (words_in slice) n → r ≡ true → is_among (operator_words (drop i ops)) n ≡ is_among (operator_words ops) n → true ≡ is_among (operator_words ops) n
operator_word ops i op n slice r h e s a b inv =
    ap (λ x. x || is_among (operator_words (drop (i + 1) ops)) n) (sym b ∙ a ∙ ap (λ xs. is_among (words_in xs) n) s) ∙ sym (operators_next ops i op n h e) ∙ inv

-- no word of the operator
pub no_operator_word : (ops : List Operator) (i : ℕ) (op : Operator) (n : Name) (slice : List Item) (r : Bool) → i < length ops → op ≡ get_or ops i op
    → slice ≡ op.items → r ≡ is_among (words_in slice) n → r ≡ false → is_among (operator_words (drop i ops)) n ≡ is_among (operator_words ops) n
    → is_among (operator_words (drop (i + 1) ops)) n ≡ is_among (operator_words ops) n
no_operator_word ops i op n slice r h e s a b inv =
    ap (λ x. x || is_among (operator_words (drop (i + 1) ops)) n) (sym b ∙ a ∙ ap (λ xs. is_among (words_in xs) n) s) ∙ sym (operators_next ops i op n h e) ∙ inv

pub fixed_operator_word : (def : Definition) (n : Name) (slice : List Operator) (r : Bool) → slice ≡ def.operators → r ≡ is_among (operator_words slice) n → r ≡ true → r ≡ is_among (fixed_words def) n
fixed_operator_word def n slice r s a b =
    b ∙ ap (λ x. x || is_among (separators def.lists) n) (sym b ∙ a ∙ ap (λ xs. is_among (operator_words xs) n) s) ∙ sym (among-append (operator_words def.operators) (separators def.lists) n)

pub fixed_separator : (def : Definition) (n : Name) (slice : List Operator) (lists : List ListKind) (r q : Bool) → slice ≡ def.operators → lists ≡ def.lists
    → r ≡ is_among (operator_words slice) n → r ≡ false → q ≡ is_among (separators lists) n → q ≡ is_among (fixed_words def) n
fixed_separator def n slice lists r q s l a b c =
    c ∙ ap (λ xs. is_among (separators xs) n) l
    ∙ ap (λ x. x || is_among (separators def.lists) n) (sym b ∙ a ∙ ap (λ xs. is_among (operator_words xs) n) s) ∙ sym (among-append (operator_words def.operators) (separators def.lists) n)

-- one more character of a word
pub word_more : (first : Bool) (cs : List ℕ) (n c : ℕ) → (n < length cs) × (c ≡ get_or cs n c)
    → is_word_from first (drop n cs) ≡ cond first (starts_word c) (goes_on_word c) && is_word_from false (drop (n + 1) cs)
word_more first cs n c h =
    at_drop_more (is_word_from first) cs n c h.0
    ∙ ap (λ x. cond first (starts_word x) (goes_on_word x) && is_word_from false (drop (n + 1) cs)) (sym h.1)

all_go_on : (cs : List ℕ) → is_word_from false cs ≡ true → AllByRecursion (λ d. IsTrue (goes_on_word d)) cs
all_go_on [] h = tt
all_go_on (c ∷ cs) h = (first_so (goes_on_word c) (is_word_from false cs) h, all_go_on cs (second_so (goes_on_word c) (is_word_from false cs) h))

go_on_all : (cs : List ℕ) → AllByRecursion (λ d. IsTrue (goes_on_word d)) cs → is_word_from false cs ≡ true
go_on_all [] h = refl
go_on_all (c ∷ cs) h = and_from (goes_on_word c) (is_word_from false cs) h.0 (go_on_all cs h.1)

word_tested : (cs : List ℕ) → is_word_from true cs ≡ true → IsWord cs
word_tested [] h = absurd (true≢false (sym h))
word_tested (c ∷ cs) h = (first_so (starts_word c) (is_word_from false cs) h, all_go_on cs (second_so (starts_word c) (is_word_from false cs) h))

word_passes : (cs : List ℕ) → IsWord cs → is_word_from true cs ≡ true
word_passes [] h = absurd h
word_passes (c ∷ cs) h = and_from (starts_word c) (is_word_from false cs) h.0 (go_on_all cs h.1)

pub free_word : (fixed : List Name) (n : Name) → IsUtf8 n → is_word_from true (chars n) ≡ true → is_among fixed n ≡ false → IsFreeWord fixed n
free_word fixed n u w f = (chars n, sym (encodes-chars n u), word_tested (chars n) w, f)

pub free_word_is_word : (fixed : List Name) (n : Name) → IsUtf8 n → IsFreeWord fixed n → is_word_from true (chars n) ≡ true
free_word_is_word fixed n u (cs, e, w, f) = ap (is_word_from true) (encodes_same (chars n) cs (encodes-chars n u ∙ e)) ∙ word_passes cs w

pub free_word_is_free : (fixed : List Name) (n : Name) → IsFreeWord fixed n → is_among fixed n ≡ false
free_word_is_free fixed n (cs, e, w, f) = f
