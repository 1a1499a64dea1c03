-- What a text's tokens say of the leaves that it gives.
use Rattle.std.proofs.Common.{◌≡◌, ℕ, ◌+◌, ◌<◌, true, List, [], ◌∷◌, ◌++◌, length, get_or, take, map, Some, chars, encode_utf8_all, refl, sym, ◌∙◌, ap, ap₂, subst, suc, zero, arith}
use Rattle.std.proofs.lemmas.Bool.{and_from}
use Rattle.std.specs.List.{AllByRecursion}
use Rattle.std.specs.Cmp.{first_so, second_so}
use Rattle.std.specs.Str.{all_scalars, IsUtf8}
use Rattle.std.proofs.lemmas.List.{map-append, take_more}
use Rattle.std.proofs.lemmas.Option.{none-some}
use Rattle.std.proofs.lemmas.Str.{chars-encodes, scalars-chars}
use lib.Utf8.{scalar}
use Rattle.psg_terms.specs.Names.{Name}
use Rattle.psg_terms.specs.Words.{IsWord}
use Rattle.psg_grammar.specs.Insertion.{Leaf as PlainLeaf, a_name, a_number, a_text}
use Rattle.psg_lexis.specs.Classes.{Chars}
use Rattle.psg_lexis.specs.Tokens.{value_of, IsToken, word, number, text, solo, symbol, hole, more, HasTokens, nothing, blank, next}
use Rattle.psg_lexis.specs.declared.token.Spanned.{Spanned}
use Rattle.psg_lexis.specs.declared.token.Token.{Token}
use Rattle.psg_lexis.specs.declared.token.Token.TheVariants as tokens
use Rattle.psg_session.specs.declared.leaves.Leaf.{Leaf}
use Rattle.psg_session.specs.Leaves.{given, HasWord, leaf_of}
use Rattle.psg_session.specs.Views.{plain_leaf}

-- ---- lists of leaves

-- a token that is no leaf
pub no_leaf : (t : Token) → ((w : Name) → t ≡ tokens.Word w → ⊥) → ((n : ℕ) → t ≡ tokens.Number n → ⊥)
    → ((s : List ℕ) → t ≡ tokens.Text s → ⊥)
    → (x : PlainLeaf) → leaf_of t ≡ Some x → ⊥
no_leaf (tokens.Word w) a b d x e = a w refl
no_leaf (tokens.Number n) a b d x e = b n refl
no_leaf (tokens.Text s) a b d x e = d s refl
no_leaf (tokens.Solo s) a b d x e = none-some x e
no_leaf (tokens.Symbol s) a b d x e = none-some x e
no_leaf (tokens.Hole s) a b d x e = none-some x e
no_leaf tokens.More a b d x e = none-some x e

-- one more token that is a leaf
pub one_more : (ts : List Spanned) (i : ℕ) (s : Spanned) (leaves : List Leaf) (x : Leaf) → i < length ts
    → s ≡ get_or ts i s
    → map given (take i ts) ≡ map Some (map plain_leaf leaves) → given s ≡ Some (plain_leaf x)
    → map given (take (i + 1) ts) ≡ map Some (map plain_leaf (leaves ++ x ∷ []))
one_more ts i s leaves x lt at before is =
    ap (map given) (take_more ts i s lt) ∙ map-append given (take i ts) (get_or ts i s ∷ [])
    ∙ ap₂ (λ a b. a ++ b ∷ []) before (ap given (sym at) ∙ is)
    ∙ sym (ap (map Some) (map-append plain_leaf leaves (x ∷ []))
    ∙ map-append Some (map plain_leaf leaves) (plain_leaf x ∷ []))

-- a token that is no leaf is among no list of leaves
pub none_with : (ts : List Spanned) (i : ℕ) (s : Spanned) → i < length ts → s ≡ get_or ts i s
    → ((x : PlainLeaf) → given s ≡ Some x → ⊥)
    → (xs : List PlainLeaf) → map given ts ≡ map Some xs → ⊥
none_with [] i s lt at never xs e = absurd (omega (arith, lt))
none_with (t ∷ ts) i s lt at never [] e = let d : given t ∷ map given ts ≡ [] = e in cc
none_with (t ∷ ts) zero s lt at never (x ∷ xs) e =
    let d : given t ∷ map given ts ≡ Some x ∷ map Some xs = e in
    let is : given t ≡ Some x = cc in
    never x (ap given at ∙ is)
none_with (t ∷ ts) (suc i) s lt at never (x ∷ xs) e =
    let d : given t ∷ map given ts ≡ Some x ∷ map Some xs = e in
    let tail : map given ts ≡ map Some xs = cc in
    none_with ts i s (omega (arith, lt)) at never xs tail

pub same_leaves : (xs ys : List PlainLeaf) → map Some xs ≡ map Some ys → xs ≡ ys
same_leaves [] [] e = refl
same_leaves [] (y ∷ ys) e = let d : [] ≡ Some y ∷ map Some ys = e in absurd (cc)
same_leaves (x ∷ xs) [] e = let d : Some x ∷ map Some xs ≡ [] = e in absurd (cc)
same_leaves (x ∷ xs) (y ∷ ys) e =
    let d : Some x ∷ map Some xs ≡ Some y ∷ map Some ys = e in
    let head : x ≡ y = cc in
    let tail : map Some xs ≡ map Some ys = cc in
    ap₂ (λ a b. a ∷ b) head (same_leaves xs ys tail)

-- ---- words

front_scalars : (xs ys : Chars) → all_scalars (xs ++ ys) ≡ true → all_scalars xs ≡ true
front_scalars [] ys h = refl
front_scalars (x ∷ xs) ys h =
    and_from (scalar x) (all_scalars xs) (first_so (scalar x) (all_scalars (xs ++ ys)) h)
    (front_scalars xs ys (second_so (scalar x) (all_scalars (xs ++ ys)) h))

rest_scalars : (xs ys : Chars) → all_scalars (xs ++ ys) ≡ true → all_scalars ys ≡ true
rest_scalars [] ys h = h
rest_scalars (x ∷ xs) ys h = rest_scalars xs ys (second_so (scalar x) (all_scalars (xs ++ ys)) h)

module _ (fixed : List Name) where
  word_of : {front rest : Chars} {t : Token} → IsToken fixed front rest t → all_scalars front ≡ true → (x : PlainLeaf)
      → leaf_of t ≡ Some x → HasWord x
  word_of (word cs rest w ends small) s x is =
      let d : Some (a_name (encode_utf8_all cs)) ≡ Some x = is in
      let same : a_name (encode_utf8_all cs) ≡ x = cc in
      subst HasWord same (subst IsWord (sym (chars-encodes cs s)) w)
  word_of (number cs rest run ends small) s x is =
      let d : Some (a_number (value_of cs)) ≡ Some x = is in
      let same : a_number (value_of cs) ≡ x = cc in
      subst HasWord same tt
  word_of (text cs written rest is_written contents small) s x is =
      let d : Some (a_text (encode_utf8_all cs)) ≡ Some x = is in
      let same : a_text (encode_utf8_all cs) ≡ x = cc in
      subst HasWord same tt
  word_of (solo c rest h) s x is = absurd (none-some x is)
  word_of (symbol cs rest run among no_dots) s x is = absurd (none-some x is)
  word_of (hole cs rest w ends small) s x is = absurd (none-some x is)
  word_of (more rest ends) s x is = absurd (none-some x is)

  words_of : {cs : Chars} {at : ℕ} {ts : List Spanned} → HasTokens fixed cs at ts → all_scalars cs ≡ true
      → (xs : List PlainLeaf) → map given ts ≡ map Some xs
      → AllByRecursion HasWord xs
  words_of (nothing at) s [] e = tt
  words_of (nothing at) s (x ∷ xs) e = let d : [] ≡ Some x ∷ map Some xs = e in absurd (cc)
  words_of (blank c cs at ts is_blank behind) s xs e = words_of behind (second_so (scalar c) (all_scalars cs) s) xs e
  words_of (next all at t ts begins behind) s [] e = let d : given t ∷ map given ts ≡ [] = e in absurd (cc)
  words_of (next all at t ts begins behind) s (x ∷ xs) e =
      let d : given t ∷ map given ts ≡ Some x ∷ map Some xs = e in
      let head : given t ≡ Some x = cc in
      let tail : map given ts ≡ map Some xs = cc in
      let scalars : all_scalars (begins.front ++ begins.rest) ≡ true = ap all_scalars (sym begins.whole) ∙ s in (
        word_of begins.token (front_scalars begins.front begins.rest scalars) x head,
        words_of behind (rest_scalars begins.front begins.rest scalars) xs tail,
      )

  -- the names that a text gives are words
  pub are_words : (args : List ℕ) (ts : List Spanned) (xs : List PlainLeaf) → IsUtf8 args
      → HasTokens fixed (chars args) 0 ts → map given ts ≡ map Some xs → AllByRecursion HasWord xs
  are_words args ts xs utf8 has e = words_of has (scalars-chars args utf8) xs e
