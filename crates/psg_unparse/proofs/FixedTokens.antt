-- Each word of an operator and each separator of a list has its token.
use Rattle.std.proofs.Common.{◌≡◌, ℕ, zero, suc, true, List, [], ◌∷◌, ◌++◌, Some, slice_get, subst}
use Rattle.std.specs.Prelude.{bytes_eq}
use Rattle.std.specs.List.{AllByRecursion}
use Rattle.std.proofs.lemmas.Bool.{or_left, or_right}
use Rattle.std.proofs.lemmas.Option.{none-some}
use Rattle.psg_terms.specs.Names.{Name, is_among}
use Rattle.psg_terms.proofs.DeclareLaws.{bytes_eq-refl}
use Rattle.psg_lexis.specs.Tokens.{IsFixedWord}
use Rattle.psg_grammar.specs.declared.types.Item.{Item}
use Rattle.psg_grammar.specs.declared.types.Item.TheVariants as items
use Rattle.psg_grammar.specs.declared.types.Operator.{Operator}
use Rattle.psg_grammar.specs.declared.types.ListKind.{ListKind}
use Rattle.psg_grammar.specs.declared.types.Definition.{Definition}
use Rattle.psg_grammar.specs.WellFormed.{words_in, operator_words, separators, fixed_words}
use Rattle.psg_unparse.proofs.WordTokens.{FixedToken, fixed_token}

module _ (P : Name → Type 0) where
  all_in_front : (xs ys : List Name) → AllByRecursion P (xs ++ ys) → AllByRecursion P xs
  all_in_front [] ys h = tt
  all_in_front (x ∷ xs) ys h = (h.0, all_in_front xs ys h.1)

  all_behind : (xs ys : List Name) → AllByRecursion P (xs ++ ys) → AllByRecursion P ys
  all_behind [] ys h = h
  all_behind (x ∷ xs) ys h = all_behind xs ys h.1

  all_of_operator : (ops : List Operator) → AllByRecursion P (operator_words ops) → (n : ℕ) (o : Operator)
      → slice_get ops n ≡ Some o → AllByRecursion P (words_in o.items)
  all_of_operator [] h n o e = absurd (none-some o e)
  all_of_operator (x ∷ ops) h zero o e =
      let same : x ≡ o = (let f : Some x ≡ Some o = e in cc) in
      subst (λ (y : Operator). AllByRecursion P (words_in y.items)) same
      (all_in_front (words_in x.items) (operator_words ops) h)
  all_of_operator (x ∷ ops) h (suc n) o e =
      all_of_operator ops (all_behind (words_in x.items) (operator_words ops) h) n o e

  of_separator : (ls : List ListKind) → AllByRecursion P (separators ls) → (l : ℕ) (k : ListKind)
      → slice_get ls l ≡ Some k → P k.separator
  of_separator [] h l k e = absurd (none-some k e)
  of_separator (x ∷ ls) h zero k e =
      let same : x ≡ k = (let f : Some x ≡ Some k = e in cc) in
      subst (λ (y : ListKind). P y.separator) same h.0
  of_separator (x ∷ ls) h (suc l) k e = of_separator ls h.1 l k e

  -- the words of the last items
  pub all_in_rest : (front rest : List Item) → AllByRecursion P (words_in (front ++ rest))
      → AllByRecursion P (words_in rest)
  all_in_rest [] rest h = h
  all_in_rest (items.Word w ∷ front) rest h = all_in_rest front rest h.1
  all_in_rest (items.Slot k ∷ front) rest h = all_in_rest front rest h
  all_in_rest (items.Refers s ∷ front) rest h = all_in_rest front rest h
  all_in_rest (items.Declares s ∷ front) rest h = all_in_rest front rest h
  all_in_rest (items.Number ∷ front) rest h = all_in_rest front rest h
  all_in_rest (items.Text ∷ front) rest h = all_in_rest front rest h
  all_in_rest (items.Space ∷ front) rest h = all_in_rest front rest h
  all_in_rest (items.Tight ∷ front) rest h = all_in_rest front rest h
  all_in_rest (items.Line ∷ front) rest h = all_in_rest front rest h
  all_in_rest (items.In ∷ front) rest h = all_in_rest front rest h
  all_in_rest (items.Out ∷ front) rest h = all_in_rest front rest h

module _ (def : Definition) where
  each_token : (ws : List Name) → ((w : Name) → is_among ws w ≡ true → is_among (fixed_words def) w ≡ true)
      → AllByRecursion IsFixedWord ws → AllByRecursion (FixedToken def) ws
  each_token [] among is = tt
  each_token (w ∷ ws) among is = (
    fixed_token def w (among w (or_left (bytes_eq w w) (is_among ws w) (bytes_eq-refl w))) is.0,
    each_token ws (λ v h. among v (or_right (bytes_eq w v) (is_among ws v) h)) is.1,
  )

-- what is known of the definition's words
pub record HasTokens (def : Definition) : Type 0 where
  pub operators : (n : ℕ) (o : Operator) → slice_get def.operators n ≡ Some o
      → AllByRecursion (FixedToken def) (words_in o.items)
  pub lists : (l : ℕ) (k : ListKind) → slice_get def.lists l ≡ Some k → FixedToken def k.separator

pub has_tokens : (def : Definition) → AllByRecursion IsFixedWord (fixed_words def) → HasTokens def
has_tokens def is =
    let all : AllByRecursion (FixedToken def) (fixed_words def) = each_token def (fixed_words def) (λ w h. h) is in
    record {
      operators = all_of_operator (FixedToken def) def.operators
          (all_in_front (FixedToken def) (operator_words def.operators) (separators def.lists) all);
      lists = of_separator (FixedToken def) def.lists
          (all_behind (FixedToken def) (operator_words def.operators) (separators def.lists) all);
    }
