-- The tokens of a UTF-8 text have values that a program's tokens have.
use Rattle.std.proofs.Common.{◌≡◌, inl, inr, ℕ, ◌+◌, true, false, cond, ◌==◌, List, [], ◌∷◌, ◌++◌, chars, refl, sym, subst}
use Rattle.std.specs.Prelude.{IsUtf8}
use Rattle.std.specs.List.{AllByRecursion}
use Rattle.std.proofs.Math.Utf8.{scalars, scalar}
use Rattle.std.proofs.lemmas.Bool.{and_from, and_parts}
use Rattle.std.proofs.lemmas.Bool.Decides.{eqb_tells}
use Rattle.std.proofs.lemmas.Str.{scalars-chars}
use Rattle.psg_terms.specs.Names.{Name}
use Rattle.psg_class.specs.Only.{IsValue}
use Rattle.psg_class.specs.Texts.{tokens_of}
use Rattle.psg_lexis.specs.Classes.{Chars}
use Rattle.psg_lexis.specs.declared.token.Spanned.{Spanned}
use Rattle.psg_lexis.specs.declared.token.Token.{Token}
use Rattle.psg_lexis.specs.Tokens.{escaped, quoted, HasTokens, nothing, blank, next, IsToken, word, number, text, solo, symbol, hole, more}

parts_of : (xs ys : List ℕ) → scalars (xs ++ ys) ≡ true → (scalars xs ≡ true) × (scalars ys ≡ true)
parts_of [] ys e = (refl, e)
parts_of (x ∷ xs) ys e =
    let both = and_parts (scalar x) (scalars (xs ++ ys)) e in
    let rest = parts_of xs ys both.1 in
    (and_from (scalar x) (scalars xs) both.0 rest.0, rest.1)

-- a character is one of those that are written for it, or an ASCII one
meant : (c : ℕ) → scalars (escaped c) ≡ true → scalar c ≡ true
meant c e = elim (eqb_tells c 34) [
  | inl q ↦ subst (λ x. scalar x ≡ true) (sym q.1) refl
  | inr q ↦ elim (eqb_tells c 92) [
    | inl b ↦ subst (λ x. scalar x ≡ true) (sym b.1) refl
    | inr b ↦ elim (eqb_tells c 10) [
      | inl n ↦ subst (λ x. scalar x ≡ true) (sym n.1) refl
      | inr n ↦
          let two : scalars (cond false (92 ∷ 34 ∷ []) (cond (c == 92) (92 ∷ 92 ∷ []) (cond (c == 10) (92 ∷ 110 ∷ [])
          (c ∷ [])))) ≡ true = subst (λ x. scalars (cond x (92 ∷ 34 ∷ []) (cond (c == 92) (92 ∷ 92 ∷ [])
          (cond (c == 10) (92 ∷ 110 ∷ []) (c ∷ [])))) ≡ true) q.0 e in
          let three : scalars (cond false (92 ∷ 92 ∷ []) (cond (c == 10) (92 ∷ 110 ∷ []) (c ∷ []))) ≡ true =
          subst (λ x. scalars (cond x (92 ∷ 92 ∷ []) (cond (c == 10) (92 ∷ 110 ∷ []) (c ∷ []))) ≡ true) b.0 two in
          let four : scalars (c ∷ []) ≡ true =
          subst (λ x. scalars (cond x (92 ∷ 110 ∷ []) (c ∷ [])) ≡ true) n.0 three in
          (and_parts (scalar c) true four).0
    ]
  ]
]

all_meant : (cs : Chars) → scalars (quoted cs) ≡ true → scalars cs ≡ true
all_meant [] e = refl
all_meant (c ∷ cs) e =
    let both = parts_of (escaped c) (quoted cs) e in
    and_from (scalar c) (scalars cs) (meant c both.0) (all_meant cs both.1)

value_is : (fixed : List Name) (cs rest : Chars) (t : Token) → IsToken fixed cs rest t → scalars cs ≡ true → IsValue t
value_is fixed cs rest t (word ds after is ends short) e = tt
value_is fixed cs rest t (number ds after is ends small) e = small
value_is fixed cs rest t (text ds written after is contents short) e =
    let both = and_parts (scalar 34) (scalars written) e in
    let front = parts_of (quoted ds) (34 ∷ []) (subst (λ w. scalars w ≡ true) is both.1) in
    (ds, (all_meant ds front.0, refl))
value_is fixed cs rest t (solo c after is) e = tt
value_is fixed cs rest t (symbol ds after is among not_dots) e = tt
value_is fixed cs rest t (hole ds after is ends short) e = tt
value_is fixed cs rest t (more after ends) e = tt

values_are : (fixed : List Name) (cs : Chars) (at : ℕ) (ts : List Spanned) → HasTokens fixed cs at ts
    → scalars cs ≡ true → AllByRecursion IsValue (tokens_of ts)
values_are fixed cs at ts (nothing from) e = tt
values_are fixed cs at ts (blank c ds from us is more_are) e =
    values_are fixed ds (from + 1) us more_are (and_parts (scalar c) (scalars ds) e).1
values_are fixed cs at ts (next all from s us begins more_are) e =
    let both = parts_of begins.front begins.rest (subst (λ x. scalars x ≡ true) begins.whole e) in (
      value_is fixed begins.front begins.rest s.token begins.token both.0,
      values_are fixed begins.rest s.end us more_are both.1,
    )

pub text_values : (fixed : List Name) (t : List ℕ) (at : ℕ) (ts : List Spanned) → IsUtf8 t
    → HasTokens fixed (chars t) at ts → AllByRecursion IsValue (tokens_of ts)
text_values fixed t at ts utf8 are = values_are fixed (chars t) at ts are (scalars-chars t utf8)
