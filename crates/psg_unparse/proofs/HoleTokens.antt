-- A question mark with the name of a phylum is one token.
use Rattle.std.proofs.Common.{◌≡◌, ℕ, ◌<◌, ◌≤◌, true, false, ◌&&◌, ◌||◌, ◌==◌, List, [], ◌∷◌, ◌++◌, length, inl, inr, refl, ap, ap₂, sym, ◌∙◌, arith, leb-true, eqb-true}
use Rattle.std.specs.Prelude.{encode_utf8_all, nat_le, IsTrue}
use Rattle.std.specs.Char.{is_ascii_alphanumeric}
use Rattle.std.specs.Int.{is_in_range}
use Rattle.std.specs.List.{AllByRecursion, list_all}
use Rattle.std.proofs.lemmas.Bool.{or_cases, or_left, or_right, and_parts}
use Rattle.std.proofs.lemmas.Str.{encode_ascii}
use Rattle.unicode_ident.specs.Ident.{is_xid_start, is_xid_continue}
use Rattle.unicode_ident.proofs.IdentLemmas.{is_xid_start-ascii, is_xid_continue-ascii}
use Rattle.psg_terms.specs.Names.{Name}
use Rattle.psg_terms.specs.Words.{starts_word, goes_on_word}
use Rattle.psg_grammar.specs.Sound.{is_upper, is_lower, is_digit, goes_on_name, IsKindName}
use Rattle.psg_class.specs.Terminals.{placeholder}
use Rattle.psg_unparse.proofs.Lexing.{IsTextOf}
use Rattle.psg_unparse.proofs.WordTokens.{hole_text}

within : (low high c : ℕ) → (nat_le low c && nat_le c high) ≡ true → c ≤ high
within low high c h = leb-true c high (and_parts (nat_le low c) (nat_le c high) h).1

upper_small : (c : ℕ) → is_upper c ≡ true → c < 128
upper_small c h = let e : c ≤ 90 = within 65 90 c h in omega (arith, e)

upper_starts : (c : ℕ) → is_upper c ≡ true → starts_word c ≡ true
upper_starts c h = or_left (is_xid_start c) (c == 95)
    (is_xid_start-ascii c (upper_small c h) ∙ or_left (is_upper c) (is_in_range 97 122 c) h)

-- an upper-case letter, a lower-case one, a digit, or `_`
pub data NameChar (c : ℕ) : Type 0 where
  upper : is_upper c ≡ true → NameChar c
  lower : is_lower c ≡ true → NameChar c
  digit : is_digit c ≡ true → NameChar c
  line : c ≡ 95 → NameChar c

name_char : (c : ℕ) → goes_on_name c ≡ true → NameChar c
name_char c h = elim (or_cases ((is_upper c || is_lower c) || is_digit c) (c == 95) h) [
  | inl a ↦ elim (or_cases (is_upper c || is_lower c) (is_digit c) a) [
    | inl b ↦ elim (or_cases (is_upper c) (is_lower c) b) [ inl d ↦ upper d | inr d ↦ lower d ]
    | inr b ↦ digit b
  ]
  | inr a ↦ line (eqb-true c 95 a)
]

small : (c : ℕ) → NameChar c → c < 128
small c (upper h) = upper_small c h
small c (lower h) = let e : c ≤ 122 = within 97 122 c h in omega (arith, e)
small c (digit h) = let e : c ≤ 57 = within 48 57 c h in omega (arith, e)
small c (line e) = omega (arith, e)

continues : (c : ℕ) → NameChar c → is_xid_continue c ≡ true
continues c (upper h) =
    is_xid_continue-ascii c (small c (upper h))
    ∙ or_left (is_ascii_alphanumeric c) (c == 95)
    (or_left (is_digit c || is_upper c) (is_lower c) (or_right (is_digit c) (is_upper c) h))
continues c (lower h) =
    is_xid_continue-ascii c (small c (lower h))
    ∙ or_left (is_ascii_alphanumeric c) (c == 95) (or_right (is_digit c || is_upper c) (is_lower c) h)
continues c (digit h) =
    is_xid_continue-ascii c (small c (digit h))
    ∙ or_left (is_ascii_alphanumeric c) (c == 95)
    (or_left (is_digit c || is_upper c) (is_lower c) (or_left (is_digit c) (is_upper c) h))
continues c (line e) = is_xid_continue-ascii c (small c (line e))
    ∙ or_right (is_ascii_alphanumeric c) (c == 95) (ap (λ x. x == 95) e)

all_go_on : (cs : List ℕ) → list_all goes_on_name cs ≡ true → AllByRecursion (λ d. IsTrue (goes_on_word d)) cs
all_go_on [] h = tt
all_go_on (c ∷ cs) h =
    let both = and_parts (goes_on_name c) (list_all goes_on_name cs) h in
    (or_left (is_xid_continue c) (c == 95) (continues c (name_char c both.0)), all_go_on cs both.1)

all_encoded : (cs : List ℕ) → list_all goes_on_name cs ≡ true → encode_utf8_all cs ≡ cs
all_encoded [] h = refl
all_encoded (c ∷ cs) h =
    let both = and_parts (goes_on_name c) (list_all goes_on_name cs) h in
    ap₂ (λ x y. x ++ y) (encode_ascii c (small c (name_char c both.0))) (all_encoded cs both.1)

pub kind_hole : (known : List Name) (n : Name) → IsKindName n → IsTextOf known (63 ∷ n) (placeholder n)
kind_hole known [] h = absurd (let e : false ≡ true = h in cc)
kind_hole known (c ∷ cs) h =
    let front = and_parts (is_upper c && list_all goes_on_name cs) (nat_le (length cs) 63) h in
    let both = and_parts (is_upper c) (list_all goes_on_name cs) front.0 in
    let short : length cs ≤ 63 = leb-true (length cs) 63 front.1 in
    hole_text known (c ∷ cs) (c ∷ cs)
    (sym (ap₂ (λ x y. x ++ y) (encode_ascii c (upper_small c both.0)) (all_encoded cs both.1)))
    (upper_starts c both.0, all_go_on cs both.1) (omega (arith, short))
