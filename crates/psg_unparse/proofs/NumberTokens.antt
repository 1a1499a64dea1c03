-- A number as it is written is one token of that value.
use Rattle.std.proofs.Common.{◌≡◌, ◌≢◌, ℕ, ◌<◌, ◌^◌, List, [], ◌∷◌, length, refl, sym, subst, arith, le-leb}
use Rattle.std.specs.Prelude.{decimal, nat_le}
use Rattle.std.specs.Str.Parse.{AllDigits}
use Rattle.std.proofs.lemmas.Bool.{and_from}
use Rattle.std.proofs.lemmas.Fmt.{decimal_is_IsNumeral_wide, IsAscii-decimal_wide}
use Rattle.std.proofs.lemmas.Str.{chars-IsAscii, IsUtf8-from_ascii}
use Rattle.std.proofs.lemmas.Str.Parse.{tells_digits}
use Rattle.psg_terms.specs.Names.{Name}
use Rattle.psg_lexis.specs.Classes.{is_digit, All, IsLongest}
use Rattle.psg_lexis.specs.Tokens.{value_of, IsToken, number as a_number}
use Rattle.psg_lexis.proofs.Decimals.{decimal-value}
use Rattle.psg_class.specs.Terminals.{numeral}
use Rattle.psg_unparse.proofs.Lexing.{IsTextOf}

-- digits by the test
digits_tested : (ds : List ℕ) → AllDigits 10 ds → All is_digit ds
digits_tested [] h = tt
digits_tested (c ∷ cs) h =
    let e = tells_digits.parts c cs h in
    (and_from (nat_le 48 c) (nat_le c 57) (le-leb 48 c e.0.0) (le-leb c 57 e.0.1), digits_tested cs e.1)

longest : (ds : List ℕ) → length ds ≢ 0 → All is_digit ds → IsLongest is_digit ds []
longest [] h a = absurd (h refl)
longest (c ∷ cs) h a = record { begins = a.0; all = a; ends = refl }

pub number_text : (known : List Name) (n : ℕ) → n < 2 ^ 128 → IsTextOf known (decimal n) (numeral n)
number_text known n h =
    let small : n < 10 ^ 64 = omega arith in
    let is = decimal_is_IsNumeral_wide n small in
    let ascii = IsAscii-decimal_wide n small in
    let value : value_of (decimal n) ≡ n = decimal-value n h in
    let run : IsLongest is_digit (decimal n) [] =
    longest (decimal n) (λ e. absurd (omega (arith, is.0.0, e))) (digits_tested (decimal n) is.0.1) in
    record {
      utf8 = IsUtf8-from_ascii (decimal n) ascii;
      alone = subst (λ cs. IsToken known cs [] (numeral n)) (sym (chars-IsAscii (decimal n) ascii))
          (subst (λ v. IsToken known (decimal n) [] (numeral v)) value
          (a_number (decimal n) [] run refl (omega (arith, h, value))));
    }
