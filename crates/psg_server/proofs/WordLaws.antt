-- How many bytes of a word are at the beginning of a text.
use Rattle.std.proofs.Common.{◌≡◌, ◌<◌, ◌≤◌, ℕ, List, length, Option, Some, None, ap, arith}
use Rattle.std.specs.Prelude.{not, position, unwrap_or}
use Rattle.psg_server.specs.Diagnostics.{is_word, word_length}
use Rattle.psg_server.proofs.DocumentLaws.{within_is}

pub word_some : (bytes : List ℕ) (count : ℕ) → Some count ≡ position (λ b. not (is_word b)) bytes
    → count ≡ word_length bytes
word_some bytes count e = ap (λ (o : Option ℕ). unwrap_or o (length bytes)) e

pub word_none : (bytes : List ℕ) → None ≡ position (λ b. not (is_word b)) bytes → length bytes ≡ word_length bytes
word_none bytes e = ap (λ (o : Option ℕ). unwrap_or o (length bytes)) e

pub word_within : (bytes : List ℕ) (count : ℕ) → Some count ≡ position (λ b. not (is_word b)) bytes
    → count ≤ length bytes
word_within bytes count e =
    let inside : count < length bytes = within_is (λ b. not (is_word b)) bytes (Some count) e in
    omega (arith, inside)
