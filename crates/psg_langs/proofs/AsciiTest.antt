-- ASCII by a test of each byte.
use Rattle.std.proofs.Common.{◌≡◌, ℕ, zero, suc, nat_lt, true, List, [], ◌∷◌, ltb→lt, subst, sym}
use lib.Dec.{T}
use Rattle.std.specs.List.{list_all}
use Rattle.std.specs.Str.{IsAscii}
use Rattle.std.proofs.lemmas.Bool.{and_parts}
use Rattle.std.proofs.lemmas.Str.Ascii.{IsAscii-nil}

pub ascii_by_test : (bs : List ℕ) → list_all (λ b. nat_lt b 128) bs ≡ true → IsAscii bs
ascii_by_test [] h i = IsAscii-nil i
ascii_by_test (b ∷ bs) h zero = let passes : nat_lt b 128 ≡ true = (and_parts (nat_lt b 128) (list_all (λ c. nat_lt c 128) bs) h).0 in ltb→lt b 128 (subst T (sym passes) tt)
ascii_by_test (b ∷ bs) h (suc i) = ascii_by_test bs (and_parts (nat_lt b 128) (list_all (λ c. nat_lt c 128) bs) h).1 i
