-- The walk over the characters of a text by their bytes.
use Rattle.std.proofs.Common.{◌≡◌, ℕ, ◌+◌, ◌<◌, ◌≤◌, Bool, cond, List, [], ◌∷◌, ◌++◌, length, take, drop, get_or, refl}
use Rattle.std.proofs.Common.{sym, ap, ◌∙◌, arith, append_assoc, append-nil, encode_utf8_all}
use Rattle.std.specs.Prelude.{◌&&◌, IsUtf8, chars, encode_utf8, nat_le, nat_lt}
use Rattle.std.specs.Char.{len_utf8}
use Rattle.std.proofs.lemmas.List.{length-append, take_more, take-append-drop}
use Rattle.std.proofs.lemmas.Str.{encodes-append, encodes-chars, length-encode}
use Rattle.psg_modes.specs.Turning.{chars_between}

encoded-push : (cs : List ℕ) (c : ℕ) → length (encode_utf8_all (cs ++ c ∷ [])) ≡ length (encode_utf8_all cs) + len_utf8 c
encoded-push cs c =
    let one : length (encode_utf8_all (c ∷ [])) ≡ len_utf8 c = ap length (append-nil (encode_utf8 c)) ∙ length-encode c in
    ap length (encodes-append cs (c ∷ [])) ∙ length-append (encode_utf8_all cs) (encode_utf8_all (c ∷ []))
    ∙ ap (λ n. length (encode_utf8_all cs) + n) one

encoded-room : (cs : List ℕ) (n : ℕ) → length (encode_utf8_all (take n cs)) ≤ length (encode_utf8_all cs)
encoded-room cs n =
    let split : encode_utf8_all cs ≡ encode_utf8_all (take n cs) ++ encode_utf8_all (drop n cs) =
    ap encode_utf8_all (sym (take-append-drop n cs)) ∙ encodes-append (take n cs) (drop n cs) in
    let long : length (encode_utf8_all cs) ≡ length (encode_utf8_all (take n cs)) + length (encode_utf8_all (drop n cs)) =
    ap length split ∙ length-append (encode_utf8_all (take n cs)) (encode_utf8_all (drop n cs)) in
    omega (arith, long)

-- the next of the characters of a text is within it
pub encoded-within : (bytes cs : List ℕ) (c : ℕ) → IsUtf8 bytes → cs ≡ take (length cs) (chars bytes) → length cs < length (chars bytes)
    → c ≡ get_or (chars bytes) (length cs) c → length (encode_utf8_all cs) + len_utf8 c ≤ length bytes
encoded-within bytes cs c utf so_far below here =
    let more : take (length cs + 1) (chars bytes) ≡ take (length cs) (chars bytes) ++ get_or (chars bytes) (length cs) c ∷ [] =
    take_more (chars bytes) (length cs) c below in
    let same : take (length cs + 1) (chars bytes) ≡ cs ++ c ∷ [] =
    more ∙ ap (λ xs. xs ++ get_or (chars bytes) (length cs) c ∷ []) (sym so_far) ∙ ap (λ x. cs ++ x ∷ []) (sym here) in
    let room : length (encode_utf8_all (take (length cs + 1) (chars bytes))) ≤ length (encode_utf8_all (chars bytes)) =
    encoded-room (chars bytes) (length cs + 1) in
    let all : length (encode_utf8_all (chars bytes)) ≡ length bytes = ap length (encodes-chars bytes utf) in
    let now : length (encode_utf8_all (take (length cs + 1) (chars bytes))) ≡ length (encode_utf8_all cs) + len_utf8 c =
    ap (λ xs. length (encode_utf8_all xs)) same ∙ encoded-push cs c in
    omega (arith, room, all, now)

abbrev pub taken_at : ℕ → ℕ → ℕ → ℕ → List ℕ
taken_at from to byte c = cond (nat_le from byte && nat_lt byte to) (c ∷ []) []

between-push : (from to byte : ℕ) (cs : List ℕ) (c : ℕ)
    → chars_between from to byte (cs ++ c ∷ [])
    ≡ chars_between from to byte cs ++ taken_at from to (byte + length (encode_utf8_all cs)) c
between-push from to byte [] c =
    let e : byte ≡ byte + length (encode_utf8_all []) = (let f : byte ≡ byte + 0 = omega arith in f) in
    append-nil (taken_at from to byte c) ∙ ap (λ n. taken_at from to n c) e
between-push from to byte (x ∷ cs) c =
    let next : ℕ = byte + length (encode_utf8 x) in
    let e : next + length (encode_utf8_all cs) ≡ byte + length (encode_utf8_all (x ∷ cs)) =
    (let long : length (encode_utf8_all (x ∷ cs)) ≡ length (encode_utf8 x) + length (encode_utf8_all cs) =
    length-append (encode_utf8 x) (encode_utf8_all cs) in omega (arith, long)) in
    ap (λ r. taken_at from to byte x ++ r) (between-push from to next cs c)
    ∙ sym (append_assoc (taken_at from to byte x) (chars_between from to next cs)
    (taken_at from to (next + length (encode_utf8_all cs)) c))
    ∙ ap (λ n. (taken_at from to byte x ++ chars_between from to next cs) ++ taken_at from to n c) e

-- what the walk over a text has taken of these characters of it
pub record IsTaken (from to : ℕ) (cs : List ℕ) (all : List ℕ) (byte : ℕ) : Type 0 where
  pub items : all ≡ chars_between from to 0 cs
  pub place : byte ≡ length (encode_utf8_all cs)

pub IsTaken-init : (from to : ℕ) (all : List ℕ) → all ≡ [] → IsTaken from to [] all 0
IsTaken-init from to all none = record { items = none; place = refl }

pub IsTaken-step : (from to : ℕ) (cs all more : List ℕ) (byte next c : ℕ) (wanted : Bool) → IsTaken from to cs all byte
    → wanted ≡ (nat_le from byte && nat_lt byte to) → more ≡ all ++ cond wanted (c ∷ []) [] → next ≡ byte + len_utf8 c
    → IsTaken from to (cs ++ c ∷ []) more next
IsTaken-step from to cs all more byte next c wanted is test pushed now = record {
  items =
      pushed ∙ ap (λ w. all ++ cond w (c ∷ []) []) test ∙ ap (λ r. r ++ taken_at from to byte c) is.items
      ∙ ap (λ n. chars_between from to 0 cs ++ taken_at from to n c)
      (is.place ∙ (let f : length (encode_utf8_all cs) ≡ 0 + length (encode_utf8_all cs) = omega arith in f))
      ∙ sym (between-push from to 0 cs c);
  place = omega (arith, is.place, now, encoded-push cs c);
}
