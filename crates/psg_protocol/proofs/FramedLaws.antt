-- What is framed is read back, and so is each header that is written by its lines.
use Rattle.std.proofs.Common.{◌≡◌, ◌≢◌, ℕ, ◌+◌, ◌-◌, ◌*◌, ◌/◌, ◌%◌, ◌^◌, ◌<◌, ◌≤◌, Bool, true, false, List, [], ◌∷◌, ◌++◌, length, take, drop, refl, inr, sym, ap, subst, ◌∙◌, arith, Option, Some, None, append_assoc, append-nil, length-append}
use Rattle.std.specs.Prelude.{◌==◌, ◌&&◌, ◌||◌, ◌↔◌, codes, decimal, nat_le, nat_lt, option_and_then, slice_index}
use Rattle.std.specs.List.{AllByRecursion}
use Rattle.std.proofs.lemmas.Bool.{and_from, cond-true, eqb-false, or_from, or_parts}
use Rattle.std.proofs.lemmas.Bool.Decides.{nat_tests}
use Rattle.std.proofs.lemmas.Fmt.{decimal_by_steps, length-decimal-le}
use Rattle.psg_protocol.specs.declared.headers.Head.TheVariants as heads
use Rattle.psg_protocol.specs.Headers.{ended, head_of, is_blank, number_after, number_of, trimmed, with_digit, without_end_blanks}
use Rattle.psg_protocol.specs.HeaderLines.{HasLength, IsHeader, IsLine}
use Rattle.psg_protocol.specs.Frames.{Event, body, first_by, first_of_all, found, framed, Reads, Rest, at_first}
use Rattle.psg_protocol.proofs.CutLaws.{first_more, first_nil, found_size, reads_same}
use Rattle.psg_protocol.proofs.HeaderLaws.{PassNone, drop_front, last_index, length_said, lines_read, none_join}
use Rattle.psg_protocol.proofs.LineLaws.{whole_there}
use Rattle.psg_protocol.proofs.TextLaws.{end_other, front_blank, front_other}

-- ---- the digits of a number

-- a byte of digits is no line feed, no colon and no blank
record IsDigits (n : ℕ) (ds : List ℕ) : Type 0 where
  no_feed : PassNone (λ b. b == 10) ds
  first : ℕ
  others : List ℕ
  begins : ds ≡ first ∷ others
  first_other : is_blank first ≡ false
  last : ℕ
  front : List ℕ
  ends : ds ≡ front ++ last ∷ []
  last_other : is_blank last ≡ false
  last_return : last ≢ 13
  number : n < 1_000_000_000_000_000 → number_after 0 ds ≡ Some n

-- a digit is none of some other bytes
digit_not : (d b : ℕ) → d < 10 → b < 48 → ((48 + d) == b) ≡ false
digit_not d b small other = grind (arith, nat_tests, small, other)

digit_no_blank : (d : ℕ) → d < 10 → is_blank (48 + d) ≡ false
digit_no_blank d small =
    let a : ((48 + d) == 32) ≡ false = digit_not d 32 small (omega arith) in
    let b : ((48 + d) == 9) ≡ false = digit_not d 9 small (omega arith) in
    or_from ((48 + d) == 32) ((48 + d) == 9) a b

digit_with : (n d : ℕ) → d < 10 → n < 100_000_000_000_000 → with_digit n (48 + d) ≡ Some (n * 10 + d)
digit_with n d small few =
    let low : nat_le 48 (48 + d) ≡ true = grind (arith, nat_tests, small) in
    let high : nat_le (48 + d) 57 ≡ true = grind (arith, nat_tests, small) in
    let less : nat_lt n 100_000_000_000_000 ≡ true = grind (arith, nat_tests, few) in
    let all : (nat_le 48 (48 + d) && nat_le (48 + d) 57 && nat_lt n 100_000_000_000_000) ≡ true =
    and_from _ _ (and_from _ _ low high) less in
    cond-true _ (Some (n * 10 + (48 + d - 48))) None all ∙ ap Some (let e : n * 10 + (48 + d - 48) ≡ n * 10 + d = omega arith in e)

number_end : (n d : ℕ) (ds : List ℕ) → number_after n (ds ++ d ∷ []) ≡ option_and_then (λ m. with_digit m d) (number_after n ds)
number_end n d [] = one (with_digit n d)
  where
    one : (o : Option ℕ) → option_and_then (λ m. number_after m []) o ≡ o
    one None = refl
    one (Some m) = refl
number_end n d (e ∷ ds) = then_end (with_digit n e) (λ m. number_after m (ds ++ d ∷ [])) (λ m. number_after m ds) (λ m. number_end m d ds)
  where
    then_end : (o : Option ℕ) (f g : ℕ → Option ℕ) → ((m : ℕ) → f m ≡ option_and_then (λ k. with_digit k d) (g m))
        → option_and_then f o ≡ option_and_then (λ k. with_digit k d) (option_and_then g o)
    then_end None f g same = refl
    then_end (Some m) f g same = same m

digits_one : (n : ℕ) → n < 10 → IsDigits n ((48 + n) ∷ [])
digits_one n small = record {
  no_feed = (digit_not n 10 small (omega arith), tt);
  first = 48 + n;
  others = [];
  begins = refl;
  first_other = digit_no_blank n small;
  last = 48 + n;
  front = [];
  ends = refl;
  last_other = digit_no_blank n small;
  last_return = λ e. absurd (omega (arith, e));
  number = λ few. ap (option_and_then (λ m. number_after m [])) (digit_with 0 n small (omega arith)) ∙ ap Some (let e : 0 * 10 + n ≡ n = omega arith in e);
}

digits_more : (n : ℕ) (ds : List ℕ) → 10 ≤ n → IsDigits (n / 10) ds → IsDigits n (ds ++ ((48 + n % 10) ∷ []))
digits_more n ds more are =
    let small : n % 10 < 10 = omega arith in
    record {
      no_feed = none_join (λ b. b == 10) ds ((48 + n % 10) ∷ []) are.no_feed (digit_not (n % 10) 10 small (omega arith), tt);
      first = are.first;
      others = are.others ++ (48 + n % 10) ∷ [];
      begins = ap (λ xs. xs ++ (48 + n % 10) ∷ []) are.begins;
      first_other = are.first_other;
      last = 48 + n % 10;
      front = ds;
      ends = refl;
      last_other = digit_no_blank (n % 10) small;
      last_return = λ e. absurd (omega (arith, e));
      number = λ few.
          let less : n / 10 < 1_000_000_000_000_000 = omega (arith, few) in
          let fewer : n / 10 < 100_000_000_000_000 = omega (arith, few) in
          let sum : n / 10 * 10 + n % 10 ≡ n = omega arith in
          number_end 0 (48 + n % 10) ds ∙ ap (option_and_then (λ m. with_digit m (48 + n % 10))) (are.number less)
          ∙ digit_with (n / 10) (n % 10) small fewer ∙ ap Some sum;
    }

digits_are : (n : ℕ) → n < 2 ^ 64 → IsDigits n (decimal n)
digits_are n small = decimal_by_steps IsDigits digits_one digits_more n small

-- ---- the line of the length

trimmed_one : (ds : List ℕ) (n : ℕ) → IsDigits n ds → trimmed (32 ∷ ds) ≡ ds
trimmed_one ds n are =
    ap without_end_blanks (front_blank (32 ∷ ds) 32 ds refl refl ∙ front_other ds are.first are.others are.begins are.first_other)
    ∙ end_other ds are.last are.front are.ends are.last_other

number_one : (ds : List ℕ) (n : ℕ) → IsDigits n ds → n < 1_000_000_000_000_000 → number_of ds ≡ Some n
number_one ds n are few = ap number_of are.begins ∙ ap (number_after 0) (sym are.begins) ∙ are.number few

abbrev some_pass : (ℕ → Bool) → List ℕ → Bool
some_pass p [] = false
some_pass p (x ∷ xs) = p x || some_pass p xs

none_by : (p : ℕ → Bool) (xs : List ℕ) → some_pass p xs ≡ false → PassNone p xs
none_by p [] h = tt
none_by p (x ∷ xs) h = let parts = or_parts (p x) (some_pass p xs) h in (parts.0, none_by p xs parts.1)

all_of : (b : ℕ) (xs : List ℕ) → PassNone (λ x. x == b) xs → AllByRecursion (λ x. x ≢ b) xs
all_of b [] none = tt
all_of b (x ∷ xs) none = (λ e. eqb-false x b none.0 e, all_of b xs none.1)

line_is : (ds : List ℕ) (n : ℕ) → IsDigits n ds → length ds < 100 → IsLine (codes "Content-Length: " ++ ds) (13 ∷ 10 ∷ [])
line_is ds n are short =
    let long : length (codes "Content-Length: " ++ ds) ≡ 16 + length ds = length-append (codes "Content-Length: ") ds in
    let whole : codes "Content-Length: " ++ ds ≡ (codes "Content-Length: " ++ are.front) ++ are.last ∷ [] =
    ap (λ xs. codes "Content-Length: " ++ xs) are.ends ∙ sym (append_assoc (codes "Content-Length: ") are.front (are.last ∷ [])) in
    record {
      some = omega (arith, long);
      no_feed = all_of 10 (codes "Content-Length: " ++ ds)
          (none_join (λ b. b == 10) (codes "Content-Length: ") ds (none_by (λ b. b == 10) (codes "Content-Length: ") refl) are.no_feed);
      no_return = no_return_at (codes "Content-Length: " ++ ds) (codes "Content-Length: " ++ are.front) are.last whole are.last_return;
      ends = inr refl;
      short = omega (arith, long, short);
    }
  where
    no_return_at : (text front : List ℕ) (b : ℕ) → text ≡ front ++ b ∷ [] → b ≢ 13 → slice_index text (length text - 1) ≢ 13
    no_return_at text front b is other e =
        let size : length text - 1 ≡ length front =
        (let n : length text ≡ length front + 1 = ap length is ∙ length-append front (b ∷ []) in omega (arith, n)) in
        other (sym (last_index front b) ∙ ap (λ t. slice_index t (length front)) (sym is) ∙ ap (slice_index text) (sym size) ∙ e)

length_is : (ds : List ℕ) → HasLength ((codes "Content-Length: " ++ ds) ∷ []) (32 ∷ ds)
length_is ds = record {
  before = [];
  text = codes "Content-Length: " ++ ds;
  after = [];
  whole = refl;
  field = record {
    given = codes "Content-Length";
    no_colon = all_of 58 (codes "Content-Length") (none_by (λ b. b == 58) (codes "Content-Length") refl);
    same = refl;
    whole = refl;
  };
  last = tt;
}

-- ---- the frame

pub record IsFramed (text message : List ℕ) : Type 0 where
  pub size : ℕ
  pub first : first_of_all text ≡ found (body message) size
  pub whole : size ≡ length text

take_whole : (xs : List ℕ) → take (length xs) xs ≡ xs
take_whole [] = refl
take_whole (x ∷ xs) = ap (λ ys. x ∷ ys) (take_whole xs)

pub header_is : (texts : List (List ℕ)) (bytes message value : List ℕ) → IsHeader texts bytes → length texts < 64 → HasLength texts value
    → number_of (trimmed value) ≡ Some (length message) → length message ≤ 16_777_216 → IsFramed (bytes ++ message) message
header_is texts bytes message value header lines has number few =
    let head : head_of (bytes ++ message) ≡ heads.Whole (0 + length bytes) (length message) =
    lines_read 64 None 0 texts bytes message header lines
    ∙ ap (λ f. ended f (0 + length bytes)) (length_said texts value has ∙ number) in
    let long : length (bytes ++ message) ≡ length bytes + length message = length-append bytes message in
    let there : 0 + length bytes + length message ≤ length (bytes ++ message) = omega (arith, long) in
    let start : 0 + length bytes ≡ length bytes = omega arith in
    let rest : drop (0 + length bytes) (bytes ++ message) ≡ message =
    ap (λ k. drop k (bytes ++ message)) start ∙ drop_front bytes message in
    record {
      size = 0 + length bytes + length message;
      first = ap (first_by (bytes ++ message)) head
          ∙ whole_there (bytes ++ message) (0 + length bytes) (length message) few there
          ∙ ap (λ t. found (body t) (0 + length bytes + length message)) (ap (take (length message)) rest ∙ take_whole message);
      whole = omega (arith, long);
    }

framed_by : (ds message : List ℕ) → IsDigits (length message) ds → length message ≤ 16_777_216 → length ds < 100
    → IsFramed (((codes "Content-Length: " ++ ds) ++ codes "\r\n\r\n") ++ message) message
framed_by ds message are few short =
    header_is ((codes "Content-Length: " ++ ds) ∷ []) ((codes "Content-Length: " ++ ds) ++ codes "\r\n\r\n") message (32 ∷ ds)
    (13 ∷ 10 ∷ [], 13 ∷ 10 ∷ [], line_is ds (length message) are short, refl, inr refl) (omega arith) (length_is ds)
    (ap number_of (trimmed_one ds (length message) are) ∙ number_one ds (length message) are (omega (arith, few))) few

framed_is : (message : List ℕ) → length message ≤ 16_777_216 → IsFramed (framed message) message
framed_is message few =
    let small : length message < 2 ^ 64 = omega (arith, few) in
    let short : length (decimal (length message)) ≤ 8 = length-decimal-le 8 (length message) (omega arith) (omega (arith, few)) small in
    framed_by (decimal (length message)) message (digits_are (length message) small) few (omega (arith, short))

-- what comes after a text that is one frame
after_frame : (text message more : List ℕ) (events : List Event) (rest : Rest) → IsFramed text message
    → Reads 0 (text ++ more) (body message ∷ events) rest ↔ Reads 0 more events rest
after_frame text message more events rest is =
    let first : first_of_all (text ++ more) ≡ found (body message) is.size = first_more text more (body message) is.size is.first in
    let long : length (text ++ more) ≡ length text + length more = length-append text more in
    let back : drop is.size (text ++ more) ≡ more = ap (λ n. drop n (text ++ more)) is.whole ∙ drop_front text more in
    let whole : is.size ≡ length text = is.whole in
    let none : is.size - length (text ++ more) ≡ 0 - length more = omega (arith, long, whole) in (
      λ reads. let size : reads.0 ≡ is.size = found_size (body message) (body message) reads.0 is.size (sym reads.1 ∙ first) in
          let P : ℕ → Type 0 = λ n. Reads n (text ++ more) events rest in
          reads_same is.size 0 (text ++ more) more events rest back none (subst P size reads.2),
      λ reads. (is.size, first, reads_same 0 is.size more (text ++ more) events rest (sym back) (sym none) reads),
    )

-- what comes after a header and its message
pub header_first : (texts : List (List ℕ)) (bytes message more value : List ℕ) (events : List Event) (rest : Rest) → IsHeader texts bytes
    → length texts < 64 → HasLength texts value → number_of (trimmed value) ≡ Some (length message) → length message ≤ 16_777_216
    → Reads 0 (bytes ++ message ++ more) (body message ∷ events) rest ↔ Reads 0 more events rest
header_first texts bytes message more value events rest header lines has number few =
    after_frame (bytes ++ message) message more events rest (header_is texts bytes message value header lines has number few)

pub framed_first : (message more : List ℕ) (events : List Event) (rest : Rest) → length message ≤ 16_777_216
    → Reads 0 (framed message ++ more) (body message ∷ events) rest ↔ Reads 0 more events rest
framed_first message more events rest few = after_frame (framed message) message more events rest (framed_is message few)

framed_one : (message : List ℕ) → length message ≤ 16_777_216 → Reads 0 (framed message) (body message ∷ []) at_first
framed_one message few =
    let P : List ℕ → Type 0 = λ t. Reads 0 t (body message ∷ []) at_first in
    subst P (append-nil (framed message)) ((framed_first message [] [] at_first few).1 (first_nil, refl))

pub framed_at : (all message : List ℕ) → all ≡ framed message → length message ≤ 16_777_216 → Reads 0 all (body message ∷ []) at_first
framed_at all message is few =
    let P : List ℕ → Type 0 = λ t. Reads 0 t (body message ∷ []) at_first in subst P (sym is) (framed_one message few)
