-- Blanks at the ends of a text, digits, and the front of a text.
use Rattle.std.proofs.Common.{◌≡◌, ℕ, suc, ◌+◌, ◌-◌, ◌*◌, ◌<◌, ◌≤◌, Bool, true, false, cond, List, [], ◌∷◌, ◌++◌, length, take, drop, refl, sym, ap, ◌∙◌, arith, Option, Some, None, length-append, take_all}
use Rattle.std.specs.Prelude.{◌==◌, ◌&&◌, nat_lt, nat_le, option_and_then, slice_index, IfSome}
use Rattle.std.specs.List.{prefix_len, suffix_len}
use Rattle.std.proofs.lemmas.Bool.{and_parts, cond-false, false≢true, leb-true, ltb-true}
use Rattle.std.proofs.lemmas.Bool.Decides.{nat_tests}
use Rattle.std.proofs.lemmas.List.{reverse-append, take-append-le, drop_all}
use Rattle.psg_protocol.specs.Headers.{is_blank, number_after, number_of, with_digit, without_end_blanks, without_front_blanks, without_return}

-- ---- blanks at the front

pub front_blank : (text : List ℕ) (b : ℕ) (more : List ℕ) → text ≡ b ∷ more → is_blank b ≡ true
    → without_front_blanks text ≡ without_front_blanks more
front_blank text b more is blank =
    ap without_front_blanks is ∙ ap (λ t. drop (cond t (1 + prefix_len is_blank more) 0) (b ∷ more)) blank
    ∙ (let e : 1 + prefix_len is_blank more ≡ suc (prefix_len is_blank more) = omega arith in
    ap (λ n. drop n (b ∷ more)) e)

pub front_other : (text : List ℕ) (b : ℕ) (more : List ℕ) → text ≡ b ∷ more → is_blank b ≡ false → without_front_blanks text ≡ text
front_other text b more is other =
    ap without_front_blanks is ∙ ap (λ t. drop (cond t (1 + prefix_len is_blank more) 0) (b ∷ more)) other ∙ sym is

pub front_none : (text : List ℕ) → length text ≡ 0 → without_front_blanks text ≡ text
front_none [] none = refl
front_none (b ∷ more) none = absurd (omega (arith, none))

-- ---- blanks at the end

end_suffix : (b : ℕ) (front : List ℕ) → suffix_len is_blank (front ++ b ∷ []) ≡ cond (is_blank b) (1 + suffix_len is_blank front) 0
end_suffix b front = ap (prefix_len is_blank) (reverse-append front (b ∷ []))

end_length : (b : ℕ) (front : List ℕ) → length (front ++ b ∷ []) ≡ length front + 1
end_length b front = length-append front (b ∷ [])

pub end_blank : (text : List ℕ) (b : ℕ) (front : List ℕ) → text ≡ front ++ b ∷ [] → is_blank b ≡ true
    → without_end_blanks text ≡ without_end_blanks front
end_blank text b front is blank =
    let size : suffix_len is_blank (front ++ b ∷ []) ≡ 1 + suffix_len is_blank front =
    end_suffix b front ∙ ap (λ t. cond t (1 + suffix_len is_blank front) 0) blank in
    let long : length (front ++ b ∷ []) ≡ length front + 1 = end_length b front in
    let same : length (front ++ b ∷ []) - suffix_len is_blank (front ++ b ∷ []) ≡ length front - suffix_len is_blank front =
    omega (arith, size, long) in
    let few : length front - suffix_len is_blank front ≤ length front = omega arith in
    ap without_end_blanks is ∙ ap (λ n. take n (front ++ b ∷ [])) same
    ∙ take-append-le (length front - suffix_len is_blank front) front (b ∷ []) few

take_whole : (n : ℕ) (xs : List ℕ) → n ≡ length xs → take n xs ≡ xs
take_whole n xs all = ap (λ k. take k xs) all ∙ whole xs
  where
    whole : (xs : List ℕ) → take (length xs) xs ≡ xs
    whole [] = refl
    whole (x ∷ xs) = ap (λ ys. x ∷ ys) (whole xs)

pub end_other : (text : List ℕ) (b : ℕ) (front : List ℕ) → text ≡ front ++ b ∷ [] → is_blank b ≡ false → without_end_blanks text ≡ text
end_other text b front is other =
    let size : suffix_len is_blank (front ++ b ∷ []) ≡ 0 =
    end_suffix b front ∙ ap (λ t. cond t (1 + suffix_len is_blank front) 0) other in
    let same : length (front ++ b ∷ []) - suffix_len is_blank (front ++ b ∷ []) ≡ length (front ++ b ∷ []) = omega (arith, size) in
    ap without_end_blanks is ∙ take_whole _ (front ++ b ∷ []) same ∙ sym is

pub end_none : (text : List ℕ) → length text ≡ 0 → without_end_blanks text ≡ text
end_none [] none = refl
end_none (b ∷ more) none = absurd (omega (arith, none))

-- ---- a carriage return at the end

pub return_last : (line : List ℕ) (b : ℕ) (front : List ℕ) → line ≡ front ++ b ∷ [] → b ≡ 13 → without_return line ≡ front
return_last line b front is cr = ap without_return is ∙ at_end
  where
    last_is : (front : List ℕ) (b : ℕ) → slice_index (front ++ b ∷ []) (length front) ≡ b
    last_is [] b = refl
    last_is (x ∷ xs) b = last_is xs b

    front_is : (front : List ℕ) (b : ℕ) → take (length front) (front ++ b ∷ []) ≡ front
    front_is [] b = refl
    front_is (x ∷ xs) b = ap (λ ys. x ∷ ys) (front_is xs b)

    at_end : without_return (front ++ b ∷ []) ≡ front
    at_end =
        let long : length (front ++ b ∷ []) - 1 ≡ length front = omega (arith, end_length b front) in
        let found : slice_index (front ++ b ∷ []) (length (front ++ b ∷ []) - 1) ≡ 13 =
        ap (slice_index (front ++ b ∷ [])) long ∙ last_is front b ∙ cr in
        ap (λ c. cond (c == 13) (take (length (front ++ b ∷ []) - 1) (front ++ b ∷ [])) (front ++ b ∷ [])) found
        ∙ ap (λ n. take n (front ++ b ∷ [])) long ∙ front_is front b

pub return_other : (line : List ℕ) (b : ℕ) (front : List ℕ) → line ≡ front ++ b ∷ [] → (b == 13) ≡ false → without_return line ≡ line
return_other line b front is other = ap without_return is ∙ at_end ∙ sym is
  where
    last_is : (front : List ℕ) (b : ℕ) → slice_index (front ++ b ∷ []) (length front) ≡ b
    last_is [] b = refl
    last_is (x ∷ xs) b = last_is xs b

    at_end : without_return (front ++ b ∷ []) ≡ front ++ b ∷ []
    at_end =
        let long : length (front ++ b ∷ []) - 1 ≡ length front = omega (arith, end_length b front) in
        let found : (slice_index (front ++ b ∷ []) (length (front ++ b ∷ []) - 1) == 13) ≡ false =
        ap (λ c. c == 13) (ap (slice_index (front ++ b ∷ [])) long ∙ last_is front b) ∙ other in
        cond-false _ (take (length (front ++ b ∷ []) - 1) (front ++ b ∷ [])) (front ++ b ∷ []) found

pub return_none : (line : List ℕ) → length line ≡ 0 → without_return line ≡ line
return_none [] none = refl
return_none (b ∷ more) none = absurd (omega (arith, none))

-- ---- digits

pub digit_more : (n d m : ℕ) (digits : List ℕ) → with_digit n d ≡ Some m → number_after n (d ∷ digits) ≡ number_after m digits
digit_more n d m digits is = ap (λ o. option_and_then (λ k. number_after k digits) o) is

pub digit_none : (n d : ℕ) (digits : List ℕ) → with_digit n d ≡ None → number_after n (d ∷ digits) ≡ None
digit_none n d digits is = ap (λ o. option_and_then (λ k. number_after k digits) o) is

pub number_some : (digits : List ℕ) → (length digits == 0) ≡ false → number_of digits ≡ number_after 0 digits
number_some [] some = absurd (false≢true (sym some))
number_some (d ∷ digits) some = refl

pub number_none : (digits : List ℕ) → (length digits == 0) ≡ true → number_of digits ≡ None
number_none [] none = refl
number_none (d ∷ digits) none = absurd (let e : suc (length digits) ≡ 0 = grind (arith, nat_tests, none) in omega (arith, e))

-- ---- numbers of at most 15 digits

abbrev pub IsSmall : Option ℕ → Type 0
IsSmall found = IfSome found (λ n. n < 1_000_000_000_000_000)

small_by : (b : Bool) (o : Option ℕ) → (b ≡ true → IsSmall o) → IsSmall (cond b o None)
small_by true o small = small refl
small_by false o small = tt

digit_small : (n d : ℕ) → IsSmall (with_digit n d)
digit_small n d = small_by (nat_le 48 d && nat_le d 57 && nat_lt n 100_000_000_000_000) (Some (n * 10 + (d - 48)))
    (λ test. small n d (and_parts (nat_le 48 d && nat_le d 57) (nat_lt n 100_000_000_000_000) test))
  where
    small : (n d : ℕ) → ((nat_le 48 d && nat_le d 57) ≡ true) × (nat_lt n 100_000_000_000_000 ≡ true) → n * 10 + (d - 48) < 1_000_000_000_000_000
    small n d (digit, few) =
        let range : d ≤ 57 = leb-true d 57 (and_parts (nat_le 48 d) (nat_le d 57) digit).1 in
        let less : n < 100_000_000_000_000 = ltb-true n 100_000_000_000_000 few in
        omega (arith, range, less)

then_small : (o : Option ℕ) (f : ℕ → Option ℕ) → ((m : ℕ) → IsSmall (f m)) → IsSmall (option_and_then f o)
then_small None f small = tt
then_small (Some m) f small = small m

after_small : (n d : ℕ) (digits : List ℕ) → IsSmall (number_after n (d ∷ digits))
after_small n d [] = one (with_digit n d) (digit_small n d)
  where
    one : (o : Option ℕ) → IsSmall o → IsSmall (option_and_then (λ m. number_after m []) o)
    one None small = tt
    one (Some m) small = small
after_small n d (e ∷ digits) = then_small (with_digit n d) (λ m. number_after m (e ∷ digits)) (λ m. after_small m e digits)

pub number_small : (digits : List ℕ) → IsSmall (number_of digits)
number_small [] = tt
number_small (d ∷ digits) = after_small 0 d digits

-- ---- the front of a text

pub front_all : (n : ℕ) (xs : List ℕ) → length xs ≤ n → xs ≡ take n xs
front_all n xs few = sym (take_all n xs few)

pub drop_past : (n : ℕ) (xs : List ℕ) → length xs ≤ n → drop (length xs) xs ≡ drop n xs
drop_past n xs few = drop_all (length xs) xs (omega arith) ∙ sym (drop_all n xs few)
