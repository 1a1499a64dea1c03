-- A file of version 3 line by line.
use Rattle.std.proofs.Common.{◌≡◌, ℕ, ◌+◌, ◌<◌, Bool, true, false, List, [], ◌∷◌, ◌++◌, length, take, map, get_or, Result, Ok, Err, IfOk, codes, append_assoc, append-nil, sym, ap, ◌∙◌, subst, refl, arith}
use Rattle.std.specs.Prelude.{◌&&◌, cond, Option, Some, None, IsUtf8}
use Rattle.std.specs.Str.{is_utf8}
use Rattle.std.specs.Str.Lines.{lines}
use Rattle.std.specs.Borrow.{Bor}
use Rattle.std.proofs.lemmas.List.{take_more, map-append, length-map, length-take-le}
use Rattle.std.proofs.lemmas.Str.{IsUtf8-from_is_utf8, is_utf8-from_IsUtf8}
use Rattle.psg_terms.specs.Names.{Name}
use Rattle.psg_deflines.specs.Entries.{behind_head}
use Rattle.psg_defcomment.specs.Naming.{token_of}
use Rattle.psg_defcomment.specs.Plain.{has_head, is_head, is_third, joined, named_from, named_in, plain_line, plain_of, unless_named, with_named}
use Rattle.psg_defcomment.specs.Writing.{AddsLine, ArePlain}
use Rattle.psg_defcomment.specs.declared.lines.Named.{Named}

-- ---- one line

pub adds_named : (line : List ℕ) (number : ℕ) (bytes bytes' : List ℕ) (named named' : List Named) (token : Name)
    → token_of line ≡ Some token → bytes' ≡ bytes ++ ([] ++ (13 ∷ 10 ∷ []))
    → named' ≡ named ++ record { line = number; token = token } ∷ [] → AddsLine line number bytes named bytes' named'
adds_named line number bytes bytes' named named' token e b n = record {
  written = b ∙ ap (λ o. bytes ++ (unless_named o line ++ (13 ∷ 10 ∷ []))) (sym e);
  kept = n ∙ ap (λ o. named ++ with_named number o []) (sym e);
}

pub adds_plain : (line : List ℕ) (number : ℕ) (bytes bytes' : List ℕ) (named named' : List Named)
    → token_of line ≡ None → bytes' ≡ bytes ++ (line ++ (13 ∷ 10 ∷ [])) → named' ≡ named
    → AddsLine line number bytes named bytes' named'
adds_plain line number bytes bytes' named named' e b n = record {
  written = b ∙ ap (λ o. bytes ++ (unless_named o line ++ (13 ∷ 10 ∷ []))) (sym e);
  kept = n ∙ sym (append-nil named) ∙ ap (λ o. named ++ with_named number o []) (sym e);
}

-- ---- all lines

joined-push : (xs : List (List ℕ)) (l : List ℕ) → joined (xs ++ l ∷ []) ≡ joined xs ++ (l ++ (13 ∷ 10 ∷ []))
joined-push [] l = refl
joined-push (x ∷ xs) l =
    ap (λ b. x ++ (13 ∷ 10 ∷ b)) (joined-push xs l)
    ∙ sym (append_assoc x (13 ∷ 10 ∷ joined xs) (l ++ (13 ∷ 10 ∷ [])))

with_named-more : (n : ℕ) (o : Option Name) (xs ys : List Named) → with_named n o (xs ++ ys) ≡ with_named n o xs ++ ys
with_named-more n None xs ys = refl
with_named-more n (Some t) xs ys = refl

named-push : (n : ℕ) (xs : List (List ℕ)) (l : List ℕ)
    → named_from n (xs ++ l ∷ []) ≡ named_from n xs ++ named_from (n + length xs) (l ∷ [])
named-push n [] l =
    let e : n ≡ n + 0 = omega arith in
    ap (λ m. named_from m (l ∷ [])) e
named-push n (x ∷ xs) l =
    let e : n + 1 + length xs ≡ n + length (x ∷ xs) = omega arith in
    ap (with_named n (token_of x)) (named-push (n + 1) xs l)
    ∙ with_named-more n (token_of x) (named_from (n + 1) xs) (named_from (n + 1 + length xs) (l ∷ []))
    ∙ ap (λ m. named_from n (x ∷ xs) ++ named_from m (l ∷ [])) e

pub no_lines : (bytes : List ℕ) (named : List Named) → bytes ≡ [] ++ (codes "psg 2" ++ (13 ∷ 10 ∷ [])) → named ≡ []
    → ArePlain [] bytes named
no_lines bytes named b n = record { written = b; kept = n }

line_more : (xs : List (List ℕ)) (l : List ℕ) (number : ℕ) (bytes bytes' : List ℕ) (named named' : List Named)
    → number ≡ length xs + 2 → ArePlain xs bytes named → AddsLine l number bytes named bytes' named'
    → ArePlain (xs ++ l ∷ []) bytes' named'
line_more xs l number bytes bytes' named named' e p a = record {
  written = a.written ∙ ap (λ b. b ++ (plain_line l ++ (13 ∷ 10 ∷ []))) p.written
      ∙ sym (joined-push (codes "psg 2" ∷ map plain_line xs) (plain_line l))
      ∙ ap (λ ys. joined (codes "psg 2" ∷ ys)) (sym (map-append plain_line xs (l ∷ [])));
  kept = a.kept ∙ ap (λ ns. ns ++ named_from number (l ∷ [])) p.kept
      ∙ ap (λ m. named_from 2 xs ++ named_from m (l ∷ [])) (e ∙ two_more (length xs)) ∙ sym (named-push 2 xs l);
}
  where
    two_more : (n : ℕ) → n + 2 ≡ 2 + n
    two_more n = omega arith

pub line_next : (ls : List (Bor (List ℕ))) (i : ℕ) (d : Bor (List ℕ)) (number : ℕ) (bytes bytes' : List ℕ) (named named' : List Named)
    → i < length ls → number ≡ i + 2 → ArePlain (map (λ l. l.now) (take i ls)) bytes named
    → AddsLine (get_or ls i d).now number bytes named bytes' named'
    → ArePlain (map (λ l. l.now) (take (i + 1) ls)) bytes' named'
line_next ls i d number bytes bytes' named named' l e p a =
    let xs = map (λ (b : Bor (List ℕ)). b.now) (take i ls) in
    let size : length xs ≡ i = length-map (take i ls) (λ (b : Bor (List ℕ)). b.now) ∙ length-take-le i ls (omega (arith, l)) in
    subst (λ ys. ArePlain ys bytes' named')
    (sym (ap (map (λ (b : Bor (List ℕ)). b.now)) (take_more ls i d l) ∙ map-append (λ (b : Bor (List ℕ)). b.now) (take i ls) (get_or ls i d ∷ [])))
    (line_more xs (get_or ls i d).now number bytes bytes' named named' (e ∙ ap (λ n. n + 2) (sym size)) p a)

-- ---- the file

third_by : (text : List ℕ) (ls : List (List ℕ)) (b : Bool) → is_utf8 text ≡ true → lines text ≡ ls → has_head ls ≡ b → is_third text ≡ b
third_by text ls b u e h = ap (λ c. c && has_head (lines text)) u ∙ ap has_head e ∙ h

pub third_bytes : (text bytes : List ℕ) (named : List Named) (head : List ℕ) (rest : List (List ℕ)) → IsUtf8 text
    → lines text ≡ head ∷ rest → is_head head ≡ true → ArePlain rest bytes named → bytes ≡ plain_of text
third_bytes text bytes named head rest u e h p =
    let third : is_third text ≡ true = third_by text (head ∷ rest) true (is_utf8-from_IsUtf8 text u) e h in
    p.written ∙ ap (λ ls. joined (codes "psg 2" ∷ map plain_line (behind_head ls))) (sym e)
    ∙ ap (λ b. cond b (joined (codes "psg 2" ∷ map plain_line (behind_head (lines text)))) text) (sym third)

pub third_named : (text bytes : List ℕ) (named : List Named) (head : List ℕ) (rest : List (List ℕ)) → IsUtf8 text
    → lines text ≡ head ∷ rest → is_head head ≡ true → ArePlain rest bytes named → named ≡ named_in text
third_named text bytes named head rest u e h p =
    let third : is_third text ≡ true = third_by text (head ∷ rest) true (is_utf8-from_IsUtf8 text u) e h in
    p.kept ∙ ap (λ ls. named_from 2 (behind_head ls)) (sym e)
    ∙ ap (λ b. cond b (named_from 2 (behind_head (lines text))) []) (sym third)

other_bytes : (text : List ℕ) → is_third text ≡ false → text ≡ plain_of text
other_bytes text third = ap (λ b. cond b (joined (codes "psg 2" ∷ map plain_line (behind_head (lines text)))) text) (sym third)

other_named : (text : List ℕ) → is_third text ≡ false → [] ≡ named_in text
other_named text third = ap (λ b. cond b (named_from 2 (behind_head (lines text))) []) (sym third)

-- a text with another head, or without lines
pub no_head_bytes : (text : List ℕ) (ls : List (List ℕ)) → IsUtf8 text → lines text ≡ ls → has_head ls ≡ false → text ≡ plain_of text
no_head_bytes text ls u e h = other_bytes text (third_by text ls false (is_utf8-from_IsUtf8 text u) e h)

pub no_head_named : (text : List ℕ) (ls : List (List ℕ)) → IsUtf8 text → lines text ≡ ls → has_head ls ≡ false → [] ≡ named_in text
no_head_named text ls u e h = other_named text (third_by text ls false (is_utf8-from_IsUtf8 text u) e h)

no_utf8_third : (bytes : List ℕ) → (IsUtf8 bytes → ⊥) → is_third bytes ≡ false
no_utf8_third bytes never = by (is_utf8 bytes) refl
  where
    by : (b : Bool) → is_utf8 bytes ≡ b → (b && has_head (lines bytes)) ≡ false
    by true e = absurd (never (IsUtf8-from_is_utf8 bytes e))
    by false e = refl

pub no_utf8_bytes : (bytes : List ℕ) → (IsUtf8 bytes → ⊥) → bytes ≡ plain_of bytes
no_utf8_bytes bytes never = other_bytes bytes (no_utf8_third bytes never)

pub no_utf8_named : (bytes : List ℕ) → (IsUtf8 bytes → ⊥) → [] ≡ named_in bytes
no_utf8_named bytes never = other_named bytes (no_utf8_third bytes never)

pub map_ok : {X Y : Type 0} {P Q : X → Type 0} (r : Result X Y) → ((x : X) → P x → Q x) → IfOk r P → IfOk r Q
map_ok (Ok x) f h = f x h
map_ok (Err y) f h = tt

-- the lines of a text, of which the first is seen by itself
pub lines_split : (text : List ℕ) (items seen : List (Bor (List ℕ))) (head : Bor (List ℕ)) (rest : List (Bor (List ℕ)))
    → map (λ (b : Bor (List ℕ)). b.now) items ≡ lines text → seen ≡ items → seen ≡ head ∷ rest
    → lines text ≡ head.now ∷ map (λ (b : Bor (List ℕ)). b.now) rest
lines_split text items seen head rest e v c = sym e ∙ ap (map (λ (b : Bor (List ℕ)). b.now)) (sym v ∙ c)
