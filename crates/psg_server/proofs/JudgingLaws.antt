-- A text without its byte order mark is a text, and a text with a space in place of a `?` is one.
use Rattle.std.proofs.Common.{◌≡◌, ◌≤◌, ◌<◌, ◌+◌, ◌⊎◌, ℕ, suc, Bool, true, false, cond, List, [], ◌∷◌, ◌++◌, length, take, drop, min, refl, inl, inr, sym, ◌∙◌, ap, subst, append_assoc, arith}
use Rattle.std.specs.Prelude.{bytes_eq, set}
use Rattle.std.specs.Str.{IsCharBoundary, IsUtf8}
use Rattle.std.proofs.lemmas.Bool.{cases_lt}
use Rattle.std.proofs.lemmas.List.{length-take, set_split, take_all}
use Rattle.std.proofs.lemmas.Option.{get_or_from_slice_get, slice_get_within}
use Rattle.std.proofs.lemmas.Slice.Eq.{bytes_eq-Decides}
use Rattle.std.proofs.lemmas.Str.{IsCharBoundary-after_ascii, IsCharBoundary-before_ascii, IsCharBoundary-from_take, IsUtf8-drop, IsUtf8-encode}
use Rattle.psg_program.specs.Decoding.{mark, unmarked}
use Rattle.psg_server.specs.Judging.{IsMark}

mark_is_text : IsUtf8 mark
unfolding lib.Utf8.encode
mark_is_text = IsUtf8-encode 65279 refl

long : (text : List ℕ) → take 3 text ≡ mark → 3 ≤ length text
long text e = elim (cases_lt (length text) 3) [
  | inl lt ↦
      let le : length text ≤ 3 = omega (arith, lt) in
      let all : length text ≡ 3 = ap (λ (bs : List ℕ). length bs) (sym (take_all 3 text le) ∙ e) in
      omega (arith, all)
  | inr ge ↦ ge
]

pub unmarked_is_text : (text : List ℕ) → IsUtf8 text → IsUtf8 (unmarked text)
unmarked_is_text text utf8 = by (bytes_eq (take 3 text) mark) refl where
  by : (b : Bool) → bytes_eq (take 3 text) mark ≡ b → IsUtf8 (cond b (drop 3 text) text)
  by true e =
      let is : take 3 text ≡ mark = (bytes_eq-Decides (take 3 text) mark).0 e in
      IsUtf8-drop text 3 utf8
      (IsCharBoundary-from_take text 3 utf8 (long text is) (subst IsUtf8 (sym is) mark_is_text))
  by false e = utf8

-- ---- a text with a space in place of a `?`

pub mark_start : (text : List ℕ) (place : ℕ) → IsMark text place → IsCharBoundary text place
mark_start text place is =
    IsCharBoundary-before_ascii text place (slice_get_within text place 63 is)
    (subst (λ b. b < 128) (sym (get_or_from_slice_get text place 63 0 is)) (omega arith))

pub mark_end : (text : List ℕ) (place : ℕ) → IsUtf8 text → IsMark text place → IsCharBoundary text (place + 1)
mark_end text place utf8 is =
    IsCharBoundary-after_ascii text place utf8 (slice_get_within text place 63 is)
    (subst (λ b. b < 128) (sym (get_or_from_slice_get text place 63 0 is)) (omega arith))

-- the bytes before, a space, and those after
pub spaced_is : (text : List ℕ) (place : ℕ) (first second bare : List ℕ) → IsMark text place
    → first ≡ take place text → second ≡ first ++ 32 ∷ [] → bare ≡ second ++ drop (place + 1) text
    → bare ≡ set text place 32
spaced_is text place first second bare is f s b =
    let next : place + 1 ≡ suc place = omega arith in
    b ∙ ap (λ l. l ++ drop (place + 1) text) (s ∙ ap (λ l. l ++ 32 ∷ []) f)
    ∙ append_assoc (take place text) (32 ∷ []) (drop (place + 1) text)
    ∙ ap (λ n. take place text ++ 32 ∷ drop n text) next
    ∙ sym (set_split text place 32 (slice_get_within text place 63 is))
