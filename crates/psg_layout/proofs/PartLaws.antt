-- A part of tokens in their text: its bytes, and that the text may be cut there.
use Rattle.std.proofs.Common.{◌≡◌, ℕ, zero, suc, ◌+◌, ◌-◌, ◌≤◌, List, [], ◌∷◌, ◌++◌, length, take, drop, Some, None, refl, ap, ap₂, sym, subst, ◌∙◌, append_assoc, length-append, arith}
use Rattle.std.proofs.Math.Seq.{take-append_seam, drop-append_seam}
use Rattle.std.specs.Prelude.{slice_get, slice_range}
use Rattle.std.specs.Str.{IsCharBoundary, IsUtf8}
use Rattle.std.proofs.lemmas.Str.{IsCharBoundary-at_seam, IsUtf8-append, IsUtf8-nil}
use Rattle.psg_unparse.specs.Spaced.{Put, text_in}
use Rattle.psg_layout.specs.declared.sheet.Extent.{Extent}
use Rattle.psg_layout.specs.Laws.{own_text}
use Rattle.psg_layout.specs.PutSpans.{first_gap}
use Rattle.psg_layout.specs.Sheets.{AreUtf8, after_gap, extents}
use Rattle.psg_layout.proofs.PlainLaws.{text-append}
use Rattle.psg_layout.proofs.SheetLaws.{count_extents, extents-append}
use Rattle.psg_layout.proofs.SpanLaws.{own_parts, split_at, take_both}

utf8_text : (ps : List Put) → AreUtf8 ps → IsUtf8 (text_in ps)
utf8_text [] a = IsUtf8-nil
utf8_text (p ∷ ps) a = IsUtf8-append p.gap (p.text ++ text_in ps) a.0.0 (IsUtf8-append p.text (text_in ps) a.0.1 (utf8_text ps a.1))

utf8_own : (ps : List Put) → AreUtf8 ps → IsUtf8 (own_text ps)
utf8_own [] a = IsUtf8-nil
utf8_own (p ∷ ps) a = IsUtf8-append p.text (text_in ps) a.0.1 (utf8_text ps a.1)

utf8_front : (ps qs : List Put) → AreUtf8 (ps ++ qs) → AreUtf8 ps
utf8_front [] qs a = tt
utf8_front (p ∷ ps) qs a = (a.0, utf8_front ps qs a.1)

utf8_back : (ps qs : List Put) → AreUtf8 (ps ++ qs) → AreUtf8 qs
utf8_back [] qs a = a
utf8_back (p ∷ ps) qs a = utf8_back ps qs a.1

none_past : (es : List Extent) (i : ℕ) → slice_get es i ≡ None → length es ≤ i
none_past [] i h = omega arith
none_past (e ∷ es) zero h = absurd (let f : Some e ≡ None = h in cc)
none_past (e ∷ es) (suc i) h = let k = none_past es i h in omega (arith, k)

-- the first gap before the byte or after it
own_extents : (n start : ℕ) (ps : List Put) → start ≡ n + length (first_gap ps) → extents n ps ≡ extents start (after_gap [] ps)
own_extents n start [] e = refl
own_extents n start (p ∷ ps) e =
    let a : n + length p.gap ≡ start + 0 = omega (arith, e) in
    ap (λ z. extent z (z + length p.text) ∷ extents (z + length p.text) ps) a
  where
    extent : ℕ → ℕ → Extent
    extent b f = record { begin = b; end = f }

middle : {A : Type 0} (xs ys zs : List A) (n m : ℕ) → n ≡ length xs → m ≡ length ys → slice_range (xs ++ (ys ++ zs)) n (n + m) ≡ ys
middle xs ys zs n m e f =
    let a : n + m - n ≡ length ys = omega (arith, f) in
    ap₂ (λ x y. take x (drop y (xs ++ (ys ++ zs)))) a e ∙ ap (take (length ys)) (drop-append_seam xs (ys ++ zs)) ∙ take-append_seam ys zs

module _ (ps : List Put) (valid : AreUtf8 ps) (n m : ℕ) (long : length (take n ps) ≡ n) (own_long : length (take m (drop n ps)) ≡ m) where
  abbrev front : List Put
  front = take n ps

  abbrev own : List Put
  own = take m (drop n ps)

  abbrev behind : List Put
  behind = drop m (drop n ps)

  abbrev start : ℕ
  start = length (text_in front) + length (first_gap own)

  whole : ps ≡ front ++ (own ++ behind)
  whole = split_at n ps ∙ ap (λ z. take n ps ++ z) (split_at m (drop n ps))

  text_is : text_in ps ≡ (text_in front ++ first_gap own) ++ (own_text own ++ text_in behind)
  text_is =
      ap text_in whole ∙ text-append front (own ++ behind) ∙ ap (λ z. text_in front ++ z) (text-append own behind)
      ∙ ap (λ z. text_in front ++ (z ++ text_in behind)) (own_parts own)
      ∙ ap (λ z. text_in front ++ z) (append_assoc (first_gap own) (own_text own) (text_in behind))
      ∙ sym (append_assoc (text_in front) (first_gap own) (own_text own ++ text_in behind))

  start_is : start ≡ length (text_in front ++ first_gap own)
  start_is = sym (length-append (text_in front) (first_gap own))

  end_is : length (text_in (take (n + m) ps)) ≡ length ((text_in front ++ first_gap own) ++ own_text own)
  end_is =
      ap length
      (ap text_in (take_both n m ps) ∙ text-append front own ∙ ap (λ z. text_in front ++ z) (own_parts own)
      ∙ sym (append_assoc (text_in front) (first_gap own) (own_text own)))

  rest_valid : AreUtf8 (own ++ behind)
  rest_valid = utf8_back front (own ++ behind) (subst AreUtf8 whole valid)

  pub own_valid : AreUtf8 own
  own_valid = utf8_front own behind rest_valid

  behind_valid : AreUtf8 behind
  behind_valid = utf8_back own behind rest_valid

  pub part_ordered : start ≤ length (text_in (take (n + m) ps))
  part_ordered =
      let a = start_is in let b = end_is in let c = length-append (text_in front ++ first_gap own) (own_text own) in
      omega (arith, a, b, c)

  pub part_starts : IsCharBoundary (text_in ps) start
  part_starts =
      subst (IsCharBoundary (text_in ps)) (sym start_is)
      (IsCharBoundary-at_seam (text_in ps) (text_in front ++ first_gap own) (own_text own ++ text_in behind) text_is
      (IsUtf8-append (own_text own) (text_in behind) (utf8_own own own_valid) (utf8_text behind behind_valid)))

  pub part_ends : IsCharBoundary (text_in ps) (length (text_in (take (n + m) ps)))
  part_ends =
      subst (IsCharBoundary (text_in ps)) (sym end_is)
      (IsCharBoundary-at_seam (text_in ps) ((text_in front ++ first_gap own) ++ own_text own) (text_in behind)
      (text_is ∙ sym (append_assoc (text_in front ++ first_gap own) (own_text own) (text_in behind))) (utf8_text behind behind_valid))

  extents_whole : extents 0 ps ≡ extents 0 front ++ (extents (0 + length (text_in front)) own ++ extents (0 + length (text_in front) + length (text_in own)) behind)
  extents_whole =
      ap (extents 0) whole ∙ extents-append 0 front (own ++ behind)
      ∙ ap (λ z. extents 0 front ++ z) (extents-append (0 + length (text_in front)) own behind)

  pub part_within : n + m ≤ length (extents 0 ps)
  part_within =
      let a = ap length whole in let b = length-append front (own ++ behind) in let c = length-append own behind in
      let d = count_extents 0 ps in
      omega (arith, a, b, c, d, long, own_long)

  pub part_extents : slice_range (extents 0 ps) n (n + m) ≡ extents start (after_gap [] own)
  part_extents =
      let e : start ≡ 0 + length (text_in front) + length (first_gap own) = omega arith in
      ap (λ z. slice_range z n (n + m)) extents_whole
      ∙ middle (extents 0 front) (extents (0 + length (text_in front)) own) (extents (0 + length (text_in front) + length (text_in own)) behind) n m
      (sym (count_extents 0 front ∙ long)) (sym (count_extents (0 + length (text_in front)) own ∙ own_long))
      ∙ own_extents (0 + length (text_in front)) start own e

-- ---- the bytes of a token

take_past : (ps : List Put) (n : ℕ) → length ps ≤ n → take n ps ≡ ps
take_past [] zero h = refl
take_past [] (suc n) h = refl
take_past (p ∷ ps) zero h = absurd (omega (arith, h))
take_past (p ∷ ps) (suc n) h = let k : length ps ≤ n = omega (arith, h) in ap (λ z. p ∷ z) (take_past ps n k)

drop_past : (ps : List Put) (n : ℕ) → length ps ≤ n → drop n ps ≡ []
drop_past [] zero h = refl
drop_past [] (suc n) h = refl
drop_past (p ∷ ps) zero h = absurd (omega (arith, h))
drop_past (p ∷ ps) (suc n) h = let k : length ps ≤ n = omega (arith, h) in drop_past ps n k

extent_end : (n : ℕ) (ps : List Put) (i : ℕ) (e : Extent) → slice_get (extents n ps) i ≡ Some e → e.end ≡ n + length (text_in (take (suc i) ps))
extent_end n [] i e h = absurd (let f : None ≡ Some e = h in cc)
extent_end n (p ∷ ps) zero e h =
    let f : Some (record { begin = n + length p.gap; end = n + length p.gap + length p.text }) ≡ Some e = h in
    let g : ◌≡◌ {A = Extent} (record { begin = n + length p.gap; end = n + length p.gap + length p.text }) e = cc in
    let own = ap (λ (z : Extent). z.end) g in
    let a = length-append p.gap (p.text ++ []) in
    let b = length-append p.text [] in
    omega (arith, own, a, b)
extent_end n (p ∷ ps) (suc i) e h =
    let k = extent_end (n + length p.gap + length p.text) ps i e h in
    let a = length-append p.gap (p.text ++ text_in (take (suc i) ps)) in
    let b = length-append p.text (text_in (take (suc i) ps)) in
    omega (arith, k, a, b)

extent_begin : (n : ℕ) (ps : List Put) (i m : ℕ) (e : Extent) → slice_get (extents n ps) i ≡ Some e
    → e.begin ≡ n + length (text_in (take i ps)) + length (first_gap (take (suc m) (drop i ps)))
extent_begin n [] i m e h = absurd (let f : None ≡ Some e = h in cc)
extent_begin n (p ∷ ps) zero m e h =
    let f : Some (record { begin = n + length p.gap; end = n + length p.gap + length p.text }) ≡ Some e = h in
    let g : ◌≡◌ {A = Extent} (record { begin = n + length p.gap; end = n + length p.gap + length p.text }) e = cc in
    let own = ap (λ (z : Extent). z.begin) g in
    omega (arith, own)
extent_begin n (p ∷ ps) (suc i) m e h =
    let k = extent_begin (n + length p.gap + length p.text) ps i m e h in
    let a = length-append p.gap (p.text ++ text_in (take i ps)) in
    let b = length-append p.text (text_in (take i ps)) in
    omega (arith, k, a, b)

pub one_before : (n : ℕ) → (n ≡ 0 → ⊥) → n ≡ suc (n - 1)
one_before zero h = absurd (h refl)
one_before (suc n) h = omega arith

pub no_own : (puts : List Put) (n m : ℕ) → m ≡ 0
    → length (text_in (take n puts)) ≡ length (text_in (take n puts)) + length (first_gap (take m (drop n puts)))
no_own puts n zero e = omega arith
no_own puts n (suc m) e = absurd (omega (arith, e))

module _ (tokens : List Extent) (puts : List Put) (at : tokens ≡ extents 0 puts) where
  pub end_found : (i count : ℕ) (e : Extent) → slice_get tokens i ≡ Some e → count ≡ suc i → e.end ≡ length (text_in (take count puts))
  end_found i count e h k =
      let z : 0 + length (text_in (take (suc i) puts)) ≡ length (text_in (take (suc i) puts)) = omega arith in
      extent_end 0 puts i e (ap (λ z. slice_get z i) (sym at) ∙ h) ∙ z ∙ ap (λ z. length (text_in (take z puts))) (sym k)

  past : (i : ℕ) → slice_get tokens i ≡ None → length puts ≤ i
  past i h =
      let a = none_past tokens i h in let b = ap length at in let c = count_extents 0 puts in
      omega (arith, a, b, c)

  pub end_past : (i count : ℕ) → slice_get tokens i ≡ None → count ≡ suc i → length (text_in puts) ≡ length (text_in (take count puts))
  end_past i count h k =
      let l = past i h in
      let m : length puts ≤ count = omega (arith, l, k) in
      ap (λ z. length (text_in z)) (sym (take_past puts count m))

  pub start_found : (before own : ℕ) (e : Extent) → slice_get tokens before ≡ Some e → (own ≡ 0 → ⊥)
      → e.begin ≡ length (text_in (take before puts)) + length (first_gap (take own (drop before puts)))
  start_found before zero e h n = absurd (n refl)
  start_found before (suc m) e h n =
      let a : ℕ = length (text_in (take before puts)) in
      let b : ℕ = length (first_gap (take (suc m) (drop before puts))) in
      let z : 0 + a + b ≡ a + b = omega arith in
      extent_begin 0 puts before m e (ap (λ z. slice_get z before) (sym at) ∙ h) ∙ z

  pub start_past : (before own : ℕ) → slice_get tokens before ≡ None
      → length (text_in (take before puts)) ≡ length (text_in (take before puts)) + length (first_gap (take own (drop before puts)))
  start_past before own h =
      let e : drop before puts ≡ [] = drop_past puts before (past before h) in
      let n : length (first_gap (take own (drop before puts))) ≡ 0 = ap (λ z. length (first_gap (take own z))) e ∙ none own in
      omega (arith, n)
    where
      none : (k : ℕ) → length (first_gap (take {A = Put} k [])) ≡ 0
      none zero = refl
      none (suc k) = refl
