-- The first line of a text, and its end.
use Rattle.std.proofs.Common.{◌≡◌, ◌≢◌, ℕ, suc, ◌<◌, ◌-◌, ◌+◌, Bool, true, false, List, [], ◌∷◌, ◌++◌, length, take, drop, get_or, refl, sym, ap, ◌∙◌, subst, arith, ◌==◌, length-append}
use Rattle.std.specs.Prelude.{slice_index}
use Rattle.std.specs.Str.Lines.{strip_carriage_return}
use Rattle.std.proofs.lemmas.Bool.{eqb-true}
use Rattle.std.specs.List.{position_or_len, before_first, after_first}
use Rattle.std.proofs.lemmas.List.{take_all, drop_all}
use Rattle.std.proofs.Math.Seq.{take-append_seam}
use Rattle.psg_library.specs.Heads.{is_feed}

index_seam : (x : List ℕ) (c : ℕ) (r : List ℕ) → get_or (x ++ c ∷ r) (length x) 0 ≡ c
index_seam [] c r = refl
index_seam (b ∷ x) c r = index_seam x c r

-- a text that has no space at any place is not cut at one
pub not_cut : (text : List ℕ) → ((i : ℕ) → i < length text → get_or text i 0 ≢ 32) → (w r : List ℕ)
    → text ≢ w ++ 32 ∷ r
not_cut text h w r e =
    let long : length text ≡ length w + suc (length r) = ap length e ∙ length-append w (32 ∷ r) in
    h (length w) (omega (arith, long)) (subst (λ t. get_or t (length w) 0 ≡ 32) (sym e) (index_seam w 32 r))

-- ---- one carriage return at the end

kept : (l : List ℕ) → (slice_index l (length l - 1) == 13) ≡ false → strip_carriage_return l ≡ l
kept l h = rw h refl

cut : (l : List ℕ) → (slice_index l (length l - 1) == 13) ≡ true → strip_carriage_return l ≡ take (length l - 1) l
cut l h = rw h refl

shorter : (x : List ℕ) (c : ℕ) → length (x ++ c ∷ []) - 1 ≡ length x
shorter x c = omega (arith, length-append x (c ∷ []))

at_end : (x : List ℕ) (c : ℕ) → slice_index (x ++ c ∷ []) (length (x ++ c ∷ []) - 1) ≡ c
at_end x c = subst (λ n. slice_index (x ++ c ∷ []) n ≡ c) (sym (shorter x c)) (index_seam x c [])

pub returned : (l x : List ℕ) → l ≡ x ++ 13 ∷ [] → x ≡ strip_carriage_return l
returned l x e =
    let own : strip_carriage_return (x ++ 13 ∷ []) ≡ x =
    cut (x ++ 13 ∷ []) (ap (λ n. n == 13) (at_end x 13))
    ∙ (ap (λ n. take n (x ++ 13 ∷ [])) (shorter x 13) ∙ take-append_seam x (13 ∷ [])) in
    sym (ap strip_carriage_return e ∙ own)

record HasEnd (l : List ℕ) : Type 0 where
  front : List ℕ
  last : ℕ
  whole : l ≡ front ++ last ∷ []

end_of : (b : ℕ) (l : List ℕ) → HasEnd (b ∷ l)
end_of b [] = record { front = []; last = b; whole = refl }
end_of b (c ∷ l) =
    let h = end_of c l in
    record { front = b ∷ h.front; last = h.last; whole = ap (λ m. b ∷ m) h.whole }

pub not_returned : (l : List ℕ) → ((x : List ℕ) → l ≢ x ++ 13 ∷ []) → l ≡ strip_carriage_return l
not_returned [] none = refl
not_returned (b ∷ l) none = by (end_of b l)
  where
    by : HasEnd (b ∷ l) → b ∷ l ≡ strip_carriage_return (b ∷ l)
    by h = decide (h.last == 13) refl
      where
        decide : (t : Bool) → (h.last == 13) ≡ t → b ∷ l ≡ strip_carriage_return (b ∷ l)
        decide true e = absurd (none h.front (h.whole ∙ ap (λ c. h.front ++ c ∷ []) (eqb-true h.last 13 e)))
        decide false e =
            sym (kept (b ∷ l)
            (ap (λ n. n == 13) (subst (λ m. slice_index m (length m - 1) ≡ h.last) (sym h.whole) (at_end h.front h.last)) ∙ e))

-- ---- a text without a line feed is one line

pub uncut_line : (text : List ℕ) → position_or_len is_feed text ≡ length text → text ≡ before_first is_feed text
uncut_line text e = sym (ap (λ n. take n text) e ∙ take_all (length text) text (omega arith))

pub uncut_rest : (text : List ℕ) → position_or_len is_feed text ≡ length text → [] ≡ after_first is_feed text
uncut_rest text e = sym (ap (λ n. drop (n + 1) text) e ∙ drop_all (length text + 1) text (omega arith))
