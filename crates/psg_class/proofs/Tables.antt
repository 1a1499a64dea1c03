-- Tables: the places of their cells, and how many are not set.
use Rattle.std.proofs.Common.{◌≡◌, ◌≢◌, ◌⊎◌, inl, inr, ℕ, zero, suc, ◌+◌, ◌*◌, ◌/◌, ◌<◌, ◌&&◌, ◌||◌, Bool, true, false, cond, List, [], ◌∷◌, ◌++◌, take, length, get_or, set, refl, ap, ap₂, sym, ◌∙◌, arith}
use Rattle.std.proofs.lemmas.Nat.{div-mul-add}
use Rattle.std.proofs.lemmas.List.{get_or-set_other, take_more}
use Rattle.std.proofs.Math.Bool.{or_assoc, or-false}
use Rattle.psg_class.specs.Grids.{unset, is_at, once, twice}
use Rattle.psg_class.specs.declared.grid.Cell.{Cell}

-- cells of other rows or columns stand at other places
pub apart : (w r row c column : ℕ) → c < w → column < w → (r ≢ row) ⊎ (c ≢ column) → r * w + c ≢ row * w + column
apart w r row c column h k differ e =
    let same : r ≡ row = sym (div-mul-add r w c h) ∙ ap (λ x. x / w) e ∙ div-mul-add row w column k in
    elim differ [
      | inl d ↦ d same
      | inr d ↦ d (let p : r * w ≡ row * w = ap (λ x. x * w) same in omega arith)
    ]

pub get_apart : (cells : List Bool) (w r row c column : ℕ) → c < w → column < w → (r ≢ row) ⊎ (c ≢ column) → get_or (set cells (row * w + column) true) (r * w + c) false ≡ get_or cells (r * w + c) false
get_apart cells w r row c column h k differ = get_or-set_other cells (row * w + column) (r * w + c) true false (apart w r row c column h k differ)

pub unset-set : (cells : List Bool) (k : ℕ) (d : Bool) → k < length cells → get_or cells k d ≡ false → unset (set cells k true) + 1 ≡ unset cells
unset-set [] k d lt e = absurd (omega arith)
unset-set (m ∷ cells) zero d lt e = let n = unset cells in let h : ◌≡◌ {A = ℕ} (cond m 0 1) 1 = ap (λ b. cond b 0 1) e in omega arith
unset-set (m ∷ cells) (suc k) d lt e = omega (arith, unset-set cells k d (omega arith) e)

-- x and (y or z), or t and (y or z)
spread : (a b d t e : Bool) → (a && (b || d)) || (t || (e && d)) ≡ ((a && b) || t) || ((a || e) && d)
spread true true true true e = refl
spread true true true false e = refl
spread true true false true e = refl
spread true true false false true = refl
spread true true false false false = refl
spread true false true true e = refl
spread true false true false e = refl
spread true false false true e = refl
spread true false false false true = refl
spread true false false false false = refl
spread false b d true e = refl
spread false b d false e = refl

pub once_front : (r c : ℕ) (xs : List Cell) (x : Cell) → once r c (xs ++ x ∷ []) ≡ once r c xs || is_at r c x
once_front r c [] x = or-false (is_at r c x)
once_front r c (y ∷ xs) x = ap (λ b. is_at r c y || b) (once_front r c xs x) ∙ sym (or_assoc (is_at r c y) (once r c xs) (is_at r c x))

pub twice_front : (r c : ℕ) (xs : List Cell) (x : Cell) → twice r c (xs ++ x ∷ []) ≡ twice r c xs || (once r c xs && is_at r c x)
twice_front r c [] x = or-false (is_at r c x && false) ∙ and_nothing (is_at r c x) where
  and_nothing : (a : Bool) → a && false ≡ false
  and_nothing true = refl
  and_nothing false = refl
twice_front r c (y ∷ xs) x =
    ap₂ (λ a b. (is_at r c y && a) || b) (once_front r c xs x) (twice_front r c xs x) ∙ spread (is_at r c y) (once r c xs) (is_at r c x) (twice r c xs) (once r c xs)

pub once_more : (r c : ℕ) (xs : List Cell) (n : ℕ) (d : Cell) (before after : Bool) → n < length xs → before ≡ once r c (take n xs) → after ≡ before || is_at r c (get_or xs n d) → after ≡ once r c (take (n + 1) xs)
once_more r c xs n d before after h e f = f ∙ ap (λ b. b || is_at r c (get_or xs n d)) e ∙ sym (once_front r c (take n xs) (get_or xs n d)) ∙ ap (once r c) (sym (take_more xs n d h))

pub twice_more : (r c : ℕ) (xs : List Cell) (n : ℕ) (d : Cell) (met before after : Bool) → n < length xs → met ≡ once r c (take n xs) → before ≡ twice r c (take n xs) → after ≡ before || (met && is_at r c (get_or xs n d)) → after ≡ twice r c (take (n + 1) xs)
twice_more r c xs n d met before after h m e f =
    f ∙ ap₂ (λ b k. b || (k && is_at r c (get_or xs n d))) e m ∙ sym (twice_front r c (take n xs) (get_or xs n d)) ∙ ap (twice r c) (sym (take_more xs n d h))
