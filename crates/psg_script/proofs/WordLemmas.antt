-- Laws of words and of the spaces between them.
use Rattle.std.proofs.Common.{◌≡◌, ◌≢◌, ℕ, zero, suc, ◌<◌, ◌≤◌, Bool, false, List, [], ◌∷◌, ◌++◌, Option, Some, None, length, get_or, take, refl, sym, ap, ◌∙◌, ◌↔◌, IsTrue, ◌==◌, arith, length-take, get_or-take}
use Rattle.std.proofs.lemmas.Bool.{true≢false}
use Rattle.std.proofs.lemmas.Bool.Decides.{nat_tests}
use Rattle.std.specs.List.{AllByRecursion}
use Rattle.psg_script.specs.Forms.{Text, IsInWord, IsWord, IsTail, Follow, spaces}
use Rattle.psg_script.specs.Words.{IsBehind, IsNext, IsOpen, IsClosed}

-- a text without a space at any place
pub in_word_from_places : (w : Text) → ((i : ℕ) → i < length w → get_or w i 0 ≢ 32) → AllByRecursion IsInWord w
in_word_from_places [] h = tt
in_word_from_places (b ∷ bs) h = (h 0 (omega arith), in_word_from_places bs (λ i l. h (suc i) (omega arith)))

pub in_word_front : (text : Text) (k : ℕ) → ((i : ℕ) → i < k → get_or text i 0 ≢ 32) → AllByRecursion IsInWord (take k text)
in_word_front text k h = in_word_from_places (take k text) (λ i l. let in_front : i < k = omega (arith, length-take k text) in rw get_or-take (h i in_front))

-- Spaces.

pub spaces_more : (n : ℕ) (x : Text) → spaces n ++ (32 ∷ x) ≡ spaces (suc n) ++ x
spaces_more zero x = refl
spaces_more (suc n) x = ap (λ t. 32 ∷ t) (spaces_more n x)

tail_no_space : (x y : Text) → IsTail x → x ≡ 32 ∷ y → ⊥
tail_no_space [] y h e = cc
tail_no_space (b ∷ bs) y h e = h (let p : b ≡ 32 = cc in p)

pub tail_from_none : (x : Text) → ((rest : Text) → x ≢ 32 ∷ rest) → IsTail x
tail_from_none [] h = tt
tail_from_none (b ∷ bs) h = λ e. h bs (ap (λ c. c ∷ bs) e)

-- a text has one way to be spaces and then a text that begins with none
pub spaces_apart : (m n : ℕ) (x y : Text) → IsTail x → IsTail y → spaces m ++ x ≡ spaces n ++ y → (m ≡ n) × (x ≡ y)
spaces_apart zero zero x y hx hy e = (refl, e)
spaces_apart zero (suc n) x y hx hy e = absurd (tail_no_space x _ hx e)
spaces_apart (suc m) zero x y hx hy e = absurd (tail_no_space y _ hy (sym e))
spaces_apart (suc m) (suc n) x y hx hy e =
    let rest : spaces m ++ x ≡ spaces n ++ y = cc in
    let r = spaces_apart m n x y hx hy rest in
    (ap suc r.0, r.1)

append_nil : (x : Text) → x ≡ x ++ []
append_nil [] = refl
append_nil (b ∷ bs) = ap (λ t. b ∷ t) (append_nil bs)

-- only spaces are left just where nothing is left behind them
pub spaces_end : (n : ℕ) (x : Text) → IsTail x → ((m : ℕ) × (spaces n ++ x ≡ spaces m)) ↔ (x ≡ [])
spaces_end n x h = (λ (m, e). (spaces_apart n m x [] h tt (e ∙ append_nil (spaces m))).1, λ e. (n, rw e (sym (append_nil (spaces n)))))

-- the test for an end, of what is left behind the spaces
pub end_tested : (b : Bool) (n : ℕ) (behind text : Text) → behind ≡ spaces n ++ text → IsTail text → b ≡ (length text == 0) → IsTrue b ↔ Follow [] None behind
end_tested b n behind [] e h t = (λ _. (n, e ∙ sym (append_nil (spaces n))), λ _. t)
end_tested b n behind (c ∷ cs) e h t =
    let says = spaces_end n (c ∷ cs) h in
    (λ y. absurd (true≢false (sym y ∙ (t ∙ longer c cs))), λ (m, f). absurd (some_left c cs (says.0 (m, sym e ∙ f)))) where
      longer : (d : ℕ) (ds : Text) → (length (d ∷ ds) == 0) ≡ false
      longer d ds = grind (arith, nat_tests)

      some_left : (d : ℕ) (ds : Text) → (d ∷ ds) ≡ [] → ⊥
      some_left d ds q = cc

-- Words.

pub tail_of_word : (w after : Text) → IsWord w → IsTail (w ++ after)
tail_of_word [] after h = absurd (let p : ⊥ = omega (arith, h.0) in p)
tail_of_word (b ∷ bs) after h = h.1.0

behind_no_word : (x : Text) (c : ℕ) (y : Text) → IsBehind x → IsInWord c → x ≡ c ∷ y → ⊥
behind_no_word [] c y h k e = cc
behind_no_word (b ∷ bs) c y h k e = k (let p : c ≡ 32 = cc in p)

-- a text has one way to be a word and then what stands behind it
pub words_apart : (w v x y : Text) → AllByRecursion IsInWord w → AllByRecursion IsInWord v → IsBehind x → IsBehind y → w ++ x ≡ v ++ y → (w ≡ v) × (x ≡ y)
words_apart [] [] x y hw hv hx hy e = (refl, e)
words_apart [] (c ∷ v) x y hw hv hx hy e = absurd (behind_no_word x c _ hx hv.0 e)
words_apart (c ∷ w) [] x y hw hv hx hy e = absurd (behind_no_word y c _ hy hw.0 (sym e))
words_apart (c ∷ w) (d ∷ v) x y hw hv hx hy e =
    let head : c ≡ d = cc in
    let rest : w ++ x ≡ v ++ y = cc in
    let r = words_apart w v x y hw.1 hv.1 hx hy rest in
    let same : w ≡ v = r.0 in
    (let p : (c ∷ w) ≡ d ∷ v = cc in p, r.1)

pub next_apart : (behind w after v other : Text) → IsNext behind w after → IsNext behind v other → (w ≡ v) × (after ≡ other)
next_apart behind w after v other ((m, e), hw, ha) ((n, f), hv, ho) =
    let parts = spaces_apart (suc m) (suc n) (w ++ after) (v ++ other) (tail_of_word w after hw) (tail_of_word v other hv) (sym e ∙ f) in
    words_apart w v after other hw.1 hv.1 ha ho parts.1

-- What stands behind words.

pub behind_spaces : (n : ℕ) → IsBehind (spaces n)
behind_spaces zero = tt
behind_spaces (suc n) = refl

behind_text : (n : ℕ) (text : Text) → (n ≡ 0 → text ≡ []) → IsBehind (spaces n ++ text)
behind_text zero [] h = tt
behind_text zero (b ∷ bs) h = absurd (let p : (b ∷ bs) ≡ [] = h refl in let q : ⊥ = cc in q)
behind_text (suc n) text h = refl

pub behind_follow : (ws : List Text) (tail : Option Text) (behind : Text) → Follow ws tail behind → IsBehind behind
behind_follow [] None behind (n, e) = rw e (behind_spaces n)
behind_follow [] (Some text) behind (n, e, h) = rw e (behind_text n text h)
behind_follow (w ∷ ws) tail behind (n, after, e, f) = rw e refl

pub next_follow : (w : Text) (ws : List Text) (tail : Option Text) (behind : Text) → IsWord w → Follow (w ∷ ws) tail behind → (after : Text) × IsNext behind w after × Follow ws tail after
next_follow w ws tail behind h (n, after, e, f) = (after, ((n, e), h, behind_follow ws tail after f), f)

-- where only spaces are left there is no word
pub no_next : (n : ℕ) (behind w after : Text) → IsNext behind w after → behind ≡ spaces n → ⊥
no_next n behind w after ((m, f), h, b) e =
    let parts = spaces_apart n (suc m) [] (w ++ after) tt (tail_of_word w after h) (sym (append_nil (spaces n)) ∙ (sym e ∙ f)) in
    word_there w after h parts.1 where
      word_there : (v rest : Text) → IsWord v → [] ≡ v ++ rest → ⊥
      word_there [] rest k q = omega (arith, k.0)
      word_there (b ∷ bs) rest k q = cc

pub no_word : (n : ℕ) (w : Text) (ws : List Text) (tail : Option Text) (behind : Text) → IsWord w → behind ≡ spaces n → Follow (w ∷ ws) tail behind → ⊥
no_word n w ws tail behind h e f =
    let a = next_follow w ws tail behind h f in
    no_next n behind w a.0 a.1 e

-- a line that ends with its words has one way to be words
pub same_words : (ws vs : List Text) (behind : Text) → AllByRecursion IsWord ws → AllByRecursion IsWord vs → Follow ws None behind → Follow vs None behind → ws ≡ vs
same_words [] [] behind hw hv f g = refl
same_words [] (v ∷ vs) behind hw hv (n, e) g = absurd (no_word n v vs None behind hv.0 e g)
same_words (w ∷ ws) [] behind hw hv f (n, e) = absurd (no_word n w ws None behind hw.0 e f)
same_words (w ∷ ws) (v ∷ vs) behind hw hv f g =
    let a = next_follow w ws None behind hw.0 f in
    let b = next_follow v vs None behind hv.0 g in
    let one = next_apart behind w a.0 v b.0 a.1 b.1 in
    let again : Follow vs None a.0 = rw one.1 b.2 in
    let head : w ≡ v = one.0 in
    let rest : ws ≡ vs = same_words ws vs a.0 hw.1 hv.1 a.2 again in
    cc

-- a line with a text at its end has one way to be so many words and a text
pub same_open : (ws vs : List Text) (t u behind : Text) → length ws ≡ length vs → AllByRecursion IsWord ws → AllByRecursion IsWord vs → IsTail t → IsTail u → Follow ws (Some t) behind → Follow vs (Some u) behind → (ws ≡ vs) × (t ≡ u)
same_open [] [] t u behind l hw hv ht hu (m, e, _) (n, f, _) = (refl, (spaces_apart m n t u ht hu (sym e ∙ f)).1)
same_open [] (v ∷ vs) t u behind l hw hv ht hu f g = absurd (let p : ⊥ = omega arith in p)
same_open (w ∷ ws) [] t u behind l hw hv ht hu f g = absurd (let p : ⊥ = omega arith in p)
same_open (w ∷ ws) (v ∷ vs) t u behind l hw hv ht hu f g =
    let a = next_follow w ws (Some t) behind hw.0 f in
    let b = next_follow v vs (Some u) behind hv.0 g in
    let one = next_apart behind w a.0 v b.0 a.1 b.1 in
    let again : Follow vs (Some u) a.0 = rw one.1 b.2 in
    let r = same_open ws vs t u a.0 (omega arith) hw.1 hv.1 ht hu a.2 again in
    let head : w ≡ v = one.0 in
    let rest : ws ≡ vs = r.0 in
    (let p : (w ∷ ws) ≡ v ∷ vs = cc in p, r.1)

-- Words that are not there.

-- before a text at the end of the line only spaces are left
pub no_open : (k : ℕ) (behind : Text) → (n : ℕ) × (behind ≡ spaces n) → (ws : List Text) (text : Text) → length ws ≡ suc k → IsOpen ws text behind → ⊥
no_open k behind (n, e) [] text l h = omega arith
no_open k behind (n, e) (w ∷ ws) text l h = no_word n w ws (Some text) behind h.0.0 e h.2

-- a word stands there, and behind it not so many words before the text
pub no_more_open : (k : ℕ) (behind first after : Text) → IsNext behind first after → ((ws : List Text) (text : Text) → length ws ≡ k → IsOpen ws text after → ⊥) → (ws : List Text) (text : Text) → length ws ≡ suc k → IsOpen ws text behind → ⊥
no_more_open k behind first after next h [] text l f = omega arith
no_more_open k behind first after next h (w ∷ ws) text l (words, tail, f) =
    let a = next_follow w ws (Some text) behind words.0 f in
    let same = next_apart behind w a.0 first after a.1 next in
    h ws text (omega arith) (words.1, tail, rw (← same.1) a.2)

-- a word stands there, and behind it no words up to so many
pub no_more_closed : (k : ℕ) (behind first after : Text) → IsNext behind first after → ((ws : List Text) → length ws ≤ k → IsClosed ws after → ⊥) → (ws : List Text) → length ws ≤ suc k → IsClosed ws behind → ⊥
no_more_closed k behind first after next h [] l (words, (n, e)) = no_next n behind first after next e
no_more_closed k behind first after next h (w ∷ ws) l (words, f) =
    let a = next_follow w ws None behind words.0 f in
    let same = next_apart behind w a.0 first after a.1 next in
    h ws (omega arith) (words.1, rw (← same.1) a.2)

-- something stands there, so that no words is not it
pub no_end_closed : (behind : Text) → (Follow [] None behind → ⊥) → (ws : List Text) → length ws ≤ 0 → IsClosed ws behind → ⊥
no_end_closed behind h [] l f = h f.1
no_end_closed behind h (w ∷ ws) l f = omega arith
