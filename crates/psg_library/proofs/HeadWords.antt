-- What the words of a line say of its head: a line is the head of one name and one word.
use Rattle.std.proofs.Common.{◌≡◌, ◌≢◌, ◌⊎◌, inl, inr, ℕ, Bool, true, false, List, [], ◌∷◌, ◌++◌, drop, refl, sym, ap, ◌∙◌, subst, ◌↔◌, IsTrue, append_assoc}
use Rattle.std.specs.Prelude.{codes}
use Rattle.std.specs.List.{AllByRecursion}
use Rattle.std.specs.Char.{is_ascii_alphabetic}
use Rattle.std.proofs.lemmas.Bool.{false≢true}
use Rattle.std.proofs.lemmas.List.{append_cancel_left}
use Rattle.psg_script.specs.Forms.{IsInWord, IsWord, IsName}
use Rattle.psg_script.proofs.PartLemmas.{name_word}
use Rattle.psg_script.proofs.WordLemmas.{words_apart}
use Rattle.psg_library.specs.Heads.{head_of, older_head_of, IsHead, is_in_word}

-- ---- bytes of words

in_word_by : (b : ℕ) → IsTrue (is_in_word b) → IsInWord b
in_word_by b h e = false≢true (sym (ap is_in_word e) ∙ h)

pub all_in_word : (w : List ℕ) → AllByRecursion (λ b. IsTrue (is_in_word b)) w → AllByRecursion IsInWord w
all_in_word [] h = tt
all_in_word (b ∷ bs) h = (in_word_by b h.0, all_in_word bs h.1)

fragment_word : AllByRecursion IsInWord (codes "fragment")
fragment_word = all_in_word (codes "fragment") (refl, (refl, (refl, (refl, (refl, (refl, (refl, (refl, tt))))))))

two_word : AllByRecursion IsInWord (codes "2")
two_word = all_in_word (codes "2") (refl, tt)

-- what is in front of the first space, and what is behind it
pub cut_once : (w v x y : List ℕ) → AllByRecursion IsInWord w → AllByRecursion IsInWord v → w ++ 32 ∷ x ≡ v ++ 32 ∷ y
    → (w ≡ v) × (x ≡ y)
cut_once w v x y a b e =
    let r = words_apart w v (32 ∷ x) (32 ∷ y) a b refl refl e in
    (r.0, ap (drop 1) r.1)

-- the number 2 is no name
two_no_name : (n x rest : List ℕ) → IsName n → codes "2 " ++ rest ≡ n ++ 32 ∷ x → ⊥
two_no_name [] x rest h e = h
two_no_name (b ∷ bs) x rest h e =
    let whole : 50 ∷ (32 ∷ rest) ≡ b ∷ (bs ++ 32 ∷ x) = e in
    let first : b ≡ 50 = cc in
    let letter : false ≡ true = subst (λ c. is_ascii_alphabetic c ≡ true) first h.0 in
    false≢true letter

-- ---- heads

-- a line has one name and one word
pub one_head : (line n w m v : List ℕ) → IsHead line n w → IsHead line m v → (n ≡ m) × (w ≡ v)
one_head line n w m v a b = by a.written b.written
  where
    by : (line ≡ head_of n w) ⊎ (line ≡ older_head_of n w) → (line ≡ head_of m v) ⊎ (line ≡ older_head_of m v)
        → (n ≡ m) × (w ≡ v)
    by (inl e) (inl f) =
        cut_once n m w v (name_word n a.named).1 (name_word m b.named).1
        (append_cancel_left (codes "fragment 2 ") (n ++ 32 ∷ w) (m ++ 32 ∷ v) (sym e ∙ f))
    by (inl e) (inr f) =
        absurd (two_no_name m v (n ++ 32 ∷ w) b.named
        (append_cancel_left (codes "fragment ") (codes "2 " ++ (n ++ 32 ∷ w)) (m ++ 32 ∷ v) (sym e ∙ f)))
    by (inr e) (inl f) =
        absurd (two_no_name n w (m ++ 32 ∷ v) a.named
        (append_cancel_left (codes "fragment ") (codes "2 " ++ (m ++ 32 ∷ v)) (n ++ 32 ∷ w) (sym f ∙ e)))
    by (inr e) (inr f) =
        cut_once n m w v (name_word n a.named).1 (name_word m b.named).1
        (append_cancel_left (codes "fragment ") (n ++ 32 ∷ w) (m ++ 32 ∷ v) (sym e ∙ f))

-- what is left behind a first word `2`
abbrev pub IsVersion : List ℕ → List ℕ → Type 0
IsVersion text rest = (text ≡ codes "2 " ++ rest) ⊎ ((text ≡ rest) × ((r : List ℕ) → text ≢ codes "2 " ++ r))

pub version_none : (text : List ℕ) → ((w r : List ℕ) → text ≢ w ++ 32 ∷ r) → IsVersion text text
version_none text none = inr (refl, λ r e. none (codes "2") r e)

pub version_two : (text w rest : List ℕ) → text ≡ w ++ 32 ∷ rest → w ≡ codes "2" → IsVersion text rest
version_two text w rest e f = inl (e ∙ ap (λ x. x ++ 32 ∷ rest) f)

pub version_other : (text w rest : List ℕ) → text ≡ w ++ 32 ∷ rest → AllByRecursion IsInWord w → w ≢ codes "2"
    → IsVersion text text
version_other text w rest e a n =
    inr (refl, λ r f. n (cut_once w (codes "2") rest r a two_word (sym e ∙ f)).0)

module _ (line first behind rest : List ℕ) (cut : line ≡ first ++ 32 ∷ behind) (v : IsVersion behind rest) where
  -- the words that were found are those of a head
  pub is_head : (n w : List ℕ) → first ≡ codes "fragment" → rest ≡ n ++ 32 ∷ w → IsName n → IsWord w → IsHead line n w
  is_head n w f g named more = record { named = named; more = more; written = by v }
    where
      start : line ≡ codes "fragment " ++ behind
      start = cut ∙ ap (λ x. x ++ 32 ∷ behind) f

      by : IsVersion behind rest → (line ≡ head_of n w) ⊎ (line ≡ older_head_of n w)
      by (inl k) = inl (start ∙ ap (λ x. codes "fragment " ++ x) (k ∙ ap (λ x. codes "2 " ++ x) g))
      by (inr k) = inr (start ∙ ap (λ x. codes "fragment " ++ x) (k.0 ∙ g))

  -- the words of a head are those that are found
  pub of_head : (n w : List ℕ) → AllByRecursion IsInWord first → IsHead line n w
      → (first ≡ codes "fragment") × (rest ≡ n ++ 32 ∷ w)
  of_head n w a h = by h.written v
    where
      by : (line ≡ head_of n w) ⊎ (line ≡ older_head_of n w) → IsVersion behind rest
          → (first ≡ codes "fragment") × (rest ≡ n ++ 32 ∷ w)
      by (inl k) (inl j) =
          let r = cut_once first (codes "fragment") behind (codes "2 " ++ (n ++ 32 ∷ w)) a fragment_word (sym cut ∙ k) in
          (r.0, append_cancel_left (codes "2 ") rest (n ++ 32 ∷ w) (sym j ∙ r.1))
      by (inl k) (inr j) =
          let r = cut_once first (codes "fragment") behind (codes "2 " ++ (n ++ 32 ∷ w)) a fragment_word (sym cut ∙ k) in
          absurd (j.1 (n ++ 32 ∷ w) r.1)
      by (inr k) (inl j) =
          let r = cut_once first (codes "fragment") behind (n ++ 32 ∷ w) a fragment_word (sym cut ∙ k) in
          absurd (two_no_name n w rest h.named (sym j ∙ r.1))
      by (inr k) (inr j) =
          let r = cut_once first (codes "fragment") behind (n ++ 32 ∷ w) a fragment_word (sym cut ∙ k) in
          (r.0, sym j.0 ∙ r.1)

  -- other words are those of no head
  pub wrong_words : (n w : List ℕ) → AllByRecursion IsInWord first → AllByRecursion IsInWord n → rest ≡ n ++ 32 ∷ w
      → (IsName n → IsWord w → ⊥) → (m u : List ℕ) → IsHead line m u → ⊥
  wrong_words n w a b g wrong m u h =
      let found = of_head m u a h in
      let same = cut_once n m w u b (name_word m h.named).1 (sym g ∙ found.1) in
      wrong (subst IsName (sym same.0) h.named) (subst IsWord (sym same.1) h.more)

  pub no_words : AllByRecursion IsInWord first → ((w r : List ℕ) → rest ≢ w ++ 32 ∷ r) → (m u : List ℕ)
      → IsHead line m u → ⊥
  no_words a none m u h = none m u (of_head m u a h).1

-- a line without a space is no head
pub no_first : (line : List ℕ) → ((w r : List ℕ) → line ≢ w ++ 32 ∷ r) → (n w : List ℕ) → IsHead line n w → ⊥
no_first line none n w h = by h.written
  where
    by : (line ≡ head_of n w) ⊎ (line ≡ older_head_of n w) → ⊥
    by (inl e) = none (codes "fragment") (codes "2 " ++ (n ++ 32 ∷ w)) e
    by (inr e) = none (codes "fragment") (n ++ 32 ∷ w) e

-- a line with another first word is no head
pub other_first : (line first behind : List ℕ) → line ≡ first ++ 32 ∷ behind → AllByRecursion IsInWord first
    → first ≢ codes "fragment" → (n w : List ℕ) → IsHead line n w → ⊥
other_first line first behind cut a other n w h = by h.written
  where
    by : (line ≡ head_of n w) ⊎ (line ≡ older_head_of n w) → ⊥
    by (inl e) =
        other (cut_once first (codes "fragment") behind (codes "2 " ++ (n ++ 32 ∷ w)) a fragment_word (sym cut ∙ e)).0
    by (inr e) = other (cut_once first (codes "fragment") behind (n ++ 32 ∷ w) a fragment_word (sym cut ∙ e)).0

-- ---- what is written

-- the head line in front of other bytes
pub head_before : (n w t : List ℕ) → codes "fragment 2 " ++ (n ++ 32 ∷ (w ++ t)) ≡ head_of n w ++ t
head_before n w t = ap (λ x. codes "fragment 2 " ++ x) (sym (append_assoc n (32 ∷ w) t))
