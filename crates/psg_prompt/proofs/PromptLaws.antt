-- What is told of keys, one after the other.
use Rattle.std.proofs.Common.{◌≡◌, ℕ, Bool, true, false, suc, ◌+◌, ◌-◌, ◌<◌, ◌≤◌, List, [], ◌∷◌, ◌++◌, length, take, get_or, refl, sym, ap, ◌∙◌, append-nil, append_assoc, arith, inl, inr}
use Rattle.std.proofs.lemmas.List.{take_more, take_all}
use Rattle.psg_keys.specs.Lines.{TypedLines}
use Rattle.psg_keys.specs.Reading.{Spelled}
use Rattle.psg_keys.specs.declared.key.Key.{Key}
use Rattle.psg_prompt.specs.declared.act.Act.{Act}
use Rattle.psg_prompt.specs.Acts.{act_of}
use Rattle.std.specs.Prelude.{Result, Ok, Err, OnErr, if◌then◌else◌}
use Rattle.psg_prompt.specs.Prompts.{Prompted, changed, told, lists, listed_words, words_listed, pressed, pressed_times, after_key, after_keys, told_key, told_keys, IsToldOrNot, IsToldOfFirst}

pub after_last : (p : Prompted) (front : List Spelled) (s : Spelled) → after_keys p (front ++ s ∷ []) ≡ after_key (after_keys p front) s.key
after_last p [] s = refl
after_last p (t ∷ front) s = after_last (after_key p t.key) front s

pub told_last : (p : Prompted) (front : List Spelled) (s : Spelled)
    → told_keys p (front ++ s ∷ []) ≡ told_keys p front ++ told_key (after_keys p front) s.key
told_last p [] s = append-nil (told_key p s.key)
told_last p (t ∷ front) s =
    ap (λ x. told_key p t.key ++ x) (told_last (after_key p t.key) front s)
    ∙ sym (append_assoc (told_key p t.key) (told_keys (after_key p t.key) front) (told_key (after_keys (after_key p t.key) front) s.key))

one_more : (xs : List Spelled) (i : ℕ) (s : Spelled) → i < length xs → s ≡ get_or xs i s → take (i + 1) xs ≡ take i xs ++ s ∷ []
one_more xs i s lt e = take_more xs i s lt ∙ ap (λ x. take i xs ++ x ∷ []) (sym e)

module _ (p now next : Prompted) (xs : List Spelled) (i : ℕ) (s : Spelled) (lt : i < length xs) (e : s ≡ get_or xs i s) (pressed : now ≡ after_keys p (take i xs)) where
  pub pressed_more : next ≡ after_key now s.key → next ≡ after_keys p (take (i + 1) xs)
  pressed_more h =
      h ∙ ap (λ x. after_key x s.key) pressed ∙ sym (after_last p (take i xs) s)
      ∙ ap (after_keys p) (sym (one_more xs i s lt e))

  pub told_more : (before mid after : List ℕ) → mid ≡ before ++ told_keys p (take i xs) → after ≡ mid ++ told_key now s.key
      → after ≡ before ++ told_keys p (take (i + 1) xs)
  told_more before mid after told h =
      h ∙ ap (λ x. x ++ told_key now s.key) told ∙ append_assoc before (told_keys p (take i xs)) (told_key now s.key)
      ∙ ap (λ q. before ++ (told_keys p (take i xs) ++ told_key q s.key)) pressed
      ∙ ap (λ x. before ++ x) (sym (told_last p (take i xs) s))
      ∙ ap (λ x. before ++ told_keys p x) (sym (one_more xs i s lt e))

  pub told_first : (before mid after : List ℕ) → mid ≡ before ++ told_keys p (take i xs)
      → IsToldOrNot (told_key now s.key) mid after → IsToldOfFirst p xs before after
  told_first before mid after told h =
      elim h [
        | inl none ↦ (i, omega (arith, lt), none ∙ told)
        | inr all ↦ (i + 1, omega (arith, lt), told_more before mid after told all)
      ]

pub pressed_end : (p now : Prompted) (xs : List Spelled) (i : ℕ) → length xs ≤ i → now ≡ after_keys p (take i xs) → now ≡ after_keys p xs
pressed_end p now xs i le h = h ∙ ap (after_keys p) (take_all i xs le)

pub told_end_of : (p : Prompted) (xs : List Spelled) (i : ℕ) → length xs ≤ i → (before after : List ℕ)
    → after ≡ before ++ told_keys p (take i xs) → after ≡ before ++ told_keys p xs
told_end_of p xs i le before after h = h ∙ ap (λ x. before ++ told_keys p x) (take_all i xs le)

-- all keys are told of, and nothing after them
pub told_whole : (p : Prompted) (xs : List Spelled) (before after : List ℕ) → after ≡ before ++ told_keys p xs
    → IsToldOfFirst p xs before after
told_whole p xs before after h =
    (length xs, omega arith, h ∙ ap (λ x. before ++ told_keys p x) (sym (take_all (length xs) xs (omega arith))))

-- one press more, of those that are left
pub times_next : (count turn : ℕ) → turn < count → (key : Key) (a b first : TypedLines) → b ≡ pressed a key
    → pressed_times (count - turn) key a ≡ pressed_times count key first
    → pressed_times (count - (turn + 1)) key b ≡ pressed_times count key first
times_next count turn lt key a b first h all =
    let e : count - turn ≡ suc (count - (turn + 1)) = omega (arith, lt) in
    ap (pressed_times (count - (turn + 1)) key) h ∙ sym (ap (λ n. pressed_times n key a) e) ∙ all

-- ---- one key

pub ended_after : (p : Prompted) (key : Key) → p.ended ≡ true → p ≡ after_key p key
ended_after p key h =
    sym (ap (λ (b : Bool). let next : Prompted = if b then p else changed p (act_of key) in next) h)

pub ended_told : (p : Prompted) (key : Key) (before : List ℕ) → p.ended ≡ true → before ≡ before ++ told_key p key
ended_told p key before h =
    sym (append-nil before)
    ∙ ap (λ (b : Bool). before ++ (if b then [] else told p (act_of key))) (sym h)

pub pressed_so : (p next : Prompted) (key : Key) (act : Act) → p.ended ≡ false → act ≡ act_of key → next ≡ changed p act
    → next ≡ after_key p key
pressed_so p next key act h is e =
    e ∙ ap (changed p) is
    ∙ sym (ap (λ (b : Bool). let grown : Prompted = if b then p else changed p (act_of key) in grown) h)

pub told_so : (p : Prompted) (key : Key) (act : Act) (before text after : List ℕ) → p.ended ≡ false → act ≡ act_of key
    → text ≡ told p act → after ≡ before ++ text → after ≡ before ++ told_key p key
told_so p key act before text after h is e f =
    f ∙ ap (λ x. before ++ x) (e ∙ ap (told p) is)
    ∙ ap (λ (b : Bool). before ++ (if b then [] else told p (act_of key))) (sym h)

-- ---- the words that a second Tab lists

pub listed_so : (p : Prompted) (now : Bool) (first after : List ℕ) → now ≡ lists p → now ≡ true
    → after ≡ first ++ words_listed p → after ≡ first ++ listed_words p
listed_so p now first after is so e =
    e ∙ ap (λ (y : Bool). first ++ (if y then words_listed p else [])) (sym so ∙ is)

pub not_listed : (p : Prompted) (now : Bool) (first : List ℕ) → now ≡ lists p → now ≡ false → first ≡ first ++ listed_words p
not_listed p now first is so =
    sym (append-nil first) ∙ ap (λ (y : Bool). first ++ (if y then words_listed p else [])) (sym so ∙ is)

-- what holds anyway holds where there is an error
pub on_err : {X E : Type 0} (r : Result X E) (P : Type 0) → P → OnErr r P
on_err (Ok x) P p = tt
on_err (Err e) P p = p
