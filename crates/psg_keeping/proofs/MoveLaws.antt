-- Laws of the places of comments.
use Rattle.std.proofs.Common.{◌≡◌, inl, inr, ℕ, zero, suc, ◌+◌, ◌<◌, ◌≤◌, Bool, List, [], ◌∷◌, ◌++◌, length, drop, get_or, refl, sym, ap, ◌∙◌, subst, append_assoc, append-nil, arith, length-append}
use Rattle.std.specs.Prelude.{map, max, replicate, reverse}
use Rattle.std.proofs.lemmas.Bool.{cases_lt}
use Rattle.std.proofs.lemmas.List.{drop_all, drop_more, get_or_append_left, get_or_push, reverse-append}
use Rattle.psg_commented.specs.Keeping.{words_of}
use Rattle.psg_commented.specs.declared.noting.Note.{Note}
use Rattle.psg_keeping.specs.declared.pairing.Step.{Step}
use Rattle.psg_keeping.specs.declared.pairing.Step.TheVariants as steps
use Rattle.psg_keeping.specs.Moving.{AreAfters, after_partner, goes, last_of, moved, news, olds, one_more, placed}
use Rattle.psg_keeping.specs.Rows.{new_in, old_in}

-- ---- how many tokens steps take

pub olds_snoc : (p : List Step) (s : Step) → olds (p ++ s ∷ []) ≡ olds p + old_in s
olds_snoc [] steps.Both = refl
olds_snoc [] steps.Old = refl
olds_snoc [] steps.New = refl
olds_snoc (steps.Both ∷ p) s = omega (arith, olds_snoc p s)
olds_snoc (steps.Old ∷ p) s = omega (arith, olds_snoc p s)
olds_snoc (steps.New ∷ p) s = olds_snoc p s

pub news_snoc : (p : List Step) (s : Step) → news (p ++ s ∷ []) ≡ news p + new_in s
news_snoc [] steps.Both = refl
news_snoc [] steps.Old = refl
news_snoc [] steps.New = refl
news_snoc (steps.Both ∷ p) s = omega (arith, news_snoc p s)
news_snoc (steps.Old ∷ p) s = news_snoc p s
news_snoc (steps.New ∷ p) s = omega (arith, news_snoc p s)

pub news_within : (p : List Step) → news p ≤ length p
news_within [] = omega arith
news_within (steps.Both ∷ p) = omega (arith, news_within p)
news_within (steps.Old ∷ p) = omega (arith, news_within p)
news_within (steps.New ∷ p) = omega (arith, news_within p)

pub olds_reverse : (p : List Step) → olds (reverse p) ≡ olds p
olds_reverse [] = refl
olds_reverse (s ∷ p) =
    ap olds (reverse-append (s ∷ []) p) ∙ olds_snoc (reverse p) s ∙ ap (λ n. n + old_in s) (olds_reverse p) ∙ here s
  where
    here : (s : Step) → olds p + old_in s ≡ olds (s ∷ p)
    here steps.Both = omega arith
    here steps.Old = omega arith
    here steps.New = omega arith

-- ---- up to the last partner

after_front : (count : ℕ) (p q : List Step) → count ≤ olds p → after_partner count (p ++ q) ≡ after_partner count p
after_front zero p q l = refl
after_front (suc count) [] q l = absurd (omega (arith, l))
after_front (suc count) (steps.Both ∷ p) q l = ap (λ n. 1 + n) (after_front count p q (omega (arith, l)))
after_front (suc count) (steps.Old ∷ p) q l = after_front count p q (omega (arith, l))
after_front (suc count) (steps.New ∷ p) q l = ap one_more (after_front (suc count) p q l)

more_than_none : (n : ℕ) → one_more (suc n) ≡ suc (suc n)
more_than_none n = refl

after_both : (p : List Step) → after_partner (suc (olds p)) (p ++ steps.Both ∷ []) ≡ suc (news p)
after_both [] = refl
after_both (steps.Both ∷ p) = omega (arith, after_both p)
after_both (steps.Old ∷ p) = after_both p
after_both (steps.New ∷ p) = ap one_more (after_both p) ∙ more_than_none (news p)

new_more : (n : ℕ) (p : List Step) → one_more (after_partner n p) ≡ after_partner n (steps.New ∷ p)
new_more zero p = refl
new_more (suc n) p = refl

after_old : (p : List Step) → after_partner (suc (olds p)) (p ++ steps.Old ∷ []) ≡ after_partner (olds p) p
after_old [] = refl
after_old (steps.Both ∷ p) = ap (λ n. 1 + n) (after_old p)
after_old (steps.Old ∷ p) = after_old p
after_old (steps.New ∷ p) = ap one_more (after_old p) ∙ new_more (olds p) p

pub after_beyond : (count : ℕ) (p : List Step) → olds p ≤ count → after_partner count p ≡ after_partner (olds p) p
after_beyond zero p l = let none : 0 ≡ olds p = omega (arith, l) in ap (λ n. after_partner n p) none
after_beyond (suc count) [] l = refl
after_beyond (suc count) (steps.Both ∷ p) l = ap (λ n. 1 + n) (after_beyond count p (omega (arith, l)))
after_beyond (suc count) (steps.Old ∷ p) l = after_beyond count p (omega (arith, l))
after_beyond (suc count) (steps.New ∷ p) l = ap one_more (after_beyond (suc count) p l) ∙ new_more (olds p) p

-- ---- the walk along the steps

pub record IsAfter (p : List Step) (places : List ℕ) (seen last : ℕ) : Type 0 where
  pub are : AreAfters p places
  pub seen_is : seen ≡ news p
  pub last_is : last ≡ after_partner (olds p) p

pub after_none : IsAfter [] (0 ∷ []) 0 0
after_none = record {
  are = record {
    size = refl;
    each = λ count l. let none : 0 ≡ count = omega (arith, l) in
        subst (λ n. get_or (0 ∷ []) n 0 ≡ after_partner n []) none refl;
  };
  seen_is = refl;
  last_is = refl;
}

-- a token more of the old list
one_old : (p : List Step) (places : List ℕ) (s : Step) (v : ℕ) → AreAfters p places → olds (p ++ s ∷ []) ≡ olds p + 1
    → v ≡ after_partner (suc (olds p)) (p ++ s ∷ []) → AreAfters (p ++ s ∷ []) (places ++ v ∷ [])
one_old p places s v a one e = record {
  size = omega (arith, one, a.size, length-append places (v ∷ []));
  each = λ count l. elim (cases_lt count (olds p + 1)) [
    | inl small ↦ get_or_append_left places (v ∷ []) 0 count (omega (arith, small, a.size))
        ∙ a.each count (omega (arith, small)) ∙ sym (after_front count p (s ∷ []) (omega (arith, small)))
    | inr large ↦
        let same : suc (olds p) ≡ count = omega (arith, l, large, one) in
        let size : length places ≡ suc (olds p) = omega (arith, a.size) in
        subst (λ n. get_or (places ++ v ∷ []) n 0 ≡ after_partner n (p ++ s ∷ [])) same
        (get_or_push places v 0 (suc (olds p)) size ∙ e)
  ];
}

pub after_step : (p : List Step) (places places' : List ℕ) (s : Step) (seen seen' last last' : ℕ) → IsAfter p places seen last
    → seen' ≡ seen + new_in s → last' ≡ last_of s seen' last → places' ≡ places ++ replicate (old_in s) last'
    → IsAfter (p ++ s ∷ []) places' seen' last'
after_step p places places' steps.Both seen seen' last last' a es el ep =
    let one : olds (p ++ steps.Both ∷ []) ≡ olds p + 1 = olds_snoc p steps.Both in
    let up : suc (olds p) ≡ olds (p ++ steps.Both ∷ []) = omega (arith, one) in
    let here : last' ≡ after_partner (suc (olds p)) (p ++ steps.Both ∷ []) =
    omega (arith, el, es, a.seen_is, after_both p) in record {
      are = subst (λ l. AreAfters (p ++ steps.Both ∷ []) l) (sym ep) (one_old p places steps.Both last' a.are one here);
      seen_is = omega (arith, es, a.seen_is, news_snoc p steps.Both);
      last_is = subst (λ n. last' ≡ after_partner n (p ++ steps.Both ∷ [])) up here;
    }
after_step p places places' steps.Old seen seen' last last' a es el ep =
    let one : olds (p ++ steps.Old ∷ []) ≡ olds p + 1 = olds_snoc p steps.Old in
    let up : suc (olds p) ≡ olds (p ++ steps.Old ∷ []) = omega (arith, one) in
    let here : last' ≡ after_partner (suc (olds p)) (p ++ steps.Old ∷ []) = el ∙ a.last_is ∙ sym (after_old p) in record {
      are = subst (λ l. AreAfters (p ++ steps.Old ∷ []) l) (sym ep) (one_old p places steps.Old last' a.are one here);
      seen_is = omega (arith, es, a.seen_is, news_snoc p steps.Old);
      last_is = subst (λ n. last' ≡ after_partner n (p ++ steps.Old ∷ [])) up here;
    }
after_step p places places' steps.New seen seen' last last' a es el ep =
    let none : olds (p ++ steps.New ∷ []) ≡ olds p + 0 = olds_snoc p steps.New in
    let same : olds p ≡ olds (p ++ steps.New ∷ []) = omega (arith, none) in
    let here : last' ≡ after_partner (olds p) (p ++ steps.New ∷ []) =
    el ∙ a.last_is ∙ sym (after_front (olds p) p (steps.New ∷ []) (omega arith)) in record {
      are = record {
        size = ap length (ep ∙ append-nil places) ∙ a.are.size ∙ ap (λ n. n + 1) same;
        each = λ count l. ap (λ l. get_or l count 0) (ep ∙ append-nil places) ∙ a.are.each count (omega (arith, l, same))
            ∙ sym (after_front count p (steps.New ∷ []) (omega (arith, l, same)));
      };
      seen_is = omega (arith, es, a.seen_is, news_snoc p steps.New);
      last_is = subst (λ n. last' ≡ after_partner n (p ++ steps.New ∷ [])) same here;
    }

-- ---- the comments keep their words

pub moved_words : (low : ℕ) (own : List Step) (lines : List Bool) (notes : List Note)
    → map words_of (moved low own lines notes) ≡ map words_of notes
moved_words low own lines [] = refl
moved_words low own lines (n ∷ notes) = ap (λ l. n.text ∷ l) (moved_words (max low (goes own lines n)) own lines notes)

pub new_small : (s : Step) → new_in s ≤ 1
new_small steps.Both = omega arith
new_small steps.Old = omega arith
new_small steps.New = omega arith

-- one comment more is placed
pub moved_next : (own : List Step) (lines : List Bool) (notes : List Note) (i : ℕ) (n : Note) (done done' : List Note)
    (low place low' : ℕ) → done ++ moved low own lines (drop i notes) ≡ moved 0 own lines notes → i < length notes
    → n ≡ get_or notes i n → place ≡ goes own lines n → low' ≡ max low place → done' ≡ done ++ placed low' n ∷ []
    → done' ++ moved low' own lines (drop (i + 1) notes) ≡ moved 0 own lines notes
moved_next own lines notes i n done done' low place low' inv l at ep el ed =
    let rest = drop (i + 1) notes in
    let next : low' ≡ max low (goes own lines n) = el ∙ ap (λ k. max low k) ep in
    let here : drop i notes ≡ n ∷ rest = drop_more notes i n l ∙ ap (λ z. z ∷ rest) (sym at) in
    ap (λ l. l ++ moved low' own lines rest) ed ∙ append_assoc done (placed low' n ∷ []) (moved low' own lines rest)
    ∙ ap (λ k. done ++ (placed k n ∷ moved k own lines rest)) next
    ∙ ap (λ l. done ++ moved low own lines l) (sym here) ∙ inv

pub words_end : (own : List Step) (lines : List Bool) (notes : List Note) (i : ℕ) (done : List Note) (low : ℕ)
    → done ++ moved low own lines (drop i notes) ≡ moved 0 own lines notes → length notes ≤ i
    → map words_of done ≡ map words_of notes
words_end own lines notes i done low inv l =
    ap (λ l. map words_of l) (sym (append-nil done) ∙ ap (λ l. done ++ moved low own lines l) (sym (drop_all i notes l)) ∙ inv)
    ∙ moved_words 0 own lines notes
