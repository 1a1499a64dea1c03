-- The words of a line.
use Rattle.std.proofs.Common.{◌≡◌, ◌≢◌, ℕ, zero, suc, ◌<◌, ◌≤◌, ◌^◌, ◌&&◌, Bool, true, false, List, [], ◌∷◌, ◌++◌, length, replicate, Option, Some, None, refl, sym, ap, ap₂, subst, ◌∙◌, append-nil, arith, codes, decimal}
use Rattle.std.specs.Prelude.{nat_le, bytes_eq, MatchOption}
use Rattle.std.specs.List.{AllByRecursion, list_all}
use Rattle.std.proofs.lemmas.Bool.{true≢false, false≢true, and_parts}
use Rattle.psg_terms.specs.Names.{Name}
use Rattle.psg_grammar.specs.Sound.{goes_on_name, is_lower, is_name_from, IsOwnName}
use Rattle.psg_script.specs.Forms.{IsInWord, IsTail, IsWord, spaces}
use Rattle.psg_script.specs.Reading.{IsNumeral}
use Rattle.psg_script.specs.Words.{IsBehind}
use Rattle.psg_script.proofs.WordLemmas.{spaces_apart, words_apart, tail_of_word}
use Rattle.psg_script.proofs.NumberLemmas.{decimal_word}
use Rattle.psg_layout.specs.Layouts.{Rule, group, break, SpellsRule}
use Rattle.psg_layout.specs.Rules.{said, GroupAfter, HasNoGroup, IsGroupBehind, BreakAfter, HasNoBreak, IsBreakBehind}
use Rattle.psg_layout.specs.declared.rule.Rule.{Rule as Line}
use Rattle.psg_layout.specs.declared.rule.Rule.TheVariants.{Group, Break}

-- ---- names and numbers have no spaces

both_true : (a b c : Bool) → (a && b && c) ≡ true → (a ≡ true) × (b ≡ true)
both_true true true c e = (refl, refl)
both_true true false c e = absurd (false≢true e)
both_true false b c e = absurd (false≢true e)

lower_in : (c : ℕ) → is_lower c ≡ true → c ≢ 32
lower_in c h e = false≢true (sym (ap is_lower e) ∙ h)

goes_in : (cs : List ℕ) → list_all goes_on_name cs ≡ true → AllByRecursion IsInWord cs
goes_in [] h = tt
goes_in (c ∷ cs) h =
    let p = and_parts (goes_on_name c) (list_all goes_on_name cs) h in
    (λ e. false≢true (sym (ap goes_on_name e) ∙ p.0), goes_in cs p.1)

pub own_bytes : (o : Name) → IsOwnName o → AllByRecursion IsInWord o
own_bytes [] h = tt
own_bytes (c ∷ cs) h = let p = both_true (is_lower c) (list_all goes_on_name cs) (nat_le (length cs) 63) h in (lower_in c p.0, goes_in cs p.1)

pub own_starts : (o x : List ℕ) → IsOwnName o → IsTail (o ++ x)
own_starts [] x h = absurd (false≢true h)
own_starts (c ∷ cs) x h = lower_in c (both_true (is_lower c) (list_all goes_on_name cs) (nat_le (length cs) 63) h).0

pub own_tail : (o : List ℕ) → IsOwnName o → IsTail o
own_tail o h = subst IsTail (append-nil o) (own_starts o [] h)

pub decimal_tail : (k : ℕ) → k < 2 ^ 32 → IsTail (decimal k)
decimal_tail k h = subst IsTail (append-nil (decimal k)) (tail_of_word (decimal k) [] (decimal_word k h))

pub blank_behind : (n : ℕ) (x : List ℕ) → 1 ≤ n → IsBehind (replicate n 32 ++ x)
blank_behind zero x h = absurd (omega (arith, h))
blank_behind (suc n) x h = refl

-- what is no space and what is behind a word begin otherwise
some_blank : (n : ℕ) (behind x : List ℕ) → IsBehind behind → behind ≡ spaces n ++ x → IsTail x → (x ≡ [] → ⊥) → 1 ≤ n
some_blank (suc n) behind x b e t f = omega arith
some_blank zero behind [] b e t f = absurd (f refl)
some_blank zero behind (c ∷ x) b e t f = absurd (t (subst IsBehind e b))

own_some : (o x : List ℕ) → IsOwnName o → o ++ x ≡ [] → ⊥
own_some [] x h e = false≢true h
own_some (c ∷ o) x h e = cc

word_some : (w : List ℕ) → IsWord w → w ≡ [] → ⊥
word_some [] h e = let l = h.0 in omega (arith, l)
word_some (c ∷ w) h e = cc

-- ---- a group

pub group_none : (behind name : List ℕ) (n : ℕ) → behind ≡ spaces n ++ name → IsTail name → is_name_from is_lower name ≡ false → HasNoGroup behind
group_none behind name n e t f o h =
    let w = h.1 in
    let same : name ≡ o = (spaces_apart n w.0 name o t (own_tail o h.0) (sym e ∙ w.1.1)).1 in
    true≢false (sym h.0 ∙ ap (is_name_from is_lower) (sym same) ∙ f)

pub group_some : (behind name : List ℕ) (n : ℕ) → IsBehind behind → behind ≡ spaces n ++ name → IsOwnName name → GroupAfter name behind
group_some behind name n b e h =
    (h, (n, (some_blank n behind name b e (own_tail name h) (λ z. own_some name [] h (append-nil name ∙ z)), e)))

-- ---- a break

module _ (behind text name rest : List ℕ) (n : ℕ) (e : behind ≡ spaces n ++ text) (t : IsTail text) (p : text ≡ name ++ rest) (w : AllByRecursion IsInWord name) (b : IsBehind rest) where
  -- the words of another reading are these
  pub same_break : (o : Name) (k : ℕ) (h : BreakAfter o k behind) → (name ≡ o) × ((j : ℕ) × ((1 ≤ j) × (rest ≡ spaces j ++ decimal k)))
  same_break o k h =
      let words : List ℕ = h.1.1.0 in
      let first = h.1.1.1.0 in
      let second = h.1.1.1.1 in
      let starts : IsTail words = subst IsTail (sym second.1.1) (own_starts o (replicate second.0 32 ++ decimal k) h.0) in
      let all : text ≡ words = (spaces_apart n first.0 text words t starts (sym e ∙ first.1.1)).1 in
      let parts = words_apart name o rest (replicate second.0 32 ++ decimal k) w (own_bytes o h.0) b (blank_behind second.0 (decimal k) second.1.0) (sym p ∙ all ∙ second.1.1) in
      (parts.0, (second.0, (second.1.0, parts.1)))

  pub break_no_name : is_name_from is_lower name ≡ false → HasNoBreak behind
  break_no_name f o k h = true≢false (sym h.0 ∙ ap (is_name_from is_lower) (sym (same_break o k h).0) ∙ f)

  module _ (word : List ℕ) (i : ℕ) (g : rest ≡ spaces i ++ word) (u : IsTail word) where
    pub break_no_number : ((x : ℕ) → IsNumeral x word → ⊥) → HasNoBreak behind
    break_no_number f o k h =
        let s = (same_break o k h).1 in
        f k (h.1.0, (spaces_apart i s.0 word (decimal k) u (decimal_tail k h.1.0) (sym g ∙ s.1.1)).1)

    pub break_some : (k : ℕ) → IsBehind behind → IsOwnName name → IsNumeral k word → BreakAfter name k behind
    break_some k bb h q =
        let last : rest ≡ spaces i ++ decimal k = g ∙ ap (λ z. spaces i ++ z) q.1 in (
          h,
          (
            q.0,
            (
              text,
              (
                (n, (some_blank n behind text bb e t (λ z. own_some name rest h (sym p ∙ z)), e)),
                (i, (some_blank i rest (decimal k) b last (decimal_tail k q.0) (word_some (decimal k) (decimal_word k q.0)), p ∙ ap (λ z. name ++ z) last)),
              ),
            ),
          ),
        )

-- ---- lines

pub group_word : AllByRecursion IsInWord (codes "group")
group_word = goes_in (codes "group") refl

pub break_word : AllByRecursion IsInWord (codes "break")
break_word = goes_in (codes "break") refl

pub other_words : codes "group" ≡ codes "break" → ⊥
other_words e = true≢false (ap (λ w. bytes_eq w (codes "group")) e)

module _ (line keyword behind : List ℕ) (p : line ≡ keyword ++ behind) (w : AllByRecursion IsInWord keyword) (b : IsBehind behind) where
  -- a line of a group begins with its word, and one of a break with its own
  pub group_read : (o : Name) → SpellsRule line (group o) → (keyword ≡ codes "group") × GroupAfter o behind
  group_read o h =
      let x = h.written in
      let parts = words_apart keyword (codes "group") behind (replicate x.0 32 ++ o) w group_word b (blank_behind x.0 o x.1.0) (sym p ∙ x.1.1) in
      (parts.0, (h.name, (x.0, (x.1.0, parts.1))))

  pub break_read : (o : Name) (k : ℕ) → SpellsRule line (break o k) → (keyword ≡ codes "break") × BreakAfter o k behind
  break_read o k h =
      let x = h.written.1.0 in
      let parts = words_apart keyword (codes "break") behind (replicate x.0 32 ++ h.written.0) w break_word b (blank_behind x.0 h.written.0 x.1.0) (sym p ∙ x.1.1) in
      (parts.0, (h.name, (h.number, (h.written.0, ((x.0, (x.1.0, parts.1)), h.written.1.1)))))

  group_written : (o : Name) → keyword ≡ codes "group" → GroupAfter o behind → SpellsRule line (group o)
  group_written o e h = record { name = h.0; number = tt; written = (h.1.0, (h.1.1.0, p ∙ ap₂ (λ x y. x ++ y) e h.1.1.1)) }

  break_written : (o : Name) (k : ℕ) → keyword ≡ codes "break" → BreakAfter o k behind → SpellsRule line (break o k)
  break_written o k e h =
      let x = h.1.1.1.0 in
      record { name = h.0; number = h.1.0; written = (h.1.1.0, ((x.0, (x.1.0, p ∙ ap₂ (λ y z. y ++ z) e x.1.1)), h.1.1.1.1)) }

  abbrev IsRead : Option Line → Type 0
  IsRead r = MatchOption r ((rule : Rule) → SpellsRule line rule → ⊥) (λ found. SpellsRule line (said found))

  pub group_line : (r : Option Line) → keyword ≡ codes "group" → MatchOption r (HasNoGroup behind) (IsGroupBehind behind) → IsRead r
  group_line None e h = no_rule
    where
      no_rule : (rule : Rule) → SpellsRule line rule → ⊥
      no_rule (group o) s = h o (group_read o s).1
      no_rule (break o k) s = other_words (sym e ∙ (break_read o k s).0)
  group_line (Some (Group o)) e h = group_written o.now e h
  group_line (Some (Break o k)) e h = absurd h

  pub break_line : (r : Option Line) → keyword ≡ codes "break" → MatchOption r (HasNoBreak behind) (IsBreakBehind behind) → IsRead r
  break_line None e h = no_rule
    where
      no_rule : (rule : Rule) → SpellsRule line rule → ⊥
      no_rule (group o) s = other_words (sym (group_read o s).0 ∙ e)
      no_rule (break o k) s = h o k (break_read o k s).1
  break_line (Some (Group o)) e h = absurd h
  break_line (Some (Break o k)) e h = break_written o.now k e h

  pub no_line : (keyword ≡ codes "group" → ⊥) → (keyword ≡ codes "break" → ⊥) → (rule : Rule) → SpellsRule line rule → ⊥
  no_line f g (group o) s = f (group_read o s).0
  no_line f g (break o k) s = g (break_read o k s).0
