-- A definition has one refusal by the grammar class.
use Rattle.std.proofs.Common.{◌≡◌, inl, inr, ℕ, zero, suc, ◌<◌, List, ap, sym, ◌∙◌, subst, arith}
use Rattle.std.specs.Prelude.{string_bytes}
use Rattle.std.proofs.lemmas.Bool.{cases_order, cases_eq}
use Rattle.psg_grammar.specs.declared.types.Definition.{Definition}
use Rattle.psg_class.specs.declared.fault.ClassFault.{ClassFault}
use Rattle.psg_class.specs.declared.fault.ClassFault.TheVariants as classes
use Rattle.psg_class.specs.Terminals.{Terminal}
use Rattle.psg_class.specs.Class.{NoFirst, BadForm, NoBracket, MixedLevel, SameFirst, SameLed, LedFollows, ListEnd, Never, NeverAny, Holds1, Holds2, Holds3, Holds4, Holds5, Holds6, Holds7}
use Rattle.psg_class.specs.Refusal.{IsFirst, IsFirstTerminal, IsFirstToken, FailsSome, MixesSome, IsRefusal, terminal_text}
use Rattle.psg_specimen.specs.OneRefusal.{IsSameClass}
use Rattle.psg_specimen.proofs.OneTerminal.{IsKnown, of_same_first, of_same_led, of_led_follows, of_list_end, one_terminal}

first_one : (Fails : ℕ → Type 0) (n m : ℕ) → IsFirst Fails n → IsFirst Fails m → n ≡ m
first_one Fails n m f g = elim (cases_order n m) [ inl e ↦ e | inr o ↦ elim o [ inl lt ↦ absurd (g.1 n lt f.0) | inr lt ↦ absurd (f.1 m lt g.0) ] ]

-- the number of the condition that fails
abbrev place : ClassFault → ℕ
place (classes.NoFirst n) = 0
place (classes.Form n) = 1
place (classes.NoBracket p) = 2
place (classes.MixedLevel p level) = 3
place (classes.SameFirst p text) = 4
place (classes.SameLed p text) = 5
place (classes.LedFollows n text) = 6
place (classes.ListEnd l text) = 7
place classes.Memory = 8

module _ (def : Definition) where
  abbrev Condition : ℕ → Type 0
  Condition zero = Never (NoFirst def)
  Condition (suc zero) = Never (BadForm def)
  Condition (suc (suc zero)) = Never (NoBracket def)
  Condition (suc (suc (suc zero))) = (p : ℕ) → Never (MixedLevel def p)
  Condition (suc (suc (suc (suc zero)))) = NeverAny (SameFirst def)
  Condition (suc (suc (suc (suc (suc zero))))) = NeverAny (SameLed def)
  Condition (suc (suc (suc (suc (suc (suc zero)))))) = NeverAny (LedFollows def)
  Condition (suc (suc (suc (suc (suc (suc (suc n))))))) = NeverAny (ListEnd def)

  -- the first so many conditions hold
  abbrev Before : ℕ → Type 0
  Before zero = Unit {0}
  Before (suc n) = Before n × Condition n

  earlier : (n m : ℕ) → Before n → m < n → Condition m
  earlier zero m h lt = absurd (omega (arith, lt))
  earlier (suc n) m h lt = elim (cases_eq m n) [ inl e ↦ subst Condition (sym e) h.1 | inr ne ↦ earlier n m h.0 (omega (arith, lt, ne)) ]

  before1 : Holds1 def → Before 1
  before1 h = (tt, h)

  before2 : Holds2 def → Before 2
  before2 h = (before1 h.0, h.1)

  before3 : Holds3 def → Before 3
  before3 h = (before2 h.0, h.1)

  before4 : Holds4 def → Before 4
  before4 h = (before3 h.0, h.1)

  before5 : Holds5 def → Before 5
  before5 h = (before4 h.0, h.1)

  before6 : Holds6 def → Before 6
  before6 h = (before5 h.0, h.1)

  before7 : Holds7 def → Before 7
  before7 h = (before6 h.0, h.1)

  passed : (f : ClassFault) → IsRefusal def f → Before (place f)
  passed (classes.NoFirst n) h = tt
  passed (classes.Form n) h = before1 h.0
  passed (classes.NoBracket p) h = before2 h.0
  passed (classes.MixedLevel p level) (held, some, level_first) = before3 held
  passed (classes.SameFirst p text) h = before4 h.0
  passed (classes.SameLed p text) h = before5 h.0
  passed (classes.LedFollows n text) h = before6 h.0
  passed (classes.ListEnd l text) h = before7 h.0
  passed classes.Memory h = absurd h

  token_fails : (Fails : ℕ → Terminal → Type 0) (n : ℕ) (text : List ℕ) → IsFirstToken def Fails n text → NeverAny Fails → ⊥
  token_fails Fails n text h never = let (t, fails) = h.0.0 in never n t fails

  refuted : (f : ClassFault) → IsRefusal def f → Condition (place f) → ⊥
  refuted (classes.NoFirst n) h never = never n h.0
  refuted (classes.Form n) h never = never n h.1.0
  refuted (classes.NoBracket p) h never = never p h.1.0
  refuted (classes.MixedLevel p level) (held, some, level_first) never = never p level level_first.0
  refuted (classes.SameFirst p text) h never = token_fails (SameFirst def) p (string_bytes text) h.1 never
  refuted (classes.SameLed p text) h never = token_fails (SameLed def) p (string_bytes text) h.1 never
  refuted (classes.LedFollows n text) h never = token_fails (LedFollows def) n (string_bytes text) h.1 never
  refuted (classes.ListEnd l text) h never = token_fails (ListEnd def) l (string_bytes text) h.1 never
  refuted classes.Memory h never = h

  one_place : (f g : ClassFault) → IsRefusal def f → IsRefusal def g → place f ≡ place g
  one_place f g h k = elim (cases_order (place f) (place g)) [
    | inl e ↦ e
    | inr o ↦ elim o [
      | inl lt ↦ absurd (refuted f h (earlier (place g) (place f) (passed g k) lt))
      | inr lt ↦ absurd (refuted g k (earlier (place f) (place g) (passed f h) lt))
    ]
  ]

  -- the first thing for which some token fails is one, and so are the bytes of its first token
  one_token : (Fails : ℕ → Terminal → Type 0) → ((n : ℕ) (t : Terminal) → Fails n t → IsKnown def t) → (n m : ℕ) (a b : List ℕ)
      → IsFirstToken def Fails n a → IsFirstToken def Fails m b → (n ≡ m) × (a ≡ b)
  one_token Fails known n m a b h k =
      let e = first_one (FailsSome Fails) n m h.0 k.0 in
      let (t, ft, at) = h.1 in
      let (u, fu, au) = k.1 in
      let same = one_terminal def (Fails n) (known n) t u ft (subst (λ i. IsFirstTerminal def (Fails i) u) (sym e) fu) in
      (e, at ∙ ap terminal_text same ∙ sym au)

  same_place : (f g : ClassFault) → place f ≡ place g → IsRefusal def f → IsRefusal def g → IsSameClass f g
  same_place (classes.NoFirst n) (classes.NoFirst m) e h k = ap classes.NoFirst (first_one (NoFirst def) n m h k)
  same_place (classes.NoFirst n) g e h k = absurd (omega (arith, e))
  same_place (classes.Form n) (classes.Form m) e h k = ap classes.Form (first_one (BadForm def) n m h.1 k.1)
  same_place (classes.Form n) g e h k = absurd (omega (arith, e))
  same_place (classes.NoBracket p) (classes.NoBracket q) e h k = ap classes.NoBracket (first_one (NoBracket def) p q h.1 k.1)
  same_place (classes.NoBracket p) g e h k = absurd (omega (arith, e))
  same_place (classes.MixedLevel p level) (classes.MixedLevel q other) e (held, some, level_first) (too, any, other_first) =
      let d = first_one (MixesSome def) p q some any in
      let l = first_one (MixedLevel def p) level other level_first (subst (λ i. IsFirst (MixedLevel def i) other) (sym d) other_first) in
      ap (λ i. classes.MixedLevel i level) d ∙ ap (classes.MixedLevel q) l
  same_place (classes.MixedLevel p level) g e h k = absurd (omega (arith, e))
  same_place (classes.SameFirst p text) (classes.SameFirst q other) e h k = one_token (SameFirst def) (of_same_first def) p q (string_bytes text) (string_bytes other) h.1 k.1
  same_place (classes.SameFirst p text) g e h k = absurd (omega (arith, e))
  same_place (classes.SameLed p text) (classes.SameLed q other) e h k = one_token (SameLed def) (of_same_led def) p q (string_bytes text) (string_bytes other) h.1 k.1
  same_place (classes.SameLed p text) g e h k = absurd (omega (arith, e))
  same_place (classes.LedFollows n text) (classes.LedFollows m other) e h k = one_token (LedFollows def) (of_led_follows def) n m (string_bytes text) (string_bytes other) h.1 k.1
  same_place (classes.LedFollows n text) g e h k = absurd (omega (arith, e))
  same_place (classes.ListEnd l text) (classes.ListEnd k other) e h j = one_token (ListEnd def) (of_list_end def) l k (string_bytes text) (string_bytes other) h.1 j.1
  same_place (classes.ListEnd l text) g e h k = absurd (omega (arith, e))
  same_place classes.Memory g e h k = absurd h

  pub one_class : (f g : ClassFault) → IsRefusal def f → IsRefusal def g → IsSameClass f g
  one_class f g h k = same_place f g (one_place f g h k) h k
