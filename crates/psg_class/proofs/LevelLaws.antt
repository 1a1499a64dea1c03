-- What the class says of binding levels.
use Rattle.std.proofs.Common.{◌≡◌, ℕ, ◌≤◌, ◌==◌, ◌&&◌, Bool, true, false, cond, List, [], ◌∷◌, ◌++◌, Some, None, slice_get, refl, sym, ap, ◌∙◌, subst, max, arith, eq-eqb, eqb-true, true≢false}
use Rattle.std.proofs.Math.Nat.{le_antisymm}
use Rattle.psg_grammar.specs.declared.types.Kind.{Kind}
use Rattle.psg_grammar.specs.declared.types.Kind.TheVariants as kinds
use Rattle.psg_grammar.specs.declared.types.Level.{Level}
use Rattle.psg_grammar.specs.declared.types.Level.TheVariants as levels
use Rattle.psg_grammar.specs.declared.types.Item.{Item}
use Rattle.psg_grammar.specs.declared.types.Item.TheVariants as items
use Rattle.psg_grammar.specs.declared.types.Operator.{Operator}
use Rattle.psg_grammar.specs.declared.types.Definition.{Definition}
use Rattle.psg_class.specs.Terminals.{Terminal, item_terminal}
use Rattle.psg_grammar.specs.Levels.{level_number, first_level, last_level}
use Rattle.psg_class.specs.Places.{slot_level, is_own, solid, is_own_last}
use Rattle.psg_class.specs.Follow.{Led}
use Rattle.psg_class.specs.Class.{number_of}
use Rattle.psg_class.proofs.ClassFacts.{TokenFirst, OwnLast, HasForm, ClassFacts}

-- no item is both a slot and a token
pub not_both : (o : Operator) → TokenFirst o → (k : Kind) (more : List Item) → solid o.items ≡ items.Slot k ∷ more → ⊥
not_both o t k more e = no_mark t.item t.terminal t.begins cc where
  no_mark : (i : Item) (m : Terminal) → item_terminal i ≡ Some m → i ≡ items.Slot k → ⊥
  no_mark i m h e' = let x : None ≡ Some m = subst (λ j. item_terminal j ≡ Some m) e' h in cc

-- a led operator's first slot wants at least its own level
pub led_first : (o : Operator) (level : Level) → HasForm o level → (k : Kind) (more : List Item) → solid o.items ≡ items.Slot k ∷ more → level_number level ≤ first_level level
led_first o levels.Plain h k more e = absurd (not_both o h.0 k more e)
led_first o (levels.Prefix n) h k more e = absurd (not_both o h.0 k more e)
led_first o (levels.Postfix n) h k more e = omega arith
led_first o (levels.InfixLeft n) h k more e = omega arith
led_first o (levels.InfixRight n) h k more e = omega arith
led_first o (levels.InfixNone n) h k more e = omega arith

-- the last of some items
abbrev last_of : Item → List Item → Item
last_of d [] = d
last_of d (i ∷ rest) = last_of i rest

last_of_end : (d : Item) (front : List Item) (i : Item) → last_of d (front ++ i ∷ []) ≡ i
last_of_end d [] i = refl
last_of_end d (j ∷ rest) i = last_of_end j rest i

last_same : (a b : List Item) (x y : Item) → a ++ x ∷ [] ≡ b ++ y ∷ [] → x ≡ y
last_same a b x y e = sym (last_of_end items.In a x) ∙ ap (last_of items.In) e ∙ last_of_end items.In b y

pub no_token : (i : Item) (m : Terminal) (k : Kind) → item_terminal i ≡ Some m → i ≡ items.Slot k → ⊥
no_token i m k h e = let x : None ≡ Some m = subst (λ j. item_terminal j ≡ Some m) e h in cc

-- The key: behind an own slot at the last place of o no led operator can both take o's tree and be taken by that slot.
abbrev Mixed : Level → Level → Type 0
Mixed a b = (level : ℕ) → number_of a ≡ Some level → number_of b ≡ Some level → a ≡ b

clash_levels : (o p : Operator) (a b : Level) → HasForm o a → OwnLast o → HasForm p b → (k : Kind) (more : List Item) → solid p.items ≡ items.Slot k ∷ more
    → Mixed a b → first_level b ≤ level_number a → last_level a ≤ level_number b → ⊥
clash_levels o p levels.Plain b f l g k more e mixed h h' = f.1 l
clash_levels o p (levels.Postfix n) b f l g k more e mixed h h' = no_token f.item f.terminal (kinds.Phylum o.phylum) f.begins (last_same f.front l.front f.item (items.Slot (kinds.Phylum o.phylum)) (sym f.items ∙ l.items))
clash_levels o p a levels.Plain f l g k more e mixed h h' = not_both p g.0 k more e
clash_levels o p a (levels.Prefix m) f l g k more e mixed h h' = not_both p g.0 k more e
clash_levels o p (levels.InfixLeft n) (levels.Postfix m) f l g k more e mixed h h' = omega (arith, h, h')
clash_levels o p (levels.InfixLeft n) (levels.InfixLeft m) f l g k more e mixed h h' = omega (arith, h, h')
clash_levels o p (levels.InfixLeft n) (levels.InfixRight m) f l g k more e mixed h h' = omega (arith, h, h')
clash_levels o p (levels.InfixLeft n) (levels.InfixNone m) f l g k more e mixed h h' = omega (arith, h, h')
clash_levels o p (levels.InfixNone n) (levels.Postfix m) f l g k more e mixed h h' = omega (arith, h, h')
clash_levels o p (levels.InfixNone n) (levels.InfixLeft m) f l g k more e mixed h h' = omega (arith, h, h')
clash_levels o p (levels.InfixNone n) (levels.InfixRight m) f l g k more e mixed h h' = omega (arith, h, h')
clash_levels o p (levels.InfixNone n) (levels.InfixNone m) f l g k more e mixed h h' = omega (arith, h, h')
clash_levels o p (levels.Prefix n) (levels.Postfix m) f l g k more e mixed h h' = let x : levels.Prefix n ≡ levels.Postfix m = mixed n refl (ap Some (le_antisymm h h')) in cc
clash_levels o p (levels.Prefix n) (levels.InfixLeft m) f l g k more e mixed h h' = let x : levels.Prefix n ≡ levels.InfixLeft m = mixed n refl (ap Some (le_antisymm h h')) in cc
clash_levels o p (levels.Prefix n) (levels.InfixRight m) f l g k more e mixed h h' = omega (arith, h, h')
clash_levels o p (levels.Prefix n) (levels.InfixNone m) f l g k more e mixed h h' = omega (arith, h, h')
clash_levels o p (levels.InfixRight n) (levels.Postfix m) f l g k more e mixed h h' = let x : levels.InfixRight n ≡ levels.Postfix m = mixed n refl (ap Some (le_antisymm h h')) in cc
clash_levels o p (levels.InfixRight n) (levels.InfixLeft m) f l g k more e mixed h h' = let x : levels.InfixRight n ≡ levels.InfixLeft m = mixed n refl (ap Some (le_antisymm h h')) in cc
clash_levels o p (levels.InfixRight n) (levels.InfixRight m) f l g k more e mixed h h' = omega (arith, h, h')
clash_levels o p (levels.InfixRight n) (levels.InfixNone m) f l g k more e mixed h h' = omega (arith, h, h')

pub clash : (def : Definition) (c : ClassFacts def) (n : ℕ) (o : Operator) → slice_get def.operators n ≡ Some o → OwnLast o → (m : ℕ) (terminal : Terminal) (l : Led def o.phylum m terminal)
    → first_level l.o.level ≤ level_number o.level → last_level o.level ≤ level_number l.o.level → ⊥
clash def c n o found last m terminal l h h' =
    clash_levels o l.o o.level l.o.level (c.forms n o found) last (c.forms m l.o l.found) l.slot (l.item ∷ l.more) l.items (c.mixed n m o l.o found l.found (sym l.phylum)) h h'

-- the least levels of an operator's own slots
pub own_same : (o : Operator) → is_own o (kinds.Phylum o.phylum) ≡ true
own_same o = eq-eqb o.phylum o.phylum refl

pub own_is : (o : Operator) (k : Kind) → is_own o k ≡ true → k ≡ kinds.Phylum o.phylum
own_is o (kinds.Phylum p) e = ap kinds.Phylum (eqb-true p o.phylum e)
own_is o (kinds.List l) e = absurd (true≢false (sym e))

max_first : (a : ℕ) → max a 0 ≡ a
max_first a = omega arith

max_last : (a : ℕ) → max 0 a ≡ a
max_last a = omega arith

-- at the first place, with an item behind it
pub first_slot : (o : Operator) (p : ℕ) (i : Item) (behind : List Item) → p ≡ o.phylum → slot_level o (kinds.Phylum p) true (i ∷ behind) ≡ first_level o.level
first_slot o p i behind e = ap (λ b. cond b (max (first_level o.level) 0) 0) (eq-eqb p o.phylum e) ∙ max_first (first_level o.level)

-- an own slot at the last place
pub record LastSlot (o : Operator) (k : Kind) (behind : List Item) : Type 0 where
  pub own : k ≡ kinds.Phylum o.phylum
  pub last : behind ≡ []
  pub level : slot_level o k false behind ≡ last_level o.level

pub last_slot : (o : Operator) (k : Kind) (behind : List Item) → is_own_last o k behind ≡ true → LastSlot o k behind
last_slot o (kinds.List l) behind e = absurd (true≢false (sym e))
last_slot o (kinds.Phylum p) (i ∷ rest) e = absurd (and_false (p == o.phylum) e) where
  and_false : (b : Bool) → b && false ≡ true → ⊥
  and_false true e' = true≢false (sym e')
  and_false false e' = true≢false (sym e')
last_slot o (kinds.Phylum p) [] e = record { own = own_is o (kinds.Phylum p) (and_true (p == o.phylum) e); last = refl; level = ap (λ b. cond b (max 0 (last_level o.level)) 0) (and_true (p == o.phylum) e) ∙ max_last (last_level o.level) } where
  and_true : (b : Bool) → b && true ≡ true → b ≡ true
  and_true true e' = refl
  and_true false e' = e'

-- an own slot at the last place wants at least the operator's level
pub last_at_least : (o : Operator) (level : Level) → HasForm o level → OwnLast o → level_number level ≤ last_level level
last_at_least o levels.Plain f l = absurd (f.1 l)
last_at_least o (levels.Postfix n) f l = absurd (no_token f.item f.terminal (kinds.Phylum o.phylum) f.begins (last_same f.front l.front f.item (items.Slot (kinds.Phylum o.phylum)) (sym f.items ∙ l.items)))
last_at_least o (levels.Prefix n) f l = omega arith
last_at_least o (levels.InfixLeft n) f l = omega arith
last_at_least o (levels.InfixRight n) f l = omega arith
last_at_least o (levels.InfixNone n) f l = omega arith
