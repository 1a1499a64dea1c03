-- Where a quoted text is closed on its line.
use Rattle.std.proofs.Common.{◌≡◌, ℕ, Bool, true, false, cond, List, [], ◌∷◌, ◌++◌, sym, ap, ◌∙◌, refl, append_assoc}
use Rattle.std.specs.Prelude.{not, ◌&&◌, ◌||◌, ◌==◌}
use Rattle.std.specs.Str.{chars}
use Rattle.psg_lexis.specs.Classes.{Chars}
use Rattle.psg_lexis.specs.Tokens.{escaped, quoted}
use Rattle.psg_lexis.specs.Faults.{is_closed}
use Rattle.psg_lexis.specs.Splits.{IsFirst}

past_open : (a b d : Bool) → a ≡ false → b ≡ false → (not a && (b || d)) ≡ d
past_open true b d h k = cc
past_open false true d h k = cc
past_open false false d h k = refl

-- a character that neither ends the line nor closes
pub closed_past : (e : Bool) (c : ℕ) (cs : Chars) → (c == 10) ≡ false → (not e && (c == 34)) ≡ false
    → is_closed e (c ∷ cs) ≡ is_closed (not e && (c == 92)) cs
closed_past e c cs h k = past_open (c == 10) (not e && (c == 34)) (is_closed (not e && (c == 92)) cs) h k

open_at : (a b : Bool) → a ≡ true → (not a && b) ≡ false
open_at true b h = refl
open_at false b h = cc

pub open_at_line_end : (e : Bool) (c : ℕ) (cs : Chars) → (c == 10) ≡ true → is_closed e (c ∷ cs) ≡ false
open_at_line_end e c cs h = open_at (c == 10) ((not e && (c == 34)) || is_closed (not e && (c == 92)) cs) h

closed_by : (a b d : Bool) → a ≡ false → b ≡ true → (not a && (b || d)) ≡ true
closed_by true b d h k = cc
closed_by false true d h k = refl
closed_by false false d h k = cc

pub closed_at : (e : Bool) (c : ℕ) (cs : Chars) → (c == 10) ≡ false → (not e && (c == 34)) ≡ true
    → is_closed e (c ∷ cs) ≡ true
closed_at e c cs h k = closed_by (c == 10) (not e && (c == 34)) (is_closed (not e && (c == 92)) cs) h k

pub at_first : (e : Bool) (rest after : List ℕ) (c : ℕ) (answer : Bool) → IsFirst rest c after
    → is_closed e (chars rest) ≡ answer → is_closed e (c ∷ chars after) ≡ answer
at_first e rest after c answer f h = ap (is_closed e) (sym f.characters) ∙ h

-- ---- a character of the contents doesn't close

past_one : (c : ℕ) (ds : Chars) (a b d : Bool) → (c == 34) ≡ a → (c == 92) ≡ b → (c == 10) ≡ d
    → is_closed false (cond a (92 ∷ 34 ∷ []) (cond b (92 ∷ 92 ∷ []) (cond d (92 ∷ 110 ∷ []) (c ∷ []))) ++ ds) ≡ is_closed false ds
past_one c ds true b d p q r = refl
past_one c ds false true d p q r = refl
past_one c ds false false true p q r = refl
past_one c ds false false false p q r = closed_past false c ds r p ∙ ap (λ e. is_closed e ds) q

pub closed_contents : (cs ds : Chars) → is_closed false (quoted cs ++ ds) ≡ is_closed false ds
closed_contents [] ds = refl
closed_contents (c ∷ cs) ds =
    ap (is_closed false) (append_assoc (escaped c) (quoted cs) ds)
    ∙ past_one c (quoted cs ++ ds) (c == 34) (c == 92) (c == 10) refl refl refl ∙ closed_contents cs ds
