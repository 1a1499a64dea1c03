-- Cells of the levels and forms of shapes.
use Rattle.std.proofs.Common.{◌≡◌, ◌≢◌, inl, inr, ℕ, ◌+◌, ◌*◌, ◌<◌, ◌==◌, Bool, true, false, cond, max, List, [], ◌∷◌, map, Option, Some, None, sym, ◌∙◌, subst, arith, eqb-true, eq-eqb, true≢false}
use Rattle.std.proofs.lemmas.Bool.{and_parts, cases_Bool, or_cases}
use Rattle.std.specs.Prelude.{MatchOption, IfSome, IfNone}
use Rattle.psg_grammar.specs.declared.types.Level.{Level}
use Rattle.psg_grammar.specs.declared.types.Level.TheVariants as levels
use Rattle.psg_grammar.specs.declared.types.Phylum.{Phylum}
use Rattle.psg_grammar.specs.Levels.{first_level, last_level, level_number}
use Rattle.psg_grammar.specs.Sound.{IsLevel}
use Rattle.psg_class.specs.Refusal.{IsFirst}
use Rattle.psg_class.specs.Grids.{is_at, once, AreInside}
use Rattle.psg_class.specs.declared.grid.Cell.{Cell}
use Rattle.psg_class.specs.declared.shape.Shape.{Shape}
use Rattle.psg_class.specs.Forms.{own_first, own_last, asks, bound_cell, asked_cell, form_cell, form_code, AreInPhyla, HaveLevels, LacksBracket, Mixes, MixesAny, IsFirstIf, IsFirstPair}

-- the first where one holds is the first where the other does
pub first_same : (P Q : ℕ → Type 0) → ((n : ℕ) → P n → Q n) → ((n : ℕ) → Q n → P n) → (n : ℕ) → IsFirst P n → IsFirst Q n
first_same P Q there back n (h, k) = (there n h, λ m lt q. k m lt (back m q))

pub if_same : (P Q : ℕ → Type 0) → ((n : ℕ) → P n → Q n) → ((n : ℕ) → Q n → P n) → (o : Option ℕ) → IsFirstIf P o → IsFirstIf Q o
if_same P Q there back None h = λ n q. h n (back n q)
if_same P Q there back (Some n) h = first_same P Q there back n h

pub once_inside : (height width r c : ℕ) (cells : List Cell) → AreInside height width cells → once r c cells ≡ true → (r < height) × (c < width)
once_inside height width r c [] h e = absurd (true≢false (sym e))
once_inside height width r c (x ∷ xs) ((a, b), h) e = elim (or_cases (is_at r c x) (once r c xs) e) [
  | inl k ↦ (subst (λ z. z < height) (eqb-true x.row r (and_parts _ _ k).0) a, subst (λ z. z < width) (eqb-true x.column c (and_parts (x.row == r) (x.column == c) k).1) b)
  | inr k ↦ once_inside height width r c xs h k
]

-- ---- cells are inside their tables

bound_small : (level : Level) → IsLevel level → level_number level < 11
bound_small levels.Plain h = omega arith
bound_small (levels.Prefix n) h = omega arith
bound_small (levels.Postfix n) h = omega arith
bound_small (levels.InfixLeft n) h = omega arith
bound_small (levels.InfixRight n) h = omega arith
bound_small (levels.InfixNone n) h = omega arith

first_small : (level : Level) → IsLevel level → first_level level < 11
first_small levels.Plain h = omega arith
first_small (levels.Prefix n) h = omega arith
first_small (levels.Postfix n) h = omega arith
first_small (levels.InfixLeft n) h = omega arith
first_small (levels.InfixRight n) h = omega arith
first_small (levels.InfixNone n) h = omega arith

last_small : (level : Level) → IsLevel level → last_level level < 11
last_small levels.Plain h = omega arith
last_small (levels.Prefix n) h = omega arith
last_small (levels.Postfix n) h = omega arith
last_small (levels.InfixLeft n) h = omega arith
last_small (levels.InfixRight n) h = omega arith
last_small (levels.InfixNone n) h = omega arith

code_small : (level : Level) → IsLevel level → form_code level < 50
code_small levels.Plain h = omega arith
code_small (levels.Prefix n) h = omega arith
code_small (levels.Postfix n) h = omega arith
code_small (levels.InfixLeft n) h = omega arith
code_small (levels.InfixRight n) h = omega arith
code_small (levels.InfixNone n) h = omega arith

choose_small : (a b : Bool) (m n : ℕ) → m < 11 → n < 11 → max (cond a m 0) (cond b n 0) < 11
choose_small true true m n h k = omega arith
choose_small true false m n h k = omega arith
choose_small false true m n h k = omega arith
choose_small false false m n h k = omega arith

-- what is asked for is a level
pub asks_small : (s : Shape) → IsLevel s.level → asks s < 11
asks_small s k = choose_small (own_first s) (own_last s) (first_level s.level) (last_level s.level) (first_small s.level k) (last_small s.level k)

pub bound_inside : (phyla : ℕ) (shapes : List Shape) → AreInPhyla phyla shapes → HaveLevels shapes → AreInside phyla 11 (map bound_cell shapes)
bound_inside phyla [] h k = tt
bound_inside phyla (s ∷ rest) (h, hs) (k, ks) = ((h, bound_small s.level k), bound_inside phyla rest hs ks)

pub asked_inside : (phyla : ℕ) (shapes : List Shape) → AreInPhyla phyla shapes → HaveLevels shapes → AreInside phyla 11 (map asked_cell shapes)
asked_inside phyla [] h k = tt
asked_inside phyla (s ∷ rest) (h, hs) (k, ks) =
    ((h, choose_small (own_first s) (own_last s) (first_level s.level) (last_level s.level) (first_small s.level k) (last_small s.level k)), asked_inside phyla rest hs ks)

pub form_inside : (phyla : ℕ) (shapes : List Shape) → AreInPhyla phyla shapes → HaveLevels shapes → AreInside phyla 50 (map form_cell shapes)
form_inside phyla [] h k = tt
form_inside phyla (s ∷ rest) (h, hs) (k, ks) = ((h, code_small s.level k), form_inside phyla rest hs ks)

-- ---- tables that agree

pub lacks_same : (phyla : List Phylum) (bound asked b a : ℕ → ℕ → Bool) → ((r c : ℕ) → c < 11 → bound r c ≡ b r c) → ((r c : ℕ) → c < 11 → asked r c ≡ a r c) → (p : ℕ) → LacksBracket phyla bound asked p → LacksBracket phyla b a p
lacks_same phyla bound asked b a h k p l = record {
  phylum = l.phylum;
  found = l.found;
  bare = l.bare;
  apart = record {
    high = l.apart.high;
    inside = l.apart.inside;
    low = l.apart.low;
    below = l.apart.below;
    is_asked = sym (k p l.apart.high l.apart.inside) ∙ l.apart.is_asked;
    is_bound = sym (h p l.apart.low (below l.apart.low l.apart.high l.apart.below l.apart.inside)) ∙ l.apart.is_bound;
  };
} where
  below : (m n : ℕ) → m < n → n < 11 → m < 11
  below m n x y = omega arith

pub mixes_same : (uses u : ℕ → ℕ → Bool) → ((r c : ℕ) → c < 50 → uses r c ≡ u r c) → (p level : ℕ) → Mixes uses p level → Mixes u p level
mixes_same uses u h p level m = record {
  positive = m.positive;
  small = m.small;
  one = m.one;
  other = m.other;
  differ = m.differ;
  inside = m.inside;
  has_one = sym (h p (5 * level + m.one) (small level m.one m.small (first m.one m.other m.differ m.inside))) ∙ m.has_one;
  has_other = sym (h p (5 * level + m.other) (small level m.other m.small m.inside)) ∙ m.has_other;
} where
  first : (a b : ℕ) → a < b → b < 5 → a < 5
  first a b x y = omega arith

  small : (n a : ℕ) → n < 10 → a < 5 → 5 * n + a < 50
  small n a x y = omega arith

-- one number more, or all of a range
pub none_more : (P : ℕ → Type 0) (n : ℕ) → ((m : ℕ) → m < n → P m → ⊥) → (P n → ⊥) → (m : ℕ) → m < n + 1 → P m → ⊥
none_more P n below here m lt p = elim (cases_Bool (m == n)) [
  | inl e ↦ here (subst P (eqb-true m n e) p)
  | inr e ↦ below m (less (λ x. true≢false (sym (eq-eqb m n x) ∙ e))) p
] where
  less : m ≢ n → m < n
  less d = omega arith

pub pair_of : (P Q : ℕ → ℕ → Type 0) → ((p n : ℕ) → P p n → Q p n) → ((p n : ℕ) → Q p n → P p n) → (o : Option (ℕ × ℕ))
    → MatchOption o ((p : ℕ) → ((n : ℕ) × P p n) → ⊥) (λ r. IsFirst (λ p. (n : ℕ) × P p n) r.0 × IsFirst (P r.0) r.1) → IsFirstPair Q o
pair_of P Q there back None h = λ p n q. h p (n, back p n q)
pair_of P Q there back (Some (p, n)) (h, k) =
    (first_same (λ p'. (m : ℕ) × P p' m) (λ p'. (m : ℕ) × Q p' m) (λ p' (m, x). (m, there p' m x)) (λ p' (m, x). (m, back p' m x)) p h, first_same (P p) (Q p) (there p) (back p) n k)

-- an answer for the numbers of a range is one for all
pub both : (uses : ℕ → ℕ → Bool) (phyla : ℕ) → ((p level : ℕ) → Mixes uses p level → p < phyla) → (o : Option (ℕ × ℕ)) → IfSome o (λ r. (r.0 < phyla) × IsFirst (MixesAny uses) r.0 × IsFirst (Mixes uses r.0) r.1) → IfNone o ((p : ℕ) → p < phyla → MixesAny uses p → ⊥)
    → MatchOption o ((p : ℕ) → MixesAny uses p → ⊥) (λ r. IsFirst (MixesAny uses) r.0 × IsFirst (Mixes uses r.0) r.1)
both uses phyla inside None s n = λ p (level, m). n p (inside p level m) (level, m)
both uses phyla inside (Some r) s n = (s.1, s.2)
