-- A forest found in its list of ranges.
use Rattle.std.proofs.Common.{◌≡◌, ℕ, zero, suc, List, [], ◌∷◌, length, Option, slice_get, ◌⊎◌, inl, inr, refl, sym, ap, ◌∙◌, arith}
use Rattle.psg_ranges.specs.declared.ranges.Range.{Range}
use Rattle.psg_ranges.specs.Forests.{Forest, no_nodes, node, ranges_in, from_nth, below_first, at_path, first_range}

-- no ranges, no nodes
pub none_in : (f : Forest) → ranges_in f ≡ [] → f ≡ no_nodes
none_in no_nodes e = refl
none_in (node start end names below beside) e = absurd (let l = ap length e in omega (arith, l))

no_nth : (k : ℕ) → from_nth no_nodes k ≡ no_nodes
no_nth zero = refl
no_nth (suc k) = refl

-- ---- the nodes from one of a number on

nth_next : (f : Forest) (k : ℕ) → from_nth f (suc k) ≡ from_nth (from_nth f 1) k
nth_next no_nodes k = sym (no_nth k)
nth_next (node start end names below beside) k = refl

-- these ranges are those of the nodes from which it goes on
abbrev pub AreLeft : List Range → ℕ → List Range → ℕ → Type 0
AreLeft ranges number rest left = (f : Forest) → ranges_in f ≡ ranges → (g : Forest) × (ranges_in g ≡ rest) × (from_nth f number ≡ from_nth g left)

pub left_all : (ranges : List Range) (number : ℕ) → AreLeft ranges number ranges number
left_all ranges number f e = (f, e, refl)

pub left_next : (ranges rest more : List Range) (number left less : ℕ) → AreLeft ranges number rest left → left ≡ suc less
    → ((f : Forest) → ranges_in f ≡ rest → ranges_in (from_nth f 1) ≡ more) → AreLeft ranges number more less
left_next ranges rest more number left less h l b f e =
    let x = h f e in
    (from_nth x.0 1, b x.0 x.1, x.2 ∙ ap (from_nth x.0) l ∙ nth_next x.0 less)

pub left_end : (ranges rest : List Range) (number left : ℕ) → AreLeft ranges number rest left → (left ≡ 0) ⊎ (rest ≡ []) → (f : Forest) → ranges_in f ≡ ranges
    → ranges_in (from_nth f number) ≡ rest
left_end ranges rest number left h (inl z) f e =
    let x = h f e in ap ranges_in (x.2 ∙ ap (from_nth x.0) z) ∙ x.1
left_end ranges rest number left h (inr n) f e =
    let x = h f e in
    ap ranges_in (x.2 ∙ ap (λ g. from_nth g left) (none_in x.0 (x.1 ∙ n)) ∙ no_nth left) ∙ sym n

-- ---- the node at a path

abbrev pub IsAt : List Range → List ℕ → List Range → List ℕ → Type 0
IsAt ranges path rest steps = (f : Forest) → ranges_in f ≡ ranges → (g : Forest) × (ranges_in g ≡ rest) × (at_path f path ≡ at_path g steps)
