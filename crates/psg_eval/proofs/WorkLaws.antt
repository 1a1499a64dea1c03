-- The work of patterns.
use Rattle.std.proofs.Common.{◌≡◌, ℕ, zero, suc, ◌+◌, ◌*◌, ◌<◌, ◌≤◌, min, inl, inr, List, [], ◌∷◌, ◌++◌, Option, refl, ap, sym, ◌∙◌, subst, arith}
use Rattle.std.specs.Prelude.{Result, Ok, Err, OnOk}
use Rattle.std.proofs.Math.Nat.{mul_comm}
use Rattle.std.proofs.lemmas.Bool.{cases_lt}
use Rattle.psg_grammar.specs.declared.types.Definition.{Definition}
use Rattle.psg_relation.specs.declared.relation.RelFault.{RelFault}
use Rattle.psg_eval.specs.declared.partial.Partial.{Partial}
use Rattle.psg_eval.specs.declared.summary.SummaryParts.{SummaryParts}
use Rattle.psg_eval.specs.Patterns.{MatchPart, seen_of}
use Rattle.psg_eval.specs.Stages.{IsNumbered}
use Rattle.psg_eval.specs.Work.{AreJoined, part_work}

above : (a b m : ℕ) → m < b → min (a * m) m ≡ min (a * b) m
above zero b m l = omega (arith, l)
above (suc k) b m l =
    let e : suc k * m ≡ k * m + m = omega arith in
    let d : suc k * b ≡ k * b + b = omega arith in
    omega (arith, e, d, l)

-- a product that stops at m, one number of which does so
pub times_stopped : (a b m : ℕ) → min (a * min b m) m ≡ min (a * b) m
times_stopped a b m = elim (cases_lt m b) [
  | inl l ↦ let e : min b m ≡ m = omega (arith, l) in ap (λ x. min (a * x) m) e ∙ above a b m l
  | inr g ↦ let e : min b m ≡ b = omega (arith, g) in ap (λ x. min (a * x) m) e
]

pub stopped_times : (a b m : ℕ) → min (min a m * b) m ≡ min (a * b) m
stopped_times a b m = ap (λ x. min x m) (mul_comm (min a m) b) ∙ times_stopped b a m ∙ ap (λ x. min x m) (mul_comm b a)

-- what is said of an answer is said of the same answer with its number
pub numbered_on : (P : Type 0) (made : Result Partial RelFault) (n : ℕ) (q : Partial) → IsNumbered made n (Ok q) → OnOk made P → P
numbered_on P (Ok p) n q e h = h
numbered_on P (Err f) n q e h = absurd e

-- one child more
pub joined_end : (def : Definition) (first last next : Partial) (children : List (Option SummaryParts)) (work : ℕ) (child : Option SummaryParts) → AreJoined def first children last work → MatchPart def last child (Ok next) → next.seen ≡ last.seen + seen_of child
    → AreJoined def first (children ++ child ∷ []) next (work + part_work last.rel child)
joined_end def first last next [] work child (e, z) h s =
    let d = ap (λ (p : Partial). part_work p.rel child) e in
    let n = ap (λ (p : Partial). p.seen + seen_of child) e in
    (next, 0, subst (λ (p : Partial). MatchPart def p child (Ok next)) e h, s ∙ n, (refl, refl), omega (arith, z, d))
joined_end def first last next (other ∷ more) work child (step, others, h, n, rest, e) is s =
    (step, others + part_work last.rel child, h, n, joined_end def step last next more others child rest is s, omega (arith, e))

-- two children
pub joined_two : (def : Definition) (first begun whole : Partial) (one two : Option SummaryParts) → MatchPart def first one (Ok begun) → begun.seen ≡ first.seen + seen_of one → MatchPart def begun two (Ok whole) → whole.seen ≡ begun.seen + seen_of two
    → AreJoined def first (one ∷ two ∷ []) whole (part_work first.rel one + part_work begun.rel two)
joined_two def first begun whole one two a m b n = (begun, part_work begun.rel two, a, m, (whole, 0, b, n, (refl, refl), omega arith), refl)
