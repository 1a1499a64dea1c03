-- Ground instances of two rows that agree, as instances of both rows with numbers apart.
use Rattle.std.proofs.Common.{◌≡◌, ℕ, ◌+◌, List, [], ◌∷◌, ◌++◌, map, length, ap₂, sym, ◌∙◌, subst, arith}
use Rattle.std.proofs.lemmas.List.{map-append}
use Rattle.psg_terms.specs.Terms.{Term}
use Rattle.psg_terms.specs.Signature.{Signature, HaveSorts}
use Rattle.psg_terms.specs.Instances.{Substitution, substitute, IsGrounding, AllGroundInstancesIn}
use Rattle.psg_terms.specs.Canonical.{Variable, variables_of}
use Rattle.psg_terms.specs.Sound.{IsSound}
use Rattle.psg_terms.specs.Renaming.{Renumbered}
use Rattle.psg_terms.proofs.Unique.{Each, each-map}
use Rattle.psg_terms.proofs.Renumbering.{renumbered_same, renumbered_at_most, renumbered_above, IsAtMost, IsAbove, AgreeAt, agree_in}
use Rattle.psg_unify.specs.Pairs.{Pair, AgreeOn, IsAgreeing, AreJoinable}
use Rattle.psg_unify.proofs.SolvedRows.{joint, joint-low, joint-high, joint-grounding}

pub sorts-append : (sig : Signature) (xs ys : List Term) (ss rs : List ℕ) → HaveSorts sig xs ss → HaveSorts sig ys rs → HaveSorts sig (xs ++ ys) (ss ++ rs)
sorts-append sig [] ys [] rs h k = k
sorts-append sig [] ys (s ∷ ss) rs h k = absurd h
sorts-append sig (x ∷ xs) ys [] rs h k = absurd h
sorts-append sig (x ∷ xs) ys (s ∷ ss) rs (h, hs) k = (h, sorts-append sig xs ys ss rs hs k)

-- two rows, renumbered apart
pub record Setting (sig : Signature) (left right : List Term) (pairs : List Pair) (lefts rights : List Term) : Type 0 where
  pub sound : IsSound sig
  pub joinable : AreJoinable sig left right pairs
  pub known : List Variable
  pub others : List Variable
  pub base : ℕ
  pub count : base ≡ length known
  pub first : Renumbered sig 0 [] known left lefts
  pub second : Renumbered sig base [] others right rights

module _ (sig : Signature) (left right : List Term) (pairs : List Pair) (lefts rights : List Term) (s : Setting sig left right pairs lefts rights) where
  pub left_same : (ss : List ℕ) → HaveSorts sig left ss → AllGroundInstancesIn sig left lefts × AllGroundInstancesIn sig lefts left × HaveSorts sig lefts ss
  left_same ss h = renumbered_same sig s.sound 0 [] s.known left lefts ss h s.first

  pub right_same : (ss : List ℕ) → HaveSorts sig right ss → AllGroundInstancesIn sig right rights × AllGroundInstancesIn sig rights right × HaveSorts sig rights ss
  right_same ss h = renumbered_same sig s.sound s.base [] s.others right rights ss h s.second

  -- one substitution for both rows
  pub solution : (row : List Term) → IsAgreeing sig left right pairs row → (f : Substitution) × IsGrounding sig f × AgreeOn pairs (map (substitute f) lefts) (map (substitute f) rights) × (row ≡ map (substitute f) (lefts ++ rights))
  solution row (l, r, il, ir, agree, e) =
      let gl = (left_same s.joinable.left_sorts s.joinable.left_sorted).0 l il in
      let gr = (right_same s.joinable.right_sorts s.joinable.right_sorted).0 r ir in
      let n : ℕ = s.base in
      let f : Substitution = joint n gl.0 gr.0 in
      let low : Each (IsAtMost n) (variables_of lefts) = subst (λ b. Each (IsAtMost b) (variables_of lefts)) (zero_plus (length s.known) ∙ sym s.count) (renumbered_at_most sig s.sound 0 s.known left lefts s.first) in
      let high = renumbered_above sig s.sound s.base s.others right rights s.second in
      let on_left : map (substitute f) lefts ≡ l = agree_in f gl.0 lefts (each-map (IsAtMost n) (AgreeAt f gl.0) (joint-low n gl.0 gr.0) (variables_of lefts) low) ∙ sym gl.2 in
      let on_right : map (substitute f) rights ≡ r = agree_in f gr.0 rights (each-map (IsAbove n) (AgreeAt f gr.0) (joint-high n gl.0 gr.0) (variables_of rights) high) ∙ sym gr.2 in (
        f,
        joint-grounding sig n gl.0 gr.0 gl.1 gr.1,
        subst (λ a. AgreeOn pairs a (map (substitute f) rights)) (sym on_left) (subst (AgreeOn pairs l) (sym on_right) agree),
        e ∙ ap₂ (λ a b. a ++ b) (sym on_left) (sym on_right) ∙ sym (map-append (substitute f) lefts rights),
      ) where
        zero_plus : (k : ℕ) → 0 + k ≡ k
        zero_plus k = omega arith
