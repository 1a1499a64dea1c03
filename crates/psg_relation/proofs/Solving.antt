-- Some list is the relation of the joins of two lists of rows.
use Rattle.std.proofs.Common.{◌≡◌, ℕ, ◌↔◌, ◌⊎◌, inl, inr, List, [], ◌∷◌, ◌++◌, append_assoc, map, zero, suc, refl, ap, ap₂, sym, ◌∙◌, subst, Some, slice_get, length, append-nil}
use Rattle.std.specs.Option.{option_map}
use Rattle.std.proofs.lemmas.List.{map-append}
use Rattle.std.proofs.lemmas.Option.{slice_get-map, same_Some}
use Rattle.psg_terms.specs.Terms.{Term}
use Rattle.psg_terms.specs.Signature.{Signature, HasSort, HaveSorts}
use Rattle.psg_terms.specs.Sound.{IsSound}
use Rattle.psg_terms.specs.Instances.{Substitution, substitute, IsGrounding, IsGroundInstance}
use Rattle.psg_terms.specs.Canonical.{Variable, noted_all, variables_of}
use Rattle.psg_terms.specs.Renaming.{opens, numbering}
use Rattle.psg_terms.specs.Relations.{IsIn, first, later, IsGlued, IsRelation}
use Rattle.psg_terms.proofs.InstanceLaws.{after, substitute-after, map-substitute-after, substitute-same, grounding-after}
use Rattle.psg_terms.proofs.Renumbering.{HaveSorts-substitute}
use Rattle.psg_unify.specs.Pairs.{Pair as Columns, AgreeOn, AreOfEqualSort, AreJoinable, IsAgreeing}
use Rattle.psg_unify.proofs.Theorem.{Setting, sorts-append, left_same, right_same, solution}
use Rattle.psg_relation.specs.Choices.{AllHaveSorts, Agrees, picked}
use Rattle.psg_relation.specs.Joining.{Two, IsMore, AreJoined, MayJoin, all_pairs}
use Rattle.psg_relation.proofs.Columns.{picked-sorts}
use Rattle.psg_relation.proofs.Existing.{form, relation_exists}
use Rattle.psg_relation.proofs.Meeting.{join_of, joined_none, joined_one, joined_sorts, joined_relation, may_meet, pairs-in}
use Rattle.psg_relation.proofs.Unifying.{Equation, Unifies, AreTyped, Unifier, unified, unifies_more}

pub term_at : (sig : Signature) (row : List Term) (ss : List ℕ) (i s : ℕ) → HaveSorts sig row ss → slice_get ss i ≡ Some s → (t : Term) × (slice_get row i ≡ Some t) × HasSort sig t s
term_at sig [] [] i s h e = absurd (cc)
term_at sig [] (r ∷ ss) i s h e = absurd h
term_at sig (x ∷ row) [] i s h e = absurd h
term_at sig (x ∷ row) (r ∷ ss) zero s (h, _) e = let d : r ≡ s = cc in (x, refl, subst (HasSort sig x) d h)
term_at sig (x ∷ row) (r ∷ ss) (suc i) s (_, h) e = term_at sig row ss i s h e

column_of : (g : Substitution) (row : List Term) (i : ℕ) (t : Term) → slice_get row i ≡ Some t → slice_get (map (substitute g) row) i ≡ Some (substitute g t)
column_of g row i t e = slice_get-map (substitute g) row i ∙ ap (option_map (substitute g)) e

-- the columns of the pairs, as equations
record AreColumns (sig : Signature) (left right : List Term) (pairs : List Columns) (es : List Equation) : Type 0 where
  typed : AreTyped sig es
  to : (g : Substitution) → AgreeOn pairs (map (substitute g) left) (map (substitute g) right) → Unifies g es
  back : (g : Substitution) → Unifies g es → AgreeOn pairs (map (substitute g) left) (map (substitute g) right)

columns : (sig : Signature) (left right : List Term) (ls rs : List ℕ) (pairs : List Columns) → HaveSorts sig left ls → HaveSorts sig right rs → AreOfEqualSort ls rs pairs → (es : List Equation) × AreColumns sig left right pairs es
columns sig left right ls rs [] hl hr e = ([], record { typed = tt; to = λ g a. tt; back = λ g u. tt })
columns sig left right ls rs (p ∷ pairs) hl hr ((s, el, er), e) =
    let (x, ex, tx) = term_at sig left ls p.0 s hl el in
    let (y, ey, ty) = term_at sig right rs p.1 s hr er in
    let (es, h) = columns sig left right ls rs pairs hl hr e in (
      (x, y) ∷ es,
      record {
        typed = (([], s, tx), ([], s, ty), h.typed);
        to = λ g (d, a). (same_Some (substitute g x) (substitute g y) (sym (column_of g left p.0 x ex) ∙ d ∙ column_of g right p.1 y ey), h.to g a);
        back = λ g (d, u). (column_of g left p.0 x ex ∙ ap Some d ∙ sym (column_of g right p.1 y ey), h.back g u);
      },
    )

-- what two rows have in common is one row, or nothing
record IsJoint (sig : Signature) (left right : List Term) (pairs : List Columns) (row : List Term) : Type 0 where
  exact : (full : List Term) → IsGroundInstance sig row full ↔ IsAgreeing sig left right pairs full
  sorted : (ls rs : List ℕ) → HaveSorts sig left ls → HaveSorts sig right rs → HaveSorts sig row (ls ++ rs)

pub rows_alike : (x y : Substitution) → ((p q : ℕ) → x p q ≡ substitute x (y p q)) → (ts : List Term) → map (substitute x) ts ≡ map (substitute x) (map (substitute y) ts)
rows_alike x y j [] = refl
rows_alike x y j (t ∷ ts) = ap₂ (λ z zs. z ∷ zs) (substitute-same x (after x y) t j ∙ substitute-after x y t) (rows_alike x y j ts)

module _ (sig : Signature) (sound : IsSound sig) (left right : List Term) (pairs : List Columns) (joinable : AreJoinable sig left right pairs) where
  abbrev known : List Variable
  known = noted_all [] (opens sig (variables_of left))

  abbrev others : List Variable
  others = noted_all [] (opens sig (variables_of right))

  abbrev lefts : List Term
  lefts = map (substitute (numbering sig 0 known)) left

  abbrev rights : List Term
  rights = map (substitute (numbering sig (length known) others)) right

  setting : Setting sig left right pairs lefts rights
  setting = record {
    sound = sound;
    joinable = joinable;
    known = known;
    others = others;
    base = length known;
    count = refl;
    first = record { known = refl; made = refl };
    second = record { known = refl; made = refl };
  }

  left_kept : (ls : List ℕ) → HaveSorts sig left ls → HaveSorts sig lefts ls
  left_kept ls h = (left_same sig left right pairs lefts rights setting ls h).2

  right_kept : (rs : List ℕ) → HaveSorts sig right rs → HaveSorts sig rights rs
  right_kept rs h = (right_same sig left right pairs lefts rights setting rs h).2

  module _ (es : List Equation) (h : AreColumns sig lefts rights pairs es) (u : Unifier sig es) where
    abbrev out : List Term
    out = map (substitute u.by) (lefts ++ rights)

    to_agreeing : (full : List Term) → IsGroundInstance sig out full → IsAgreeing sig left right pairs full
    to_agreeing full (g, grounding, e) =
        let f : Substitution = after g u.by in
        let grounds : IsGrounding sig f = grounding-after sig g u.by grounding u.sorted in (
          map (substitute f) lefts,
          map (substitute f) rights,
          (left_same sig left right pairs lefts rights setting joinable.left_sorts joinable.left_sorted).1 (map (substitute f) lefts) (f, grounds, refl),
          (right_same sig left right pairs lefts rights setting joinable.right_sorts joinable.right_sorted).1 (map (substitute f) rights) (f, grounds, refl),
          h.back f (unifies_more g u.by es u.solves),
          e ∙ sym (map-substitute-after g u.by (lefts ++ rights)) ∙ map-append (substitute f) lefts rights,
        )

    from_agreeing : (full : List Term) → IsAgreeing sig left right pairs full → IsGroundInstance sig out full
    from_agreeing full a =
        let (f, grounding, agree, e) = solution sig left right pairs lefts rights setting full a in
        (f, grounding, e ∙ rows_alike f u.by (u.general f grounding.sorted (h.to f agree)) (lefts ++ rights))

    joint : IsJoint sig left right pairs out
    joint = record {
      exact = λ full. (to_agreeing full, from_agreeing full);
      sorted = λ ls rs hl hr. HaveSorts-substitute sig u.by u.sorted (lefts ++ rights) (ls ++ rs) (sorts-append sig lefts rights ls rs (left_kept ls hl) (right_kept rs hr));
    }

  joint_cases : ((row : List Term) × IsJoint sig left right pairs row) ⊎ ((full : List Term) → IsAgreeing sig left right pairs full → ⊥)
  joint_cases =
      let (es, h) = columns sig lefts rights joinable.left_sorts joinable.right_sorts pairs (left_kept joinable.left_sorts joinable.left_sorted) (right_kept joinable.right_sorts joinable.right_sorted) joinable.equal in
      elim (unified sig es h.typed) [
        | inl u ↦ inl (out es h u, joint es h u)
        | inr nope ↦ inr (λ full a. let (f, grounding, agree, e) = solution sig left right pairs lefts rights setting full a in nope f grounding.sorted (h.to f agree))
      ]

  -- a list of rows with the join of two rows
  one_more : (keep : List ℕ) (made : List (List Term)) → (more : List (List Term)) × IsMore sig pairs keep left right made more
  one_more keep made = elim joint_cases [
    | inr nope ↦ (made, inl (λ x j. nope j.0 j.1, refl))
    | inl (row, j) ↦
        let sorts = joinable.left_sorts ++ joinable.right_sorts in
        let kept : (ls rs : List ℕ) → HaveSorts sig left ls → HaveSorts sig right rs → HaveSorts sig (picked row keep) (picked (ls ++ rs) keep) = λ ls rs hl hr. picked-sorts sig row (ls ++ rs) keep (j.sorted ls rs hl hr) in
        let (copy, canonical, same, sorted) = form sig sound (picked row keep) (picked sorts keep) (kept joinable.left_sorts joinable.right_sorts joinable.left_sorted joinable.right_sorted) in (
          made ++ copy ∷ [],
          inr (
            copy,
            join_of sig pairs keep left right row copy (record { written = canonical.written; canonical = λ _. canonical }) same j.exact
                (λ ls rs hl hr. sorted (picked (ls ++ rs) keep) (kept ls rs hl hr)),
            refl,
          ),
        )
  ]

module _ (sig : Signature) (sound : IsSound sig) (pairs : List Columns) (keep : List ℕ) where
  joins_from : (done : List Two) (made : List (List Term)) (twos : List Two) → AreJoined sig pairs keep done made → ((p : Two) → IsIn p twos → AreJoinable sig p.0 p.1 pairs) → (all : List (List Term)) × AreJoined sig pairs keep (done ++ twos) all
  joins_from done made [] a h = (made, subst (λ z. AreJoined sig pairs keep z made) (sym (append-nil done)) a)
  joins_from done made (p ∷ twos) a h =
      let (more, m) = one_more sig sound p.0 p.1 pairs (h p first) keep made in
      let found = joins_from (done ++ p ∷ []) more twos (joined_one sig pairs keep done made p.0 p.1 more a m) (λ q i. h q (later i)) in
      (found.0, subst (λ z. AreJoined sig pairs keep z found.0) (append_assoc done (p ∷ []) twos) found.1)

  pub join_exists : (left right : List (List Term)) → MayJoin sig left right pairs keep → (ls rs : List ℕ) → AllHaveSorts sig left ls → AllHaveSorts sig right rs
      → (rel : List (List Term)) × IsRelation sig (picked (ls ++ rs) keep) (IsGlued sig (Agrees pairs keep) left right) rel
  join_exists left right may ls rs hl hr =
      let joinable : (p : Two) → IsIn p (all_pairs left right) → AreJoinable sig p.0 p.1 pairs = λ p i. let both = pairs-in p left right i in (may_meet sig left right pairs keep may p.0 p.1 both.0 both.1).joinable in
      let (made, a) = joins_from [] [] (all_pairs left right) (joined_none sig pairs keep) joinable in
      let (rel, r) = relation_exists sig sound made (picked (ls ++ rs) keep) (joined_sorts sig pairs keep left right made a ls rs hl hr) in
      (rel, joined_relation sig pairs keep left right made a (picked (ls ++ rs) keep) rel r)
