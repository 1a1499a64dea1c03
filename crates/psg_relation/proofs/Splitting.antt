-- Steps of splitting and ordering rows, and what the most general ones are then.
use Rattle.std.proofs.Common.{◌≡◌, ◌≤◌, inl, inr, true, false, List, [], ◌∷◌, ◌++◌, length, refl, sym, ◌∙◌, subst, arith}
use Rattle.std.specs.List.Sorted.{IsPermutation}
use Rattle.std.proofs.lemmas.List.Sorted.{IsPermutation-sym, Contains-permutation}
use Rattle.psg_terms.proofs.Lists.{in_left}
use Rattle.psg_terms.specs.Terms.{Term}
use Rattle.psg_terms.specs.Relations.{IsIn, first, later}
use Rattle.psg_terms.specs.Signature.{Signature}
use Rattle.psg_terms.specs.Text.{IsInTextOrder}
use Rattle.psg_relation.specs.Heavy.{IsHeavy}
use Rattle.psg_relation.specs.Sifted.{AreCovered, IsSifted, IsSplit, IsHalved, HasSameRows, IsLightly, LosesHeavy, StartsHeavy}
use Rattle.psg_relation.proofs.Members.{in-last, in-split, in-contains, contains-in}
use Rattle.psg_relation.proofs.Growing.{instance-refl, sifted_none}

push-in : (x row : List Term) (done more : List (List Term)) → (IsIn x done → IsIn x more) → IsIn x (done ++ row ∷ []) → IsIn x (more ++ row ∷ [])
push-in x row done more h i = elim (in-split x row done i) [
  | inl a ↦ in_left x more (row ∷ []) (h a)
  | inr e ↦ subst (λ z. IsIn z (more ++ row ∷ [])) (sym e) (in-last row more)
]

pub split_none : IsSplit [] [] []
split_none = record { lights = λ row h. elim h [ ]; heavies = λ row h. elim h [ ]; all = λ row h. elim h [ ] }

split_light : (done light heavy : List (List Term)) (row : List Term) → IsSplit done light heavy → (IsHeavy row → ⊥) → IsSplit (done ++ row ∷ []) (light ++ row ∷ []) heavy
split_light done light heavy row s small = record {
  lights = λ x h. elim (in-split x row light h) [
    | inl a ↦ (in_left x done (row ∷ []) (s.lights x a).0, (s.lights x a).1)
    | inr e ↦ (subst (λ z. IsIn z (done ++ row ∷ [])) (sym e) (in-last row done), λ w. small (subst IsHeavy e w))
  ];
  heavies = λ x h. (in_left x done (row ∷ []) (s.heavies x h).0, (s.heavies x h).1);
  all = λ x h. elim (in-split x row done h) [
    | inl a ↦ elim (s.all x a) [ inl b ↦ inl (in_left x light (row ∷ []) b) | inr b ↦ inr b ]
    | inr e ↦ inl (subst (λ z. IsIn z (light ++ row ∷ [])) (sym e) (in-last row light))
  ];
}

split_heavy : (done light heavy : List (List Term)) (row : List Term) → IsSplit done light heavy → IsHeavy row → IsSplit (done ++ row ∷ []) light (heavy ++ row ∷ [])
split_heavy done light heavy row s large = record {
  lights = λ x h. (in_left x done (row ∷ []) (s.lights x h).0, (s.lights x h).1);
  heavies = λ x h. elim (in-split x row heavy h) [
    | inl a ↦ (in_left x done (row ∷ []) (s.heavies x a).0, (s.heavies x a).1)
    | inr e ↦ (subst (λ z. IsIn z (done ++ row ∷ [])) (sym e) (in-last row done), subst IsHeavy (sym e) large)
  ];
  all = λ x h. elim (in-split x row done h) [
    | inl a ↦ elim (s.all x a) [ inl b ↦ inl b | inr b ↦ inr (in_left x heavy (row ∷ []) b) ]
    | inr e ↦ inr (subst (λ z. IsIn z (heavy ++ row ∷ [])) (sym e) (in-last row heavy))
  ];
}

pub lights_next : (done light heavy : List (List Term)) (row : List Term) (more rest : List (List Term)) → IsSplit done light heavy → (IsHeavy row → ⊥) → more ≡ light ++ row ∷ [] → rest ≡ heavy → IsSplit (done ++ row ∷ []) more rest
lights_next done light heavy row more rest s small d e =
    subst (λ x. IsSplit (done ++ row ∷ []) x rest) (sym d) (subst (IsSplit (done ++ row ∷ []) (light ++ row ∷ [])) (sym e) (split_light done light heavy row s small))

pub heavies_next : (done light heavy : List (List Term)) (row : List Term) (more rest : List (List Term)) → IsSplit done light heavy → IsHeavy row → more ≡ heavy ++ row ∷ [] → rest ≡ light → IsSplit (done ++ row ∷ []) rest more
heavies_next done light heavy row more rest s large d e =
    subst (IsSplit (done ++ row ∷ []) rest) (sym d) (subst (λ x. IsSplit (done ++ row ∷ []) x (heavy ++ row ∷ [])) (sym e) (split_heavy done light heavy row s large))

pub same_push : (done once : List (List Term)) (row : List Term) → HasSameRows done once → HasSameRows (done ++ row ∷ []) (once ++ row ∷ [])
same_push done once row s = record { there = λ x. push-in x row done once (s.there x); back = λ x. push-in x row once done (s.back x) }

pub same_repeat : (done once : List (List Term)) (row : List Term) → HasSameRows done once → IsIn row done → HasSameRows (done ++ row ∷ []) once
same_repeat done once row s h = record {
  there = λ x i. elim (in-split x row done i) [ inl a ↦ s.there x a | inr e ↦ subst (λ z. IsIn z once) (sym e) (s.there row h) ];
  back = λ x i. in_left x done (row ∷ []) (s.back x i);
}

same_permuted : (rows sorted : List (List Term)) → IsPermutation rows sorted → HasSameRows rows sorted
same_permuted rows sorted p = record {
  there = λ x h. contains-in x sorted (Contains-permutation rows sorted x p (in-contains x rows h));
  back = λ x h. contains-in x rows (Contains-permutation sorted rows x (IsPermutation-sym rows sorted p) (in-contains x sorted h));
}

module _ (rows light heavy sorted once kept : List (List Term)) (s : IsSplit rows light heavy) (p : IsPermutation light sorted) (q : HasSameRows sorted once) (m : IsSifted once kept) where
  to_once : (x : List Term) → IsIn x light → IsIn x once
  to_once x h = q.there x ((same_permuted light sorted p).there x h)

  from_once : (x : List Term) → IsIn x once → IsIn x light
  from_once x h = (same_permuted light sorted p).back x (q.back x h)

  sifted_light : IsSifted light kept
  sifted_light = record {
    among = λ k h. from_once k (m.among k h);
    covers = λ x h. m.covers x (to_once x h);
    apart = m.apart;
    once = m.once;
  }

  pub halved : IsHalved rows kept heavy
  halved = record { light = light; split = s; sifted = sifted_light }

-- Of rows that were sifted by size those that are too large are instances of kept ones, or one is not.
pub lightly : (rows kept heavy : List (List Term)) → IsHalved rows kept heavy → AreCovered true kept heavy → IsLightly rows kept
lightly rows kept heavy h covered = record {
  sifted = record {
    among = λ k i. (h.split.lights k (h.sifted.among k i)).0;
    covers = λ row i. elim (h.split.all row i) [ inl a ↦ h.sifted.covers row a | inr b ↦ covered row b ];
    apart = h.sifted.apart;
    once = h.sifted.once;
  };
  lights = λ k i. (h.split.lights k (h.sifted.among k i)).1;
}

pub losing : (rows kept heavy : List (List Term)) → IsHalved rows kept heavy → AreCovered false kept heavy → LosesHeavy rows
losing rows kept heavy h (row, there, uncovered) = record {
  light = h.light;
  kept = kept;
  sifted = h.sifted;
  lights = λ x i. (h.split.lights x i).0;
  all = λ x i. elim (h.split.all x i) [ inl a ↦ inl a | inr b ↦ inr (h.split.heavies x b).1 ];
  row = row;
  there = (h.split.heavies row there).0;
  uncovered = uncovered;
}

-- one row or none
only : (x row : List Term) → IsIn x (row ∷ []) → x ≡ row
only x row first = refl
only x row (later h) = elim h [ ]

pub alone_light : (rows : List (List Term)) → length rows ≤ 1 → (StartsHeavy rows → ⊥) → IsLightly rows rows
alone_light [] l small = record { sifted = sifted_none; lights = λ k h. elim h [ ] }
alone_light (row ∷ []) l small = record {
  sifted = record {
    among = λ k h. h;
    covers = λ r h. (r, h, instance-refl r);
    apart = λ k other h g i. only k row h ∙ sym (only other row g);
    once = (λ h. elim h [ ], tt);
  };
  lights = λ k h w. small (subst IsHeavy (only k row h) w);
}
alone_light (row ∷ other ∷ rows) l small = absurd (omega arith)

pub alone_heavy : (rows : List (List Term)) → length rows ≤ 1 → StartsHeavy rows → LosesHeavy rows
alone_heavy [] l w = absurd w
alone_heavy (row ∷ []) l w = record {
  light = [];
  kept = [];
  sifted = sifted_none;
  lights = λ r h. elim h [ ];
  all = λ r h. inr (subst IsHeavy (sym (only r row h)) w);
  row = row;
  there = first;
  uncovered = λ (k, h, i). elim h [ ];
}
alone_heavy (row ∷ other ∷ rows) l w = absurd (omega arith)

pub alone_ordered : (sig : Signature) (rows : List (List Term)) → length rows ≤ 1 → IsInTextOrder sig rows
alone_ordered sig [] l = tt
alone_ordered sig (row ∷ []) l = tt
alone_ordered sig (row ∷ other ∷ rows) l = absurd (omega arith)
