-- Steps of keeping the most general rows.
use Rattle.std.proofs.Common.{◌≡◌, inl, inr, List, [], ◌∷◌, ◌++◌, map, refl, ap₂, sym, ◌∙◌, subst}
use Rattle.psg_terms.proofs.Lists.{in_left}
use Rattle.psg_terms.specs.Terms.{Term, variable, symbol, apply}
use Rattle.psg_terms.specs.Instances.{Substitution, substitute, IsGround, IsInstance}
use Rattle.psg_terms.specs.Relations.{IsIn}
use Rattle.psg_terms.proofs.InstanceLaws.{instance_trans, substitute-variable}
use Rattle.psg_relation.specs.Sifted.{AreGround, HoldsNone, IsCovered, IsSifted, LeavesOut, IsGrown}
use Rattle.psg_relation.proofs.Ordered.{order_push, order_skip}
use Rattle.psg_relation.proofs.Members.{in-last, in-split, once-push, once-split}

map-substitute-variable : (row : List Term) → map (substitute variable) row ≡ row
map-substitute-variable [] = refl
map-substitute-variable (t ∷ row) = ap₂ (λ x xs. x ∷ xs) (substitute-variable t) (map-substitute-variable row)

-- a row is an instance of itself
pub instance-refl : (row : List Term) → IsInstance row row
instance-refl row = (variable, sym (map-substitute-variable row))

pub out_none : (row : List Term) → LeavesOut row [] []
out_none row = record { among = λ k h. h; none = λ k h. elim h [ ]; stays = λ k h. elim h [ ]; order = λ test o. o; once = λ o. o }

pub out_keep : (row : List Term) (done rest : List (List Term)) (k : List Term) → LeavesOut row done rest → (IsInstance k row → ⊥) → LeavesOut row (done ++ k ∷ []) (rest ++ k ∷ [])
out_keep row done rest k l nope = record {
  among = λ x h. elim (in-split x k rest h) [ inl a ↦ in_left x done (k ∷ []) (l.among x a) | inr e ↦ subst (λ z. IsIn z (done ++ k ∷ [])) (sym e) (in-last k done) ];
  none = λ x h i. elim (in-split x k rest h) [ inl a ↦ l.none x a i | inr e ↦ nope (subst (λ z. IsInstance z row) e i) ];
  stays = λ x h. elim (in-split x k done h) [
    | inl a ↦ elim (l.stays x a) [ inl i ↦ inl i | inr b ↦ inr (in_left x rest (k ∷ []) b) ]
    | inr e ↦ inr (subst (λ z. IsIn z (rest ++ k ∷ [])) (sym e) (in-last k rest))
  ];
  order = order_push done rest k l.among l.order;
  once = λ o. let both = once-split done k o in once-push rest k (l.once both.0) (λ h. both.1 (l.among k h));
}

pub out_drop : (row : List Term) (done rest : List (List Term)) (k : List Term) → LeavesOut row done rest → IsInstance k row → LeavesOut row (done ++ k ∷ []) rest
out_drop row done rest k l i = record {
  among = λ x h. in_left x done (k ∷ []) (l.among x h);
  none = l.none;
  stays = λ x h. elim (in-split x k done h) [ inl a ↦ l.stays x a | inr e ↦ inl (subst (λ z. IsInstance z row) (sym e) i) ];
  order = order_skip done rest k l.order;
  once = λ o. l.once (once-split done k o).0;
}

pub sifted_none : IsSifted [] []
sifted_none = record { among = λ k h. h; covers = λ row h. elim h [ ]; apart = λ k other h. elim h [ ]; once = tt }

-- one row more
pub sifted_more : (done kept : List (List Term)) (row : List Term) (more : List (List Term)) → IsSifted done kept → IsGrown kept row more → IsSifted (done ++ row ∷ []) more
sifted_more done kept row more s (inl (covered, e)) = subst (IsSifted (done ++ row ∷ [])) (sym e) (record {
  among = λ k h. in_left k done (row ∷ []) (s.among k h);
  covers = λ r h. elim (in-split r row done h) [ inl a ↦ s.covers r a | inr d ↦ subst (IsCovered kept) (sym d) covered ];
  apart = s.apart;
  once = s.once;
})
sifted_more done kept row more s (inr (nope, (rest, l, e))) = subst (IsSifted (done ++ row ∷ [])) (sym e) (record {
  among = λ k h. elim (in-split k row rest h) [
    | inl a ↦ in_left k done (row ∷ []) (s.among k (l.among k a))
    | inr d ↦ subst (λ z. IsIn z (done ++ row ∷ [])) (sym d) (in-last row done)
  ];
  covers = λ r h. elim (in-split r row done h) [
    | inl a ↦ let (k, g, i) = s.covers r a in elim (l.stays k g) [
      | inl j ↦ (row, in-last row rest, instance_trans r k row i j)
      | inr b ↦ (k, in_left k rest (row ∷ []) b, i)
    ]
    | inr d ↦ (row, in-last row rest, subst (λ z. IsInstance z row) (sym d) (instance-refl row))
  ];
  apart = λ k other h g i. elim (in-split k row rest h) [
    | inl a ↦ elim (in-split other row rest g) [
      | inl b ↦ s.apart k other (l.among k a) (l.among other b) i
      | inr d ↦ absurd (l.none k a (subst (IsInstance k) d i))
    ]
    | inr c ↦ elim (in-split other row rest g) [
      | inl b ↦ absurd (nope (other, l.among other b, subst (λ z. IsInstance z other) c i))
      | inr d ↦ c ∙ sym d
    ]
  ];
  once = once-push rest row (l.once s.once) (λ h. nope (row, l.among row h, instance-refl row));
})

-- a row without variables has no instance but itself
ground-same : (f : Substitution) (t : Term) → IsGround t → substitute f t ≡ t
ground-same f (variable s n) h = absurd h
ground-same f (symbol c) h = refl
ground-same f (apply g a) (h, k) = ap₂ apply (ground-same f g h) (ground-same f a k)

all_ground-same : (f : Substitution) (row : List Term) → AreGround row → map (substitute f) row ≡ row
all_ground-same f [] h = refl
all_ground-same f (t ∷ row) (h, k) = ap₂ (λ x xs. x ∷ xs) (ground-same f t h) (all_ground-same f row k)

-- a row that is no instance, and has none
pub grown_last : (kept : List (List Term)) (row : List Term) (more : List (List Term)) → HoldsNone row kept → (IsCovered kept row → ⊥) → more ≡ kept ++ row ∷ [] → IsGrown kept row more
grown_last kept row more none nope e = inr (nope, (kept, record { among = λ k h. h; none = none; stays = λ k h. inr h; order = λ test o. o; once = λ o. o }, e))

pub grown_plain : (kept : List (List Term)) (row : List Term) (more : List (List Term)) → AreGround row → (IsCovered kept row → ⊥) → more ≡ kept ++ row ∷ [] → IsGrown kept row more
grown_plain kept row more plain nope e =
    grown_last kept row more (λ k h (f, d). nope (k, h, subst (λ z. IsInstance row z) (sym (d ∙ all_ground-same f row plain)) (instance-refl row))) nope e
