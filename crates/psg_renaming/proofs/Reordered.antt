-- A relation with the columns of its keys in another order passes the limit where the first one does.
use Rattle.std.proofs.Common.{◌≡◌, ◌⊎◌, ◌↔◌, inl, inr, ℕ, ◌+◌, min, false, List, ◌++◌, map, length, refl, ap, ap₂, sym, ◌∙◌, length-append}
use Rattle.std.proofs.lemmas.Bool.{cases_lt}
use Rattle.std.proofs.lemmas.List.{length-map}
use Rattle.psg_terms.specs.Names.{has_twice}
use Rattle.psg_terms.specs.Terms.{Term}
use Rattle.psg_terms.specs.Signature.{Signature}
use Rattle.psg_terms.specs.Sound.{IsSound}
use Rattle.psg_terms.specs.Instances.{substitute}
use Rattle.psg_terms.specs.Relations.{IsRelation}
use Rattle.psg_terms.specs.Weight.{PassesLimit, weight_of}
use Rattle.psg_terms.proofs.OneRelation.{same_rows}
use Rattle.psg_grammar.specs.Keys.{Key}
use Rattle.psg_grammar.specs.Legal.{Entities}
use Rattle.psg_relation.specs.Choices.{picked, all_picked, AllWithin, IsProjected}
use Rattle.psg_relation.specs.Heavy.{deepest_of}
use Rattle.psg_relation.proofs.Columns.{all_sorted, projected}
use Rattle.psg_relation.proofs.Existing.{relation_exists}
use Rattle.psg_relation.proofs.Weights.{some_pass, passes_by, within_by}
use Rattle.psg_relation.specs.Fewer.{FewerColumns}
use Rattle.psg_renaming.proofs.Picking.{AreAmong, places, shifted, taken, taken_once, taken_within}

-- rows pass the limit or not
pub limit_cases : (rows : List (List Term)) → PassesLimit rows ⊎ (PassesLimit rows → ⊥)
limit_cases rows =
    let weight = min (weight_of rows) 18446744073709551615 in
    let deepest = min (deepest_of rows) 18446744073709551615 in
    elim (cases_lt 16384 weight) [
      | inl heavy ↦ inl (passes_by rows weight deepest refl refl (inl heavy))
      | inr light ↦ elim (cases_lt 1000 deepest) [
        | inl deep ↦ inl (passes_by rows weight deepest refl refl (inr deep))
        | inr flat ↦ inr (within_by rows weight deepest refl refl light flat)
      ]
    ]

-- some relation of the family passes the limit
abbrev pub SomePasses : Signature → {C : Type 0} → (C → List Term → Type 0) → Type 0
SomePasses sig P = (rows : List (List Term)) × ((sorts : List ℕ) × IsRelation sig sorts P rows) × PassesLimit rows

-- Families of sets of rows without variables: each set of the first that is not empty is one of the second, and each of
-- the second is a part of one of the first.
module _ (sig : Signature) (sorts : List ℕ) {C D : Type 0} (P : C → List Term → Type 0) (Q : D → List Term → Type 0)
    (there : (c : C) (columns : List Term) → P c columns → (d : D) × ((x : List Term) → P c x ↔ Q d x))
    (back : (d : D) (columns : List Term) → Q d columns → (c : C) × ((x : List Term) → Q d x → P c x)) where
  pub carried : (rows : List (List Term)) → IsRelation sig sorts P rows → IsRelation sig sorts Q rows
  carried rows rel = record {
    shapes = λ row h.
        let s = rel.shapes row h in
        let (d, both) = there s.choice s.some.0 s.some.1 in
        record {
          canonical = s.canonical;
          sorted = s.sorted;
          choice = d;
          some = (s.some.0, (both s.some.0).0 s.some.1);
          exact = λ x. (λ g. (both x).0 ((s.exact x).0 g), λ q. (s.exact x).1 ((both x).1 q));
        };
    covers = λ d columns q.
        let (c, up) = back d columns q in
        let (k, h, all) = rel.covers c columns (up columns q) in
        (k, h, λ x r. all x (up x r));
    apart = rel.apart;
    once = rel.once;
    order = rel.order;
  }

-- the columns: some in front, and the entities of the keys
abbrev pub Family : {C : Type 0} → (C → List Term → Entities → Type 0) → List Key → C → List Term → Type 0
Family Core ks c columns = (front : List Term) × (g : Entities) × Core c front g × (columns ≡ front ++ map g ks)

module _ (sig : Signature) (sound : IsSound sig) {C : Type 0} (Core : C → List Term → Entities → Type 0) (m : ℕ) (count : (c : C) (front : List Term) (g : Entities) → Core c front g → length front ≡ m) where
  -- of the relation with the keys in one order there is one with the keys in the other order, which is its projection
  pub record Turned (ms ks : List Key) (sorts : List ℕ) (rows : List (List Term)) : Type 0 where
    pub made : List (List Term)
    pub projection : IsRelation sig (picked sorts (shifted m (places ms ks)))
        (IsProjected sig rows (shifted m (places ms ks))) made
    pub relation : IsRelation sig (picked sorts (shifted m (places ms ks))) (Family Core ks) made

  module _ (ms ks : List Key) (down : AreAmong ks ms) (up : AreAmong ms ks) (sorts : List ℕ) (rows : List (List Term)) (rel : IsRelation sig sorts (Family Core ms) rows) where
    abbrev keep : List ℕ
    keep = shifted m (places ms ks)

    pick : (c : C) (front : List Term) (g : Entities) → Core c front g
        → picked (front ++ map g ms) keep ≡ front ++ map g ks
    pick c front g core = taken g m front ms ks (count c front g core) down

    to_family : (row columns : List Term) → IsProjected sig rows keep row columns
        → (c : C) × ((x : List Term) → IsProjected sig rows keep row x ↔ Family Core ks c x)
    to_family row columns (there, (full, inst, e)) =
        let s = rel.shapes row there in (
          s.choice,
          λ x. (
            λ (i, (all, instance, d)).
                let (front, g, core, same) = (s.exact all).0 instance in
                (front, g, core, d ∙ ap (λ r. picked r keep) same ∙ pick s.choice front g core),
            λ (front, g, core, same). (
              there,
              (
                front ++ map g ms,
                (s.exact (front ++ map g ms)).1 (front, g, core, refl),
                same ∙ sym
                    (pick s.choice front g core),
              ),
            ),
          ),
        )

    from_family : (c : C) (columns : List Term) → Family Core ks c columns
        → (row : List Term) × ((x : List Term) → Family Core ks c x → IsProjected sig rows keep row x)
    from_family c columns (front, g, core, same) =
        let (row, there, all) = rel.covers c (front ++ map g ms) (front, g, core, refl) in (
          row,
          λ x (other, h, own, equal). (
            there,
            (
              other ++ map h ms,
              all (other ++ map h ms) (other, h, own, refl),
              equal
                  ∙ sym (pick c other h own),
            ),
          ),
        )

    -- rows that are the projection are the relation with the keys in the other order
    pub taken_rows : (made : List (List Term)) → IsRelation sig (picked sorts keep) (IsProjected sig rows keep) made
        → IsRelation sig (picked sorts keep) (Family Core ks) made
    taken_rows made p =
        carried sig (picked sorts keep) (IsProjected sig rows keep) (Family Core ks) to_family from_family made p

    pub turned : Turned ms ks sorts rows
    turned =
        let (made, projection) = relation_exists sig sound (all_picked rows keep) (picked sorts keep)
        (all_sorted sig rows keep sorts (λ row h. (rel.shapes row h).sorted)) in
        let p = projected sig rows keep (picked sorts keep) made projection in
        record {
          made = made;
          projection = p;
          relation = carried sig (picked sorts keep) (IsProjected sig rows keep)
              (Family Core ks) to_family from_family made p;
        }

  -- all columns are there
  all_within : (ms ks : List Key) → AreAmong ks ms → (sorts : List ℕ) (rows : List (List Term))
      → IsRelation sig sorts (Family Core ms) rows → AllWithin rows (shifted m (places ms ks))
  all_within ms ks down sorts rows rel row h =
      let s = rel.shapes row h in
      let (x, possible) = s.some in
      let (f, grounding, instance) = (s.exact x).1 possible in
      let (front, g, core, same) = possible in
      taken_within m (length row) ms ks down
      (sym (length-map row (substitute f)) ∙ ap length (sym instance ∙ same) ∙ length-append front (map g ms) ∙ ap₂
      (λ a b. a + b) (count s.choice front g core) (length-map ms g))

  pub reordered : FewerColumns sig → (ms ks : List Key) → AreAmong ks ms → AreAmong ms ks → has_twice ms ≡ false
      → SomePasses sig (Family Core ms) → SomePasses sig (Family Core ks)
  reordered fewer ms ks down up once (rows, (sorts, rel), passes) =
      let t = turned ms ks down up sorts rows rel in
      let there = picked sorts (shifted m (places ms ks)) in
      let u = turned ks ms up down there t.made t.relation in
      let again : PassesLimit u.made = some_pass rows u.made rel.once
      (same_rows sig sound (Family Core ms) sorts
      (picked there (shifted m (places ks ms))) rows u.made rel u.relation) passes in
      elim (limit_cases t.made) [
        | inl wide ↦ (t.made, (there, t.relation), wide)
        | inr light ↦ absurd
            (fewer there t.made (shifted m (places ks ms)) (λ row h. (t.relation.shapes row h).sorted)
            (all_within ks ms up there t.made t.relation)
            (taken_once m ks ms once up) light u.made u.projection again)
      ]
