-- Some entities for all keys, and families that are those of rows.
use Rattle.std.proofs.Common.{◌≡◌, ◌↔◌, ℕ, suc, ◌<◌, List, [], ◌∷◌, length, Option, Some, None, refl, sym, subst}
use Rattle.psg_terms.proofs.Lists.{each_at}
use Rattle.std.specs.List.{slice_get}
use Rattle.psg_terms.specs.Terms.{Term, symbol}
use Rattle.psg_terms.specs.Signature.{Signature, HasSort}
use Rattle.psg_terms.specs.Instances.{IsGround, IsGroundInstance}
use Rattle.psg_terms.specs.Relations.{IsIn, first, later, IsRelation}
use Rattle.psg_terms.proofs.SoundChoices.{choices}
use Rattle.psg_grammar.specs.declared.types.Space.{Space}
use Rattle.psg_grammar.specs.declared.types.Definition.{Definition}
use Rattle.psg_grammar.specs.Keys.{space_of}
use Rattle.psg_grammar.specs.Legal.{Entities, AreEntities}
use Rattle.psg_grammar.specs.Sound.{IsSound}
use Rattle.psg_relation.specs.Choices.{IsOfRow}
use Rattle.psg_relation.proofs.Relating.{carried}

module _ (def : Definition) (sound : IsSound def) where
  abbrev some_term : ℕ → Term
  some_term s = (choices def.signature sound.signature).some s

  -- a term of the space's sort
  abbrev pub entity_of : Option Space → Term
  entity_of None = symbol 0
  entity_of (Some e) = some_term e.sort.0

  abbrev pub usual : Entities
  usual n = entity_of (slice_get def.spaces (space_of n))

  space_sort : (n : ℕ) (e : Space) → slice_get def.spaces n ≡ Some e → e.sort.0 < length def.signature.sorts
  space_sort n e at = each_at (λ (s : Space). s.sort.0 < length def.signature.sorts) def.spaces sound.space_sorts n e at

  pub usual_entities : AreEntities def usual
  usual_entities = record {
    ground = λ n. elim (slice_get def.spaces (space_of n)) as (λ o. slice_get def.spaces (space_of n) ≡ o → IsGround (entity_of o)) [
      | None ↦ λ e. tt
      | Some s ↦ λ e. (choices def.signature sound.signature).some_ground s.sort.0 (space_sort (space_of n) s e)
    ] refl;
    sorted = λ n e at. subst (λ o. HasSort def.signature (entity_of o) e.sort.0) (sym at) ((choices def.signature sound.signature).some_sorted e.sort.0 (space_sort (space_of n) e at));
  }

pub place_of_member : {X : Type 0} (xs : List X) (x : X) → IsIn x xs → (r : ℕ) × (slice_get xs r ≡ Some x)
place_of_member [] x h = elim h [ ]
place_of_member (y ∷ xs) x first = (0, refl)
place_of_member (y ∷ xs) x (later h) = let (r, e) = place_of_member xs x h in (suc r, e)

-- a family whose sets are the ground instances of rows has the relation of the rows
module _ (sig : Signature) (ss : List ℕ) {C : Type 0} (Q : C → List Term → Type 0) (rows : List (List Term))
    (forth : (row : List Term) → IsIn row rows → (c : C) × ((x : List Term) → IsGroundInstance sig row x ↔ Q c x))
    (back : (c : C) (columns : List Term) → Q c columns → (row : List Term) × IsIn row rows × ((x : List Term) → IsGroundInstance sig row x ↔ Q c x)) where
  pub of_rows : (made : List (List Term)) → IsRelation sig ss (IsOfRow sig rows) made → IsRelation sig ss Q made
  of_rows made rel =
      carried sig ss (IsOfRow sig rows) Q
      (λ row columns h. let (c, both) = forth row h.0 in (c, λ x. ((λ o. (both x).0 o.1), (λ q. (h.0, (both x).1 q)))))
      (λ c columns q. let (row, there, both) = back c columns q in (row, λ x. ((λ o. (both x).0 o.1), (λ p. (there, (both x).1 p)))))
      made rel
