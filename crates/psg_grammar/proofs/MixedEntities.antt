-- Entities that are put together from two.
use Rattle.std.proofs.Common.{◌≡◌, inl, inr, true, cond, List, sym, subst}
use Rattle.std.proofs.lemmas.Bool.{cases_Bool}
use Rattle.psg_terms.specs.Signature.{HasSort}
use Rattle.psg_terms.specs.Instances.{IsGround}
use Rattle.psg_grammar.specs.declared.types.Definition.{Definition}
use Rattle.psg_grammar.specs.Keys.{Key}
use Rattle.psg_terms.specs.Names.{is_among}
use Rattle.psg_grammar.specs.Legal.{Entities, AreEntities}

-- the same entities for these names
abbrev pub SameOn : List Key → Entities → Entities → Type 0
SameOn names g h = (n : Key) → is_among names n ≡ true → g n ≡ h n

-- the entities of the one for the names, and of the other elsewhere
abbrev pub mixed : List Key → Entities → Entities → Entities
mixed names g h n = cond (is_among names n) (g n) (h n)

module _ (def : Definition) where
  pub mixed_entities : (names : List Key) (g h : Entities) → AreEntities def g → AreEntities def h
      → AreEntities def (mixed names g h)
  mixed_entities names g h p q = record {
    ground = λ n. elim (cases_Bool (is_among names n)) [
      | inl e ↦ subst (λ b. IsGround (cond b (g n) (h n))) (sym e) (p.ground n)
      | inr e ↦ subst (λ b. IsGround (cond b (g n) (h n))) (sym e) (q.ground n)
    ];
    sorted = λ n s at. elim (cases_Bool (is_among names n)) [
      | inl e ↦ subst (λ b. HasSort def.signature (cond b (g n) (h n)) s.sort.0) (sym e) (p.sorted n s at)
      | inr e ↦ subst (λ b. HasSort def.signature (cond b (g n) (h n)) s.sort.0) (sym e) (q.sorted n s at)
    ];
  }
