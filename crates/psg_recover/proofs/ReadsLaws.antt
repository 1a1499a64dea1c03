-- Which names of placeholders the language does not have.
use Rattle.std.proofs.Common.{◌≡◌, ◌↔◌, ◌⊎◌, IsTrue, ℕ, suc, ◌+◌, ◌<◌, ◌≤◌, Bool, true, false, cond, List, [], ◌∷◌, drop, get_or, length, refl, sym, ap, ◌∙◌, subst, add-one, inl, inr, arith}
use Rattle.std.specs.Prelude.{bytes_eq}
use Rattle.std.proofs.lemmas.Bool.{cases_Bool}
use Rattle.std.proofs.lemmas.List.{drop_all}
use Rattle.psg_terms.specs.Names.{Name}
use Rattle.psg_terms.proofs.DeclareLaws.{bytes_eq-refl, bytes_eq-same}
use Rattle.psg_terms.proofs.Lists.{drop_item}
use Rattle.psg_terms.proofs.Variables.{true_false}
use Rattle.psg_grammar.specs.declared.types.Phylum.{Phylum}
use Rattle.psg_grammar.specs.declared.types.Definition.{Definition}
use Rattle.psg_places.specs.Places.{declares}
use Rattle.psg_recover.specs.Reads.{is_declaring_name}

module _ (def : Definition) (phyla : List Phylum) (i : ℕ) (p : Phylum) (name : Name) (lt : i < length phyla) (at : p ≡ get_or phyla i p) (b : Bool) where
  abbrev rest : List Phylum
  rest = drop (i + 1) phyla

  pub declaring_here : IsTrue b → IsTrue b ↔ (p.name ≡ name) → (d : Bool) → d ≡ declares def i → d ≡ is_declaring_name def i (drop i phyla) name
  declaring_here holds iff d is =
      let test : bytes_eq p.name name ≡ true = ap (bytes_eq p.name) (sym (iff.0 holds)) ∙ bytes_eq-refl p.name in
      is ∙ sym (ap (λ (l : List Phylum). is_declaring_name def i l name) (drop_item phyla i p lt at) ∙ ap (λ (c : Bool). cond c (declares def i) (is_declaring_name def (suc i) rest name)) test)

  pub declaring_next : b ≡ false → IsTrue b ↔ (p.name ≡ name) → is_declaring_name def (i + 1) (drop (i + 1) phyla) name ≡ is_declaring_name def i (drop i phyla) name
  declaring_next not_same iff =
      let test : bytes_eq p.name name ≡ false = other (cases_Bool (bytes_eq p.name name)) in
      ap (λ (n : ℕ). is_declaring_name def n rest name) (add-one i)
      ∙ sym (ap (λ (l : List Phylum). is_declaring_name def i l name) (drop_item phyla i p lt at) ∙ ap (λ (c : Bool). cond c (declares def i) (is_declaring_name def (suc i) rest name)) test)
    where
      other : (bytes_eq p.name name ≡ true) ⊎ (bytes_eq p.name name ≡ false) → bytes_eq p.name name ≡ false
      other (inl e) = absurd (true_false (sym (iff.1 (bytes_eq-same p.name name e)) ∙ not_same))
      other (inr e) = e

pub declaring_none : (def : Definition) (phyla : List Phylum) (i : ℕ) (name : Name) → length phyla ≤ i → false ≡ is_declaring_name def i (drop i phyla) name
declaring_none def phyla i name le = sym (ap (λ (l : List Phylum). is_declaring_name def i l name) (drop_all i phyla le))
