-- A phylum declares where the spaces in which it does are not none.
use Rattle.std.proofs.Common.{◌≡◌, ◌↔◌, ℕ, ◌==◌, Bool, not, List, [], ◌∷◌, length, IsTrue, Vec, vec_len, slice_get, get_or, Some, ◌<◌, refl, sym, ap, ◌∙◌, subst, arith}
use Rattle.std.specs.declared.alloc.Global.{Global}
use Rattle.std.proofs.lemmas.Bool.{true≢false}
use Rattle.std.proofs.lemmas.Option.{slice_get_read}
use Rattle.psg_terms.proofs.Lists.{suc_is_not_zero}
use Rattle.psg_grammar.specs.declared.types.Kind.TheVariants as kinds
use Rattle.psg_grammar.specs.declared.types.Definition.{Definition}
use Rattle.psg_grammar.specs.DeclaringTables.{AreSpacesOf}
use Rattle.psg_grammar.specs.Sound.{IsSound}
use Rattle.psg_grammar.proofs.DeclaringLaws.{search_exact}
use Rattle.psg_eval.specs.SpaceTables.{AreDeclaringSpaces}
use Rattle.psg_specimen.specs.Languages.{IsDeclaringPhylum}

pub declaring_exact : (def : Definition) → IsSound def → (p : ℕ) (spaces : List ℕ) → AreSpacesOf def p spaces
    → IsTrue (not (length spaces == 0)) ↔ IsDeclaringPhylum def (kinds.Phylum p)
declaring_exact def sound p [] are = (
  (λ h. absurd (true≢false (sym h))),
  (λ (s, e). let there = (are.exact s).1 ((search_exact def sound s (kinds.Phylum p)).0 e) in absurd
      (omega (arith, there.1))),
)
declaring_exact def sound p (s ∷ rest) are = (
  (λ h. (s, (search_exact def sound s (kinds.Phylum p)).1 ((are.exact s).0 (0, omega arith, refl)))),
  (λ h. ap not (suc_is_not_zero (length rest))),
)

-- of a phylum whose spaces stand in the table of all
pub phylum_declares : (def : Definition) → IsSound def → (table : List (Vec ℕ Global)) → AreDeclaringSpaces def table
    → (p : ℕ) → p < length def.phyla
    → (v : Vec ℕ Global) (none : Bool) → v ≡ get_or table p v → none ≡ (vec_len v == 0)
    → IsTrue (not none) ↔ IsDeclaringPhylum def (kinds.Phylum p)
phylum_declares def sound table are p small v none at told =
    let within : p < length table = omega (arith, are.one_each) in
    let here : slice_get table p ≡ Some v = slice_get_read table (length table) p v refl within at in
    let exact = declaring_exact def sound p v.items (are.exact p v here) in
    let same : none ≡ (length v.items == 0) = told ∙ ap (λ n. n == 0) v.ok.0 in
    ((λ h. exact.0 (subst (λ b. IsTrue (not b)) same h)), (λ h. subst (λ b. IsTrue (not b)) (sym same) (exact.1 h)))
