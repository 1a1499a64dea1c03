-- The placeholder of a phylum, by its name.
use Rattle.std.proofs.Common.{IsTrue, ◌≡◌, ◌↔◌, ℕ, Bool, Some, slice_get, bytes_eq, sym, ap, ◌∙◌}
use Rattle.std.proofs.lemmas.Slice.Eq.{bytes_eq-Decides}
use Rattle.psg_terms.specs.Names.{Name}
use Rattle.psg_grammar.specs.declared.types.Kind.TheVariants as kinds
use Rattle.psg_grammar.specs.declared.types.Phylum.{Phylum}
use Rattle.psg_grammar.specs.declared.types.Definition.{Definition}
use Rattle.psg_grammar.specs.Declaring.{HasHoles}
use Rattle.psg_class.specs.Terminals.{Terminal, a_hole}
use Rattle.psg_parse.specs.Tables.{OpensHole}

pub hole_iff : (def : Definition) (p : ℕ) (name : Name) (t : Terminal) (kind : Phylum) → t ≡ a_hole name → slice_get def.phyla p ≡ Some kind → HasHoles def (kinds.Phylum p)
    → (b : Bool) (x : Name) → b ≡ bytes_eq x name → x ≡ kind.name → IsTrue b ↔ OpensHole def p t
hole_iff def p name t kind is found holes b x e ex = (there, back) where
  there : IsTrue b → OpensHole def p t
  there h = let s : x ≡ name = (bytes_eq-Decides x name).0 (sym e ∙ h) in record { phylum = kind; found = found; holes = holes; is = is ∙ ap (λ z. a_hole z) (sym s ∙ ex) }

  back : OpensHole def p t → IsTrue b
  back h =
      let one : a_hole name ≡ a_hole h.phylum.name = sym is ∙ h.is in
      let n : name ≡ h.phylum.name = cc in
      let two : Some kind ≡ Some h.phylum = sym found ∙ h.found in
      let k : kind ≡ h.phylum = cc in
      e ∙ (bytes_eq-Decides x name).1 (ex ∙ ap (λ z. z.name) k ∙ sym n)
