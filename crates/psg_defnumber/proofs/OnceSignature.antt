-- The lines of a file spell one signature.
use Rattle.std.proofs.Common.{◌≡◌, ℕ, false, List, map, ap, ◌∙◌, Some, slice_get}
use Rattle.psg_terms.proofs.Lists.{slice_get-map_some}
use Rattle.psg_terms.specs.Names.{has_twice}
use Rattle.psg_terms.specs.Signature.{Symbol}
use Rattle.psg_terms.specs.Declarations.{AreDistinct}
use Rattle.psg_terms.proofs.DeclareFaults.{symbol_names}
use Rattle.psg_terms.proofs.Spelled.{one_signature, one_place}
use Rattle.psg_grammar.specs.declared.types.Definition.{Definition}
use Rattle.psg_deflines.specs.declared.lines.Line.{Line}
use Rattle.psg_defnumber.specs.Numbers.{sort_decls, IsNumbered}
use Rattle.psg_defnumber.proofs.OnceLaws.{decls-sorts, decls-constructors}

module _ {version : ℕ} (file : List Line) (d : Definition) (h : IsNumbered version file d) where
  distinct : AreDistinct (sort_decls file)
  distinct = record {
    sorts = ap has_twice (decls-sorts file) ∙ h.sorts_once;
    constructors = ap has_twice
        (decls-constructors 0 file) ∙ h.constructors_once;
  }

  pub sorts-once : has_twice d.signature.sorts ≡ false
  sorts-once = ap has_twice h.signature.sorts ∙ distinct.sorts

  pub symbols-once : (c e : ℕ) (s z : Symbol) → slice_get d.signature.symbols c ≡ Some s
      → slice_get d.signature.symbols e ≡ Some z → s.name ≡ z.name → c ≡ e
  symbols-once c e s z at at' name =
      let names = symbol_names (sort_decls file) d.signature h.signature in
      one_place (map (λ (s : Symbol). s.name) d.signature.symbols) c e z.name (ap has_twice names
      ∙ distinct.constructors)
      (slice_get-map_some (λ (s : Symbol). s.name) d.signature.symbols c s at ∙ ap Some name) (slice_get-map_some (λ
      (s : Symbol). s.name) d.signature.symbols e z at')

  pub signature-same : (e : Definition) → IsNumbered version file e → d.signature ≡ e.signature
  signature-same e k = one_signature (sort_decls file) d.signature e.signature distinct h.signature k.signature
