-- How trees begin, by the terminal of their first token.
use Rattle.std.proofs.Common.{IsTrue, ◌≡◌, ◌⊎◌, inl, inr, ◌↔◌, ℕ, Bool, true, false, Option, Some, None, refl, sym, ap, ◌∙◌, subst, true≢false}
use Rattle.std.specs.Prelude.{is_some}
use Rattle.psg_grammar.specs.declared.types.Definition.{Definition}
use Rattle.psg_terms.specs.Names.{Name}
use Rattle.psg_class.specs.Terminals.{Token, word, numeral, quoted, solo, symbols, placeholder, dots, Terminal, a_number, a_text, a_hole, a_more, fixed_if, is_run, is_word, word_terminal, terminal_of}
use Rattle.psg_lexis.specs.Classes.{is_solo}
use Rattle.psg_terms.specs.Names.{is_among}
use Rattle.psg_grammar.specs.WellFormed.{fixed_words}
use Rattle.psg_class.specs.Follow.{Leads, First, first_operator, first_hole, first_bracket}
use Rattle.psg_parse.specs.Lookups.{Finds}
use Rattle.psg_parse.specs.Tables.{OpensHole, OpensBracket}

hole_word : (a b : Bool) (w x : Name) → word_terminal w a b ≡ a_hole x → ⊥
hole_word true true w x e = cc
hole_word true false w x e = cc
hole_word false b w x e = cc

hole_fixed : (b : Bool) (w x : Name) → fixed_if b w ≡ a_hole x → ⊥
hole_fixed true w x e = cc
hole_fixed false w x e = cc

pub hole_token : (def : Definition) (t : Token) (x : Name) → terminal_of def t ≡ a_hole x → t ≡ placeholder x
hole_token def (word w) x e = absurd (hole_word (is_word w) (is_among (fixed_words def) w) w x e)
hole_token def (numeral n) x e = absurd (let y : a_number ≡ a_hole x = e in cc)
hole_token def (quoted w) x e = absurd (let y : a_text ≡ a_hole x = e in cc)
hole_token def (solo b) x e = absurd (hole_fixed (is_solo b) _ x e)
hole_token def (symbols w) x e = absurd (hole_fixed (is_run w) w x e)
hole_token def (placeholder w) x e = let y : a_hole w ≡ a_hole x = e in let z : w ≡ x = cc in ap (λ v. placeholder v) z
hole_token def dots x e = absurd (let y : a_more ≡ a_hole x = e in cc)

module _ (def : Definition) (p : ℕ) where
  first_cases : (t : Terminal) → First def p t → (OpensHole def p t ⊎ OpensBracket def p t) ⊎ ((n : ℕ) × Leads def p n t)
  first_cases t (first_operator n l) = inr (n, l)
  first_cases t (first_hole phylum found holes) = inl (inl (record { phylum = phylum; found = found; holes = holes; is = refl }))
  first_cases t (first_bracket phylum found bracketed) = inl (inr (record { phylum = phylum; found = found; bracketed = bracketed; is = refl }))

  pub hole_first : (t : Terminal) → OpensHole def p t → First def p t
  hole_first t h = subst (First def p) (sym h.is) (first_hole h.phylum h.found h.holes)

  pub bracket_first : (t : Terminal) → OpensBracket def p t → First def p t
  bracket_first t h = subst (First def p) (sym h.is) (first_bracket h.phylum h.found h.bracketed)

  pub nothing_opens : (t : Terminal) (h b : Bool) → (OpensHole def p t → IsTrue h) → h ≡ false → (OpensBracket def p t → IsTrue b) → b ≡ false → ((n : ℕ) → Leads def p n t → ⊥) → First def p t → ⊥
  nothing_opens t h b ho he bo be f x = elim (first_cases t x) [
    | inl y ↦ (elim y [ inl z ↦ absurd (true≢false (sym (ho z) ∙ he)) | inr z ↦ absurd (true≢false (sym (bo z) ∙ be)) ])
    | inr y ↦ f y.0 y.1
  ]

  pub opens_else : (t : Terminal) (h b : Bool) → (OpensHole def p t → IsTrue h) → h ≡ false → (OpensBracket def p t → IsTrue b) → b ≡ false
      → (found : Option ℕ) → Finds (λ n. Leads def p n t) found → (r : Bool) → r ≡ is_some found → IsTrue r ↔ First def p t
  opens_else t h b ho he bo be None f r e = (λ x. absurd (true≢false (sym x ∙ e)), λ x. absurd (nothing_opens t h b ho he bo be f x))
  opens_else t h b ho he bo be (Some n) f r e = (λ x. first_operator n f, λ x. e)
