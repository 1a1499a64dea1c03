-- A fragment has one relation, since it is that of one family.
use Rattle.std.proofs.Common.{◌≡◌, ◌≢◌, ◌↔◌, ℕ, ◌+◌, ◌<◌, ◌^◌, ◌==◌, ◌&&◌, ◌||◌, nat_le, Bool, true, false, List, [], ◌∷◌, map, length, inl, inr, ◌⊎◌, refl, sym, ◌∙◌, ap, arith, true≢false, eqb-true}
use Rattle.std.specs.List.{AllByRecursion, list_all}
use Rattle.std.proofs.lemmas.Bool.{and_parts}
use Rattle.psg_terms.specs.Terms.{Term}
use Rattle.psg_terms.specs.Names.{Name}
use Rattle.psg_terms.specs.Signature.{Symbol}
use Rattle.psg_terms.specs.Relations.{IsIn, IsMaximal}
use Rattle.psg_terms.specs.Text.{row_text}
use Rattle.psg_terms.specs.Weight.{weight_of}
use Rattle.psg_terms.specs.Clear.{IsClear, HasClearNames}
use Rattle.psg_terms.proofs.RelationLaws.{row_is_maximal}
use Rattle.psg_terms.proofs.RowOrder as order
use Rattle.psg_terms.proofs.OneRelation as relation
use Rattle.psg_grammar.specs.declared.types.Definition.{Definition}
use Rattle.psg_grammar.specs.Fragments.{Fragment}
use Rattle.psg_grammar.specs.Relations.{IsPossible, IsRelationOf}
use Rattle.psg_grammar.specs.Sound.{IsSound, IsOwnName, between, is_upper, is_lower, is_digit, goes_on_name}

-- ---- own names are clear

-- a test that the characters between names fail tells clear ones
clear_by : (test : ℕ → Bool) → test 32 ≡ false → test 40 ≡ false → test 41 ≡ false → test 44 ≡ false → test 63 ≡ false → (c : ℕ) → test c ≡ true → IsClear c
clear_by test a b d e f c h = (
  (λ i. true≢false (sym h ∙ ap test i ∙ a)),
  (λ i. true≢false (sym h ∙ ap test i ∙ b)),
  (λ i. true≢false (sym h ∙ ap test i ∙ d)),
  (λ i. true≢false (sym h ∙ ap test i ∙ e)),
  (λ i. true≢false (sym h ∙ ap test i ∙ f)),
)

clear_rest : (cs : Name) → list_all goes_on_name cs ≡ true → AllByRecursion IsClear cs
clear_rest [] h = tt
clear_rest (c ∷ cs) h = (
  clear_by goes_on_name refl refl refl refl refl c (and_parts (goes_on_name c) (list_all goes_on_name cs) h).0,
  clear_rest cs (and_parts (goes_on_name c) (list_all goes_on_name cs) h).1,
)

clear_name : (n : Name) → IsOwnName n → AllByRecursion IsClear n
clear_name [] h = absurd (true≢false (sym h))
clear_name (c ∷ cs) h =
    let front = and_parts (is_lower c) (list_all goes_on_name cs) (and_parts (is_lower c && list_all goes_on_name cs) (nat_le (length cs) 63) h).0 in (
      clear_by is_lower refl refl refl refl refl c front.0,
      clear_rest cs front.1,
    )

clear_names : (symbols : List Symbol) → AllByRecursion (λ (s : Symbol). IsOwnName s.name) symbols → AllByRecursion (λ (s : Symbol). AllByRecursion IsClear s.name) symbols
clear_names [] h = tt
clear_names (s ∷ symbols) h = (clear_name s.name h.0, clear_names symbols h.1)

-- ---- one relation

module _ (def : Definition) (sound : IsSound def) where
  pub rows_are_maximal : (f : Fragment) (rows : List (List Term)) (relation : IsRelationOf def f rows) (row : List Term)
      → IsIn row rows ↔ IsMaximal def.signature relation.0 (IsPossible def f) row
  rows_are_maximal f rows relation row = row_is_maximal def.signature sound.signature relation.0 (IsPossible def f) rows relation.1 row

  pub same_rows : (f : Fragment) (rows others : List (List Term)) → IsRelationOf def f rows → IsRelationOf def f others
      → (row : List Term) → IsIn row rows → IsIn row others
  same_rows f rows others (ls, l) (rs, r) row h = relation.same_rows def.signature sound.signature (IsPossible def f) ls rs rows others l r row h

  pub same_texts : (f : Fragment) (rows others : List (List Term)) → IsRelationOf def f rows → IsRelationOf def f others
      → map (row_text def.signature) rows ≡ map (row_text def.signature) others
  same_texts f rows others (ls, l) (rs, r) = order.same_row_texts def.signature sound.signature (IsPossible def f) ls rs rows others l r

  pub one_list : (f : Fragment) (rows others : List (List Term)) → IsRelationOf def f rows → IsRelationOf def f others → weight_of rows < 2 ^ 64 → rows ≡ others
  one_list f rows others (ls, l) (rs, r) small =
      order.one_list def.signature sound.signature (IsPossible def f) ls rs rows others l r (clear_names def.signature.symbols sound.constructor_names) small
