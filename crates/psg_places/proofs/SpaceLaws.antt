-- Which phyla declare, by a table of their spaces.
use Rattle.std.proofs.Common.{◌≡◌, ◌⊎◌, inl, inr, ℕ, zero, suc, ◌<◌, ◌||◌, Bool, true, false, List, [], ◌∷◌, length, Some, slice_get, refl, ap, sym, ◌∙◌, subst, arith, true≢false}
use Rattle.std.specs.Prelude.{Vec, Contains}
use Rattle.std.specs.declared.alloc.Global.{Global}
use Rattle.std.proofs.lemmas.Bool.{cases_Bool, cases_lt}
use Rattle.psg_terms.proofs.Lists.{slice_get_some}
use Rattle.psg_grammar.specs.declared.types.Kind.TheVariants as kinds
use Rattle.psg_grammar.specs.declared.types.Operator.{Operator}
use Rattle.psg_grammar.specs.declared.types.Definition.{Definition}
use Rattle.psg_grammar.specs.Declaring.{HasHoles, is_declaring}
use Rattle.psg_grammar.specs.DeclaringTables.{AreSpacesOf}
use Rattle.psg_grammar.specs.Sound.{IsSound}
use Rattle.psg_grammar.specs.Lookups.{operator_at}
use Rattle.psg_grammar.proofs.DeclaringLaws.{search_exact}
use Rattle.psg_grammar.proofs.PassLaws.{space_inside}
use Rattle.psg_grammar.proofs.SoundParts.{phylum_in}
use Rattle.psg_eval.specs.SpaceTables.{AreDeclaringSpaces}
use Rattle.psg_places.specs.Places.{declares, declares_among, declares_by}
use Rattle.psg_places.specs.Openings.{has_any, has_any_in, has_spaces}

pub same_bool : (b c : Bool) → (b ≡ true → c ≡ true) → (c ≡ true → b ≡ true) → b ≡ c
same_bool true true up down = refl
same_bool true false up down = sym (up refl)
same_bool false true up down = down refl
same_bool false false up down = refl

or_true : (a b : Bool) → a ≡ true → (a || b) ≡ true
or_true true b e = refl
or_true false b e = absurd (true≢false (sym e))

or_second : (a b : Bool) → b ≡ true → (a || b) ≡ true
or_second true b e = refl
or_second false b e = e

among_true : (def : Definition) (p n s : ℕ) → s < n → is_declaring def s (kinds.Phylum p) ≡ true
    → declares_among def n p ≡ true
among_true def p zero s lt e = absurd (omega (arith, lt))
among_true def p (suc n) s lt e = elim (cases_lt s n) [
  | inl below ↦ or_second (is_declaring def n (kinds.Phylum p)) (declares_among def n p) (among_true def p n s below e)
  | inr above ↦
      let same : s ≡ n = omega (arith, lt, above) in
      or_true (is_declaring def n (kinds.Phylum p)) (declares_among def n p)
      (subst (λ m. is_declaring def m (kinds.Phylum p) ≡ true) same e)
]

either : (a b : Bool) → (a || b) ≡ true → (a ≡ true) ⊎ (b ≡ true)
either true b e = inl refl
either false b e = inr e

among_some : (def : Definition) (p n : ℕ) → declares_among def n p ≡ true
    → (s : ℕ) × (is_declaring def s (kinds.Phylum p) ≡ true)
among_some def p zero e = absurd (true≢false (sym e))
among_some def p (suc n) e = elim (either (is_declaring def n (kinds.Phylum p)) (declares_among def n p) e) [
  | inl h ↦ (n, h)
  | inr h ↦ among_some def p n h
]

any_contains : (xs : List ℕ) → has_any xs ≡ true → (s : ℕ) × Contains xs s
any_contains [] e = absurd (true≢false (sym e))
any_contains (s ∷ rest) e = (s, (zero, omega arith, refl))

contains_any : (xs : List ℕ) (s : ℕ) → Contains xs s → has_any xs ≡ true
contains_any [] s (k, lt, e) = absurd (omega (arith, lt))
contains_any (x ∷ xs) s c = refl

module _ (def : Definition) (sound : IsSound def) where
  -- a phylum that does not declare has placeholders
  pub quiet : (p : ℕ) → declares def p ≡ false → HasHoles def (kinds.Phylum p)
  quiet p e s = elim (cases_Bool (is_declaring def s (kinds.Phylum p))) [
    | inl t ↦
        let d = (search_exact def sound s (kinds.Phylum p)).0 t in
        let inside = space_inside def sound s (kinds.Phylum p) d in
        absurd (true≢false (sym (among_true def p (length def.spaces) s inside t) ∙ e))
    | inr f ↦ f
  ]

  module _ (table : List (Vec ℕ Global)) (h : AreDeclaringSpaces def table) where
    found_spaces : (p : ℕ) (v : Vec ℕ Global) → slice_get table p ≡ Some v → has_any v.items ≡ declares def p
    found_spaces p v at =
        let of : AreSpacesOf def p v.items = h.exact p v at in
        same_bool (has_any v.items) (declares def p)
        (λ t.
        let (s, c) = any_contains v.items t in
        let d = (of.exact s).0 c in
        among_true def p (length def.spaces) s (space_inside def sound s (kinds.Phylum p) d)
        ((search_exact def sound s (kinds.Phylum p)).1 d))
        (λ t.
        let (s, e) = among_some def p (length def.spaces) t in
        contains_any v.items s ((of.exact s).1 ((search_exact def sound s (kinds.Phylum p)).0 e)))

    pub table_declares : (p : ℕ) → p < length def.phyla → has_spaces table p ≡ declares def p
    table_declares p lt =
        let (v, at) = slice_get_some table p (subst (λ n. p < n) (sym h.one_each) lt) in
        ap has_any_in at ∙ found_spaces p v at

    -- of an operator that is there
    pub operator_declares : (o : ℕ) (op : Operator) → operator_at def o ≡ Some op
        → has_spaces table op.phylum ≡ declares_by def (operator_at def o)
    operator_declares o op at =
        table_declares op.phylum (phylum_in def sound o op at) ∙ ap (declares_by def) (sym at)
