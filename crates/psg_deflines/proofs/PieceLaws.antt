-- What begins in a specimen, and what ends there, by the first parts.
use Rattle.std.proofs.Common.{◌≡◌, ℕ, ◌+◌, Bool, true, false, cond, suc, List, ◌∷◌, drop, length, codes, inl, inr, refl, ap, ap₂, sym, ◌∙◌, subst, arith}
use Rattle.std.specs.Prelude.{Option, Some, None, MatchOption, MatchBool, option_map, is_some}
use Rattle.std.proofs.lemmas.Bool.{false≢true}
use Rattle.psg_grammar.specs.Sound.{is_upper, is_lower, is_name_from, IsOwnName}
use Rattle.psg_deflines.specs.WrittenTrees.{WrittenTree, operator, list_end, list_rest, place, is_digits}
use Rattle.psg_deflines.specs.TreeShapes.{ending}
use Rattle.psg_deflines.specs.TermWalks.{Parts, IsNotOpened}
use Rattle.psg_deflines.specs.TreeWalks.{in_operator, literal_part, IsLiteral, a_part, a_tree, a_frame, first_of, Begins, a_place, an_empty, a_rest, a_list, an_operator, a_leaf, a_literal, an_end, Finishes, comma, close, bracket, bar}
use Rattle.psg_deflines.specs.TreePieces.{HasNoPlace, IsPlaceKept, IsPlaceFound, Ends, a_plain_end, a_rest_end, HasNoEnd, AreShallow, IsEndFound, CanEnd, frame_of, IsFresh, HasNoLiteral, IsKeptTree, HasNoBegin, IsBeginRead, HasNoFinish, IsFinishRead}
use Rattle.psg_deflines.specs.declared.trees.LinePart.{LinePart}
use Rattle.psg_deflines.specs.declared.trees.LinePart.TheVariants as LineParts
use Rattle.psg_deflines.specs.declared.trees.LinePlace.{LinePlace}
use Rattle.psg_deflines.specs.declared.places.PlaceRead.{PlaceRead}
use Rattle.psg_deflines.specs.declared.places.EndRead.{EndRead}
use Rattle.psg_deflines.specs.declared.tree_pieces.OpenTree.{OpenTree}
use Rattle.psg_deflines.specs.declared.tree_pieces.TreeBegin.TheVariants as begins
use Rattle.psg_deflines.specs.declared.tree_pieces.TreeFinish.TheVariants as finishes
use Rattle.psg_deflines.proofs.QuoteLaws.{quoted-whole}
use Rattle.psg_deflines.proofs.PartReads.{rest_of, byte_of}
use Rattle.psg_deflines.proofs.TreeWalkLaws.{literal-no_own}
use Rattle.psg_deflines.proofs.PlaceLaws.{one-less}

pub not-some : {A : Type 0} (N : Type 0) (S : A → Type 0) (o : Option A) → is_some o ≡ false → MatchOption o N S → N
not-some N S None e h = h
not-some N S (Some x) e h = absurd (false≢true (sym e))

-- ---- places

pub place-begun : (ps : Parts) (read : PlaceRead) (tree : Option WrittenTree) → IsPlaceFound ps read → tree ≡ option_map (λ p. place p.kind p.term) read.place
    → IsBeginRead ps (record { begin = begins.Tree tree; taken = read.taken })
place-begun ps read tree h is = record {
  begin = a_tree (place h.kind h.term);
  fits = h.fits;
  begins = a_place h.kind h.term h.written h.name h.form refl;
  shown = (place h.kind h.term, refl, refl, subst (λ o. IsKeptTree o (place h.kind h.term)) (sym is) (kept read.place h.kept));
}
  where
    kept : (o : Option LinePlace) → IsPlaceKept o h.kind h.term → IsKeptTree (option_map (λ p. place p.kind p.term) o) (place h.kind h.term)
    kept None k = λ s. k s.0
    kept (Some p) k = (ap₂ place k.0 k.1, (k.2, tt))

-- ---- lists

drop-one : (n : ℕ) (p : List ℕ) (ps : Parts) → drop (n + 1) (p ∷ ps) ≡ drop n ps
drop-one n p ps = let e : n + 1 ≡ suc n = omega arith in ap (λ m. drop m (p ∷ ps)) e

no-own : (p : List ℕ) → p ≡ codes "[" → IsOwnName p → ⊥
no-own p e h = false≢true (subst IsOwnName e h)

own-hole : (p : List ℕ) → p ≡ codes "hole" → IsOwnName p
own-hole p e = subst IsOwnName (sym e) refl

literal-not_own : (l : LinePart) (p : List ℕ) → IsLiteral l → p ≡ literal_part l → IsOwnName p → ⊥
literal-not_own l p h e k = false≢true (sym (literal-no_own l h) ∙ ap (is_name_from is_lower) (sym e) ∙ k)

literal-not_list : (l : LinePart) → IsLiteral l → codes "[" ≡ literal_part l → ⊥
literal-not_list (LineParts.Tree t) h e = h
literal-not_list (LineParts.Name n) h e = omega (arith, ap byte_of e)
literal-not_list (LineParts.Number d) h e = false≢true (subst (λ x. is_digits x ≡ true) (sym e) h.0)
literal-not_list (LineParts.Text w) h e = omega (arith, ap byte_of (e ∙ quoted-whole w))

pub no-list-begun : (ps : Parts) → CanEnd ps → HasNoEnd ps → HasNoBegin (codes "[" ∷ ps)
no-list-begun ps can none b rest (a_place k t e h f c) = omega (arith, ap (λ x. byte_of (first_of x)) e)
no-list-begun ps can none b rest (an_empty e c) = none list_end rest (a_plain_end (ap rest_of e) refl)
no-list-begun ps can none b rest (a_rest k t e h f c) = none (list_rest k t) rest (a_rest_end k t (ap rest_of e) h f refl)
no-list-begun ps can none b rest (a_list e g c) = going can (ap (λ x. first_of (rest_of x)) e)
  where
    going : CanEnd ps → first_of ps ≡ first_of rest → ⊥
    going (inl p) q = g.close (sym q ∙ p)
    going (inr p) q = g.bar (sym q ∙ p)
no-list-begun ps can none b rest (an_operator o e h n c) = no-own o (ap first_of (sym e)) h
no-list-begun ps can none b rest (a_leaf o e h n c) = no-own o (ap first_of (sym e)) h
no-list-begun ps can none b rest (a_literal l e h c) = literal-not_list l h (ap first_of e)

pub list-begun : (ps : Parts) (read : EndRead) (tree : Option WrittenTree) → IsEndFound ps read → tree ≡ cond read.end.deep None (Some (ending read.end.rest))
    → IsBeginRead (codes "[" ∷ ps) (record { begin = begins.Tree tree; taken = read.taken + 1 })
list-begun ps read tree h is = record {
  begin = a_tree h.end;
  fits = omega (arith, h.fits);
  begins = subst (Begins (codes "[" ∷ ps) (a_tree h.end)) (sym (drop-one read.taken (codes "[") ps)) (begun h.end (drop read.taken ps) h.ends);
  shown = (h.end, refl, h.shown.0, subst (λ o. IsKeptTree o h.end) (sym is) (kept read.end.deep h.shown.1));
}
  where
    begun : (e : WrittenTree) (rest : Parts) → Ends ps e rest → Begins (codes "[" ∷ ps) (a_tree e) rest
    begun e rest (a_plain_end w f) = an_empty (ap (λ x. codes "[" ∷ x) w) (ap a_tree f)
    begun e rest (a_rest_end k t w n f g) = a_rest k t (ap (λ x. codes "[" ∷ x) w) n f (ap a_tree g)

    kept : (d : Bool) → MatchBool d (AreShallow h.end → ⊥) ((ending read.end.rest ≡ h.end) × AreShallow h.end) → IsKeptTree (cond d None (Some (ending read.end.rest))) h.end
    kept true k = k
    kept false k = k

-- ---- operators

module _ (ps rest : Parts) (name : List ℕ) (whole : ps ≡ name ∷ rest) (own : IsOwnName (first_of ps)) where
  is-own : IsOwnName name
  is-own = subst IsOwnName (ap first_of whole) own

  pub leaf-begun : (t : WrittenTree) → IsNotOpened rest → t ≡ operator name → IsBeginRead ps (record { begin = begins.Tree (Some t); taken = 1 })
  leaf-begun t apart is = record {
    begin = a_tree (operator name);
    fits = omega (arith, ap length whole);
    begins = a_leaf name (whole ∙ ap (λ x. name ∷ x) (one-less ps rest name whole)) is-own (subst IsNotOpened (one-less ps rest name whole) apart) refl;
    shown = (operator name, refl, refl, (is, tt));
  }

  pub frame-begun : (inside : Parts) (f : OpenTree) → rest ≡ codes "(" ∷ inside → is_name_from is_upper (first_of inside) ≡ false → frame_of f ≡ in_operator (operator name) → IsBeginRead ps (record { begin = begins.Frame f; taken = 2 })
  frame-begun inside f opened lower is =
      let all : ps ≡ name ∷ codes "(" ∷ inside = whole ∙ ap (λ x. name ∷ x) opened in
      let left : inside ≡ drop 2 ps = sym (ap (drop 2) all) in
      record {
        begin = a_frame (in_operator (operator name));
        fits = omega (arith, ap length all);
        begins = an_operator name (all ∙ ap (λ x. name ∷ codes "(" ∷ x) left) is-own (subst (λ x. is_name_from is_upper (first_of x) ≡ false) left lower) refl;
        shown = (ap a_frame (sym is), subst IsFresh (sym is) (refl, tt));
      }

  pub only-place : (inside : Parts) → rest ≡ codes "(" ∷ inside → is_name_from is_upper (first_of inside) ≡ true → HasNoPlace ps → HasNoBegin ps
  only-place inside opened upper none b left (a_place k t e h f c) = none k t left h f e
  only-place inside opened upper none b left (an_empty e c) = no-own (first_of ps) (ap first_of e) own
  only-place inside opened upper none b left (a_rest k t e h f c) = no-own (first_of ps) (ap first_of e) own
  only-place inside opened upper none b left (a_list e g c) = no-own (first_of ps) (ap first_of e) own
  only-place inside opened upper none b left (an_operator o e h n c) =
      let same : inside ≡ left = ap rest_of (sym opened ∙ ap rest_of (sym whole ∙ e)) in
      false≢true (sym (subst (λ x. is_name_from is_upper (first_of x) ≡ false) (sym same) n) ∙ upper)
  only-place inside opened upper none b left (a_leaf o e h n c) = n inside (sym (ap rest_of (sym whole ∙ e)) ∙ opened)
  only-place inside opened upper none b left (a_literal l e h c) = literal-not_own l (first_of ps) h (ap first_of e) own

-- ---- literals

pub no-literal-begun : (ps rest : Parts) (p : List ℕ) → ps ≡ p ∷ rest → (p ≡ codes "[" → ⊥) → (IsOwnName p → ⊥) → HasNoLiteral p → HasNoBegin ps
no-literal-begun ps rest p whole list own none b left (a_place k t e h f c) = own (own-hole p (ap first_of (sym whole ∙ e)))
no-literal-begun ps rest p whole list own none b left (an_empty e c) = list (ap first_of (sym whole ∙ e))
no-literal-begun ps rest p whole list own none b left (a_rest k t e h f c) = list (ap first_of (sym whole ∙ e))
no-literal-begun ps rest p whole list own none b left (a_list e g c) = list (ap first_of (sym whole ∙ e))
no-literal-begun ps rest p whole list own none b left (an_operator o e h n c) = own (subst IsOwnName (sym (ap first_of (sym whole ∙ e))) h)
no-literal-begun ps rest p whole list own none b left (a_leaf o e h n c) = own (subst IsOwnName (sym (ap first_of (sym whole ∙ e))) h)
no-literal-begun ps rest p whole list own none b left (a_literal l e h c) = none l h (ap first_of (sym whole ∙ e))

pub literal-begun : (ps rest : Parts) (p : List ℕ) (l : LinePart) → ps ≡ p ∷ rest → IsLiteral l → p ≡ literal_part l → IsBeginRead ps (record { begin = begins.Part l; taken = 1 })
literal-begun ps rest p l whole h e = record {
  begin = a_part l;
  fits = omega (arith, ap length whole);
  begins = a_literal l (whole ∙ ap₂ (λ x xs. x ∷ xs) e (one-less ps rest p whole)) h refl;
  shown = (refl, h);
}

-- ---- what ends

pub no-finish : (ps : Parts) → ((rest : Parts) → ps ≡ codes "," ∷ rest → ⊥) → ((rest : Parts) → ps ≡ codes ")" ∷ rest → ⊥) → HasNoEnd ps → HasNoFinish ps
no-finish ps c d none e rest (comma f g) = c rest f
no-finish ps c d none e rest (close f g) = d rest f
no-finish ps c d none e rest (bracket f g) = none list_end rest (a_plain_end f refl)
no-finish ps c d none e rest (bar k t f n h g) = none (list_rest k t) rest (a_rest_end k t f n h refl)

pub end-finish : (ps : Parts) (read : EndRead) → IsEndFound ps read → IsFinishRead ps (record { finish = finishes.End read.end; taken = read.taken })
end-finish ps read h = record { finish = an_end h.end; fits = h.fits; finishes = finish h.end (drop read.taken ps) h.ends; shown = (h.end, refl, h.shown) }
  where
    finish : (e : WrittenTree) (rest : Parts) → Ends ps e rest → Finishes ps (an_end e) rest
    finish e rest (a_plain_end w f) = bracket w (ap an_end f)
    finish e rest (a_rest_end k t w n f g) = bar k t w n f (ap an_end g)
