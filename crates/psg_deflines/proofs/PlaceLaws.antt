-- Hole places, and the ends of lists, from parts of a line.
use Rattle.std.proofs.Common.{◌≡◌, ℕ, ◌+◌, Bool, true, false, zero, suc, List, [], ◌∷◌, ◌++◌, drop, length, length-drop, codes, refl, ap, ap₂, sym, ◌∙◌, subst, arith}
use Rattle.std.specs.Prelude.{Option, Some, None, MatchBool, option_map, is_some, not}
use Rattle.psg_terms.specs.Names.{Name}
use Rattle.psg_grammar.specs.Sound.{IsKindName}
use Rattle.psg_deflines.specs.WrittenTerms.{WrittenTerm, term_parts}
use Rattle.psg_deflines.specs.WrittenTrees.{list_end, list_rest, place_parts}
use Rattle.psg_deflines.specs.TreeShapes.{ending}
use Rattle.psg_deflines.specs.TermWalks.{Parts, HasNoTerm, IsTermFound, IsKept}
use Rattle.psg_deflines.specs.TreePieces.{HasNoHead, HasNoPlace, place_of, IsPlaceKept, IsPlaceFound, a_plain_end, a_rest_end, HasNoEnd, AreShallow, IsEndFound}
use Rattle.psg_deflines.specs.declared.trees.LinePlace.{LinePlace}
use Rattle.psg_deflines.specs.declared.term_reading.TermRead.{TermRead}
use Rattle.psg_deflines.specs.declared.places.PlaceRead.{PlaceRead}
use Rattle.psg_deflines.specs.declared.places.EndRead.{EndRead}
use Rattle.psg_deflines.proofs.PartReads.{first_of, rest_of, byte_of}
use Rattle.psg_deflines.proofs.TreeWalkLaws.{not-opened-close, place-whole, place-same}

pub one-less : (ps rest : Parts) (p : List ℕ) → ps ≡ p ∷ rest → rest ≡ drop 1 ps
one-less ps rest p e = sym (ap (drop 1) e)

drop-four : (n : ℕ) (a b c d : List ℕ) (xs : Parts) → drop (n + 5) (a ∷ b ∷ c ∷ d ∷ xs) ≡ drop (n + 1) xs
drop-four n a b c d xs = let e : n + 5 ≡ suc (suc (suc (suc (n + 1)))) = omega arith in ap (λ m. drop m (a ∷ b ∷ c ∷ d ∷ xs)) e

drop-one : (n : ℕ) (a : List ℕ) (xs : Parts) → drop (n + 2) (a ∷ xs) ≡ drop (n + 1) xs
drop-one n a xs = let e : n + 2 ≡ suc (n + 1) = omega arith in ap (λ m. drop m (a ∷ xs)) e

drop-next : (n : ℕ) (xs : Parts) (p : List ℕ) (rest : Parts) → drop n xs ≡ p ∷ rest → drop (n + 1) xs ≡ rest
drop-next zero xs p rest e = ap (drop 1) e
drop-next (suc n) [] p rest e = absurd (omega (arith, ap length e))
drop-next (suc n) (x ∷ xs) p rest e = let f : suc n + 1 ≡ suc (n + 1) = omega arith in ap (λ m. drop m (x ∷ xs)) f ∙ drop-next n xs p rest e

-- one is the other turned round
pub turned : (a b : Bool) → a ≡ not b → b ≡ not a
turned a true e = ap not (sym e)
turned a false e = ap not (sym e)

-- what stands behind the kind and its comma
pub head-of : (k : Name) (t : WrittenTerm) (ps rest : Parts) → ps ≡ place_parts k t ++ rest → ps ≡ codes "hole" ∷ codes "(" ∷ k ∷ codes "," ∷ (term_parts t ++ (codes ")" ∷ rest))
head-of k t ps rest e = e ∙ place-whole k t rest

pub no-head : (ps : Parts) → HasNoHead ps → HasNoPlace ps
no-head ps none k t rest name form e = none k (term_parts t ++ (codes ")" ∷ rest)) (head-of k t ps rest e)

-- the parts begin with the head of a place
module _ (ps inside : Parts) (name : Name) (whole : ps ≡ codes "hole" ∷ codes "(" ∷ name ∷ codes "," ∷ inside) where
  behind-head : (k : Name) (t : WrittenTerm) (rest : Parts) → ps ≡ place_parts k t ++ rest → (k ≡ name) × (inside ≡ term_parts t ++ (codes ")" ∷ rest))
  behind-head k t rest e =
      let same = sym (head-of k t ps rest e) ∙ whole in
      (ap (λ x. first_of (rest_of (rest_of x))) same, sym (ap (λ x. rest_of (rest_of (rest_of (rest_of x)))) same))

  pub no-kind : (IsKindName name → ⊥) → HasNoPlace ps
  no-kind none k t rest kind form e = none (subst IsKindName (behind-head k t rest e).0 kind)

  pub no-term : HasNoTerm inside → HasNoPlace ps
  no-term none k t rest kind form e = none t (codes ")" ∷ rest) form (behind-head k t rest e).1 (not-opened-close rest)

  pub no-close : (found : TermRead) → IsTermFound inside found → ((rest : Parts) → drop found.taken inside ≡ codes ")" ∷ rest → ⊥) → HasNoPlace ps
  no-close found h none k t rest kind form e =
      none rest (sym (h.read.only t (codes ")" ∷ rest) form (behind-head k t rest e).1 (not-opened-close rest)).1)

  drop-more : (n : ℕ) (rest : Parts) → drop n inside ≡ codes ")" ∷ rest → drop (n + 5) ps ≡ rest
  drop-more n rest e = ap (drop (n + 5)) whole ∙ drop-four n (codes "hole") (codes "(") name (codes ",") inside ∙ drop-next n inside (codes ")") rest e

  pub place-found : (found : TermRead) (read : PlaceRead) (rest : Parts) → IsKindName name → IsTermFound inside found → drop found.taken inside ≡ codes ")" ∷ rest
      → read.place ≡ option_map (place_of name) found.term → read.taken ≡ found.taken + 5 → IsPlaceFound ps read
  place-found found read rest kind h closed place taken = record {
    kind = name;
    term = h.term;
    fits = omega (arith, h.fits, taken, ap length whole, ap length closed, length-drop found.taken inside);
    name = kind;
    form = h.read.form;
    written = whole ∙ ap (λ x. codes "hole" ∷ codes "(" ∷ name ∷ codes "," ∷ x) (h.read.written ∙ ap (λ x. term_parts h.term ++ x) (closed ∙ ap (λ x. codes ")" ∷ x) (sym (drop-more found.taken rest closed))))
        ∙ sym (place-whole name h.term (drop (found.taken + 5) ps)) ∙ ap (λ n. place_parts name h.term ++ drop n ps) (sym taken);
    kept = subst (λ o. IsPlaceKept o name h.term) (sym place) (place-kept found.term h.kept);
  }
    where
      place-kept : (o : Option WrittenTerm) → IsKept o h.term → IsPlaceKept (option_map (place_of name) o) name h.term
      place-kept None k = k
      place-kept (Some x) k = (refl, k.0, k.1)

-- ---- the end of a list

pub plain-end : (ps rest : Parts) (found : EndRead) → ps ≡ codes "]" ∷ rest → found.end.rest ≡ None → found.end.deep ≡ false → found.taken ≡ 1 → IsEndFound ps found
plain-end ps rest found e none off taken = record {
  end = list_end;
  fits = omega (arith, taken, ap length e);
  ends = a_plain_end (e ∙ ap (λ x. codes "]" ∷ x) (one-less ps rest (codes "]") e ∙ ap (λ n. drop n ps) (sym taken))) refl;
  shown = (refl, subst (λ b. MatchBool b (AreShallow list_end → ⊥) ((ending found.end.rest ≡ list_end) × AreShallow list_end)) (sym off) (ap ending none, tt));
}

pub no-end : (ps : Parts) → ((rest : Parts) → ps ≡ codes "]" ∷ rest → ⊥) → ((rest : Parts) → ps ≡ codes "|" ∷ rest → ⊥) → HasNoEnd ps
no-end ps plain bar e rest (a_plain_end w f) = plain rest w
no-end ps plain bar e rest (a_rest_end k t w name form f) = bar (place_parts k t ++ (codes "]" ∷ rest)) w

module _ (ps inside : Parts) (whole : ps ≡ codes "|" ∷ inside) where
  not-plain : (rest : Parts) → ps ≡ codes "]" ∷ rest → ⊥
  not-plain rest e = omega (arith, ap (λ x. byte_of (first_of x)) (sym whole ∙ e))

  pub no-place-end : HasNoPlace inside → HasNoEnd ps
  no-place-end none e rest (a_plain_end w f) = not-plain rest w
  no-place-end none e rest (a_rest_end k t w name form f) = none k t (codes "]" ∷ rest) name form (ap rest_of (sym whole ∙ w))

  pub no-bracket-end : (found : PlaceRead) → IsPlaceFound inside found → ((rest : Parts) → drop found.taken inside ≡ codes "]" ∷ rest → ⊥) → HasNoEnd ps
  no-bracket-end found h none e rest (a_plain_end w f) = not-plain rest w
  no-bracket-end found h none e rest (a_rest_end k t w name form f) =
      none rest (place-same h.kind k h.term t (drop found.taken inside) (codes "]" ∷ rest) h.form form (sym h.written ∙ ap rest_of (sym whole ∙ w))).2

  drop-behind : (n : ℕ) (rest : Parts) → drop n inside ≡ codes "]" ∷ rest → drop (n + 2) ps ≡ rest
  drop-behind n rest e = ap (drop (n + 2)) whole ∙ drop-one n (codes "|") inside ∙ drop-next n inside (codes "]") rest e

  pub rest-end : (found : PlaceRead) (read : EndRead) (rest : Parts) → IsPlaceFound inside found → drop found.taken inside ≡ codes "]" ∷ rest
      → read.end.rest ≡ found.place → read.end.deep ≡ not (is_some found.place) → read.taken ≡ found.taken + 2 → IsEndFound ps read
  rest-end found read rest h closed place deep taken = record {
    end = list_rest h.kind h.term;
    fits = omega (arith, taken, ap length whole, ap length closed, length-drop found.taken inside);
    ends = a_rest_end h.kind h.term (whole ∙ ap (λ x. codes "|" ∷ x) (h.written ∙ ap (λ x. place_parts h.kind h.term ++ x) (closed ∙ ap (λ x. codes "]" ∷ x) (sym (drop-behind found.taken rest closed) ∙ ap (λ n. drop n ps) (sym taken))))) h.name h.form refl;
    shown = (
      refl,
      subst (λ b. MatchBool b (AreShallow (list_rest h.kind h.term) → ⊥) ((ending read.end.rest ≡ list_rest h.kind h.term) × AreShallow (list_rest h.kind h.term))) (sym deep)
          (subst (λ o. MatchBool (not (is_some found.place)) (AreShallow (list_rest h.kind h.term) → ⊥) ((ending o ≡ list_rest h.kind h.term) × AreShallow (list_rest h.kind h.term))) (sym place) (shown found.place h.kept)),
    );
  }
    where
      shown : (o : Option LinePlace) → IsPlaceKept o h.kind h.term → MatchBool (not (is_some o)) (AreShallow (list_rest h.kind h.term) → ⊥) ((ending o ≡ list_rest h.kind h.term) × AreShallow (list_rest h.kind h.term))
      shown None k = λ s. k s.0
      shown (Some p) k = (ap₂ list_rest k.0 k.1, (k.2, tt))
