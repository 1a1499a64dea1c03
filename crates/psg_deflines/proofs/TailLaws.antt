-- Terms and a specimen from parts of a line.
use Rattle.std.proofs.Common.{◌≡◌, ℕ, ◌+◌, ◌<◌, ◌≤◌, List, [], ◌∷◌, ◌++◌, drop, length, length-append, length-drop, append_assoc, append-nil, codes, inl, inr, refl, ap, sym, ◌∙◌, subst, arith}
use Rattle.std.specs.Prelude.{Option, Some, None, ◌⊎◌}
use Rattle.std.specs.List.{AllByRecursion}
use Rattle.std.proofs.lemmas.List.{drop-drop, nil_from_length}
use Rattle.std.proofs.lemmas.Bool.{false≢true}
use Rattle.psg_grammar.specs.Sound.{IsOwnName}
use Rattle.psg_deflines.specs.WrittenTerms.{WrittenTerm, variable, named, apply, term_parts, opened, HasTermForm}
use Rattle.psg_deflines.specs.WrittenTrees.{WrittenTree, tree_parts}
use Rattle.psg_deflines.specs.Forms.{terms_parts, columns_parts, by_parts, HasFormBehindBy}
use Rattle.psg_deflines.specs.TermWalks.{Parts, IsNotOpened, HasNoTerm, IsKept, IsTermFound}
use Rattle.psg_deflines.specs.TailReads.{AreTerms, AreKept, AreTermsFound, HaveNoTerms, IsNotColon, IsBehind, IsBehindFound, HasNothingBehind, IsTail, IsTailFound, HasNoTail, AreColumns, AreColumnsFound, HaveNoColumns}
use Rattle.psg_deflines.specs.declared.term_reading.TermRead.{TermRead}
use Rattle.psg_deflines.specs.TreeReads.{HasNoTree, IsTreeFound, IsTreeKept}
use Rattle.psg_deflines.specs.declared.tree_reading.TreeRead.{TreeRead}
use Rattle.psg_deflines.specs.declared.tails.TermsRead.{TermsRead}
use Rattle.psg_deflines.specs.declared.tails.Behind.{Behind}
use Rattle.psg_deflines.specs.declared.tails.Tail.{Tail}
use Rattle.psg_deflines.proofs.PartReads.{first_byte, rest_of, byte_of}

-- a term begins with no bracket, no colon, and with a part
own-no_bracket : (n : List ℕ) → IsOwnName n → n ≡ codes "(" → ⊥
own-no_bracket n h e = false≢true (subst IsOwnName e h)

opened-front : (f : WrittenTerm) → HasTermForm f → (more : Parts) → (p : List ℕ) × (rest : Parts) × (opened f ++ more ≡ p ∷ rest) × (p ≡ codes "(" → ⊥)
opened-front (variable n) h more = (63 ∷ n, codes "(" ∷ more, refl, λ e. omega (arith, ap byte_of e))
opened-front (named n) h more = (n, codes "(" ∷ more, refl, own-no_bracket n h)
opened-front (apply f a) h more =
    let front = opened-front f h.1 (term_parts a ++ (codes "," ∷ more)) in
    (front.0, front.1, append_assoc (opened f ++ term_parts a) (codes "," ∷ []) more ∙ append_assoc (opened f) (term_parts a) (codes "," ∷ more) ∙ front.2, front.3)

pub term-front : (t : WrittenTerm) → HasTermForm t → (more : Parts) → (p : List ℕ) × (rest : Parts) × (term_parts t ++ more ≡ p ∷ rest) × (p ≡ codes "(" → ⊥)
term-front (variable n) h more = (63 ∷ n, more, refl, λ e. omega (arith, ap byte_of e))
term-front (named n) h more = (n, more, refl, own-no_bracket n h)
term-front (apply f a) h more =
    let front = opened-front f h.1 (term_parts a ++ (codes ")" ∷ more)) in
    (front.0, front.1, append_assoc (opened f ++ term_parts a) (codes ")" ∷ []) more ∙ append_assoc (opened f) (term_parts a) (codes ")" ∷ more) ∙ front.2, front.3)

pub term-apart : (t : WrittenTerm) → HasTermForm t → (more : Parts) → IsNotOpened (term_parts t ++ more)
term-apart t h more rest e = let front = term-front t h more in let same : front.0 ≡ codes "(" = cc (front.2, e) in front.3 same

pub term-long : (t : WrittenTerm) → HasTermForm t → (more : Parts) → 0 < length (term_parts t ++ more)
term-long t h more = let front = term-front t h more in omega (arith, ap length front.2)

pub terms-apart : (ts : List WrittenTerm) → AllByRecursion HasTermForm ts → (rest : Parts) → IsNotOpened rest → IsNotOpened (terms_parts ts ++ rest)
terms-apart [] h rest k = k
terms-apart (t ∷ ts) h rest k = subst IsNotOpened (sym (append_assoc (term_parts t) (terms_parts ts) rest)) (term-apart t h.0 (terms_parts ts ++ rest))

-- ---- the loop over terms: what was read, and what may follow

pub record AreTermsTo (most : ℕ) (ps : Parts) (kept : Option (List WrittenTerm)) (count taken : ℕ) : Type 0 where
  pub terms : List WrittenTerm
  pub fits : taken ≤ length ps
  pub size : count ≡ length terms
  pub forms : AllByRecursion HasTermForm terms
  pub written : ps ≡ terms_parts terms ++ drop taken ps
  pub complete : (whole : List WrittenTerm) (rest : Parts) → AreTerms most rest ps whole → IsNotOpened rest
      → (tail : List WrittenTerm) × (whole ≡ terms ++ tail) × AllByRecursion HasTermForm tail × (drop taken ps ≡ terms_parts tail ++ rest)
  pub is : AreKept kept terms

pub terms-start : (most : ℕ) (ps : Parts) (kept : Option (List WrittenTerm)) → kept ≡ Some [] → AreTermsTo most ps kept 0 0
terms-start most ps kept e = record {
  terms = [];
  fits = omega arith;
  size = refl;
  forms = tt;
  written = refl;
  complete = λ whole rest h apart. (whole, refl, h.forms, h.written);
  is = subst (λ k. AreKept k []) (sym e) (refl, tt);
}

all-append : (P : WrittenTerm → Type 0) (xs ys : List WrittenTerm) → AllByRecursion P xs → AllByRecursion P ys → AllByRecursion P (xs ++ ys)
all-append P [] ys h k = k
all-append P (x ∷ xs) ys h k = (h.0, all-append P xs ys h.1 k)

terms_parts-append : (xs ys : List WrittenTerm) → terms_parts (xs ++ ys) ≡ terms_parts xs ++ terms_parts ys
terms_parts-append [] ys = refl
terms_parts-append (x ∷ xs) ys = ap (λ z. term_parts x ++ z) (terms_parts-append xs ys) ∙ sym (append_assoc (term_parts x) (terms_parts xs) (terms_parts ys))

-- nothing is left, or enough was read
pub stops : (most : ℕ) (ps : Parts) (ts : List WrittenTerm) (taken : ℕ) (rest : Parts) (whole tail : List WrittenTerm) → AreTerms most rest ps whole → whole ≡ ts ++ tail → AllByRecursion HasTermForm tail
    → drop taken ps ≡ terms_parts tail ++ rest → (length ts ≡ most) ⊎ (drop taken ps ≡ []) → tail ≡ []
stops most ps ts taken rest whole [] h e forms left at = refl
stops most ps ts taken rest whole (t ∷ tail) h e forms left (inl full) = absurd (omega (arith, h.few, ap length e, length-append ts (t ∷ tail)))
stops most ps ts taken rest whole (t ∷ tail) h e forms left (inr none) =
    absurd (omega (arith, term-long t forms.0 (terms_parts tail ++ rest), ap length (sym (append_assoc (term_parts t) (terms_parts tail) rest) ∙ sym left ∙ none)))

-- where a term must follow, one does
follows : (most : ℕ) (ps : Parts) (ts : List WrittenTerm) (taken : ℕ) (rest : Parts) (whole tail : List WrittenTerm) → AreTerms most rest ps whole → whole ≡ ts ++ tail → AllByRecursion HasTermForm tail
    → drop taken ps ≡ terms_parts tail ++ rest → length ts < most → 0 < length (drop taken ps)
    → (t : WrittenTerm) × (more : List WrittenTerm) × (tail ≡ t ∷ more) × HasTermForm t × AllByRecursion HasTermForm more × (drop taken ps ≡ term_parts t ++ (terms_parts more ++ rest))
follows most ps ts taken rest whole [] h e forms left few long = elim h.full [
  | inl full ↦ absurd (omega (arith, ap length (e ∙ append-nil ts)))
  | inr none ↦ absurd (omega (arith, ap length (left ∙ none)))
]
follows most ps ts taken rest whole (t ∷ more) h e forms left few long = (t, more, refl, forms.0, forms.1, left ∙ append_assoc (term_parts t) (terms_parts more) rest)

pub terms-more : (most : ℕ) (ps : Parts) (kept new : Option (List WrittenTerm)) (count taken : ℕ) (read : TermRead) → (h : AreTermsTo most ps kept count taken) → count < most → taken < length ps
    → IsTermFound (drop taken ps) read → ((ts : List WrittenTerm) (t : WrittenTerm) → AreKept kept ts → IsKept read.term t → AreKept new (ts ++ t ∷ []))
    → AreTermsTo most ps new (count + 1) (taken + read.taken)
terms-more most ps kept new count taken read h few long found keep =
    let t : WrittenTerm = found.term in
    let left : drop read.taken (drop taken ps) ≡ drop (taken + read.taken) ps = drop-drop read.taken taken ps in
    record {
      terms = h.terms ++ t ∷ [];
      fits = omega (arith, h.fits, found.fits, length-drop taken ps);
      size = omega (arith, h.size, length-append h.terms (t ∷ []));
      forms = all-append HasTermForm h.terms (t ∷ []) h.forms (found.read.form, tt);
      written = h.written ∙ ap (λ x. terms_parts h.terms ++ x) (found.read.written ∙ ap (λ x. term_parts t ++ x) left)
          ∙ sym (append_assoc (terms_parts h.terms) (term_parts t) (drop (taken + read.taken) ps))
          ∙ ap (λ x. x ++ drop (taken + read.taken) ps) (ap (λ x. terms_parts h.terms ++ x) (sym (append-nil (term_parts t))) ∙ sym (terms_parts-append h.terms (t ∷ [])));
      complete = λ whole rest whole_is apart.
          let done = h.complete whole rest whole_is apart in
          let next = follows most ps h.terms taken rest whole done.0 whole_is done.1 done.2 done.3 (omega (arith, h.size)) (omega (arith, length-drop taken ps)) in
          let same = found.read.only next.0 (terms_parts next.1 ++ rest) next.3 next.5 (terms-apart next.1 next.4 rest apart) in
          (next.1, done.1 ∙ ap (λ x. h.terms ++ x) (next.2 ∙ ap (λ x. x ∷ next.1) same.0) ∙ sym (append_assoc h.terms (t ∷ []) next.1), next.4, sym left ∙ sym same.1);
      is = keep h.terms t h.is found.kept;
    }

pub terms-not : (most : ℕ) (ps : Parts) (kept : Option (List WrittenTerm)) (count taken : ℕ) → AreTermsTo most ps kept count taken → count < most → taken < length ps → HasNoTerm (drop taken ps) → HaveNoTerms most ps
terms-not most ps kept count taken h few long none whole rest whole_is apart =
    let done = h.complete whole rest whole_is apart in
    let next = follows most ps h.terms taken rest whole done.0 whole_is done.1 done.2 done.3 (omega (arith, h.size)) (omega (arith, length-drop taken ps)) in
    none next.0 (terms_parts next.1 ++ rest) next.3 next.5 (terms-apart next.1 next.4 rest apart)

pub terms-end : (most : ℕ) (ps : Parts) (found : TermsRead) → AreTermsTo most ps found.terms found.count found.taken → found.count ≤ most → (found.count ≡ most) ⊎ (length ps ≤ found.taken) → AreTermsFound most ps found
terms-end most ps found h few at =
    let full : (length h.terms ≡ most) ⊎ (drop found.taken ps ≡ []) = elim at [
      | inl e ↦ inl (omega (arith, h.size))
      | inr l ↦ inr (nil_from_length (drop found.taken ps) (omega (arith, length-drop found.taken ps)))
    ] in
    record {
      terms = h.terms;
      fits = h.fits;
      count = h.size;
      read = record { forms = h.forms; written = h.written; few = omega (arith, h.size); full = full };
      only = λ others rest others_are apart.
          let done = h.complete others rest others_are apart in
          let none : done.0 ≡ [] = stops most ps h.terms found.taken rest others done.0 others_are done.1 done.2 done.3 full in
          (done.1 ∙ ap (λ x. h.terms ++ x) none ∙ append-nil h.terms, sym (done.3 ∙ ap (λ x. terms_parts x ++ rest) none));
      kept = h.is;
    }

-- ---- columns behind a colon

no-front : (ps : Parts) → IsNotOpened [] × IsNotColon []
no-front ps = (λ rest e. cc, λ rest e. cc)

module _ (most : ℕ) (ps inner : Parts) (colon : ps ≡ codes ":" ∷ inner) where
  inner-terms : (t : WrittenTerm) (ts : List WrittenTerm) (rest : Parts) → AreColumns most rest ps (t ∷ ts) → AreTerms most rest inner (t ∷ ts)
  inner-terms t ts rest h = record {
    forms = h.forms;
    written = ap rest_of (sym colon ∙ h.written);
    few = h.few;
    full = elim h.full [ inl e ↦ absurd (cc) | inr f ↦ f ];
  }

  pub columns-none : HaveNoTerms most inner → HaveNoColumns most ps
  columns-none none [] rest h apart plain = plain inner (sym h.written ∙ colon)
  columns-none none (t ∷ ts) rest h apart plain = none (t ∷ ts) rest (inner-terms t ts rest h) apart

  pub columns-zero : (found : TermsRead) → AreTermsFound most inner found → found.count ≡ 0 → HaveNoColumns most ps
  columns-zero found h zero_count [] rest k apart plain = plain inner (sym k.written ∙ colon)
  columns-zero found h zero_count (t ∷ ts) rest k apart plain =
      omega (arith, h.count, ap length (h.only (t ∷ ts) rest (inner-terms t ts rest k) apart).0)

  pub columns-found : (found all : TermsRead) → AreTermsFound most inner found → (found.count ≡ 0 → ⊥) → all.terms ≡ found.terms → all.count ≡ found.count → all.taken ≡ found.taken + 1 → AreColumnsFound most ps all
  columns-found found all h some kept count taken = by_terms h.terms refl
    where
      left : drop found.taken inner ≡ drop all.taken ps
      left = ap (drop found.taken) (sym (ap (drop 1) colon)) ∙ drop-drop found.taken 1 ps ∙ ap (λ n. drop n ps) (omega (arith, taken))

      by_terms : (ts : List WrittenTerm) → h.terms ≡ ts → AreColumnsFound most ps all
      by_terms [] e = absurd (some (h.count ∙ ap length e))
      by_terms (t ∷ ts) e = record {
        terms = t ∷ ts;
        fits = omega (arith, ap length colon, h.fits, taken);
        count = count ∙ h.count ∙ ap length e;
        read = record {
          forms = subst (AllByRecursion HasTermForm) e h.read.forms;
          written = colon ∙ ap (λ x. codes ":" ∷ x) (h.read.written ∙ ap (λ x. terms_parts x ++ drop found.taken inner) e ∙ ap (λ x. terms_parts (t ∷ ts) ++ x) left);
          few = subst (λ x. length x ≤ most) e h.read.few;
          full = inr (elim h.read.full [ inl f ↦ inl (ap length (sym e) ∙ f) | inr f ↦ inr (sym left ∙ f) ]);
        };
        only = others_are;
        kept = subst (λ k. AreKept k (t ∷ ts)) (sym kept) (subst (AreKept found.terms) e h.kept);
      }
        where
          others_are : (others : List WrittenTerm) (rest : Parts) → AreColumns most rest ps others → IsNotOpened rest → IsNotColon rest → (others ≡ t ∷ ts) × (rest ≡ drop all.taken ps)
          others_are [] rest k apart plain = absurd (plain inner (sym k.written ∙ colon))
          others_are (u ∷ us) rest k apart plain = (let same = h.only (u ∷ us) rest (inner-terms u us rest k) apart in (same.0 ∙ e, same.1 ∙ left))

-- ---- the end of the line

module _ (ps rest : Parts) (by : ps ≡ codes "by" ∷ rest) where
  inner-tree : (w : WrittenTree) → ps ≡ by_parts (Some w) → rest ≡ tree_parts w ++ []
  inner-tree w e = ap rest_of (sym by ∙ e) ∙ sym (append-nil (tree_parts w))

  pub end-none : HasNoTree rest → HasNothingBehind ps
  end-none none None form e = omega (arith, ap length (sym by ∙ e))
  end-none none (Some w) form e = none w [] form (inner-tree w e) (no-front ps).0

  pub end-more : (found : TreeRead) → IsTreeFound rest found → found.taken < length rest → HasNothingBehind ps
  end-more found h more None form e = omega (arith, ap length (sym by ∙ e))
  end-more found h more (Some w) form e =
      let same = h.read.only w [] form (inner-tree w e) (no-front ps).0 in
      omega (arith, ap length same.1, length-drop found.taken rest)

  pub end-found : (found : TreeRead) (behind : Behind) → IsTreeFound rest found → length rest ≤ found.taken → ((w : WrittenTree) → IsTreeKept found.tree w → IsBehind behind (Some w)) → IsBehindFound ps behind
  end-found found behind h all kept =
      let none : drop found.taken rest ≡ [] = nil_from_length (drop found.taken rest) (omega (arith, length-drop found.taken rest)) in
      record {
        specimen = Some h.tree;
        form = h.read.form;
        written = by ∙ ap (λ x. codes "by" ∷ x) (h.read.written ∙ ap (λ x. tree_parts h.tree ++ x) none ∙ append-nil (tree_parts h.tree));
        only = others;
        is = kept h.tree h.kept;
      }
    where
      others : (other : Option WrittenTree) → HasFormBehindBy other → ps ≡ by_parts other → other ≡ Some h.tree
      others None form e = absurd (omega (arith, ap length (sym by ∙ e)))
      others (Some w) form e = ap Some (h.read.only w [] form (inner-tree w e) (no-front ps).0).0

-- ---- the whole tail

by-apart : (w : Option WrittenTree) → IsNotOpened (by_parts w) × IsNotColon (by_parts w)
by-apart None = (λ rest e. cc, λ rest e. cc)
by-apart (Some w) = (λ rest e. omega (arith, ap first_byte e), λ rest e. omega (arith, ap first_byte e))

columns-apart : (ts : List WrittenTerm) (w : Option WrittenTree) → IsNotOpened (columns_parts ts ++ by_parts w)
columns-apart [] w = (by-apart w).0
columns-apart (t ∷ ts) w = λ rest e. omega (arith, ap first_byte e)

pub tail-no_head : (most : ℕ) (ps : Parts) → HasNoTerm ps → HasNoTail most ps
tail-no_head most ps none t ts w h = none t (columns_parts ts ++ by_parts w) h.head h.written (columns-apart ts w)

full-behind : (most : ℕ) (ts : List WrittenTerm) (w : Option WrittenTree) → (ts ≡ []) ⊎ ((length ts ≡ most) ⊎ (w ≡ None)) → (ts ≡ []) ⊎ ((length ts ≡ most) ⊎ (by_parts w ≡ []))
full-behind most ts w (inl e) = inl e
full-behind most ts w (inr (inl e)) = inr (inl e)
full-behind most ts w (inr (inr e)) = inr (inr (ap by_parts e))

full-back : (most : ℕ) (ts : List WrittenTerm) (w : Option WrittenTree) → (ts ≡ []) ⊎ ((length ts ≡ most) ⊎ (by_parts w ≡ [])) → (ts ≡ []) ⊎ ((length ts ≡ most) ⊎ (w ≡ None))
full-back most ts w (inl e) = inl e
full-back most ts w (inr (inl e)) = inr (inl e)
full-back most ts None (inr (inr e)) = inr (inr refl)
full-back most ts (Some x) (inr (inr e)) = absurd (omega (arith, ap length e))

module _ (most : ℕ) (ps : Parts) (head : TermRead) (h : IsTermFound ps head) where
  -- what stands behind the head
  inner-columns : (t : WrittenTerm) (ts : List WrittenTerm) (w : Option WrittenTree) → IsTail most ps t ts w → (t ≡ h.term) × AreColumns most (by_parts w) (drop head.taken ps) ts
  inner-columns t ts w k =
      let same = h.read.only t (columns_parts ts ++ by_parts w) k.head k.written (columns-apart ts w) in
      (same.0, record { forms = k.columns; written = sym same.1; few = k.few; full = full-behind most ts w k.full })

  pub tail-no_columns : HaveNoColumns most (drop head.taken ps) → HasNoTail most ps
  tail-no_columns none t ts w k = none ts (by_parts w) (inner-columns t ts w k).1 (by-apart w).0 (by-apart w).1

  inner-end : (read : TermsRead) (c : AreColumnsFound most (drop head.taken ps) read) (t : WrittenTerm) (ts : List WrittenTerm) (w : Option WrittenTree) → IsTail most ps t ts w
      → (t ≡ h.term) × (ts ≡ c.terms) × (by_parts w ≡ drop read.taken (drop head.taken ps))
  inner-end read c t ts w k =
      let first = inner-columns t ts w k in
      let next = c.only ts (by_parts w) first.1 (by-apart w).0 (by-apart w).1 in
      (first.0, next.0, next.1)

  pub tail-no_end : (read : TermsRead) (c : AreColumnsFound most (drop head.taken ps) read) → HasNothingBehind (drop read.taken (drop head.taken ps)) → HasNoTail most ps
  tail-no_end read c none t ts w k = none w k.specimen (sym (inner-end read c t ts w k).2)

  pub tail-found : (read : TermsRead) (c : AreColumnsFound most (drop head.taken ps) read) (tail : Tail) → IsBehindFound (drop read.taken (drop head.taken ps)) tail.behind
      → tail.head ≡ head.term → tail.columns ≡ read.terms → tail.count ≡ read.count → IsTailFound most ps tail
  tail-found read c tail b first columns count = record {
    head = h.term;
    columns = c.terms;
    specimen = b.specimen;
    is = record {
      head = h.read.form;
      columns = c.read.forms;
      specimen = b.form;
      written = h.read.written ∙ ap (λ x. term_parts h.term ++ x) (c.read.written ∙ ap (λ x. columns_parts c.terms ++ x) b.written);
      few = c.read.few;
      full = full-back most c.terms b.specimen (subst (λ x. (c.terms ≡ []) ⊎ ((length c.terms ≡ most) ⊎ (x ≡ []))) b.written c.read.full);
    };
    only = λ t ts w k. (let all = inner-end read c t ts w k in (all.0, all.1, b.only w k.specimen (sym all.2)));
    count = count ∙ c.count;
    head_kept = subst (λ k. IsKept k h.term) (sym first) h.kept;
    columns_kept = subst (λ k. AreKept k c.terms) (sym columns) c.kept;
    specimen_kept = b.is;
  }
