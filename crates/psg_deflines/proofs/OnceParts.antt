-- A text has its parts in one way, and a term and a specimen are told from theirs.
use Rattle.std.proofs.Common.{◌≡◌, ◌&&◌, ℕ, ◌+◌, ◌≤◌, Bool, true, false, List, [], ◌∷◌, ◌++◌, take, drop, length, length-append, append-nil, replicate, suc, inl, inr, refl, ap, ap₂, sym, ◌∙◌, subst, arith}
use Rattle.std.specs.List.{AllByRecursion, prefix_len}
use Rattle.std.proofs.Math.Seq.{take-append_seam}
use Rattle.std.proofs.lemmas.Bool.{and_cases, false≢true}
use Rattle.psg_deflines.specs.Written.{goes_on_word, ends_word, begins_word}
use Rattle.psg_deflines.specs.WrittenTerms.{WrittenTerm, term_parts, HasTermForm}
use Rattle.psg_deflines.specs.WrittenTrees.{WrittenTree, tree_parts, quoted_part, HasTreeForm}
use Rattle.psg_deflines.specs.Forms.{terms_parts}
use Rattle.psg_deflines.specs.Parts.{IsPart, a_word, a_mark, a_sigil, a_quoted, IsApart, IsFirst, HasParts}
use Rattle.psg_deflines.specs.TermWalks.{Parts, IsNotOpened}
use Rattle.psg_deflines.specs.TermWalks as terms
use Rattle.psg_deflines.specs.TreeWalks.{TreeStage, expects}
use Rattle.psg_deflines.proofs.Lists.{begins_by, prefix_len-run}
use Rattle.psg_deflines.proofs.PartLaws.{quote-begins, named-length, named_is_first, ends_word-run, word_first-text, mark_is_first}
use Rattle.psg_deflines.proofs.PartReads.{rest_of}
use Rattle.psg_deflines.proofs.QuoteLaws.{quoted-closes}
use Rattle.psg_deflines.proofs.ClosingLaws.{quote-first}
use Rattle.psg_deflines.proofs.WrittenLaws.{is_space, step-complete}
use Rattle.psg_deflines.proofs.TailLaws.{term-long, term-apart, terms-apart}
use Rattle.psg_deflines.proofs.TermWalkLaws as term_walks
use Rattle.psg_deflines.proofs.TreeOverLaws.{Leads, ends, goes, leads-next, leads-end}
use Rattle.psg_deflines.proofs.TreeLeads.{tree-over}

-- ---- parts

begins-same : (cs : List ℕ) → begins_by goes_on_word cs ≡ begins_word cs
begins-same [] = refl
begins-same (c ∷ cs) = refl

-- a part with which a text begins is its first one
first-is : (text p behind : List ℕ) → IsPart p → text ≡ p ++ behind → IsApart p behind → IsFirst text (length p)
first-is text p behind (a_word w) e apart =
    let stops : begins_word behind ≡ false = elim (and_cases (ends_word p) (begins_word behind) apart) [
      | inl k ↦ absurd (false≢true (sym k ∙ ends_word-run p w.0 w.1))
      | inr k ↦ k
    ] in
    word_first-text text (length p)
    (sym (ap (prefix_len goes_on_word) e ∙ prefix_len-run goes_on_word p behind w.1 (begins-same behind ∙ stops))) w.0
first-is text p behind (a_mark m) e apart =
    subst (λ t. IsFirst t (length p)) (sym (e ∙ ap (λ x. x ++ behind) m.whole))
    (subst (IsFirst (m.mark ∷ behind)) (sym (ap length m.whole)) (mark_is_first m.mark behind m.is))
first-is text p behind (a_sigil g) e apart =
    let whole : p ++ behind ≡ g.sigil ∷ (g.name ++ behind) = ap (λ x. x ++ behind) g.whole in
    let n = named-length g.sigil (g.name ++ behind) p behind g.is (a_sigil g) (sym whole) apart in
    subst (λ t. IsFirst t (length p)) (sym (e ∙ whole))
    (subst (IsFirst (g.sigil ∷ (g.name ++ behind))) (let s : suc n.inside ≡ length p = omega (arith, n.size) in s)
    (named_is_first g.sigil (g.name ++ behind) n.inside g.is n.longest n.positive n.ends))
first-is text p behind (a_quoted q) e apart =
    let begins = quote-begins q.contents in
    let body = begins.0 ++ behind in
    let whole : 34 ∷ body ≡ quoted_part q.contents ++ behind = ap (λ x. x ++ behind) (sym begins.1) in
    let at = quoted-closes body q.contents behind whole in
    let size : length p ≡ at.0 + 2 = ap length q.whole ∙ at.2 in
    let fits : at.0 + 2 ≤ length (34 ∷ body) =
    omega (arith, ap length whole, length-append (quoted_part q.contents) behind, at.2) in
    let front : quoted_part q.contents ≡ take (at.0 + 2) (34 ∷ body) =
    sym (ap (λ n. take n (34 ∷ body)) (sym at.2) ∙ ap (take (length (quoted_part q.contents))) whole
    ∙ take-append_seam (quoted_part q.contents) behind) in
    subst (λ t. IsFirst t (length p)) (sym (e ∙ ap (λ x. x ++ behind) q.whole ∙ sym whole))
    (subst (IsFirst (34 ∷ body)) (sym size)
    (quote-first (34 ∷ body) body at.0 q.contents (omega arith) refl refl at.1 fits
    (record { quotable = q.is; written = front })))

begun : (p : List ℕ) (ps : Parts) (text : List ℕ) → HasParts text (p ∷ ps) → IsFirst text (length p)
begun p [] text h = first-is text p [] h.each.0 (h.written ∙ sym (append-nil p)) (no-meeting (ends_word p))
  where
    no-meeting : (b : Bool) → (b && false) ≡ false
    no-meeting true = refl
    no-meeting false = refl
begun p (next ∷ ps) text h =
    let (spaces, rest, e, apart, w) = h.written in first-is text p (replicate spaces 32 ++ rest) h.each.0 e apart

pub parts-once : (ps qs : Parts) (text : List ℕ) → HasParts text ps → HasParts text qs → ps ≡ qs
parts-once [] [] text h k = refl
parts-once [] (q ∷ qs) text h k =
    let own = step-complete text (length q) (prefix_len is_space (drop (length q) text)) [] (begun q qs text k) refl h in
    absurd (let none : [] ≡ take (length q) text ∷ own.0 = own.1 in cc)
parts-once (p ∷ ps) qs text h k =
    let first = begun p ps text h in
    let gap = prefix_len is_space (drop (length p) text) in
    let own = step-complete text (length p) gap (p ∷ ps) first refl h in
    let other = step-complete text (length p) gap qs first refl k in
    let tail : ps ≡ own.0 = ap rest_of own.1 in
    let same = parts-once ps other.0 (drop gap (drop (length p) text)) (subst (HasParts _) (sym tail) own.2) other.2 in
    own.1 ∙ ap (λ x. take (length p) text ∷ x) (sym tail ∙ same) ∙ sym other.1

-- ---- terms

leads-same : (t u : WrittenTerm) (r q : Parts) (s : terms.Stage) (ps : Parts) → term_walks.Leads t r s ps
    → term_walks.Leads u q s ps → (t ≡ u) × (r ≡ q)
leads-same t u r q s ps term_walks.ends k = let e = term_walks.leads-end u q s ps k t refl in (sym e.0, sym e.1)
leads-same t u r q s ps (term_walks.goes s2 n2 p2 b2 step l) k =
    leads-same t u r q n2 b2 l (term_walks.leads-next u q s2 p2 k n2 b2 step)

pub term-once : (t u : WrittenTerm) (r q : Parts) → HasTermForm t → HasTermForm u → IsNotOpened r → IsNotOpened q
    → term_parts t ++ r ≡ term_parts u ++ q → (t ≡ u) × (r ≡ q)
term-once t u r q h k a b e =
    leads-same t u r q (terms.expects []) (term_parts t ++ r)
    ((term_walks.walked-over t h).whole [] r t r a term_walks.ends)
    (subst (term_walks.Leads u q (terms.expects [])) (sym e)
    ((term_walks.walked-over u k).whole [] q u q b term_walks.ends))

pub nothing-apart : IsNotOpened []
nothing-apart rest e = cc

pub term-alone : (t u : WrittenTerm) → HasTermForm t → HasTermForm u → term_parts t ≡ term_parts u → t ≡ u
term-alone t u h k e = (term-once t u [] [] h k nothing-apart nothing-apart
    (append-nil (term_parts t) ∙ e ∙ sym (append-nil (term_parts u)))).0

no-term : (t : WrittenTerm) (ps : Parts) → HasTermForm t → [] ≡ term_parts t ++ ps → ⊥
no-term t ps h e = omega (arith, ap length e, term-long t h ps)

pub term-closed : (t : WrittenTerm) → HasTermForm t → IsNotOpened (term_parts t)
term-closed t h = subst IsNotOpened (append-nil (term_parts t)) (term-apart t h [])

terms-closed : (ts : List WrittenTerm) → AllByRecursion HasTermForm ts → IsNotOpened (terms_parts ts)
terms-closed ts h = subst IsNotOpened (append-nil (terms_parts ts)) (terms-apart ts h [] nothing-apart)

pub terms-once : (ts us : List WrittenTerm) → AllByRecursion HasTermForm ts → AllByRecursion HasTermForm us
    → terms_parts ts ≡ terms_parts us → ts ≡ us
terms-once [] [] h k e = refl
terms-once [] (u ∷ us) h k e = absurd (no-term u (terms_parts us) k.0 e)
terms-once (t ∷ ts) [] h k e = absurd (no-term t (terms_parts ts) h.0 (sym e))
terms-once (t ∷ ts) (u ∷ us) h k e =
    let both = term-once t u (terms_parts ts) (terms_parts us) h.0 k.0 (terms-closed ts h.1) (terms-closed us k.1) e in
    ap₂ (λ x xs. x ∷ xs) both.0 (terms-once ts us h.1 k.1 both.1)

-- ---- specimens

trees-same : (v w : WrittenTree) (r q : Parts) (s : TreeStage) (ps : Parts) → Leads v r s ps → Leads w q s ps → (v ≡ w) × (r ≡ q)
trees-same v w r q s ps ends k = let e = leads-end w q v ps k in (sym e.0, sym e.1)
trees-same v w r q s ps (goes s2 n2 p2 b2 step l) k = trees-same v w r q n2 b2 l (leads-next w q s2 p2 k n2 b2 step)

tree-leads : (w : WrittenTree) → HasTreeForm w → Leads w [] (expects []) (tree_parts w)
tree-leads w h =
    subst (Leads w [] (expects [])) (append-nil (tree_parts w)) ((tree-over w h).whole [] [] w [] nothing-apart ends)

pub tree-once : (v w : WrittenTree) → HasTreeForm v → HasTreeForm w → tree_parts v ≡ tree_parts w → v ≡ w
tree-once v w h k e =
    (trees-same v w [] [] (expects []) (tree_parts v) (tree-leads v h)
    (subst (Leads w [] (expects [])) (sym e) (tree-leads w k))).0
