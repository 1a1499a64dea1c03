-- Laws of the walk over the parts of a term.
use Rattle.std.proofs.Common.{◌≡◌, ℕ, ◌+◌, ◌<◌, ◌≤◌, true, List, [], ◌∷◌, ◌++◌, length, append_assoc, codes, refl, ap, sym, ◌∙◌, subst, arith}
use Rattle.std.proofs.lemmas.Bool.{false≢true}
use Rattle.psg_grammar.specs.Sound.{IsOwnName}
use Rattle.psg_deflines.specs.WrittenTerms.{WrittenTerm, variable, named, apply, term_parts, opened, is_head, HasTermForm, term_depth, most_nested}
use Rattle.psg_deflines.specs.TermWalks.{Parts, IsNotOpened, Stage, expects, has, IsStep, variable_step, constant_step, opened_step, comma_step, closed_step, HasNoStep}

-- ---- steps

abbrev first_byte : Parts → ℕ
first_byte [] = 0
first_byte ([] ∷ ps) = 0
first_byte ((c ∷ cs) ∷ ps) = c

no-sigil : (n m : List ℕ) → 63 ∷ n ≡ m → IsOwnName m → ⊥
no-sigil n m e h = false≢true (subst IsOwnName (sym e) h)

-- a step leads to one place
pub step-only : (s : Stage) (ps : Parts) (s1 s2 : Stage) (p1 p2 : Parts) → IsStep s ps s1 p1 → IsStep s ps s2 p2 → (s1 ≡ s2) × (p1 ≡ p2)
step-only s ps s1 s2 p1 p2 (variable_step fs n a b v d) (variable_step gs m e f w g) = (cc, cc)
step-only s ps s1 s2 p1 p2 (variable_step fs n a b v d) (constant_step gs m e f o w g) = let same : 63 ∷ n ≡ m = cc in absurd (no-sigil n m same o)
step-only s ps s1 s2 p1 p2 (variable_step fs n a b v d) (opened_step gs m e f o g) = let same : 63 ∷ n ≡ m = cc in absurd (no-sigil n m same o)
step-only s ps s1 s2 p1 p2 (variable_step fs n a b v d) (comma_step h x gs e f g) = absurd (cc)
step-only s ps s1 s2 p1 p2 (variable_step fs n a b v d) (closed_step h x gs e f g) = absurd (cc)
step-only s ps s1 s2 p1 p2 (constant_step fs n a b o w d) (variable_step gs m e f v g) = let same : 63 ∷ m ≡ n = cc in absurd (no-sigil m n same o)
step-only s ps s1 s2 p1 p2 (constant_step fs n a b o w d) (constant_step gs m e f p v g) = (cc, cc)
step-only s ps s1 s2 p1 p2 (constant_step fs n a b o w d) (opened_step gs m e f p g) = let behind : p1 ≡ codes "(" ∷ p2 = cc in absurd (w p2 behind)
step-only s ps s1 s2 p1 p2 (constant_step fs n a b o w d) (comma_step h x gs e f g) = absurd (cc)
step-only s ps s1 s2 p1 p2 (constant_step fs n a b o w d) (closed_step h x gs e f g) = absurd (cc)
step-only s ps s1 s2 p1 p2 (opened_step fs n a b o d) (variable_step gs m e f v g) = let same : 63 ∷ m ≡ n = cc in absurd (no-sigil m n same o)
step-only s ps s1 s2 p1 p2 (opened_step fs n a b o d) (constant_step gs m e f p v g) = let behind : p2 ≡ codes "(" ∷ p1 = cc in absurd (v p1 behind)
step-only s ps s1 s2 p1 p2 (opened_step fs n a b o d) (opened_step gs m e f p g) = (cc, cc)
step-only s ps s1 s2 p1 p2 (opened_step fs n a b o d) (comma_step h x gs e f g) = absurd (cc)
step-only s ps s1 s2 p1 p2 (opened_step fs n a b o d) (closed_step h x gs e f g) = absurd (cc)
step-only s ps s1 s2 p1 p2 (comma_step h x fs a b d) (variable_step gs m e f v g) = absurd (cc)
step-only s ps s1 s2 p1 p2 (comma_step h x fs a b d) (constant_step gs m e f p v g) = absurd (cc)
step-only s ps s1 s2 p1 p2 (comma_step h x fs a b d) (opened_step gs m e f p g) = absurd (cc)
step-only s ps s1 s2 p1 p2 (comma_step h x fs a b d) (comma_step i y gs e f g) = (cc, cc)
step-only s ps s1 s2 p1 p2 (comma_step h x fs a b d) (closed_step i y gs e f g) = absurd (omega (arith, ap first_byte (sym b ∙ f)))
step-only s ps s1 s2 p1 p2 (closed_step h x fs a b d) (variable_step gs m e f v g) = absurd (cc)
step-only s ps s1 s2 p1 p2 (closed_step h x fs a b d) (constant_step gs m e f p v g) = absurd (cc)
step-only s ps s1 s2 p1 p2 (closed_step h x fs a b d) (opened_step gs m e f p g) = absurd (cc)
step-only s ps s1 s2 p1 p2 (closed_step h x fs a b d) (comma_step i y gs e f g) = absurd (omega (arith, ap first_byte (sym b ∙ f)))
step-only s ps s1 s2 p1 p2 (closed_step h x fs a b d) (closed_step i y gs e f g) = (cc, cc)

pub step-shorter : (s : Stage) (ps : Parts) (next : Stage) (rest : Parts) → IsStep s ps next rest → length rest < length ps
step-shorter s ps next rest (variable_step fs n a b v d) = omega (arith, ap length b)
step-shorter s ps next rest (constant_step fs n a b o w d) = omega (arith, ap length b)
step-shorter s ps next rest (opened_step fs n a b o d) = omega (arith, ap length b)
step-shorter s ps next rest (comma_step h x fs a b d) = omega (arith, ap length b)
step-shorter s ps next rest (closed_step h x fs a b d) = omega (arith, ap length b)

-- ---- what was read

abbrev pub opens : List WrittenTerm → Parts
opens [] = []
opens (f ∷ fs) = opens fs ++ opened f

abbrev pub walked : Stage → Parts
walked (expects fs) = opens fs
walked (has fs t) = opens fs ++ term_parts t

abbrev pub AreHeads : List WrittenTerm → Type 0
AreHeads [] = Unit {0}
AreHeads (f ∷ fs) = (is_head f ≡ true) × HasTermForm f × AreHeads fs

abbrev pub IsGood : Stage → Type 0
IsGood (expects fs) = AreHeads fs
IsGood (has fs t) = AreHeads fs × HasTermForm t

pub step-good : (s : Stage) (ps : Parts) (next : Stage) (rest : Parts) → IsStep s ps next rest → IsGood s → IsGood next
step-good s ps next rest (variable_step fs n a b v d) h = subst IsGood (sym d) (subst IsGood a h, v)
step-good s ps next rest (constant_step fs n a b o w d) h = subst IsGood (sym d) (subst IsGood a h, o)
step-good s ps next rest (opened_step fs n a b o d) h = subst IsGood (sym d) (refl, o, subst IsGood a h)
step-good s ps next rest (comma_step f x fs a b d) h = let k = subst IsGood a h in subst IsGood (sym d) (refl, (k.0.0, k.0.1, k.1), k.0.2)
step-good s ps next rest (closed_step f x fs a b d) h = let k = subst IsGood a h in subst IsGood (sym d) (k.0.2, (k.0.0, k.0.1, k.1))

pub step-walked : (s : Stage) (ps : Parts) (next : Stage) (rest : Parts) → IsStep s ps next rest → walked next ++ rest ≡ walked s ++ ps
step-walked s ps next rest (variable_step fs n a b v d) =
    ap (λ x. walked x ++ rest) d ∙ append_assoc (opens fs) ((63 ∷ n) ∷ []) rest ∙ ap (λ x. opens fs ++ x) (sym b) ∙ ap (λ x. walked x ++ ps) (sym a)
step-walked s ps next rest (constant_step fs n a b o w d) =
    ap (λ x. walked x ++ rest) d ∙ append_assoc (opens fs) (n ∷ []) rest ∙ ap (λ x. opens fs ++ x) (sym b) ∙ ap (λ x. walked x ++ ps) (sym a)
step-walked s ps next rest (opened_step fs n a b o d) =
    ap (λ x. walked x ++ rest) d ∙ append_assoc (opens fs) (n ∷ codes "(" ∷ []) rest ∙ ap (λ x. opens fs ++ x) (sym b) ∙ ap (λ x. walked x ++ ps) (sym a)
step-walked s ps next rest (comma_step f x fs a b d) =
    ap (λ y. walked y ++ rest) d ∙ ap (λ y. y ++ rest) (regroup (opens fs) (opened f) (term_parts x) (codes "," ∷ []))
    ∙ append_assoc ((opens fs ++ opened f) ++ term_parts x) (codes "," ∷ []) rest ∙ ap (λ y. ((opens fs ++ opened f) ++ term_parts x) ++ y) (sym b) ∙ ap (λ y. walked y ++ ps) (sym a)
  where
    regroup : (p q r t : Parts) → p ++ ((q ++ r) ++ t) ≡ ((p ++ q) ++ r) ++ t
    regroup p q r t = sym (append_assoc p (q ++ r) t) ∙ ap (λ z. z ++ t) (sym (append_assoc p q r))
step-walked s ps next rest (closed_step f x fs a b d) =
    ap (λ y. walked y ++ rest) d ∙ ap (λ y. y ++ rest) (regroup (opens fs) (opened f) (term_parts x) (codes ")" ∷ []))
    ∙ append_assoc ((opens fs ++ opened f) ++ term_parts x) (codes ")" ∷ []) rest ∙ ap (λ y. ((opens fs ++ opened f) ++ term_parts x) ++ y) (sym b) ∙ ap (λ y. walked y ++ ps) (sym a)
  where
    regroup : (p q r t : Parts) → p ++ ((q ++ r) ++ t) ≡ ((p ++ q) ++ r) ++ t
    regroup p q r t = sym (append_assoc p (q ++ r) t) ∙ ap (λ z. z ++ t) (sym (append_assoc p q r))

-- ---- where steps lead

-- from here steps lead to the term and the rest
pub data Leads (t : WrittenTerm) (rest : Parts) : Stage → Parts → Type 0 where
  ends : Leads t rest (has [] t) rest
  goes : (s next : Stage) (ps behind : Parts) → IsStep s ps next behind → Leads t rest next behind → Leads t rest s ps

-- what leads there from a stage that is not the end leads there from the next one
pub leads-next : (t : WrittenTerm) (rest : Parts) (s : Stage) (ps : Parts) → Leads t rest s ps → (next : Stage) (behind : Parts) → IsStep s ps next behind → Leads t rest next behind
leads-next t rest s ps ends next behind step = absurd (from-end t rest next behind step)
  where
    from-end : (u : WrittenTerm) (ps : Parts) (next : Stage) (behind : Parts) → IsStep (has [] u) ps next behind → ⊥
    from-end u ps next behind (variable_step fs n a b v d) = cc
    from-end u ps next behind (constant_step fs n a b o w d) = cc
    from-end u ps next behind (opened_step fs n a b o d) = cc
    from-end u ps next behind (comma_step f x fs a b d) = cc
    from-end u ps next behind (closed_step f x fs a b d) = cc
leads-next t rest s ps (goes s2 n2 p2 b2 other l) next behind step =
    let same = step-only s2 p2 n2 next b2 behind other step in
    subst (λ x. Leads t rest x behind) same.0 (subst (λ x. Leads t rest n2 x) same.1 l)

-- no step, and not the end
pub leads-not : (t : WrittenTerm) (rest : Parts) (s : Stage) (ps : Parts) → Leads t rest s ps → HasNoStep s ps → ((u : WrittenTerm) → s ≡ has [] u → ⊥) → ⊥
leads-not t rest s ps ends none open_end = open_end t refl
leads-not t rest s ps (goes s2 n2 p2 b2 step l) none open_end = none n2 b2 step

-- the end
pub leads-end : (t : WrittenTerm) (rest : Parts) (s : Stage) (ps : Parts) → Leads t rest s ps → (u : WrittenTerm) → s ≡ has [] u → (t ≡ u) × (rest ≡ ps)
leads-end t rest s ps ends u e = (cc, refl)
leads-end t rest s ps (goes s2 n2 p2 b2 step l) u e = absurd (from-end u p2 n2 b2 (subst (λ x. IsStep x p2 n2 b2) e step))
  where
    from-end : (u : WrittenTerm) (ps : Parts) (next : Stage) (behind : Parts) → IsStep (has [] u) ps next behind → ⊥
    from-end u ps next behind (variable_step fs n a b v d) = cc
    from-end u ps next behind (constant_step fs n a b o w d) = cc
    from-end u ps next behind (opened_step fs n a b o d) = cc
    from-end u ps next behind (comma_step f x fs a b d) = cc
    from-end u ps next behind (closed_step f x fs a b d) = cc

not-opened-comma : (ps : Parts) → IsNotOpened (codes "," ∷ ps)
not-opened-comma ps rest e = omega (arith, ap first_byte e)

not-opened-close : (ps : Parts) → IsNotOpened (codes ")" ∷ ps)
not-opened-close ps rest e = omega (arith, ap first_byte e)

-- the parts of a term lead to it, and those before an argument to the open constructor
pub record IsWalkedOver (t : WrittenTerm) : Type 0 where
  pub whole : (fs : List WrittenTerm) (ps : Parts) (u : WrittenTerm) (rest : Parts) → IsNotOpened ps → Leads u rest (has fs t) ps → Leads u rest (expects fs) (term_parts t ++ ps)
  pub before : is_head t ≡ true → (fs : List WrittenTerm) (ps : Parts) (u : WrittenTerm) (rest : Parts) → Leads u rest (expects (t ∷ fs)) ps → Leads u rest (expects fs) (opened t ++ ps)

pub walked-over : (t : WrittenTerm) → HasTermForm t → IsWalkedOver t
walked-over (variable n) h = record {
  whole = λ fs ps u rest apart l. goes (expects fs) (has fs (variable n)) ((63 ∷ n) ∷ ps) ps (variable_step fs n refl refl h refl) l;
  before = λ k. absurd (false≢true k);
}
walked-over (named n) h = record {
  whole = λ fs ps u rest apart l. goes (expects fs) (has fs (named n)) (n ∷ ps) ps (constant_step fs n refl refl h apart refl) l;
  before = λ k fs ps u rest l. goes (expects fs) (expects (named n ∷ fs)) (n ∷ codes "(" ∷ ps) ps (opened_step fs n refl refl h refl) l;
}
walked-over (apply f a) h =
    let front = walked-over f h.1 in
    let behind = walked-over a h.2 in
    record {
      whole = λ fs ps u rest apart l.
          subst (Leads u rest (expects fs)) (sym (append_assoc (opened f ++ term_parts a) (codes ")" ∷ []) ps ∙ append_assoc (opened f) (term_parts a) (codes ")" ∷ ps)))
          (front.before h.0 fs (term_parts a ++ (codes ")" ∷ ps)) u rest
          (behind.whole (f ∷ fs) (codes ")" ∷ ps) u rest (not-opened-close ps)
          (goes (has (f ∷ fs) a) (has fs (apply f a)) (codes ")" ∷ ps) ps (closed_step f a fs refl refl refl) l)));
      before = λ k fs ps u rest l.
          subst (Leads u rest (expects fs)) (sym (append_assoc (opened f ++ term_parts a) (codes "," ∷ []) ps ∙ append_assoc (opened f) (term_parts a) (codes "," ∷ ps)))
          (front.before h.0 fs (term_parts a ++ (codes "," ∷ ps)) u rest
          (behind.whole (f ∷ fs) (codes "," ∷ ps) u rest (not-opened-comma ps)
          (goes (has (f ∷ fs) a) (expects (apply f a ∷ fs)) (codes "," ∷ ps) ps (comma_step f a fs refl refl refl) l)));
    }

-- ---- how deep

-- a term inside so many brackets is not nested too deep
abbrev pub Fits : ℕ → WrittenTerm → Type 0
Fits height t = term_depth t + height ≤ most_nested

abbrev pub AreFit : List WrittenTerm → Type 0
AreFit [] = Unit {0}
AreFit (f ∷ fs) = Fits (length fs) f × AreFit fs

abbrev pub IsFit : Stage → Type 0
IsFit (expects fs) = AreFit fs
IsFit (has fs t) = AreFit fs × Fits (length fs) t

pub fit-back : (s : Stage) (ps : Parts) (next : Stage) (rest : Parts) → IsStep s ps next rest → IsFit next → IsFit s
fit-back s ps next rest (variable_step fs n a b v d) h = subst IsFit (sym a) (subst IsFit d h).0
fit-back s ps next rest (constant_step fs n a b o w d) h = subst IsFit (sym a) (subst IsFit d h).0
fit-back s ps next rest (opened_step fs n a b o d) h = subst IsFit (sym a) (subst IsFit d h).1
fit-back s ps next rest (comma_step f x fs a b d) h = let k = subst IsFit d h in subst IsFit (sym a) ((omega (arith, k.0), k.1), omega (arith, k.0))
fit-back s ps next rest (closed_step f x fs a b d) h = let k = subst IsFit d h in subst IsFit (sym a) ((omega (arith, k.1), k.0), omega (arith, k.1))

pub leads-fit : (t : WrittenTerm) (rest : Parts) (s : Stage) (ps : Parts) → Leads t rest s ps → Fits 0 t → IsFit s
leads-fit t rest s ps ends h = (tt, h)
leads-fit t rest s ps (goes s2 n2 p2 b2 step l) h = fit-back s2 p2 n2 b2 step (leads-fit t rest n2 b2 l h)

-- a term that begins inside too many brackets is nested too deep
pub step-fit : (fs : List WrittenTerm) (ps : Parts) (next : Stage) (rest : Parts) → IsStep (expects fs) ps next rest → AreFit fs → length fs < most_nested → IsFit next
step-fit fs ps next rest (variable_step gs n a b v d) h l = let same : fs ≡ gs = cc in subst IsFit (sym d) (subst AreFit same h, omega (arith, ap length same))
step-fit fs ps next rest (constant_step gs n a b o w d) h l = let same : fs ≡ gs = cc in subst IsFit (sym d) (subst AreFit same h, omega (arith, ap length same))
step-fit fs ps next rest (opened_step gs n a b o d) h l = let same : fs ≡ gs = cc in subst IsFit (sym d) (omega (arith, ap length same), subst AreFit same h)
step-fit fs ps next rest (comma_step f x gs a b d) h l = absurd (cc)
step-fit fs ps next rest (closed_step f x gs a b d) h l = absurd (cc)

pub step-deep : (fs : List WrittenTerm) (ps : Parts) (next : Stage) (rest : Parts) → IsStep (expects fs) ps next rest → most_nested ≤ length fs → IsFit next → ⊥
step-deep fs ps next rest (variable_step gs n a b v d) l h = let same : fs ≡ gs = cc in omega (arith, (subst IsFit d h).1, ap length same)
step-deep fs ps next rest (constant_step gs n a b o w d) l h = let same : fs ≡ gs = cc in omega (arith, (subst IsFit d h).1, ap length same)
step-deep fs ps next rest (opened_step gs n a b o d) l h = let same : fs ≡ gs = cc in omega (arith, (subst IsFit d h).0, ap length same)
step-deep fs ps next rest (comma_step f x gs a b d) l h = cc
step-deep fs ps next rest (closed_step f x gs a b d) l h = cc

pub step-fit-has : (fs : List WrittenTerm) (t : WrittenTerm) (ps : Parts) (next : Stage) (rest : Parts) → IsStep (has fs t) ps next rest → IsFit (has fs t) → IsFit next
step-fit-has fs t ps next rest (variable_step gs n a b v d) h = absurd (cc)
step-fit-has fs t ps next rest (constant_step gs n a b o w d) h = absurd (cc)
step-fit-has fs t ps next rest (opened_step gs n a b o d) h = absurd (cc)
step-fit-has fs t ps next rest (comma_step f x gs a b d) h = let k = subst IsFit a h in subst IsFit (sym d) (omega (arith, k.0.0, k.1), k.0.1)
step-fit-has fs t ps next rest (closed_step f x gs a b d) h = let k = subst IsFit a h in subst IsFit (sym d) (k.0.1, omega (arith, k.0.0, k.1))
