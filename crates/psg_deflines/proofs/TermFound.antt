-- A walk over the parts of a term, from its beginning to its end.
use Rattle.std.proofs.Common.{◌≡◌, ℕ, ◌+◌, ◌-◌, ◌<◌, ◌≤◌, ◌||◌, nat_le, Bool, true, false, zero, suc, List, [], ◌∷◌, ◌++◌, take, drop, length, length-drop, refl, ap, sym, ◌∙◌, subst, arith}
use Rattle.std.specs.Prelude.{Option, Some, None, MatchOption}
use Rattle.std.specs.Borrow.{Bor}
use Rattle.std.proofs.lemmas.Bool.{false≢true, leb-true, leb-false}
use Rattle.std.proofs.lemmas.List.{drop-drop, take_rest, nil_from_length}
use Rattle.psg_deflines.specs.Parts.{texts}
use Rattle.psg_deflines.specs.WrittenTerms.{WrittenTerm, term_parts, HasTermForm, IsShallowTerm, most_nested}
use Rattle.psg_deflines.specs.TermWalks.{Parts, IsNotOpened, HasNoTerm, IsKept, IsTermFound, Stage, expects, has, IsStep, HasNoStep, IsStepMade, framed_behind, AreOpen, IsWalk, is_deep, height, IsDone, IsFinished, IsAdvanced}
use Rattle.psg_deflines.specs.declared.term_reading.Brackets.{Brackets}
use Rattle.psg_deflines.specs.declared.term_reading.Walk.{Walk}
use Rattle.psg_deflines.specs.declared.term_reading.Walk.TheVariants as walks
use Rattle.psg_deflines.specs.declared.term_reading.TermRead.{TermRead}
use Rattle.psg_deflines.proofs.TermWalkLaws.{IsGood, walked, step-good, step-walked, step-shorter, Leads, ends, goes, leads-next, leads-not, leads-end, walked-over, Fits, IsFit, leads-fit, step-fit, step-deep, step-fit-has}

pub texts-drop : (ts : List (Bor (List ℕ))) (n : ℕ) → texts (drop n ts) ≡ drop n (texts ts)
texts-drop [] zero = refl
texts-drop [] (suc n) = refl
texts-drop (t ∷ ts) zero = refl
texts-drop (t ∷ ts) (suc n) = texts-drop ts n

pub texts-from : (ts : List (Bor (List ℕ))) (n : ℕ) → texts (take (length ts - n) (drop n ts)) ≡ drop n (texts ts)
texts-from ts n = ap texts (take_rest ts n) ∙ texts-drop ts n

pub texts-length : (ts : List (Bor (List ℕ))) → length (texts ts) ≡ length ts
texts-length [] = refl
texts-length (t ∷ ts) = omega (arith, texts-length ts)

-- what a walk has come to
pub record IsWalked (ps : Parts) (walk : Walk) (taken : ℕ) : Type 0 where
  pub stage : Stage
  pub fits : taken ≤ length ps
  pub shown : IsWalk walk stage
  pub good : IsGood stage
  pub read : walked stage ++ drop taken ps ≡ ps
  pub complete : (t : WrittenTerm) (rest : Parts) → HasTermForm t → ps ≡ term_parts t ++ rest → IsNotOpened rest → Leads t rest stage (drop taken ps)
  pub shallow : is_deep walk ≡ false → IsFit stage
  pub deep : is_deep walk ≡ true → (t : WrittenTerm) (rest : Parts) → Leads t rest stage (drop taken ps) → Fits 0 t → ⊥

pub walked-start : (ps : Parts) (b : Brackets) → b.frames.items ≡ [] → b.deep ≡ false → IsWalked ps (walks.Expects b) 0
walked-start ps b none off = record {
  stage = expects [];
  fits = omega arith;
  shown = record { count = ap length none; kept = λ n. ap (framed_behind []) none };
  good = tt;
  read = refl;
  complete = λ t rest form e apart. subst (Leads t rest (expects [])) (sym e) ((walked-over t form).whole [] rest t rest apart ends);
  shallow = λ n. tt;
  deep = λ on. absurd (false≢true (sym off ∙ on));
}

-- which case a step begins in
fit-next : (s : Stage) (deep : Bool) (ps : Parts) (next : Stage) (rest : Parts) → IsStep s ps next rest → (deep || nat_le most_nested (height s)) ≡ false → (deep ≡ false → IsFit s) → IsFit next
fit-next (expects fs) false ps next rest step e h = step-fit fs ps next rest step (h refl) (leb-false most_nested (length fs) e)
fit-next (expects fs) true ps next rest step e h = absurd (false≢true (sym e))
fit-next (has fs t) false ps next rest step e h = step-fit-has fs t ps next rest step (h refl)
fit-next (has fs t) true ps next rest step e h = absurd (false≢true (sym e))

deep-next : (s : Stage) (deep : Bool) (ps : Parts) (next : Stage) (rest : Parts) → IsStep s ps next rest → (deep || nat_le most_nested (height s)) ≡ true
    → (deep ≡ true → (t : WrittenTerm) (behind : Parts) → Leads t behind s ps → Fits 0 t → ⊥) → (t : WrittenTerm) (behind : Parts) → Leads t behind next rest → Fits 0 t → ⊥
deep-next s true ps next rest step e h t behind l fit = h refl t behind (goes s next ps rest step l) fit
deep-next (expects fs) false ps next rest step e h t behind l fit = step-deep fs ps next rest step (leb-true most_nested (length fs) e) (leads-fit t behind next rest l fit)
deep-next (has fs u) false ps next rest step e h t behind l fit = absurd (false≢true e)

pub walked-more : (ps : Parts) (walk next : Walk) (taken more : ℕ) (h : IsWalked ps walk taken) → IsStepMade h.stage (is_deep walk) (drop taken ps) next more → IsWalked ps next (taken + more)
walked-more ps walk next taken more h made =
    let left : drop more (drop taken ps) ≡ drop (taken + more) ps = drop-drop more taken ps in
    record {
      stage = made.next;
      fits = omega (arith, h.fits, made.fits, length-drop taken ps);
      shown = made.shown;
      good = step-good h.stage (drop taken ps) made.next (drop more (drop taken ps)) made.step h.good;
      read = ap (λ x. walked made.next ++ x) (sym left) ∙ step-walked h.stage (drop taken ps) made.next (drop more (drop taken ps)) made.step ∙ h.read;
      complete = λ t rest form e apart. subst (Leads t rest made.next) left (leads-next t rest h.stage (drop taken ps) (h.complete t rest form e apart) made.next (drop more (drop taken ps)) made.step);
      shallow = λ off. fit-next h.stage (is_deep walk) (drop taken ps) made.next (drop more (drop taken ps)) made.step (sym made.noted ∙ off) h.shallow;
      deep = λ on t rest l. deep-next h.stage (is_deep walk) (drop taken ps) made.next (drop more (drop taken ps)) made.step (sym made.noted ∙ on) h.deep t rest (subst (Leads t rest made.next) (sym left) l);
    }

-- each step takes a part
pub made-longer : (s : Stage) (deep : Bool) (ps : Parts) (next : Walk) (more : ℕ) → IsStepMade s deep ps next more → 0 < more
made-longer s deep ps next zero made = absurd (omega (arith, step-shorter s ps made.next ps made.step))
made-longer s deep ps next (suc n) made = omega arith

not-done : (walk : Walk) (s : Stage) → IsWalk walk s → (IsDone walk → ⊥) → (t : WrittenTerm) → s ≡ has [] t → ⊥
not-done (walks.Expects b) (expects fs) h going t e = cc
not-done (walks.Expects b) (has fs u) h going t e = absurd h
not-done (walks.Has b x) (expects fs) h going t e = absurd h
not-done (walks.Has b x) (has fs u) h going t e = let none : fs ≡ [] = cc in going (h.0.count ∙ ap length none)

pub walked-none : (ps : Parts) (walk : Walk) (taken : ℕ) (h : IsWalked ps walk taken) → (IsDone walk → ⊥) → HasNoStep h.stage (drop taken ps) → HasNoTerm ps
walked-none ps walk taken h going none t rest form e apart =
    leads-not t rest h.stage (drop taken ps) (h.complete t rest form e apart) none (not-done walk h.stage h.shown going)

-- the end
done-stage : (walk : Walk) (s : Stage) → IsWalk walk s → IsDone walk → (t : WrittenTerm) × (s ≡ has [] t) × ((kept : Option WrittenTerm) → IsFinished walk kept → MatchOption kept (is_deep walk ≡ true) (λ x. (is_deep walk ≡ false) × (x ≡ t)))
done-stage (walks.Expects b) s h done = absurd done
done-stage (walks.Has b x) (expects fs) h done = absurd h
done-stage (walks.Has b x) (has fs t) h done =
    let none : fs ≡ [] = nil_from_length fs (sym h.0.count ∙ done) in
    (t, ap (λ y. has y t) none, kept_as)
  where
    kept_as : (kept : Option WrittenTerm) → MatchOption kept (b.deep ≡ true) (λ y. (b.deep ≡ false) × (y ≡ x)) → MatchOption kept (b.deep ≡ true) (λ y. (b.deep ≡ false) × (y ≡ t))
    kept_as None f = f
    kept_as (Some y) f = (f.0, f.1 ∙ h.1 f.0)

kept-from : (walk : Walk) (t : WrittenTerm) (kept : Option WrittenTerm) → MatchOption kept (is_deep walk ≡ true) (λ x. (is_deep walk ≡ false) × (x ≡ t)) → (is_deep walk ≡ false → IsShallowTerm t) → (is_deep walk ≡ true → IsShallowTerm t → ⊥) → IsKept kept t
kept-from walk t None f shallow deep = deep f
kept-from walk t (Some x) f shallow deep = (f.1, shallow f.0)

fits-shallow : (t : WrittenTerm) → Fits 0 t → IsShallowTerm t
fits-shallow t h = omega arith

shallow-fits : (t : WrittenTerm) → IsShallowTerm t → Fits 0 t
shallow-fits t h = omega arith

pub walked-done : (ps : Parts) (walk : Walk) (found : TermRead) (h : IsWalked ps walk found.taken) → IsDone walk → IsFinished walk found.term → IsTermFound ps found
walked-done ps walk found h done finished =
    let end = done-stage walk h.stage h.shown done in
    let t : WrittenTerm = end.0 in
    let at : h.stage ≡ has [] t = end.1 in
    let fit : is_deep walk ≡ false → Fits 0 t = λ off. (subst IsFit at (h.shallow off)).1 in
    let unfit : is_deep walk ≡ true → Fits 0 t → ⊥ = λ on f. h.deep on t (drop found.taken ps) (subst (λ s. Leads t (drop found.taken ps) s (drop found.taken ps)) (sym at) ends) f in
    record {
      term = t;
      fits = h.fits;
      read = record {
        form = (subst IsGood at h.good).1;
        written = sym h.read ∙ ap (λ s. walked s ++ drop found.taken ps) at;
        only = λ other behind form e apart.
            leads-end other behind h.stage (drop found.taken ps) (h.complete other behind form e apart) t at;
      };
      kept = kept-from walk t found.term (end.2 found.term finished) (λ off. fits-shallow t (fit off)) (λ on s. unfit on (shallow-fits t s));
    }

-- ---- one step of the program

pub advance-expects : (b : Brackets) (s : Stage) (ps : Parts) (o : Option (Walk × ℕ)) → ((fs : List WrittenTerm) → AreOpen b fs → MatchOption o (HasNoStep (expects fs) ps) (λ r. IsStepMade (expects fs) b.deep ps r.0 r.1))
    → IsWalk (walks.Expects b) s → IsAdvanced s b.deep ps o
advance-expects b (expects fs) ps o h k = h fs k
advance-expects b (has fs t) ps o h k = absurd k

pub advance-has : (b : Brackets) (x : WrittenTerm) (s : Stage) (ps : Parts) (o : Option (Walk × ℕ))
    → ((fs : List WrittenTerm) (t : WrittenTerm) → AreOpen b fs → (b.deep ≡ false → x ≡ t) → MatchOption o (HasNoStep (has fs t) ps) (λ r. IsStepMade (has fs t) b.deep ps r.0 r.1))
    → IsWalk (walks.Has b x) s → IsAdvanced s b.deep ps o
advance-has b x (expects fs) ps o h k = absurd k
advance-has b x (has fs t) ps o h k = h fs t k.0 k.1
