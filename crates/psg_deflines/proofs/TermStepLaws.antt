-- What the frames of a walk hold after a step.
use Rattle.std.proofs.Common.{◌≡◌, ℕ, ◌||◌, nat_le, Bool, true, false, List, [], ◌∷◌, ◌++◌, drop, length, length-append, codes, refl, ap, sym, ◌∙◌, subst, arith}
use Rattle.std.proofs.lemmas.Bool.{or_parts}
use Rattle.std.specs.Borrow.{Bor}
use Rattle.psg_grammar.specs.Sound.{IsOwnName}
use Rattle.psg_deflines.specs.Parts.{texts}
use Rattle.psg_deflines.specs.WrittenTerms.{WrittenTerm, variable, named, apply, applied, is_variable_name, most_nested}
use Rattle.psg_deflines.specs.TermWalks.{Parts, IsOpened, IsNotOpened, expects, has, variable_step, constant_step, opened_step, comma_step, closed_step, IsStepMade, frame_term, framed_behind, AreOpen, height}
use Rattle.psg_deflines.specs.declared.term_reading.Frame.{Frame}
use Rattle.psg_deflines.specs.declared.term_reading.Brackets.{Brackets}
use Rattle.psg_deflines.specs.declared.term_reading.Walk.TheVariants as walks

framed-snoc : (outer : List WrittenTerm) (xs : List Frame) (y : Frame) → framed_behind outer (xs ++ y ∷ []) ≡ frame_term y ∷ framed_behind outer xs
framed-snoc outer [] y = refl
framed-snoc outer (x ∷ xs) y = framed-snoc (frame_term x ∷ outer) xs y

-- one more frame
pub open-more : (b c : Brackets) (fs : List WrittenTerm) (f : WrittenTerm) (y : Frame) → AreOpen b fs → c.frames.items ≡ b.frames.items ++ y ∷ [] → (c.deep ≡ false → b.deep ≡ false) → (c.deep ≡ false → frame_term y ≡ f) → AreOpen c (f ∷ fs)
open-more b c fs f y h items deep is = record {
  count = ap length items ∙ length-append b.frames.items (y ∷ []) ∙ omega (arith, h.count);
  kept = λ n. ap (framed_behind []) items ∙ framed-snoc [] b.frames.items y ∙ ap (λ x. x ∷ framed_behind [] b.frames.items) (is n) ∙ ap (λ xs. f ∷ xs) (h.kept (deep n));
}

-- the same frames
pub open-same : (b c : Brackets) (fs : List WrittenTerm) → AreOpen b fs → c.frames.items ≡ b.frames.items → (c.deep ≡ false → b.deep ≡ false) → AreOpen c fs
open-same b c fs h items deep = record { count = ap length items ∙ h.count; kept = λ n. ap (framed_behind []) items ∙ h.kept (deep n) }

-- the last frame taken away
pub record IsPopped (b c : Brackets) (y : Frame) (fs : List WrittenTerm) : Type 0 where
  pub first : WrittenTerm
  pub rest : List WrittenTerm
  pub split : fs ≡ first ∷ rest
  pub left : AreOpen c rest
  pub kept : b.deep ≡ false → frame_term y ≡ first

pub open-less : (b c : Brackets) (y : Frame) (fs : List WrittenTerm) → AreOpen b fs → b.frames.items ≡ c.frames.items ++ y ∷ [] → c.deep ≡ b.deep → IsPopped b c y fs
open-less b c y [] h items deep = absurd (omega (arith, h.count, ap length items, length-append c.frames.items (y ∷ [])))
open-less b c y (f ∷ fs) h items deep =
    let framed : b.deep ≡ false → frame_term y ∷ framed_behind [] c.frames.items ≡ f ∷ fs = λ n. sym (framed-snoc [] c.frames.items y) ∙ ap (framed_behind []) (sym items) ∙ h.kept n in
    record {
      first = f;
      rest = fs;
      split = refl;
      left = record {
        count = omega (arith, h.count, ap length items, length-append c.frames.items (y ∷ []));
        kept = λ n. tails (frame_term y) f (framed_behind [] c.frames.items) fs (framed (sym deep ∙ n));
      };
      kept = λ n. heads (frame_term y) f (framed_behind [] c.frames.items) fs (framed n);
    }
  where
    heads : (x y : WrittenTerm) (xs ys : List WrittenTerm) → x ∷ xs ≡ y ∷ ys → x ≡ y
    heads x y xs ys e = cc

    tails : (x y : WrittenTerm) (xs ys : List WrittenTerm) → x ∷ xs ≡ y ∷ ys → xs ≡ ys
    tails x y xs ys e = cc

-- a list of parts by its first one
pub texts-first : (ts rest : List (Bor (List ℕ))) (t : Bor (List ℕ)) → ts ≡ t ∷ rest → texts ts ≡ t.now ∷ texts rest
texts-first ts rest t e = ap texts e

one-less : (ps rest : Parts) (p : List ℕ) → ps ≡ p ∷ rest → rest ≡ drop 1 ps
one-less ps rest p e = sym (ap (drop 1) e)

noted-by : (deep : Bool) (count height len : ℕ) → len ≡ count → count ≡ height → (deep || nat_le most_nested len) ≡ (deep || nat_le most_nested height)
noted-by deep count height len e f = ap (λ n. deep || nat_le most_nested n) (e ∙ f)

-- ---- the steps

pub variable-made : (b c : Brackets) (len : ℕ) (fs : List WrittenTerm) (ps rest : Parts) (n m : List ℕ) → AreOpen b fs → c.frames.items ≡ b.frames.items → len ≡ length b.frames.items → c.deep ≡ (b.deep || nat_le most_nested len)
    → ps ≡ (63 ∷ n) ∷ rest → is_variable_name n ≡ true → m ≡ n → IsStepMade (expects fs) b.deep ps (walks.Has c (variable m)) 1
variable-made b c len fs ps rest n m h items size deep e v same = record {
  next = has fs (variable n);
  fits = omega (arith, ap length e);
  step = variable_step fs n refl (e ∙ ap (λ xs. (63 ∷ n) ∷ xs) (one-less ps rest (63 ∷ n) e)) v refl;
  shown = (open-same b c fs h items (λ d. (or_parts b.deep (nat_le most_nested len) (sym deep ∙ d)).0), λ d. ap variable same);
  noted = deep ∙ noted-by b.deep (length b.frames.items) (length fs) len size h.count;
}

pub constant-made : (b c : Brackets) (len : ℕ) (fs : List WrittenTerm) (ps rest : Parts) (n m : List ℕ) (args : List WrittenTerm) → AreOpen b fs → c.frames.items ≡ b.frames.items → len ≡ length b.frames.items → c.deep ≡ (b.deep || nat_le most_nested len)
    → ps ≡ n ∷ rest → IsOwnName n → IsNotOpened rest → m ≡ n → args ≡ [] → IsStepMade (expects fs) b.deep ps (walks.Has c (applied (named m) args)) 1
constant-made b c len fs ps rest n m args h items size deep e v apart same none = record {
  next = has fs (named n);
  fits = omega (arith, ap length e);
  step = constant_step fs n refl (e ∙ ap (λ xs. n ∷ xs) (one-less ps rest n e)) v (subst IsNotOpened (one-less ps rest n e) apart) refl;
  shown = (open-same b c fs h items (λ d. (or_parts b.deep (nat_le most_nested len) (sym deep ∙ d)).0), λ d. ap (applied (named m)) none ∙ ap named same);
  noted = deep ∙ noted-by b.deep (length b.frames.items) (length fs) len size h.count;
}

pub opened-made : (b c : Brackets) (len : ℕ) (fs : List WrittenTerm) (ps rest : Parts) (n : List ℕ) (y : Frame) → AreOpen b fs → c.frames.items ≡ b.frames.items ++ y ∷ [] → len ≡ length b.frames.items → c.deep ≡ (b.deep || nat_le most_nested len)
    → ps ≡ n ∷ rest → IsOwnName n → IsOpened rest → y.name ≡ n → y.args.items ≡ [] → IsStepMade (expects fs) b.deep ps (walks.Expects c) 2
opened-made b c len fs ps rest n y h items size deep e v opened same none =
    let whole : ps ≡ n ∷ codes "(" ∷ opened.0 = e ∙ ap (λ xs. n ∷ xs) opened.1 in
    let left : opened.0 ≡ drop 2 ps = sym (ap (drop 2) whole) in
    record {
      next = expects (named n ∷ fs);
      fits = omega (arith, ap length whole);
      step = opened_step fs n refl (whole ∙ ap (λ xs. n ∷ codes "(" ∷ xs) left) v refl;
      shown = open-more b c fs (named n) y h items (λ d. (or_parts b.deep (nat_le most_nested len) (sym deep ∙ d)).0) (λ d. ap (applied (named y.name)) none ∙ ap named same);
      noted = deep ∙ noted-by b.deep (length b.frames.items) (length fs) len size h.count;
    }

or-height-none : (deep : Bool) → deep ≡ (deep || nat_le most_nested 0)
or-height-none true = refl
or-height-none false = refl

-- behind a term: the frame popped has one more argument
pub comma-made : (b c d : Brackets) (x y : Frame) (fs : List WrittenTerm) (a t : WrittenTerm) (ps rest : Parts) → AreOpen b fs → (b.deep ≡ false → a ≡ t) → b.frames.items ≡ c.frames.items ++ x ∷ [] → c.deep ≡ b.deep
    → (b.deep ≡ false → frame_term y ≡ apply (frame_term x) a) → d.frames.items ≡ c.frames.items ++ y ∷ [] → d.deep ≡ b.deep → ps ≡ codes "," ∷ rest → IsStepMade (has fs t) b.deep ps (walks.Expects d) 1
comma-made b c d x y fs a t ps rest h term items deep made more deeper e =
    let popped = open-less b c x fs h items deep in
    record {
      next = expects (apply popped.first t ∷ popped.rest);
      fits = omega (arith, ap length e);
      step = comma_step popped.first t popped.rest (ap (λ xs. has xs t) popped.split) (e ∙ ap (λ xs. codes "," ∷ xs) (one-less ps rest (codes ",") e)) refl;
      shown = open-more c d popped.rest (apply popped.first t) y popped.left more (λ n. deep ∙ sym deeper ∙ n)
          (λ n. let off : b.deep ≡ false = sym deeper ∙ n in made off ∙ ap (λ z. apply z a) (popped.kept off) ∙ ap (apply popped.first) (term off));
      noted = deeper ∙ or-height-none b.deep;
    }

pub closed-made : (b c : Brackets) (x y : Frame) (fs : List WrittenTerm) (a t u : WrittenTerm) (ps rest : Parts) → AreOpen b fs → (b.deep ≡ false → a ≡ t) → b.frames.items ≡ c.frames.items ++ x ∷ [] → c.deep ≡ b.deep
    → (b.deep ≡ false → frame_term y ≡ apply (frame_term x) a) → u ≡ frame_term y → ps ≡ codes ")" ∷ rest → IsStepMade (has fs t) b.deep ps (walks.Has c u) 1
closed-made b c x y fs a t u ps rest h term items deep made whole e =
    let popped = open-less b c x fs h items deep in
    record {
      next = has popped.rest (apply popped.first t);
      fits = omega (arith, ap length e);
      step = closed_step popped.first t popped.rest (ap (λ xs. has xs t) popped.split) (e ∙ ap (λ xs. codes ")" ∷ xs) (one-less ps rest (codes ")") e)) refl;
      shown = (popped.left, λ n. let off : b.deep ≡ false = sym deep ∙ n in whole ∙ made off ∙ ap (λ z. apply z a) (popped.kept off) ∙ ap (apply popped.first) (term off));
      noted = deep ∙ or-height-none b.deep;
    }

pub applied-snoc : (t : WrittenTerm) (args : List WrittenTerm) (a : WrittenTerm) → applied t (args ++ a ∷ []) ≡ apply (applied t args) a
applied-snoc t [] a = refl
applied-snoc t (x ∷ xs) a = applied-snoc (apply t x) xs a

-- ---- what begins the parts

pub opened-first : (ps rest : Parts) (p : List ℕ) → ps ≡ p ∷ rest → p ≡ codes "(" → IsOpened ps
opened-first ps rest p e o = (rest, e ∙ ap (λ x. x ∷ rest) o)

pub not-opened-first : (ps rest : Parts) (p : List ℕ) → ps ≡ p ∷ rest → (p ≡ codes "(" → ⊥) → IsNotOpened ps
not-opened-first ps rest p e o behind f = let same : p ≡ codes "(" = cc in o same
