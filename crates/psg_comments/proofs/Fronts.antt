-- What begins with a token of comments.
use Rattle.std.proofs.Common.{◌≡◌, Bool, true, false, [], ◌∷◌, ◌++◌, sym, ap, ◌∙◌, subst, refl}
use Rattle.std.specs.Prelude.{◌==◌, ◌&&◌}
use Rattle.std.proofs.lemmas.Bool.{and_parts, eqb-true, false≢true}
use Rattle.psg_lexis.specs.Classes.{Chars, is_symbol, BeginsBy, EndsBy, All}
use Rattle.psg_comments.specs.Fitting.{begins_with}

pub untrue : (b : Bool) → (b ≡ true → ⊥) → b ≡ false
untrue true h = absurd (h refl)
untrue false h = refl

-- what begins with symbols begins with a symbol
pub begins_head : (cs ts : Chars) → BeginsBy is_symbol ts → begins_with cs ts ≡ true → BeginsBy is_symbol cs
begins_head [] [] b h = b
begins_head [] (t ∷ ts) b h = absurd (false≢true h)
begins_head (c ∷ cs) [] b h = absurd (false≢true b)
begins_head (c ∷ cs) (t ∷ ts) b h =
    subst (λ d. is_symbol d ≡ true) (sym (eqb-true c t (and_parts (c == t) (begins_with cs ts) h).0)) b

-- what begins with symbols has them in its longest run of symbols
pub begins_run : (run rest ts : Chars) → All is_symbol ts → EndsBy is_symbol rest → begins_with (run ++ rest) ts ≡ true
    → begins_with run ts ≡ true
begins_run [] rest [] a e h = refl
begins_run [] [] (t ∷ ts) a e h = h
begins_run [] (c ∷ cs) (t ∷ ts) a e h =
    absurd (false≢true (sym e ∙ ap is_symbol (eqb-true c t (and_parts (c == t) (begins_with cs ts) h).0) ∙ a.0))
begins_run (c ∷ run) rest [] a e h = refl
begins_run (c ∷ run) rest (t ∷ ts) a e h =
    let p = and_parts (c == t) (begins_with (run ++ rest) ts) h in
    ap (λ b. b && begins_with run ts) p.0 ∙ begins_run run rest ts a.1 e p.1

-- the longest run of symbols at the beginning
pub record Longest (cs : Chars) : Type 0 where
  pub run : Chars
  pub rest : Chars
  pub whole : cs ≡ run ++ rest
  pub all : All is_symbol run
  pub ends : EndsBy is_symbol rest

pub longest : (cs : Chars) → Longest cs
longest [] = record { run = []; rest = []; whole = refl; all = tt; ends = refl }
longest (c ∷ cs) = by (is_symbol c) refl (longest cs)
  where
    by : (b : Bool) → is_symbol c ≡ b → Longest cs → Longest (c ∷ cs)
    by true e l = record { run = c ∷ l.run; rest = l.rest; whole = ap (λ xs. c ∷ xs) l.whole; all = (e, l.all); ends = l.ends }
    by false e l = record { run = []; rest = c ∷ cs; whole = refl; all = tt; ends = e }
