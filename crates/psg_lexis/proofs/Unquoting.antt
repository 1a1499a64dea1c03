-- What is written between quotes says one text.
use Rattle.std.proofs.Common.{◌≡◌, ℕ, zero, suc, ◌<◌, ◌≤◌, Bool, true, false, cond, Option, Some, None, [], ◌∷◌, ◌++◌, length, sym, ap, ◌∙◌, refl, append_assoc, arith, length-append}
use Rattle.std.specs.Prelude.{is_some, ◌||◌, ◌==◌}
use Rattle.std.proofs.lemmas.Bool.{false≢true, eqb-true}
use Rattle.unicode_width.specs.Width.{char_width}
use Rattle.psg_lexis.specs.Classes.{Chars, is_escape, All, EndsBy}
use Rattle.psg_lexis.specs.Tokens.{is_content, escaped, quoted}

-- the first character of the contents, and what follows it
take_escape : Chars → Option (ℕ × Chars)
take_escape [] = None
take_escape (d ∷ ds) =
    cond (d == 34) (Some (34, ds)) (cond (d == 92) (Some (92, ds)) (cond (d == 110) (Some (10, ds)) None))

pub take_content : Chars → Option (ℕ × Chars)
take_content [] = None
take_content (c ∷ cs) =
    cond (c == 92) (take_escape cs) (cond (c == 34) None (cond (c == 10) None (cond (is_some (char_width false c)) (Some (c, cs)) None)))

with_width : (a b : Bool) → a ≡ false → (a || b) ≡ true → b ≡ true
with_width true b h k = absurd (false≢true (sym h))
with_width false b h k = k

taken_by : (c : ℕ) (ds : Chars) (a b d : Bool) → (c == 34) ≡ a → (c == 92) ≡ b → (c == 10) ≡ d → is_content c ≡ true
    → take_content (cond a (92 ∷ 34 ∷ []) (cond b (92 ∷ 92 ∷ []) (cond d (92 ∷ 110 ∷ []) (c ∷ []))) ++ ds) ≡ Some (c, ds)
unfolding take_content take_escape
taken_by c ds true b d p q r w = ap (λ n. Some (n, ds)) (sym (eqb-true c 34 p))
taken_by c ds false true d p q r w = ap (λ n. Some (n, ds)) (sym (eqb-true c 92 q))
taken_by c ds false false true p q r w = ap (λ n. Some (n, ds)) (sym (eqb-true c 10 r))
taken_by c ds false false false p q r w =
    let k = with_width (c == 10) (is_some (char_width false c)) r w in rw (q, p, r, k) refl

pub take_content-escaped : (c : ℕ) (ds : Chars) → is_content c ≡ true → take_content (escaped c ++ ds) ≡ Some (c, ds)
take_content-escaped c ds w = taken_by c ds (c == 34) (c == 92) (c == 10) refl refl refl w

pub stops-quote : (cs : Chars) → take_content (34 ∷ cs) ≡ None
unfolding take_content
stops-quote cs = refl

not_escape : (a b c : Bool) (x y z : Option (ℕ × Chars)) → (a || b || c) ≡ false
    → cond a x (cond b y (cond c z None)) ≡ None
not_escape true b c x y z h = absurd (false≢true (sym h))
not_escape false true c x y z h = absurd (false≢true (sym h))
not_escape false false true x y z h = absurd (false≢true (sym h))
not_escape false false false x y z h = refl

pub stops-backslash : (cs : Chars) → EndsBy is_escape cs → take_content (92 ∷ cs) ≡ None
unfolding take_content take_escape
stops-backslash [] e = refl
stops-backslash (d ∷ ds) e = not_escape (d == 34) (d == 92) (d == 110) (Some (34, ds)) (Some (92, ds)) (Some (
  10,
  ds,
)) e

narrow : (a b d : Bool) (x y : Option (ℕ × Chars)) → a ≡ false
    → cond a x (cond b None (cond d None (cond false y None))) ≡ None
narrow true b d x y h = absurd (false≢true (sym h))
narrow false true d x y h = refl
narrow false false true x y h = refl
narrow false false false x y h = refl

none_is : (o : Option ℕ) → o ≡ None → is_some o ≡ false
none_is o e = ap is_some e

-- a character without a width is neither a quote nor a backslash
has_width : (c : ℕ) → char_width false c ≡ None → (d : ℕ) → is_some (char_width false d) ≡ true → (c == d) ≡ false
has_width c e d w = by (c == d) refl
  where
    by : (b : Bool) → (c == d) ≡ b → (c == d) ≡ false
    by true k = absurd (false≢true (sym (none_is (char_width false c) e)
        ∙ ap (λ n. is_some (char_width false n)) (eqb-true c d k) ∙ w))
    by false k = k

width-quote : is_some (char_width false 34) ≡ true
unfolding char_width
width-quote = refl

width-backslash : is_some (char_width false 92) ≡ true
unfolding char_width
width-backslash = refl

pub no_width_no_quote : (c : ℕ) → char_width false c ≡ None → (c == 34) ≡ false
no_width_no_quote c e = has_width c e 34 width-quote

pub no_width_no_backslash : (c : ℕ) → char_width false c ≡ None → (c == 92) ≡ false
no_width_no_backslash c e = has_width c e 92 width-backslash

pub stops-no_width : (c : ℕ) (cs : Chars) → char_width false c ≡ None → take_content (c ∷ cs) ≡ None
unfolding take_content
stops-no_width c cs e =
    let k : is_some (char_width false c) ≡ false = none_is (char_width false c) e in
    let q = no_width_no_backslash c e in
    rw k (narrow (c == 92) (c == 34) (c == 10) (take_escape cs) (Some (c, cs)) q)

-- ---- the longest contents that the characters begin with, in at most so many steps

step_by : Option (ℕ × Chars) → Chars → (Chars → Chars × Chars) → Chars × Chars
step_by None cs go = ([], cs)
step_by (Some p) cs go = (p.0 ∷ (go p.1).0, (go p.1).1)

pub contents_of : ℕ → Chars → Chars × Chars
contents_of zero cs = ([], cs)
contents_of (suc n) cs = step_by (take_content cs) cs (contents_of n)

pub contents_of-quoted : (n : ℕ) (xs follow : Chars) → length xs ≤ n → All is_content xs
    → take_content follow ≡ None → contents_of n (quoted xs ++ follow) ≡ (xs, follow)
unfolding contents_of step_by
contents_of-quoted zero [] follow l a s = refl
contents_of-quoted (suc n) [] follow l a s = rw s refl
contents_of-quoted zero (x ∷ xs) follow l a s = absurd (omega arith)
contents_of-quoted (suc n) (x ∷ xs) follow l a s =
    let e : take_content ((escaped x ++ quoted xs) ++ follow) ≡ Some (x, quoted xs ++ follow) =
    ap take_content (append_assoc (escaped x) (quoted xs) follow)
    ∙ take_content-escaped x (quoted xs ++ follow) a.0 in
    let k : contents_of n (quoted xs ++ follow) ≡ (xs, follow) = contents_of-quoted n xs follow (omega arith) a.1 s in
    rw (e, k) refl

escaped_some : (a b d : Bool) (c : ℕ)
    → 0 < length (cond a (92 ∷ 34 ∷ []) (cond b (92 ∷ 92 ∷ []) (cond d (92 ∷ 110 ∷ []) (c ∷ []))))
escaped_some true b d c = omega arith
escaped_some false true d c = omega arith
escaped_some false false true c = omega arith
escaped_some false false false c = omega arith

pub contents_small : (xs follow : Chars) → length xs ≤ length (quoted xs ++ follow)
contents_small [] follow = omega arith
contents_small (x ∷ xs) follow =
    let h = contents_small xs follow in
    omega (
      arith,
      h,
      escaped_some (x == 34) (x == 92) (x == 10) x,
      ap length (append_assoc (escaped x) (quoted xs) follow),
      length-append (escaped x) (quoted xs ++ follow),
    )
