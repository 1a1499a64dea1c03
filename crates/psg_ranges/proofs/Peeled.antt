-- A tree is a core with brackets around it.
use Rattle.std.proofs.Common.{◌≡◌, ◌⊎◌, inl, inr, ℕ, zero, suc, ◌+◌, ◌<◌, ◌==◌, ◌&&◌, Bool, true, false, List, [], ◌∷◌, ◌++◌, length, refl, sym, ap, ◌∙◌, arith, append_assoc, append-nil, length-append, eqb-true, eq-eqb, codes}
use Rattle.std.specs.Prelude.{bytes_eq, chars, encode_utf8_all}
use Rattle.std.specs.Str.{IsAscii}
use Rattle.std.specs.List.{list_all}
use Rattle.std.proofs.lemmas.Str.{chars-IsAscii}
use Rattle.std.proofs.lemmas.Str.Ascii.{IsAscii-nil}
use Rattle.psg_terms.specs.Words.{starts_word, goes_on_word}
use Rattle.std.proofs.lemmas.Bool.{false≢true}
use Rattle.psg_grammar.specs.declared.types.Definition.{Definition}
use Rattle.psg_grammar.specs.Fragments.{Fragment}
use Rattle.psg_grammar.specs.WellFormed.{fixed_words}
use Rattle.psg_terms.specs.Names.{is_among}
use Rattle.psg_lexis.specs.Classes.{is_solo}
use Rattle.psg_lexis.proofs.Disjoint.{solo_apart}
use Rattle.psg_class.specs.Terminals.{Token, word, numeral, quoted, solo, symbols, placeholder, dots, fixed, a_name, a_number, a_text, a_hole, a_more, stray, open_bracket, close_bracket, terminal_of, word_terminal, fixed_if, are_word, is_word, is_run}
use Rattle.psg_class.specs.Yields.{TreeYields, of_hole, of_operator, in_brackets}
use Rattle.psg_ranges.specs.Brackets.{is_open, is_close, is_bracketed}
use Rattle.psg_ranges.specs.Forests.{Core, hole_core, operator_core, Forest, node, of_tree}
use Rattle.psg_ranges.specs.Walking.{core_leading, core_names, core_below, leading, IsBracketed}
use Rattle.psg_ranges.proofs.Rows.{AllOpen, AllClose}

-- ---- the tokens of brackets

-- characters of which the first begins no word
not_word : (w : List ℕ) (c : ℕ) (cs : List ℕ) → chars w ≡ c ∷ cs → starts_word c ≡ false → is_word w ≡ false
not_word w c cs e s =
    ap (λ x. are_word x && bytes_eq (encode_utf8_all x) w) e ∙ ap (λ b. (b && list_all goes_on_word cs) && bytes_eq (encode_utf8_all (c ∷ cs)) w) s

one_ascii : (c : ℕ) → c < 128 → IsAscii (c ∷ [])
one_ascii c h zero = h
one_ascii c h (suc i) = IsAscii-nil i

one_char : (c : ℕ) → c < 128 → chars (c ∷ []) ≡ c ∷ []
one_char c h = chars-IsAscii (c ∷ []) (one_ascii c h)

open_word : is_word (codes "(") ≡ false
open_word = not_word (codes "(") 40 [] (one_char 40 (omega arith)) (solo_apart 40 refl).0

close_word : is_word (codes ")") ≡ false
close_word = not_word (codes ")") 41 [] (one_char 41 (omega arith)) (solo_apart 41 refl).0

no_word : (w v : List ℕ) (a b : Bool) → is_word w ≡ a → is_word v ≡ false → word_terminal w a b ≡ fixed v → ⊥
no_word w v true true e n h = let s : w ≡ v = (let x : fixed w ≡ fixed v = h in cc) in false≢true (sym n ∙ ap is_word (sym s) ∙ e)
no_word w v true false e n h = let x : a_name ≡ fixed v = h in cc
no_word w v false b e n h = let x : stray ≡ fixed v = h in cc

no_run : (w v : List ℕ) (a : Bool) → is_run w ≡ a → is_run v ≡ false → fixed_if a w ≡ fixed v → ⊥
no_run w v true e n h = let s : w ≡ v = (let x : fixed w ≡ fixed v = h in cc) in false≢true (sym n ∙ ap is_run (sym s) ∙ e)
no_run w v false e n h = let x : stray ≡ fixed v = h in cc

is_byte : (c d : ℕ) (a : Bool) → fixed_if a (c ∷ []) ≡ fixed (d ∷ []) → c == d ≡ true
is_byte c d true h = eq-eqb c d (let x : fixed (c ∷ []) ≡ fixed (d ∷ []) = h in cc)
is_byte c d false h = absurd (let x : stray ≡ fixed (d ∷ []) = h in cc)

module _ (def : Definition) where
  pub open_token : (t : Token) → terminal_of def t ≡ open_bracket → is_open t ≡ true
  open_token (word w) h = absurd (no_word w (codes "(") (is_word w) (is_among (fixed_words def) w) refl open_word h)
  open_token (numeral n) h = absurd (let x : a_number ≡ open_bracket = h in cc)
  open_token (quoted t) h = absurd (let x : a_text ≡ open_bracket = h in cc)
  open_token (solo c) h = is_byte c 40 (is_solo c) h
  open_token (symbols w) h = absurd (no_run w (codes "(") (is_run w) refl refl h)
  open_token (placeholder p) h = absurd (let x : a_hole p ≡ open_bracket = h in cc)
  open_token dots h = absurd (let x : a_more ≡ open_bracket = h in cc)

  pub close_token : (t : Token) → terminal_of def t ≡ close_bracket → is_close t ≡ true
  close_token (word w) h = absurd (no_word w (codes ")") (is_word w) (is_among (fixed_words def) w) refl close_word h)
  close_token (numeral n) h = absurd (let x : a_number ≡ close_bracket = h in cc)
  close_token (quoted t) h = absurd (let x : a_text ≡ close_bracket = h in cc)
  close_token (solo c) h = is_byte c 41 (is_solo c) h
  close_token (symbols w) h = absurd (no_run w (codes ")") (is_run w) refl refl h)
  close_token (placeholder p) h = absurd (let x : a_hole p ≡ close_bracket = h in cc)
  close_token dots h = absurd (let x : a_more ≡ close_bracket = h in cc)

  solo_terminal : (c d : ℕ) → c == d ≡ true → is_solo d ≡ true → terminal_of def (solo c) ≡ fixed (d ∷ [])
  solo_terminal c d e s = ap (λ x. terminal_of def (solo x)) (eqb-true c d e) ∙ ap (λ b. fixed_if b (d ∷ [])) s

  pub open_says : (t : Token) → is_open t ≡ true → terminal_of def t ≡ open_bracket
  open_says (word w) h = absurd (false≢true h)
  open_says (numeral n) h = absurd (false≢true h)
  open_says (quoted t) h = absurd (false≢true h)
  open_says (solo c) h = solo_terminal c 40 h refl
  open_says (symbols w) h = absurd (false≢true h)
  open_says (placeholder p) h = absurd (false≢true h)
  open_says dots h = absurd (false≢true h)

  pub close_says : (t : Token) → is_close t ≡ true → terminal_of def t ≡ close_bracket
  close_says (word w) h = absurd (false≢true h)
  close_says (numeral n) h = absurd (false≢true h)
  close_says (quoted t) h = absurd (false≢true h)
  close_says (solo c) h = solo_terminal c 41 h refl
  close_says (symbols w) h = absurd (false≢true h)
  close_says (placeholder p) h = absurd (false≢true h)
  close_says dots h = absurd (false≢true h)

-- ---- the core

all_close_end : (us : List Token) (u : Token) → AllClose us → is_close u ≡ true → AllClose (us ++ u ∷ [])
all_close_end [] u a h = (h, tt)
all_close_end (v ∷ us) u a h = (a.0, all_close_end us u a.1 h)

pub record Peeled (def : Definition) {f : Fragment} {p level depth : ℕ} {ts : List Token} (y : TreeYields def f p level depth ts) : Type 0 where
  pub opens : List Token
  pub own : List Token
  pub closes : List Token
  pub core : Core def f p own
  pub are : ts ≡ opens ++ (own ++ closes)
  pub same : length closes ≡ length opens
  pub all_open : AllOpen opens
  pub all_close : AllClose closes
  pub leading_is : leading y ≡ length opens + core_leading core
  pub forest : (start : ℕ) (beside : Forest) → of_tree y start beside
      ≡ node (start + length opens) (start + length opens + length own) (core_names core (start + length opens)) (core_below core (start + length opens)) beside
  pub bracketed : (length opens ≡ 0) ⊎ IsBracketed def p

-- the node of a core at the same place by other words
moved : (def : Definition) {f : Fragment} (p : ℕ) {ts : List Token} (y : Core def f p ts) (a b : ℕ) (beside : Forest) → a ≡ b
    → node a (a + length ts) (core_names y a) (core_below y a) beside ≡ node b (b + length ts) (core_names y b) (core_below y b) beside
moved def {f} p {ts} y a b beside e = ap (λ s. node s (s + length ts) (core_names y s) (core_below y s) beside) e

plain : (start : ℕ) → start ≡ start + 0
plain start = omega arith

pub peel : {def : Definition} {f : Fragment} {p level depth : ℕ} {ts : List Token} (y : TreeYields def f p level depth ts) → Peeled def y
peel {def} (of_hole {p = p} phylum found holes) = record {
  opens = [];
  own = placeholder phylum.name ∷ [];
  closes = [];
  core = hole_core phylum found holes;
  are = refl;
  same = refl;
  all_open = tt;
  all_close = tt;
  leading_is = omega arith;
  forest = λ start beside. moved def p (hole_core phylum found holes) start (start + 0) beside (plain start);
  bracketed = inl refl;
}
peel {def} (of_operator {p = p} {ts = ts} n o found is fits z) = record {
  opens = [];
  own = ts;
  closes = [];
  core = operator_core n o found is z;
  are = sym (append-nil ts);
  same = refl;
  all_open = tt;
  all_close = tt;
  leading_is = omega arith;
  forest = λ start beside. moved def p (operator_core n o found is z) start (start + 0) beside (plain start);
  bracketed = inl refl;
}
peel {def} (in_brackets {p = p} {ts = ts} phylum t u found bracketed is is' y) =
    let r = peel y in
    record {
      opens = t ∷ r.opens;
      own = r.own;
      closes = r.closes ++ u ∷ [];
      core = r.core;
      are = ap (λ x. t ∷ x) (ap (λ x. x ++ u ∷ []) r.are ∙ append_assoc r.opens (r.own ++ r.closes) (u ∷ []) ∙ ap (λ x. r.opens ++ x) (append_assoc r.own r.closes (u ∷ [])));
      same = omega (arith, length-append r.closes (u ∷ []), r.same);
      all_open = (open_token def t is, r.all_open);
      all_close = all_close_end r.closes u r.all_close (close_token def u is');
      leading_is = omega (arith, r.leading_is);
      forest = λ start beside. r.forest (start + 1) beside ∙ moved def p r.core (start + 1 + length r.opens) (start + length (t ∷ r.opens)) beside (omega arith);
      bracketed = inr (ap is_bracketed found ∙ bracketed);
    }
