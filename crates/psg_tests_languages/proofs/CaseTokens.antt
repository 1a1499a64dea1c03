-- The tokens of a text with their places, and texts that have none.
use Rattle.std.proofs.Common.{◌≡◌, ◌++◌, ◌||◌, ◌==◌, ◌<◌, ℕ, Bool, true, false, List, [], ◌∷◌, codes, refl, sym, ap, ◌∙◌, subst, true≢false, lit<, lit≤}
use Rattle.std.specs.Prelude.{IsTrue, encode_utf8_all}
use Rattle.std.specs.Char.{is_ascii_alphabetic, is_ascii_alphanumeric}
use Rattle.unicode_ident.proofs.IdentLemmas.{is_xid_start-ascii, is_xid_continue-ascii}
use Rattle.psg_terms.specs.Names.{Name, is_among}
use Rattle.psg_terms.specs.Words.{starts_word, goes_on_word}
use Rattle.psg_lexis.specs.Classes.{Chars, is_blank, is_digit, is_solo, is_symbol, begins_by}
use Rattle.psg_lexis.specs.Tokens.{IsToken, word, number, text, solo, symbol, hole, more, Begins, HasTokens, nothing, blank, next}
use Rattle.psg_lexis.specs.declared.token.Token.{Token}
use Rattle.psg_lexis.specs.declared.token.Token.TheVariants as tokens
use Rattle.psg_lexis.specs.declared.token.Spanned.{Spanned}

-- for ASCII the words of Unicode are those of letters, digits and `_`
pub starts : (c : ℕ) → c < 128 → starts_word c ≡ (is_ascii_alphabetic c || (c == 95))
starts c lt = ap (λ b. b || (c == 95)) (is_xid_start-ascii c lt)

pub goes_on : (c : ℕ) → c < 128 → goes_on_word c ≡ ((is_ascii_alphanumeric c || (c == 95)) || (c == 95))
goes_on c lt = ap (λ b. b || (c == 95)) (is_xid_continue-ascii c lt)

abbrev fixed : List Name
fixed = codes "let" ∷ codes "=" ∷ []

abbrev spanned : Token → ℕ → ℕ → Spanned
spanned t from to = record { token = t; start = from; end = to }

-- ---- `let x=07 ?E("\n") ...`

abbrev line : Chars
line = codes "let x=07 ?E(" ++ (34 ∷ 92 ∷ 110 ∷ 34 ∷ codes ") ...")

-- the number is 7, and the contents of the quoted text are one line feed
abbrev line_tokens : List Spanned
line_tokens =
    spanned (tokens.Word (codes "let")) 0 3 ∷ spanned (tokens.Word (codes "x")) 4 5 ∷ spanned (tokens.Symbol (codes "=")) 5 6 ∷ spanned (tokens.Number 7) 6 8
    ∷ spanned (tokens.Hole (codes "E")) 9 11 ∷ spanned (tokens.Solo 40) 11 12 ∷ spanned (tokens.Text (10 ∷ [])) 12 16 ∷ spanned (tokens.Solo 41) 16 17
    ∷ spanned tokens.More 18 21 ∷ []

abbrev token_let : Begins fixed line 0 (spanned (tokens.Word (codes "let")) 0 3)
unfolding lib.Utf8.encode
token_let = record {
  front = codes "let";
  rest = codes " x=07 ?E(" ++ (34 ∷ 92 ∷ 110 ∷ 34 ∷ codes ") ...");
  whole = refl;
  token = word (codes "let") _ (starts 108 (lit< tt), (goes_on 101 (lit< tt), (goes_on 116 (lit< tt), tt))) (goes_on 32 (lit< tt)) (lit≤ tt);
  starts = refl;
  ends = refl;
}

abbrev token_x : Begins fixed (codes "x=07 ?E(" ++ (34 ∷ 92 ∷ 110 ∷ 34 ∷ codes ") ...")) 4 (spanned (tokens.Word (codes "x")) 4 5)
unfolding lib.Utf8.encode
token_x = record {
  front = codes "x";
  rest = codes "=07 ?E(" ++ (34 ∷ 92 ∷ 110 ∷ 34 ∷ codes ") ...");
  whole = refl;
  token = word (codes "x") _ (starts 120 (lit< tt), tt) (goes_on 61 (lit< tt)) (lit≤ tt);
  starts = refl;
  ends = refl;
}

no_dots : (61 ∷ []) ≡ codes "..." → ⊥
no_dots e = cc

abbrev token_is : Begins fixed (codes "=07 ?E(" ++ (34 ∷ 92 ∷ 110 ∷ 34 ∷ codes ") ...")) 5 (spanned (tokens.Symbol (codes "=")) 5 6)
unfolding lib.Utf8.encode
token_is = record {
  front = codes "=";
  rest = codes "07 ?E(" ++ (34 ∷ 92 ∷ 110 ∷ 34 ∷ codes ") ...");
  whole = refl;
  token = symbol (codes "=") _ record { begins = refl; all = (refl, tt); ends = refl } refl no_dots;
  starts = refl;
  ends = refl;
}

abbrev token_seven : Begins fixed (codes "07 ?E(" ++ (34 ∷ 92 ∷ 110 ∷ 34 ∷ codes ") ...")) 6 (spanned (tokens.Number 7) 6 8)
unfolding lib.Utf8.encode
token_seven = record {
  front = codes "07";
  rest = codes " ?E(" ++ (34 ∷ 92 ∷ 110 ∷ 34 ∷ codes ") ...");
  whole = refl;
  token = number (codes "07") _ record { begins = refl; all = (refl, (refl, tt)); ends = refl } (goes_on 32 (lit< tt)) (lit< tt);
  starts = refl;
  ends = refl;
}

abbrev token_hole : Begins fixed (codes "?E(" ++ (34 ∷ 92 ∷ 110 ∷ 34 ∷ codes ") ...")) 9 (spanned (tokens.Hole (codes "E")) 9 11)
unfolding lib.Utf8.encode
token_hole = record {
  front = codes "?E";
  rest = codes "(" ++ (34 ∷ 92 ∷ 110 ∷ 34 ∷ codes ") ...");
  whole = refl;
  token = hole (codes "E") _ (starts 69 (lit< tt), tt) (goes_on 40 (lit< tt)) (lit≤ tt);
  starts = refl;
  ends = refl;
}

abbrev token_open : Begins fixed (codes "(" ++ (34 ∷ 92 ∷ 110 ∷ 34 ∷ codes ") ...")) 11 (spanned (tokens.Solo 40) 11 12)
unfolding lib.Utf8.encode
token_open = record { front = codes "("; rest = 34 ∷ 92 ∷ 110 ∷ 34 ∷ codes ") ..."; whole = refl; token = solo 40 _ refl; starts = refl; ends = refl }

abbrev token_text : Begins fixed (34 ∷ 92 ∷ 110 ∷ 34 ∷ codes ") ...") 12 (spanned (tokens.Text (10 ∷ [])) 12 16)
unfolding lib.Utf8.encode
token_text = record {
  front = 34 ∷ 92 ∷ 110 ∷ 34 ∷ [];
  rest = codes ") ...";
  whole = refl;
  token = text (10 ∷ []) (92 ∷ 110 ∷ 34 ∷ []) _ refl (refl, tt) (lit≤ tt);
  starts = refl;
  ends = refl;
}

abbrev token_close : Begins fixed (codes ") ...") 16 (spanned (tokens.Solo 41) 16 17)
unfolding lib.Utf8.encode
token_close = record { front = codes ")"; rest = codes " ..."; whole = refl; token = solo 41 _ refl; starts = refl; ends = refl }

abbrev token_more : Begins fixed (codes "...") 18 (spanned tokens.More 18 21)
unfolding lib.Utf8.encode
token_more = record { front = codes "..."; rest = []; whole = refl; token = more _ refl; starts = refl; ends = refl }

-- The line has these nine tokens.
line_has : HasTokens fixed line 0 line_tokens
unfolding lib.Utf8.encode
line_has =
    next line 0 _ _ token_let (blank 32 _ 3 _ refl (next _ 4 _ _ token_x (next _ 5 _ _ token_is (next _ 6 _ _ token_seven (blank 32 _ 8 _ refl
    (next _ 9 _ _ token_hole (next _ 11 _ _ token_open (next _ 12 _ _ token_text (next _ 16 _ _ token_close (blank 32 _ 17 _ refl
    (next _ 18 _ _ token_more (nothing 21))))))))))))

-- the empty text, and one of blanks, have none
no_text : HasTokens fixed [] 0 []
no_text = nothing 0

blanks : HasTokens fixed (32 ∷ 9 ∷ 10 ∷ 13 ∷ []) 0 []
blanks = blank 32 _ 0 _ refl (blank 9 _ 1 _ refl (blank 10 _ 2 _ refl (blank 13 _ 3 _ refl (nothing 4))))

-- ---- texts without tokens

same_first : (c d : ℕ) (cs ds : Chars) → c ∷ cs ≡ d ∷ ds → c ≡ d
same_first c d cs ds e = cc

other_first : (c d : ℕ) (test : ℕ → Bool) (b : Bool) (cs ds : Chars) → c ∷ cs ≡ d ∷ ds → test c ≡ b → test d ≡ b
other_first c d test b cs ds e is = subst (λ x. test x ≡ b) (same_first c d cs ds e) is

-- `==` is a run of symbols that is no fixed word
equals_begin : (front rest : Chars) (t : Token) → codes "==" ≡ front ++ rest → IsToken fixed front rest t → ⊥
unfolding lib.Utf8.encode
equals_begin front rest t e (word [] r w b n) = w
equals_begin front rest t e (word (c ∷ cs) r w b n) = true≢false (sym w.0 ∙ other_first 61 c starts_word false _ _ e (starts 61 (lit< tt)))
equals_begin front rest t e (number [] r run b n) = true≢false (sym run.begins)
equals_begin front rest t e (number (c ∷ cs) r run b n) = true≢false (sym run.begins ∙ other_first 61 c is_digit false _ _ e refl)
equals_begin front rest t e (text cs w r of_text all n) = true≢false (sym (other_first 61 34 is_symbol true _ _ e refl))
equals_begin front rest t e (solo c r s) = true≢false (sym s ∙ other_first 61 c is_solo false _ _ e refl)
equals_begin front rest t e (symbol [] r run among n) = true≢false (sym run.begins)
equals_begin front rest t e (symbol (c ∷ []) r run among n) =
    let after : 61 ∷ [] ≡ r = cc in
    true≢false (subst (λ s. begins_by is_symbol s ≡ false) (sym after) run.ends)
equals_begin front rest t e (symbol (c ∷ d ∷ []) r run among n) =
    let run_is : c ∷ d ∷ [] ≡ codes "==" = cc in
    true≢false (sym (subst (λ s. IsTrue (is_among fixed (encode_utf8_all s))) run_is among))
equals_begin front rest t e (symbol (c ∷ d ∷ f ∷ cs) r run among n) = cc
equals_begin front rest t e (hole cs r w b n) = true≢false (sym (other_first 61 63 is_symbol true _ _ e refl))
equals_begin front rest t e (more r b) = cc

equals_has_none : (ts : List Spanned) → HasTokens fixed (codes "==") 0 ts → ⊥
equals_has_none ts h = none (codes "==") 0 ts refl h where
  none : (all : Chars) (at : ℕ) (ts : List Spanned) → codes "==" ≡ all → HasTokens fixed all at ts → ⊥
  none all at ts e (nothing k) = cc
  none all at ts e (blank c cs k us b h) = true≢false (sym b ∙ other_first 61 c is_blank false _ _ e refl)
  none all at ts e (next cs k s us begins h) = equals_begin begins.front begins.rest s.token (e ∙ begins.whole) begins.token

-- `7x`: no letter follows the digits of a number
seven_begin : (front rest : Chars) (t : Token) → codes "7x" ≡ front ++ rest → IsToken fixed front rest t → ⊥
seven_begin front rest t e (word [] r w b n) = w
seven_begin front rest t e (word (c ∷ cs) r w b n) = true≢false (sym w.0 ∙ other_first 55 c starts_word false _ _ e (starts 55 (lit< tt)))
seven_begin front rest t e (number [] r run b n) = true≢false (sym run.begins)
seven_begin front rest t e (number (c ∷ []) r run b n) =
    let after : 120 ∷ [] ≡ r = cc in
    true≢false (sym (goes_on 120 (lit< tt)) ∙ subst (λ s. begins_by goes_on_word s ≡ false) (sym after) b)
seven_begin front rest t e (number (c ∷ d ∷ cs) r run b n) = let second : 120 ≡ d = cc in true≢false (sym run.all.1.0 ∙ subst (λ x. is_digit x ≡ false) second refl)
seven_begin front rest t e (text cs w r of_text all n) = true≢false (sym (other_first 55 34 is_digit true _ _ e refl))
seven_begin front rest t e (solo c r s) = true≢false (sym s ∙ other_first 55 c is_solo false _ _ e refl)
seven_begin front rest t e (symbol [] r run among n) = true≢false (sym run.begins)
seven_begin front rest t e (symbol (c ∷ cs) r run among n) = true≢false (sym run.begins ∙ other_first 55 c is_symbol false _ _ e refl)
seven_begin front rest t e (hole cs r w b n) = true≢false (sym (other_first 55 63 is_digit true _ _ e refl))
seven_begin front rest t e (more r b) = true≢false (sym (other_first 55 46 is_digit true _ _ e refl))

seven_has_none : (ts : List Spanned) → HasTokens fixed (codes "7x") 0 ts → ⊥
seven_has_none ts h = none (codes "7x") 0 ts refl h where
  none : (all : Chars) (at : ℕ) (ts : List Spanned) → codes "7x" ≡ all → HasTokens fixed all at ts → ⊥
  none all at ts e (nothing k) = cc
  none all at ts e (blank c cs k us b h) = true≢false (sym b ∙ other_first 55 c is_blank false _ _ e refl)
  none all at ts e (next cs k s us begins h) = seven_begin begins.front begins.rest s.token (e ∙ begins.whole) begins.token
