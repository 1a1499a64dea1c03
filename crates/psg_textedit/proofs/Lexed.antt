-- Characters have tokens, or a first place without one.
use Rattle.std.proofs.Common.{◌≡◌, ◌≢◌, ◌⊎◌, inl, inr, ℕ, zero, suc, ◌+◌, ◌<◌, ◌≤◌, ◌^◌, ◌==◌, ◌||◌, Bool, true, false, List, [], ◌∷◌, ◌++◌, length, Option, Some, None, refl, sym, ◌∙◌, ap, subst, bytes_eq, true≢false, append_assoc, append-nil, length-append, arith}
use Rattle.std.specs.Prelude.{encode_utf8_all, is_some}
use Rattle.std.proofs.lemmas.Bool.{cases_Bool, cases_lt}
use Rattle.std.proofs.lemmas.Bool.Decides.{eqb_tells}
use Rattle.unicode_width.specs.Width.{char_width}
use Rattle.psg_terms.specs.Names.{Name, is_among}
use Rattle.psg_terms.specs.Words.{goes_on_word, IsWord, starts_word}
use Rattle.psg_terms.proofs.DeclareLaws.{bytes_eq-refl, bytes_eq-same}
use Rattle.psg_lexis.specs.Classes.{All, begins_by, Chars, EndsBy, IsLongest, is_blank, is_digit, is_escape, is_solo, is_symbol}
use Rattle.psg_lexis.specs.Tokens.{Begins, blank, bytes_of, dots, escaped, HasTokens, hole, is_content, IsToken, more, next, nothing, number, quoted, solo, symbol, text, value_of, word}
use Rattle.psg_lexis.specs.Faults.{HasFault, here, IsFault, IsInside, is_closed, large_hole, large_number, large_text, large_word, later, no_escape, no_hole, no_number, no_symbol, no_token, no_width, unended}
use Rattle.psg_lexis.specs.Faults.{blank as blank_fault}
use Rattle.psg_lexis.specs.declared.token.Token.{Token}
use Rattle.psg_lexis.specs.declared.token.Token.TheVariants as tokens
use Rattle.psg_lexis.specs.declared.token.Spanned.{Spanned}
use Rattle.psg_lexis.specs.declared.token.LexFault.{LexFault}
use Rattle.psg_lexis.specs.declared.token.LexFault.TheVariants as faults
use Rattle.psg_lexis.proofs.Closing.{closed_contents, closed_past}
use Rattle.psg_lexis.proofs.Literals.{content-backslash, content-quote}
use Rattle.psg_lexis.proofs.Runs.{All-push}

-- ---- runs

record Run (test : ℕ → Bool) (cs : Chars) : Type 0 where
  run : Chars
  rest : Chars
  whole : cs ≡ run ++ rest
  all : All test run
  ends : EndsBy test rest

split_run : (test : ℕ → Bool) (cs : Chars) → Run test cs
split_run test [] = record { run = []; rest = []; whole = refl; all = tt; ends = refl }
split_run test (c ∷ cs) = by (test c) refl (split_run test cs) where
  by : (b : Bool) → test c ≡ b → Run test cs → Run test (c ∷ cs)
  by true t r = record {
    run = c ∷ r.run;
    rest = r.rest;
    whole = ap (λ (xs : Chars). c ∷ xs) r.whole;
    all = (t, r.all);
    ends = r.ends;
  }
  by false t r = record { run = []; rest = c ∷ cs; whole = refl; all = tt; ends = t }

quoted-push : (cs : Chars) (c : ℕ) → quoted (cs ++ c ∷ []) ≡ quoted cs ++ escaped c
quoted-push [] c = append-nil (escaped c)
quoted-push (d ∷ cs) c =
    ap (λ (xs : Chars). escaped d ++ xs) (quoted-push cs c) ∙ sym (append_assoc (escaped d) (quoted cs) (escaped c))

-- one more character of the contents
quoted_more : (all before rest after : Chars) (c : ℕ) → all ≡ quoted before ++ rest → rest ≡ escaped c ++ after
    → all ≡ quoted (before ++ c ∷ []) ++ after
quoted_more all before rest after c e d =
    e ∙ ap (λ (xs : Chars). quoted before ++ xs) d ∙ sym (append_assoc (quoted before) (escaped c) after)
    ∙ ap (λ (xs : Chars). xs ++ after) (sym (quoted-push before c))

plain_escape : (c : ℕ) → (c == 34) ≡ false → (c == 92) ≡ false → (c == 10) ≡ false → escaped c ≡ c ∷ []
plain_escape c p q r = by (c == 34) (c == 92) (c == 10) p q r where
  by : (a b d : Bool) → a ≡ false → b ≡ false → d ≡ false
      → Rattle.std.specs.Prelude.cond a (92 ∷ 34 ∷ []) (Rattle.std.specs.Prelude.cond b (92 ∷ 92 ∷ [])
      (Rattle.std.specs.Prelude.cond d (92 ∷ 110 ∷ []) (c ∷ [])))
      ≡ c ∷ []
  by false false false p q r = refl
  by true b d p q r = absurd (true≢false p)
  by false true d p q r = absurd (true≢false q)
  by false false true p q r = absurd (true≢false r)

wide_content : (c : ℕ) (o : Option ℕ) → char_width false c ≡ o → (o ≡ None → ⊥) → is_content c ≡ true
wide_content c None e some = absurd (some refl)
wide_content c (Some w) e some = by (c == 10) (is_some (char_width false c)) (ap is_some e) where
  by : (a b : Bool) → b ≡ true → (a || b) ≡ true
  by true b h = refl
  by false b h = h

none_of : (a b d : Bool) → a ≡ false → b ≡ false → d ≡ false → (a || b || d) ≡ false
none_of false false false p q r = refl
none_of true b d p q r = absurd (true≢false p)
none_of false true d p q r = absurd (true≢false q)
none_of false false true p q r = absurd (true≢false r)

module _ (fixed : List Name) where
  -- ---- the first token

  pub record First (all : Chars) (at : ℕ) : Type 0 where
    pub s : Spanned
    pub begins : Begins fixed all at s
    pub shorter : length begins.rest < length all

  abbrev pub FirstOr : Chars → ℕ → Type 0
  FirstOr all at = First all at ⊎ ((fault : LexFault) × IsFault fixed all at fault)

  token_at : (all : Chars) (c : ℕ) (front rest : Chars) (at : ℕ) (token : Token) → all ≡ (c ∷ front) ++ rest
      → IsToken fixed (c ∷ front) rest token → FirstOr all at
  token_at all c front rest at token e is = inl (record {
    s = record { token = token; start = at; end = at + bytes_of (c ∷ front) };
    begins = record { front = c ∷ front; rest = rest; whole = e; token = is; starts = refl; ends = refl };
    shorter = omega (arith, ap length e, length-append (c ∷ front) rest);
  })

  word_first : (c : ℕ) (cs : Chars) (at : ℕ) → starts_word c ≡ true → FirstOr (c ∷ cs) at
  word_first c cs at t =
      let r = split_run goes_on_word cs in
      let e : c ∷ cs ≡ (c ∷ r.run) ++ r.rest = ap (λ (xs : Chars). c ∷ xs) r.whole in
      let w : IsWord (c ∷ r.run) = (t, r.all) in
      elim (cases_lt 255 (bytes_of (c ∷ r.run))) [
        | inl large ↦ inr (faults.TooLarge at, large_word (c ∷ r.run) (c ∷ cs) r.rest at e w r.ends large)
        | inr small ↦ token_at (c ∷ cs) c r.run r.rest at (tokens.Word (encode_utf8_all (c ∷ r.run))) e (word (c ∷
            r.run) r.rest w r.ends small)
      ]

  number_first : (c : ℕ) (cs : Chars) (at : ℕ) → is_digit c ≡ true → FirstOr (c ∷ cs) at
  number_first c cs at t =
      let r = split_run is_digit cs in
      let e : c ∷ cs ≡ (c ∷ r.run) ++ r.rest = ap (λ (xs : Chars). c ∷ xs) r.whole in
      let longest : IsLongest is_digit (c ∷ r.run) r.rest = record { begins = t; all = (t, r.all); ends = r.ends } in
      elim (cases_Bool (begins_by goes_on_word r.rest)) [
        | inl glued ↦ inr (faults.BadRun at, no_number (c ∷ r.run) (c ∷ cs) r.rest at e longest glued)
        | inr free ↦ elim (cases_lt (value_of (c ∷ r.run)) (2 ^ 128)) [
          | inl small ↦ token_at (c ∷ cs) c r.run r.rest at (tokens.Number (value_of (c ∷ r.run))) e (number (c ∷ r.run)
              r.rest longest free small)
          | inr large ↦ inr (faults.TooLarge at, large_number (c ∷ r.run) (c ∷ cs) r.rest at e longest free large)
        ]
      ]

  symbol_first : (c : ℕ) (cs : Chars) (at : ℕ) → is_symbol c ≡ true → FirstOr (c ∷ cs) at
  symbol_first c cs at t =
      let r = split_run is_symbol cs in
      let e : c ∷ cs ≡ (c ∷ r.run) ++ r.rest = ap (λ (xs : Chars). c ∷ xs) r.whole in
      let longest : IsLongest is_symbol (c ∷ r.run) r.rest = record { begins = t; all = (t, r.all); ends = r.ends } in
      elim (cases_Bool (bytes_eq (c ∷ r.run) dots)) [
        | inl same ↦
            let is : c ∷ r.run ≡ dots = bytes_eq-same (c ∷ r.run) dots same in
            token_at (c ∷ cs) c r.run r.rest at tokens.More e (subst (λ xs. IsToken fixed xs r.rest tokens.More)
            (sym is) (more r.rest r.ends))
        | inr other ↦
            let differs : (c ∷ r.run) ≢ dots =
            λ is. true≢false (sym (subst (λ xs. bytes_eq xs dots ≡ true) (sym is) (bytes_eq-refl dots)) ∙ other) in
            elim (cases_Bool (is_among fixed (encode_utf8_all (c ∷ r.run)))) [
              | inl among ↦ token_at (c ∷ cs) c r.run r.rest at (tokens.Symbol (encode_utf8_all (c ∷ r.run))) e
                  (symbol (c ∷ r.run) r.rest longest among differs)
              | inr never ↦ inr (faults.BadRun at, no_symbol (c ∷ r.run) (c ∷ cs) r.rest at e longest never differs)
            ]
      ]

  hole_first : (cs : Chars) (at : ℕ) → FirstOr (63 ∷ cs) at
  hole_first [] at = inr (faults.BadChar at, no_hole [] at refl)
  hole_first (d ∷ ds) at = elim (cases_Bool (starts_word d)) [
    | inr never ↦ inr (faults.BadChar at, no_hole (d ∷ ds) at never)
    | inl t ↦
        let r = split_run goes_on_word ds in
        let e : d ∷ ds ≡ (d ∷ r.run) ++ r.rest = ap (λ (xs : Chars). d ∷ xs) r.whole in
        let w : IsWord (d ∷ r.run) = (t, r.all) in
        elim (cases_lt 255 (bytes_of (d ∷ r.run))) [
          | inl large ↦ inr (faults.TooLarge (at + 1), large_hole (d ∷ r.run) (d ∷ ds) r.rest at e w r.ends large)
          | inr small ↦ token_at (63 ∷ d ∷ ds) 63 (d ∷ r.run) r.rest at (tokens.Hole (encode_utf8_all (d ∷ r.run)))
              (ap (λ (xs : Chars). 63 ∷ xs) e) (hole (d ∷ r.run) r.rest w r.ends small)
        ]
  ]

  -- ---- quoted texts

  module _ (cs : Chars) (at : ℕ) (before rest : Chars) where
    inside_at : All is_content before → is_closed false rest ≡ true → IsInside before rest
    inside_at contents closed = record { contents = contents; closed = closed_contents before rest ∙ closed }

  module _ (cs : Chars) (at : ℕ) (before ds : Chars) where
    -- a plain character has a width, or is a fault
    width : (c : ℕ) → All is_content before → cs ≡ quoted before ++ c ∷ ds → is_closed false (c ∷ ds) ≡ true
        → (o : Option ℕ) → char_width false c ≡ o → (is_content c ≡ true → FirstOr (34 ∷ cs) at) → FirstOr (34 ∷ cs) at
    width c contents e closed None none go =
        inr (
          faults.BadChar (at + bytes_of (34 ∷ quoted before)),
          no_width before cs c ds at e (inside_at cs at before
              (c ∷ ds) contents closed) none,
        )
    width c contents e closed (Some w) some go = go (wide_content c (Some w) some (λ z. cc))

    -- what is behind a backslash is an escape, or a fault
    escape : All is_content before → cs ≡ quoted before ++ 92 ∷ ds → is_closed false (92 ∷ ds) ≡ true
        → ((m : ℕ) (es : Chars) → length es < length ds → cs ≡ quoted (before ++ m ∷ []) ++ es → is_content m ≡ true
        → is_closed false es ≡ true → FirstOr (34 ∷ cs) at) → FirstOr (34 ∷ cs) at
    escape contents e closed go = by ds e closed go where
      bad : (rest : Chars) → cs ≡ quoted before ++ 92 ∷ rest → is_closed false (92 ∷ rest) ≡ true
          → EndsBy is_escape rest
          → FirstOr (34 ∷ cs) at
      bad rest e closed ends =
          inr (
            faults.BadRun (at + bytes_of (34 ∷ quoted before)),
            no_escape before cs rest at e (inside_at cs at before
                (92 ∷ rest) contents closed) ends,
          )

      by : (rest : Chars) → cs ≡ quoted before ++ 92 ∷ rest → is_closed false (92 ∷ rest) ≡ true
          → ((m : ℕ) (es : Chars) → length es < length rest → cs ≡ quoted (before ++ m ∷ []) ++ es → is_content m ≡ true
          → is_closed false es ≡ true → FirstOr (34 ∷ cs) at) → FirstOr (34 ∷ cs) at
      by [] e closed go = bad [] e closed refl
      by (d ∷ es) e closed go = elim (eqb_tells d 34) [
        | inl a ↦ go 34 es (omega arith) (quoted_more cs before (92 ∷ d ∷ es) es 34 e (ap (λ z. 92 ∷ z ∷ es) a.1))
            content-quote
            (subst (λ z. is_closed false (92 ∷ z ∷ es) ≡ true) a.1 closed)
        | inr a ↦ elim (eqb_tells d 92) [
          | inl b ↦ go 92 es (omega arith) (quoted_more cs before (92 ∷ d ∷ es) es 92 e (ap (λ z. 92 ∷ z ∷ es) b.1))
              content-backslash
              (subst (λ z. is_closed false (92 ∷ z ∷ es) ≡ true) b.1 closed)
          | inr b ↦ elim (eqb_tells d 110) [
            | inl f ↦ go 10 es (omega arith) (quoted_more cs before (92 ∷ d ∷ es) es 10 e (ap (λ z. 92 ∷ z ∷ es) f.1))
                refl
                (subst (λ z. is_closed false (92 ∷ z ∷ es) ≡ true) f.1 closed)
            | inr f ↦ bad (d ∷ es) e closed (none_of (d == 34) (d == 92) (d == 110) a.0 b.0 f.0)
          ]
        ]
      ]

  module _ (cs : Chars) (at : ℕ) where
    ended : (before after : Chars) → cs ≡ quoted before ++ 34 ∷ after → All is_content before → FirstOr (34 ∷ cs) at
    ended before after e contents = elim (cases_lt 4096 (bytes_of before)) [
      | inl large ↦ inr (faults.TooLarge at, large_text before cs after at e contents large)
      | inr small ↦
          token_at (34 ∷ cs) 34 (quoted before ++ 34 ∷ []) after at (tokens.Text (encode_utf8_all before))
          (ap (λ (xs : Chars). 34 ∷ xs) (e ∙ sym (append_assoc (quoted before) (34 ∷ []) after)))
          (text before (quoted before ++ 34 ∷ []) after refl contents small)
    ]

    walk : (n : ℕ) (before rest : Chars) → length rest ≤ n → cs ≡ quoted before ++ rest → All is_content before
        → is_closed false rest ≡ true → FirstOr (34 ∷ cs) at
    walk n before [] le e contents closed = absurd (true≢false (sym closed))
    walk zero before (c ∷ ds) le e contents closed = absurd (omega (arith, le))
    walk (suc n) before (c ∷ ds) le e contents closed = elim (eqb_tells c 34) [
      | inl quote ↦ ended before ds (subst (λ z. cs ≡ quoted before ++ z ∷ ds) quote.1 e) contents
      | inr plain ↦ elim (eqb_tells c 92) [
        | inl slash ↦
            escape cs at before ds contents (subst (λ z. cs ≡ quoted before ++ z ∷ ds) slash.1 e)
            (subst (λ z. is_closed false (z ∷ ds) ≡ true) slash.1 closed)
            (λ m es shorter whole is again. walk n (before ++ m ∷ []) es (omega (arith, le, shorter)) whole
            (All-push is_content before m contents is) again)
        | inr straight ↦ elim (eqb_tells c 10) [
          | inl feed ↦ absurd (true≢false (sym (subst (λ z. is_closed false (z ∷ ds) ≡ true) feed.1 closed)))
          | inr inline ↦
              width cs at before ds c contents e closed (char_width false c) refl
              (λ is. walk n (before ++ c ∷ []) ds (omega (arith, le))
              (quoted_more cs before (c ∷ ds) ds c e
              (ap (λ (xs : Chars). xs ++ ds) (sym (plain_escape c plain.0 straight.0 inline.0))))
              (All-push is_content before c contents is)
              (sym (closed_past false c ds inline.0 plain.0 ∙ ap (λ b. is_closed b ds) straight.0) ∙ closed))
        ]
      ]
    ]

    pub text_first : FirstOr (34 ∷ cs) at
    text_first = elim (cases_Bool (is_closed false cs)) [
      | inr never ↦ inr (faults.Unended at, unended cs at never)
      | inl closed ↦ walk (length cs) [] cs (omega arith) refl tt closed
    ]

  -- ---- all tokens

  first_token : (c : ℕ) (cs : Chars) (at : ℕ) → is_blank c ≡ false → FirstOr (c ∷ cs) at
  first_token c cs at visible = elim (cases_Bool (starts_word c)) [
    | inl t ↦ word_first c cs at t
    | inr no_word ↦ elim (cases_Bool (is_digit c)) [
      | inl t ↦ number_first c cs at t
      | inr no_digit ↦ elim (cases_Bool (is_solo c)) [
        | inl t ↦ token_at (c ∷ cs) c [] cs at (tokens.Solo c) refl (solo c cs t)
        | inr no_solo ↦ elim (cases_Bool (is_symbol c)) [
          | inl t ↦ symbol_first c cs at t
          | inr no_sign ↦ elim (eqb_tells c 34) [
            | inl t ↦ subst (λ z. FirstOr (z ∷ cs) at) (sym t.1) (text_first cs at)
            | inr no_quote ↦ elim (eqb_tells c 63) [
              | inl t ↦ subst (λ z. FirstOr (z ∷ cs) at) (sym t.1) (hole_first cs at)
              | inr no_question ↦ inr (
                faults.BadChar at,
                no_token c cs at (record {
                  blank = visible;
                  word = no_word;
                  digit = no_digit;
                  solo = no_solo;
                  symbol = no_sign;
                  quote = no_quote.1;
                  question = no_question.1;
                }),
              )
            ]
          ]
        ]
      ]
    ]
  ]

  -- the characters have tokens, or a fault
  abbrev pub Lexed : Chars → ℕ → Type 0
  Lexed cs at = ((ts : List Spanned) × HasTokens fixed cs at ts) ⊎ ((fault : LexFault) × HasFault fixed cs at fault)

  lexed_within : (n : ℕ) (cs : Chars) (at : ℕ) → length cs ≤ n → Lexed cs at
  lexed_within n [] at le = inl ([], nothing at)
  lexed_within zero (c ∷ cs) at le = absurd (omega (arith, le))
  lexed_within (suc n) (c ∷ cs) at le = elim (cases_Bool (is_blank c)) [
    | inl t ↦ elim (lexed_within n cs (at + 1) (omega (arith, le))) [
      | inl (ts, are) ↦ inl (ts, blank c cs at ts t are)
      | inr (fault, is) ↦ inr (fault, blank_fault c cs at fault t is)
    ]
    | inr visible ↦ elim (first_token c cs at visible) [
      | inr (fault, is) ↦ inr (fault, here (c ∷ cs) at fault is)
      | inl f ↦ elim (lexed_within n f.begins.rest f.s.end (let k = f.shorter in omega (arith, le, k))) [
        | inl (ts, are) ↦ inl (f.s ∷ ts, next (c ∷ cs) at f.s ts f.begins are)
        | inr (fault, is) ↦ inr (fault, later (c ∷ cs) at f.s fault f.begins is)
      ]
    ]
  ]

  pub lexed : (cs : Chars) → Lexed cs 0
  lexed cs = lexed_within (length cs) cs 0 (omega arith)
