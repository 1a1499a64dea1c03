-- The contents of a quoted text are written and read.
use Rattle.std.proofs.Common.{◌≡◌, inl, inr, ℕ, Bool, true, false, [], ◌∷◌, ◌++◌, append_assoc, sym, ap, ◌∙◌, subst, refl}
use Rattle.std.specs.Prelude.{◌==◌, ◌&&◌, ◌||◌, not, cond, Option, Some, None, option_map}
use Rattle.std.proofs.lemmas.Bool.{and_parts, false≢true}
use Rattle.std.proofs.lemmas.Bool.Decides.{eqb_tells}
use Rattle.psg_lexis.specs.Classes.{Chars, All, is_escape}
use Rattle.psg_lexis.specs.Tokens.{is_content, escaped, quoted}
use Rattle.psg_lexis.proofs.Literals.{content-quote, content-backslash}
use Rattle.psg_defcomment.specs.Naming.{closed, contents, is_plain, said}

-- a character that is written as it is
plain_step : (c : ℕ) (rest : Chars) → (c == 34) ≡ false → (c == 92) ≡ false → is_plain c ≡ true
    → contents false (c ∷ rest) ≡ option_map (λ w. c ∷ w) (contents false rest)
plain_step c rest p q r =
    let kept : Option Chars = option_map (λ w. c ∷ w) (contents false rest) in
    ap (λ b. cond b (closed rest) (cond (c == 92) (contents true rest) (cond (is_plain c) kept None))) p
    ∙ ap (λ b. cond b (contents true rest) (cond (is_plain c) kept None)) q
    ∙ ap (λ b. cond b kept None) r

plain_there : (c : ℕ) → is_content c ≡ true → (c == 10) ≡ false → is_plain c ≡ true
plain_there c a r = ap (λ b. is_content c && not b) r ∙ ap (λ b. b && true) a

escaped_plain : (c : ℕ) → (c == 34) ≡ false → (c == 92) ≡ false → (c == 10) ≡ false → escaped c ≡ c ∷ []
escaped_plain c p q r =
    ap (λ b. cond b (92 ∷ 34 ∷ []) (cond (c == 92) (92 ∷ 92 ∷ []) (cond (c == 10) (92 ∷ 110 ∷ []) (c ∷ [])))) p
    ∙ ap (λ b. cond b (92 ∷ 92 ∷ []) (cond (c == 10) (92 ∷ 110 ∷ []) (c ∷ []))) q
    ∙ ap (λ b. cond b (92 ∷ 110 ∷ []) (c ∷ [])) r

-- what is written is read
pub contents_written : (w : Chars) → All is_content w → contents false (quoted w ++ 34 ∷ []) ≡ Some w
contents_written [] a = refl
contents_written (c ∷ w) a =
    let later : contents false (quoted w ++ 34 ∷ []) ≡ Some w = contents_written w a.1 in
    elim (eqb_tells c 34) [
      | inl p ↦ subst (λ d. contents false ((escaped d ++ quoted w) ++ 34 ∷ []) ≡ Some (d ∷ w)) (sym p.1) (ap (option_map (λ v. 34 ∷ v)) later)
      | inr p ↦ elim (eqb_tells c 92) [
        | inl q ↦ subst (λ d. contents false ((escaped d ++ quoted w) ++ 34 ∷ []) ≡ Some (d ∷ w)) (sym q.1) (ap (option_map (λ v. 92 ∷ v)) later)
        | inr q ↦ elim (eqb_tells c 10) [
          | inl r ↦ subst (λ d. contents false ((escaped d ++ quoted w) ++ 34 ∷ []) ≡ Some (d ∷ w)) (sym r.1) (ap (option_map (λ v. 10 ∷ v)) later)
          | inr r ↦ ap (λ e. contents false ((e ++ quoted w) ++ 34 ∷ [])) (escaped_plain c p.0 q.0 r.0)
              ∙ plain_step c (quoted w ++ 34 ∷ []) p.0 q.0 (plain_there c a.0 r.0) ∙ ap (option_map (λ v. c ∷ v)) later
        ]
      ]
    ]

-- ---- what is read was written

-- the characters, behind a backslash or not, are these contents and the closing quote
pub record IsWrittenAs (text w : Chars) : Type 0 where
  pub text_is : text ≡ quoted w ++ 34 ∷ []
  pub contents : All is_content w

abbrev behind : Bool → Chars → Chars
behind true cs = 92 ∷ cs
behind false cs = cs

no_contents : {A : Type 0} (w : Chars) → None ≡ Some w → A
no_contents w e = absurd (cc)

one_more : (text cs : Chars) (c : ℕ) (w : Chars) (o : Option Chars) → text ≡ escaped c ++ cs → is_content c ≡ true
    → ((v : Chars) → o ≡ Some v → IsWrittenAs cs v) → option_map (λ v. c ∷ v) o ≡ Some w → IsWrittenAs text w
one_more text cs c w None t k h e = no_contents w e
one_more text cs c w (Some v) t k h e =
    let r = h v refl in
    let same : c ∷ v ≡ w = cc in
    subst (IsWrittenAs text) same
    (record { text_is = t ∙ ap (λ xs. escaped c ++ xs) r.text_is ∙ sym (append_assoc (escaped c) (quoted v) (34 ∷ [])); contents = (k, r.contents) })

escape_there : (c : ℕ) → is_escape c ≡ true → (92 ∷ c ∷ [] ≡ escaped (said c)) × (is_content (said c) ≡ true)
escape_there c h =
    elim (eqb_tells c 34) [
      | inl p ↦ subst (λ d. (92 ∷ d ∷ [] ≡ escaped (said d)) × (is_content (said d) ≡ true)) (sym p.1) (refl, content-quote)
      | inr p ↦ elim (eqb_tells c 92) [
        | inl q ↦ subst (λ d. (92 ∷ d ∷ [] ≡ escaped (said d)) × (is_content (said d) ≡ true)) (sym q.1) (refl, content-backslash)
        | inr q ↦ elim (eqb_tells c 110) [
          | inl r ↦ subst (λ d. (92 ∷ d ∷ [] ≡ escaped (said d)) × (is_content (said d) ≡ true)) (sym r.1) (refl, refl)
          | inr r ↦ absurd (false≢true (sym (none p.0 q.0 r.0) ∙ h))
        ]
      ]
    ]
  where
    none : (c == 34) ≡ false → (c == 92) ≡ false → (c == 110) ≡ false → is_escape c ≡ false
    none p q r =
        ap (λ b. b || (c == 92) || (c == 110)) p ∙ ap (λ b. false || b || (c == 110)) q ∙ ap (λ b. false || false || b) r

plain_content : (c : ℕ) → is_plain c ≡ true → (is_content c ≡ true) × ((c == 10) ≡ false)
plain_content c h =
    let p = and_parts (is_content c) (not (c == 10)) h in
    (p.0, by (c == 10) p.1)
  where
    by : (b : Bool) → not b ≡ true → b ≡ false
    by true e = absurd (false≢true e)
    by false e = refl

pub contents_read : (e : Bool) (cs w : Chars) → contents e cs ≡ Some w → IsWrittenAs (behind e cs) w
contents_read true [] w h = no_contents w h
contents_read false [] w h = no_contents w h
contents_read true (c ∷ cs) w h = by (is_escape c) refl h (contents_read false cs)
  where
    by : (b : Bool) → is_escape c ≡ b → cond b (option_map (λ v. said c ∷ v) (contents false cs)) None ≡ Some w
        → ((v : Chars) → contents false cs ≡ Some v → IsWrittenAs cs v) → IsWrittenAs (92 ∷ c ∷ cs) w
    by true i k later =
        let p = escape_there c i in
        one_more (92 ∷ c ∷ cs) cs (said c) w (contents false cs) (ap (λ xs. xs ++ cs) p.0) p.1 later k
    by false i k later = no_contents w k
contents_read false (c ∷ cs) w h = by h (contents_read true cs) (contents_read false cs)
  where
    end : (ds : Chars) → closed ds ≡ Some w → c ≡ 34 → IsWrittenAs (c ∷ ds) w
    end [] k e =
        let none : [] ≡ w = cc in
        subst (IsWrittenAs (c ∷ [])) none (record { text_is = ap (λ d. d ∷ []) e; contents = tt })
    end (d ∷ ds) k e = no_contents w k

    as_it_is : (b : Bool) → is_plain c ≡ b → (c == 34) ≡ false → (c == 92) ≡ false
        → cond b (option_map (λ v. c ∷ v) (contents false cs)) None ≡ Some w
        → ((v : Chars) → contents false cs ≡ Some v → IsWrittenAs cs v) → IsWrittenAs (c ∷ cs) w
    as_it_is true i p q k later =
        let r = plain_content c i in
        one_more (c ∷ cs) cs c w (contents false cs) (ap (λ xs. xs ++ cs) (sym (escaped_plain c p q r.1))) r.0 later k
    as_it_is false i p q k later = no_contents w k

    by : contents false (c ∷ cs) ≡ Some w → ((v : Chars) → contents true cs ≡ Some v → IsWrittenAs (92 ∷ cs) v)
        → ((v : Chars) → contents false cs ≡ Some v → IsWrittenAs cs v) → IsWrittenAs (c ∷ cs) w
    by k after_backslash later =
        let kept : Option Chars = option_map (λ v. c ∷ v) (contents false cs) in
        elim (eqb_tells c 34) [
          | inl p ↦ end cs (sym (ap (λ b. cond b (closed cs) (cond (c == 92) (contents true cs) (cond (is_plain c) kept None))) p.0) ∙ k) p.1
          | inr p ↦
              let k2 = sym (ap (λ b. cond b (closed cs) (cond (c == 92) (contents true cs) (cond (is_plain c) kept None))) p.0) ∙ k in
              elim (eqb_tells c 92) [
                | inl q ↦ subst (λ d. IsWrittenAs (d ∷ cs) w) (sym q.1)
                    (after_backslash w (sym (ap (λ b. cond b (contents true cs) (cond (is_plain c) kept None)) q.0) ∙ k2))
                | inr q ↦ as_it_is (is_plain c) refl p.0 q.0 (sym (ap (λ b. cond b (contents true cs) (cond (is_plain c) kept None)) q.0) ∙ k2) later
              ]
        ]
