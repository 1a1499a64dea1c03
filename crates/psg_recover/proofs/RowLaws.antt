-- The tokens that are read on after a stop: each stop of theirs is a token of the text.
use Rattle.std.proofs.Common.{◌≡◌, inl, inr, ℕ, zero, suc, ◌+◌, ◌-◌, ◌<◌, ◌≤◌, List, [], ◌∷◌, ◌++◌, map, length, take, drop, Some, None, slice_get, refl, ap, sym, ◌∙◌, subst, arith}
use Rattle.std.proofs.lemmas.Bool.{cases_lt}
use Rattle.std.proofs.lemmas.List.{length-map}
use Rattle.psg_grammar.specs.declared.types.Kind.{Kind}
use Rattle.psg_grammar.specs.declared.types.Phylum.{Phylum}
use Rattle.psg_grammar.specs.declared.types.Definition.{Definition}
use Rattle.psg_lexis.specs.declared.token.Spanned.{Spanned}
use Rattle.psg_class.specs.Terminals.{Token, placeholder}
use Rattle.psg_class.specs.Texts.{tokens_of}
use Rattle.psg_parse.specs.Stops.{Begins, IsStop}
use Rattle.psg_program.specs.Messages.{HasSpan}
use Rattle.psg_recover.specs.Grammars.{quiet}
use Rattle.psg_recover.specs.Reads.{stand_in}
use Rattle.psg_recover.specs.Recovery.{IsBest, resumed_row}
use Rattle.psg_recover.specs.Rows.{IsRow}
use Rattle.psg_recover.proofs.CandidateLaws.{begins_front, follows_from}

pub take_tokens : (n : ℕ) (ts : List Spanned) → tokens_of (take n ts) ≡ take n (tokens_of ts)
take_tokens zero ts = refl
take_tokens (suc n) [] = refl
take_tokens (suc n) (t ∷ ts) = ap (λ (l : List Token). t.token ∷ l) (take_tokens n ts)

pub tokens_push : (ts : List Spanned) (s : Spanned) → tokens_of (ts ++ s ∷ []) ≡ tokens_of ts ++ s.token ∷ []
tokens_push [] s = refl
tokens_push (t ∷ ts) s = ap (λ (l : List Token). t.token ∷ l) (tokens_push ts s)

pub in_take : (xs : List Token) (k n : ℕ) → k < n → k < length xs → (t : Token) × (slice_get xs k ≡ Some t) × (rest : List Token) × (take n xs ≡ (take k xs ++ t ∷ []) ++ rest)
in_take [] k n lt inside = absurd (omega (arith, inside))
in_take (x ∷ xs) k zero lt inside = absurd (omega (arith, lt))
in_take (x ∷ xs) zero (suc n) lt inside = (x, refl, take n xs, refl)
in_take (x ∷ xs) (suc k) (suc n) lt inside = let (t, at, rest, e) = in_take xs k n (omega (arith, lt)) (omega (arith, inside)) in (t, at, rest, ap (λ l. x ∷ l) e)

past_end : {X : Type 0} (xs : List X) (q : ℕ) → length xs ≤ q → None ≡ slice_get xs q
past_end [] q le = refl
past_end (x ∷ xs) zero le = absurd (omega (arith, le))
past_end (x ∷ xs) (suc q) le = past_end xs q (omega (arith, le))

-- after so many and one more
behind_one : {X : Type 0} (i j : ℕ) (xs ys : List X) (x : X) (m : ℕ) → i ≤ length xs → suc i ≤ m → slice_get (take i xs ++ x ∷ ys) m ≡ slice_get ys (m - suc i)
behind_one zero j xs ys x zero le lt = absurd (omega (arith, lt))
behind_one zero j xs ys x (suc m) le lt = let e : m ≡ suc m - 1 = omega arith in ap (slice_get ys) e
behind_one (suc i) j [] ys x m le lt = absurd (omega (arith, le))
behind_one (suc i) j (y ∷ xs) ys x zero le lt = absurd (omega (arith, lt))
behind_one (suc i) j (y ∷ xs) ys x (suc m) le lt = behind_one i j xs ys x m (omega (arith, le)) (omega (arith, lt)) ∙ (let e : m - suc i ≡ suc m - suc (suc i) = omega arith in ap (slice_get ys) e)

dropped_at : {X : Type 0} (j : ℕ) (xs : List X) (q : ℕ) → slice_get (drop j xs) q ≡ slice_get xs (j + q)
dropped_at zero xs q = let e : q ≡ 0 + q = omega arith in ap (slice_get xs) e
dropped_at (suc j) [] q = past_end [] q (omega arith) ∙ sym (past_end [] (suc j + q) (omega arith))
dropped_at (suc j) (x ∷ xs) q = dropped_at j xs q ∙ (let e : suc (j + q) ≡ suc j + q = omega arith in ap (slice_get (x ∷ xs)) e)

front_one : {X : Type 0} (i : ℕ) (xs ys : List X) (x : X) → i ≤ length xs → take (suc i) (take i xs ++ x ∷ ys) ≡ take i xs ++ x ∷ []
front_one zero xs ys x le = refl
front_one (suc i) [] ys x le = absurd (omega (arith, le))
front_one (suc i) (y ∷ xs) ys x le = ap (λ l. y ∷ l) (front_one i xs ys x (omega (arith, le)))

module _ (def : Definition) (kind : Kind) (text : List ℕ) (ts : List Spanned) (row : IsRow def kind text ts) (k : ℕ) (stop : IsStop (quiet def) kind 0 (tokens_of ts) k) where
  -- the stop and what comes after it are tokens of the text
  pub spans_behind : (q : ℕ) → k ≤ q → HasSpan text (slice_get ts q)
  spans_behind q le = elim (cases_lt q row.from) [
    | inr more ↦ row.spans q more
    | inl less ↦ (let long : length ts ≤ k = at_end (omega (arith, le, less)) in subst (HasSpan text) (past_end ts q (omega (arith, le, long))) tt)
  ]
    where
      begun : Begins (quiet def) kind 0 (take row.from (tokens_of ts))
      begun = subst (Begins (quiet def) kind 0) (take_tokens row.from ts) row.begins

      never : k < row.from → k < length ts → ⊥
      never less inside =
          let many = length-map ts (λ (s : Spanned). s.token) in
          let (t, at, rest, e) = in_take (tokens_of ts) k row.from less (omega (arith, inside, many)) in
          stop.stops t t at refl (begins_front (quiet def) kind (take k (tokens_of ts) ++ t ∷ []) rest (subst (Begins (quiet def) kind 0) e begun))

      at_end : k < row.from → length ts ≤ k
      at_end less = elim (cases_lt k (length ts)) [ inl inside ↦ absurd (never less inside) | inr le ↦ le ]

  -- so is it of the tokens that are read on
  pub row_next : (j i p : ℕ) (phylum : Phylum) → IsBest def kind (tokens_of ts) k j i p phylum → IsRow def kind text (resumed_row ts i j phylum)
  row_next j i p phylum best =
      let r = best.resumes in
      let many = length-map ts (λ (s : Spanned). s.token) in
      let inside = r.inside in
      let back = r.back in
      let behind = r.behind in
      let within : i ≤ length ts = omega (arith, inside, back, behind, many) in
      let own = stand_in ts i j phylum.name in
      record {
        from = suc i;
        spans = λ m le.
            let place : slice_get (resumed_row ts i j phylum) m ≡ slice_get ts (j + (m - suc i)) = behind_one i j ts (drop j ts) own m within le ∙ dropped_at j ts (m - suc i) in
            subst (HasSpan text) (sym place) (spans_behind (j + (m - suc i)) (omega (arith, behind)));
        begins = subst (Begins (quiet def) kind 0)
            (sym (ap tokens_of (front_one i ts (drop j ts) own within) ∙ tokens_push (take i ts) own ∙ ap (λ (l : List Token). l ++ placeholder phylum.name ∷ []) (take_tokens i ts)))
            (follows_from def kind (tokens_of ts) k (take i (tokens_of ts) ++ placeholder phylum.name ∷ []) (slice_get (tokens_of ts) j) r.goes_on);
      }
