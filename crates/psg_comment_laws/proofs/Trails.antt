-- Which comments of a text of pieces are on the line of the token before.
use Rattle.std.proofs.Common.{◌≡◌, ℕ, suc, ◌+◌, ◌≤◌, ◌==◌, Bool, true, false, cond, List, [], ◌∷◌, ◌++◌, length, take, map, sym, ap, ◌∙◌, subst, refl, append_assoc, append-nil, arith, length-append}
use Rattle.std.specs.Prelude.{encode_utf8_all, not, ◌&&◌, ◌||◌}
use Rattle.std.proofs.lemmas.Bool.{le-leb}
use Rattle.std.proofs.lemmas.List.Folds.{list_any-append}
use Rattle.psg_terms.specs.Names.{Name}
use Rattle.psg_lexis.specs.Tokens.{bytes_of}
use Rattle.psg_lexis.specs.declared.token.Spanned.{Spanned}
use Rattle.psg_commented.specs.Noting.{bytes_between, end_of_last, ended_by, has_feed, is_feed, notes_of, trails_after}
use Rattle.psg_commented.specs.declared.noting.Note.{Note}
use Rattle.psg_comment_laws.proofs.Pieces.{Piece, a_blank, a_token, a_comment, bytes_in, comments_in, own_in, span, AreGood, between_seam, none_ended}

abbrev pub trail_of : Note → Bool
trail_of n = n.trails

-- for each comment of the pieces, whether the last token before is on its line; at first it is or not
abbrev pub trails_in : Bool → List Piece → List Bool
trails_in s [] = []
trails_in s (a_blank c ∷ ps) = trails_in (s && not (c == 10)) ps
trails_in s (a_token cs t ∷ ps) = trails_in true ps
trails_in s (a_comment b ∷ ps) = s ∷ trails_in s ps

-- These tokens are before, the last of which ends at the byte, and this is after it. Or there are none.
pub data IsOn (from : ℕ) (gap : List ℕ) : List Spanned → Bool → Type 0 where
  no_token : IsOn from gap [] false
  a_last : (t : Spanned) (ts : List Spanned) → end_of_last t.end ts ≡ from → IsOn from gap (t ∷ ts) (not (has_feed gap))

last_push : (place : ℕ) (ts : List Spanned) (t : Spanned) → end_of_last place (ts ++ t ∷ []) ≡ t.end
last_push place [] t = refl
last_push place (s ∷ ts) t = last_push s.end ts t

on_push : (from : ℕ) (ts : List Spanned) (t : Spanned) → t.end ≡ from → IsOn from [] (ts ++ t ∷ []) true
on_push from [] t e = a_last t [] e
on_push from (s ∷ ts) t e = a_last s (ts ++ t ∷ []) (last_push s.end ts t ∙ e)

-- what is after the token becomes more
not_or : (a b : Bool) → not (a || (b || false)) ≡ (not a && not b)
not_or true b = refl
not_or false true = refl
not_or false false = refl

on_blank : (from : ℕ) (gap : List ℕ) (c : ℕ) (ts : List Spanned) (s : Bool) → IsOn from gap ts s
    → IsOn from (gap ++ c ∷ []) ts (s && not (c == 10))
on_blank from gap c _ _ no_token = no_token
on_blank from gap c _ _ (a_last t ts e) =
    subst (IsOn from (gap ++ c ∷ []) (t ∷ ts))
    (ap not (list_any-append is_feed gap (c ∷ [])) ∙ not_or (has_feed gap) (c == 10)) (a_last t ts e)

or_none : (a b : Bool) → b ≡ false → (a || b) ≡ a
or_none true b e = refl
or_none false b e = e

on_comment : (from : ℕ) (gap b : List ℕ) (ts : List Spanned) (s : Bool) → has_feed b ≡ false → IsOn from gap ts s
    → IsOn from (gap ++ b) ts s
on_comment from gap b _ _ h no_token = no_token
on_comment from gap b _ _ h (a_last t ts e) =
    subst (IsOn from (gap ++ b) (t ∷ ts))
    (ap not (list_any-append is_feed gap b ∙ or_none (has_feed gap) (has_feed b) h)) (a_last t ts e)

-- a comment after them
trails_there : (front gap rest text : List ℕ) (at : ℕ) (ts : List Spanned) (s : Bool) → IsOn (length front) gap ts s
    → text ≡ front ++ (gap ++ rest) → at ≡ length front + length gap → trails_after text at ts ≡ s
trails_there front gap rest text at _ _ no_token e n = refl
trails_there front gap rest text at _ _ (a_last t ts k) e n =
    let whole : bytes_between text (length front) (length front + length gap) ≡ gap =
    ap (λ bs. bytes_between bs (length front) (length front + length gap)) e ∙ between_seam front gap rest (length front) refl in
    ap (λ m. not (has_feed (bytes_between text m at))) k
    ∙ ap (λ m. not (has_feed (bytes_between text (length front) m))) n
    ∙ ap (λ bs. not (has_feed bs)) whole

-- of the tokens those that end before the place are some, and then these
abbrev Before : List Spanned → List Spanned → List Spanned → ℕ → Type 0
Before us done rest place = take (ended_by us place) us ≡ done ++ take (ended_by rest place) rest

take_token : (t : Spanned) (rest : List Spanned) (place : ℕ) → t.end ≤ place
    → take (ended_by (t ∷ rest) place) (t ∷ rest) ≡ t ∷ take (ended_by rest place) rest
take_token t rest place l =
    ap (λ m. take m (t ∷ rest)) (ap (λ q. cond q (1 + ended_by rest place) 0) (le-leb t.end place l) ∙ one (ended_by rest place))
  where
    one : (m : ℕ) → 1 + m ≡ suc m
    one m = omega arith

pub are_trailed : (fixed : List Name) (token : List ℕ) (ps : List Piece) → AreGood fixed token ps
    → (front gap text : List ℕ) (at : ℕ) (us done : List Spanned) (s : Bool) → IsOn (length front) gap done s
    → text ≡ front ++ (gap ++ bytes_in ps) → at ≡ length front + length gap
    → ((place : ℕ) → at ≤ place → Before us done (own_in at ps) place)
    → map trail_of (notes_of text us (comments_in at ps)) ≡ trails_in s ps
are_trailed fixed token [] g front gap text at us done s on e n h = refl
are_trailed fixed token (a_blank c ∷ ps) g front gap text at us done s on e n h =
    are_trailed fixed token ps g.1 front (gap ++ c ∷ []) text (at + 1) us done (s && not (c == 10)) (on_blank (length front) gap c done s on)
    (e ∙ ap (λ l. front ++ l) (sym (append_assoc gap (c ∷ []) (bytes_in ps))))
    (omega (arith, n, length-append gap (c ∷ [])))
    (λ place l. h place (omega (arith, l)))
are_trailed fixed token (a_token cs t ∷ ps) g front gap text at us done s on e n h =
    let own : List ℕ = encode_utf8_all cs in
    let new : List ℕ = (front ++ gap) ++ own in
    let size : length new ≡ at + bytes_of cs = omega (arith, n, length-append (front ++ gap) own, length-append front gap) in
    are_trailed fixed token ps g.1 new [] text (at + bytes_of cs) us (done ++ span at cs t ∷ []) true
    (on_push (length new) done (span at cs t) (sym size))
    (e ∙ sym (append_assoc front gap (own ++ bytes_in ps)) ∙ sym (append_assoc (front ++ gap) own (bytes_in ps)))
    (omega (arith, size))
    (λ place l. h place (omega (arith, l))
    ∙ ap (λ x. done ++ x) (take_token (span at cs t) (own_in (at + bytes_of cs) ps) place l)
    ∙ sym (append_assoc done (span at cs t ∷ []) (take (ended_by (own_in (at + bytes_of cs) ps) place) (own_in (at + bytes_of cs) ps))))
are_trailed fixed token (a_comment b ∷ ps) g front gap text at us done s on e n h =
    let some = g.0.0.some in
    let rest : List Spanned = own_in (at + length b) ps in
    let none : ended_by rest at ≡ 0 = none_ended ps (at + length b) at (omega (arith, some)) in
    let here : take (ended_by us at) us ≡ done =
    h at (omega arith) ∙ ap (λ m. done ++ take m rest) none ∙ append-nil done in
    let first : trails_after text at (take (ended_by us at) us) ≡ s =
    ap (trails_after text at) here ∙ trails_there front gap (b ++ bytes_in ps) text at done s on e n in
    let later : map trail_of (notes_of text us (comments_in (at + length b) ps)) ≡ trails_in s ps =
    are_trailed fixed token ps g.1 front (gap ++ b) text (at + length b) us done s (on_comment (length front) gap b done s g.0.0.no_feed on)
    (e ∙ ap (λ l. front ++ l) (sym (append_assoc gap b (bytes_in ps))))
    (omega (arith, n, length-append gap b))
    (λ place l. h place (omega (arith, l))) in
    λ i. first i ∷ later i
