-- An exported text has its parts as a line of a definition's file has them.
use Rattle.std.proofs.Common.{arith, ◌≡◌, ◌==◌, ◌&&◌, ℕ, zero, suc, Bool, true, false, cond, inl, inr, List, [], ◌∷◌, ◌++◌, replicate, refl, ap, sym, ◌∙◌, subst, append-nil}
use Rattle.std.specs.List.{flat_map}
use Rattle.std.proofs.lemmas.Bool.{cases_Bool, false≢true, or_parts}
use Rattle.psg_lexis.specs.Tokens.{escaped}
use Rattle.psg_deflines.specs.Written.{goes_on_word, ends_word, begins_word, IsWritten}
use Rattle.psg_deflines.specs.Parts.{is_mark, is_sigil}
use Rattle.psg_self.specs.Pieces.{is_broad, begins_broad, Piece, run_piece, sign_piece, mark_piece, quote_piece, IsEnded, Laid}
use Rattle.psg_self.proofs.QuoteOnce.{quoted-is}
use Rattle.psg_self.proofs.PiecesOnce.{kind_of_byte, mark-kind}
use Rattle.psg_self.proofs.LinesLaid.{first_byte}

word-is_broad : (c : ℕ) → is_broad c ≡ false → goes_on_word c ≡ false
word-is_broad c h = (or_parts (goes_on_word c) _ h).0

begins-word : (x : List ℕ) → begins_broad x ≡ false → begins_word x ≡ false
begins-word [] h = refl
begins-word (c ∷ cs) h = word-is_broad c h

and-right : (b c : Bool) → c ≡ false → (b && c) ≡ false
and-right true c h = h
and-right false c h = refl

and-left : (b c : Bool) → b ≡ false → (b && c) ≡ false
and-left true c h = absurd (false≢true (sym h))
and-left false c h = refl

ends-last : (xs : List ℕ) (c : ℕ) → ends_word (xs ++ c ∷ []) ≡ goes_on_word c
ends-last [] c = refl
ends-last (x ∷ []) c = refl
ends-last (x ∷ y ∷ xs) c = ends-last (y ∷ xs) c

not-broad : (c : ℕ) → kind_of_byte c ≡ 2 → is_broad c ≡ false
not-broad c k = elim (cases_Bool (is_broad c)) [
  | inl e ↦ absurd (omega (arith, sym k ∙ ap (λ b. cond b 0 (cond (is_sigil c) 1 (cond (is_mark c) 2 (cond (c == 34) 3 4)))) e))
  | inr e ↦ e
]

apart-of : (p : List ℕ) (a : Piece p) (x : List ℕ) → IsEnded a x → (ends_word p && begins_word x) ≡ false
apart-of p (run_piece r) x h = and-right (ends_word p) (begins_word x) (begins-word x h)
apart-of p (sign_piece s n i r e) x h = and-right (ends_word p) (begins_word x) (begins-word x h)
apart-of p (mark_piece m) x h =
    and-left (ends_word p) (begins_word x)
    (ap ends_word m.whole ∙ word-is_broad m.mark (not-broad m.mark (mark-kind m.mark m.is)))
apart-of p (quote_piece w e u) x h =
    and-left (ends_word p) (begins_word x) (ap ends_word (e ∙ quoted-is w u) ∙ ends-last (34 ∷ flat_map escaped w) 34)

-- the text after the spaces in front of the first part
record IsBehindSpaces (ps : List (List ℕ)) (x : List ℕ) : Type 0 where
  spaces : ℕ
  rest : List ℕ
  split : x ≡ replicate spaces 32 ++ rest
  written : IsWritten ps rest

behind-spaces : (p : List ℕ) (ps : List (List ℕ)) (x : List ℕ) → Laid (p ∷ ps) x → IsBehindSpaces (p ∷ ps) x
behind-spaces p [] x (n, rest, a, e, k, w) = record {
  spaces = n;
  rest = p ++ rest;
  split = e;
  written = ap (λ t. p ++ t) w ∙ append-nil p;
}
behind-spaces p (q ∷ ps) x (n, rest, a, e, k, w) =
    let more = behind-spaces q ps rest w in record {
      spaces = n;
      rest = p ++ rest;
      split = e;
      written = (
        more.spaces,
        more.rest,
        ap (λ t. p ++ t) more.split,
        subst (λ t. (ends_word p && begins_word t) ≡ false) more.split (apart-of p a rest k),
        more.written,
      );
    }

pub laid-written : (p : List ℕ) (ps : List (List ℕ)) (x : List ℕ) → Laid (p ∷ ps) x → (first_byte x ≡ 32 → ⊥) → IsWritten (p ∷ ps) x
laid-written p ps x h none =
    let b = behind-spaces p ps x h in by-spaces b.spaces b.rest b.split b.written
  where
    by-spaces : (n : ℕ) (rest : List ℕ) → x ≡ replicate n 32 ++ rest → IsWritten (p ∷ ps) rest → IsWritten (p ∷ ps) x
    by-spaces zero rest e w = subst (IsWritten (p ∷ ps)) (sym e) w
    by-spaces (suc n) rest e w = absurd (none (ap first_byte e))
