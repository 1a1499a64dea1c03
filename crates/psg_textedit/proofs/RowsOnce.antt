-- A row has its tokens once.
use Rattle.std.proofs.Common.{◌≡◌, ℕ, ◌+◌, List, [], ◌∷◌, refl, ap, sym, append-nil, arith}
use Rattle.std.specs.Str.{chars}
use Rattle.psg_terms.specs.Names.{Name}
use Rattle.psg_lexis.specs.Classes.{Chars}
use Rattle.psg_lexis.specs.Tokens.{bytes_of, IsToken, HasTokens, nothing, next}
use Rattle.psg_lexis.specs.declared.token.Token.{Token}
use Rattle.psg_lexis.specs.declared.token.Spanned.{Spanned}
use Rattle.psg_lexis.proofs.Laws.{only_tokens}
use Rattle.psg_unparse.specs.Rows.{Piece}
use Rattle.psg_unparse.proofs.Lexing.{RowTokens, no_pieces, a_mark, a_token}

module _ (fixed : List Name) where
  alone : (cs : Chars) (t : Token) → IsToken fixed cs [] t
      → HasTokens fixed cs 0 (record { token = t; start = 0; end = bytes_of cs } ∷ [])
  alone cs t is =
      next cs 0 (record { token = t; start = 0; end = bytes_of cs }) []
      (record { front = cs; rest = []; whole = sym (append-nil cs); token = is; starts = refl; ends = at_zero (bytes_of cs) })
      (nothing (bytes_of cs))
    where
      at_zero : (n : ℕ) → n ≡ 0 + n
      at_zero n = omega arith

  one_token : (cs : Chars) (t u : Token) → IsToken fixed cs [] t → IsToken fixed cs [] u → t ≡ u
  one_token cs t u a b =
      let s : Spanned = record { token = t; start = 0; end = bytes_of cs } in
      let r : Spanned = record { token = u; start = 0; end = bytes_of cs } in
      let same : s ∷ [] ≡ r ∷ [] = only_tokens fixed cs 0 (s ∷ []) (r ∷ []) (alone cs t a) (alone cs u b) in
      let one : s ≡ r = cc in
      ap (λ (x : Spanned). x.token) one

  pub once : (r : List Piece) (ts us : List Token) → RowTokens fixed r ts → RowTokens fixed r us → ts ≡ us
  once _ _ _ no_pieces no_pieces = refl
  once _ _ _ (a_mark {r = r} {ts = ts} x) (a_mark {ts = us} y) = once r ts us x y
  once _ _ _ (a_token {w = w} {t = t} {r = r} {ts = ts} a x) (a_token {t = u} {ts = us} b y) =
      let head : t ≡ u = one_token (chars w) t u a.alone b.alone in
      let tail : ts ≡ us = once r ts us x y in cc
