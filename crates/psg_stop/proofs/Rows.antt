-- Lists that loops make.
use Rattle.std.proofs.Common.{◌≡◌, ℕ, ◌+◌, ◌<◌, List, [], ◌∷◌, ◌++◌, length, map, take, get_or, sym, ap, ap₂, ◌∙◌, arith, append_assoc}
use Rattle.std.proofs.lemmas.List.{map-append, take_all, take-map}
use Rattle.psg_terms.proofs.Lists.{take_item}
use Rattle.psg_lexis.specs.declared.token.Spanned.{Spanned}
use Rattle.psg_class.specs.Terminals.{Terminal}
use Rattle.psg_class.specs.Texts.{tokens_of}
use Rattle.psg_stop.specs.declared.wanted.Wanted.{Wanted}
use Rattle.psg_stop.specs.Wanted.{wanted_terminal, wanted_terminals}

-- ---- tokens

pub tokens_push : (xs : List Spanned) (s : Spanned) → tokens_of (xs ++ s ∷ []) ≡ tokens_of xs ++ s.token ∷ []
tokens_push xs s = map-append (λ (x : Spanned). x.token) xs (s ∷ [])

pub tokens_take : (k : ℕ) (ts : List Spanned) → tokens_of (take k ts) ≡ take k (tokens_of ts)
tokens_take k ts = sym (take-map (λ (x : Spanned). x.token) k ts)

pub tokens_next : (all old new : List Spanned) (i : ℕ) (x one : Spanned) → i < length all → x ≡ get_or all i x → tokens_of old ≡ tokens_of (take i all) → new ≡ old ++ one ∷ [] → one.token ≡ x.token
    → tokens_of new ≡ tokens_of (take (i + 1) all)
tokens_next all old new i x one l at h grown same =
    ap tokens_of grown ∙ tokens_push old one ∙ ap₂ (λ ts t. ts ++ t ∷ []) h same ∙ sym (tokens_push (take i all) x) ∙ ap tokens_of (sym (take_item all i x l at))

pub tokens_whole : (all row : List Spanned) (i : ℕ) → i ≡ length all → tokens_of row ≡ tokens_of (take i all) → tokens_of row ≡ tokens_of all
tokens_whole all row i e h = h ∙ ap tokens_of (take_all i all (omega (arith, e)))

-- ---- kinds of token

pub wanted_push : (ws : List Wanted) (w : Wanted) → wanted_terminals (ws ++ w ∷ []) ≡ wanted_terminals ws ++ wanted_terminal w ∷ []
wanted_push ws w = map-append wanted_terminal ws (w ∷ [])

module _ {X : Type 0} (f : X → Terminal) (start : List Terminal) (all : List X) where
  pub added_next : (old new : List Wanted) (i : ℕ) (x : X) (one : Wanted) → i < length all → x ≡ get_or all i x → wanted_terminals old ≡ start ++ map f (take i all) → new ≡ old ++ one ∷ []
      → wanted_terminal one ≡ f x → wanted_terminals new ≡ start ++ map f (take (i + 1) all)
  added_next old new i x one l at h grown same =
      ap wanted_terminals grown ∙ wanted_push old one ∙ ap₂ (λ ts t. ts ++ t ∷ []) h same ∙ append_assoc start (map f (take i all)) (f x ∷ [])
      ∙ ap (λ ts. start ++ ts) (sym (map-append f (take i all) (x ∷ [])) ∙ ap (map f) (sym (take_item all i x l at)))

  pub added_whole : (new : List Wanted) (i : ℕ) → i ≡ length all → wanted_terminals new ≡ start ++ map f (take i all) → wanted_terminals new ≡ start ++ map f all
  added_whole new i e h = h ∙ ap (λ xs. start ++ map f xs) (take_all i all (omega (arith, e)))
