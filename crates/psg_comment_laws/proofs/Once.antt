-- A text has its comments in one way, and one text has spaces for them.
use Rattle.std.proofs.Common.{◌≡◌, ℕ, ◌+◌, ◌<◌, Bool, true, false, List, [], ◌∷◌, ◌++◌, length, get_or, sym, ap, ◌∙◌, subst, refl}
use Rattle.std.specs.Prelude.{chars}
use Rattle.std.proofs.lemmas.Bool.{false≢true, true≢false}
use Rattle.std.proofs.lemmas.Grind.{same_number_lists}
use Rattle.psg_terms.specs.Names.{Name}
use Rattle.psg_lexis.specs.Classes.{Chars, is_blank}
use Rattle.psg_lexis.specs.Tokens.{bytes_of, IsToken, Begins}
use Rattle.psg_lexis.specs.declared.token.Token.{Token}
use Rattle.psg_lexis.specs.declared.token.Spanned.{Spanned}
use Rattle.psg_lexis.proofs.Disjoint.{blank_apart}
use Rattle.psg_comments.specs.Fitting.{begins_with, IsFit}
use Rattle.psg_comments.specs.Blanking.{is_inside, AreSpaces}
use Rattle.psg_comments.specs.Finding.{line_of, HasComments, nothing, blank, comment, token_there, no_token}
use Rattle.psg_comments.specs.declared.finding.Comment.{Comment}
use Rattle.psg_comments.proofs.Fronts.{begins_head}
use Rattle.psg_comment_laws.specs.Laws.{HasOneReading}
use Rattle.psg_lexis.proofs.Laws.{blank_token, blank_fault, token_fault, no_token_at_end, same_start}

-- the comment of so many bytes
abbrev pub from_to : ℕ → ℕ → Comment
from_to at n = record { start = at; end = at + n }

module _ (fixed : List Name) (token : List ℕ) (fit : IsFit fixed token) where
  abbrev ts : Chars
  ts = chars token

  begun : (all front rest : Chars) (at : ℕ) (t : Token) → all ≡ front ++ rest → IsToken fixed front rest t
      → Begins fixed all at (record { token = t; start = at; end = at + bytes_of front })
  begun all front rest at t e k = record { front = front; rest = rest; whole = e; token = k; starts = refl; ends = refl }

  no_comment_at_end : begins_with [] ts ≡ true → ⊥
  no_comment_at_end h = false≢true (begins_head [] ts fit.begins h)

  no_comment_at_blank : (c : ℕ) (cs : Chars) → is_blank c ≡ true → begins_with (c ∷ cs) ts ≡ true → ⊥
  no_comment_at_blank c cs h b = false≢true (sym (blank_apart c h).0.symbol ∙ begins_head (c ∷ cs) ts fit.begins b)

  no_token_at_blank : (c : ℕ) (cs front rest : Chars) (at : ℕ) (t : Token) → is_blank c ≡ true → c ∷ cs ≡ front ++ rest
      → IsToken fixed front rest t → ⊥
  no_token_at_blank c cs front rest at t h e k =
      blank_token fixed c cs at (record { token = t; start = at; end = at + bytes_of front }) h
      (begun (c ∷ cs) front rest at t e k)

  no_token_behind : (front rest : Chars) (at : ℕ) (t : Token) → [] ≡ front ++ rest → IsToken fixed front rest t → ⊥
  no_token_behind front rest at t e k =
      no_token_at_end fixed at (record { token = t; start = at; end = at + bytes_of front }) (begun [] front rest at t e k)

  pub only_comments : (all : Chars) (at : ℕ) (cs ds : List Comment) → HasComments fixed ts all at cs
      → HasComments fixed ts all at ds → cs ≡ ds
  unfolding begun
  only_comments _ _ _ _ (nothing at) (nothing _) = refl
  only_comments _ _ _ _ (nothing at) (comment _ _ more b k) = absurd (no_comment_at_end b)
  only_comments _ _ _ _ (nothing at) (token_there _ front rest _ t more b e i k) =
      absurd (no_token_behind front rest at t e i)
  only_comments _ _ _ _ (nothing at) (no_token _ _ place f b i) = refl
  only_comments _ _ _ _ (blank c cs at more h k) (blank _ _ _ others i l) = only_comments cs (at + 1) more others k l
  only_comments _ _ _ _ (blank c cs at more h k) (comment _ _ others b l) = absurd (no_comment_at_blank c cs h b)
  only_comments _ _ _ _ (blank c cs at more h k) (token_there _ front rest _ t others b e i l) =
      absurd (no_token_at_blank c cs front rest at t h e i)
  only_comments _ _ _ _ (blank c cs at more h k) (no_token _ _ place f b i) = absurd (blank_fault fixed c cs place f h i)
  only_comments _ _ _ _ (comment _ at more b k) (nothing _) = absurd (no_comment_at_end b)
  only_comments _ _ _ _ (comment _ at more b k) (blank c cs _ others h l) = absurd (no_comment_at_blank c cs h b)
  only_comments _ _ _ _ (comment all at more b k) (comment _ _ others d l) =
      ap (λ cs. from_to at (bytes_of (line_of all)) ∷ cs)
      (only_comments _ (at + bytes_of (line_of all)) more others k l)
  only_comments _ _ _ _ (comment all at more b k) (token_there _ front rest _ t others d e i l) =
      absurd (true≢false (sym b ∙ d))
  only_comments _ _ _ _ (comment all at more b k) (no_token _ _ place f d i) = absurd (true≢false (sym b ∙ d))
  only_comments _ _ _ _ (token_there _ front rest at t more b e i k) (nothing _) =
      absurd (no_token_behind front rest at t e i)
  only_comments _ _ _ _ (token_there _ front rest at t more b e i k) (blank c cs _ others h l) =
      absurd (no_token_at_blank c cs front rest at t h e i)
  only_comments _ _ _ _ (token_there all front rest at t more b e i k) (comment _ _ others d l) =
      absurd (true≢false (sym d ∙ b))
  only_comments _ _ _ _ (token_there all front rest at t more b e i k) (token_there _ front' rest' _ u others d g j l) =
      let p = same_start fixed all at (record { token = t; start = at; end = at + bytes_of front })
      (record { token = u; start = at; end = at + bytes_of front' })
      (begun all front rest at t e i) (begun all front' rest' at u g j) in
      only_comments rest (at + bytes_of front) more others k
      (subst (λ n. HasComments fixed ts rest n others) (ap (λ (s : Spanned). s.end) (sym p.0))
      (subst (λ r. HasComments fixed ts r (at + bytes_of front') others) (sym p.1) l))
  only_comments _ _ _ _ (token_there all front rest at t more b e i k) (no_token _ _ place f d j) =
      absurd (token_fault fixed all place (record { token = t; start = place; end = place + bytes_of front }) f
      (begun all front rest place t e i) j)
  only_comments _ _ _ _ (no_token _ at place f b i) (nothing _) = refl
  only_comments _ _ _ _ (no_token _ at place f b i) (blank c cs _ others h l) = absurd (blank_fault fixed c cs place f h i)
  only_comments _ _ _ _ (no_token all at place f b i) (comment _ _ others d l) = absurd (true≢false (sym d ∙ b))
  only_comments _ _ _ _ (no_token all at place f b i) (token_there _ front rest _ t others d e j l) =
      absurd (token_fault fixed all place (record { token = t; start = place; end = place + bytes_of front }) f
      (begun all front rest place t e j) i)
  only_comments _ _ _ _ (no_token all at place f b i) (no_token _ _ _ g d j) = refl

-- the bytes with spaces for comments are known
pub same_spaces : (text : List ℕ) (cs : List Comment) (one two : List ℕ) → AreSpaces text cs one → AreSpaces text cs two
    → one ≡ two
same_spaces text cs one two a b = same_number_lists one two (a.size ∙ sym b.size)
    (λ place l. by place (subst (λ n. place < n) a.size l) (is_inside cs place) refl)
  where
    by : (place : ℕ) → place < length text → (inside : Bool) → is_inside cs place ≡ inside
        → get_or one place 0 ≡ get_or two place 0
    by place l true e = a.inside place l e ∙ sym (b.inside place l e)
    by place l false e = a.outside place l e ∙ sym (b.outside place l e)

pub one_reading : (fixed : List Name) (token : List ℕ) → IsFit fixed token → HasOneReading fixed token
one_reading fixed token fit text cs ds one two h k =
    let e : cs ≡ ds = only_comments fixed token fit (chars text) 0 cs ds h.found k.found in
    record {
      same_comments = e;
      same_bytes = same_spaces text ds one two (subst (λ c. AreSpaces text c one) e h.spaces) k.spaces;
    }
