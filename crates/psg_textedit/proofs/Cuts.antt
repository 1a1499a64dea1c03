-- The tokens of three texts put together, where no token is across a border.
use Rattle.std.proofs.Common.{◌≡◌, ℕ, ◌+◌, List, [], ◌∷◌, ◌++◌, length, refl, ap, sym, ◌∙◌, subst, append-nil, arith}
use Rattle.std.specs.Str.{chars, IsUtf8}
use Rattle.std.specs.List.{AllByRecursion}
use Rattle.std.proofs.lemmas.Str.{chars-append, chars-nil, encodes-chars}
use Rattle.psg_terms.specs.Names.{Name}
use Rattle.psg_lexis.specs.Classes.{Chars, Glue}
use Rattle.psg_lexis.specs.Tokens.{bytes_of, Begins, HasTokens, nothing, blank, next, IsBeside}
use Rattle.psg_lexis.specs.declared.token.Spanned.{Spanned}
use Rattle.psg_lexis.proofs.Joining.{IsApart, joined_tokens}
use Rattle.psg_lexis.proofs.Cutting.{IsCut, cut}
use Rattle.psg_lexis.proofs.Laws.{only_tokens}
use Rattle.psg_class.specs.Texts.{tokens_of}
use Rattle.psg_unparse.proofs.Lexing.{Blanks, gap_apart, chars_gap, skip_gap}

pub all_last : (P : Spanned → Type 0) (xs ys : List Spanned) → AllByRecursion P (xs ++ ys) → AllByRecursion P ys
all_last P [] ys h = h
all_last P (x ∷ xs) ys h = all_last P xs ys h.1

pub tokens_both : (xs ys : List Spanned) → tokens_of (xs ++ ys) ≡ tokens_of xs ++ tokens_of ys
tokens_both [] ys = refl
tokens_both (x ∷ xs) ys = ap (λ ts. x.token ∷ ts) (tokens_both xs ys)

pub size_of : (bs : List ℕ) → IsUtf8 bs → bytes_of (chars bs) ≡ length bs
size_of bs u = ap length (encodes-chars bs u)

module _ (fixed : List Name) where
  -- the same tokens from another byte on
  pub record Moved (cs : Chars) (at : ℕ) (ts : List Spanned) : Type 0 where
    pub spans : List Spanned
    pub are : HasTokens fixed cs at spans
    pub same : tokens_of spans ≡ tokens_of ts

  pub moved : (cs : Chars) (a b : ℕ) (ts : List Spanned) → HasTokens fixed cs a ts → Moved cs b ts
  moved _ _ b _ (nothing at) = record { spans = []; are = nothing b; same = refl }
  moved _ _ b _ (blank c cs at ts h k) =
      let m = moved cs (at + 1) (b + 1) ts k in
      record { spans = m.spans; are = blank c cs b m.spans h m.are; same = m.same }
  moved _ _ b _ (next all at s ts begins k) =
      let m = moved begins.rest s.end (b + bytes_of begins.front) ts k in
      let t : Spanned = record { token = s.token; start = b; end = b + bytes_of begins.front } in
      let there : Begins fixed all b t = record {
        front = begins.front;
        rest = begins.rest;
        whole = begins.whole;
        token = begins.token;
        starts = refl;
        ends = refl;
      } in
      record { spans = t ∷ m.spans; are = next all b t m.spans there m.are; same = ap (λ us. s.token ∷ us) m.same }

  gap_apart_from : (cs : Chars) (g : List ℕ) → Blanks g → IsApart cs (chars g)
  gap_apart_from cs [] h = record {
    apart = λ fr behind c d e k glue. let no : [] ≡ d ∷ behind = sym chars-nil ∙ k in absurd (cc);
  }
  gap_apart_from cs (b ∷ g) h = record {
    apart = λ fr behind c d e k glue.
        let both : b ∷ chars g ≡ d ∷ behind = sym (chars_gap b g h.0) ∙ k in
        let same : b ≡ d = cc in gap_apart c b h.0 (subst (Glue c) (sym same) glue);
  }

  -- a gap adds no token
  pub gap_after_tokens : (l g : List ℕ) (ts : List Spanned) → IsUtf8 l → Blanks g → HasTokens fixed (chars l) 0 ts
      → HasTokens fixed (chars (l ++ g)) 0 ts
  gap_after_tokens l g ts u h k =
      let at : ℕ = 0 + bytes_of (chars l) in
      let end : HasTokens fixed (chars []) (at + length g) [] =
      subst (λ cs. HasTokens fixed cs (at + length g) []) (sym chars-nil) (nothing (at + length g)) in
      let none : HasTokens fixed (chars g) at [] =
      subst (λ bs. HasTokens fixed (chars bs) at []) (append-nil g) (skip_gap fixed g [] at [] h end) in
      subst (HasTokens fixed (chars (l ++ g)) 0) (append-nil ts)
      (subst (λ cs. HasTokens fixed cs 0 (ts ++ [])) (sym (chars-append l g u))
      (joined_tokens fixed (chars l) 0 ts (chars g) [] (gap_apart_from (chars l) g h) k none))

  -- The tokens of the whole are those of the three parts. Those of the first and the last part are known.
  pub three : (a r b : List ℕ) (all fs rs bs : List Spanned) → IsUtf8 a → IsUtf8 r
      → HasTokens fixed (chars (a ++ (r ++ b))) 0 all
      → AllByRecursion (IsBeside (length a)) all → AllByRecursion (IsBeside (length a + length r)) all
      → HasTokens fixed (chars a) 0 fs → HasTokens fixed (chars r) 0 rs
      → HasTokens fixed (chars b) (0 + bytes_of (chars a) + bytes_of (chars r)) bs
      → tokens_of all ≡ tokens_of fs ++ (tokens_of rs ++ tokens_of bs)
  three a r b all fs rs bs ua ur whole begins ends has_a has_r has_b =
      let at : ℕ = 0 + bytes_of (chars a) in
      let first : length a ≡ at = omega (arith, size_of a ua) in
      let second : length a + length r ≡ at + bytes_of (chars r) = omega (arith, size_of a ua, size_of r ur) in
      let split : chars (a ++ (r ++ b)) ≡ chars a ++ (chars r ++ chars b) =
      chars-append a (r ++ b) ua ∙ ap (λ cs. chars a ++ cs) (chars-append r b ur) in
      let i : IsCut fixed (chars a) (chars r ++ chars b) 0 all =
      cut fixed (chars a) (chars (a ++ (r ++ b))) (chars r ++ chars b) 0 all whole split
      (subst (λ n. AllByRecursion (IsBeside n) all) first begins) in
      let later : AllByRecursion (IsBeside (at + bytes_of (chars r))) i.back =
      all_last (IsBeside (at + bytes_of (chars r))) i.front i.back
      (subst (AllByRecursion (IsBeside (at + bytes_of (chars r)))) i.whole
      (subst (λ n. AllByRecursion (IsBeside n) all) second ends)) in
      let j : IsCut fixed (chars r) (chars b) at i.back =
      cut fixed (chars r) (chars r ++ chars b) (chars b) at i.back i.right refl later in
      let m : Moved (chars r) at rs = moved (chars r) 0 at rs has_r in
      let same_a : i.front ≡ fs = only_tokens fixed (chars a) 0 i.front fs i.left has_a in
      let same_r : j.front ≡ m.spans = only_tokens fixed (chars r) at j.front m.spans j.left m.are in
      let same_b : j.back ≡ bs = only_tokens fixed (chars b) (at + bytes_of (chars r)) j.back bs j.right has_b in
      ap tokens_of (i.whole ∙ ap (λ us. i.front ++ us) j.whole)
      ∙ tokens_both i.front (j.front ++ j.back)
      ∙ ap (λ us. tokens_of i.front ++ us) (tokens_both j.front j.back)
      ∙ ap (λ us. tokens_of us ++ (tokens_of j.front ++ tokens_of j.back)) same_a
      ∙ ap (λ us. tokens_of fs ++ (us ++ tokens_of j.back)) (ap tokens_of same_r ∙ m.same)
      ∙ ap (λ us. tokens_of fs ++ (tokens_of rs ++ tokens_of us)) same_b
