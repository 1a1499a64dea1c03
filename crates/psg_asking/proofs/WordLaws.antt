-- The words of lines, taken one after the other.
use Rattle.std.proofs.Common.{◌≡◌, ℕ, Bool, true, false, List, [], ◌∷◌, ◌++◌, Some, None, Result, Ok, Err}
use Rattle.std.proofs.Common.{append-nil, append_assoc, ap, sym, ◌∙◌, refl}
use Rattle.std.specs.Prelude.{◌==◌, String, Vec, bytes_eq, codes, cond, map, string_bytes}
use Rattle.std.specs.declared.alloc.Global.{Global}
use Rattle.psg_terms.specs.Names.{Name, is_among}
use Rattle.std.proofs.lemmas.List.{map-append}
use Rattle.std.specs.List.{filter, slice_split}
use Rattle.std.proofs.lemmas.Bool.{false≢true, true≢false}
use Rattle.std.proofs.lemmas.Option.{none-some}
use Rattle.psg_session.specs.declared.refusal.Refusal.{Refusal}
use Rattle.psg_session.specs.Printing.{lines_in}
use Rattle.psg_session.specs.Replies.{Reply, answered, refused, reply_text}
use Rattle.psg_asking.specs.Told.{among, filled, lines_told, read_of, refusal_in, words_in, words_of, words_told}

-- ---- what is added to texts part by part

module _ (add : List ℕ → List (List ℕ)) (all : List (List ℕ) → List (List ℕ)) (none : all [] ≡ []) (push : (xs : List (List ℕ)) (x : List ℕ) → all (xs ++ x ∷ []) ≡ all xs ++ add x) where
  -- nothing was taken yet
  pub nothing_taken : (old : List (List ℕ)) → old ≡ old ++ all []
  nothing_taken old = sym (ap (λ l. old ++ l) none ∙ append-nil old)

  -- one more part was taken
  pub one_taken : (xs : List (List ℕ)) (x : List ℕ) (ys old now next : List (List ℕ)) → ys ≡ xs ++ x ∷ []
      → now ≡ old ++ all xs → next ≡ now ++ add x → next ≡ old ++ all ys
  one_taken xs x ys old now next a h n =
      n ∙ ap (λ l. l ++ add x) h ∙ append_assoc old (all xs) (add x)
      ∙ ap (λ l. old ++ l) (sym (push xs x)) ∙ ap (λ l. old ++ all l) (sym a)

pub filled-push : (xs : List (List ℕ)) (x : List ℕ) → filled (xs ++ x ∷ []) ≡ filled xs ++ filled (x ∷ [])
filled-push [] x = refl
filled-push ([] ∷ xs) x = filled-push xs x
filled-push ((b ∷ y) ∷ xs) x = ap (λ l. (b ∷ y) ∷ l) (filled-push xs x)

pub words_in-push : (xs : List (List ℕ)) (x : List ℕ) → words_in (xs ++ x ∷ []) ≡ words_in xs ++ words_of x
words_in-push [] x = append-nil (words_of x)
words_in-push (y ∷ xs) x =
    ap (λ l. words_of y ++ l) (words_in-push xs x) ∙ sym (append_assoc (words_of y) (words_in xs) (words_of x))

-- ---- a line

-- the line says that there is none
pub none_there : (line : List ℕ) (old : List (List ℕ)) → bytes_eq line (codes "none") ≡ true → old ≡ old ++ words_of line
none_there line old e =
    sym (ap (λ b. old ++ cond b [] (filled (slice_split (λ c. c == 32) line))) e ∙ append-nil old)

pub some_there : (line : List ℕ) (old new : List (List ℕ)) → bytes_eq line (codes "none") ≡ false
    → new ≡ old ++ filled (slice_split (λ c. c == 32) line) → new ≡ old ++ words_of line
some_there line old new e n =
    n ∙ sym (ap (λ b. old ++ cond b [] (filled (slice_split (λ c. c == 32) line))) e)

-- ---- a text

pub is_nothing : (part : List ℕ) (old : List (List ℕ)) → bytes_eq part [] ≡ true → old ≡ old ++ filled (part ∷ [])
is_nothing [] old e = sym (append-nil old)
is_nothing (b ∷ part) old e = absurd (false≢true e)

pub is_something : (part : List ℕ) (old new : List (List ℕ)) → bytes_eq part [] ≡ false → new ≡ old ++ part ∷ []
    → new ≡ old ++ filled (part ∷ [])
is_something [] old new e n = absurd (true≢false e)
is_something (b ∷ part) old new e n = n

pub pushed : {S : Type 0} (bytes : S → List ℕ) (old new : List S) (x : S) (text : List ℕ) → new ≡ old ++ x ∷ []
    → bytes x ≡ text → map bytes new ≡ map bytes old ++ text ∷ []
pushed bytes old new x text n e =
    ap (λ l. map bytes l) n ∙ map-append bytes old (x ∷ []) ∙ ap (λ t. map bytes old ++ t ∷ []) e

-- ---- what is told

same_refusal : {X : Type 0} (r q : Refusal) → Some q ≡ Some r → ◌≡◌ {A = Result X Refusal} (Err q) (Err r)
same_refusal r q e = cc

pub words_refused : (reply : Reply) (refusal : Refusal) → Some refusal ≡ refusal_in reply → Err refusal ≡ words_told reply
words_refused (refused r) refusal e = same_refusal r refusal e
words_refused (answered lines) refusal e = absurd (none-some refusal (sym e))

pub lines_refused : (reply : Reply) (refusal : Refusal) → Some refusal ≡ refusal_in reply → Err refusal ≡ lines_told reply
lines_refused (refused r) refusal e = same_refusal r refusal e
lines_refused (answered lines) refusal e = absurd (none-some refusal (sym e))

module _ (text : List ℕ) (reply : Reply) (none : None ≡ refusal_in reply) (is : text ≡ reply_text reply) where
  pub told_words : (words : List (List ℕ)) → words ≡ words_in (lines_in text) → Ok words ≡ words_told reply
  told_words words e = by reply none is where
    by : (r : Reply) → None ≡ refusal_in r → text ≡ reply_text r → Ok words ≡ words_told r
    by (refused q) n t = absurd (none-some q n)
    by (answered lines) n t = ap Ok (e ∙ ap (λ x. words_in (lines_in x)) t)

  pub told_lines : (lines : List (List ℕ)) → lines ≡ filled (lines_in text) → Ok lines ≡ lines_told reply
  told_lines lines e = by reply none is where
    by : (r : Reply) → None ≡ refusal_in r → text ≡ reply_text r → Ok lines ≡ lines_told r
    by (refused q) n t = absurd (none-some q n)
    by (answered told) n t = ap Ok (e ∙ ap (λ x. filled (lines_in x)) t)

-- a reply that is no refusal is lines
pub answered_in : (reply : Reply) → None ≡ refusal_in reply → (lines : List (List ℕ)) × (reply ≡ answered lines)
answered_in (refused r) e = absurd (none-some r e)
answered_in (answered lines) e = (lines, refl)

-- ---- a word is kept, or not

module _ (p : List ℕ → Bool) (word : List ℕ) (old : List (List ℕ)) where
  pub kept_one : (new : List (List ℕ)) → p word ≡ true → new ≡ old ++ word ∷ [] → new ≡ old ++ filter p (word ∷ [])
  kept_one new so n = n ∙ ap (λ b. old ++ cond b (word ∷ []) []) (sym so)

  pub kept_none : p word ≡ false → old ≡ old ++ filter p (word ∷ [])
  kept_none so = sym (append-nil old) ∙ ap (λ b. old ++ cond b (word ∷ []) []) (sym so)

-- ---- of what is read, the names

abbrev Told : Type 0
Told = Result (Vec (String Global) Global) Refusal

pub kept_told : (names : List Name) (read : Told) (words : Vec (String Global) Global) (slice : List (String Global))
    (kept : Vec (String Global) Global) → read ≡ Ok words → slice ≡ words.items
    → map string_bytes kept.items ≡ filter (λ w. is_among names w) (map string_bytes slice)
    → read_of (Ok kept) ≡ among names (read_of read)
kept_told names read words slice kept is s e =
    ap Ok (e ∙ ap (λ (l : List (String Global)). filter (λ w. is_among names w) (map string_bytes l)) s)
    ∙ ap (λ (r : Told). among names (read_of r)) (sym is)

pub refusal_told : (names : List Name) (read : Told) (refusal : Refusal) → read ≡ Err refusal
    → read_of (Err refusal) ≡ among names (read_of read)
refusal_told names read refusal is = ap (λ (r : Told). among names (read_of r)) (sym is)
