-- A word is put at its place among words in the order of bytes.
use Rattle.std.proofs.Common.{◌≡◌, ℕ, ◌+◌, ◌<◌, ◌≤◌, List, [], ◌∷◌, ◌++◌, length, take, drop, get_or, sym, ◌∙◌, ap, append_assoc}
use Rattle.std.specs.Cmp.Lexicographic.{slice_cmp}
use Rattle.std.specs.Ordering.{nat_cmp}
use Rattle.std.specs.declared.cmp.Ordering.{Ordering}
use Rattle.std.specs.declared.cmp.Ordering.TheVariants.{Less, Equal, Greater}
use Rattle.std.proofs.lemmas.List.{drop_all, drop_more, take-append-drop, take_more}
use Rattle.psg_terms.specs.Names.{Name}
use Rattle.psg_grammar.specs.Keys.{placed}
use Rattle.psg_program.specs.Expected.{insert_word, with_words}

-- the word is put after the first n
abbrev pub IsPast : Name → List Name → ℕ → Type 0
IsPast w ws n = insert_word w ws ≡ take n ws ++ insert_word w (drop n ws)

module _ (w : Name) where
  by_order : (v : Name) (vs : List Name) (r : Ordering) → slice_cmp nat_cmp w v ≡ r
      → insert_word w (v ∷ vs) ≡ placed r w v vs (insert_word w vs)
  by_order v vs r e = ap (λ (o : Ordering). placed o w v vs (insert_word w vs)) e

  -- the word at n
  module _ (ws : List Name) (n : ℕ) (v : Name) (lt : n < length ws) (is : v ≡ get_or ws n v) where
    left : drop n ws ≡ v ∷ drop (n + 1) ws
    left = drop_more ws n v lt ∙ ap (λ x. x ∷ drop (n + 1) ws) (sym is)

    at : (r : Ordering) → slice_cmp nat_cmp w v ≡ r → IsPast w ws n
        → insert_word w ws ≡ take n ws ++ placed r w v (drop (n + 1) ws) (insert_word w (drop (n + 1) ws))
    at r e past = past ∙ ap (λ l. take n ws ++ l) (ap (insert_word w) left ∙ by_order v (drop (n + 1) ws) r e)

    pub past_one : slice_cmp nat_cmp w v ≡ Greater → IsPast w ws n → IsPast w ws (n + 1)
    past_one e past =
        at Greater e past ∙ sym (append_assoc (take n ws) (v ∷ []) (insert_word w (drop (n + 1) ws)))
        ∙ ap (λ l. l ++ insert_word w (drop (n + 1) ws))
        (ap (λ x. take n ws ++ x ∷ []) is ∙ sym (take_more ws n v lt))

    pub before_one : slice_cmp nat_cmp w v ≡ Less → IsPast w ws n → insert_word w ws ≡ take n ws ++ w ∷ drop n ws
    before_one e past = at Less e past ∙ ap (λ l. take n ws ++ w ∷ l) (sym left)

    pub at_one : slice_cmp nat_cmp w v ≡ Equal → IsPast w ws n → insert_word w ws ≡ ws
    at_one e past = at Equal e past ∙ ap (λ l. take n ws ++ l) (sym left) ∙ take-append-drop n ws

  pub after_all : (ws : List Name) (n : ℕ) → length ws ≤ n → IsPast w ws n → insert_word w ws ≡ take n ws ++ w ∷ drop n ws
  after_all ws n le past =
      past ∙ ap (λ l. take n ws ++ l) (ap (insert_word w) (drop_all n ws le) ∙ ap (λ l. w ∷ l) (sym (drop_all n ws le)))

-- one more of the words was put at its place
pub put_next : (all old new : List Name) (i : ℕ) (w : Name) → i < length all → w ≡ get_or all i w → new ≡ insert_word w old
    → with_words new (drop (i + 1) all) ≡ with_words old (drop i all)
put_next all old new i w lt is put =
    ap (λ l. with_words l (drop (i + 1) all)) put
    ∙ ap (λ x. with_words old (x ∷ drop (i + 1) all)) is ∙ ap (with_words old) (sym (drop_more all i w lt))

pub put_all : (all old : List Name) (i : ℕ) → length all ≤ i → with_words old (drop i all) ≡ old
put_all all old i le = ap (with_words old) (drop_all i all le)
