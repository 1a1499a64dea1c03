-- What may be put at a place, entry by entry.
use Rattle.std.proofs.Common.{◌≡◌, ◌<◌, ◌≤◌, ◌+◌, ◌-◌, ℕ, List, [], ◌∷◌, ◌++◌, drop, length, map, take, refl, ap, sym, ◌∙◌, subst, append_assoc, append-nil}
use Rattle.std.specs.Prelude.{IsUtf8, get_or}
use Rattle.std.proofs.lemmas.List.{drop_all}
use Rattle.serde_json.specs.Data.{Data}
use Rattle.serde_json.specs.View.{view}
use Rattle.serde_json.specs.declared.value.Value.{Value}
use Rattle.psg_documents.specs.declared.encoding.Encoding.{Encoding}
use Rattle.psg_terms.proofs.Lists.{drop_item}
use Rattle.psg_completing.specs.declared.completing.Completion.{Completion}
use Rattle.psg_completing.specs.declared.offering.Entry.{Entry}
use Rattle.psg_server.specs.Completing.{AreItems, IsCompletionValue, IsItem, IsTextBetween, IsWord, list_data, no_items, no_word, one_item, word_there}

-- ---- the word

pub word_is : (text own : List ℕ) (c : Completion) (word : List ℕ) → own ≡ text
    → word ≡ take (c.to - c.from) (drop c.from own) → IsWord text c word
word_is text own c word same e =
    subst (λ w. IsWord text c w) (sym (e ∙ ap (λ l. take (c.to - c.from) (drop c.from l)) same)) word_there

pub word_is_none : (text own : List ℕ) (c : Completion) → own ≡ text → (IsTextBetween own c.from c.to → ⊥)
    → IsWord text c []
word_is_none text own c same none = no_word (λ t. none (subst (λ l. IsTextBetween l c.from c.to) (sym same) t))

pub no_text : (bytes part : List ℕ) (from to : ℕ) → part ≡ take (to - from) (drop from bytes) → (IsUtf8 part → ⊥)
    → IsTextBetween bytes from to → ⊥
no_text bytes part from to e none t = none (subst IsUtf8 (sym e) t.text_there)

-- ---- the entries

module _ (encoding : Encoding) (text : List ℕ) (c : Completion) (filter : List ℕ) where
  -- what completes the rest completes the whole
  abbrev pub AreSoFar : List Entry → List Entry → List Value → Type 0
  AreSoFar all rest values = (ds : List Data) → AreItems encoding text c filter rest ds
      → AreItems encoding text c filter all (map view values ++ ds)

  pub items_first : (all row : List Entry) (values : List Value) → row ≡ all → values ≡ [] → AreSoFar all row values
  items_first all row values same none ds are =
      subst (λ vs. AreItems encoding text c filter all (map view vs ++ ds)) (sym none)
      (subst (λ l. AreItems encoding text c filter l ds) same are)

  pub items_next : (all row : List Entry) (i : ℕ) (e : Entry) (value : Value) (old new : List Value) → i < length row
      → e ≡ get_or row i e → IsItem encoding text c filter e (view value) → new ≡ old ++ value ∷ []
      → AreSoFar all (drop i row) old → AreSoFar all (drop (i + 1) row) new
  items_next all row i e value old new lt at is n so ds are =
      subst (λ vs. AreItems encoding text c filter all vs) (sym row_is)
      (so (view value ∷ ds)
      (subst (λ l. AreItems encoding text c filter l (view value ∷ ds)) (sym (drop_item row i e lt at))
      (one_item e (view value) is are))) where
        mapped : (vs : List Value) → map view (vs ++ value ∷ []) ++ ds ≡ map view vs ++ (view value ∷ ds)
        mapped [] = refl
        mapped (v ∷ vs) = ap (λ l. view v ∷ l) (mapped vs)

        row_is : map view new ++ ds ≡ map view old ++ (view value ∷ ds)
        row_is = ap (λ l. map view l ++ ds) n ∙ mapped old

  pub items_end : (all row : List Entry) (i : ℕ) (values : List Value) → length row ≤ i
      → AreSoFar all (drop i row) values → AreItems encoding text c filter all (map view values)
  items_end all row i values le so =
      subst (λ vs. AreItems encoding text c filter all vs) (append-nil (map view values))
      (so [] (subst (λ l. AreItems encoding text c filter l []) (sym (drop_all i row le)) no_items))
