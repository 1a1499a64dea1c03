-- A run of a letter that is longer than all fixed words is a name.
use Rattle.std.proofs.Common.{◌≡◌, inl, inr, ℕ, zero, suc, ◌+◌, ◌<◌, ◌≤◌, false, ◌||◌, List, [], ◌∷◌, ◌++◌, length, bytes_eq, refl, ap, sym, ◌∙◌, subst, arith}
use Rattle.std.specs.Prelude.{encode_utf8_all, IsTrue}
use Rattle.std.specs.List.{AllByRecursion}
use Rattle.std.proofs.lemmas.Str.{encode_ascii}
use Rattle.std.proofs.lemmas.Bool.{cases_Bool}
use Rattle.psg_terms.proofs.DeclareLaws.{bytes_eq-same}
use Rattle.psg_terms.specs.Names.{Name, is_among}
use Rattle.psg_terms.specs.Words.{starts_word, goes_on_word}
use Rattle.unicode_ident.proofs.IdentLemmas.{is_xid_start-ascii, is_xid_continue-ascii}
use Rattle.psg_grammar.specs.declared.types.Definition.{Definition}
use Rattle.psg_grammar.specs.WellFormed.{fixed_words}
use Rattle.psg_class.specs.Terminals.{a_name, terminal_of, word}
use Rattle.psg_unparse.proofs.WordTokens.{name_terminal}
use Rattle.psg_stop.specs.Runs.{run}

abbrev pub AreBounded : ℕ → List Name → Type 0
AreBounded m ns = AllByRecursion (λ n. length n ≤ m) ns

pub bounded_up : (a b : ℕ) (ns : List Name) → a ≤ b → AreBounded a ns → AreBounded b ns
bounded_up a b [] l h = tt
bounded_up a b (n ∷ ns) l h = (omega (arith, l, h.0), bounded_up a b ns l h.1)

-- one name more
pub bounded_next : (a b : ℕ) (ns : List Name) (n : Name) → a ≤ b → AreBounded a ns → length n ≤ b → AreBounded b (ns ++ n ∷ [])
bounded_next a b [] n l h one = (one, tt)
bounded_next a b (x ∷ ns) n l h one = (omega (arith, l, h.0), bounded_next a b ns n l h.1 one)

run_length : (n : ℕ) → length (run n) ≡ n
run_length zero = refl
run_length (suc n) = ap suc (run_length n)

run_bytes : (n : ℕ) → run n ≡ encode_utf8_all (run n)
run_bytes zero = refl
run_bytes (suc n) =
    ap (λ xs. 97 ∷ xs) (run_bytes n) ∙ ap (λ xs. xs ++ encode_utf8_all (run n)) (sym (encode_ascii 97 (omega arith)))

pub run_push : (n : ℕ) → run n ++ 97 ∷ [] ≡ run (n + 1)
run_push zero = refl
run_push (suc n) =
    let e : suc n + 1 ≡ suc (n + 1) = omega arith in
    ap (λ xs. 97 ∷ xs) (run_push n) ∙ ap run (sym e)

starts : IsTrue (starts_word 97)
starts = ap (λ b. b || false) (is_xid_start-ascii 97 (omega arith))

goes : IsTrue (goes_on_word 97)
goes = ap (λ b. b || false) (is_xid_continue-ascii 97 (omega arith))

run_goes : (n : ℕ) → AllByRecursion (λ d. IsTrue (goes_on_word d)) (run n)
run_goes zero = tt
run_goes (suc n) = (goes, run_goes n)

too_long : (m : ℕ) (ns : List Name) (x : Name) → AreBounded m ns → m < length x → is_among ns x ≡ false
too_long m [] x h l = refl
too_long m (n ∷ ns) x h l =
    let here : bytes_eq n x ≡ false = elim (cases_Bool (bytes_eq n x)) [
      | inl t ↦ let e : length n ≡ length x = ap length (bytes_eq-same n x t) in absurd (omega (arith, e, h.0, l))
      | inr f ↦ f
    ] in
    ap (λ b. b || is_among ns x) here ∙ too_long m ns x h.1 l

longer_is_name : (def : Definition) (m : ℕ) → AreBounded m (fixed_words def) → terminal_of def (word (run (suc m))) ≡ a_name
longer_is_name def m h =
    name_terminal def (run (suc m)) (run (suc m)) (run_bytes (suc m)) (starts, run_goes m)
    (too_long m (fixed_words def) (run (suc m)) h (omega (arith, run_length (suc m))))

pub run_is_name : (def : Definition) (m : ℕ) → AreBounded m (fixed_words def) → terminal_of def (word (run (m + 1))) ≡ a_name
run_is_name def m h =
    let e : suc m ≡ m + 1 = omega arith in
    subst (λ k. terminal_of def (word (run k)) ≡ a_name) e (longer_is_name def m h)
