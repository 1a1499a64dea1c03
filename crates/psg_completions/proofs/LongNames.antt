-- A run of the letter a that is longer than other names is a new name.
use Rattle.std.proofs.Common.{◌≡◌, inl, inr, ℕ, zero, suc, ◌<◌, ◌≤◌, max, false, ◌||◌, List, [], ◌∷◌, ◌++◌, length, bytes_eq, refl, ap, sym, ◌∙◌, arith}
use Rattle.std.specs.Prelude.{encode_utf8_all, IsTrue}
use Rattle.std.specs.List.{AllByRecursion}
use Rattle.std.proofs.lemmas.Str.{encode_ascii}
use Rattle.std.proofs.lemmas.Bool.{cases_Bool}
use Rattle.psg_terms.proofs.DeclareLaws.{bytes_eq-same}
use Rattle.unicode_ident.proofs.IdentLemmas.{is_xid_start-ascii, is_xid_continue-ascii}
use Rattle.psg_grammar.specs.declared.types.Definition.{Definition}
use Rattle.psg_terms.specs.Names.{Name, is_among}
use Rattle.psg_terms.specs.Words.{starts_word, goes_on_word}
use Rattle.psg_grammar.specs.WellFormed.{IsName, fixed_words}
use Rattle.psg_completions.proofs.NameLaws.{none_left, none_right}

abbrev run : ℕ → List ℕ
run zero = []
run (suc n) = 97 ∷ run n

run_length : (n : ℕ) → length (run n) ≡ n
run_length zero = refl
run_length (suc n) = ap suc (run_length n)

run_bytes : (n : ℕ) → run n ≡ encode_utf8_all (run n)
run_bytes zero = refl
run_bytes (suc n) =
    ap (λ xs. 97 ∷ xs) (run_bytes n) ∙ ap (λ xs. xs ++ encode_utf8_all (run n)) (sym (encode_ascii 97 (omega arith)))

starts : IsTrue (starts_word 97)
starts = ap (λ b. b || false) (is_xid_start-ascii 97 (omega arith))

goes : IsTrue (goes_on_word 97)
goes = ap (λ b. b || false) (is_xid_continue-ascii 97 (omega arith))

run_goes : (n : ℕ) → AllByRecursion (λ d. IsTrue (goes_on_word d)) (run n)
run_goes zero = tt
run_goes (suc n) = (goes, run_goes n)

abbrev longest : List Name → ℕ
longest [] = 0
longest (n ∷ ns) = max (length n) (longest ns)

too_long : (k : ℕ) (ns : List Name) → longest ns < k → is_among ns (run k) ≡ false
too_long k [] h = refl
too_long k (n ∷ ns) h =
    let here : bytes_eq n (run k) ≡ false = elim (cases_Bool (bytes_eq n (run k))) [
      | inl t ↦
          let e : length n ≡ k = ap length (bytes_eq-same n (run k) t) ∙ run_length k in
          let z : 1 ≤ 0 = omega (arith, e, h) in
          absurd (omega (arith, z))
      | inr f ↦ f
    ] in
    ap (λ b. b || is_among ns (run k)) here ∙ too_long k ns (omega (arith, h))

pub fresh : (def : Definition) (avoid : List Name) → (n : Name) × IsName def n × (is_among avoid n ≡ false)
fresh def avoid =
    let k = longest (avoid ++ fixed_words def) in
    let none : is_among (avoid ++ fixed_words def) (run (suc (longest (avoid ++ fixed_words def)))) ≡ false =
    too_long (suc (longest (avoid ++ fixed_words def))) (avoid ++ fixed_words def) (omega arith) in (
      run (suc (longest (avoid ++ fixed_words def))),
      (
        run (suc (longest (avoid ++ fixed_words def))),
        run_bytes (suc (longest (avoid ++ fixed_words def))),
        (starts, run_goes (longest (avoid ++ fixed_words def))),
        none_right avoid (fixed_words def) (run (suc (longest (avoid ++ fixed_words def)))) none,
      ),
      none_left avoid (fixed_words def) (run (suc (longest (avoid ++ fixed_words def)))) none,
    )
