-- The parts of a note, and the notes at its paths.
use Rattle.std.proofs.Common.{◌≡◌, ℕ, zero, suc, List, [], ◌∷◌, ◌++◌, map, slice_get, Option, Some, None, refl, sym, ◌∙◌, ap, subst, append_assoc, append-nil}
use Rattle.std.specs.Prelude.{option_and_then, option_map}
use Rattle.std.specs.List.{AllByRecursion}
use Rattle.std.proofs.lemmas.Option.{none-some}
use Rattle.psg_grammar.specs.declared.types.Definition.{Definition}
use Rattle.psg_grammar.specs.Fragments.{children_of}
use Rattle.psg_grammar.specs.Paths.{Path, node_at}
use Rattle.psg_cache.specs.Notes.{IsFormed}
use Rattle.psg_cache.proofs.Each.{each_push, each_got}
use Rattle.psg_cache.specs.Annotated.{Annotated, topped, above, tree_in, whole_in, rests_in, weight_in, below_in, note_at}
use Rattle.psg_cache.specs.Noted.{IsNoted, IsNotedWith, IsTopped}
use Rattle.psg_cache.proofs.NoteLaws.{below_known}

module _ (def : Definition) where
  parts_with : (n : Annotated) (more : List Annotated) → IsNotedWith def n more
      → IsTopped def (tree_in n) (whole_in n) (rests_in n) (weight_in n) (below_in n ++ more) × AllByRecursion (IsNoted def) (below_in n)
  parts_with (topped tree whole rests weight) more h = (h, tt)
  parts_with (above n c) more h =
      let k = parts_with n (c ∷ more) h.0 in (
        subst (IsTopped def (tree_in n) (whole_in n) (rests_in n) (weight_in n)) (sym (append_assoc (below_in n) (c ∷ []) more)) k.0,
        each_push (IsNoted def) (below_in n) c k.1 h.1,
      )

  -- the top of a note, and that its children are noted
  pub noted_parts : (n : Annotated) → IsNoted def n
      → IsTopped def (tree_in n) (whole_in n) (rests_in n) (weight_in n) (below_in n) × AllByRecursion (IsNoted def) (below_in n)
  noted_parts n h =
      let k = parts_with n [] h in
      (subst (IsTopped def (tree_in n) (whole_in n) (rests_in n) (weight_in n)) (append-nil (below_in n)) k.0, k.1)

  tree_got : (ns : List Annotated) (k : ℕ) → slice_get (map tree_in ns) k ≡ option_map tree_in (slice_get ns k)
  tree_got [] k = refl
  tree_got (n ∷ ns) zero = refl
  tree_got (n ∷ ns) (suc k) = tree_got ns k

  formed_got : (ns : List Annotated) (k : ℕ) (m : Annotated) → AllByRecursion (IsFormed def) (map tree_in ns) → slice_get ns k ≡ Some m
      → IsFormed def (tree_in m)
  formed_got [] k m h e = absurd (none-some m e)
  formed_got (n ∷ ns) zero m h e = let same : n ≡ m = cc in subst (λ x. IsFormed def (tree_in x)) same h.0
  formed_got (n ∷ ns) (suc k) m h e = formed_got ns k m h.1 e

  -- the notes at the paths are those of the nodes, and there are no others
  pub noted_at : (path : Path) (n : Annotated) → IsNoted def n → IsFormed def (tree_in n)
      → (node_at (tree_in n) path ≡ option_map tree_in (note_at n path))
      × ((m : Annotated) → note_at n path ≡ Some m → IsNoted def m × IsFormed def (tree_in m))
  noted_at [] n h formed = (refl, λ m e. let same : n ≡ m = cc in (subst (IsNoted def) same h, subst (λ x. IsFormed def (tree_in x)) same formed))
  noted_at (k ∷ path) n h formed =
      let parts = noted_parts n h in
      let known = below_known def (tree_in n) (below_in n) formed parts.0.children parts.1 in
      let at : slice_get (children_of (tree_in n)) k ≡ option_map tree_in (slice_get (below_in n) k) =
      ap (λ cs. slice_get cs k) (sym parts.0.children) ∙ tree_got (below_in n) k in
      go (λ c h formed. noted_at path c h formed) (slice_get (below_in n) k) refl at known.0 parts.1 where
        go : ((c : Annotated) → IsNoted def c → IsFormed def (tree_in c)
            → (node_at (tree_in c) path ≡ option_map tree_in (note_at c path))
            × ((m : Annotated) → note_at c path ≡ Some m → IsNoted def m × IsFormed def (tree_in m)))
            → (o : Option Annotated) → slice_get (below_in n) k ≡ o
            → slice_get (children_of (tree_in n)) k ≡ option_map tree_in (slice_get (below_in n) k)
            → AllByRecursion (IsFormed def) (map tree_in (below_in n)) → AllByRecursion (IsNoted def) (below_in n)
            → (option_and_then (λ t. node_at t path) (slice_get (children_of (tree_in n)) k)
            ≡ option_map tree_in (option_and_then (λ c. note_at c path) (slice_get (below_in n) k)))
            × ((m : Annotated) → option_and_then (λ c. note_at c path) (slice_get (below_in n) k) ≡ Some m → IsNoted def m × IsFormed def (tree_in m))
        go deeper None e at formed noted = (
          ap (option_and_then (λ t. node_at t path)) (at ∙ ap (option_map tree_in) e)
              ∙ sym (ap (λ o. option_map tree_in (option_and_then (λ c. note_at c path) o)) e),
          λ m there. absurd (none-some m (sym (ap (option_and_then (λ c. note_at c path)) e) ∙ there)),
        )
        go deeper (Some c) e at formed noted =
            let h = deeper c (each_got (IsNoted def) (below_in n) k c noted e) (formed_got (below_in n) k c formed e) in (
              ap (option_and_then (λ t. node_at t path)) (at ∙ ap (option_map tree_in) e)
                  ∙ h.0 ∙ sym (ap (λ o. option_map tree_in (option_and_then (λ c. note_at c path) o)) e),
              λ m there. h.1 m (sym (ap (option_and_then (λ c. note_at c path)) e) ∙ there),
            )
