-- The names of the kinds, phyla first, are distinct where those of a file's lines are.
use Rattle.std.proofs.Common.{◌≡◌, ◌||◌, true, false, List, [], ◌∷◌, ◌++◌, refl, ap, sym, ◌∙◌, inl, inr}
use Rattle.std.specs.Prelude.{bytes_eq}
use Rattle.std.proofs.lemmas.Bool.{false≢true, or_from, or_parts, cases_Bool}
use Rattle.psg_terms.specs.Names.{Name, is_among, has_twice}
use Rattle.psg_terms.proofs.DeclareLaws.{is_among-append, bytes_eq-sym, bytes_eq-same}
use Rattle.psg_deflines.specs.declared.lines.Line.{Line}
use Rattle.psg_deflines.specs.declared.lines.Line.TheVariants as lines
use Rattle.psg_defcheck.specs.Scopes.{kind_names, phylum_names, list_names}

among-middle : (xs ys : List Name) (y n : Name) → is_among (xs ++ ys) n ≡ false → bytes_eq y n ≡ false
    → is_among (xs ++ y ∷ ys) n ≡ false
among-middle xs ys y n h k =
    let parts = or_parts (is_among xs n) (is_among ys n) (sym (is_among-append xs ys n) ∙ h) in
    let behind = or_from (bytes_eq y n) (is_among ys n) k parts.1 in
    is_among-append xs (y ∷ ys) n ∙ or_from (is_among xs n) (bytes_eq y n || is_among ys n) parts.0 behind

once-middle : (xs ys : List Name) (y : Name) → has_twice (xs ++ ys) ≡ false → is_among (xs ++ ys) y ≡ false
    → has_twice (xs ++ y ∷ ys) ≡ false
once-middle [] ys y h k = or_from (is_among ys y) (has_twice ys) k h
once-middle (x ∷ xs) ys y h k =
    let once = or_parts (is_among (xs ++ ys) x) (has_twice (xs ++ ys)) h in
    let apart = or_parts (bytes_eq x y) (is_among (xs ++ ys) y) k in
    let here = among-middle xs ys y x once.0 (bytes_eq-sym x y apart.0) in
    or_from (is_among (xs ++ y ∷ ys) x) (has_twice (xs ++ y ∷ ys)) here (once-middle xs ys y once.1 apart.1)

not-among : (file : List Line) (n : Name) → is_among (kind_names file) n ≡ false
    → is_among (phylum_names file ++ list_names file) n ≡ false
not-among [] n h = refl
not-among (lines.Phylum name sort bracketed ∷ rest) n h =
    let parts = or_parts (bytes_eq name n) (is_among (kind_names rest) n) h in
    or_from (bytes_eq name n) (is_among (phylum_names rest ++ list_names rest) n) parts.0 (not-among rest n parts.1)
not-among (lines.List name sort element separator on_lines unfinished ∷ rest) n h =
    let parts = or_parts (bytes_eq name n) (is_among (kind_names rest) n) h in
    among-middle (phylum_names rest) (list_names rest) name n (not-among rest n parts.1) parts.0
not-among (line ∷ rest) n h = not-among rest n h

pub kinds-once : (file : List Line) → has_twice (kind_names file) ≡ false
    → has_twice (phylum_names file ++ list_names file) ≡ false
kinds-once [] h = refl
kinds-once (lines.Phylum name sort bracketed ∷ rest) h =
    let parts = or_parts (is_among (kind_names rest) name) (has_twice (kind_names rest)) h in
    let names = phylum_names rest ++ list_names rest in
    or_from (is_among names name) (has_twice names) (not-among rest name parts.0) (kinds-once rest parts.1)
kinds-once (lines.List name sort element separator on_lines unfinished ∷ rest) h =
    let parts = or_parts (is_among (kind_names rest) name) (has_twice (kind_names rest)) h in
    once-middle (phylum_names rest) (list_names rest) name (kinds-once rest parts.1) (not-among rest name parts.0)
kinds-once (line ∷ rest) h = kinds-once rest h

-- two lists without a name twice, and no name in both
once-parts : (xs ys : List Name) → has_twice (xs ++ ys) ≡ false → (has_twice xs ≡ false) × (has_twice ys ≡ false)
    × ((n : Name) → is_among xs n ≡ true → is_among ys n ≡ false)
once-parts [] ys h = (refl, h, λ n e. absurd (false≢true e))
once-parts (x ∷ xs) ys h =
    let both = or_parts (is_among (xs ++ ys) x) (has_twice (xs ++ ys)) h in
    let own = or_parts (is_among xs x) (is_among ys x) (sym (is_among-append xs ys x) ∙ both.0) in
    let rest = once-parts xs ys both.1 in (
      or_from (is_among xs x) (has_twice xs) own.0 rest.0,
      rest.1,
      λ n e. elim (cases_Bool (bytes_eq x n)) [
        | inl same ↦ ap (is_among ys) (sym (bytes_eq-same x n same)) ∙ own.1
        | inr other ↦ rest.2 n (ap (λ c. c || is_among xs n) (sym other) ∙ e)
      ],
    )

module _ (file : List Line) (once : has_twice (kind_names file) ≡ false) where
  pub phyla-once : has_twice (phylum_names file) ≡ false
  phyla-once = (once-parts (phylum_names file) (list_names file) (kinds-once file once)).0

  pub lists-once : has_twice (list_names file) ≡ false
  lists-once = (once-parts (phylum_names file) (list_names file) (kinds-once file once)).1

  pub apart : (n : Name) → is_among (phylum_names file) n ≡ true → is_among (list_names file) n ≡ true → ⊥
  apart n a b = false≢true (sym ((once-parts (phylum_names file) (list_names file) (kinds-once file once)).2 n a) ∙ b)
