-- The tests of the meaning of lines, and that no name of them was declared above it.
use Rattle.std.proofs.Common.{◌≡◌, false, ℕ, zero, suc, Some, None, List, [], ◌∷◌, ◌++◌, slice_get, refl, sym, ◌∙◌, subst, ap, map, append_assoc}
use Rattle.std.specs.Prelude.{bytes_eq}
use Rattle.std.specs.List.{AllByRecursion, flat_map}
use Rattle.std.proofs.lemmas.Bool.{or_parts, or_from}
use Rattle.psg_terms.specs.Names.{Name, is_among, has_twice}
use Rattle.psg_terms.proofs.DeclareLaws.{is_among-append, bytes_eq-sym, has_twice-front}
use Rattle.psg_grammar.specs.declared.types.Definition.{Definition}
use Rattle.psg_deflines.specs.declared.lines.Line.{Line}
use Rattle.psg_deflines.specs.declared.lines.Line.TheVariants as lines
use Rattle.psg_defcheck.specs.Scopes.{sort_names, constructor_names, kind_names, operator_names, names_of, space_names}
use Rattle.psg_defcheck.specs.Meanings.{IsNew, IsKnown, IsCounted, IsSorted, HasEntity, HasGround, HasChoice}
use Rattle.psg_defcheck.proofs.AboveLaws.{sort_names-append, constructor_names-append, operator_names-append, space_names-append}
use Rattle.psg_defnumber.specs.Numbers.{IsNumbered}
use Rattle.psg_defnumber.proofs.OnceLaws.{kind_names-append}
use Rattle.psg_defcheck.specs.Faults.{ArePassed}
use Rattle.psg_defread.proofs.Blocks.{joined}

-- a name that stands somewhere is not one that stands nowhere
pub not-there : (xs : List Name) (i : ℕ) (n x : Name) → is_among xs x ≡ false → slice_get xs i ≡ Some n
    → bytes_eq n x ≡ false
not-there [] i n x h e = absurd (let f : None ≡ Some n = e in cc)
not-there (y ∷ xs) zero n x h e =
    let same : y ≡ n = let f : Some y ≡ Some n = e in cc in
    subst (λ m. bytes_eq m x ≡ false) same (or_parts (bytes_eq y x) (is_among xs x) h).0
not-there (y ∷ xs) (suc i) n x h e = not-there xs i n x (or_parts (bytes_eq y x) (is_among xs x) h).1 e

pub once-at : (x : Name) (xs : List Name) (i : ℕ) (n : Name) → has_twice (x ∷ xs) ≡ false → slice_get xs i ≡ Some n
    → bytes_eq x n ≡ false
once-at x xs i n h e = bytes_eq-sym n x (not-there xs i n x (or_parts (is_among xs x) (has_twice xs) h).0 e)

pub once-first : (x : Name) (xs : List Name) → has_twice (x ∷ xs) ≡ false → is_among xs x ≡ false
once-first x xs h = (or_parts (is_among xs x) (has_twice xs) h).0

pub once-rest : (x : Name) (xs : List Name) → has_twice (x ∷ xs) ≡ false → has_twice xs ≡ false
once-rest x xs h = (or_parts (is_among xs x) (has_twice xs) h).1

-- a name behind is none of those in front
pub once-before : (xs ys : List Name) (i : ℕ) (n : Name) → has_twice (xs ++ ys) ≡ false → slice_get ys i ≡ Some n
    → is_among xs n ≡ false
once-before [] ys i n h e = refl
once-before (x ∷ xs) ys i n h e =
    let both = or_parts (is_among (xs ++ ys) x) (has_twice (xs ++ ys)) h in
    let parts = or_parts (is_among xs x) (is_among ys x) (sym (is_among-append xs ys x) ∙ both.0) in
    or_from (bytes_eq x n) (is_among xs n) (bytes_eq-sym n x (not-there ys i n x parts.1 e))
    (once-before xs ys i n both.1 e)

pub once-back : (xs ys : List Name) → has_twice (xs ++ ys) ≡ false → has_twice ys ≡ false
once-back [] ys h = h
once-back (x ∷ xs) ys h = once-back xs ys (or_parts (is_among (xs ++ ys) x) (has_twice (xs ++ ys)) h).1

pub once-apart : (xs ys : List Name) (n : Name) → has_twice (xs ++ n ∷ ys) ≡ false → is_among xs n ≡ false
once-apart xs ys n h = once-before xs (n ∷ ys) zero n h refl

once-without : (xs ys : List Name) (y : Name) → has_twice (xs ++ y ∷ ys) ≡ false → has_twice (xs ++ ys) ≡ false
once-without [] ys y h = once-rest y ys h
once-without (x ∷ xs) ys y h =
    let both = or_parts (is_among (xs ++ y ∷ ys) x) (has_twice (xs ++ y ∷ ys)) h in
    let parts = or_parts (is_among xs x) (is_among (y ∷ ys) x) (sym (is_among-append xs (y ∷ ys) x) ∙ both.0) in
    let back = or_parts (bytes_eq y x) (is_among ys x) parts.1 in
    or_from (is_among (xs ++ ys) x) (has_twice (xs ++ ys))
    (is_among-append xs ys x ∙ or_from (is_among xs x) (is_among ys x) parts.0 back.1) (once-without xs ys y both.1)

-- so are several
pub each-apart : (xs ys zs : List Name) → has_twice (xs ++ (ys ++ zs)) ≡ false
    → AllByRecursion (λ n. is_among xs n ≡ false) ys
each-apart xs [] zs h = tt
each-apart xs (y ∷ ys) zs h =
    (once-apart xs (ys ++ zs) y h, each-apart xs ys zs (once-without xs (ys ++ zs) y h))

-- ---- none is declared above

module _ {version : ℕ} (file : List Line) (def : Definition) (numbered : IsNumbered version file def) (above rest : List Line) where
  new-kind : (line : Line) (name : Name) → kind_names (line ∷ rest) ≡ name ∷ kind_names rest
      → file ≡ above ++ line ∷ rest → is_among (kind_names above) name ≡ false
  new-kind line name own e =
      let names = ap kind_names e ∙ kind_names-append above (line ∷ rest)
      ∙ ap (λ l. kind_names above ++ l) own in
      once-apart (kind_names above) (kind_names rest) name (sym (ap has_twice names) ∙ numbered.kinds_once)

  pub line-new : (line : Line) → file ≡ above ++ line ∷ rest → IsNew above line
  line-new (lines.Sort d) e =
      let line = lines.Sort d in
      let names = ap sort_names e ∙ sort_names-append above (line ∷ rest) in
      let made = ap constructor_names e ∙ constructor_names-append above (line ∷ rest) in
      let own = names_of d.constructors in
      let once : has_twice (constructor_names above ++ (own ++ constructor_names rest)) ≡ false =
      sym (ap has_twice made) ∙ numbered.constructors_once in
      let behind = once-back (constructor_names above) (own ++ constructor_names rest) once in (
        once-apart (sort_names above) (sort_names rest) d.name (sym (ap has_twice names) ∙ numbered.sorts_once),
        has_twice-front own (constructor_names rest) behind,
        each-apart (constructor_names above) own (constructor_names rest) once,
      )
  line-new (lines.Space name sort) e =
      let line = lines.Space name sort in
      let names = ap space_names e ∙ space_names-append above (line ∷ rest) in
      once-apart (space_names above) (space_names rest) name (sym (ap has_twice names) ∙ numbered.spaces_once)
  line-new (lines.Phylum name sort bracketed) e = new-kind (lines.Phylum name sort bracketed) name refl e
  line-new (lines.List name sort elements separator on_lines unfinished) e =
      new-kind (lines.List name sort elements separator on_lines unfinished) name refl e
  line-new (lines.Operator name phylum scope level made) e =
      let line = lines.Operator name phylum scope level made in
      let names = ap operator_names e ∙ operator_names-append above (line ∷ rest) in
      once-apart (operator_names above) (operator_names rest) name
      (sym (ap has_twice names) ∙ numbered.operators_once)
  line-new line e = tt

-- ---- the other tests

pub record PassesRest (file above : List Line) (line : Line) : Type 0 where
  pub known : IsKnown file line
  pub counted : IsCounted file above line
  pub sorted : IsSorted file above line
  pub entity : HasEntity file line
  pub ground : HasGround file line
  pub choice : HasChoice line

module _ (file : List Line) where
  -- each of the lines, with those above it
  abbrev pub AreRight : List Line → List Line → Type 0
  AreRight above [] = Unit {0}
  AreRight above (line ∷ rest) = PassesRest file above line × AreRight (above ++ line ∷ []) rest

  -- whatever stands above
  abbrev pub IsRight : Line → Type 0
  IsRight line = (above : List Line) → PassesRest file above line

  abbrev pub IsRightBlock : List Line → Type 0
  IsRightBlock xs = (above : List Line) → AreRight above xs

  pub right-both : (above xs ys : List Line) → AreRight above xs → IsRightBlock ys → AreRight above (xs ++ ys)
  right-both above [] ys h k = k above
  right-both above (line ∷ xs) ys h k = (h.0, right-both (above ++ line ∷ []) xs ys h.1 k)

  pub right-blocks : (bs : List (List Line)) → AllByRecursion IsRightBlock bs → IsRightBlock (joined bs)
  right-blocks [] h above = tt
  right-blocks (b ∷ []) h above = h.0 above
  right-blocks (b ∷ c ∷ rest) h above = right-both above b (joined (c ∷ rest)) (h.0 above) (right-blocks (c ∷ rest) h.1)

  pub right-map : {X : Type 0} (f : X → Line) (xs : List X) → AllByRecursion (λ x. IsRight (f x)) xs
      → (above : List Line) → AreRight above (map f xs)
  right-map f [] h above = tt
  right-map f (x ∷ xs) h above = (h.0 above, right-map f xs h.1 (above ++ f x ∷ []))

  pub right-flat : {X : Type 0} (f : X → List Line) (xs : List X) → AllByRecursion (λ x. IsRightBlock (f x)) xs
      → (above : List Line) → AreRight above (flat_map f xs)
  right-flat f [] h above = tt
  right-flat f (x ∷ xs) h above = right-both above (f x) (flat_map f xs) (h.0 above) (right-flat f xs h.1)

  pub all-passed : {version : ℕ} (def : Definition) → IsNumbered version file def → (above rest : List Line) → file ≡ above ++ rest
      → AreRight above rest → ArePassed file above rest
  all-passed def numbered above [] e h = tt
  all-passed def numbered above (line ∷ rest) e h =
      let is_new = line-new file def numbered above rest line e in
      let p = h.0 in
      let split = e ∙ sym (append_assoc above (line ∷ []) rest) in (
        (is_new, (p.known, (p.counted, (p.sorted, (p.entity, (p.ground, (p.choice, tt))))))),
        all-passed def numbered (above ++ line ∷ []) rest split h.1,
      )
