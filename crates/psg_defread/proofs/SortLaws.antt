-- Sorts and their constructors in order.
use Rattle.std.proofs.Common.{◌≡◌, ◌==◌, ℕ, ◌+◌, ◌<◌, ◌≤◌, true, false, cond, zero, suc, List, [], ◌∷◌, ◌++◌, map, take, drop, length, get_or, length-append, refl, ap, ap₂, sym, ◌∙◌, subst, append_assoc, append-nil, arith}
use Rattle.std.specs.List.{AllByRecursion}
use Rattle.std.proofs.lemmas.List.{take_all, drop_all}
use Rattle.psg_terms.specs.Names.{Name}
use Rattle.psg_terms.specs.Signature.{Symbol, constructors_from}
use Rattle.psg_terms.specs.Marks.{con_numbers}
use Rattle.psg_terms.specs.declared.sorts.ConId.{ConId}
use Rattle.psg_terms.specs.declared.declare.ConDecl.{ConDecl}
use Rattle.psg_grammar.specs.declared.types.Definition.{Definition}
use Rattle.psg_deflines.specs.declared.lines.Line.{Line}
use Rattle.psg_deflines.specs.declared.lines.Line.TheVariants as lines
use Rattle.psg_defread.specs.WrittenLines.{name_at, sort_name, constructor_name, constructors_written, sort_lines}
use Rattle.psg_defread.specs.ConstructorAt.{constructor_at}
use Rattle.psg_defread.proofs.NumberAll.{all-mapped}

-- ---- the constructors of a sort

constructors-inside : (n sort : ℕ) (rest : List Symbol)
    → AllByRecursion (λ c. c < n + length rest) (constructors_from n sort rest)
constructors-inside n sort [] = tt
constructors-inside n sort (s ∷ rest) =
    let wider : (c : ℕ) → c < (n + 1) + length rest → c < n + length (s ∷ rest) = λ c h. omega (arith, h) in
    let behind = all-mapped (λ c. c < (n + 1) + length rest) (λ c. c < n + length (s ∷ rest)) wider
    (constructors_from (n + 1) sort rest) (constructors-inside (n + 1) sort rest) in
    elim (s.sort == sort) as (λ b. AllByRecursion (λ c. c < n + length (s ∷ rest))
    (cond b (n ∷ constructors_from (n + 1) sort rest) (constructors_from (n + 1) sort rest))) [
      | true ↦ (omega arith, behind)
      | false ↦ behind
    ]

number-in : (P : ℕ → Type 0) (ids : List ConId) (i : ℕ) (d : ConId) → i < length ids
    → AllByRecursion P (con_numbers ids) → P (get_or ids i d).0
number-in P [] i d h all = absurd (omega (arith, h))
number-in P (z ∷ ids) zero d h all = all.0
number-in P (z ∷ ids) (suc i) d h all = number-in P ids i d (omega (arith, h)) all.1

pub constructor-inside : (symbols : List Symbol) (sort : ℕ) (ids : List ConId) (i : ℕ) (d : ConId)
    → con_numbers ids ≡ constructors_from 0 sort symbols → i < length ids → (get_or ids i d).0 < length symbols
constructor-inside symbols sort ids i d e h =
    let all = subst (AllByRecursion (λ c. c < 0 + length symbols)) (sym e) (constructors-inside 0 sort symbols) in
    let k = number-in (λ c. c < 0 + length symbols) ids i d h all in
    omega (arith, k)

module _ (def : Definition) where
  -- what is declared at a position behind a front
  name-behind : {X : Type 0} (f : X → Name) (front : List X) (x : X) (rest : List X)
      → name_at f (front ++ x ∷ rest) (length front) ≡ f x
  name-behind f [] x rest = refl
  name-behind f (y ∷ front) x rest = name-behind f front x rest

  constructor-behind : (front rest : List Symbol) (s : Symbol) → def.signature.symbols ≡ front ++ s ∷ rest
      → constructor_at def (length front) ≡ record { name = s.name; args = map (sort_name def) s.arguments }
  constructor-behind front rest s e =
      let name : constructor_name def (length front) ≡ s.name =
      ap (λ l. name_at (λ (z : Symbol). z.name) l (length front)) e
      ∙ name-behind (λ (z : Symbol). z.name) front s rest in
      let args : get_or (map (λ (z : Symbol). z.arguments) def.signature.symbols) (length front) [] ≡ s.arguments =
      ap (λ l. name_at (λ (z : Symbol). z.arguments) l (length front)) e
      ∙ name-behind (λ (z : Symbol). z.arguments) front s rest in
      ap₂ (λ n xs. record { name = n; args = map (sort_name def) xs }) name args

  constructors-from : (sort : ℕ) (front rest : List Symbol) → def.signature.symbols ≡ front ++ rest
      → map (constructor_at def) (constructors_from (length front) sort rest) ≡ constructors_written def sort rest
  constructors-from sort front [] e = refl
  constructors-from sort front (s ∷ rest) e =
      let size : length front + 1 ≡ length (front ++ s ∷ []) = omega (arith, length-append front (s ∷ [])) in
      let behind : map (constructor_at def) (constructors_from (length front + 1) sort rest) ≡ constructors_written
      def sort rest =
      ap (λ n. map (constructor_at def) (constructors_from n sort rest)) size
      ∙ constructors-from sort (front ++ s ∷ []) rest (e ∙ sym (append_assoc front (s ∷ []) rest)) in
      elim (s.sort == sort) as (λ b. map (constructor_at def)
      (cond b (length front ∷ constructors_from (length front + 1) sort rest)
      (constructors_from (length front + 1) sort rest))
      ≡ cond b (record { name = s.name; args = map (sort_name def) s.arguments } ∷ constructors_written def sort
      rest) (constructors_written def sort rest)) [
        | true ↦ ap₂ (λ x xs. x ∷ xs) (constructor-behind front rest s e) behind
        | false ↦ behind
      ]

  pub constructors-are : (sort : ℕ) (ids : List ConId) (i : ℕ) (now : List ConDecl)
      → con_numbers ids ≡ constructors_from 0 sort def.signature.symbols → length ids ≤ i
      → now ++ map (constructor_at def) (con_numbers (drop i ids)) ≡ map (constructor_at def) (con_numbers ids)
      → now ≡ constructors_written def sort def.signature.symbols
  constructors-are sort ids i now e l h =
      sym (ap (λ xs. now ++ map (constructor_at def) (con_numbers xs)) (drop_all i ids l) ∙ append-nil now) ∙ h
      ∙ ap (map (constructor_at def)) e
      ∙ constructors-from sort [] def.signature.symbols refl

  -- ---- sorts

  abbrev line_at : ℕ → Name → Line
  line_at n name = lines.Sort (record { name = name; constructors = constructors_written def n def.signature.symbols })

  sorts-from : (n i : ℕ) (xs : List Name) → i < length xs
      → sort_lines def n (take (suc i) xs) ≡ sort_lines def n (take i xs) ++ line_at (n + i)
      (name_at (λ x. x) xs i) ∷ []
  sorts-from n i [] h = absurd (omega (arith, h))
  sorts-from n zero (x ∷ xs) h = let e : n ≡ n + 0 = omega arith in ap (λ m. line_at m x ∷ []) e
  sorts-from n (suc i) (x ∷ xs) h =
      let e : (n + 1) + i ≡ n + suc i = omega arith in
      ap (λ l. line_at n x ∷ l) (
      sorts-from (n + 1) i xs (omega (arith, h))
      ∙ ap (λ m. sort_lines def (n + 1) (take i xs) ++ line_at m (name_at (λ y. y) xs i) ∷ []) e
      )

  pub sorts-next : (i : ℕ) (line : Line) (start before after : List Line) → i < length def.signature.sorts
      → line ≡ line_at i (sort_name def i) → after ≡ before ++ line ∷ []
      → before ≡ start ++ sort_lines def 0 (take i def.signature.sorts)
      → after ≡ start ++ sort_lines def 0 (take (i + 1) def.signature.sorts)
  sorts-next i line start before after h s a b =
      let xs = def.signature.sorts in
      let e : i + 1 ≡ suc i = omega arith in
      let z : 0 + i ≡ i = omega arith in
      let more : sort_lines def 0 (take (i + 1) xs) ≡ sort_lines def 0 (take i xs) ++ line_at i (sort_name def i) ∷ [] =
      ap (λ k. sort_lines def 0 (take k xs)) e ∙ sorts-from 0 i xs h
      ∙ ap (λ m. sort_lines def 0 (take i xs) ++ line_at m (sort_name def i) ∷ []) z in
      a ∙ ap₂ (λ l z. l ++ z ∷ []) b s
      ∙ append_assoc start (sort_lines def 0 (take i xs)) (line_at i (sort_name def i) ∷ [])
      ∙ ap (λ l. start ++ l) (sym more)

  pub sorts-all : (i : ℕ) (start now : List Line) → length def.signature.sorts ≤ i
      → now ≡ start ++ sort_lines def 0 (take i def.signature.sorts)
      → now ≡ start ++ sort_lines def 0 def.signature.sorts
  sorts-all i start now l b = b ∙ ap (λ xs. start ++ sort_lines def 0 xs) (take_all i def.signature.sorts l)
