-- Laws of names that lines declare and of their positions.
use Rattle.std.proofs.Common.{◌≡◌, ℕ, ◌+◌, ◌<◌, ◌≤◌, ◌^◌, ◌||◌, Bool, true, false, cond, List, [], ◌∷◌, ◌++◌, length, slice_get, refl, ap, sym, ◌∙◌, subst, inl, inr, Option, Some, None, is_some, arith}
use Rattle.std.proofs.lemmas.Bool.{true≢false, false≢true, or_left, or_right, cases_Bool}
use Rattle.std.proofs.lemmas.Option.{slice_get_within}
use Rattle.std.proofs.Common.{Result, Ok, Err}
use Rattle.std.proofs.lemmas.Result.{err_from_is_err_and}
use Rattle.std.specs.Prelude.{IfSome, IfErr, IsErrAnd}
use Rattle.std.specs.Str.{bytes_eq}
use Rattle.psg_terms.specs.Names.{Name, is_among}
use Rattle.psg_terms.specs.declared.declare.ConDecl.{ConDecl}
use Rattle.psg_terms.proofs.DeclareLaws.{is_among-append}
use Rattle.psg_deflines.specs.Entries.{Entry, written}
use Rattle.psg_deflines.specs.declared.lines.Line.{Line}
use Rattle.psg_deflines.specs.declared.lines.Line.TheVariants as lines
use Rattle.psg_defcheck.specs.Scopes.{sort_names, names_of, constructor_names, kind_names, phylum_names, list_names, operator_names, space_names, Constructor, constructor_among, constructor_declared, KindDecl, a_phylum, a_list, kind_declared, is_phylum, is_list, operator_declared, space_declared}
use Rattle.psg_deflines.specs.declared.fault.ReadFault.{ReadFault}
use Rattle.psg_deflines.specs.declared.fault.ReadFault.TheVariants.{Memory}
use Rattle.psg_defcheck.specs.Checks.{IsCheckFault}
use Rattle.psg_defcheck.specs.NameSets.{has, listed}
use Rattle.psg_defcheck.specs.declared.names.Names.{Names}
use Rattle.psg_defcheck.proofs.AboveLaws.{kinds-named}

-- what is declared is among the names
among-named : (sort : Name) (cs : List ConDecl) (n : Name) (more : Option Constructor) → is_some (constructor_among sort cs n more) ≡ (is_among (names_of cs) n || is_some more)
among-named sort [] n more = refl
among-named sort (c ∷ cs) n more =
    elim (bytes_eq c.name n) as (λ b. is_some (cond b (Some (sort, c)) (constructor_among sort cs n more)) ≡ ((b || is_among (names_of cs) n) || is_some more)) [ true ↦ refl | false ↦ among-named sort cs n more ]

pub constructor-named : (ls : List Line) (n : Name) → is_some (constructor_declared ls n) ≡ is_among (constructor_names ls) n
constructor-named [] n = refl
constructor-named (lines.Sort d ∷ rest) n =
    among-named d.name d.constructors n (constructor_declared rest n) ∙ ap (λ b. is_among (names_of d.constructors) n || b) (constructor-named rest n) ∙ sym (is_among-append (names_of d.constructors) (constructor_names rest) n)
constructor-named (_ ∷ rest) n = constructor-named rest n

pub operator-named : (ls : List Line) (n : Name) → is_some (operator_declared ls n) ≡ is_among (operator_names ls) n
operator-named [] n = refl
operator-named (lines.Operator m p s l made ∷ rest) n =
    elim (bytes_eq m n) as (λ b. is_some (cond b (Some (record { phylum = p; made = made })) (operator_declared rest n)) ≡ (b || is_among (operator_names rest) n)) [ true ↦ refl | false ↦ operator-named rest n ]
operator-named (_ ∷ rest) n = operator-named rest n

pub space-named : (ls : List Line) (n : Name) → is_some (space_declared ls n) ≡ is_among (space_names ls) n
space-named [] n = refl
space-named (lines.Space m s ∷ rest) n = elim (bytes_eq m n) as (λ b. is_some (cond b (Some s) (space_declared rest n)) ≡ (b || is_among (space_names rest) n)) [ true ↦ refl | false ↦ space-named rest n ]
space-named (_ ∷ rest) n = space-named rest n

pub kind-named : (ls : List Line) (n : Name) → is_some (kind_declared ls n) ≡ is_among (kind_names ls) n
kind-named [] n = refl
kind-named (lines.Phylum m s b ∷ rest) n = elim (bytes_eq m n) as (λ t. is_some (cond t (Some (a_phylum s)) (kind_declared rest n)) ≡ (t || is_among (kind_names rest) n)) [ true ↦ refl | false ↦ kind-named rest n ]
kind-named (lines.List m s e w b f ∷ rest) n = elim (bytes_eq m n) as (λ t. is_some (cond t (Some (a_list s e)) (kind_declared rest n)) ≡ (t || is_among (kind_names rest) n)) [ true ↦ refl | false ↦ kind-named rest n ]
kind-named (_ ∷ rest) n = kind-named rest n

abbrev IsTold : List Line → Name → KindDecl → Type 0
IsTold ls n (a_phylum s) = is_among (phylum_names ls) n ≡ true
IsTold ls n (a_list s e) = is_among (list_names ls) n ≡ true

kind-told : (ls : List Line) (n : Name) (d : KindDecl) → kind_declared ls n ≡ Some d → IsTold ls n d
kind-told [] n d e = absurd (cc)
kind-told (lines.Phylum m s b ∷ rest) n d e = elim (cases_Bool (bytes_eq m n)) [
  | inl t ↦ subst (IsTold (lines.Phylum m s b ∷ rest) n) (same (a_phylum s) d (sym (ap (λ c. cond c (Some (a_phylum s)) (kind_declared rest n)) t) ∙ e)) (or_left (bytes_eq m n) (is_among (phylum_names rest) n) t)
  | inr f ↦ later d (kind-told rest n d (sym (ap (λ c. cond c (Some (a_phylum s)) (kind_declared rest n)) f) ∙ e))
]
  where
    same : (x y : KindDecl) → ◌≡◌ {A = Option KindDecl} (Some x) (Some y) → x ≡ y
    same x y p = cc

    later : (d : KindDecl) → IsTold rest n d → IsTold (lines.Phylum m s b ∷ rest) n d
    later (a_phylum x) h = or_right (bytes_eq m n) (is_among (phylum_names rest) n) h
    later (a_list x y) h = h
kind-told (lines.List m s x w b f ∷ rest) n d e = elim (cases_Bool (bytes_eq m n)) [
  | inl t ↦ subst (IsTold (lines.List m s x w b f ∷ rest) n) (same (a_list s x) d (sym (ap (λ c. cond c (Some (a_list s x)) (kind_declared rest n)) t) ∙ e)) (or_left (bytes_eq m n) (is_among (list_names rest) n) t)
  | inr g ↦ later d (kind-told rest n d (sym (ap (λ c. cond c (Some (a_list s x)) (kind_declared rest n)) g) ∙ e))
]
  where
    same : (u v : KindDecl) → ◌≡◌ {A = Option KindDecl} (Some u) (Some v) → u ≡ v
    same u v p = cc

    later : (d : KindDecl) → IsTold rest n d → IsTold (lines.List m s x w b f ∷ rest) n d
    later (a_phylum u) h = h
    later (a_list u v) h = or_right (bytes_eq m n) (is_among (list_names rest) n) h
kind-told (_ ∷ rest) n d e = kind-told rest n d e

pub phylum-named : (ls : List Line) (n : Name) → is_phylum ls n ≡ true → is_among (phylum_names ls) n ≡ true
phylum-named ls n h = go (kind_declared ls n) refl
  where
    go : (o : Option KindDecl) → kind_declared ls n ≡ o → is_among (phylum_names ls) n ≡ true
    go (Some (a_phylum s)) e = kind-told ls n (a_phylum s) e
    go (Some (a_list s x)) e = absurd (false≢true (rw e at h))
    go None e = absurd (false≢true (rw e at h))

pub list-named : (ls : List Line) (n : Name) → is_list ls n ≡ true → is_among (list_names ls) n ≡ true
list-named ls n h = go (kind_declared ls n) refl
  where
    go : (o : Option KindDecl) → kind_declared ls n ≡ o → is_among (list_names ls) n ≡ true
    go (Some (a_phylum s)) e = absurd (false≢true (rw e at h))
    go (Some (a_list s x)) e = kind-told ls n (a_list s x) e
    go None e = absurd (false≢true (rw e at h))

-- a kind that is no phylum is a list
pub other-kind : (ls : List Line) (n : Name) → is_some (kind_declared ls n) ≡ true → is_among (phylum_names ls) n ≡ false → is_among (list_names ls) n ≡ true
other-kind ls n h f = sym (ap (λ b. b || is_among (list_names ls) n) f) ∙ sym (kinds-named ls n) ∙ sym (kind-named ls n) ∙ h

-- there are no more names than entries
written-few : (es : List Entry) → length (written es) ≤ length es
written-few [] = omega arith
written-few (None ∷ es) = omega (arith, written-few es)
written-few (Some l ∷ es) = omega (arith, written-few es)

sort_names-few : (ls : List Line) → length (sort_names ls) ≤ length ls
sort_names-few [] = omega arith
sort_names-few (lines.Sort d ∷ rest) = omega (arith, sort_names-few rest)
sort_names-few (_ ∷ rest) = omega (arith, sort_names-few rest)

phylum_names-few : (ls : List Line) → length (phylum_names ls) ≤ length ls
phylum_names-few [] = omega arith
phylum_names-few (lines.Phylum n s b ∷ rest) = omega (arith, phylum_names-few rest)
phylum_names-few (_ ∷ rest) = omega (arith, phylum_names-few rest)

list_names-few : (ls : List Line) → length (list_names ls) ≤ length ls
list_names-few [] = omega arith
list_names-few (lines.List n s e w b f ∷ rest) = omega (arith, list_names-few rest)
list_names-few (_ ∷ rest) = omega (arith, list_names-few rest)

operator_names-few : (ls : List Line) → length (operator_names ls) ≤ length ls
operator_names-few [] = omega arith
operator_names-few (lines.Operator n p s l m ∷ rest) = omega (arith, operator_names-few rest)
operator_names-few (_ ∷ rest) = omega (arith, operator_names-few rest)

space_names-few : (ls : List Line) → length (space_names ls) ≤ length ls
space_names-few [] = omega arith
space_names-few (lines.Space n s ∷ rest) = omega (arith, space_names-few rest)
space_names-few (_ ∷ rest) = omega (arith, space_names-few rest)

-- names that are those of the lines, as they are seen from outside
module _ (s : Names) (names seen : List Name) (e : listed s ≡ names) (v : names ≡ seen) where
  pub is-there : (n : Name) → is_among seen n ≡ true → has s n ≡ true
  is-there n h = ap (λ l. is_among l n) (e ∙ v) ∙ h

  pub is-placed : (n : Name) (p : ℕ) → slice_get (listed s) p ≡ Some n → slice_get seen p ≡ Some n
  is-placed n p h = subst (λ l. slice_get l p ≡ Some n) (e ∙ v) h

pub few-sort_names : (s : Names) (entries : List Entry) → listed s ≡ sort_names (written entries) → length entries + 2 < 2 ^ 32 → length (listed s) < 2 ^ 32
few-sort_names s entries e few = omega (arith, ap length e, sort_names-few (written entries), written-few entries)

pub few-phylum_names : (s : Names) (entries : List Entry) → listed s ≡ phylum_names (written entries) → length entries + 2 < 2 ^ 32 → length (listed s) < 2 ^ 32
few-phylum_names s entries e few = omega (arith, ap length e, phylum_names-few (written entries), written-few entries)

pub few-list_names : (s : Names) (entries : List Entry) → listed s ≡ list_names (written entries) → length entries + 2 < 2 ^ 32 → length (listed s) < 2 ^ 32
few-list_names s entries e few = omega (arith, ap length e, list_names-few (written entries), written-few entries)

pub few-operator_names : (s : Names) (entries : List Entry) → listed s ≡ operator_names (written entries) → length entries + 2 < 2 ^ 32 → length (listed s) < 2 ^ 32
few-operator_names s entries e few = omega (arith, ap length e, operator_names-few (written entries), written-few entries)

pub few-space_names : (s : Names) (entries : List Entry) → listed s ≡ space_names (written entries) → length entries + 2 < 2 ^ 32 → length (listed s) < 2 ^ 32
few-space_names s entries e few = omega (arith, ap length e, space_names-few (written entries), written-few entries)

-- the number of a name
pub number-fits : (s : Names) (n : Name) (o : Option ℕ) (p : ℕ) → IfSome o (λ q. slice_get (listed s) q ≡ Some n) → o ≡ Some p → length (listed s) < 2 ^ 32 → p < 2 ^ 32
number-fits s n o p h e few = let lt = slice_get_within (listed s) p n (subst (λ r. IfSome r (λ q. slice_get (listed s) q ≡ Some n)) e h) in omega arith

pub number-none : (s : Names) (n : Name) (o : Option ℕ) → is_some o ≡ has s n → o ≡ None → has s n ≡ true → ⊥
number-none s n o there e h = false≢true (sym (ap is_some e) ∙ there ∙ h)

-- memory that ran out, handed on
pub memory-passed : {T : Type 0} (entries : List Entry) (r : Result T ReadFault) → IsErrAnd r (λ e. e ≡ Memory) → IfErr r (IsCheckFault entries)
memory-passed entries r h = let q = err_from_is_err_and r h in rw q.1 (subst (IsCheckFault entries) (sym q.2) tt)
