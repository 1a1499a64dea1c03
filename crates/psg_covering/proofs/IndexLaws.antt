-- Hole rows found by how their terms begin.
use Rattle.std.proofs.Common.{◌≡◌, ◌⊎◌, inl, inr, ℕ, zero, suc, ◌+◌, ◌<◌, ◌≤◌, ◌==◌, Bool, true, false, cond, Some, None, List, [], ◌∷◌, ◌++◌, map, length, take, get_or, slice_get, append_assoc, append-nil, refl, ap, ap₂, sym, ◌∙◌, subst, arith}
use Rattle.std.specs.Prelude.{min, Vec}
use Rattle.std.specs.HashMap.{HashMap}
use Rattle.std.specs.Map.{lookup}
use Rattle.std.specs.declared.hash.FoldHasher.{FoldHasher}
use Rattle.std.specs.declared.hash.BuildHasherDefault.{BuildHasherDefault}
use Rattle.std.proofs.lemmas.Bool.{cases_lt, cases_eq}
use Rattle.std.proofs.Math.Nat.{min-le_left}
use Rattle.std.proofs.lemmas.Option.{slice_get_within}
use Rattle.psg_terms.proofs.InstanceLaws.{substitute-variable}
use Rattle.psg_terms.proofs.Applied.{applied-substitute}
use Rattle.psg_terms.proofs.Lists.{take_item, in_left, slice_get_once, eqb-refl}
use Rattle.psg_terms.specs.Terms.{Term, variable, symbol, apply, applied}
use Rattle.psg_terms.specs.Instances.{Substitution, substitute, IsInstance}
use Rattle.psg_terms.specs.Relations.{IsIn, first, later}
use Rattle.psg_relation.specs.Heads.{head_of, items_of, places_at}
use Rattle.psg_relation.proofs.Members.{in-last, in-split, in-next, not_cons}
use Rattle.psg_grammar.specs.declared.types.Kind.{Kind}
use Rattle.psg_grammar.specs.declared.types.HoleRow.{HoleRow}
use Rattle.psg_grammar.specs.declared.types.Definition.{Definition}
use Rattle.psg_covering.specs.Choices.{IsRowOf}
use Rattle.psg_covering.specs.Fronts.{AreRowsOf, IsNone, IsNoted}
use Rattle.psg_covering.specs.Index.{AreIndexed, AreMet, Begins, Collects, heads_in, IsFound, IsPut, key_of, kind_key, listed, Meets, next_key, Puts}
use Rattle.psg_covering.proofs.CoverLaws.{term_of_one}
use Rattle.psg_covering.proofs.Firsts.{take_all}

-- ---- how a term begins

abbrev heads_all : List Term → List ℕ
heads_all [] = []
heads_all (a ∷ args) = listed (head_of a) ++ heads_all args

heads-applied : (t : Term) (args : List Term) → heads_in (applied t args) ≡ heads_in t ++ heads_all args
heads-applied t [] = sym (append-nil (heads_in t))
heads-applied t (a ∷ args) = heads-applied (apply t a) args ∙ append_assoc (heads_in t) (listed (head_of a)) (heads_all args)

-- a substitution keeps the constructor at the head
head-substitute : (f : Substitution) (t : Term) (c : ℕ) → head_of t ≡ Some c → head_of (substitute f t) ≡ Some c
head-substitute f (variable s n) c e = absurd (cc)
head-substitute f (symbol d) c e = e
head-substitute f (apply g a) c e = head-substitute f g c e

head-applied : (t : Term) (row : List Term) → head_of (applied t row) ≡ head_of t
head-applied t [] = refl
head-applied t (a ∷ row) = head-applied (apply t a) row

pub head-con : (t : Term) (c : ℕ) (row : List Term) → t ≡ applied (symbol c) row → Some c ≡ head_of t
head-con t c row e = sym (ap head_of e ∙ head-applied (symbol c) row)

pub head-variable : (t : Term) (s n : ℕ) → t ≡ variable s n → None ≡ head_of t
head-variable t s n e = sym (ap head_of e)

-- the constructors of the terms, each of which has one
abbrev pub AreHeads : List Term → List ℕ → Type 0
AreHeads [] [] = Unit {0}
AreHeads (a ∷ args) (x ∷ xs) = (head_of a ≡ Some x) × AreHeads args xs
AreHeads _ _ = ⊥

heads_push : (args : List Term) (xs : List ℕ) (a : Term) (x : ℕ) → AreHeads args xs → head_of a ≡ Some x → AreHeads (args ++ a ∷ []) (xs ++ x ∷ [])
heads_push [] [] a x h e = (e, tt)
heads_push [] (y ∷ xs) a x h e = absurd h
heads_push (b ∷ args) [] a x h e = absurd h
heads_push (b ∷ args) (y ∷ xs) a x h e = (h.0, heads_push args xs a x h.1 e)

heads_front : (f : Substitution) (args : List Term) (i : ℕ) (xs : List ℕ) → AreHeads (take i args) xs → (rest : List ℕ) × (heads_all (map (substitute f) args) ≡ xs ++ rest)
heads_front f args zero [] h = (heads_all (map (substitute f) args), refl)
heads_front f args zero (x ∷ xs) h = absurd h
heads_front f [] (suc i) [] h = ([], refl)
heads_front f [] (suc i) (x ∷ xs) h = absurd h
heads_front f (a ∷ args) (suc i) [] h = absurd h
heads_front f (a ∷ args) (suc i) (x ∷ xs) h =
    let (rest, e) = heads_front f args i xs h.1 in
    (rest, ap₂ (λ o l. listed o ++ l) (head-substitute f a x h.0) e)

-- a constructor, and behind it those of the first so many arguments
abbrev pub AreLed : ℕ → List Term → ℕ → List ℕ → Type 0
AreLed con args i front = (xs : List ℕ) × (front ≡ con ∷ xs) × AreHeads (take i args) xs

pub led_none : (con : ℕ) (args : List Term) (front : List ℕ) → front ≡ con ∷ [] → AreLed con args 0 front
led_none con args front e = ([], e, tt)

pub led_more : (con : ℕ) (args : List Term) (i many : ℕ) (a : Term) (x : ℕ) (old new : List ℕ) → many ≡ min (length args) 2 → i < many → a ≡ get_or args i a → Some x ≡ head_of a
    → new ≡ old ++ x ∷ [] → AreLed con args i old → AreLed con args (i + 1) new
led_more con args i many a x old new few within is e push (xs, d, h) = (
  xs ++ x ∷ [],
  push ∙ ap (λ l. l ++ x ∷ []) d,
  subst (λ l. AreHeads l (xs ++ x ∷ []))
      (sym (take_item args i a (let le = min-le_left (length args) 2 in omega (arith, few, within, le)) is)) (heads_push (take i args) xs a x h (sym e)),
)

pub led_begins : (con : ℕ) (args : List Term) (i : ℕ) (front : List ℕ) → AreLed con args i front → Begins (applied (symbol con) args) front
led_begins con args i front (xs, e, h) f =
    let (rest, d) = heads_front f args i xs h in (
      rest,
      ap heads_in (applied-substitute f (symbol con) args) ∙ heads-applied (symbol con) (map (substitute f) args) ∙ ap (λ l. con ∷ l) d ∙ ap (λ l. l ++ rest) (sym e),
    )

pub begins_none : (t : Term) (front : List ℕ) → front ≡ [] → Begins t front
begins_none t front e f = (heads_in (substitute f t), ap (λ l. l ++ heads_in (substitute f t)) (sym e))

-- ---- keys

key_push : (key : ℕ) (xs : List ℕ) (c : ℕ) → key_of key (xs ++ c ∷ []) ≡ next_key (key_of key xs) c
key_push key [] c = refl
key_push key (x ∷ xs) c = key_push (next_key key x) xs c

pub key_more : (base key next : ℕ) (front : List ℕ) (i c : ℕ) → i < length front → c ≡ get_or front i c → next ≡ next_key key c
    → key ≡ key_of base (take i front) → next ≡ key_of base (take (i + 1) front)
key_more base key next front i c lt is e d =
    e ∙ ap (λ k. next_key k c) d ∙ sym (key_push base (take i front) c) ∙ ap (key_of base) (sym (take_item front i c lt is))

pub key_whole : (base key : ℕ) (front : List ℕ) (i : ℕ) → i ≡ length front → key ≡ key_of base (take i front) → key ≡ key_of base front
key_whole base key front i e d = d ∙ ap (key_of base) (take_all front i e)

-- of two lists with which one list begins the shorter one is the front of the longer one
front_of_longer : (xs ys a b : List ℕ) → xs ++ a ≡ ys ++ b → length xs ≤ length ys → xs ≡ take (length xs) ys
front_of_longer [] ys a b e le = refl
front_of_longer (x ∷ xs) [] a b e le = absurd (omega (arith, le))
front_of_longer (x ∷ xs) (y ∷ ys) a b e le =
    let d : ◌≡◌ {A = List ℕ} (x ∷ (xs ++ a)) (y ∷ (ys ++ b)) = e in
    let h : x ≡ y = cc in
    let t : xs ++ a ≡ ys ++ b = cc in
    ap₂ (λ z l. z ∷ l) h (front_of_longer xs ys a b t (omega (arith, le)))

-- ---- one table

pub places_none : {Z : Type 0} (table : HashMap ℕ (Vec ℕ Z) (BuildHasherDefault FoldHasher)) → table.entries ≡ [] → (c : ℕ) → places_at table c ≡ []
places_none table e c = ap (λ es. items_of (lookup (λ (b : ℕ). c == b) es)) e

pub put_one : (key place : ℕ) (old new : ℕ → List ℕ) → ((k : ℕ) → new k ≡ cond (key == k) (old k ++ place ∷ []) (old k)) → Puts key place old new
put_one key place old new e = record {
  kept = λ k r i. subst (IsIn r) (sym (e k)) (wider k r (key == k) i);
  put = subst (IsIn place) (sym (e key ∙ ap (λ b. cond b (old key ++ place ∷ []) (old key)) (eqb-refl key))) (in-last place (old key));
  only = λ k r i. apart k r (key == k) (subst (IsIn r) (e k) i);
} where
  wider : (k r : ℕ) (b : Bool) → IsIn r (old k) → IsIn r (cond b (old k ++ place ∷ []) (old k))
  wider k r true i = in_left r (old k) (place ∷ []) i
  wider k r false i = i

  apart : (k r : ℕ) (b : Bool) → IsIn r (cond b (old k ++ place ∷ []) (old k)) → IsIn r (old k) ⊎ (r ≡ place)
  apart k r true i = in-split r place (old k) i
  apart k r false i = inl i

-- ---- one hole row

-- the place was put to those of the first so many keys of the front
pub record PutUpTo (base : ℕ) (front : List ℕ) (i place : ℕ) (old new : ℕ → List ℕ) : Type 0 where
  pub kept : (k r : ℕ) → IsIn r (old k) → IsIn r (new k)
  pub put : (n : ℕ) → n < i → IsIn place (new (key_of base (take n front)))
  pub only : (k r : ℕ) → IsIn r (new k) → IsIn r (old k) ⊎ (r ≡ place)

pub put_none : (base : ℕ) (front : List ℕ) (place : ℕ) (old : ℕ → List ℕ) → PutUpTo base front 0 place old old
put_none base front place old = record { kept = λ k r i. i; put = λ n lt. absurd (omega (arith, lt)); only = λ k r i. inl i }

pub put_more : (base key : ℕ) (front : List ℕ) (i place : ℕ) (old mid new : ℕ → List ℕ) → key ≡ key_of base (take i front) → Puts key place mid new
    → PutUpTo base front i place old mid → PutUpTo base front (i + 1) place old new
put_more base key front i place old mid new e p u = record {
  kept = λ k r j. p.kept k r (u.kept k r j);
  put = λ n lt. elim (cases_eq n i) [
    | inl d ↦ subst (λ k. IsIn place (new k)) (e ∙ ap (λ m. key_of base (take m front)) (sym d)) p.put
    | inr ne ↦ p.kept (key_of base (take n front)) place (u.put n (omega (arith, lt, ne)))
  ];
  only = λ k r j. elim (p.only k r j) [ inl a ↦ u.only k r a | inr d ↦ inr d ];
}

pub put_whole : (row : HoleRow) (front : List ℕ) (i key place : ℕ) (passing mid more ending after : ℕ → List ℕ) → Begins row.term front → i ≡ length front
    → key ≡ key_of (kind_key row.kind) (take i front) → PutUpTo (kind_key row.kind) front i place passing mid → Puts key place mid more → Puts key place ending after
    → IsPut place row passing ending more after
put_whole row front i key place passing mid more ending after begins e d u p q =
    let all = put_more (kind_key row.kind) key front i place passing mid more d p u in
    record {
      found = record {
        front = front;
        begins = begins;
        passes = λ n le. all.put n (omega (arith, le, e));
        ends = subst (λ k. IsIn place (after k)) (key_whole (kind_key row.kind) key front i e d) q.put;
      };
      kept = all.kept;
      left = q.kept;
      only = all.only;
      alone = q.only;
    }

-- ---- all hole rows

module _ (def : Definition) where
  pub indexed_none : (passing ending : ℕ → List ℕ) → ((k : ℕ) → passing k ≡ []) → ((k : ℕ) → ending k ≡ []) → AreIndexed def 0 passing ending
  indexed_none passing ending p e = record {
    passing_rows = λ k r i. nothing r (subst (IsIn r) (p k) i);
    ending_rows = λ k r i. nothing r (subst (IsIn r) (e k) i);
    found = λ r h at lt. absurd (omega (arith, lt));
  } where
    nothing : (r : ℕ) → IsIn r [] → r < 0
    nothing r i = elim i [ ]

  pub indexed_more : (n : ℕ) (row : HoleRow) (passing ending more after : ℕ → List ℕ) → slice_get def.hole_rows n ≡ Some row → IsPut n row passing ending more after
      → AreIndexed def n passing ending → AreIndexed def (n + 1) more after
  indexed_more n row passing ending more after at p x = record {
    passing_rows = λ k r i. elim (p.only k r i) [ inl a ↦ (let h = x.passing_rows k r a in omega (arith, h)) | inr d ↦ omega (arith, d) ];
    ending_rows = λ k r i. elim (p.alone k r i) [ inl a ↦ (let h = x.ending_rows k r a in omega (arith, h)) | inr d ↦ omega (arith, d) ];
    found = λ r h there lt. elim (cases_eq r n) [
      | inl d ↦ (let same : row ≡ h = slice_get_once def.hole_rows n row h at (ap (slice_get def.hole_rows) (sym d) ∙ there) in
          subst (λ m. IsFound more after m h) (sym d) (subst (IsFound more after n) same p.found))
      | inr ne ↦ wider r h (x.found r h there (omega (arith, lt, ne)))
    ];
  } where
    wider : (r : ℕ) (h : HoleRow) → IsFound passing ending r h → IsFound more after r h
    wider r h f = record {
      front = f.front;
      begins = f.begins;
      passes = λ m le. p.kept (key_of (kind_key h.kind) (take m f.front)) r (f.passes m le);
      ends = p.left (key_of (kind_key h.kind) f.front) r f.ends;
    }

  -- ---- what is found

  module _ (kind : Kind) where
    pub collect_none : (numbers : List ℕ) → Collects def kind [] numbers numbers
    collect_none numbers = record { rows = λ h. h; kept = λ r i. i; all = λ r h i of. elim i [ ] }

    pub collect_more : (places : List ℕ) (i place : ℕ) (row : HoleRow) (old mid new : List ℕ) → i < length places → place ≡ get_or places i place
        → slice_get def.hole_rows place ≡ Some row → IsNoted kind place row mid new → Collects def kind (take i places) old mid
        → Collects def kind (take (i + 1) places) old new
    collect_more places i place row old mid new lt is at (inl (same, e)) c = record {
      rows = λ h r j. elim (in-split r place mid (subst (IsIn r) e j)) [ inl a ↦ c.rows h r a | inr d ↦ (row, (ap (slice_get def.hole_rows) d ∙ at, same)) ];
      kept = λ r j. subst (IsIn r) (sym e) (in_left r mid (place ∷ []) (c.kept r j));
      all = λ r h j of. elim (in-next r places i place lt is j) [
        | inl a ↦ subst (IsIn r) (sym e) (in_left r mid (place ∷ []) (c.all r h a of))
        | inr d ↦ subst (λ m. IsIn m new) (sym d) (subst (IsIn place) (sym e) (in-last place mid))
      ];
    }
    collect_more places i place row old mid new lt is at (inr (other, e)) c = record {
      rows = λ h r j. c.rows h r (subst (IsIn r) e j);
      kept = λ r j. subst (IsIn r) (sym e) (c.kept r j);
      all = λ r h j of. elim (in-next r places i place lt is j) [
        | inl a ↦ subst (IsIn r) (sym e) (c.all r h a of)
        | inr d ↦ absurd (other (subst (λ (x : HoleRow). x.kind ≡ kind) (slice_get_once def.hole_rows place h row (ap (slice_get def.hole_rows) (sym d) ∙ of.0) at) of.1))
      ];
    }

    pub collect_all : (places : List ℕ) (i : ℕ) (old new : List ℕ) → i ≡ length places → Collects def kind (take i places) old new → Collects def kind places old new
    collect_all places i old new e c = subst (λ l. Collects def kind l old new) (take_all places i e) c

    -- the hole rows that end at one of the first so many keys of the front are among the numbers
    pub record AreCollected (ending : ℕ → List ℕ) (front : List ℕ) (i : ℕ) (numbers : List ℕ) : Type 0 where
      pub rows : AreRowsOf def kind numbers
      pub all : (n r : ℕ) (h : HoleRow) → n < i → IsIn r (ending (key_of (kind_key kind) (take n front))) → IsRowOf def kind r h → IsIn r numbers

    pub collected_none : (ending : ℕ → List ℕ) (front numbers : List ℕ) → numbers ≡ [] → AreCollected ending front 0 numbers
    collected_none ending front numbers e = record { rows = λ r i. elim (subst (IsIn r) e i) [ ]; all = λ n r h lt i of. absurd (omega (arith, lt)) }

    pub collected_more : (ending : ℕ → List ℕ) (front : List ℕ) (i key : ℕ) (places old new : List ℕ) → key ≡ key_of (kind_key kind) (take i front) → places ≡ ending key
        → Collects def kind places old new → AreCollected ending front i old → AreCollected ending front (i + 1) new
    collected_more ending front i key places old new e d c a = record {
      rows = c.rows a.rows;
      all = λ n r h lt j of. elim (cases_eq n i) [
        | inl q ↦ c.all r h (subst (IsIn r) (sym (d ∙ ap ending (e ∙ ap (λ m. key_of (kind_key kind) (take m front)) (sym q)))) j) of
        | inr ne ↦ c.kept r (a.all n r h (omega (arith, lt, ne)) j of)
      ];
    }

    -- all hole rows that may meet the term are among the numbers
    pub collected_all : (passing ending : ℕ → List ℕ) (t : Term) (front : List ℕ) (i key : ℕ) (places old new : List ℕ) → AreIndexed def (length def.hole_rows) passing ending
        → Begins t front → i ≡ length front → key ≡ key_of (kind_key kind) (take i front) → places ≡ passing key → Collects def kind places old new
        → AreCollected ending front i old → AreMet def kind t new
    collected_all passing ending t front i key places old new x begins e d at c a r h of (f, g, meet) =
        let found = x.found r h of.0 (slice_get_within def.hole_rows r h of.0) in
        let (u, eu) = begins f in
        let (v, ev) = found.begins g in
        let both : front ++ u ≡ found.front ++ v = sym eu ∙ ap heads_in meet ∙ ev in
        let kinds : kind_key h.kind ≡ kind_key kind = ap kind_key of.1 in
        elim (cases_lt (length found.front) (length front)) [
          | inl lt ↦ c.kept r (a.all (length found.front) r h (omega (arith, lt, e))
              (subst (λ k. IsIn r (ending k))
              (ap₂ key_of kinds (front_of_longer found.front front v u (sym both) (omega (arith, lt))))
              found.ends) of)
          | inr le ↦ c.all r h
              (subst (IsIn r)
              (ap passing (ap₂ key_of kinds (sym (front_of_longer front found.front u v both le)) ∙ sym (key_whole (kind_key kind) key front i e d)) ∙ sym at)
              (found.passes (length front) le)) of
        ]

-- ---- instances meet

pub instance_meets : (t u : Term) → IsInstance (t ∷ []) (u ∷ []) → Meets t u
instance_meets t u (f, e) = (variable, f, substitute-variable t ∙ term_of_one t (substitute f u) e)

-- ---- choices

in_or_out : (r : ℕ) (xs : List ℕ) → IsIn r xs ⊎ (IsIn r xs → ⊥)
in_or_out r [] = inr (λ i. elim i [ ])
in_or_out r (x ∷ xs) = elim (cases_eq r x) [
  | inl e ↦ inl (subst (λ y. IsIn y (x ∷ xs)) (sym e) first)
  | inr ne ↦ (elim (in_or_out r xs) [ inl i ↦ inl (later i) | inr out ↦ inr (not_cons r x xs ne out) ])
]

module _ (def : Definition) (slot : Kind) where
  second_meets : (row : List Term) (column : Term) (h : HoleRow) → slice_get row 1 ≡ Some column → (Meets column h.term → ⊥) → IsNone def row h
  second_meets [] column h at apart v w us g k = absurd (cc)
  second_meets (t ∷ []) column h at apart v w us g k = absurd (cc)
  second_meets (t ∷ u ∷ ts) column h at apart v w us (f, gf, e) (g, gg, d) =
      let same : u ≡ column = cc in
      let il : ◌≡◌ {A = List Term} (v ∷ w ∷ us) (substitute f t ∷ substitute f u ∷ map (substitute f) ts) = e in
      let ir : ◌≡◌ {A = List Term} (w ∷ []) (substitute g h.term ∷ []) = d in
      let one : w ≡ substitute f u = cc in
      let two : w ≡ substitute g h.term = cc in
      apart (f, g, ap (substitute f) (sym same) ∙ sym one ∙ two)

  pub among_met : (row : List Term) (column : Term) (numbers : List ℕ) → slice_get row 1 ≡ Some column → AreMet def slot column numbers
      → (r : ℕ) (h : HoleRow) → IsRowOf def slot r h → IsIn r numbers ⊎ IsNone def row h
  among_met row column numbers at met r h of = elim (in_or_out r numbers) [ inl i ↦ inl i | inr out ↦ inr (second_meets row column h at (λ m. out (met r h of m))) ]

  no_second : (row : List Term) (h : HoleRow) → slice_get row 1 ≡ None → IsNone def row h
  no_second [] h e v w us (f, gf, d) k = let q : ◌≡◌ {A = List Term} (v ∷ w ∷ us) [] = d in absurd (cc)
  no_second (t ∷ []) h e v w us (f, gf, d) k = let q : ◌≡◌ {A = List Term} (v ∷ w ∷ us) (substitute f t ∷ []) = d in absurd (cc)
  no_second (t ∷ u ∷ ts) h e v w us g k = absurd (cc)

  pub among_none : (row : List Term) (numbers : List ℕ) → slice_get row 1 ≡ None → (r : ℕ) (h : HoleRow) → IsRowOf def slot r h → IsIn r numbers ⊎ IsNone def row h
  among_none row numbers e r h of = inr (no_second row h e)
