-- The lines of a layout one after the other.
use Rattle.std.proofs.Common.{◌≡◌, ◌⊎◌, inl, inr, ℕ, ◌<◌, ◌≤◌, ◌==◌, ◌||◌, ◌&&◌, Bool, true, false, cond, List, [], ◌∷◌, ◌++◌, replicate, Option, Some, None, refl, sym, ap, ap₂, subst, ◌∙◌, codes, decimal}
use Rattle.std.specs.Prelude.{option_map, count_by}
use Rattle.std.specs.Bool.{Decides}
use Rattle.std.specs.List.{AllByRecursion, list_any}
use Rattle.std.proofs.lemmas.Bool.{true≢false, false≢true}
use Rattle.std.proofs.lemmas.Bool.Decides.{eqb_tells}
use Rattle.std.proofs.lemmas.List.Folds.{list_any-append}
use Rattle.std.proofs.Math.Bool.{or-false}
use Rattle.psg_terms.specs.Names.{Name}
use Rattle.psg_grammar.specs.declared.types.Operator.{Operator}
use Rattle.psg_grammar.specs.declared.types.Definition.{Definition}
use Rattle.psg_grammar.specs.Kinds.{op_name_of}
use Rattle.psg_grammar.specs.Lookups.{operator_at}
use Rattle.psg_grammar.specs.Sound.{IsSound}
use Rattle.psg_grammar.proofs.NamePlaces.{only_op}
use Rattle.psg_deflines.specs.Entries.{IsSkipped}
use Rattle.psg_script.specs.Forms.{IsTail}
use Rattle.psg_script.proofs.WordLemmas.{spaces_apart}
use Rattle.psg_script.proofs.NumberLemmas.{same_decimal}
use Rattle.psg_layout.specs.declared.reading.Read.{Read}
use Rattle.psg_layout.specs.Arranged.{is_counted}
use Rattle.psg_layout.specs.Layouts.{Rule, group, break, op_of, SpellsRule, a_form, an_operator, an_item, a_new_line, tests, IsFirstFailing, IsKnown, HasItem, Passes, AreGroups, AreBreaks}
use Rattle.psg_layout.specs.Looked.{has_group, has_break}
use Rattle.psg_layout.specs.Reading.{items_in, IsRead, Accepts, has_rule}
use Rattle.psg_layout.proofs.RuleLaws.{own_bytes, own_starts, own_tail, decimal_tail, blank_behind, group_word, break_word, other_words, group_read, break_read, same_break}

-- ---- a line says one thing

pub spells_one : (text : List ℕ) (r s : Rule) → SpellsRule text r → SpellsRule text s → r ≡ s
spells_one text (group o) (group p) h k =
    let x = h.written in
    let y = (group_read text (codes "group") (replicate x.0 32 ++ o) x.1.1 group_word (blank_behind x.0 o x.1.0) p k).1 in
    ap group (spaces_apart x.0 y.1.0 o p (own_tail o h.name) (own_tail p k.name) y.1.1.1).1
spells_one text (group o) (break p j) h k =
    let x = h.written in
    absurd (other_words (break_read text (codes "group") (replicate x.0 32 ++ o) x.1.1 group_word (blank_behind x.0 o x.1.0) p j k).0)
spells_one text (break o i) (group p) h k =
    let x = h.written.1.0 in
    absurd (other_words (sym (group_read text (codes "break") (replicate x.0 32 ++ h.written.0) x.1.1 break_word (blank_behind x.0 h.written.0 x.1.0) p k).0))
spells_one text (break o i) (break p j) h k =
    let words : List ℕ = h.written.0 in
    let x = h.written.1.0 in
    let y = h.written.1.1 in
    let behind : List ℕ = replicate x.0 32 ++ words in
    let rest : List ℕ = replicate y.0 32 ++ decimal i in
    let starts : IsTail words = subst IsTail (sym y.1.1) (own_starts o rest h.name) in
    let other = (break_read text (codes "break") behind x.1.1 break_word (blank_behind x.0 words x.1.0) p j k).1 in
    let same = same_break behind words o rest x.0 refl starts y.1.1 (own_bytes o h.name) (blank_behind y.0 (decimal i) y.1.0) p j other in
    let number : decimal i ≡ decimal j = (spaces_apart y.0 same.1.0 (decimal i) (decimal j) (decimal_tail i h.number) (decimal_tail j k.number) same.1.1.1).1 in
    ap₂ break same.0 (same_decimal i j h.number k.number number)

-- and is not skipped
pub not_skipped : (text : List ℕ) (r : Rule) → IsSkipped text → SpellsRule text r → ⊥
not_skipped text (group o) s h = false≢true (ap (λ c. c == 35) (subst IsSkipped h.written.1.1 s))
not_skipped text (break o k) s h = false≢true (ap (λ c. c == 35) (subst IsSkipped h.written.1.0.1.1 s))

-- ---- operators

same_name : (o : Option Name) (n m : Name) → o ≡ Some n → o ≡ Some m → n ≡ m
same_name o n m e f = let g : Some n ≡ Some m = sym e ∙ f in cc

-- ---- tests of numbers

same_is_true : (a b : ℕ) → a ≡ b → (a == b) ≡ true
same_is_true a b e = elim (eqb_tells a b) [ inl h ↦ h.0 | inr h ↦ absurd (h.1 e) ]

head_or : (a o : ℕ) (rest : Bool) → ((a == o) || rest) ≡ true → (a ≡ o → ⊥) → (rest ≡ true → ⊥) → ⊥
head_or a o rest t f g = elim (eqb_tells a o) [ inl e ↦ f e.1 | inr e ↦ g (sym (ap (λ b. b || rest) e.0) ∙ t) ]

pair_or : (a o j k : ℕ) (rest : Bool) → (((a == o) && (j == k)) || rest) ≡ true → (a ≡ o → j ≡ k → ⊥) → (rest ≡ true → ⊥) → ⊥
pair_or a o j k rest t f g =
    elim (eqb_tells a o) [
      | inl e ↦ elim (eqb_tells j k) [ inl h ↦ f e.1 h.1 | inr h ↦ g (sym (ap₂ (λ x y. (x && y) || rest) e.0 h.0) ∙ t) ]
      | inr e ↦ g (sym (ap (λ x. (x && (j == k)) || rest) e.0) ∙ t)
    ]

none_or : (x y : Bool) → (x || y) ≡ false → (x ≡ false) × (y ≡ false)
none_or true y e = absurd (true≢false e)
none_or false y e = (refl, e)

one_more : (x b : Bool) → cond {A = Bool} x true b ≡ (b || x)
one_more true true = refl
one_more true false = refl
one_more false true = refl
one_more false false = refl

group_name : (m n : Name) → group m ≡ group n → m ≡ n
group_name m n e = cc

break_name : (m n : Name) (j k : ℕ) → break m j ≡ break n k → m ≡ n
break_name m n j k e = cc

break_place : (m n : Name) (j k : ℕ) → break m j ≡ break n k → j ≡ k
break_place m n j k e = cc

other_kind : (n m : Name) (k : ℕ) → break m k ≡ group n → ⊥
other_kind n m k e = cc

module _ (def : Definition) (sound : IsSound def) where
  one_op : (o p : ℕ) (n : Name) → op_name_of def o ≡ Some n → op_name_of def p ≡ Some n → o ≡ p
  one_op o p n e f = only_op def sound.operator_names o p n e f

  -- ---- items

  found_item : (k : ℕ) (op : Operator) (x : Option Operator) → x ≡ Some op → k < items_in x → k < count_by is_counted op.items
  found_item k op x e l = subst (λ z. k < items_in z) e l

  pub item_there : (o : ℕ) (name : Name) (k : ℕ) → op_name_of def o ≡ Some name → 1 ≤ k → k < items_in (operator_at def o) → HasItem def (break name k)
  item_there o name k n l m p op e f =
      let same : o ≡ p = one_op o p name n (ap (option_map (λ (x : Operator). x.name)) e ∙ ap Some f) in
      (l, found_item k op (operator_at def o) (ap (operator_at def) same ∙ e) m)

  no_item : (name : Name) (k : ℕ) (x : Option Operator) → option_map (λ (y : Operator). y.name) x ≡ Some name
      → ((op : Operator) → x ≡ Some op → op.name ≡ name → (1 ≤ k) × (k < count_by is_counted op.items)) → (1 ≤ k) × (k < items_in x)
  no_item name k None e h = absurd (cc)
  no_item name k (Some op) e h = h op refl (same_name (Some op.name) op.name name refl e)

  pub item_told : (o : ℕ) (name : Name) (k : ℕ) → op_name_of def o ≡ Some name → HasItem def (break name k) → (1 ≤ k) × (k < items_in (operator_at def o))
  item_told o name k n h = no_item name k (operator_at def o) n (λ op e f. h o op e f)

  pub item_decided : (o : ℕ) (name : Name) (k count : ℕ) (r : Bool) → op_name_of def o ≡ Some name → count ≡ items_in (operator_at def o) → Decides r ((1 ≤ k) × (k < count))
      → Decides r (HasItem def (break name k))
  item_decided o name k count r n e d = (
    λ t. item_there o name k n (d.0 t).0 (subst (λ z. k < z) e (d.0 t).1),
    λ h. let i = item_told o name k n h in d.1 (i.0, subst (λ z. k < z) (sym e) i.1),
  )

  -- ---- what was read before

  stale_group : (o : ℕ) (name : Name) (rules : List Rule) (gs : List ℕ) → op_name_of def o ≡ Some name → AreGroups def rules gs → list_any (λ g. g == o) gs ≡ true
      → AllByRecursion (λ other. other ≡ group name → ⊥) rules → ⊥
  stale_group o name [] gs n a t f = false≢true (sym (ap (list_any (λ g. g == o)) a) ∙ t)
  stale_group o name (group m ∷ rules) gs n a t f =
      head_or a.0 o (list_any (λ g. g == o) a.1) (sym (ap (list_any (λ g. g == o)) a.2) ∙ t)
      (λ e. f.0 (ap group (same_name (op_name_of def o) m name (ap (op_name_of def) (sym e) ∙ a.3) n)))
      (λ u. stale_group o name rules a.1 n a.4 u f.1)
  stale_group o name (break m k ∷ rules) gs n a t f = stale_group o name rules gs n a t f.1

  fresh_group : (o : ℕ) (name : Name) (rules : List Rule) (gs : List ℕ) → op_name_of def o ≡ Some name → AreGroups def rules gs → list_any (λ g. g == o) gs ≡ false
      → AllByRecursion (λ other. other ≡ group name → ⊥) rules
  fresh_group o name [] gs n a t = tt
  fresh_group o name (group m ∷ rules) gs n a t =
      let none = none_or (a.0 == o) (list_any (λ g. g == o) a.1) (sym (ap (list_any (λ g. g == o)) a.2) ∙ t) in (
        λ e. true≢false (sym (same_is_true a.0 o (one_op a.0 o name (a.3 ∙ ap Some (group_name m name e)) n)) ∙ none.0),
        fresh_group o name rules a.1 n a.4 none.1,
      )
  fresh_group o name (break m k ∷ rules) gs n a t =
      (λ e. other_kind name m k e, fresh_group o name rules gs n a t)

  stale_break : (o k : ℕ) (name : Name) (rules : List Rule) (bs : List (ℕ × ℕ)) → op_name_of def o ≡ Some name → AreBreaks def rules bs
      → list_any (λ (b : ℕ × ℕ). (b.0 == o) && (b.1 == k)) bs ≡ true → AllByRecursion (λ other. other ≡ break name k → ⊥) rules → ⊥
  stale_break o k name [] bs n a t f = false≢true (sym (ap (list_any (λ (b : ℕ × ℕ). (b.0 == o) && (b.1 == k))) a) ∙ t)
  stale_break o k name (group m ∷ rules) bs n a t f = stale_break o k name rules bs n a t f.1
  stale_break o k name (break m j ∷ rules) bs n a t f =
      pair_or a.0 o j k (list_any (λ (b : ℕ × ℕ). (b.0 == o) && (b.1 == k)) a.1) (sym (ap (list_any (λ (b : ℕ × ℕ). (b.0 == o) && (b.1 == k))) a.2) ∙ t)
      (λ e g. f.0 (ap₂ break (same_name (op_name_of def o) m name (ap (op_name_of def) (sym e) ∙ a.3) n) g))
      (λ u. stale_break o k name rules a.1 n a.4 u f.1)

  fresh_break : (o k : ℕ) (name : Name) (rules : List Rule) (bs : List (ℕ × ℕ)) → op_name_of def o ≡ Some name → AreBreaks def rules bs
      → list_any (λ (b : ℕ × ℕ). (b.0 == o) && (b.1 == k)) bs ≡ false → AllByRecursion (λ other. other ≡ break name k → ⊥) rules
  fresh_break o k name [] bs n a t = tt
  fresh_break o k name (group m ∷ rules) bs n a t = (λ e. other_kind m name k (sym e), fresh_break o k name rules bs n a t)
  fresh_break o k name (break m j ∷ rules) bs n a t =
      let none = none_or ((a.0 == o) && (j == k)) (list_any (λ (b : ℕ × ℕ). (b.0 == o) && (b.1 == k)) a.1) (sym (ap (list_any (λ (b : ℕ × ℕ). (b.0 == o) && (b.1 == k))) a.2) ∙ t) in (
        λ e. true≢false (sym (ap₂ (λ x y. x && y) (same_is_true a.0 o (one_op a.0 o name (a.3 ∙ ap Some (break_name m name j k e)) n)) (same_is_true j k (break_place m name j k e))) ∙ none.0),
        fresh_break o k name rules a.1 n a.4 none.1,
      )

  pub stale : (o : ℕ) (r : Rule) (rules : List Rule) (old : Read) → op_name_of def o ≡ Some (op_of r) → IsRead def old rules → has_rule old o r ≡ true
      → AllByRecursion (λ other. other ≡ r → ⊥) rules → ⊥
  stale o (group name) rules old n h t = stale_group o name rules old.groups.items n h.groups (sym (h.looked_groups o) ∙ t)
  stale o (break name k) rules old n h t = stale_break o k name rules old.breaks.items n h.breaks (sym (h.looked_breaks o k) ∙ t)

  pub fresh : (o : ℕ) (r : Rule) (rules : List Rule) (old : Read) → op_name_of def o ≡ Some (op_of r) → IsRead def old rules → has_rule old o r ≡ false
      → AllByRecursion (λ other. other ≡ r → ⊥) rules
  fresh o (group name) rules old n h t = fresh_group o name rules old.groups.items n h.groups (sym (h.looked_groups o) ∙ t)
  fresh o (break name k) rules old n h t = fresh_break o k name rules old.breaks.items n h.breaks (sym (h.looked_breaks o k) ∙ t)

  -- ---- the tests of a line that says this

  module _ (line : List ℕ) (r : Rule) (spells : SpellsRule line r) (rules : List Rule) where
    as_it : (P : Rule → Type 0) → P r → (s : Rule) → SpellsRule line s → P s
    as_it P p s h = subst P (spells_one line r s spells h) p

    known_passes : (o : ℕ) → op_name_of def o ≡ Some (op_of r) → Passes def rules line an_operator
    known_passes o n = as_it (λ s. IsKnown def (op_of s)) (o, n)

    pub is_unknown : ((o : ℕ) → op_name_of def o ≡ Some (op_of r) → ⊥) → IsFirstFailing (Passes def rules line) tests an_operator
    is_unknown f = inr (inr (r, spells), inl ((λ p. f (p r spells).0 (p r spells).1), refl))

    pub is_misplaced : (o : ℕ) → op_name_of def o ≡ Some (op_of r) → (HasItem def r → ⊥) → IsFirstFailing (Passes def rules line) tests an_item
    is_misplaced o n f = inr (inr (r, spells), inr (known_passes o n, inl ((λ p. f (p r spells)), refl)))

    pub is_repeated : (o : ℕ) (old : Read) → op_name_of def o ≡ Some (op_of r) → HasItem def r → IsRead def old rules → has_rule old o r ≡ true
        → IsFirstFailing (Passes def rules line) tests a_new_line
    is_repeated o old n i h t =
        inr (
          inr (r, spells),
          inr (
            known_passes o n,
            inr (
              as_it (HasItem def) i,
              inl ((λ p. stale o r rules old n h t (p r spells)), refl),
            ),
          ),
        )

    pub is_accepted : (o : ℕ) (old new : Read) → op_name_of def o ≡ Some (op_of r) → HasItem def r → IsRead def old rules → has_rule old o r ≡ false
        → IsRead def new (rules ++ r ∷ []) → Accepts def line rules new
    is_accepted o old new n i h t k =
        inr (r, (spells, ((inr (r, spells), (known_passes o n, (as_it (HasItem def) i, (as_it (λ s. AllByRecursion (λ other. other ≡ s → ⊥) rules) (fresh o r rules old n h t), tt)))), k)))

-- a line that says nothing fails the first test
pub is_no_rule : (def : Definition) (line : List ℕ) (rules : List Rule) → (IsSkipped line → ⊥) → ((r : Rule) → SpellsRule line r → ⊥)
    → IsFirstFailing (Passes def rules line) tests a_form
is_no_rule def line rules f g = inl ((λ p. no p), refl)
  where
    no : IsSkipped line ⊎ ((r : Rule) × SpellsRule line r) → ⊥
    no (inl s) = f s
    no (inr x) = g x.0 x.1

-- ---- one more rule is kept

module _ (def : Definition) where
  more_groups : (o : ℕ) (name : Name) (rules : List Rule) (gs : List ℕ) → op_name_of def o ≡ Some name → AreGroups def rules gs → AreGroups def (rules ++ group name ∷ []) (gs ++ o ∷ [])
  more_groups o name [] gs n a = (o, [], ap (λ z. z ++ o ∷ []) a, n, refl)
  more_groups o name (group m ∷ rules) gs n a = (a.0, a.1 ++ o ∷ [], ap (λ z. z ++ o ∷ []) a.2, a.3, more_groups o name rules a.1 n a.4)
  more_groups o name (break m k ∷ rules) gs n a = more_groups o name rules gs n a

  same_groups : (name : Name) (k : ℕ) (rules : List Rule) (gs : List ℕ) → AreGroups def rules gs → AreGroups def (rules ++ break name k ∷ []) gs
  same_groups name k [] gs a = a
  same_groups name k (group m ∷ rules) gs a = (a.0, a.1, a.2, a.3, same_groups name k rules a.1 a.4)
  same_groups name k (break m j ∷ rules) gs a = same_groups name k rules gs a

  more_breaks : (o k : ℕ) (name : Name) (rules : List Rule) (bs : List (ℕ × ℕ)) → op_name_of def o ≡ Some name → AreBreaks def rules bs
      → AreBreaks def (rules ++ break name k ∷ []) (bs ++ (o, k) ∷ [])
  more_breaks o k name [] bs n a = (o, [], ap (λ z. z ++ (o, k) ∷ []) a, n, refl)
  more_breaks o k name (group m ∷ rules) bs n a = more_breaks o k name rules bs n a
  more_breaks o k name (break m j ∷ rules) bs n a = (a.0, a.1 ++ (o, k) ∷ [], ap (λ z. z ++ (o, k) ∷ []) a.2, a.3, more_breaks o k name rules a.1 n a.4)

  same_breaks : (name : Name) (rules : List Rule) (bs : List (ℕ × ℕ)) → AreBreaks def rules bs → AreBreaks def (rules ++ group name ∷ []) bs
  same_breaks name [] bs a = a
  same_breaks name (group m ∷ rules) bs a = same_breaks name rules bs a
  same_breaks name (break m j ∷ rules) bs a = (a.0, a.1, a.2, a.3, same_breaks name rules a.1 a.4)

  pub kept_group : (o : ℕ) (name : Name) (rules : List Rule) (old new : Read) → op_name_of def o ≡ Some name → IsRead def old rules
      → new.groups.items ≡ old.groups.items ++ o ∷ [] → new.breaks.items ≡ old.breaks.items
      → ((q : ℕ) → has_group new.rules q ≡ cond {A = Bool} (o == q) true (has_group old.rules q)) → ((q k : ℕ) → has_break new.rules q k ≡ has_break old.rules q k)
      → IsRead def new (rules ++ group name ∷ [])
  kept_group o name rules old new n h g b lg lb = record {
    groups = subst (AreGroups def (rules ++ group name ∷ [])) (sym g) (more_groups o name rules old.groups.items n h.groups);
    breaks = subst (AreBreaks def (rules ++ group name ∷ [])) (sym b) (same_breaks name rules old.breaks.items h.breaks);
    looked_groups = λ q.
        lg q ∙ ap (λ z. cond {A = Bool} (o == q) true z) (h.looked_groups q) ∙ one_more (o == q) (list_any (λ x. x == q) old.groups.items)
        ∙ sym (ap (list_any (λ x. x == q)) g ∙ list_any-append (λ x. x == q) old.groups.items (o ∷ []) ∙ ap (λ z. list_any (λ x. x == q) old.groups.items || z) (or-false (o == q)));
    looked_breaks = λ q k. lb q k ∙ h.looked_breaks q k ∙ sym (ap (list_any (λ (x : ℕ × ℕ). (x.0 == q) && (x.1 == k))) b);
  }

  pub kept_break : (o j : ℕ) (name : Name) (rules : List Rule) (old new : Read) → op_name_of def o ≡ Some name → IsRead def old rules
      → new.breaks.items ≡ old.breaks.items ++ (o, j) ∷ [] → new.groups.items ≡ old.groups.items
      → ((q k : ℕ) → has_break new.rules q k ≡ cond {A = Bool} ((o == q) && (j == k)) true (has_break old.rules q k)) → ((q : ℕ) → has_group new.rules q ≡ has_group old.rules q)
      → IsRead def new (rules ++ break name j ∷ [])
  kept_break o j name rules old new n h b g lb lg = record {
    groups = subst (AreGroups def (rules ++ break name j ∷ [])) (sym g) (same_groups name j rules old.groups.items h.groups);
    breaks = subst (AreBreaks def (rules ++ break name j ∷ [])) (sym b) (more_breaks o j name rules old.breaks.items n h.breaks);
    looked_groups = λ q. lg q ∙ h.looked_groups q ∙ sym (ap (list_any (λ x. x == q)) g);
    looked_breaks = λ q k.
        lb q k ∙ ap (λ z. cond {A = Bool} ((o == q) && (j == k)) true z) (h.looked_breaks q k) ∙ one_more ((o == q) && (j == k)) (list_any (λ (x : ℕ × ℕ). (x.0 == q) && (x.1 == k)) old.breaks.items)
        ∙ sym (ap (list_any (λ (x : ℕ × ℕ). (x.0 == q) && (x.1 == k))) b ∙ list_any-append (λ (x : ℕ × ℕ). (x.0 == q) && (x.1 == k)) old.breaks.items ((o, j) ∷ [])
        ∙ ap (λ z. list_any (λ (x : ℕ × ℕ). (x.0 == q) && (x.1 == k)) old.breaks.items || z) (or-false ((o == q) && (j == k))));
  }
