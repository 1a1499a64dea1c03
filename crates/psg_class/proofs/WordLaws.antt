-- Words and their places.
use Rattle.std.proofs.Common.{◌≡◌, ◌⊎◌, inl, inr, ℕ, zero, suc, ◌+◌, ◌||◌, Bool, true, false, cond, List, [], ◌∷◌, ◌++◌, length, Option, Some, None, slice_get, is_some, refl, ap, sym, ◌∙◌, subst, true≢false, append-nil}
use Rattle.std.proofs.lemmas.Bool.{cases_Bool, or_cases}
use Rattle.std.specs.Prelude.{option_map, bytes_eq, codes}
use Rattle.std.specs.Map.{update}
use Rattle.psg_terms.specs.Names.{Name, is_among, has_twice}
use Rattle.psg_terms.proofs.DeclareLaws.{bytes_eq-same, bytes_eq-refl, is_among-append, is_among-at}
use Rattle.psg_grammar.specs.declared.types.Item.{Item}
use Rattle.psg_grammar.specs.declared.types.Item.TheVariants as items
use Rattle.psg_grammar.specs.declared.types.Operator.{Operator}
use Rattle.psg_grammar.specs.declared.types.ListKind.{ListKind}
use Rattle.psg_grammar.specs.WellFormed.{words_in, operator_words, separators}
use Rattle.psg_class.specs.declared.vocabulary.Vocabulary.{Vocabulary}
use Rattle.psg_grammar.specs.declared.types.Definition.{Definition}
use Rattle.psg_class.specs.Numbers.{place_in, word_number, HasWords, KeepsWords, Grown, IsVocabulary}

pub place_found : (ws : List Name) (w : Name) → is_some (place_in ws w) ≡ is_among ws w
place_found [] w = refl
place_found (v ∷ vs) w = elim (bytes_eq v w) as (λ b. is_some (cond b (Some 0) (option_map (λ k. suc k) (place_in vs w))) ≡ (b || is_among vs w)) [
  | true ↦ refl
  | false ↦ some_more (place_in vs w) ∙ place_found vs w
] where
  some_more : (o : Option ℕ) → is_some (option_map (λ k. suc k) o) ≡ is_some o
  some_more None = refl
  some_more (Some k) = refl

pub place_there : (ws : List Name) (w : Name) → is_among ws w ≡ true → (k : ℕ) × (place_in ws w ≡ Some k)
place_there ws w h = of (place_in ws w) (place_found ws w ∙ h) where
  of : (o : Option ℕ) → is_some o ≡ true → (k : ℕ) × (o ≡ Some k)
  of (Some k) e = (k, refl)
  of None e = absurd (true≢false (sym e))

pub place_at : (ws : List Name) (w : Name) (k : ℕ) → place_in ws w ≡ Some k → slice_get ws k ≡ Some w
place_at [] w k e = absurd (let x : None ≡ Some k = e in cc)
place_at (v ∷ vs) w k e = of (cases_Bool (bytes_eq v w)) (λ j. place_at vs w j) where
  after : ((j : ℕ) → place_in vs w ≡ Some j → slice_get vs j ≡ Some w) → (o : Option ℕ) → place_in vs w ≡ o → option_map (λ k. suc k) o ≡ Some k → slice_get (v ∷ vs) k ≡ Some w
  after rec None f g = absurd (let x : None ≡ Some k = g in cc)
  after rec (Some j) f g = let x : Some (suc j) ≡ Some k = g in let y : suc j ≡ k = cc in subst (λ z. slice_get (v ∷ vs) z ≡ Some w) y (rec j f)

  of : (bytes_eq v w ≡ true) ⊎ (bytes_eq v w ≡ false) → ((j : ℕ) → place_in vs w ≡ Some j → slice_get vs j ≡ Some w) → slice_get (v ∷ vs) k ≡ Some w
  of (inl t) rec = let x : Some 0 ≡ Some k = sym (ap (λ b. cond b (Some 0) (option_map (λ k. suc k) (place_in vs w))) t) ∙ e in let y : 0 ≡ k = cc in subst (λ z. slice_get (v ∷ vs) z ≡ Some w) y (ap Some (bytes_eq-same v w t))
  of (inr f) rec = after rec (place_in vs w) refl (sym (ap (λ b. cond b (Some 0) (option_map (λ k. suc k) (place_in vs w))) f) ∙ e)

pub place_push : (ws : List Name) (w v : Name) → bytes_eq w v ≡ false → place_in (ws ++ w ∷ []) v ≡ place_in ws v
place_push [] w v h = ap (λ b. cond b (Some 0) None) h
place_push (u ∷ us) w v h = ap (λ o. cond (bytes_eq u v) (Some 0) (option_map (λ k. suc k) o)) (place_push us w v h)

pub place_new : (ws : List Name) (w : Name) → is_among ws w ≡ false → place_in (ws ++ w ∷ []) w ≡ Some (length ws)
place_new [] w h = ap (λ b. cond b (Some 0) None) (bytes_eq-refl w)
place_new (u ∷ us) w h =
    let (x, y) = none (bytes_eq u w) (is_among us w) h in
    ap (λ b. cond b (Some 0) (option_map (λ k. suc k) (place_in (us ++ w ∷ []) w))) x ∙ ap (option_map (λ k. suc k)) (place_new us w y) where
      none : (a b : Bool) → a || b ≡ false → (a ≡ false) × (b ≡ false)
      none true b e = absurd (true≢false e)
      none false b e = (refl, e)

pub place_distinct : (ws : List Name) (w : Name) (k : ℕ) → has_twice ws ≡ false → slice_get ws k ≡ Some w → place_in ws w ≡ Some k
place_distinct [] w k h e = absurd (let x : None ≡ Some w = e in cc)
place_distinct (v ∷ vs) w zero h e = let x : Some v ≡ Some w = e in let y : v ≡ w = cc in ap (λ b. cond b (Some 0) (option_map (λ k. suc k) (place_in vs w))) (ap (bytes_eq v) (sym y) ∙ bytes_eq-refl v)
place_distinct (v ∷ vs) w (suc k) h e =
    let (x, y) = none (is_among vs v) (has_twice vs) h in
    elim (cases_Bool (bytes_eq v w)) [
      | inl t ↦ absurd (true≢false (sym (is_among-at vs k v (e ∙ ap Some (sym (bytes_eq-same v w t)))) ∙ x))
      | inr f ↦ ap (λ b. cond b (Some 0) (option_map (λ k. suc k) (place_in vs w))) f ∙ ap (option_map (λ k. suc k)) (place_distinct vs w k y e)
    ] where
      none : (a b : Bool) → a || b ≡ false → (a ≡ false) × (b ≡ false)
      none true b e' = absurd (true≢false e')
      none false b e' = (refl, e')

-- the map after one word more
pub consistent_push : (base : ℕ) (old : Name → Option ℕ) (ws : List Name) (w : Name) → is_among ws w ≡ false → ((v : Name) → old v ≡ word_number base ws v) → (v : Name) → update bytes_eq old w (Some (base + length ws)) v ≡ word_number base (ws ++ w ∷ []) v
consistent_push base old ws w absent h v = elim (cases_Bool (bytes_eq w v)) [
  | inl t ↦ ap (λ b. cond b (Some (base + length ws)) (old v)) t ∙ ap (option_map (λ k. base + k)) (sym (place_new ws w absent) ∙ ap (place_in (ws ++ w ∷ [])) (bytes_eq-same w v t))
  | inr f ↦ ap (λ b. cond b (Some (base + length ws)) (old v)) f ∙ h v ∙ ap (option_map (λ k. base + k)) (sym (place_push ws w v f))
]

pub number_found : (base : ℕ) (ws : List Name) (w : Name) → is_some (word_number base ws w) ≡ is_among ws w
number_found base ws w = of (place_in ws w) ∙ place_found ws w where
  of : (o : Option ℕ) → is_some (option_map (λ k. base + k) o) ≡ is_some o
  of None = refl
  of (Some k) = refl

pub among_front : (ws : List Name) (w v : Name) → is_among ws v ≡ true → is_among (ws ++ w ∷ []) v ≡ true
among_front ws w v h = is_among-append ws (w ∷ []) v ∙ ap (λ b. b || is_among (w ∷ []) v) h

pub among_new : (ws : List Name) (w : Name) → is_among (ws ++ w ∷ []) w ≡ true
among_new ws w = is_among-append ws (w ∷ []) w ∙ or_last (is_among ws w) (bytes_eq w w || false) (ap (λ b. b || false) (bytes_eq-refl w)) where
  or_last : (a b : Bool) → b ≡ true → a || b ≡ true
  or_last true b e = refl
  or_last false b e = e

-- words of more items, operators and lists
pub words_front : (xs : List Item) (i : Item) → words_in (xs ++ i ∷ []) ≡ words_in xs ++ words_in (i ∷ [])
words_front [] i = refl
words_front (items.Word w ∷ xs) i = ap (λ ws. w ∷ ws) (words_front xs i)
words_front (items.Slot k ∷ xs) i = words_front xs i
words_front (items.Refers s ∷ xs) i = words_front xs i
words_front (items.Declares s ∷ xs) i = words_front xs i
words_front (items.Number ∷ xs) i = words_front xs i
words_front (items.Text ∷ xs) i = words_front xs i
words_front (items.Space ∷ xs) i = words_front xs i
words_front (items.Tight ∷ xs) i = words_front xs i
words_front (items.Line ∷ xs) i = words_front xs i
words_front (items.In ∷ xs) i = words_front xs i
words_front (items.Out ∷ xs) i = words_front xs i

append_assoc' : (xs ys zs : List Name) → (xs ++ ys) ++ zs ≡ xs ++ (ys ++ zs)
append_assoc' [] ys zs = refl
append_assoc' (x ∷ xs) ys zs = ap (λ l. x ∷ l) (append_assoc' xs ys zs)

pub operators_front : (os : List Operator) (o : Operator) → operator_words (os ++ o ∷ []) ≡ operator_words os ++ words_in o.items
operators_front [] o = append-nil (words_in o.items)
operators_front (p ∷ os) o = ap (λ ws. words_in p.items ++ ws) (operators_front os o) ∙ sym (append_assoc' (words_in p.items) (operator_words os) (words_in o.items))

pub separators_front : (ls : List ListKind) (l : ListKind) → separators (ls ++ l ∷ []) ≡ separators ls ++ l.separator ∷ []
separators_front [] l = refl
separators_front (k ∷ ls) l = ap (λ ws. k.separator ∷ ws) (separators_front ls l)

-- the words of the first so many, and of one more
pub has_more : (v u : Vocabulary) (xs ys zs : List Name) → zs ≡ xs ++ ys → HasWords v xs → KeepsWords v u → HasWords u ys → HasWords u zs
has_more v u xs ys zs e h keeps k w a =
    let b : is_among xs w || is_among ys w ≡ true = sym (is_among-append xs ys w) ∙ ap (λ l. is_among l w) (sym e) ∙ a in
    elim (or_cases (is_among xs w) (is_among ys w) b) [ inl x ↦ keeps w (h w x) | inr y ↦ k w y ]

pub has_one : (v : Vocabulary) (w : Name) → is_among v.words.items w ≡ true → HasWords v (w ∷ [])
has_one v w h u a = elim (or_cases (bytes_eq w u) false a) [
  | inl e ↦ subst (λ z. is_among v.words.items z ≡ true) (bytes_eq-same w u e) h
  | inr e ↦ absurd (true≢false (sym e))
]

pub grown_both : (a b d : Vocabulary) → Grown a b → Grown b d → Grown a d
grown_both a b d h k = record { base = k.base ∙ h.base; consistent = k.consistent; keeps = λ w e. k.keeps w (h.keeps w e) }

pub words_none : (i : Item) → ((w : Name) → i ≡ items.Word w → ⊥) → words_in (i ∷ []) ≡ []
words_none (items.Word w) h = absurd (h w refl)
words_none (items.Slot k) h = refl
words_none (items.Refers s) h = refl
words_none (items.Declares s) h = refl
words_none items.Number h = refl
words_none items.Text h = refl
words_none items.Space h = refl
words_none items.Tight h = refl
words_none items.Line h = refl
words_none items.In h = refl
words_none items.Out h = refl

pub has_none : (v : Vocabulary) → HasWords v []
has_none v w a = absurd (true≢false (sym a))

-- after the operators, the separators and the brackets
pub whole : (def : Definition) (a b d e f : Vocabulary) → a.base ≡ length def.phyla + 4 → Grown a b → HasWords b (operator_words def.operators) → Grown b d → HasWords d (separators def.lists)
    → Grown d e → is_among e.words.items (codes "(") ≡ true → Grown e f → is_among f.words.items (codes ")") ≡ true → IsVocabulary def f
whole def a b d e f base g x h y i z j w = record {
  base = j.base ∙ i.base ∙ h.base ∙ g.base ∙ base;
  consistent = j.consistent;
  words = λ v among. j.keeps v (i.keeps v (has_more b d (operator_words def.operators) (separators def.lists) (operator_words def.operators ++ separators def.lists) refl x h.keeps y v among));
  opening = j.keeps (codes "(") z;
  closing = w;
}
