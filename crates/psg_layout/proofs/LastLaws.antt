-- All lines of a layout together.
use Rattle.std.proofs.Common.{◌≡◌, inl, inr, ℕ, zero, suc, ◌+◌, ◌<◌, ◌≤◌, ◌==◌, Bool, true, false, cond, List, [], ◌∷◌, ◌++◌, length, map, take, drop, get_or, Some, None, refl, sym, ap, ap₂, subst, ◌∙◌, append-nil, append_assoc, arith}
use Rattle.std.specs.Borrow.{Bor}
use Rattle.std.specs.Prelude.{IsUtf8}
use Rattle.std.specs.List.{AllByRecursion}
use Rattle.std.specs.Str.{IsValidUpTo}
use Rattle.std.specs.Str.Lines.{lines}
use Rattle.std.proofs.lemmas.List.{take_more, take_all, map-append}
use Rattle.psg_grammar.specs.declared.types.Definition.{Definition}
use Rattle.psg_grammar.specs.Sound.{IsSound}
use Rattle.psg_grammar.proofs.NamePlaces.{only_op}
use Rattle.psg_deflines.specs.Entries.{IsSkipped}
use Rattle.psg_deflines.specs.Refusals.{line_feeds}
use Rattle.psg_layout.specs.declared.layout.Layout.{Layout}
use Rattle.psg_layout.specs.declared.reading.Failed.{Failed}
use Rattle.psg_layout.specs.declared.reading.Read.{Read}
use Rattle.psg_layout.specs.declared.layout.LayoutFault.{LayoutFault}
use Rattle.psg_layout.specs.declared.layout.LayoutFault.TheVariants as faults
use Rattle.psg_layout.specs.Layouts.{Rule, group, break, SpellsRule, Test, tests, code_of, IsFirstFailing, Passes, AreRules, AreGroups, AreBreaks, AreLayout, IsBadLine, LayoutRefusal, no_text, no_rule, IsLayoutFault, IsLayoutOf}
use Rattle.psg_layout.specs.Reading.{test_of, IsRead, Accepts, IsLineRead, IsLineFault}
use Rattle.psg_layout.proofs.ReadLaws.{spells_one, not_skipped}

-- ---- what fails a test does not pass them all

all_pass : (Holds : Test → Type 0) (ts : List Test) (t : Test) → AllByRecursion Holds ts → IsFirstFailing Holds ts t → ⊥
all_pass Holds [] t a f = f
all_pass Holds (c ∷ ts) t a (inl f) = f.0 a.0
all_pass Holds (c ∷ ts) t a (inr f) = all_pass Holds ts t a.1 f.1

module _ (def : Definition) where
  skipped_passes : (rules : List Rule) (text : List ℕ) → IsSkipped text → AllByRecursion (Passes def rules text) tests
  skipped_passes rules text s =
      (inl s, ((λ r h. absurd (not_skipped text r s h)), ((λ r h. absurd (not_skipped text r s h)), ((λ r h. absurd (not_skipped text r s h)), tt))))

  -- ---- one more line

  pub more_skipped : (above : List Rule) (front : List (List ℕ)) (rs : List Rule) (text : List ℕ) → AreRules def above front rs → IsSkipped text → AreRules def above (front ++ text ∷ []) rs
  more_skipped above [] rs text a s = inl (s, a)
  more_skipped above (x ∷ front) rs text (inl a) s = inl (a.0, more_skipped above front rs text a.1 s)
  more_skipped above (x ∷ front) rs text (inr a) s = inr (a.0, a.1, a.2, a.3, a.4, more_skipped (above ++ a.0 ∷ []) front a.1 text a.5 s)

  pub more_rule : (above : List Rule) (front : List (List ℕ)) (rs : List Rule) (text : List ℕ) (r : Rule) → AreRules def above front rs → SpellsRule text r
      → AllByRecursion (Passes def (above ++ rs) text) tests → AreRules def above (front ++ text ∷ []) (rs ++ r ∷ [])
  more_rule above [] rs text r a s p =
      inr (r, [], ap (λ z. z ++ r ∷ []) a, s, subst (λ z. AllByRecursion (Passes def z text) tests) (ap (λ z. above ++ z) a ∙ append-nil above) p, refl)
  more_rule above (x ∷ front) rs text r (inl a) s p = inl (a.0, more_rule above front rs text r a.1 s p)
  more_rule above (x ∷ front) rs text r (inr a) s p =
      inr (
        a.0,
        a.1 ++ r ∷ [],
        ap (λ z. z ++ r ∷ []) a.2,
        a.3,
        a.4,
        more_rule (above ++ a.0 ∷ []) front a.1 text r a.5 s
            (subst (λ z. AllByRecursion (Passes def z text) tests) (ap (λ z. above ++ z) a.2 ∙ sym (append_assoc above (a.0 ∷ []) a.1)) p),
      )

  -- ---- the lines say one list of rules

  pub same_rules : (above : List Rule) (ts : List (List ℕ)) (rs qs : List Rule) → AreRules def above ts rs → AreRules def above ts qs → rs ≡ qs
  same_rules above [] rs qs a b = a ∙ sym b
  same_rules above (t ∷ ts) rs qs (inl a) (inl b) = same_rules above ts rs qs a.1 b.1
  same_rules above (t ∷ ts) rs qs (inl a) (inr b) = absurd (not_skipped t b.0 a.0 b.3)
  same_rules above (t ∷ ts) rs qs (inr a) (inl b) = absurd (not_skipped t a.0 b.0 a.3)
  same_rules above (t ∷ ts) rs qs (inr a) (inr b) =
      let one : b.0 ≡ a.0 = spells_one t b.0 a.0 b.3 a.3 in
      let rest : a.1 ≡ b.1 = same_rules (above ++ a.0 ∷ []) ts a.1 b.1 a.5 (subst (λ r. AreRules def (above ++ r ∷ []) ts b.1) one b.5) in
      a.2 ∙ ap₂ (λ x y. x ∷ y) (sym one) rest ∙ sym b.2

  no_bad : (above : List Rule) (front : List (List ℕ)) (text : List ℕ) (behind : List (List ℕ)) (rs rules : List Rule) (t : Test) → AreRules def above (front ++ text ∷ behind) rs
      → AreRules def above front rules → IsFirstFailing (Passes def (above ++ rules) text) tests t → ⊥
  no_bad above [] text behind rs rules t (inl a) b f =
      all_pass (Passes def (above ++ rules) text) tests t (skipped_passes (above ++ rules) text a.0) f
  no_bad above [] text behind rs rules t (inr a) b f =
      all_pass (Passes def (above ++ rules) text) tests t
      (subst (λ z. AllByRecursion (Passes def z text) tests) (sym (ap (λ z. above ++ z) b ∙ append-nil above)) a.4) f
  no_bad above (x ∷ front) text behind rs rules t (inl a) (inl b) f = no_bad above front text behind rs rules t a.1 b.1 f
  no_bad above (x ∷ front) text behind rs rules t (inl a) (inr b) f = not_skipped x b.0 a.0 b.3
  no_bad above (x ∷ front) text behind rs rules t (inr a) (inl b) f = not_skipped x a.0 b.0 a.3
  no_bad above (x ∷ front) text behind rs rules t (inr a) (inr b) f =
      let one : b.0 ≡ a.0 = spells_one x b.0 a.0 b.3 a.3 in
      no_bad (above ++ a.0 ∷ []) front text behind a.1 b.1 t a.5 (subst (λ r. AreRules def (above ++ r ∷ []) front b.1) one b.5)
      (subst (λ z. IsFirstFailing (Passes def z text) tests t)
      (ap (λ z. above ++ z) (b.2 ∙ ap (λ r. r ∷ b.1) one) ∙ sym (append_assoc above (a.0 ∷ []) b.1)) f)

  pub faultless : (ts : List (List ℕ)) (l : Layout) (line code : ℕ) → AreLayout def ts l → IsBadLine def ts line code → ⊥
  faultless ts l line code a b = no_bad [] b.front b.text b.behind a.rules b.rules b.test (subst (λ z. AreRules def [] z a.rules) b.split a.are) b.are b.fails

  module _ (sound : IsSound def) where
    groups_one : (rules : List Rule) (gs hs : List ℕ) → AreGroups def rules gs → AreGroups def rules hs → gs ≡ hs
    groups_one [] gs hs a b = a ∙ sym b
    groups_one (group n ∷ rules) gs hs a b =
        a.2 ∙ ap₂ (λ x y. x ∷ y) (only_op def sound.operator_names a.0 b.0 n a.3 b.3) (groups_one rules a.1 b.1 a.4 b.4) ∙ sym b.2
    groups_one (break n k ∷ rules) gs hs a b = groups_one rules gs hs a b

    breaks_one : (rules : List Rule) (gs hs : List (ℕ × ℕ)) → AreBreaks def rules gs → AreBreaks def rules hs → gs ≡ hs
    breaks_one [] gs hs a b = a ∙ sym b
    breaks_one (group n ∷ rules) gs hs a b = breaks_one rules gs hs a b
    breaks_one (break n k ∷ rules) gs hs a b =
        a.2 ∙ ap₂ (λ x y. (x, k) ∷ y) (only_op def sound.operator_names a.0 b.0 n a.3 b.3) (breaks_one rules a.1 b.1 a.4 b.4) ∙ sym b.2

    pub only : (ts : List (List ℕ)) (l m : Layout) → AreLayout def ts l → AreLayout def ts m → m ≡ l
    only ts l m a b =
        let r : b.rules ≡ a.rules = same_rules [] ts b.rules a.rules b.are a.are in
        ap₂ (λ g h. record { groups = g; breaks = h })
        (groups_one a.rules m.groups l.groups (subst (λ z. AreGroups def z m.groups) r b.groups) a.groups)
        (breaks_one a.rules m.breaks l.breaks (subst (λ z. AreBreaks def z m.breaks) r b.breaks) a.breaks)

-- ---- line feeds

feed_first : (x : Bool) → cond {A = ℕ} x (1 + 0) 0 ≡ 0 + cond {A = ℕ} x 1 0
feed_first true = omega arith
feed_first false = omega arith

feed_later : (x : Bool) (n m k : ℕ) → n ≡ m + k → cond {A = ℕ} x (1 + n) n ≡ cond {A = ℕ} x (1 + m) m + k
feed_later true n m k e = omega (arith, e)
feed_later false n m k e = e

feeds-snoc : (a : List ℕ) (c : ℕ) → line_feeds (a ++ c ∷ []) ≡ line_feeds a + cond {A = ℕ} (c == 10) 1 0
feeds-snoc [] c = feed_first (c == 10)
feeds-snoc (x ∷ a) c = feed_later (x == 10) (line_feeds (a ++ c ∷ [])) (line_feeds a) (cond {A = ℕ} (c == 10) 1 0) (feeds-snoc a c)

pub line_next : (xs : List ℕ) (i line next : ℕ) → i < length xs → line ≡ line_feeds (take i xs) + 1 → next ≡ line + cond {A = ℕ} (get_or xs i 0 == 10) 1 0
    → next ≡ line_feeds (take (i + 1) xs) + 1
line_next xs i line next l e f =
    let m = ap line_feeds (take_more xs i 0 l) ∙ feeds-snoc (take i xs) (get_or xs i 0) in
    omega (arith, e, f, m)

-- ---- the loop

abbrev pub shown : List (Bor (List ℕ)) → List (List ℕ)
shown ts = map (λ (t : Bor (List ℕ)). t.now) ts

abbrev pub no_text_there : Bor (List ℕ)
no_text_there = record { ref_ptr = (0, 0); now = [] }

-- The first lines were read; the next line has this number.
pub record AreRead (def : Definition) (ts : List (Bor (List ℕ))) (i line : ℕ) (r : Read) : Type 0 where
  pub rules : List Rule
  pub are : AreRules def [] (shown (take i ts)) rules
  pub read : IsRead def r rules
  pub line_is : line ≡ i + 1

halves : (n : ℕ) (xs : List (Bor (List ℕ))) → xs ≡ take n xs ++ drop n xs
halves zero xs = refl
halves (suc n) [] = refl
halves (suc n) (x ∷ xs) = ap (λ z. x ∷ z) (halves n xs)

long : (n : ℕ) (xs : List (Bor (List ℕ))) → n ≤ length xs → length (shown (take n xs)) ≡ n
long zero xs h = refl
long (suc n) [] h = absurd (omega (arith, h))
long (suc n) (x ∷ xs) h = let k = long n xs (omega (arith, h)) in omega (arith, k)

module _ (def : Definition) (ts : List (Bor (List ℕ))) where
  pub read_init : (r : Read) → IsRead def r [] → AreRead def ts 0 1 r
  read_init r h = record { rules = []; are = refl; read = h; line_is = refl }

  pub read_next : (i line next : ℕ) (d : Bor (List ℕ)) (old new : Read) → i < length ts → AreRead def ts i line old
      → IsLineRead def (get_or ts i d).now old new None → next ≡ line + 1 → AreRead def ts (i + 1) next new
  read_next i line next d old new l a h e = by (h a.rules a.read)
    where
      longer : shown (take (i + 1) ts) ≡ shown (take i ts) ++ (get_or ts i d).now ∷ []
      longer = ap shown (take_more ts i d l) ∙ map-append (λ (t : Bor (List ℕ)). t.now) (take i ts) (get_or ts i d ∷ [])

      number : next ≡ (i + 1) + 1
      number = let f = a.line_is in omega (arith, e, f)

      by : Accepts def (get_or ts i d).now a.rules new → AreRead def ts (i + 1) next new
      by (inl s) = record {
        rules = a.rules;
        are = subst (λ z. AreRules def [] z a.rules) (sym longer) (more_skipped def [] (shown (take i ts)) a.rules (get_or ts i d).now a.are s.0);
        read = s.1;
        line_is = number;
      }
      by (inr s) = record {
        rules = a.rules ++ s.0 ∷ [];
        are = subst (λ z. AreRules def [] z (a.rules ++ s.0 ∷ [])) (sym longer) (more_rule def [] (shown (take i ts)) a.rules (get_or ts i d).now s.0 a.are s.1.0 s.1.1.0);
        read = s.1.1.1;
        line_is = number;
      }

  pub read_bad : (i line code : ℕ) (d : Bor (List ℕ)) (old new : Read) (f : Failed) → i < length ts → AreRead def ts i line old
      → IsLineRead def (get_or ts i d).now old new (Some f) → code ≡ code_of (test_of f) → IsBadLine def (shown ts) line code
  read_bad i line code d old new f l a h e = record {
    front = shown (take i ts);
    text = (get_or ts i d).now;
    behind = shown (drop (i + 1) ts);
    split =
        ap shown (halves (i + 1) ts ∙ ap (λ z. z ++ drop (i + 1) ts) (take_more ts i d l) ∙ append_assoc (take i ts) (get_or ts i d ∷ []) (drop (i + 1) ts))
        ∙ map-append (λ (t : Bor (List ℕ)). t.now) (take i ts) (get_or ts i d ∷ drop (i + 1) ts);
    rules = a.rules;
    are = a.are;
    test = test_of f;
    fails = h a.rules a.read;
    line_is = let n = long i ts (omega (arith, l)) in let m = a.line_is in omega (arith, m, n);
    code_is = e;
  }

  pub read_end : (i line : ℕ) (r : Read) (l : Layout) → length ts ≤ i → AreRead def ts i line r → l.groups ≡ r.groups.items → l.breaks ≡ r.breaks.items → AreLayout def (shown ts) l
  read_end i line r l e a g b = record {
    rules = a.rules;
    are = subst (λ z. AreRules def [] (shown z) a.rules) (take_all i ts e) a.are;
    groups = subst (AreGroups def a.rules) (sym g) a.read.groups;
    breaks = subst (AreBreaks def a.rules) (sym b) a.read.breaks;
  }

-- ---- the bytes

module _ (def : Definition) (bytes text : List ℕ) (same : text ≡ bytes) (utf8 : IsUtf8 bytes) where
  pub bytes_layout : (l : Layout) → AreLayout def (lines text) l → IsLayoutOf def bytes l
  bytes_layout l a = record { utf8 = utf8; spelled = subst (λ t. AreLayout def (lines t) l) same a }

  pub bytes_only : IsSound def → (l m : Layout) → AreLayout def (lines text) l → IsLayoutOf def bytes m → m ≡ l
  bytes_only sound l m a b = only def sound (lines bytes) l m (subst (λ t. AreLayout def (lines t) l) same a) b.spelled

  pub bytes_faultless : (l : Layout) → AreLayout def (lines text) l → (line code : ℕ) → LayoutRefusal def bytes line code → ⊥
  bytes_faultless l a line code (no_text n bad e c) =
      bad.longest (length bytes) bad.inside (omega arith) (subst IsUtf8 (sym (take_all (length bytes) bytes (omega arith))) utf8)
  bytes_faultless l a line code (no_rule u bad) = faultless def (lines bytes) l line code (subst (λ t. AreLayout def (lines t) l) same a) bad

  pub bytes_fault : (f : LayoutFault) → IsLineFault def (lines text) f → IsLayoutFault def bytes f
  bytes_fault faults.Memory h = tt
  bytes_fault (faults.Line line code) h = no_rule utf8 (subst (λ t. IsBadLine def (lines t) line code) same h)

pub bytes_no_text : (def : Definition) (bytes : List ℕ) (n : ℕ) (f : LayoutFault) → IsValidUpTo bytes n → f ≡ faults.Line (line_feeds (take n bytes) + 1) 1 → IsLayoutFault def bytes f
bytes_no_text def bytes n f valid e =
    subst (IsLayoutFault def bytes) (sym e)
    (no_text n (record { inside = valid.short; before = valid.front; longest = λ m l f. valid.longest m l }) refl refl)
