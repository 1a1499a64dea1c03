-- A file is refused with one fault at most.
use Rattle.std.proofs.Common.{◌≡◌, inl, inr, ℕ, ◌+◌, List, [], ◌∷◌, ◌++◌, length, take, Some, refl, ap, ap₂, sym, ◌∙◌, subst, arith}
use Rattle.std.specs.Prelude.{IsUtf8}
use Rattle.std.specs.List.{AllByRecursion}
use Rattle.std.specs.Str.Lines.{lines as texts_of}
use Rattle.std.proofs.lemmas.Bool.{cases_order}
use Rattle.std.proofs.lemmas.List.{take_all}
use Rattle.psg_deflines.specs.Entries.{Entry, written, AreEntries, behind_head, IsPlain}
use Rattle.psg_deflines.specs.Refusals.{IsFirstOf, PassesForm, form_codes, line_feeds, IsFirstBad, HasFormFault, FormRefusal, no_text, no_head, no_form}
use Rattle.psg_deflines.specs.declared.fault.DefCode.{DefCode}
use Rattle.psg_deflines.specs.declared.fault.DefFault.{DefFault}
use Rattle.psg_deflines.specs.declared.lines.Line.{Line}
use Rattle.psg_defcheck.specs.Faults.{meaning_codes, PassesMeaning, ArePassed, IsMeaningFault}
use Rattle.psg_defread.specs.Refusals.{Refusal}
use Rattle.psg_defread.specs.Refusals as refusals
use Rattle.psg_defread.proofs.Faultless.{all_pass, passed_at, all_of}
use Rattle.psg_defcheck.proofs.GroundLaws.{written-append}
use Rattle.psg_defread.proofs.JoinFaults.{SpellOnce, heads-same, entries-once, clean-at, clean}

same_fault : (f g : DefFault) → f.line ≡ g.line → f.code ≡ g.code → f ≡ g
same_fault f g e d = ap₂ (λ (l : ℕ) (c : DefCode). record { line = l; code = c }) e d

-- the first test that fails is one
first_once : (Passes : DefCode → Type 0) (tests : List DefCode) (c d : DefCode) → IsFirstOf Passes tests c → IsFirstOf Passes tests d → c ≡ d
first_once Passes [] c d h k = absurd h
first_once Passes (t ∷ tests) c d (inl (fails, e)) (inl (again, i)) = e ∙ sym i
first_once Passes (t ∷ tests) c d (inl (fails, e)) (inr (passes, k)) = absurd (fails passes)
first_once Passes (t ∷ tests) c d (inr (passes, h)) (inl (fails, i)) = absurd (fails passes)
first_once Passes (t ∷ tests) c d (inr (passes, h)) (inr (again, k)) = first_once Passes tests c d h k

-- ---- two places in one list

-- they are the same, or the first is before the second
data Places {X : Type 0} (f g : List X) (x y : X) : Type 0 where
  same_place : f ≡ g → x ≡ y → Places f g x y
  before : (mid : List X) → g ≡ f ++ x ∷ mid → Places f g x y
  after : (mid : List X) → f ≡ g ++ y ∷ mid → Places f g x y

further : {X : Type 0} (z : X) (f g : List X) (x y : X) → Places f g x y → Places (z ∷ f) (z ∷ g) x y
further z f g x y (same_place e d) = same_place (ap (λ l. z ∷ l) e) d
further z f g x y (before mid e) = before mid (ap (λ l. z ∷ l) e)
further z f g x y (after mid e) = after mid (ap (λ l. z ∷ l) e)

places : {X : Type 0} (f g : List X) (x y : X) (b c : List X) → f ++ x ∷ b ≡ g ++ y ∷ c → Places f g x y
places [] [] x y b c e = same_place refl (cc)
places [] (z ∷ g) x y b c e = before g (let d : x ≡ z = cc in ap (λ w. w ∷ g) (sym d))
places (z ∷ f) [] x y b c e = after f (let d : z ≡ y = cc in ap (λ w. w ∷ f) d)
places {X} (z ∷ f) (w ∷ g) x y b c e =
    let d : z ≡ w = cc in
    let rest : f ++ x ∷ b ≡ g ++ y ∷ c = cc in
    subst (λ (v : X). Places (z ∷ f) (v ∷ g) x y) d (further z f g x y (places f g x y b c rest))

-- ---- faults of form

bad_once : (bytes : List ℕ) (n m : ℕ) → IsFirstBad bytes n → IsFirstBad bytes m → n ≡ m
bad_once bytes n m h k = elim (cases_order n m) [
  | inl e ↦ e
  | inr (inl lt) ↦ absurd (h.longest m lt (omega (arith, k.inside)) k.before)
  | inr (inr gt) ↦ absurd (k.longest n gt (omega (arith, h.inside)) h.before)
]

not_bad : (bytes : List ℕ) (n : ℕ) → IsUtf8 bytes → IsFirstBad bytes n → ⊥
not_bad bytes n utf8 bad = bad.longest (length bytes) bad.inside (omega arith) (subst IsUtf8 (sym (take_all (length bytes) bytes (omega arith))) utf8)

module _ (once : SpellOnce) where
  -- a text before a faulty one has no fault
  passed_over : (version : ℕ) (front : List (List ℕ)) (t : List ℕ) (mid whole : List (List ℕ)) (es fs : List Entry) (code : DefCode) → whole ≡ front ++ t ∷ mid
      → AreEntries [] whole es → AllByRecursion (IsPlain version) (written es) → AreEntries [] front fs → IsFirstOf (PassesForm version (written fs) t) form_codes code → ⊥
  passed_over version front t mid whole es fs code e all plain each first =
      all_pass (PassesForm version (written fs) t) form_codes code
      (clean-at once version [] front t mid es fs (subst (λ w. AreEntries [] w es) e all) each plain) first

  form_once : (version : ℕ) (texts : List (List ℕ)) (f g : DefFault) → HasFormFault version texts f → HasFormFault version texts g → f ≡ g
  form_once version texts f g h k = by (places h.front k.front h.text k.text h.behind k.behind (sym h.split ∙ k.split)) where
    by : Places h.front k.front h.text k.text → f ≡ g
    by (same_place e d) =
        let each : AreEntries [] h.front k.entries = subst (λ l. AreEntries [] l k.entries) (sym e) k.each in
        let es : h.entries ≡ k.entries = entries-once once [] h.front h.entries k.entries h.each each in
        same_fault f g (h.place ∙ ap (λ l. length l + 2) e ∙ sym k.place)
        (first_once (PassesForm version (written h.entries) h.text) form_codes f.code g.code h.first
        (subst (λ l. IsFirstOf (PassesForm version (written l) h.text) form_codes g.code) (sym es)
        (subst (λ t. IsFirstOf (PassesForm version (written k.entries) t) form_codes g.code) (sym d) k.first)))
    by (before mid e) = absurd (passed_over version h.front h.text mid k.front k.entries h.entries f.code e k.each k.plain h.each h.first)
    by (after mid e) = absurd (passed_over version k.front k.text mid h.front h.entries k.entries g.code e h.each h.plain k.each k.first)

  form_refusal_once : (bytes : List ℕ) (f g : DefFault) → FormRefusal bytes f → FormRefusal bytes g → f ≡ g
  form_refusal_once bytes f g (no_text n h l c) (no_text m k j d) =
      same_fault f g (l ∙ ap (λ i. line_feeds (take i bytes) + 1) (bad_once bytes n m h k) ∙ sym j) (c ∙ sym d)
  form_refusal_once bytes f g (no_text n h l c) (no_head u k j d) = absurd (not_bad bytes n u h)
  form_refusal_once bytes f g (no_text n h l c) (no_form w u head k) = absurd (not_bad bytes n u h)
  form_refusal_once bytes f g (no_head u h l c) (no_text m k j d) = absurd (not_bad bytes m u k)
  form_refusal_once bytes f g (no_head u h l c) (no_head v k j d) = same_fault f g (l ∙ sym j) (c ∙ sym d)
  form_refusal_once bytes f g (no_head u h l c) (no_form w v head k) = absurd (h w head)
  form_refusal_once bytes f g (no_form w u head h) (no_text m k j d) = absurd (not_bad bytes m u k)
  form_refusal_once bytes f g (no_form w u head h) (no_head v k j d) = absurd (k w head)
  form_refusal_once bytes f g (no_form w u head h) (no_form x v top k) =
      form_once w (behind_head (texts_of bytes)) f g h (subst (λ n. HasFormFault n (behind_head (texts_of bytes)) g) (heads-same x w (texts_of bytes) top head) k)

  -- ---- faults of meaning

  -- a line before a faulty one passes
  passed_line : (file : List Line) (front : List Entry) (line : Line) (mid whole : List Entry) (code : DefCode) → whole ≡ front ++ Some line ∷ mid
      → ArePassed file [] (written whole) → IsFirstOf (PassesMeaning file (written front) line) meaning_codes code → ⊥
  passed_line file front line mid whole code e passed first =
      all_pass (PassesMeaning file (written front) line) meaning_codes code
      (passed_at file [] (written front) line (written mid) (subst (ArePassed file []) (ap written e ∙ written-append front (Some line ∷ mid)) passed)) first

  meaning_once : (entries : List Entry) (f g : DefFault) → IsMeaningFault entries f → IsMeaningFault entries g → f ≡ g
  meaning_once entries f g h k = by (places h.front k.front (Some h.line) (Some k.line) h.behind k.behind (sym h.split ∙ k.split)) where
    by : Places h.front k.front (Some h.line) (Some k.line) → f ≡ g
    by (same_place e d) =
        let same : h.line ≡ k.line = cc in
        same_fault f g (h.place ∙ ap (λ l. length l + 2) e ∙ sym k.place)
        (first_once (PassesMeaning (written entries) (written h.front) h.line) meaning_codes f.code g.code h.first
        (subst (λ l. IsFirstOf (PassesMeaning (written entries) (written l) h.line) meaning_codes g.code) (sym e)
        (subst (λ x. IsFirstOf (PassesMeaning (written entries) (written k.front) x) meaning_codes g.code) (sym same) k.first)))
    by (before mid e) = absurd (passed_line (written entries) h.front h.line mid k.front f.code e k.passed h.first)
    by (after mid e) = absurd (passed_line (written entries) k.front k.line mid h.front g.code e h.passed k.first)

  -- ---- both

  pub fault_once : (bytes : List ℕ) (f g : DefFault) → Refusal bytes f → Refusal bytes g → f ≡ g
  fault_once bytes f g (refusals.no_form h) (refusals.no_form k) = form_refusal_once bytes f g h k
  fault_once bytes f g (refusals.no_form h) (refusals.no_meaning v utf8 head m) =
      absurd (clean once v bytes m.entries utf8 (record { head = head; each = m.each; of_version = all_of v (written m.entries) m.plain }) m.plain f h)
  fault_once bytes f g (refusals.no_meaning v utf8 head m) (refusals.no_form k) =
      absurd (clean once v bytes m.entries utf8 (record { head = head; each = m.each; of_version = all_of v (written m.entries) m.plain }) m.plain g k)
  fault_once bytes f g (refusals.no_meaning v utf8 head m) (refusals.no_meaning w again top n) =
      let es : n.entries ≡ m.entries = entries-once once [] (behind_head (texts_of bytes)) n.entries m.entries n.each m.each in
      meaning_once m.entries f g m.meaning (subst (λ l. IsMeaningFault l g) es n.meaning)
