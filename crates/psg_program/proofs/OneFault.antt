-- Bytes are one program, or are none for one reason at one place.
use Rattle.std.proofs.Common.{◌≡◌, ◌⊎◌, inl, inr, ℕ, zero, suc, ◌+◌, ◌<◌, ◌≤◌, List, [], ◌∷◌, ◌++◌, length, take, chars, slice_get, None, Some, refl, sym, ap, ap₂, ◌∙◌, subst, append_assoc, arith}
use Rattle.std.specs.Str.{IsUtf8, IsValidUpTo}
use Rattle.std.proofs.lemmas.List.{take_all}
use Rattle.std.proofs.lemmas.Option.{none-some}
use Rattle.psg_grammar.specs.declared.types.Definition.{Definition}
use Rattle.psg_grammar.specs.declared.types.Kind.{Kind}
use Rattle.psg_grammar.specs.Fragments.{Fragment}
use Rattle.psg_grammar.specs.Sizes.{IsBig, IsDeep}
use Rattle.psg_grammar.specs.WellFormed.{fixed_words}
use Rattle.psg_lexis.specs.declared.token.LexFault.{LexFault}
use Rattle.psg_lexis.specs.declared.token.Spanned.{Spanned}
use Rattle.psg_lexis.specs.Faults.{HasFault}
use Rattle.psg_lexis.proofs.Laws.{no_fault_with_tokens, only_fault as one_lexical_fault, only_tokens}
use Rattle.psg_class.specs.Class.{IsClass}
use Rattle.psg_class.specs.Only.{IsOnly}
use Rattle.psg_class.specs.Terminals.{Terminal, Token}
use Rattle.psg_class.specs.Texts.{ReadsAs, TextTokens, tokens_of}
use Rattle.psg_class.specs.Yields.{Yields}
use Rattle.psg_class.proofs.Law.{only_trees}
use Rattle.psg_parse.specs.Stops.{Begins, IsStop, MayEnd}
use Rattle.psg_program.specs.Decoding.{unmarked}
use Rattle.psg_program.specs.Expected.{AreExpected, AreTold, IsEndTold, end_left_out, end_told, none_told, one_left_out, one_told, terminals_in_order}
use Rattle.psg_program.specs.Messages.{byte_of, lexical_message, stop_byte, stop_message}
use Rattle.psg_program.specs.OneAnswer.{HasOneAnswer}
use Rattle.psg_program.specs.Places.{IsAt}
use Rattle.psg_program.specs.Programs.{HasNoProgram, IsFaulty, IsProgram, IsProgramText, no_program, no_tokens, no_tree, no_utf8, too_deep, too_large}

-- ---- numbers and places

not_less : (a b : ℕ) → (a < b → ⊥) → (b < a → ⊥) → a ≡ b
not_less a b first second = elim (cases a b) [ inl lt ↦ absurd (first lt) | inr le ↦ equal le ] where
  cases : (a b : ℕ) → (a < b) ⊎ (b ≤ a)
  cases a zero = inr (omega arith)
  cases zero (suc b) = inl (omega arith)
  cases (suc a) (suc b) = elim (cases a b) [ inl h ↦ inl (omega (arith, h)) | inr h ↦ inr (omega (arith, h)) ]

  equal : b ≤ a → a ≡ b
  equal le = elim (cases b a) [ inl lt ↦ absurd (second lt) | inr ge ↦ omega (arith, le, ge) ]

one_place : (text : List ℕ) (byte line column line' column' : ℕ) → IsAt text byte line column
    → IsAt text byte line' column' → (line' ≡ line) × (column' ≡ column)
one_place text byte line column line' column' a b = (b.line_is ∙ sym a.line_is, b.column_is ∙ sym a.column_is)

-- ---- bytes that are no text

valid_once : (bs : List ℕ) (n m : ℕ) → IsValidUpTo bs n → IsValidUpTo bs m → n ≡ m
valid_once bs n m a b = not_less n m (λ lt. a.longest m lt b.front) (λ lt. b.longest n lt a.front)

no_text : (bs : List ℕ) (n : ℕ) → IsValidUpTo bs n → IsUtf8 bs → ⊥
no_text bs n v utf8 =
    v.longest (length bs) v.short (subst IsUtf8 (sym (take_all (length bs) bs (omega arith))) utf8)

-- ---- the stop

upto : (xs : List Token) (j k : ℕ) → j < k → k ≤ length xs
    → (t : Token) × ((rest : List Token) × ((slice_get xs j ≡ Some t) × (take k xs ≡ (take j xs ++ t ∷ []) ++ rest)))
upto [] j k lt le = absurd (omega (arith, lt, le))
upto (x ∷ xs) j zero lt le = absurd (omega (arith, lt))
upto (x ∷ xs) zero (suc k) lt le = (x, (take k xs, (refl, refl)))
upto (x ∷ xs) (suc j) (suc k) lt le =
    let (t, (rest, (there, is))) = upto xs j k (omega (arith, lt)) (omega (arith, le)) in
    (t, (rest, (there, ap (λ l. x ∷ l) is)))

module _ (def : Definition) (kind : Kind) where
  begins_front : (xs ys : List Token) → Begins def kind 0 (xs ++ ys) → Begins def kind 0 xs
  begins_front xs ys b = record {
    more = ys ++ b.more;
    tree = b.tree;
    nesting = b.nesting;
    yields = subst (Yields def b.tree kind 0 b.nesting) (append_assoc xs ys b.more) b.yields;
  }

  not_before : (ts : List Token) (j k : ℕ) → IsStop def kind 0 ts j → IsStop def kind 0 ts k → j < k → ⊥
  not_before ts j k a b lt =
      let (t, (rest, (there, is))) = upto ts j k lt b.inside in
      a.stops t t there refl (begins_front (take j ts ++ t ∷ []) rest (subst (Begins def kind 0) is b.front))

  stop_once : (ts : List Token) (j k : ℕ) → IsStop def kind 0 ts j → IsStop def kind 0 ts k → j ≡ k
  stop_once ts j k a b = not_less j k (not_before ts j k a b) (not_before ts k j b a)

-- ---- what is told

told_once : {Goes : Terminal → Type 0} (ts : List Terminal) (ws vs : List (List ℕ)) → AreTold Goes ts ws
    → AreTold Goes ts vs → vs ≡ ws
told_once [] [] [] none_told none_told = refl
told_once [] [] (v ∷ vs) a b = elim b [ ]
told_once [] (w ∷ ws) vs a b = elim a [ ]
told_once (t ∷ ts) (w ∷ ws) (v ∷ vs) (one_told goes a) (one_told goes' b) = ap (λ l. w ∷ l) (told_once ts ws vs a b)
told_once (t ∷ ts) (w ∷ ws) vs (one_told goes a) (one_left_out never b) = absurd (never goes)
told_once (t ∷ ts) ws (v ∷ vs) (one_left_out never a) (one_told goes b) = absurd (never goes)
told_once (t ∷ ts) ws vs (one_left_out never a) (one_left_out never' b) = told_once ts ws vs a b

end_once : {Ends : Type 0} (ws vs : List (List ℕ)) → IsEndTold Ends ws → IsEndTold Ends vs → vs ≡ ws
end_once ws vs (end_told e) (end_told e') = refl
end_once ws vs (end_told e) (end_left_out never) = absurd (never e)
end_once ws vs (end_left_out never) (end_told e) = absurd (never e)
end_once ws vs (end_left_out never) (end_left_out never') = refl

expected_once : (def : Definition) (kind : Kind) (ts : List Token) (ws vs : List (List ℕ))
    → AreExpected def kind ts ws → AreExpected def kind ts vs → vs ≡ ws
expected_once def kind ts ws vs a b =
    b.whole ∙ ap₂ (λ x y. x ++ y) (told_once (terminals_in_order def) a.terminals b.terminals a.are_told b.are_told)
    (end_once a.ends b.ends a.is_end_told b.is_end_told) ∙ sym a.whole

-- ---- the text

module _ (def : Definition) (class : IsClass def) (kind : Kind) (text : List ℕ) where
  same_tokens : (ts us : List Spanned) → TextTokens def text ts → TextTokens def text us → us ≡ ts
  same_tokens ts us a b = only_tokens (fixed_words def) (chars text) 0 us ts b a

  no_fault : (ts : List Spanned) (fault : LexFault) → TextTokens def text ts
      → HasFault (fixed_words def) (chars text) 0 fault → ⊥
  no_fault ts fault a h = no_fault_with_tokens (fixed_words def) (chars text) 0 ts fault a h

  same_tree : (f g : Fragment) (n m : ℕ) → ReadsAs def kind 0 text f n → ReadsAs def kind 0 text g m → IsOnly f g n m
  same_tree f g n m r q =
      only_trees def class kind 0 (tokens_of q.tokens) f g n m
      (subst (λ ts. Yields def f kind 0 n (tokens_of ts)) (same_tokens q.tokens r.tokens q.are r.are) r.yields) q.yields

  has_tree : (ts : List Spanned) (f : Fragment) (n : ℕ) → TextTokens def text ts → ReadsAs def kind 0 text f n
      → MayEnd def kind 0 (tokens_of ts)
  has_tree ts f n are r =
      (f, n, subst (λ us. Yields def f kind 0 n (tokens_of us)) (same_tokens ts r.tokens are r.are) r.yields)

  deep_once : (f g : Fragment) (n m : ℕ) → ReadsAs def kind 0 text f n → ReadsAs def kind 0 text g m
      → IsDeep f ⊎ (400 < n) → (IsDeep g → ⊥) → m ≤ 400 → ⊥
  deep_once f g n m r q deep not_deep within =
      let one = same_tree f g n m r q in
      elim deep [
        | inl d ↦ not_deep (subst IsDeep one.tree d)
        | inr nests ↦ (let same = one.nesting in omega (arith, same, nests, within))
      ]

  -- a program has none of the faults
  not_both : (byte : ℕ) (message : List ℕ) (f : Fragment) → IsProgramText def kind text f
      → HasNoProgram def kind text byte message → ⊥
  not_both byte message f p (no_tokens fault h) = no_fault p.reads.tokens fault p.reads.are h
  not_both byte message f p (no_tree ts stop words are none is expected) =
      none (has_tree ts f p.nesting are p.reads)
  not_both byte message f p (too_deep g n r deep) = deep_once g f n p.nesting r p.reads deep p.depth p.brackets
  not_both byte message f p (too_large g n r not_deep within big) =
      p.small (subst IsBig (same_tree g f n p.nesting r p.reads).tree big)

  one_reason : (byte byte' : ℕ) (message message' : List ℕ) → HasNoProgram def kind text byte message
      → HasNoProgram def kind text byte' message' → (byte' ≡ byte) × (message' ≡ message)
  one_reason byte byte' message message' (no_tokens fault h) (no_tokens fault' h') =
      let same : fault' ≡ fault = one_lexical_fault (fixed_words def) (chars text) 0 fault' fault h' h in
      (ap byte_of same, ap lexical_message same)
  one_reason byte byte' message message' (no_tokens fault h) (no_tree ts stop words are none is expected) =
      absurd (no_fault ts fault are h)
  one_reason byte byte' message message' (no_tokens fault h) (too_deep g n r deep) =
      absurd (no_fault r.tokens fault r.are h)
  one_reason byte byte' message message' (no_tokens fault h) (too_large g n r not_deep within big) =
      absurd (no_fault r.tokens fault r.are h)
  one_reason byte byte' message message' (no_tree ts stop words are none is expected) (no_tokens fault h) =
      absurd (no_fault ts fault are h)
  one_reason byte byte' message message' (no_tree ts stop words are none is expected)
      (no_tree us halt others own never at wanted) =
      let row : us ≡ ts = same_tokens ts us are own in
      let place : stop ≡ halt =
      stop_once def kind (tokens_of ts) stop halt is (subst (λ l. IsStop def kind 0 (tokens_of l) halt) row at) in
      let here : AreExpected def kind (take stop (tokens_of ts)) others =
      subst (λ k. AreExpected def kind (take k (tokens_of ts)) others) (sym place)
      (subst (λ l. AreExpected def kind (take halt (tokens_of l)) others) row wanted) in
      let told : others ≡ words = expected_once def kind (take stop (tokens_of ts)) words others expected here in (
        ap (λ l. stop_byte l halt) row ∙ ap (stop_byte ts) (sym place),
        ap (λ l. stop_message text l halt others) row ∙ ap (λ k. stop_message text ts k others) (sym place)
            ∙ ap (stop_message text ts stop) told,
      )
  one_reason byte byte' message message' (no_tree ts stop words are none is expected) (too_deep g n r deep) =
      absurd (none (has_tree ts g n are r))
  one_reason byte byte' message message' (no_tree ts stop words are none is expected)
      (too_large g n r not_deep within big) = absurd (none (has_tree ts g n are r))
  one_reason byte byte' message message' (too_deep g n r deep) (no_tokens fault h) =
      absurd (no_fault r.tokens fault r.are h)
  one_reason byte byte' message message' (too_deep g n r deep) (no_tree ts stop words are none is expected) =
      absurd (none (has_tree ts g n are r))
  one_reason byte byte' message message' (too_deep g n r deep) (too_deep f m q deep') = (refl, refl)
  one_reason byte byte' message message' (too_deep g n r deep) (too_large f m q not_deep within big) =
      absurd (deep_once g f n m r q deep not_deep within)
  one_reason byte byte' message message' (too_large g n r not_deep within big) (no_tokens fault h) =
      absurd (no_fault r.tokens fault r.are h)
  one_reason byte byte' message message' (too_large g n r not_deep within big)
      (no_tree ts stop words are none is expected) = absurd (none (has_tree ts g n are r))
  one_reason byte byte' message message' (too_large g n r not_deep within big) (too_deep f m q deep) =
      absurd (deep_once f g m n q r deep not_deep within)
  one_reason byte byte' message message' (too_large g n r not_deep within big) (too_large f m q not_deep' within' big') =
      (refl, refl)

-- ---- bytes

module _ (def : Definition) (class : IsClass def) where
  never_both : (kind : Kind) (bytes : List ℕ) (f : Fragment) (line column : ℕ) (message : List ℕ)
      → IsProgram def kind bytes f → IsFaulty def kind bytes line column message → ⊥
  never_both kind bytes f line column message p (no_utf8 count l c valid at) = no_text (unmarked bytes) count valid p.is_text
  never_both kind bytes f line column message p (no_program byte l c told utf8 none at) =
      not_both def class kind (unmarked bytes) byte told f p.is_read none

  once : (kind : Kind) (bytes : List ℕ) (line column line' column' : ℕ) (message message' : List ℕ)
      → IsFaulty def kind bytes line column message → IsFaulty def kind bytes line' column' message'
      → (line' ≡ line) × (column' ≡ column) × (message' ≡ message)
  once kind bytes line column line' column' message message' (no_utf8 n l c valid at) (no_utf8 m l' c' valid' at') =
      let same : m ≡ n = valid_once (unmarked bytes) m n valid' valid in
      let both = one_place (take n (unmarked bytes)) n line column line' column' at
      (subst (λ k. IsAt (take k (unmarked bytes)) k line' column') same at') in
      (both.0, both.1, refl)
  once kind bytes line column line' column' message message' (no_utf8 n l c valid at) (no_program byte l' c' told utf8 none at') =
      absurd (no_text (unmarked bytes) n valid utf8)
  once kind bytes line column line' column' message message' (no_program byte l c told utf8 none at) (no_utf8 m l' c' valid at') =
      absurd (no_text (unmarked bytes) m valid utf8)
  once kind bytes line column line' column' message message' (no_program byte l c told utf8 none at)
      (no_program byte' l' c' told' utf8' none' at') =
      let (here, same) = one_reason def class kind (unmarked bytes) byte byte' message message' none none' in
      let both = one_place (unmarked bytes) byte line column line' column' at
      (subst (λ b. IsAt (unmarked bytes) b line' column') here at') in
      (both.0, both.1, same)

  pub has_one_answer : HasOneAnswer def
  has_one_answer = record {
    one_program = λ kind bytes f g p q.
        (same_tree def class kind (unmarked bytes) f g p.is_read.nesting q.is_read.nesting p.is_read.reads q.is_read.reads).tree;
    not_both = never_both;
    one_fault = once;
  }
