-- The first stop is that of the definition itself.
use Rattle.std.proofs.Common.{◌≡◌, ◌↔◌, ◌⊎◌, inl, inr, ℕ, zero, suc, ◌<◌, ◌≤◌, Bool, true, false, cond, List, [], ◌∷◌, ◌++◌, map, length, take, chars, Option, Some, None, slice_get, refl, ap, ap₂, sym, ◌∙◌, subst, append-nil, true≢false, arith}
use Rattle.std.specs.List.{AllByRecursion}
use Rattle.std.proofs.lemmas.Bool.{cases_Bool, cases_lt}
use Rattle.std.proofs.lemmas.List.{length-map}
use Rattle.std.specs.Prelude.{codes}
use Rattle.psg_terms.specs.Names.{is_among}
use Rattle.psg_terms.proofs.Lists.{slice_get-map_some}
use Rattle.psg_lexis.specs.Classes.{is_solo}
use Rattle.psg_grammar.specs.declared.types.Kind.{Kind}
use Rattle.psg_grammar.specs.declared.types.Phylum.{Phylum}
use Rattle.psg_grammar.specs.declared.types.Definition.{Definition}
use Rattle.psg_grammar.specs.Sound.{IsSound}
use Rattle.psg_grammar.specs.WellFormed.{fixed_words}
use Rattle.psg_lexis.specs.declared.token.Spanned.{Spanned}
use Rattle.psg_lexis.proofs.Laws.{no_fault_with_tokens, only_tokens}
use Rattle.psg_class.specs.Class.{IsClass}
use Rattle.psg_class.specs.Terminals.{Terminal, Token, a_hole, dots, numeral, placeholder, fixed_if, is_run, is_word, quoted, solo, symbols, terminal_of, word, word_terminal}
use Rattle.psg_class.specs.Texts.{TextTokens, tokens_of}
use Rattle.psg_class.specs.Yields.{Yields}
use Rattle.psg_parse.specs.Stops.{Begins, IsStop, MayEnd}
use Rattle.psg_program.specs.Expected.{AreExpected, AreTold, AreToldBoth, IsEndTold, end_left_out, end_told, none_told, one_left_out, one_told, terminals_in_order}
use Rattle.psg_program.specs.Messages.{end_of_last, enumerated, start_or, stop_byte, stop_message, unexpected}
use Rattle.psg_program.specs.Programs.{HasNoProgram, no_tokens, no_tree, too_deep, too_large}
use Rattle.psg_program.proofs.Told.{both_so}
use Rattle.psg_stop.specs.Accepted.{CanEnd}
use Rattle.psg_stop.specs.Wanted.{GoesWith}
use Rattle.psg_recover.specs.declared.finding.Finding.{Finding}
use Rattle.psg_recover.specs.Findings.{error_at}
use Rattle.psg_recover.specs.Grammars.{plain_phylum, quiet}
use Rattle.psg_recover.specs.Leaving.{BeginsAsFormat}
use Rattle.psg_recover.specs.Reads.{is_declaring_name, own_spanned, own_token}
use Rattle.psg_recover.specs.Recovery.{AreStops, HasStops, IsExpected, IsStopTold, all_read, last_stop, read_on}
use Rattle.psg_recover.proofs.CandidateLaws.{begins_front}
use Rattle.psg_recover.proofs.FilledLaws.{Filled, IsOwnToken, filled_front, filled_whole, is_filled}
use Rattle.psg_recover.proofs.LosesLaws.{IsYielded, all_yielded, own_yielded, programs_lose_nothing}
use Rattle.psg_recover.proofs.QuietItems.{map_back}
use Rattle.psg_recover.proofs.QuietYields.{token_same, yields_there}
use Rattle.psg_recover.proofs.RowLaws.{in_take}
use Rattle.psg_recover.proofs.StandLaws.{declaring_is, has_name}
use Rattle.psg_known.proofs.KnownLaws.{holes_declare_not}

-- ---- lists

all_front : {X : Type 0} (P : X → Type 0) (xs ys : List X) → AllByRecursion P (xs ++ ys) → AllByRecursion P xs
all_front P [] ys h = tt
all_front P (x ∷ xs) ys (p, h) = (p, all_front P xs ys h)

all_last : {X : Type 0} (P : X → Type 0) (xs : List X) (y : X) (ys : List X) → AllByRecursion P ((xs ++ y ∷ []) ++ ys) → P y
all_last P [] y ys h = h.0
all_last P (x ∷ xs) y ys h = all_last P xs y ys h.1

all_push : {X : Type 0} (P : X → Type 0) (xs : List X) (y : X) → AllByRecursion P xs → P y → AllByRecursion P (xs ++ y ∷ [])
all_push P [] y h p = (p, tt)
all_push P (x ∷ xs) y (q, h) p = (q, all_push P xs y h p)

take_map : {X Y : Type 0} (f : X → Y) (n : ℕ) (xs : List X) → take n (map f xs) ≡ map f (take n xs)
take_map f zero xs = refl
take_map f (suc n) [] = refl
take_map f (suc n) (x ∷ xs) = ap (λ l. f x ∷ l) (take_map f n xs)

-- ---- what is told once

told_once : {Goes : Terminal → Type 0} (ts : List Terminal) (ws vs : List (List ℕ)) → AreTold Goes ts ws → AreTold Goes ts vs → vs ≡ ws
told_once [] [] [] none_told none_told = refl
told_once [] [] (v ∷ vs) a b = elim b [ ]
told_once [] (w ∷ ws) vs a b = elim a [ ]
told_once (t ∷ ts) (w ∷ ws) (v ∷ vs) (one_told goes a) (one_told goes' b) = ap (λ l. w ∷ l) (told_once ts ws vs a b)
told_once (t ∷ ts) (w ∷ ws) vs (one_told goes a) (one_left_out never b) = absurd (never goes)
told_once (t ∷ ts) ws (v ∷ vs) (one_left_out never a) (one_told goes b) = absurd (never goes)
told_once (t ∷ ts) ws vs (one_left_out never a) (one_left_out never' b) = told_once ts ws vs a b

end_once : {Ends : Type 0} (ws vs : List (List ℕ)) → IsEndTold Ends ws → IsEndTold Ends vs → vs ≡ ws
end_once ws vs (end_told e) (end_told e') = refl
end_once ws vs (end_told e) (end_left_out never) = absurd (never e)
end_once ws vs (end_left_out never) (end_told e) = absurd (never e)
end_once ws vs (end_left_out never) (end_left_out never') = refl

-- ---- a placeholder is seen as no other token

word_not : (w : List ℕ) (a b : Bool) (name : List ℕ) → word_terminal w a b ≡ a_hole name → ⊥
word_not w true true name e = cc
word_not w true false name e = cc
word_not w false b name e = cc

fixed_not : (b : Bool) (w name : List ℕ) → fixed_if b w ≡ a_hole name → ⊥
fixed_not true w name e = cc
fixed_not false w name e = cc

-- ---- the row of the tokens as they are read

module _ (def : Definition) where
  abbrev Q : Definition
  Q = quiet def

  abbrev Own : List Token → Type 0
  Own ts = AllByRecursion (IsOwnToken def) ts

  abbrev read : List Token → List Token
  read ts = map (own_token def) ts

  read_tokens : (ts : List Spanned) → tokens_of (map (own_spanned def) ts) ≡ read (tokens_of ts)
  read_tokens [] = refl
  read_tokens (t ∷ ts) = ap (λ (l : List Token). own_token def t.token ∷ l) (read_tokens ts)

  end_same : (ts : List Spanned) (byte : ℕ) → end_of_last byte (map (own_spanned def) ts) ≡ end_of_last byte ts
  end_same [] byte = refl
  end_same (t ∷ ts) byte = end_same ts t.end

  byte_by : (ts : List Spanned) (k : ℕ) (byte : ℕ) → start_or (slice_get (map (own_spanned def) ts) k) byte ≡ start_or (slice_get ts k) byte
  byte_by [] k byte = refl
  byte_by (t ∷ ts) zero byte = refl
  byte_by (t ∷ ts) (suc k) byte = byte_by ts k byte

  byte_same : (ts : List Spanned) (k : ℕ) → stop_byte (map (own_spanned def) ts) k ≡ stop_byte ts k
  byte_same ts k = byte_by ts k (end_of_last 0 (map (own_spanned def) ts)) ∙ ap (start_or (slice_get ts k)) (end_same ts 0)

  there_same : (text : List ℕ) (ts : List Spanned) (k : ℕ) → unexpected text (slice_get (map (own_spanned def) ts) k) ≡ unexpected text (slice_get ts k)
  there_same text [] k = refl
  there_same text (t ∷ ts) zero = refl
  there_same text (t ∷ ts) (suc k) = there_same text ts k

  own_or : (t : Token) → IsOwnToken def t ⊎ (own_token def t ≡ placeholder [])
  own_or (placeholder name) = elim (cases_Bool (is_declaring_name def 0 def.phyla name)) [
    | inl lost ↦ inr (ap (λ b. placeholder (cond b [] name)) lost)
    | inr own ↦ inl own
  ]
  own_or (word x) = inl tt
  own_or (numeral n) = inl tt
  own_or (quoted t) = inl tt
  own_or (solo c) = inl tt
  own_or (symbols x) = inl tt
  own_or dots = inl tt

  own_is : (t : Token) → IsOwnToken def t → own_token def t ≡ t
  own_is (placeholder name) h = ap (λ b. placeholder (cond b [] name)) h
  own_is (word x) h = refl
  own_is (numeral n) h = refl
  own_is (quoted t) h = refl
  own_is (solo c) h = refl
  own_is (symbols x) h = refl
  own_is dots h = refl

  read_own : (ts : List Token) → Own ts → read ts ≡ ts
  read_own [] h = refl
  read_own (t ∷ ts) h = ap₂ (λ (a : Token) (b : List Token). a ∷ b) (own_is t h.0) (read_own ts h.1)

  hole_terminal_is : (t : Token) → ((name : List ℕ) → terminal_of def t ≡ a_hole name → is_declaring_name def 0 def.phyla name ≡ false) → IsOwnToken def t
  hole_terminal_is (placeholder name) h = h name refl
  hole_terminal_is (word x) h = tt
  hole_terminal_is (numeral n) h = tt
  hole_terminal_is (quoted t) h = tt
  hole_terminal_is (solo c) h = tt
  hole_terminal_is (symbols x) h = tt
  hole_terminal_is dots h = tt

  module _ (ends : CanEnd def) (kind : Kind) where
    yielded_own : (t : Token) → IsYielded def t → IsOwnToken def t
    yielded_own (placeholder name) (p, phylum, at, named, holes) =
        ap (is_declaring_name def 0 def.phyla) (sym named) ∙ declaring_is def ends.sound p phylum at ∙ holes_declare_not def p holes
    yielded_own (word x) h = tt
    yielded_own (numeral n) h = tt
    yielded_own (quoted t) h = tt
    yielded_own (solo c) h = tt
    yielded_own (symbols x) h = tt
    yielded_own dots h = tt

    all_own : (ts : List Token) → AllByRecursion (IsYielded def) ts → Own ts
    all_own [] h = tt
    all_own (t ∷ ts) h = (yielded_own t h.0, all_own ts h.1)

    -- what begins a tree of the definition has only placeholders of the language
    begins_own : (ts : List Token) → Begins def kind 0 ts → Own ts
    begins_own ts b = all_own ts (all_front (IsYielded def) ts b.more (all_yielded def b.tree kind 0 b.nesting (ts ++ b.more) b.yields))

    begins_there : (ts : List Token) → Begins def kind 0 ts → Begins Q kind 0 ts
    begins_there ts b = record { more = b.more; tree = b.tree; nesting = b.nesting; yields = yields_there def b.tree kind 0 b.nesting (ts ++ b.more) b.yields }

    begins_back : (ts : List Token) → Own ts → Begins Q kind 0 ts → Begins def kind 0 ts
    begins_back ts own b =
        let f = is_filled def ends b.tree kind b.nesting (ts ++ b.more) b.yields in
        let (more, e) = filled_front def ts b.more f.tokens f.filled own in
        record { more = more; tree = f.tree; nesting = f.depth; yields = subst (Yields def f.tree kind 0 f.depth) e f.yields }

    ends_there : (ts : List Token) → MayEnd def kind 0 ts → MayEnd Q kind 0 ts
    ends_there ts (tree, nesting, yields) = (tree, nesting, yields_there def tree kind 0 nesting ts yields)

    ends_back : (ts : List Token) → Own ts → MayEnd Q kind 0 ts → MayEnd def kind 0 ts
    ends_back ts own (tree, nesting, yields) =
        let f = is_filled def ends tree kind nesting ts yields in
        (f.tree, f.depth, subst (Yields def f.tree kind 0 f.depth) (filled_whole def ts f.tokens f.filled own) f.yields)

    -- no tree has a placeholder without a name
    no_nameless : (t : Token) → t ≡ placeholder [] → IsYielded Q t → ⊥
    no_nameless (placeholder name) e (p, phylum, at, named, holes) =
        let (k, there, same) = map_back plain_phylum def.phyla p phylum at in
        let bare : name ≡ [] = cc in
        has_name def ends.sound p k there (sym (ap (λ (j : Phylum). j.name) same) ∙ named ∙ bare)
    no_nameless (word x) e h = absurd (cc)
    no_nameless (numeral n) e h = absurd (cc)
    no_nameless (quoted t) e h = absurd (cc)
    no_nameless (solo c) e h = absurd (cc)
    no_nameless (symbols x) e h = absurd (cc)
    no_nameless dots e h = absurd (cc)

    -- a token after own ones, as it is read
    begins_one : (ts : List Token) (t : Token) → Own ts → Begins Q kind 0 (ts ++ own_token def t ∷ []) → Begins def kind 0 (ts ++ t ∷ [])
    begins_one ts t own b = elim (own_or t) [
      | inl h ↦ begins_back (ts ++ t ∷ []) (all_push (IsOwnToken def) ts t own h) (subst (λ (u : Token). Begins Q kind 0 (ts ++ u ∷ [])) (own_is t h) b)
      | inr e ↦ absurd (no_nameless (own_token def t) e (all_last (IsYielded Q) ts (own_token def t) b.more (all_yielded Q b.tree kind 0 b.nesting ((ts ++ own_token def t ∷ []) ++ b.more) b.yields)))
    ]

    module _ (ts : List Token) (k j : ℕ) (stop : IsStop def kind 0 ts k) (other : IsStop Q kind 0 (read ts) j) where
      own_before : Own (take k ts)
      own_before = begins_own (take k ts) stop.front

      front_same : take k (read ts) ≡ take k ts
      front_same = take_map (own_token def) k ts ∙ read_own (take k ts) own_before

      many : length (read ts) ≡ length ts
      many = length-map ts (own_token def)

      not_less : k < j → ⊥
      not_less lt =
          let inside : k < length (read ts) = let h = other.inside in omega (arith, lt, h) in
          let (u, at, rest, e) = in_take (read ts) k j lt inside in
          let b : Begins Q kind 0 (take k (read ts) ++ u ∷ []) = begins_front Q kind (take k (read ts) ++ u ∷ []) rest (subst (Begins Q kind 0) e other.front) in
          let (t, there, is) = map_back (own_token def) ts k u at in
          let c : Begins Q kind 0 (take k ts ++ own_token def t ∷ []) = subst (λ (l : List Token). Begins Q kind 0 (l ++ own_token def t ∷ [])) front_same (subst (λ (x : Token). Begins Q kind 0 (take k (read ts) ++ x ∷ [])) is b) in
          stop.stops t t there refl (begins_one (take k ts) t own_before c)

      not_more : j < k → ⊥
      not_more lt =
          let inside : j < length ts = let h = stop.inside in omega (arith, lt, h) in
          let (t, at, rest, e) = in_take ts j k lt inside in
          let b : Begins def kind 0 (take j ts ++ t ∷ []) = begins_front def kind (take j ts ++ t ∷ []) rest (subst (Begins def kind 0) e stop.front) in
          let own = begins_own (take j ts ++ t ∷ []) b in
          let c : Begins Q kind 0 (take j ts ++ t ∷ []) = begins_there (take j ts ++ t ∷ []) b in
          let before : take j (read ts) ≡ take j ts = take_map (own_token def) j ts ∙ read_own (take j ts) (all_front (IsOwnToken def) (take j ts) (t ∷ []) own) in
          let same : own_token def t ≡ t = own_is t (all_last (IsOwnToken def) (take j ts) t [] (subst Own (sym (append-nil (take j ts ++ t ∷ []))) own)) in
          let d : Begins Q kind 0 (take j (read ts) ++ own_token def t ∷ []) =
          subst (λ (l : List Token). Begins Q kind 0 (l ++ own_token def t ∷ [])) (sym before) (subst (λ (x : Token). Begins Q kind 0 (take j ts ++ x ∷ [])) (sym same) c) in
          other.stops (own_token def t) (own_token def t) (slice_get-map_some (own_token def) ts j t at) refl d

      pub one_stop : j ≡ k
      one_stop = elim (cases_lt k j) [
        | inl lt ↦ absurd (not_less lt)
        | inr le ↦ elim (cases_lt j k) [ inl lt ↦ absurd (not_more lt) | inr ge ↦ omega (arith, le, ge) ]
      ]

    -- what may come next
    goes_same : (ts : List Token) → Own ts → (t : Terminal) → GoesWith def kind 0 ts t ↔ IsExpected def kind ts t
    goes_same ts own t = (
      λ g.
          let all = begins_own (ts ++ g.token ∷ []) g.begins in
          let last : IsOwnToken def g.token = all_last (IsOwnToken def) ts g.token [] (subst Own (sym (append-nil (ts ++ g.token ∷ []))) all) in
          record {
            goes = record { token = g.token; is = token_same def g.token ∙ g.is; begins = begins_there (ts ++ g.token ∷ []) g.begins };
            own = λ name e. own_name g.token name last (g.is ∙ e);
          },
      λ x.
          let g = x.goes in
          let seen : terminal_of def g.token ≡ t = sym (token_same def g.token) ∙ g.is in
          let last : IsOwnToken def g.token = hole_terminal_is g.token (λ name e. x.own name (sym seen ∙ e)) in
          record { token = g.token; is = seen; begins = begins_back (ts ++ g.token ∷ []) (all_push (IsOwnToken def) ts g.token own last) g.begins },
    )
      where
        own_name : (u : Token) (name : List ℕ) → IsOwnToken def u → terminal_of def u ≡ a_hole name → is_declaring_name def 0 def.phyla name ≡ false
        own_name (placeholder p) name h e = let same : p ≡ name = cc in subst (λ n. is_declaring_name def 0 def.phyla n ≡ false) same h
        own_name (word w) name h e = absurd (word_not w (is_word w) (is_among (fixed_words def) w) name e)
        own_name (numeral n) name h e = absurd (cc)
        own_name (quoted q) name h e = absurd (cc)
        own_name (solo c) name h e = absurd (fixed_not (is_solo c) (c ∷ []) name e)
        own_name (symbols w) name h e = absurd (fixed_not (is_run w) w name e)
        own_name dots name h e = absurd (cc)

    ends_same : (ts : List Token) → Own ts → MayEnd def kind 0 ts ↔ MayEnd Q kind 0 ts
    ends_same ts own = (ends_there ts, ends_back ts own)

    told_same : (text : List ℕ) (ts : List Spanned) (k : ℕ) (words : List (List ℕ)) (told : Finding) → IsStop def kind 0 (tokens_of ts) k → AreExpected def kind (take k (tokens_of ts)) words
        → (j : ℕ) → IsStopTold def kind text (map (own_spanned def) ts) j told → told ≡ error_at (stop_byte ts k) (stop_message text ts k words)
    told_same text ts k words told stop expected j is =
        let row = map (own_spanned def) ts in
        let raw = tokens_of ts in
        let there : IsStop Q kind 0 (read raw) j = subst (λ (l : List Token). IsStop Q kind 0 l j) (read_tokens ts) is.stop in
        let same : j ≡ k = one_stop raw k j stop there in
        let own = own_before raw k j stop there in
        let front : take j (tokens_of row) ≡ take k raw = ap (take j) (read_tokens ts) ∙ ap (λ n. take n (read raw)) same ∙ front_same raw k j stop there in
        let mine = both_so (goes_same (take k raw) own) (ends_same (take k raw) own) (terminals_in_order def) words expected in
        let a : AreTold (IsExpected def kind (take k raw)) (terminals_in_order def) is.words = subst (λ (l : List Token). AreTold (IsExpected def kind l) (terminals_in_order def) is.words) front is.are_told in
        let b : IsEndTold (MayEnd Q kind 0 (take k raw)) is.ends = subst (λ (l : List Token). IsEndTold (MayEnd Q kind 0 l) is.ends) front is.is_end_told in
        let all : is.words ++ is.ends ≡ words = ap₂ (λ (x y : List (List ℕ)). x ++ y) (told_once (terminals_in_order def) mine.terminals is.words mine.are_told a) (end_once mine.ends is.ends mine.is_end_told b) ∙ sym mine.whole in
        is.told_is
        ∙ ap (λ n. error_at (stop_byte row n) (stop_message text row n (is.words ++ is.ends))) same
        ∙ ap₂ error_at (byte_same ts k) (message_same ts k (is.words ++ is.ends) ∙ ap (stop_message text ts k) all)
      where
        message_same : (us : List Spanned) (n : ℕ) (ws : List (List ℕ)) → stop_message text (map (own_spanned def) us) n ws ≡ stop_message text us n ws
        message_same us n ws = ap (λ u. codes "unexpected " ++ (u ++ (codes ", expected " ++ enumerated ws))) (there_same text us n)

  module _ (ends : CanEnd def) where
    first_told : (kind : Kind) (text : List ℕ) (ts row : List Spanned) (k : ℕ) (words : List (List ℕ)) (stops : List Finding) (last : Option (List Spanned)) → row ≡ map (own_spanned def) ts
        → IsStop def kind 0 (tokens_of ts) k → AreExpected def kind (take k (tokens_of ts)) words → AreStops def kind text 0 row stops last
        → (stops ≡ []) ⊎ ((more : List Finding) × (stops ≡ error_at (stop_byte ts k) (stop_message text ts k words) ∷ more))
    first_told kind text ts row k words stops last same stop expected (all_read n us may) = inl refl
    first_told kind text ts row k words stops last same stop expected (last_stop n j us told is why) =
        inr ([], ap (λ (x : Finding). x ∷ []) (told_same ends kind text ts k words told stop expected j (subst (λ (r : List Spanned). IsStopTold def kind text r j told) same is)))
    first_told kind text ts row k words stops last same stop expected (read_on {found = found} n j m i p us phylum told is lt best rest) =
        inr (found, ap (λ (x : Finding). x ∷ found) (told_same ends kind text ts k words told stop expected j (subst (λ (r : List Spanned). IsStopTold def kind text r j told) same is)))

    pub begins_as_format : IsClass def → BeginsAsFormat def
    begins_as_format class kind text byte message (no_tokens fault bad) stops last h = absurd (no_fault_with_tokens (fixed_words def) (chars text) 0 h.tokens fault h.are bad)
    begins_as_format class kind text byte message (no_tree ts k words are none stop expected) stops last h =
        let one : h.tokens ≡ ts = only_tokens (fixed_words def) (chars text) 0 h.tokens ts h.are are in
        first_told kind text ts (map (own_spanned def) h.tokens) k words stops last (ap (map (own_spanned def)) one) stop expected h.stops
    begins_as_format class kind text byte message (too_deep f nesting reads deep) stops last h = inl ((programs_lose_nothing def ends class kind text f nesting reads).stops stops last h).0
    begins_as_format class kind text byte message (too_large f nesting reads flat few big) stops last h = inl ((programs_lose_nothing def ends class kind text f nesting reads).stops stops last h).0
