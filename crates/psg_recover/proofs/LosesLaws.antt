-- Nothing is lost of a text that is a program.
use Rattle.std.proofs.Common.{◌≡◌, ℕ, suc, max, Bool, true, false, cond, List, [], ◌∷◌, ◌++◌, map, chars, Option, Some, slice_get, refl, ap, ap₂, sym, ◌∙◌, subst}
use Rattle.std.specs.List.{AllByRecursion}
use Rattle.psg_terms.proofs.Lists.{each_append}
use Rattle.psg_grammar.specs.declared.types.Kind.{Kind}
use Rattle.psg_grammar.specs.declared.types.Kind.TheVariants as kinds
use Rattle.psg_grammar.specs.declared.types.Item.{Item}
use Rattle.psg_grammar.specs.declared.types.Operator.{Operator}
use Rattle.psg_grammar.specs.declared.types.Phylum.{Phylum}
use Rattle.psg_grammar.specs.declared.types.Definition.{Definition}
use Rattle.psg_grammar.specs.Declaring.{HasHoles}
use Rattle.psg_grammar.specs.Fragments.{Fragment, hole, ending, cell, operator, with_child, with_name, with_number, with_text, anything, observed}
use Rattle.psg_grammar.specs.Paths.{ended}
use Rattle.psg_grammar.specs.Sound.{IsSound}
use Rattle.psg_grammar.specs.WellFormed.{fixed_words}
use Rattle.psg_lexis.specs.declared.token.Spanned.{Spanned}
use Rattle.psg_lexis.proofs.Laws.{only_tokens}
use Rattle.psg_class.specs.Class.{IsClass}
use Rattle.psg_class.specs.Places.{solid}
use Rattle.psg_class.specs.Terminals.{Token, close_bracket, dots, fixed, numeral, open_bracket, placeholder, quoted, solo, symbols, terminal_of, word}
use Rattle.psg_class.specs.Texts.{ReadsAs, TextTokens, tokens_of}
use Rattle.psg_class.specs.Yields.{ListYields, PartsYield, SomeYield, TreeYields, Yields, and_elements, and_more, elements, in_brackets, last_element, no_elements, no_items, of_declares, of_hole, of_list_slot, of_number, of_operator, of_refers, of_slot, of_text, of_word, only_more}
use Rattle.psg_class.proofs.Law.{only_trees}
use Rattle.psg_known.proofs.KnownLaws.{holes_declare_not}
use Rattle.psg_parse.specs.Stops.{MayEnd}
use Rattle.psg_stop.specs.Accepted.{CanEnd}
use Rattle.psg_recover.specs.declared.finding.Finding.{Finding}
use Rattle.psg_recover.specs.Grammars.{quiet}
use Rattle.psg_recover.specs.Leaving.{LosesNothing, ProgramsLoseNothing}
use Rattle.psg_recover.specs.Lost.{is_lost, left_out}
use Rattle.psg_recover.specs.Reads.{is_declaring_name, own_spanned, own_token}
use Rattle.psg_recover.specs.Recovery.{AreStops, all_read, last_stop, read_on}
use Rattle.psg_recover.proofs.QuietSound.{quiet_of_class}
use Rattle.psg_recover.proofs.QuietYields.{HasOwnHoles, own_holes, yields_there}
use Rattle.psg_recover.proofs.StandLaws.{declaring_is}

-- if the token is a placeholder, it is that of a phylum which has placeholders
abbrev pub IsYielded : Definition → Token → Type 0
IsYielded def (placeholder name) = (p : ℕ) × (phylum : Phylum) × (slice_get def.phyla p ≡ Some phylum) × (phylum.name ≡ name) × HasHoles def (kinds.Phylum p)
IsYielded def _ = Unit {0}

module _ (def : Definition) where
  abbrev All : List Token → Type 0
  All ts = AllByRecursion (IsYielded def) ts

  pub fixed_yielded : (t : Token) (w : List ℕ) → terminal_of def t ≡ fixed w → IsYielded def t
  fixed_yielded (placeholder p) w e = absurd (cc)
  fixed_yielded (word x) w e = tt
  fixed_yielded (numeral n) w e = tt
  fixed_yielded (quoted t) w e = tt
  fixed_yielded (solo c) w e = tt
  fixed_yielded (symbols x) w e = tt
  fixed_yielded dots w e = tt

  mutual
    tree_yielded : (f : Fragment) (p level depth : ℕ) (ts : List Token) → TreeYields def f p level depth ts → All ts
    tree_yielded f p level depth ts (of_hole phylum found holes) = ((p, phylum, found, refl, holes), tt)
    tree_yielded f p level depth ts (of_operator n o found same le parts) = parts_yielded o true (operator n) 0 (solid o.items) f depth ts parts
    tree_yielded f p level depth ts (in_brackets {ts = inside} phylum open_token close_token found bracketed opens closes inner) = (
      fixed_yielded open_token _ opens,
      each_append (IsYielded def) inside (close_token ∷ []) (tree_yielded f p 0 _ inside inner) (fixed_yielded close_token _ closes, tt),
    )

    parts_yielded : (o : Operator) (first : Bool) (f : Fragment) (d : ℕ) (is : List Item) (g : Fragment) (e : ℕ) (ts : List Token) → PartsYield def o first f d is g e ts → All ts
    parts_yielded o first f d is g e ts no_items = tt
    parts_yielded o first f d is g e ts (of_word t eq rest) = (fixed_yielded t _ eq, parts_yielded o false f d _ g e _ rest)
    parts_yielded o first f d is g e ts (of_refers r x eq rest) = (tt, parts_yielded o false (with_name f x) d _ g e _ rest)
    parts_yielded o first f d is g e ts (of_declares r x eq rest) = (tt, parts_yielded o false (with_name f x) d _ g e _ rest)
    parts_yielded o first f d is g e ts (of_number x rest) = (tt, parts_yielded o false (with_number f x) d _ g e _ rest)
    parts_yielded o first f d is g e ts (of_text x rest) = (tt, parts_yielded o false (with_text f x) d _ g e _ rest)
    parts_yielded o first f d is g e ts (of_slot {p = p} t depth own behind yields rest) =
        each_append (IsYielded def) own behind (tree_yielded t p _ depth own yields) (parts_yielded o false (with_child f t) (max d depth) _ g e behind rest)
    parts_yielded o first f d is g e ts (of_list_slot {l = l} t depth own behind yields rest) =
        each_append (IsYielded def) own behind (list_yielded t l depth own yields) (parts_yielded o false (with_child f t) (max d depth) _ g e behind rest)

    list_yielded : (f : Fragment) (l depth : ℕ) (ts : List Token) → ListYields def f l depth ts → All ts
    list_yielded f l depth ts (no_elements kind found) = tt
    list_yielded f l depth ts (only_more kind found unfinished) = (tt, tt)
    list_yielded f l depth ts (elements some) = some_yielded f l depth ts some

    some_yielded : (f : Fragment) (l depth : ℕ) (ts : List Token) → SomeYield def f l depth ts → All ts
    some_yielded f l depth ts (last_element {e = e} kind found yields) = tree_yielded e kind.element 0 depth ts yields
    some_yielded f l depth ts (and_more {e = e} own kind separator found unfinished is yields) =
        each_append (IsYielded def) own (separator ∷ dots ∷ []) (tree_yielded e kind.element 0 depth own yields) (fixed_yielded separator _ is, (tt, tt))
    some_yielded f l depth ts (and_elements {e = e} {r = r} kind m n own behind separator found is yields rest) =
        each_append (IsYielded def) own (separator ∷ behind) (tree_yielded e kind.element 0 m own yields) (fixed_yielded separator _ is, some_yielded r l n behind rest)

  pub all_yielded : (f : Fragment) (kind : Kind) (level depth : ℕ) (ts : List Token) → Yields def f kind level depth ts → All ts
  all_yielded f (kinds.Phylum p) level depth ts y = tree_yielded f p level depth ts y
  all_yielded f (kinds.List l) level depth ts y = list_yielded f l depth ts y

  -- ---- the tokens as they are read

  pub own_yielded : IsSound def → (t : Token) → IsYielded def t → own_token def t ≡ t
  own_yielded sound (placeholder name) (p, phylum, at, named, holes) =
      ap (λ b. placeholder (cond b [] name)) (ap (is_declaring_name def 0 def.phyla) (sym named) ∙ declaring_is def sound p phylum at ∙ holes_declare_not def p holes)
  own_yielded sound (word x) h = refl
  own_yielded sound (numeral n) h = refl
  own_yielded sound (quoted t) h = refl
  own_yielded sound (solo c) h = refl
  own_yielded sound (symbols x) h = refl
  own_yielded sound dots h = refl

  pub own_same : IsSound def → (ts : List Spanned) → All (tokens_of ts) → tokens_of (map (own_spanned def) ts) ≡ tokens_of ts
  own_same sound [] h = refl
  own_same sound (t ∷ ts) h = ap₂ (λ (a : Token) (b : List Token). a ∷ b) (own_yielded sound t.token h.0) (own_same sound ts h.1)

  -- ---- nothing is left out

  own_kept : (e : Fragment) → HasOwnHoles def e → is_lost def e ≡ false
  own_kept (hole p) h = holes_declare_not def p h
  own_kept (ending l u) h = refl
  own_kept (cell l e r) h = refl
  own_kept (operator o) h = refl
  own_kept (with_child f t) h = refl
  own_kept (with_name f x) h = refl
  own_kept (with_number f x) h = refl
  own_kept (with_text f x) h = refl
  own_kept anything h = refl
  own_kept (observed f) h = refl

  left_same : (f : Fragment) → HasOwnHoles def f → left_out def f ≡ f
  left_same (hole p) h = refl
  left_same (ending l u) h = refl
  left_same (cell l e r) h =
      ap (λ b. cond b (ended true (left_out def r)) (cell l (left_out def e) (left_out def r))) (own_kept e h.0)
      ∙ ap₂ (λ a b. cell l a b) (left_same e h.0) (left_same r h.1)
  left_same (operator o) h = refl
  left_same (with_child f t) h = ap₂ (λ a b. with_child a b) (left_same f h.0) (left_same t h.1)
  left_same (with_name f x) h = ap (λ a. with_name a x) (left_same f h)
  left_same (with_number f x) h = ap (λ a. with_number a x) (left_same f h)
  left_same (with_text f x) h = ap (λ a. with_text a x) (left_same f h)
  left_same anything h = refl
  left_same (observed f) h = ap observed (left_same f h)

  -- ---- no stops

  pub no_stops : (kind : Kind) (text : List ℕ) (n : ℕ) (ts : List Spanned) (found : List Finding) (last : Option (List Spanned)) → AreStops def kind text n ts found last
      → MayEnd (quiet def) kind 0 (tokens_of ts) → (found ≡ []) × (last ≡ Some ts)
  no_stops kind text n ts found last (all_read m us may) ends = (refl, refl)
  no_stops kind text n ts found last (last_stop m k us told is why) ends = absurd (is.none ends)
  no_stops kind text n ts found last (read_on m k j i p us phylum told is lt best rest) ends = absurd (is.none ends)

  module _ (ends : CanEnd def) (class : IsClass def) where
    loses : (kind : Kind) (text : List ℕ) (f : Fragment) (nesting : ℕ) (ts : List Spanned) → TextTokens def text ts → Yields def f kind 0 nesting (tokens_of ts) → LosesNothing def kind text f
    loses kind text f nesting ts are yields =
        let row = map (own_spanned def) ts in
        let same : tokens_of row ≡ tokens_of ts = own_same ends.sound ts (all_yielded f kind 0 nesting (tokens_of ts) yields) in
        let there : Yields (quiet def) f kind 0 nesting (tokens_of row) =
        subst (Yields (quiet def) f kind 0 nesting) (sym same) (yields_there def f kind 0 nesting (tokens_of ts) yields) in
        record {
          tokens = row;
          stops = λ found last h.
              let one : h.tokens ≡ ts = only_tokens (fixed_words def) (chars text) 0 h.tokens ts h.are are in
              no_stops kind text 0 row found last
              (subst (λ (us : List Spanned). AreStops def kind text 0 (map (own_spanned def) us) found last) one h.stops) (f, nesting, there);
          whole = λ whole parsed.
              (only_trees (quiet def) (quiet_of_class def ends class) kind 0 (tokens_of row) whole f parsed.nesting nesting parsed.reads there).tree;
          left = left_same f (own_holes def f kind 0 nesting (tokens_of ts) yields);
        }

    pub programs_lose_nothing : ProgramsLoseNothing def
    programs_lose_nothing kind text f nesting r = loses kind text f nesting r.tokens r.are r.yields
