-- The placeholders of what is read at last may take the place of tokens.
use Rattle.std.proofs.Common.{◌≡◌, ◌⊎◌, inl, inr, ℕ, zero, suc, ◌+◌, ◌<◌, ◌≤◌, ◌||◌, not, max, Bool, true, false, cond, List, [], ◌∷◌, ◌++◌, map, take, drop, Option, Some, None, slice_get, option_map, bytes_eq, refl, ap, sym, ◌∙◌, subst, true≢false, arith}
use Rattle.std.specs.List.{AllByRecursion}
use Rattle.std.proofs.lemmas.Bool.{cases_Bool}
use Rattle.std.proofs.lemmas.Option.{none-some}
use Rattle.std.proofs.lemmas.Slice.Eq.{bytes_eq-Decides}
use Rattle.psg_terms.specs.Names.{Name}
use Rattle.psg_terms.proofs.Lists.{each_at}
use Rattle.psg_grammar.specs.declared.types.Kind.{Kind}
use Rattle.psg_grammar.specs.declared.types.Kind.TheVariants as kinds
use Rattle.psg_grammar.specs.declared.types.Item.{Item}
use Rattle.psg_grammar.specs.declared.types.Operator.{Operator}
use Rattle.psg_grammar.specs.declared.types.Phylum.{Phylum}
use Rattle.psg_grammar.specs.declared.types.Definition.{Definition}
use Rattle.psg_grammar.specs.Fragments.{Fragment, operator, with_child, with_name, with_number, with_text}
use Rattle.psg_grammar.specs.Kinds.{kind_name_of}
use Rattle.psg_grammar.specs.Sound.{IsPhylum, IsSound, is_name_from, is_upper}
use Rattle.psg_grammar.proofs.NamePlaces.{only_kind}
use Rattle.psg_lexis.specs.declared.token.Spanned.{Spanned}
use Rattle.psg_class.specs.Places.{solid}
use Rattle.psg_class.specs.Terminals.{Token, dots, numeral, placeholder, quoted, solo, symbols, word}
use Rattle.psg_class.specs.Texts.{tokens_of}
use Rattle.psg_class.specs.Yields.{ListYields, PartsYield, SomeYield, TreeYields, Yields, and_elements, and_more, elements, in_brackets, last_element, no_elements, no_items, of_declares, of_hole, of_list_slot, of_number, of_operator, of_refers, of_slot, of_text, of_word, only_more}
use Rattle.psg_places.specs.Places.{declares}
use Rattle.psg_recover.specs.declared.finding.Finding.{Finding}
use Rattle.psg_recover.specs.Grammars.{plain_phylum, quiet}
use Rattle.psg_recover.specs.Leaving.{AreStandIns, IsStandIn, ReadStandIns, YieldStandIns}
use Rattle.psg_recover.specs.Reads.{is_declaring_name, own_spanned, own_token, stand_in}
use Rattle.psg_recover.specs.Recovery.{AreStops, HasStops, all_go_on, all_read, last_stop, may_stand, read_on, resumed_row}
use Rattle.psg_recover.proofs.QuietItems.{map_back}

-- ---- lists

all_front : {X : Type 0} (P : X → Type 0) (xs ys : List X) → AllByRecursion P (xs ++ ys) → AllByRecursion P xs
all_front P [] ys h = tt
all_front P (x ∷ xs) ys (p, h) = (p, all_front P xs ys h)

all_behind : {X : Type 0} (P : X → Type 0) (xs ys : List X) → AllByRecursion P (xs ++ ys) → AllByRecursion P ys
all_behind P [] ys h = h
all_behind P (x ∷ xs) ys (p, h) = all_behind P xs ys h

all_end : (P : Token → Type 0) (n : ℕ) (xs : List Spanned) → AllByRecursion P (tokens_of xs) → AllByRecursion P (tokens_of (drop n xs))
all_end P zero xs h = h
all_end P (suc n) [] h = tt
all_end P (suc n) (x ∷ xs) h = all_end P n xs h.1

-- the front of a row, one token, and its end
all_row : (P : Token → Type 0) (i j : ℕ) (ts us : List Spanned) (s : Spanned) → AllByRecursion P (tokens_of ts) → AllByRecursion P (tokens_of us) → P s.token
    → AllByRecursion P (tokens_of (take i ts ++ s ∷ drop j us))
all_row P zero j ts us s h k own = (own, all_end P j us k)
all_row P (suc i) j [] us s h k own = (own, all_end P j us k)
all_row P (suc i) j (t ∷ ts) us s h k own = (h.0, all_row P i j ts us s h.1 k own)

may_by : (a b : Bool) → a ≡ false → (not a || b) ≡ true
may_by true b e = absurd (true≢false e)
may_by false b e = refl

-- ---- names

module _ (def : Definition) where
  named_from : (ps : List Phylum) (n i : ℕ) (phylum : Phylum) (name : Name) → slice_get ps i ≡ Some phylum → phylum.name ≡ name
      → ((j : ℕ) (other : Phylum) → j < i → slice_get ps j ≡ Some other → other.name ≡ name → ⊥) → is_declaring_name def n ps name ≡ declares def (n + i)
  named_from [] n i phylum name at named only = absurd (none-some phylum at)
  named_from (x ∷ ps) n zero phylum name at named only =
      let same : x ≡ phylum = cc in
      let test : bytes_eq x.name name ≡ true = (bytes_eq-Decides x.name name).1 (ap (λ (q : Phylum). q.name) same ∙ named) in
      let place : n ≡ n + 0 = omega arith in
      ap (λ b. cond b (declares def n) (is_declaring_name def (suc n) ps name)) test ∙ ap (declares def) place
  named_from (x ∷ ps) n (suc i) phylum name at named only =
      let test : bytes_eq x.name name ≡ false = elim (cases_Bool (bytes_eq x.name name)) [
        | inl t ↦ absurd (only 0 x (omega arith) refl ((bytes_eq-Decides x.name name).0 t))
        | inr f ↦ f
      ] in
      let place : suc n + i ≡ n + suc i = omega arith in
      ap (λ b. cond b (declares def n) (is_declaring_name def (suc n) ps name)) test
      ∙ named_from ps (suc n) i phylum name at named (λ j other lt there e. only (suc j) other (omega (arith, lt)) there e)
      ∙ ap (declares def) place

  module _ (sound : IsSound def) where
    pub same_phylum : (p q : ℕ) (a b : Phylum) → slice_get def.phyla p ≡ Some a → slice_get def.phyla q ≡ Some b → a.name ≡ b.name → p ≡ q
    same_phylum p q a b at there named =
        one (only_kind def sound.kind_names (kinds.Phylum p) (kinds.Phylum q) b.name
        (ap (option_map (λ (k : Phylum). k.name)) at ∙ ap Some named) (ap (option_map (λ (k : Phylum). k.name)) there))
      where
        one : kinds.Phylum p ≡ kinds.Phylum q → p ≡ q
        one e = cc

    -- the search by name finds the phylum that has it
    pub declaring_is : (p : ℕ) (phylum : Phylum) → slice_get def.phyla p ≡ Some phylum → is_declaring_name def 0 def.phyla phylum.name ≡ declares def p
    declaring_is p phylum at =
        let place : 0 + p ≡ p = omega arith in
        named_from def.phyla 0 p phylum phylum.name at refl (λ j other lt there e. let same : j ≡ p = same_phylum j p other phylum there at e in absurd (omega (arith, lt, same)))
        ∙ ap (declares def) place

    pub has_name : (p : ℕ) (phylum : Phylum) → slice_get def.phyla p ≡ Some phylum → phylum.name ≡ [] → ⊥
    has_name p phylum at e =
        true≢false (sym (each_at (IsPhylum def) def.phyla sound.phyla p phylum at).name ∙ ap (is_name_from is_upper) e)

    stand_by : (b : Bool) (name : Name) → is_declaring_name def 0 def.phyla name ≡ b → (p : ℕ) (phylum : Phylum) → slice_get def.phyla p ≡ Some phylum → phylum.name ≡ cond b [] name → may_stand def p ≡ true
    stand_by true name is p phylum at named = absurd (has_name p phylum at named)
    stand_by false name is p phylum at named =
        may_by (declares def p) (all_go_on p def.lists) (sym (declaring_is p phylum at) ∙ ap (is_declaring_name def 0 def.phyla) named ∙ is)

    own_stand : (t : Token) → IsStandIn def (own_token def t)
    own_stand (placeholder name) = λ p phylum at named. stand_by (is_declaring_name def 0 def.phyla name) name refl p phylum at named
    own_stand (word w) = tt
    own_stand (numeral n) = tt
    own_stand (quoted t) = tt
    own_stand (solo c) = tt
    own_stand (symbols w) = tt
    own_stand dots = tt

    own_all : (ts : List Spanned) → AllByRecursion (IsStandIn def) (tokens_of (map (own_spanned def) ts))
    own_all [] = tt
    own_all (t ∷ ts) = (own_stand t.token, own_all ts)

    stops_stand : (kind : Kind) (text : List ℕ) (n : ℕ) (ts : List Spanned) (found : List Finding) (last : Option (List Spanned)) → AreStops def kind text n ts found last
        → AllByRecursion (IsStandIn def) (tokens_of ts) → (tokens : List Spanned) → last ≡ Some tokens → AllByRecursion (IsStandIn def) (tokens_of tokens)
    stops_stand kind text n ts found last (all_read m us may) h tokens e = let same : ts ≡ tokens = cc in subst (λ (xs : List Spanned). AllByRecursion (IsStandIn def) (tokens_of xs)) same h
    stops_stand kind text n ts found last (last_stop m k us told is ends) h tokens e = absurd (none-some tokens e)
    stops_stand kind text n ts found last (read_on m k j i p us phylum told is lt best rest) h tokens e =
        let r = best.resumes in
        let own : IsStandIn def (placeholder phylum.name) = λ q other at named.
        subst (λ x. may_stand def x ≡ true) (same_phylum p q phylum other r.there at (sym named)) r.stands in
        stops_stand kind text (suc n) (resumed_row ts i j phylum) _ last rest (all_row (IsStandIn def) i j ts ts (stand_in ts i j phylum.name) h h own) tokens e

    pub read_stand_ins : ReadStandIns def
    read_stand_ins kind text found last tokens h e = stops_stand kind text 0 (map (own_spanned def) h.tokens) found last h.stops (own_all h.tokens) tokens e

  -- ---- trees

  abbrev Q : Definition
  Q = quiet def

  abbrev All : List Token → Type 0
  All ts = AllByRecursion (IsStandIn def) ts

  mutual
    tree_stands : (f : Fragment) (p level depth : ℕ) (ts : List Token) → TreeYields Q f p level depth ts → All ts → AreStandIns def f
    tree_stands f p level depth ts (of_hole phylum found holes) h =
        let (k, there, same) = map_back plain_phylum def.phyla p phylum found in
        h.0 p k there (sym (ap (λ (j : Phylum). j.name) same))
    tree_stands f p level depth ts (of_operator n o found same le parts) h = parts_stand o true (operator n) 0 (solid o.items) f depth ts parts tt h
    tree_stands f p level depth ts (in_brackets {ts = inside} phylum open_token close_token found bracketed opens closes inner) h =
        tree_stands f p 0 _ inside inner (all_front (IsStandIn def) inside (close_token ∷ []) h.1)

    parts_stand : (o : Operator) (first : Bool) (f : Fragment) (d : ℕ) (is : List Item) (g : Fragment) (e : ℕ) (ts : List Token) → PartsYield Q o first f d is g e ts → AreStandIns def f → All ts → AreStandIns def g
    parts_stand o first f d is g e ts no_items s h = s
    parts_stand o first f d is g e ts (of_word t eq rest) s h = parts_stand o false f d _ g e _ rest s h.1
    parts_stand o first f d is g e ts (of_refers r x eq rest) s h = parts_stand o false (with_name f x) d _ g e _ rest s h.1
    parts_stand o first f d is g e ts (of_declares r x eq rest) s h = parts_stand o false (with_name f x) d _ g e _ rest s h.1
    parts_stand o first f d is g e ts (of_number x rest) s h = parts_stand o false (with_number f x) d _ g e _ rest s h.1
    parts_stand o first f d is g e ts (of_text x rest) s h = parts_stand o false (with_text f x) d _ g e _ rest s h.1
    parts_stand o first f d is g e ts (of_slot {p = p} t depth own behind yields rest) s h =
        parts_stand o false (with_child f t) (max d depth) _ g e behind rest (s, tree_stands t p _ depth own yields (all_front (IsStandIn def) own behind h)) (all_behind (IsStandIn def) own behind h)
    parts_stand o first f d is g e ts (of_list_slot {l = l} t depth own behind yields rest) s h =
        parts_stand o false (with_child f t) (max d depth) _ g e behind rest (s, list_stands t l depth own yields (all_front (IsStandIn def) own behind h)) (all_behind (IsStandIn def) own behind h)

    list_stands : (f : Fragment) (l depth : ℕ) (ts : List Token) → ListYields Q f l depth ts → All ts → AreStandIns def f
    list_stands f l depth ts (no_elements kind found) h = tt
    list_stands f l depth ts (only_more kind found unfinished) h = tt
    list_stands f l depth ts (elements some) h = some_stands f l depth ts some h

    some_stands : (f : Fragment) (l depth : ℕ) (ts : List Token) → SomeYield Q f l depth ts → All ts → AreStandIns def f
    some_stands f l depth ts (last_element {e = e} kind found yields) h = (tree_stands e kind.element 0 depth ts yields h, tt)
    some_stands f l depth ts (and_more {e = e} own kind separator found unfinished is yields) h =
        (tree_stands e kind.element 0 depth own yields (all_front (IsStandIn def) own (separator ∷ dots ∷ []) h), tt)
    some_stands f l depth ts (and_elements {e = e} {r = r} kind m n own behind separator found is yields rest) h = (
      tree_stands e kind.element 0 m own yields (all_front (IsStandIn def) own (separator ∷ behind) h),
      some_stands r l n behind rest (all_behind (IsStandIn def) own (separator ∷ behind) h).1,
    )

  pub yield_stand_ins : YieldStandIns def
  yield_stand_ins f (kinds.Phylum p) level depth ts y h = tree_stands f p level depth ts y h
  yield_stand_ins f (kinds.List l) level depth ts y h = list_stands f l depth ts y h
