-- Trees of the definition yield their tokens in the grammar in which nothing declares, and trees of that without the
-- placeholders which the language does not have yield theirs in the definition.
use Rattle.std.proofs.Common.{◌≡◌, ◌⊎◌, inl, inr, ℕ, suc, ◌==◌, ◌≤◌, max, Bool, true, false, cond, List, [], ◌∷◌, ◌++◌, map, Some, slice_get, refl, ap, ap₂, sym, ◌∙◌, subst}
use Rattle.psg_terms.specs.Names.{is_among}
use Rattle.psg_terms.proofs.Lists.{slice_get-map_some}
use Rattle.psg_grammar.specs.declared.types.Kind.{Kind}
use Rattle.psg_grammar.specs.declared.types.Kind.TheVariants as kinds
use Rattle.psg_grammar.specs.declared.types.Item.{Item}
use Rattle.psg_grammar.specs.declared.types.Item.TheVariants as items
use Rattle.psg_grammar.specs.declared.types.ListKind.{ListKind}
use Rattle.psg_grammar.specs.declared.types.Operator.{Operator}
use Rattle.psg_grammar.specs.declared.types.Phylum.{Phylum}
use Rattle.psg_grammar.specs.declared.types.Definition.{Definition}
use Rattle.psg_grammar.specs.Declaring.{HasHoles}
use Rattle.psg_grammar.specs.Fragments.{Fragment, hole, ending, cell, operator, with_child, with_name, with_number, with_text, anything, observed}
use Rattle.psg_grammar.specs.Levels.{first_level, last_level, level_number}
use Rattle.psg_class.specs.Places.{is_empty, slot_level, solid}
use Rattle.psg_class.specs.Terminals.{Token, a_name, close_bracket, dots, fixed, is_word, numeral, open_bracket, placeholder, quoted, solo, symbols, terminal_of, word, word_terminal}
use Rattle.psg_class.specs.Yields.{ListYields, PartsYield, SomeYield, TreeYields, Yields, and_elements, and_more, elements, in_brackets, last_element, no_elements, no_items, of_declares, of_hole, of_list_slot, of_number, of_operator, of_refers, of_slot, of_text, of_word, only_more}
use Rattle.psg_recover.specs.Grammars.{plain_list, plain_phylum, quiet, quiet_item, quiet_operator}
use Rattle.psg_recover.proofs.QuietHoles.{quiet_holes}
use Rattle.psg_recover.proofs.QuietItems.{empty_same, map_back, map_uncons, slot_back, solid_quiet}
use Rattle.psg_recover.proofs.QuietSound.{quiet_words}

module _ (def : Definition) where
  abbrev Q : Definition
  Q = quiet def

  -- a token is seen as the same
  pub token_same : (t : Token) → terminal_of Q t ≡ terminal_of def t
  token_same (word w) = ap (λ (ws : List (List ℕ)). word_terminal w (is_word w) (is_among ws w)) (quiet_words def)
  token_same (numeral n) = refl
  token_same (quoted t) = refl
  token_same (solo c) = refl
  token_same (symbols w) = refl
  token_same (placeholder p) = refl
  token_same dots = refl

  pub level_same : (o : Operator) (k : Kind) (first : Bool) (more : List Item) → slot_level (quiet_operator o) k first (map quiet_item more) ≡ slot_level o k first more
  level_same o (kinds.Phylum p) first more = ap (λ b. cond (p == o.phylum) (max (cond first (first_level o.level) 0) (cond b (last_level o.level) 0)) 0) (empty_same more)
  level_same o (kinds.List l) first more = refl

  mutual
    tree_there : (f : Fragment) (p level depth : ℕ) (ts : List Token) → TreeYields def f p level depth ts → TreeYields Q f p level depth ts
    tree_there f p level depth ts (of_hole phylum found holes) = of_hole (plain_phylum phylum) (slice_get-map_some plain_phylum def.phyla p phylum found) (quiet_holes def (kinds.Phylum p))
    tree_there f p level depth ts (of_operator n o found same le parts) =
        of_operator n (quiet_operator o) (slice_get-map_some quiet_operator def.operators n o found) same le
        (subst (λ (l : List Item). PartsYield Q (quiet_operator o) true (operator n) 0 l f depth ts) (sym (solid_quiet o.items)) (parts_there o true (operator n) 0 (solid o.items) f depth ts parts))
    tree_there f p level depth ts (in_brackets phylum open_token close_token found bracketed opens closes inner) =
        in_brackets (plain_phylum phylum) open_token close_token (slice_get-map_some plain_phylum def.phyla p phylum found) bracketed (token_same open_token ∙ opens) (token_same close_token ∙ closes) (tree_there f p 0 _ _ inner)

    parts_there : (o : Operator) (first : Bool) (f : Fragment) (d : ℕ) (is : List Item) (g : Fragment) (e : ℕ) (ts : List Token) → PartsYield def o first f d is g e ts → PartsYield Q (quiet_operator o) first f d (map quiet_item is) g e ts
    parts_there o first f d [] g e ts no_items = no_items
    parts_there o first f d (items.Word w ∷ more) g e ts (of_word t is rest) = of_word t (token_same t ∙ is) (parts_there o false f d more g e _ rest)
    parts_there o first f d (items.Refers s ∷ more) g e ts (of_refers r x is rest) = of_refers s x (token_same (word x) ∙ is) (parts_there o false (with_name f x) d more g e _ rest)
    parts_there o first f d (items.Declares s ∷ more) g e ts (of_declares r x is rest) = of_refers s x (token_same (word x) ∙ is) (parts_there o false (with_name f x) d more g e _ rest)
    parts_there o first f d (items.Number ∷ more) g e ts (of_number x rest) = of_number x (parts_there o false (with_number f x) d more g e _ rest)
    parts_there o first f d (items.Text ∷ more) g e ts (of_text x rest) = of_text x (parts_there o false (with_text f x) d more g e _ rest)
    parts_there o first f d (items.Slot (kinds.Phylum p) ∷ more) g e ts (of_slot t depth own behind yields rest) =
        of_slot t depth own behind (subst (λ (n : ℕ). TreeYields Q t p n depth own) (sym (level_same o (kinds.Phylum p) first more)) (tree_there t p (slot_level o (kinds.Phylum p) first more) depth own yields))
        (parts_there o false (with_child f t) (max d depth) more g e behind rest)
    parts_there o first f d (items.Slot (kinds.List l) ∷ more) g e ts (of_list_slot t depth own behind yields rest) =
        of_list_slot t depth own behind (list_there t l depth own yields) (parts_there o false (with_child f t) (max d depth) more g e behind rest)
    parts_there o first f d (items.Space ∷ more) g e ts h = elim h [ ]
    parts_there o first f d (items.Tight ∷ more) g e ts h = elim h [ ]
    parts_there o first f d (items.Line ∷ more) g e ts h = elim h [ ]
    parts_there o first f d (items.In ∷ more) g e ts h = elim h [ ]
    parts_there o first f d (items.Out ∷ more) g e ts h = elim h [ ]

    list_there : (f : Fragment) (l depth : ℕ) (ts : List Token) → ListYields def f l depth ts → ListYields Q f l depth ts
    list_there f l depth ts (no_elements kind found) = no_elements (plain_list kind) (slice_get-map_some plain_list def.lists l kind found)
    list_there f l depth ts (only_more kind found unfinished) = only_more (plain_list kind) (slice_get-map_some plain_list def.lists l kind found) unfinished
    list_there f l depth ts (elements some) = elements (some_there f l depth ts some)

    some_there : (f : Fragment) (l depth : ℕ) (ts : List Token) → SomeYield def f l depth ts → SomeYield Q f l depth ts
    some_there f l depth ts (last_element kind found yields) = last_element (plain_list kind) (slice_get-map_some plain_list def.lists l kind found) (tree_there _ kind.element 0 depth ts yields)
    some_there f l depth ts (and_more own kind separator found unfinished is yields) =
        and_more own (plain_list kind) separator (slice_get-map_some plain_list def.lists l kind found) unfinished (token_same separator ∙ is) (tree_there _ kind.element 0 depth own yields)
    some_there f l depth ts (and_elements kind m n own behind separator found is yields rest) =
        and_elements (plain_list kind) m n own behind separator (slice_get-map_some plain_list def.lists l kind found) (token_same separator ∙ is) (tree_there _ kind.element 0 m own yields) (some_there _ l n behind rest)

  pub yields_there : (f : Fragment) (kind : Kind) (level depth : ℕ) (ts : List Token) → Yields def f kind level depth ts → Yields Q f kind level depth ts
  yields_there f (kinds.Phylum p) level depth ts h = tree_there f p level depth ts h
  yields_there f (kinds.List l) level depth ts h = list_there f l depth ts h

  -- ---- back

  -- each placeholder is one that the language has
  abbrev pub HasOwnHoles : Fragment → Type 0
  HasOwnHoles (hole p) = HasHoles def (kinds.Phylum p)
  HasOwnHoles (ending l u) = Unit {0}
  HasOwnHoles (cell l e r) = HasOwnHoles e × HasOwnHoles r
  HasOwnHoles (operator o) = Unit {0}
  HasOwnHoles (with_child f t) = HasOwnHoles f × HasOwnHoles t
  HasOwnHoles (with_name f x) = HasOwnHoles f
  HasOwnHoles (with_number f x) = HasOwnHoles f
  HasOwnHoles (with_text f x) = HasOwnHoles f
  HasOwnHoles anything = Unit {0}
  HasOwnHoles (observed f) = HasOwnHoles f

  -- so are those of what is made first
  begun_holes : (o : Operator) (first : Bool) (f : Fragment) (d : ℕ) (is : List Item) (g : Fragment) (e : ℕ) (ts : List Token) → PartsYield Q o first f d is g e ts → HasOwnHoles g → HasOwnHoles f
  begun_holes o first f d is g e ts no_items h = h
  begun_holes o first f d is g e ts (of_word t eq rest) h = begun_holes o false f d _ g e _ rest h
  begun_holes o first f d is g e ts (of_refers s x eq rest) h = begun_holes o false (with_name f x) d _ g e _ rest h
  begun_holes o first f d is g e ts (of_declares s x eq rest) h = begun_holes o false (with_name f x) d _ g e _ rest h
  begun_holes o first f d is g e ts (of_number x rest) h = begun_holes o false (with_number f x) d _ g e _ rest h
  begun_holes o first f d is g e ts (of_text x rest) h = begun_holes o false (with_text f x) d _ g e _ rest h
  begun_holes o first f d is g e ts (of_slot t depth own behind yields rest) h = (begun_holes o false (with_child f t) (max d depth) _ g e behind rest h).0
  begun_holes o first f d is g e ts (of_list_slot t depth own behind yields rest) h = (begun_holes o false (with_child f t) (max d depth) _ g e behind rest h).0

  pub word_back : (i : Item) (w : List ℕ) → quiet_item i ≡ items.Word w → i ≡ items.Word w
  word_back (items.Word v) w e = e
  word_back (items.Slot k) w e = absurd (cc)
  word_back (items.Refers s) w e = absurd (cc)
  word_back (items.Declares s) w e = absurd (cc)
  word_back items.Number w e = absurd (cc)
  word_back items.Text w e = absurd (cc)
  word_back items.Space w e = absurd (cc)
  word_back items.Tight w e = absurd (cc)
  word_back items.Line w e = absurd (cc)
  word_back items.In w e = absurd (cc)
  word_back items.Out w e = absurd (cc)

  pub refers_back : (i : Item) (s : ℕ) → quiet_item i ≡ items.Refers s → (i ≡ items.Refers s) ⊎ (i ≡ items.Declares s)
  refers_back (items.Refers r) s e = inl e
  refers_back (items.Declares r) s e = let d : r ≡ s = cc in inr (ap items.Declares d)
  refers_back (items.Word v) s e = absurd (cc)
  refers_back (items.Slot k) s e = absurd (cc)
  refers_back items.Number s e = absurd (cc)
  refers_back items.Text s e = absurd (cc)
  refers_back items.Space s e = absurd (cc)
  refers_back items.Tight s e = absurd (cc)
  refers_back items.Line s e = absurd (cc)
  refers_back items.In s e = absurd (cc)
  refers_back items.Out s e = absurd (cc)

  pub no_declares : (i : Item) (s : ℕ) → quiet_item i ≡ items.Declares s → ⊥
  no_declares (items.Refers r) s e = cc
  no_declares (items.Declares r) s e = cc
  no_declares (items.Word v) s e = cc
  no_declares (items.Slot k) s e = cc
  no_declares items.Number s e = cc
  no_declares items.Text s e = cc
  no_declares items.Space s e = cc
  no_declares items.Tight s e = cc
  no_declares items.Line s e = cc
  no_declares items.In s e = cc
  no_declares items.Out s e = cc

  pub number_back : (i : Item) → quiet_item i ≡ items.Number → i ≡ items.Number
  number_back items.Number e = refl
  number_back (items.Refers r) e = absurd (cc)
  number_back (items.Declares r) e = absurd (cc)
  number_back (items.Word v) e = absurd (cc)
  number_back (items.Slot k) e = absurd (cc)
  number_back items.Text e = absurd (cc)
  number_back items.Space e = absurd (cc)
  number_back items.Tight e = absurd (cc)
  number_back items.Line e = absurd (cc)
  number_back items.In e = absurd (cc)
  number_back items.Out e = absurd (cc)

  pub text_back : (i : Item) → quiet_item i ≡ items.Text → i ≡ items.Text
  text_back items.Text e = refl
  text_back (items.Refers r) e = absurd (cc)
  text_back (items.Declares r) e = absurd (cc)
  text_back (items.Word v) e = absurd (cc)
  text_back (items.Slot k) e = absurd (cc)
  text_back items.Number e = absurd (cc)
  text_back items.Space e = absurd (cc)
  text_back items.Tight e = absurd (cc)
  text_back items.Line e = absurd (cc)
  text_back items.In e = absurd (cc)
  text_back items.Out e = absurd (cc)

  mutual
    tree_back : (f : Fragment) (p level depth : ℕ) (ts : List Token) → TreeYields Q f p level depth ts → HasOwnHoles f → TreeYields def f p level depth ts
    tree_back f p level depth ts (of_hole phylum found holes) h =
        let (k, there, same) = map_back plain_phylum def.phyla p phylum found in
        subst (λ (x : List ℕ). TreeYields def (hole p) p level 0 (placeholder x ∷ [])) (sym (ap (λ (j : Phylum). j.name) same)) (of_hole k there h)
    tree_back f p level depth ts (of_operator n o found same le parts) h =
        let (k, there, e) = map_back quiet_operator def.operators n o found in
        of_operator n k there (sym (ap (λ (x : Operator). x.phylum) e) ∙ same) (subst (λ (x : Operator). level ≤ level_number x.level) e le)
        (parts_back k o e true (operator n) 0 (solid k.items) (solid o.items) (ap (λ (x : Operator). solid x.items) e ∙ solid_quiet k.items) f depth ts parts h)
    tree_back f p level depth ts (in_brackets phylum open_token close_token found bracketed opens closes inner) h =
        let (k, there, same) = map_back plain_phylum def.phyla p phylum found in
        in_brackets k open_token close_token there (sym (ap (λ (j : Phylum). j.bracketed) same) ∙ bracketed) (sym (token_same open_token) ∙ opens) (sym (token_same close_token) ∙ closes) (tree_back f p 0 _ _ inner h)

    parts_back : (k o : Operator) → o ≡ quiet_operator k → (first : Bool) (f : Fragment) (d : ℕ) (is js : List Item) → js ≡ map quiet_item is → (g : Fragment) (e : ℕ) (ts : List Token) → PartsYield Q o first f d js g e ts → HasOwnHoles g
        → PartsYield def k first f d is g e ts
    parts_back k o same first f d is [] eq g e ts no_items h = subst (λ (l : List Item). PartsYield def k first f d l f d []) (none is eq) no_items
      where
        none : (xs : List Item) → [] ≡ map quiet_item xs → [] ≡ xs
        none [] e = refl
        none (x ∷ xs) e = absurd (cc)
    parts_back k o same first f d is (items.Word w ∷ more) eq g e ts (of_word t tok rest) h =
        let (i, is', split, one, tail) = map_uncons quiet_item is (items.Word w) more (sym eq) in
        subst (λ (l : List Item). PartsYield def k first f d l g e ts) (sym (split ∙ ap (λ (x : Item). x ∷ is') (word_back i w one)))
        (of_word t (sym (token_same t) ∙ tok) (parts_back k o same false f d is' more (sym tail) g e _ rest h))
    parts_back k o same first f d is (items.Refers s ∷ more) eq g e ts (of_refers r x tok rest) h =
        let (i, is', split, one, tail) = map_uncons quiet_item is (items.Refers s) more (sym eq) in
        let own = parts_back k o same false (with_name f x) d is' more (sym tail) g e _ rest h in
        let seen = sym (token_same (word x)) ∙ tok in
        elim (refers_back i s one) [
          | inl own_r ↦ subst (λ (l : List Item). PartsYield def k first f d l g e ts) (sym (split ∙ ap (λ (z : Item). z ∷ is') own_r)) (of_refers s x seen own)
          | inr own_r ↦ subst (λ (l : List Item). PartsYield def k first f d l g e ts) (sym (split ∙ ap (λ (z : Item). z ∷ is') own_r)) (of_declares s x seen own)
        ]
    parts_back k o same first f d is (items.Declares s ∷ more) eq g e ts (of_declares r x tok rest) h =
        let (i, is', split, one, tail) = map_uncons quiet_item is (items.Declares s) more (sym eq) in
        absurd (no_declares i s one)
    parts_back k o same first f d is (items.Number ∷ more) eq g e ts (of_number x rest) h =
        let (i, is', split, one, tail) = map_uncons quiet_item is items.Number more (sym eq) in
        subst (λ (l : List Item). PartsYield def k first f d l g e ts) (sym (split ∙ ap (λ (y : Item). y ∷ is') (number_back i one)))
        (of_number x (parts_back k o same false (with_number f x) d is' more (sym tail) g e _ rest h))
    parts_back k o same first f d is (items.Text ∷ more) eq g e ts (of_text x rest) h =
        let (i, is', split, one, tail) = map_uncons quiet_item is items.Text more (sym eq) in
        subst (λ (l : List Item). PartsYield def k first f d l g e ts) (sym (split ∙ ap (λ (y : Item). y ∷ is') (text_back i one)))
        (of_text x (parts_back k o same false (with_text f x) d is' more (sym tail) g e _ rest h))
    parts_back k o same first f d is (items.Slot (kinds.Phylum p) ∷ more) eq g e ts (of_slot t depth own behind yields rest) h =
        let (i, is', split, one, tail) = map_uncons quiet_item is (items.Slot (kinds.Phylum p)) more (sym eq) in
        let child = tree_back t p (slot_level o (kinds.Phylum p) first more) depth own yields (begun_holes o false (with_child f t) (max d depth) more g e behind rest h).1 in
        let level : slot_level o (kinds.Phylum p) first more ≡ slot_level k (kinds.Phylum p) first is' =
        ap (λ (x : Operator). slot_level x (kinds.Phylum p) first more) same ∙ ap (slot_level (quiet_operator k) (kinds.Phylum p) first) (sym tail) ∙ level_same k (kinds.Phylum p) first is' in
        subst (λ (l : List Item). PartsYield def k first f d l g e (own ++ behind)) (sym (split ∙ ap (λ (y : Item). y ∷ is') (slot_back i (kinds.Phylum p) one)))
        (of_slot t depth own behind (subst (λ (n : ℕ). TreeYields def t p n depth own) level child) (parts_back k o same false (with_child f t) (max d depth) is' more (sym tail) g e behind rest h))
    parts_back k o same first f d is (items.Slot (kinds.List m) ∷ more) eq g e ts (of_list_slot t depth own behind yields rest) h =
        let (i, is', split, one, tail) = map_uncons quiet_item is (items.Slot (kinds.List m)) more (sym eq) in
        subst (λ (l : List Item). PartsYield def k first f d l g e (own ++ behind)) (sym (split ∙ ap (λ (y : Item). y ∷ is') (slot_back i (kinds.List m) one)))
        (of_list_slot t depth own behind (list_back t m depth own yields (begun_holes o false (with_child f t) (max d depth) more g e behind rest h).1)
        (parts_back k o same false (with_child f t) (max d depth) is' more (sym tail) g e behind rest h))
    parts_back k o same first f d is (items.Space ∷ more) eq g e ts q h = elim q [ ]
    parts_back k o same first f d is (items.Tight ∷ more) eq g e ts q h = elim q [ ]
    parts_back k o same first f d is (items.Line ∷ more) eq g e ts q h = elim q [ ]
    parts_back k o same first f d is (items.In ∷ more) eq g e ts q h = elim q [ ]
    parts_back k o same first f d is (items.Out ∷ more) eq g e ts q h = elim q [ ]

    list_back : (f : Fragment) (l depth : ℕ) (ts : List Token) → ListYields Q f l depth ts → HasOwnHoles f → ListYields def f l depth ts
    list_back f l depth ts (no_elements kind found) h = let (k, there, same) = map_back plain_list def.lists l kind found in no_elements k there
    list_back f l depth ts (only_more kind found unfinished) h =
        let (k, there, same) = map_back plain_list def.lists l kind found in only_more k there (sym (ap (λ (j : ListKind). j.unfinished) same) ∙ unfinished)
    list_back f l depth ts (elements some) h = elements (some_back f l depth ts some h)

    some_back : (f : Fragment) (l depth : ℕ) (ts : List Token) → SomeYield Q f l depth ts → HasOwnHoles f → SomeYield def f l depth ts
    some_back f l depth ts (last_element {e = e} kind found yields) h =
        let (k, there, same) = map_back plain_list def.lists l kind found in
        last_element k there (subst (λ (p : ℕ). TreeYields def e p 0 depth ts) (ap (λ (j : ListKind). j.element) same) (tree_back e kind.element 0 depth ts yields h.0))
    some_back f l depth ts (and_more {e = e} own kind separator found unfinished is yields) h =
        let (k, there, same) = map_back plain_list def.lists l kind found in
        and_more own k separator there (sym (ap (λ (j : ListKind). j.unfinished) same) ∙ unfinished) (sym (token_same separator) ∙ is ∙ ap (λ (j : ListKind). fixed j.separator) same)
        (subst (λ (p : ℕ). TreeYields def e p 0 depth own) (ap (λ (j : ListKind). j.element) same) (tree_back e kind.element 0 depth own yields h.0))
    some_back f l depth ts (and_elements {e = e} {r = r} kind m n own behind separator found is yields rest) h =
        let (k, there, same) = map_back plain_list def.lists l kind found in
        and_elements k m n own behind separator there (sym (token_same separator) ∙ is ∙ ap (λ (j : ListKind). fixed j.separator) same)
        (subst (λ (p : ℕ). TreeYields def e p 0 m own) (ap (λ (j : ListKind). j.element) same) (tree_back e kind.element 0 m own yields h.0)) (some_back r l n behind rest h.1)

  pub yields_back : (f : Fragment) (kind : Kind) (level depth : ℕ) (ts : List Token) → Yields Q f kind level depth ts → HasOwnHoles f → Yields def f kind level depth ts
  yields_back f (kinds.Phylum p) level depth ts y h = tree_back f p level depth ts y h
  yields_back f (kinds.List l) level depth ts y h = list_back f l depth ts y h

  -- a tree that yields tokens there has such placeholders
  mutual
    own_holes_tree : (f : Fragment) (p level depth : ℕ) (ts : List Token) → TreeYields def f p level depth ts → HasOwnHoles f
    own_holes_tree f p level depth ts (of_hole phylum found holes) = holes
    own_holes_tree f p level depth ts (of_operator n o found same le parts) = own_holes_parts o true (operator n) 0 (solid o.items) f depth ts parts tt
    own_holes_tree f p level depth ts (in_brackets phylum open_token close_token found bracketed opens closes inner) = own_holes_tree f p 0 _ _ inner

    own_holes_parts : (o : Operator) (first : Bool) (f : Fragment) (d : ℕ) (is : List Item) (g : Fragment) (e : ℕ) (ts : List Token) → PartsYield def o first f d is g e ts → HasOwnHoles f → HasOwnHoles g
    own_holes_parts o first f d is g e ts no_items h = h
    own_holes_parts o first f d is g e ts (of_word t eq rest) h = own_holes_parts o false f d _ g e _ rest h
    own_holes_parts o first f d is g e ts (of_refers s x eq rest) h = own_holes_parts o false (with_name f x) d _ g e _ rest h
    own_holes_parts o first f d is g e ts (of_declares s x eq rest) h = own_holes_parts o false (with_name f x) d _ g e _ rest h
    own_holes_parts o first f d is g e ts (of_number x rest) h = own_holes_parts o false (with_number f x) d _ g e _ rest h
    own_holes_parts o first f d is g e ts (of_text x rest) h = own_holes_parts o false (with_text f x) d _ g e _ rest h
    own_holes_parts o first f d is g e ts (of_slot {p = p} t depth own behind yields rest) h = own_holes_parts o false (with_child f t) (max d depth) _ g e behind rest (h, own_holes_tree t p _ depth own yields)
    own_holes_parts o first f d is g e ts (of_list_slot {l = l} t depth own behind yields rest) h = own_holes_parts o false (with_child f t) (max d depth) _ g e behind rest (h, own_holes_list t l depth own yields)

    own_holes_list : (f : Fragment) (l depth : ℕ) (ts : List Token) → ListYields def f l depth ts → HasOwnHoles f
    own_holes_list f l depth ts (no_elements kind found) = tt
    own_holes_list f l depth ts (only_more kind found unfinished) = tt
    own_holes_list f l depth ts (elements some) = own_holes_some f l depth ts some

    own_holes_some : (f : Fragment) (l depth : ℕ) (ts : List Token) → SomeYield def f l depth ts → HasOwnHoles f
    own_holes_some f l depth ts (last_element {e = e} kind found yields) = (own_holes_tree e kind.element 0 depth ts yields, tt)
    own_holes_some f l depth ts (and_more {e = e} own kind separator found unfinished is yields) = (own_holes_tree e kind.element 0 depth own yields, tt)
    own_holes_some f l depth ts (and_elements {e = e} {r = r} kind m n own behind separator found is yields rest) = (own_holes_tree e kind.element 0 m own yields, own_holes_some r l n behind rest)

  pub own_holes : (f : Fragment) (kind : Kind) (level depth : ℕ) (ts : List Token) → Yields def f kind level depth ts → HasOwnHoles f
  own_holes f (kinds.Phylum p) level depth ts y = own_holes_tree f p level depth ts y
  own_holes f (kinds.List l) level depth ts y = own_holes_list f l depth ts y
