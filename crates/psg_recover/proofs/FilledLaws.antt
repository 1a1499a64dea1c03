-- A tree of the grammar in which nothing declares, with trees in place of the placeholders that the language does not have.
use Rattle.std.proofs.Common.{◌≡◌, ◌⊎◌, inl, inr, ℕ, suc, ◌≤◌, max, Bool, true, false, cond, List, [], ◌∷◌, ◌++◌, map, Some, slice_get, refl, ap, sym, ◌∙◌, subst, append_assoc, append-nil, true≢false}
use Rattle.std.specs.List.{AllByRecursion}
use Rattle.std.proofs.lemmas.Bool.{cases_Bool}
use Rattle.psg_terms.specs.Relations.{IsIn, first, later}
use Rattle.psg_grammar.specs.declared.types.Kind.{Kind}
use Rattle.psg_grammar.specs.declared.types.Kind.TheVariants as kinds
use Rattle.psg_grammar.specs.declared.types.Item.{Item}
use Rattle.psg_grammar.specs.declared.types.Item.TheVariants as items
use Rattle.psg_grammar.specs.declared.types.ListKind.{ListKind}
use Rattle.psg_grammar.specs.declared.types.Operator.{Operator}
use Rattle.psg_grammar.specs.declared.types.Phylum.{Phylum}
use Rattle.psg_grammar.specs.declared.types.Definition.{Definition}
use Rattle.psg_grammar.specs.Declaring.{HasHoles}
use Rattle.psg_grammar.specs.Fragments.{Fragment, hole, ending, cell, operator, with_child, with_name, with_number, with_text}
use Rattle.psg_grammar.specs.Levels.{is_mark, level_number}
use Rattle.psg_class.specs.Places.{slot_level, solid}
use Rattle.psg_class.specs.Terminals.{Token, dots, fixed, numeral, placeholder, quoted, solo, symbols, word}
use Rattle.psg_class.specs.Yields.{ListYields, PartsYield, SomeYield, TreeYields, Yields, and_elements, and_more, elements, in_brackets, last_element, no_elements, no_items, of_declares, of_hole, of_list_slot, of_number, of_operator, of_refers, of_slot, of_text, of_word, only_more}
use Rattle.psg_known.proofs.KnownLaws.{holes_declare_not}
use Rattle.psg_places.specs.Places.{declares}
use Rattle.psg_places.proofs.SpaceLaws.{quiet as quiet_phylum}
use Rattle.psg_stop.specs.Accepted.{CanEnd}
use Rattle.psg_stop.proofs.Endable.{trees_by}
use Rattle.psg_recover.specs.Grammars.{plain_list, plain_phylum, quiet, quiet_item, quiet_operator}
use Rattle.psg_recover.specs.Reads.{is_declaring_name}
use Rattle.psg_recover.proofs.LeftLaws.{in_split}
use Rattle.psg_recover.proofs.QuietItems.{map_back, map_uncons, slot_back, solid_quiet}
use Rattle.psg_recover.proofs.QuietYields.{level_same, no_declares, number_back, refers_back, text_back, token_same, word_back}
use Rattle.psg_recover.proofs.StandLaws.{declaring_is}

-- the token, if it is a placeholder, has no name of a phylum that declares
abbrev pub IsOwnToken : Definition → Token → Type 0
IsOwnToken def (placeholder name) = is_declaring_name def 0 def.phyla name ≡ false
IsOwnToken def _ = Unit {0}

-- the tokens, with some in place of each placeholder that the language does not have
pub data Filled (def : Definition) : List Token → List Token → Type 0 where
  fill_none : Filled def [] []
  fill_own : {ts us : List Token} (t : Token) → Filled def ts us → Filled def (t ∷ ts) (t ∷ us)
  fill_lost : {ts us : List Token} (name : List ℕ) (new : List Token) → is_declaring_name def 0 def.phyla name ≡ true
      → Filled def ts us → Filled def (placeholder name ∷ ts) (new ++ us)

in_solid_by : (x i : Item) (b : Bool) (is js : List Item) → (IsIn x js → IsIn x is) → IsIn x (cond b js (i ∷ js)) → IsIn x (i ∷ is)
in_solid_by x i true is js under h = later (under h)
in_solid_by x i false is js under first = first
in_solid_by x i false is js under (later h) = later (under h)

in_head : (x : Item) (is : List Item) → IsIn x (x ∷ is)
in_head x is = first

in_solid : (x : Item) (is : List Item) → IsIn x (solid is) → IsIn x is
in_solid x [] h = elim h [ ]
in_solid x (i ∷ is) h = in_solid_by x i (is_mark i) is (solid is) (in_solid x is) h

module _ (def : Definition) where
  abbrev Q : Definition
  Q = quiet def

  filled_joined : (xs bs cs ds : List Token) → Filled def xs bs → Filled def cs ds → Filled def (xs ++ cs) (bs ++ ds)
  filled_joined xs bs cs ds fill_none k = k
  filled_joined xs bs cs ds (fill_own {ts = ts} {us = us} t h) k = fill_own t (filled_joined ts us cs ds h k)
  filled_joined xs bs cs ds (fill_lost {ts = ts} {us = us} name new e h) k =
      subst (λ (l : List Token). Filled def (placeholder name ∷ (ts ++ cs)) l) (sym (append_assoc new us ds)) (fill_lost name new e (filled_joined ts us cs ds h k))

  pub filled_front : (xs ys zs : List Token) → Filled def (xs ++ ys) zs → AllByRecursion (IsOwnToken def) xs → (more : List Token) × (zs ≡ xs ++ more)
  filled_front [] ys zs h own = (zs, refl)
  filled_front (x ∷ xs) ys zs (fill_own {us = us} t h) own = let (more, e) = filled_front xs ys us h own.1 in (more, ap (λ l. x ∷ l) e)
  filled_front (x ∷ xs) ys zs (fill_lost name new e h) own = absurd (true≢false (sym e ∙ own.0))

  pub filled_whole : (xs zs : List Token) → Filled def xs zs → AllByRecursion (IsOwnToken def) xs → zs ≡ xs
  filled_whole [] zs fill_none own = refl
  filled_whole (x ∷ xs) zs (fill_own {us = us} t h) own = ap (λ l. x ∷ l) (filled_whole xs us h own.1)
  filled_whole (x ∷ xs) zs (fill_lost name new e h) own = absurd (true≢false (sym e ∙ own.0))

  -- ---- trees

  record TreeFilled (p level : ℕ) (ts : List Token) : Type 0 where
    tree : Fragment
    depth : ℕ
    tokens : List Token
    yields : TreeYields def tree p level depth tokens
    filled : Filled def ts tokens

  record PartsFilled (k : Operator) (start : Bool) (f : Fragment) (d : ℕ) (is : List Item) (ts : List Token) : Type 0 where
    tree : Fragment
    depth : ℕ
    tokens : List Token
    yields : PartsYield def k start f d is tree depth tokens
    filled : Filled def ts tokens

  record ListFilled (l : ℕ) (ts : List Token) : Type 0 where
    tree : Fragment
    depth : ℕ
    tokens : List Token
    yields : ListYields def tree l depth tokens
    filled : Filled def ts tokens

  record SomeFilled (l : ℕ) (ts : List Token) : Type 0 where
    tree : Fragment
    depth : ℕ
    tokens : List Token
    yields : SomeYield def tree l depth tokens
    filled : Filled def ts tokens

  -- each slot of a phylum among the items has a placeholder
  abbrev AreQuiet : List Item → Type 0
  AreQuiet is = (p : ℕ) → IsIn (items.Slot (kinds.Phylum p)) is → HasHoles def (kinds.Phylum p)

  module _ (ends : CanEnd def) where
    solid_slots : (n : ℕ) (o : Operator) → slice_get def.operators n ≡ Some o → AreQuiet (solid o.items)
    solid_slots n o at p h =
        let (front, rest, e) = in_split (items.Slot (kinds.Phylum p)) o.items (in_solid (items.Slot (kinds.Phylum p)) o.items h) in
        ends.quiet n o front p rest at e

    lost_tree : (p level : ℕ) (phylum k : Phylum) → slice_get def.phyla p ≡ Some k → phylum.name ≡ k.name → declares def p ≡ true → HasHoles def (kinds.Phylum p) ⊎ (level ≡ 0)
        → TreeFilled p level (placeholder phylum.name ∷ [])
    lost_tree p level phylum k there named t (inl holes) = absurd (true≢false (sym t ∙ holes_declare_not def p holes))
    lost_tree p level phylum k there named t (inr e) =
        let b = (trees_by def ends).phyla p k there in
        let none : b.more ++ [] ≡ b.more = append-nil b.more in
        record {
          tree = b.tree;
          depth = b.nesting;
          tokens = b.more ++ [];
          yields = subst (λ (l : List Token). TreeYields def b.tree p level b.nesting l) (sym none) (subst (λ (n : ℕ). TreeYields def b.tree p n b.nesting b.more) (sym e) b.yields);
          filled = fill_lost phylum.name b.more (ap (is_declaring_name def 0 def.phyla) named ∙ declaring_is def ends.sound p k there ∙ t) fill_none;
        }

    own_tree : (p level : ℕ) (phylum k : Phylum) → slice_get def.phyla p ≡ Some k → phylum.name ≡ k.name → declares def p ≡ false → TreeFilled p level (placeholder phylum.name ∷ [])
    own_tree p level phylum k there named n = record {
      tree = hole p;
      depth = 0;
      tokens = placeholder k.name ∷ [];
      yields = of_hole k there (quiet_phylum def ends.sound p n);
      filled = subst (λ (x : List ℕ). Filled def (placeholder phylum.name ∷ []) (placeholder x ∷ [])) named (fill_own (placeholder phylum.name) fill_none);
    }

    mutual
      tree_filled : (f : Fragment) (p level depth : ℕ) (ts : List Token) → TreeYields Q f p level depth ts → HasHoles def (kinds.Phylum p) ⊎ (level ≡ 0) → TreeFilled p level ts
      tree_filled f p level depth ts (of_hole phylum found holes) may =
          let (k, there, same) = map_back plain_phylum def.phyla p phylum found in
          let named : phylum.name ≡ k.name = ap (λ (j : Phylum). j.name) same in
          elim (cases_Bool (declares def p)) [
            | inl t ↦ lost_tree p level phylum k there named t may
            | inr n ↦ own_tree p level phylum k there named n
          ]
      tree_filled f p level depth ts (of_operator n o found same le parts) may =
          let (k, there, e) = map_back quiet_operator def.operators n o found in
          let q = parts_filled k o e true (solid k.items) (solid o.items) (ap (λ (x : Operator). solid x.items) e ∙ solid_quiet k.items) (solid_slots n k there) (operator n) 0 f depth ts parts (operator n) 0 in
          record {
            tree = q.tree;
            depth = q.depth;
            tokens = q.tokens;
            yields = of_operator n k there (sym (ap (λ (x : Operator). x.phylum) e) ∙ same) (subst (λ (x : Operator). level ≤ level_number x.level) e le) q.yields;
            filled = q.filled;
          }
      tree_filled f p level depth ts (in_brackets {depth = under} {ts = inside} phylum open_token close_token found bracketed opens closes inner) may =
          let (k, there, same) = map_back plain_phylum def.phyla p phylum found in
          let c = tree_filled f p 0 under inside inner (inr refl) in
          record {
            tree = c.tree;
            depth = suc c.depth;
            tokens = open_token ∷ (c.tokens ++ close_token ∷ []);
            yields = in_brackets k open_token close_token there (sym (ap (λ (j : Phylum). j.bracketed) same) ∙ bracketed) (sym (token_same def open_token) ∙ opens) (sym (token_same def close_token) ∙ closes) c.yields;
            filled = fill_own open_token (filled_joined inside c.tokens (close_token ∷ []) (close_token ∷ []) c.filled (fill_own close_token fill_none));
          }

      parts_filled : (k o : Operator) → o ≡ quiet_operator k → (start : Bool) (is js : List Item) → js ≡ map quiet_item is → AreQuiet is → (f : Fragment) (d : ℕ) (g : Fragment) (e : ℕ) (ts : List Token)
          → PartsYield Q o start f d js g e ts → (f' : Fragment) (d' : ℕ) → PartsFilled k start f' d' is ts
      parts_filled k o same start is [] eq slots f d g e ts no_items f' d' =
          subst (λ (l : List Item). PartsFilled k start f' d' l []) (none is eq) (record { tree = f'; depth = d'; tokens = []; yields = no_items; filled = fill_none })
        where
          none : (xs : List Item) → [] ≡ map quiet_item xs → [] ≡ xs
          none [] e = refl
          none (x ∷ xs) e = absurd (cc)
      parts_filled k o same start is (items.Word w ∷ more) eq slots f d g e ts (of_word {ts = us} t tok rest) f' d' =
          let (i, is', split, one, tail) = map_uncons quiet_item is (items.Word w) more (sym eq) in
          let q = parts_filled k o same false is' more (sym tail) (λ p at. slots p (subst (IsIn (items.Slot (kinds.Phylum p))) (sym split) (later at))) f d g e us rest f' d' in
          subst (λ (l : List Item). PartsFilled k start f' d' l (t ∷ us)) (sym (split ∙ ap (λ (x : Item). x ∷ is') (word_back def i w one)))
          (record { tree = q.tree; depth = q.depth; tokens = t ∷ q.tokens; yields = of_word t (sym (token_same def t) ∙ tok) q.yields; filled = fill_own t q.filled })
      parts_filled k o same start is (items.Refers s ∷ more) eq slots f d g e ts (of_refers {ts = us} r x tok rest) f' d' =
          let (i, is', split, one, tail) = map_uncons quiet_item is (items.Refers s) more (sym eq) in
          let q = parts_filled k o same false is' more (sym tail) (λ p at. slots p (subst (IsIn (items.Slot (kinds.Phylum p))) (sym split) (later at))) (with_name f x) d g e us rest (with_name f' x) d' in
          let seen = sym (token_same def (word x)) ∙ tok in
          elim (refers_back def i s one) [
            | inl own_r ↦ subst (λ (l : List Item). PartsFilled k start f' d' l (word x ∷ us)) (sym (split ∙ ap (λ (z : Item). z ∷ is') own_r))
                (record { tree = q.tree; depth = q.depth; tokens = word x ∷ q.tokens; yields = of_refers s x seen q.yields; filled = fill_own (word x) q.filled })
            | inr own_r ↦ subst (λ (l : List Item). PartsFilled k start f' d' l (word x ∷ us)) (sym (split ∙ ap (λ (z : Item). z ∷ is') own_r))
                (record { tree = q.tree; depth = q.depth; tokens = word x ∷ q.tokens; yields = of_declares s x seen q.yields; filled = fill_own (word x) q.filled })
          ]
      parts_filled k o same start is (items.Declares s ∷ more) eq slots f d g e ts (of_declares r x tok rest) f' d' =
          let (i, is', split, one, tail) = map_uncons quiet_item is (items.Declares s) more (sym eq) in
          absurd (no_declares def i s one)
      parts_filled k o same start is (items.Number ∷ more) eq slots f d g e ts (of_number {ts = us} x rest) f' d' =
          let (i, is', split, one, tail) = map_uncons quiet_item is items.Number more (sym eq) in
          let q = parts_filled k o same false is' more (sym tail) (λ p at. slots p (subst (IsIn (items.Slot (kinds.Phylum p))) (sym split) (later at))) (with_number f x) d g e us rest (with_number f' x) d' in
          subst (λ (l : List Item). PartsFilled k start f' d' l (numeral x ∷ us)) (sym (split ∙ ap (λ (y : Item). y ∷ is') (number_back def i one)))
          (record { tree = q.tree; depth = q.depth; tokens = numeral x ∷ q.tokens; yields = of_number x q.yields; filled = fill_own (numeral x) q.filled })
      parts_filled k o same start is (items.Text ∷ more) eq slots f d g e ts (of_text {ts = us} x rest) f' d' =
          let (i, is', split, one, tail) = map_uncons quiet_item is items.Text more (sym eq) in
          let q = parts_filled k o same false is' more (sym tail) (λ p at. slots p (subst (IsIn (items.Slot (kinds.Phylum p))) (sym split) (later at))) (with_text f x) d g e us rest (with_text f' x) d' in
          subst (λ (l : List Item). PartsFilled k start f' d' l (quoted x ∷ us)) (sym (split ∙ ap (λ (y : Item). y ∷ is') (text_back def i one)))
          (record { tree = q.tree; depth = q.depth; tokens = quoted x ∷ q.tokens; yields = of_text x q.yields; filled = fill_own (quoted x) q.filled })
      parts_filled k o same start is (items.Slot (kinds.Phylum p) ∷ more) eq slots f d g e ts (of_slot t depth own behind yields rest) f' d' =
          let (i, is', split, one, tail) = map_uncons quiet_item is (items.Slot (kinds.Phylum p)) more (sym eq) in
          let whole : is ≡ items.Slot (kinds.Phylum p) ∷ is' = split ∙ ap (λ (y : Item). y ∷ is') (slot_back i (kinds.Phylum p) one) in
          let here : IsIn (items.Slot (kinds.Phylum p)) (items.Slot (kinds.Phylum p) ∷ is') = in_head (items.Slot (kinds.Phylum p)) is' in
          let holes : HasHoles def (kinds.Phylum p) = slots p (subst (IsIn (items.Slot (kinds.Phylum p))) (sym whole) here) in
          let c = tree_filled t p (slot_level o (kinds.Phylum p) start more) depth own yields (inl holes) in
          let level : slot_level o (kinds.Phylum p) start more ≡ slot_level k (kinds.Phylum p) start is' =
          ap (λ (x : Operator). slot_level x (kinds.Phylum p) start more) same ∙ ap (slot_level (quiet_operator k) (kinds.Phylum p) start) (sym tail) ∙ level_same def k (kinds.Phylum p) start is' in
          let q = parts_filled k o same false is' more (sym tail) (λ n at. slots n (subst (IsIn (items.Slot (kinds.Phylum n))) (sym split) (later at))) (with_child f t) (max d depth) g e behind rest (with_child f' c.tree) (max d' c.depth) in
          subst (λ (l : List Item). PartsFilled k start f' d' l (own ++ behind)) (sym whole)
          (record {
            tree = q.tree;
            depth = q.depth;
            tokens = c.tokens ++ q.tokens;
            yields = of_slot c.tree c.depth c.tokens q.tokens (subst (λ (n : ℕ). TreeYields def c.tree p n c.depth c.tokens) level c.yields) q.yields;
            filled = filled_joined own c.tokens behind q.tokens c.filled q.filled;
          })
      parts_filled k o same start is (items.Slot (kinds.List m) ∷ more) eq slots f d g e ts (of_list_slot t depth own behind yields rest) f' d' =
          let (i, is', split, one, tail) = map_uncons quiet_item is (items.Slot (kinds.List m)) more (sym eq) in
          let c = list_filled t m depth own yields in
          let q = parts_filled k o same false is' more (sym tail) (λ n at. slots n (subst (IsIn (items.Slot (kinds.Phylum n))) (sym split) (later at))) (with_child f t) (max d depth) g e behind rest (with_child f' c.tree) (max d' c.depth) in
          subst (λ (l : List Item). PartsFilled k start f' d' l (own ++ behind)) (sym (split ∙ ap (λ (y : Item). y ∷ is') (slot_back i (kinds.List m) one)))
          (record {
            tree = q.tree;
            depth = q.depth;
            tokens = c.tokens ++ q.tokens;
            yields = of_list_slot c.tree c.depth c.tokens q.tokens c.yields q.yields;
            filled = filled_joined own c.tokens behind q.tokens c.filled q.filled;
          })
      parts_filled k o same start is (items.Space ∷ more) eq slots f d g e ts q f' d' = elim q [ ]
      parts_filled k o same start is (items.Tight ∷ more) eq slots f d g e ts q f' d' = elim q [ ]
      parts_filled k o same start is (items.Line ∷ more) eq slots f d g e ts q f' d' = elim q [ ]
      parts_filled k o same start is (items.In ∷ more) eq slots f d g e ts q f' d' = elim q [ ]
      parts_filled k o same start is (items.Out ∷ more) eq slots f d g e ts q f' d' = elim q [ ]

      list_filled : (f : Fragment) (l depth : ℕ) (ts : List Token) → ListYields Q f l depth ts → ListFilled l ts
      list_filled f l depth ts (no_elements kind found) =
          let (k, there, same) = map_back plain_list def.lists l kind found in
          record { tree = ending l false; depth = 0; tokens = []; yields = no_elements k there; filled = fill_none }
      list_filled f l depth ts (only_more kind found unfinished) =
          let (k, there, same) = map_back plain_list def.lists l kind found in
          record { tree = ending l true; depth = 0; tokens = dots ∷ []; yields = only_more k there (sym (ap (λ (j : ListKind). j.unfinished) same) ∙ unfinished); filled = fill_own dots fill_none }
      list_filled f l depth ts (elements some) =
          let s = some_filled f l depth ts some in
          record { tree = s.tree; depth = s.depth; tokens = s.tokens; yields = elements s.yields; filled = s.filled }

      some_filled : (f : Fragment) (l depth : ℕ) (ts : List Token) → SomeYield Q f l depth ts → SomeFilled l ts
      some_filled f l depth ts (last_element {e = e} kind found yields) =
          let (k, there, same) = map_back plain_list def.lists l kind found in
          let c = tree_filled e kind.element 0 depth ts yields (inr refl) in
          record {
            tree = cell l c.tree (ending l false);
            depth = c.depth;
            tokens = c.tokens;
            yields = last_element k there (subst (λ (p : ℕ). TreeYields def c.tree p 0 c.depth c.tokens) (ap (λ (j : ListKind). j.element) same) c.yields);
            filled = c.filled;
          }
      some_filled f l depth ts (and_more {e = e} own kind separator found unfinished is yields) =
          let (k, there, same) = map_back plain_list def.lists l kind found in
          let c = tree_filled e kind.element 0 depth own yields (inr refl) in
          record {
            tree = cell l c.tree (ending l true);
            depth = c.depth;
            tokens = c.tokens ++ separator ∷ dots ∷ [];
            yields = and_more c.tokens k separator there (sym (ap (λ (j : ListKind). j.unfinished) same) ∙ unfinished) (sym (token_same def separator) ∙ is ∙ ap (λ (j : ListKind). fixed j.separator) same)
                (subst (λ (p : ℕ). TreeYields def c.tree p 0 c.depth c.tokens) (ap (λ (j : ListKind). j.element) same) c.yields);
            filled = filled_joined own c.tokens (separator ∷ dots ∷ []) (separator ∷ dots ∷ []) c.filled (fill_own separator (fill_own dots fill_none));
          }
      some_filled f l depth ts (and_elements {e = e} {r = r} kind m n own behind separator found is yields rest) =
          let (k, there, same) = map_back plain_list def.lists l kind found in
          let c = tree_filled e kind.element 0 m own yields (inr refl) in
          let s = some_filled r l n behind rest in
          record {
            tree = cell l c.tree s.tree;
            depth = max c.depth s.depth;
            tokens = c.tokens ++ separator ∷ s.tokens;
            yields = and_elements k c.depth s.depth c.tokens s.tokens separator there (sym (token_same def separator) ∙ is ∙ ap (λ (j : ListKind). fixed j.separator) same)
                (subst (λ (p : ℕ). TreeYields def c.tree p 0 c.depth c.tokens) (ap (λ (j : ListKind). j.element) same) c.yields) s.yields;
            filled = filled_joined own c.tokens (separator ∷ behind) (separator ∷ s.tokens) c.filled (fill_own separator s.filled);
          }

    pub record IsFilled (kind : Kind) (ts : List Token) : Type 0 where
      pub tree : Fragment
      pub depth : ℕ
      pub tokens : List Token
      pub yields : Yields def tree kind 0 depth tokens
      pub filled : Filled def ts tokens

    pub is_filled : (f : Fragment) (kind : Kind) (depth : ℕ) (ts : List Token) → Yields Q f kind 0 depth ts → IsFilled kind ts
    is_filled f (kinds.Phylum p) depth ts y = let c = tree_filled f p 0 depth ts y (inr refl) in record { tree = c.tree; depth = c.depth; tokens = c.tokens; yields = c.yields; filled = c.filled }
    is_filled f (kinds.List l) depth ts y = let c = list_filled f l depth ts y in record { tree = c.tree; depth = c.depth; tokens = c.tokens; yields = c.yields; filled = c.filled }
