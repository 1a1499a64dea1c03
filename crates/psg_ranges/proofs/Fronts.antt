-- The brackets in front of all that is in a tree are the opening ones that its tokens begin with.
use Rattle.std.proofs.Common.{◌≡◌, inl, inr, ℕ, suc, ◌+◌, ◌≤◌, cond, Bool, true, false, List, [], ◌∷◌, ◌++◌, length, drop, Option, Some, None, slice_get, refl, sym, ap, ◌∙◌, subst, arith, append_assoc}
use Rattle.std.proofs.lemmas.Bool.{false≢true, true≢false, cases_Bool}
use Rattle.std.proofs.Math.Seq.{drop-append-add}
use Rattle.psg_grammar.specs.declared.types.Kind.TheVariants as kinds
use Rattle.psg_grammar.specs.declared.types.Item.{Item}
use Rattle.psg_grammar.specs.declared.types.Item.TheVariants as items
use Rattle.psg_grammar.specs.declared.types.Phylum.{Phylum}
use Rattle.psg_grammar.specs.declared.types.Operator.{Operator}
use Rattle.psg_grammar.specs.declared.types.Definition.{Definition}
use Rattle.psg_grammar.specs.Fragments.{Fragment}
use Rattle.psg_class.specs.Places.{solid}
use Rattle.psg_class.specs.Terminals.{Token, word, numeral, quoted, placeholder, Terminal, fixed, open_bracket, item_terminal}
use Rattle.psg_class.specs.Yields.{TreeYields, of_hole, of_operator, in_brackets, PartsYield, no_items, of_word, of_refers, of_declares, of_number, of_text, of_slot, of_list_slot}
use Rattle.psg_class.proofs.ClassFacts.{ClassFacts}
use Rattle.psg_ranges.specs.Brackets.{is_open, is_bracketed, opening}
use Rattle.psg_ranges.specs.Walking.{leading, leading_parts, IsBracketed}
use Rattle.psg_ranges.proofs.Rows.{AllOpen, OpensNone, opening_row}
use Rattle.psg_ranges.proofs.Peeled.{open_token, open_says}

-- the tokens begin with so many brackets that are opened, and then with a token that opens none
pub record Front (ts : List Token) (count : ℕ) : Type 0 where
  pub opens : List Token
  pub rest : List Token
  pub are : ts ≡ opens ++ rest
  pub all_open : AllOpen opens
  pub count_is : length opens ≡ count
  pub none : (after : List Token) → OpensNone (rest ++ after)

-- how the items of an operator of the phylum begin
pub record Begins (p : ℕ) (more : List Item) : Type 0 where
  pub some : more ≡ [] → ⊥
  pub own : (q : ℕ) (behind : List Item) → more ≡ items.Slot (kinds.Phylum q) ∷ behind → q ≡ p
  pub no_list : (l : ℕ) (behind : List Item) → more ≡ items.Slot (kinds.List l) ∷ behind → ⊥

abbrev pub OpensNever : List Item → Type 0
OpensNever more = (w : List ℕ) (behind : List Item) → more ≡ items.Word w ∷ behind → fixed w ≡ open_bracket → ⊥

pub phylum_in : (def : Definition) (p : ℕ) → IsBracketed def p → (phylum : Phylum) × (slice_get def.phyla p ≡ Some phylum) × (phylum.bracketed ≡ true)
phylum_in def p h = there (slice_get def.phyla p) refl h where
  there : (found : Option Phylum) → slice_get def.phyla p ≡ found → is_bracketed found ≡ true → (phylum : Phylum) × (slice_get def.phyla p ≡ Some phylum) × (phylum.bracketed ≡ true)
  there None e b = absurd (false≢true b)
  there (Some phylum) e b = (phylum, e, b)

module _ (def : Definition) (c : ClassFacts def) where
  begins : (n : ℕ) (o : Operator) → slice_get def.operators n ≡ Some o → Begins o.phylum (solid o.items)
  begins n o found = elim (c.begins n o found) [
    | inl t ↦ (record {
      some = λ e. let x : t.item ∷ t.more ≡ [] = sym t.items ∙ e in cc;
      own = λ q behind e. absurd (no_slot t.item t.more (kinds.Phylum q) behind t.terminal t.begins (sym t.items ∙ e));
      no_list = λ l behind e. no_slot t.item t.more (kinds.List l) behind t.terminal t.begins (sym t.items ∙ e);
    })
    | inr t ↦ (record {
      some = λ e. let x : items.Slot (kinds.Phylum o.phylum) ∷ t.item ∷ t.more ≡ [] = sym t.items ∙ e in cc;
      own = λ q behind e. let x : items.Slot (kinds.Phylum q) ∷ behind ≡ items.Slot (kinds.Phylum o.phylum) ∷ t.item ∷ t.more = sym e ∙ t.items in cc;
      no_list = λ l behind e. let x : items.Slot (kinds.List l) ∷ behind ≡ items.Slot (kinds.Phylum o.phylum) ∷ t.item ∷ t.more = sym e ∙ t.items in cc;
    })
  ] where
    no_slot : (i : Item) (more : List Item) (k : _) (behind : List Item) (terminal : Terminal) → item_terminal i ≡ Some terminal → i ∷ more ≡ items.Slot k ∷ behind → ⊥
    no_slot i more k behind terminal h e =
        let s : i ≡ items.Slot k = cc in
        let x : None ≡ Some terminal = ap item_terminal (sym s) ∙ h in cc

  never : (n p : ℕ) (o : Operator) → slice_get def.operators n ≡ Some o → o.phylum ≡ p → IsBracketed def p → OpensNever (solid o.items)
  never n p o found is b w behind e h =
      let q = phylum_in def p b in
      c.bracket_first p n q.0 q.1 q.2 (record { o = o; found = found; phylum = is; item = items.Word w; more = behind; items = e; begins = ap Some h })

  same_phylum : (p q : ℕ) → q ≡ p → IsBracketed def p → IsBracketed def q
  same_phylum p q e h = subst (IsBracketed def) (sym e) h

  mutual
    pub front_tree : {f : Fragment} {p level depth : ℕ} {ts : List Token} (y : TreeYields def f p level depth ts) → IsBracketed def p → Front ts (leading y)
    front_tree (of_hole {p = p} phylum found holes) b = record { opens = []; rest = placeholder phylum.name ∷ []; are = refl; all_open = tt; count_is = refl; none = λ after. refl }
    front_tree (of_operator {p = p} n o found is fits z) b =
        front_parts z p (subst (λ q. Begins q (solid o.items)) is (begins n o found)) (never n p o found is b) b
    front_tree (in_brackets {ts = ts} phylum t u found bracketed is is' y) b =
        let r = front_tree y b in
        record {
          opens = t ∷ r.opens;
          rest = r.rest ++ u ∷ [];
          are = ap (λ x. t ∷ x) (ap (λ x. x ++ u ∷ []) r.are ∙ append_assoc r.opens r.rest (u ∷ []));
          all_open = (open_token def t is, r.all_open);
          count_is = ap suc r.count_is;
          none = λ after. subst OpensNone (sym (append_assoc r.rest (u ∷ []) after)) (r.none (u ∷ after));
        }

    pub front_parts : {o : Operator} {f g : Fragment} {d e : ℕ} {more : List Item} {ts : List Token} (z : PartsYield def o true f d more g e ts) (p : ℕ)
        → Begins p more → OpensNever more → IsBracketed def p → Front ts (leading_parts z)
    front_parts no_items p h n b = absurd (h.some refl)
    front_parts (of_word {more = more} {ts = ts} {w = w} t is z) p h n b = record { opens = []; rest = t ∷ ts; are = refl; all_open = tt; count_is = refl; none = λ after. ap (λ x. cond x (suc (opening (ts ++ after))) 0) shut } where
      shut : is_open t ≡ false
      shut = elim (cases_Bool (is_open t)) [ inl e ↦ absurd (n w more refl (sym is ∙ open_says def t e)) | inr e ↦ e ]
    front_parts (of_refers {ts = ts} s x is z) p h n b = record { opens = []; rest = word x ∷ ts; are = refl; all_open = tt; count_is = refl; none = λ after. refl }
    front_parts (of_declares {ts = ts} s x is z) p h n b = record { opens = []; rest = word x ∷ ts; are = refl; all_open = tt; count_is = refl; none = λ after. refl }
    front_parts (of_number {ts = ts} x z) p h n b = record { opens = []; rest = numeral x ∷ ts; are = refl; all_open = tt; count_is = refl; none = λ after. refl }
    front_parts (of_text {ts = ts} x z) p h n b = record { opens = []; rest = quoted x ∷ ts; are = refl; all_open = tt; count_is = refl; none = λ after. refl }
    front_parts (of_slot {more = more} {p = q} t depth own behind y z) p h n b =
        let r = front_tree y (same_phylum p q (h.own q more refl) b) in
        record {
          opens = r.opens;
          rest = r.rest ++ behind;
          are = ap (λ x. x ++ behind) r.are ∙ append_assoc r.opens r.rest behind;
          all_open = r.all_open;
          count_is = r.count_is;
          none = λ after. subst OpensNone (sym (append_assoc r.rest behind after)) (r.none (behind ++ after));
        }
    front_parts (of_list_slot {more = more} {l = l} t depth own behind y z) p h n b = absurd (h.no_list l more refl)

  no_brackets : (p : ℕ) → is_bracketed (slice_get def.phyla p) ≡ false → IsBracketed def p → ⊥
  no_brackets p e h = true≢false (sym h ∙ e)

  mutual
    pub bare_tree : {f : Fragment} {p level depth : ℕ} {ts : List Token} (y : TreeYields def f p level depth ts) → is_bracketed (slice_get def.phyla p) ≡ false → leading y ≡ 0
    bare_tree (of_hole phylum found holes) b = refl
    bare_tree (of_operator {p = p} n o found is fits z) b = bare_parts z p (subst (λ q. Begins q (solid o.items)) is (begins n o found)) b
    bare_tree (in_brackets {p = p} phylum t u found bracketed is is' y) b = absurd (no_brackets p b (ap is_bracketed found ∙ bracketed))

    pub bare_parts : {o : Operator} {f g : Fragment} {d e : ℕ} {more : List Item} {ts : List Token} (z : PartsYield def o true f d more g e ts) (p : ℕ)
        → Begins p more → is_bracketed (slice_get def.phyla p) ≡ false → leading_parts z ≡ 0
    bare_parts no_items p h b = refl
    bare_parts (of_word t is z) p h b = refl
    bare_parts (of_refers s x is z) p h b = refl
    bare_parts (of_declares s x is z) p h b = refl
    bare_parts (of_number x z) p h b = refl
    bare_parts (of_text x z) p h b = refl
    bare_parts (of_slot {more = more} {p = q} t depth own behind y z) p h b = bare_tree y (ap (λ k. is_bracketed (slice_get def.phyla k)) (h.own q more refl) ∙ b)
    bare_parts (of_list_slot t depth own behind y z) p h b = refl

  -- where the brackets are passed that are in front of a tree, some of them before
  pub passed : {f : Fragment} {p level depth : ℕ} {ts : List Token} (y : TreeYields def f p level depth ts) (before after tokens : List Token) (taken old new : ℕ) (bracketed : Bool)
      → bracketed ≡ is_bracketed (slice_get def.phyla p) → tokens ≡ before ++ (ts ++ after) → old ≡ length before + taken → taken ≤ leading y
      → new ≡ old + cond bracketed (opening (drop old tokens)) 0 → new ≡ length before + leading y
  passed {ts = ts} y before after tokens taken old new true b t a h e =
      let r = front_tree y (sym b) in
      let d : drop old tokens ≡ drop taken (r.opens ++ (r.rest ++ after)) =
      ap (λ n. drop n tokens) a ∙ ap (drop (length before + taken)) t ∙ drop-append-add before (ts ++ after) taken
      ∙ ap (λ x. drop taken (x ++ after)) r.are ∙ ap (drop taken) (append_assoc r.opens r.rest after) in
      let k : opening (drop old tokens) ≡ opening (drop taken (r.opens ++ (r.rest ++ after))) = ap opening d in
      omega (arith, e, a, k, opening_row r.opens (r.rest ++ after) r.all_open (r.none after) taken (omega (arith, h, r.count_is)), r.count_is)
  passed y before after tokens taken old new false b t a h e = omega (arith, e, a, h, bare_tree y (sym b))
