-- What the parser reads is a tree that yields the tokens read.
use Rattle.std.proofs.Common.{◌≡◌, inl, inr, ℕ, max, ◌≤◌, true, false, List, [], ◌∷◌, ◌++◌, refl, sym, ap, ◌∙◌, subst, append_assoc, append-nil}
use Rattle.psg_grammar.specs.declared.types.Kind.TheVariants as kinds
use Rattle.psg_grammar.specs.declared.types.Item.TheVariants as items
use Rattle.psg_grammar.specs.declared.types.Definition.{Definition}
use Rattle.psg_grammar.specs.Fragments.{Fragment, hole, operator, with_child}
use Rattle.psg_class.specs.Terminals.{Token, word, numeral, quoted, placeholder, dots, Terminal, terminal_of}
use Rattle.psg_grammar.specs.Levels.{level_number, first_level}
use Rattle.psg_class.specs.Places.{slot_level}
use Rattle.psg_class.specs.Follow.{Leads, Led}
use Rattle.psg_class.proofs.ClassFacts.{ClassFacts}
use Rattle.psg_class.specs.Yields.{TreeYields, of_hole, of_operator, in_brackets, PartsYield, no_items, of_word, of_refers, of_declares, of_number, of_text, of_slot, of_list_slot, ListYields, no_elements, only_more, elements, SomeYield, last_element, and_more, and_elements}
use Rattle.psg_class.proofs.LevelLaws.{not_both, first_slot}
use Rattle.psg_class.specs.Runs.{Reaches, Task, start, grow, parts, list, some_list, Run, run_hole, run_bracket, run_leading, run_stop, run_led, run_end, run_word, run_refers, run_declares, run_number, run_text, run_slot, run_list_slot, run_none, run_only_more, run_some, run_last, run_more, run_next}

module _ (def : Definition) (c : ClassFacts def) where
  -- the tokens read, in front of the rest
  pub record Read (P : List Token → Type 0) (ts s : List Token) : Type 0 where
    pub own : List Token
    pub are : ts ≡ own ++ s
    pub yields : P own

  abbrev pub Sound : Task → List Token → Fragment → ℕ → List Token → Type 0
  Sound (start p m) ts g e s = Read (TreeYields def g p m e) ts s
  Sound (grow p m f d level) ts g e s = (front : List Token) → ((k : ℕ) → Reaches k level → TreeYields def f p k d front) → Reaches m level → Read (λ own. TreeYields def g p m e (front ++ own)) ts s
  Sound (parts o first f d more) ts g e s = Read (PartsYield def o first f d more g e) ts s
  Sound (list l) ts g e s = Read (ListYields def g l e) ts s
  Sound (some_list l) ts g e s = Read (SomeYield def g l e) ts s

  -- the first slot of a led operator is one of the own phylum
  own_slot : (p n : ℕ) (terminal : Terminal) (l : Led def p n terminal) → l.slot ≡ kinds.Phylum p
  own_slot p n terminal l = elim (c.begins n l.o l.found) [
    | inl t ↦ absurd (not_both l.o t l.slot (l.item ∷ l.more) l.items)
    | inr t ↦ (let e : items.Slot (kinds.Phylum l.o.phylum) ∷ t.item ∷ t.more ≡ items.Slot l.slot ∷ l.item ∷ l.more = sym t.items ∙ l.items in
        let k : kinds.Phylum l.o.phylum ≡ l.slot = cc in sym k ∙ ap kinds.Phylum l.phylum)
  ]

  leading_yields : (p n : ℕ) (terminal : Terminal) (l : Leads def p n terminal) (f : Fragment) (d : ℕ) (own : List Token) → PartsYield def l.o true (operator n) 0 (l.item ∷ l.more) f d own → (k : ℕ) → k ≤ level_number l.o.level → TreeYields def f p k d own
  leading_yields p n terminal l f d own y k h = of_operator n l.o l.found l.phylum h (subst (λ x. PartsYield def l.o true (operator n) 0 x f d own) (sym l.items) y)

  led_yields : (p n : ℕ) (terminal : Terminal) (l : Led def p n terminal) (t : Fragment) (depth : ℕ) (front : List Token) → TreeYields def t p (first_level l.o.level) depth front
      → (f : Fragment) (d : ℕ) (own : List Token) → PartsYield def l.o false (with_child (operator n) t) (max 0 depth) (l.item ∷ l.more) f d own → (k : ℕ) → k ≤ level_number l.o.level → TreeYields def f p k d (front ++ own)
  led_yields p n terminal l t depth front y f d own z k h =
      let y' : TreeYields def t p (slot_level l.o (kinds.Phylum p) true (l.item ∷ l.more)) depth front = subst (λ x. TreeYields def t p x depth front) (sym (first_slot l.o p l.item l.more (sym l.phylum))) y in
      of_operator n l.o l.found l.phylum h (subst (λ x. PartsYield def l.o true (operator n) 0 x f d (front ++ own)) (sym (l.items ∙ ap (λ x. items.Slot x ∷ l.item ∷ l.more) (own_slot p n terminal l)))
      (of_slot t depth front own y' z))

  pub sound : {task : Task} {ts s : List Token} {g : Fragment} {e : ℕ} → Run def task ts g e s → Sound task ts g e s
  sound (run_hole {p = p} {m = m} {x = x} phylum found closed is r) =
      let a = sound r (placeholder x ∷ []) (λ k h. subst (λ y. TreeYields def (hole p) p k 0 (placeholder y ∷ [])) is (of_hole phylum found closed)) tt in
      record { own = placeholder x ∷ a.own; are = ap (λ y. placeholder x ∷ y) a.are; yields = a.yields }
  sound (run_bracket {p = p} {m = m} {ts = ts} {s = s} {t = t} f d rest phylum u found bracketed is is' q r) =
      let a = sound q in
      let b = sound r (t ∷ (a.own ++ u ∷ [])) (λ k h. in_brackets phylum t u found bracketed is is' a.yields) tt in
      record {
        own = t ∷ ((a.own ++ u ∷ []) ++ b.own);
        are = ap (λ y. t ∷ y) (a.are ∙ ap (λ y. a.own ++ u ∷ y) b.are ∙ sym (append_assoc a.own (u ∷ []) (b.own ++ s)) ∙ sym (append_assoc (a.own ++ u ∷ []) b.own s));
        yields = b.yields;
      }
  sound (run_leading {p = p} {m = m} {s = s} {t = t} f d rest n l h q r) =
      let a = sound q in
      let b = sound r a.own (leading_yields p n (terminal_of def t) l f d a.own a.yields) h in
      record { own = a.own ++ b.own; are = a.are ∙ ap (λ y. a.own ++ y) b.are ∙ sym (append_assoc a.own b.own s); yields = b.yields }
  sound (run_stop {p = p} {m = m} {d = d} {f = f} {ts = ts} h) = λ front y reach. record { own = []; are = refl; yields = subst (TreeYields def f p m d) (sym (append-nil front)) (y m reach) }
  sound (run_led {p = p} {m = m} {d' = d0} {e = e} {f' = f0} {g = g} {s = s} {t = t} f d rest n l least reach q r) = λ front y reach'.
      let a = sound q in
      let b = sound r (front ++ a.own) (led_yields p n (terminal_of def t) l f0 d0 front (y (first_level l.o.level) reach) f d a.own a.yields) least in
      record { own = a.own ++ b.own; are = a.are ∙ ap (λ z. a.own ++ z) b.are ∙ sym (append_assoc a.own b.own s); yields = subst (TreeYields def g p m e) (append_assoc front a.own b.own) b.yields }
  sound run_end = record { own = []; are = refl; yields = no_items }
  sound (run_word t is r) = let a = sound r in record { own = t ∷ a.own; are = ap (λ y. t ∷ y) a.are; yields = of_word t is a.yields }
  sound (run_refers space x is r) = let a = sound r in record { own = word x ∷ a.own; are = ap (λ y. word x ∷ y) a.are; yields = of_refers space x is a.yields }
  sound (run_declares space x is r) = let a = sound r in record { own = word x ∷ a.own; are = ap (λ y. word x ∷ y) a.are; yields = of_declares space x is a.yields }
  sound (run_number x r) = let a = sound r in record { own = numeral x ∷ a.own; are = ap (λ y. numeral x ∷ y) a.are; yields = of_number x a.yields }
  sound (run_text x r) = let a = sound r in record { own = quoted x ∷ a.own; are = ap (λ y. quoted x ∷ y) a.are; yields = of_text x a.yields }
  sound (run_slot {s = s} t depth mid q r) = let a = sound q in let b = sound r in record { own = a.own ++ b.own; are = a.are ∙ ap (λ y. a.own ++ y) b.are ∙ sym (append_assoc a.own b.own s); yields = of_slot t depth a.own b.own a.yields b.yields }
  sound (run_list_slot {s = s} t depth mid q r) = let a = sound q in let b = sound r in record { own = a.own ++ b.own; are = a.are ∙ ap (λ y. a.own ++ y) b.are ∙ sym (append_assoc a.own b.own s); yields = of_list_slot t depth a.own b.own a.yields b.yields }
  sound (run_none kind found not_first) = record { own = []; are = refl; yields = no_elements kind found }
  sound (run_only_more kind found unfinished) = record { own = dots ∷ []; are = refl; yields = only_more kind found unfinished }
  sound (run_some r) = let a = sound r in record { own = a.own; are = a.are; yields = elements a.yields }
  sound (run_last kind found r over) = let a = sound r in record { own = a.own; are = a.are; yields = last_element kind found a.yields }
  sound (run_more {rest = s} kind t found unfinished is r) = let a = sound r in record { own = a.own ++ t ∷ dots ∷ []; are = a.are ∙ sym (append_assoc a.own (t ∷ dots ∷ []) s); yields = and_more a.own kind t found unfinished is a.yields }
  sound (run_next {rest = s} m n mid kind t found is q r) = let a = sound q in let b = sound r in
      record { own = a.own ++ t ∷ b.own; are = a.are ∙ ap (λ y. a.own ++ t ∷ y) b.are ∙ sym (append_assoc a.own (t ∷ b.own) s); yields = and_elements kind m n a.own b.own t found is a.yields b.yields }
