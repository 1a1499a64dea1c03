-- Laws of what is kept of the lines above a line.
use Rattle.std.proofs.Common.{◌≡◌, ℕ, ◌+◌, ◌<◌, ◌||◌, Bool, true, false, List, [], ◌∷◌, ◌++◌, take, get_or, length, refl, ap, sym, ◌∙◌, subst, Option, Some, None, is_some, append_assoc, append-nil}
use Rattle.std.proofs.lemmas.Bool.{or_parts}
use Rattle.std.proofs.Math.Bool.{or-true}
use Rattle.std.specs.Str.{bytes_eq}
use Rattle.std.specs.Option.{option_map}
use Rattle.std.specs.Borrow.{Bor}
use Rattle.psg_terms.specs.Names.{Name, is_among}
use Rattle.psg_terms.specs.declared.declare.ConDecl.{ConDecl}
use Rattle.psg_terms.specs.declared.declare.SortDecl.{SortDecl}
use Rattle.psg_grammar.specs.declared.types.Level.{Level}
use Rattle.psg_deflines.specs.WrittenTerms.{WrittenTerm}
use Rattle.psg_deflines.specs.WrittenTrees.{WrittenTree}
use Rattle.psg_deflines.specs.declared.lines.LineItem.{LineItem}
use Rattle.psg_deflines.specs.declared.lines.Line.{Line}
use Rattle.psg_deflines.specs.declared.lines.Line.TheVariants as lines
use Rattle.psg_defcheck.specs.Scopes.{sort_names, constructor_names, kind_names, phylum_names, list_names, operator_names, names_of, space_names, last_operator, last_hole, OpDecl}
use Rattle.psg_defcheck.specs.Tables.{operator_told, name_told}
use Rattle.psg_defcheck.specs.Meanings.{IsNew}
use Rattle.psg_defcheck.specs.NameSets.{has, listed, AreNames, AreFresh}
use Rattle.psg_defcheck.specs.declared.tables.Operator.{Operator}
use Rattle.psg_defcheck.specs.Aboves.{IsAbove}
use Rattle.psg_defcheck.specs.declared.names.Names.{Names}
use Rattle.psg_defcheck.specs.declared.above.Above.{Above}

pub sort_names-append : (xs ys : List Line) → sort_names (xs ++ ys) ≡ sort_names xs ++ sort_names ys
sort_names-append [] ys = refl
sort_names-append (lines.Sort d ∷ xs) ys = ap (λ q. d.name ∷ q) (sort_names-append xs ys)
sort_names-append (_ ∷ xs) ys = sort_names-append xs ys

pub constructor_names-append : (xs ys : List Line) → constructor_names (xs ++ ys) ≡ constructor_names xs ++ constructor_names ys
constructor_names-append [] ys = refl
constructor_names-append (lines.Sort d ∷ xs) ys = ap (λ q. names_of d.constructors ++ q) (constructor_names-append xs ys) ∙ sym (append_assoc (names_of d.constructors) (constructor_names xs) (constructor_names ys))
constructor_names-append (_ ∷ xs) ys = constructor_names-append xs ys

pub phylum_names-append : (xs ys : List Line) → phylum_names (xs ++ ys) ≡ phylum_names xs ++ phylum_names ys
phylum_names-append [] ys = refl
phylum_names-append (lines.Phylum n s b ∷ xs) ys = ap (λ q. n ∷ q) (phylum_names-append xs ys)
phylum_names-append (_ ∷ xs) ys = phylum_names-append xs ys

pub list_names-append : (xs ys : List Line) → list_names (xs ++ ys) ≡ list_names xs ++ list_names ys
list_names-append [] ys = refl
list_names-append (lines.List n s e w b f ∷ xs) ys = ap (λ q. n ∷ q) (list_names-append xs ys)
list_names-append (_ ∷ xs) ys = list_names-append xs ys

pub operator_names-append : (xs ys : List Line) → operator_names (xs ++ ys) ≡ operator_names xs ++ operator_names ys
operator_names-append [] ys = refl
operator_names-append (lines.Operator n p s l m ∷ xs) ys = ap (λ q. n ∷ q) (operator_names-append xs ys)
operator_names-append (_ ∷ xs) ys = operator_names-append xs ys

pub space_names-append : (xs ys : List Line) → space_names (xs ++ ys) ≡ space_names xs ++ space_names ys
space_names-append [] ys = refl
space_names-append (lines.Space n s ∷ xs) ys = ap (λ q. n ∷ q) (space_names-append xs ys)
space_names-append (_ ∷ xs) ys = space_names-append xs ys

pub last_operator-append : (last : Option OpDecl) (xs ys : List Line) → last_operator last (xs ++ ys) ≡ last_operator (last_operator last xs) ys
last_operator-append last [] ys = refl
last_operator-append last (lines.Operator n p s l m ∷ xs) ys = last_operator-append (Some (record { phylum = p; made = m })) xs ys
last_operator-append last (_ ∷ xs) ys = last_operator-append last xs ys

pub last_hole-append : (last : Option Name) (xs ys : List Line) → last_hole last (xs ++ ys) ≡ last_hole (last_hole last xs) ys
last_hole-append last [] ys = refl
last_hole-append last (lines.Hole k t w ∷ xs) ys = last_hole-append (Some k) xs ys
last_hole-append last (_ ∷ xs) ys = last_hole-append last xs ys

pub names_of-append : (xs ys : List ConDecl) → names_of (xs ++ ys) ≡ names_of xs ++ names_of ys
names_of-append [] ys = refl
names_of-append (c ∷ xs) ys = ap (λ q. c.name ∷ q) (names_of-append xs ys)

-- kinds are phyla and lists
pub kinds-named : (ls : List Line) (n : Name) → is_among (kind_names ls) n ≡ (is_among (phylum_names ls) n || is_among (list_names ls) n)
kinds-named [] n = refl
kinds-named (lines.Phylum m s b ∷ rest) n =
    elim (bytes_eq m n) as (λ t. (t || is_among (kind_names rest) n) ≡ ((t || is_among (phylum_names rest) n) || is_among (list_names rest) n)) [ true ↦ refl | false ↦ kinds-named rest n ]
kinds-named (lines.List m s e w b f ∷ rest) n =
    elim (bytes_eq m n) as (λ t. (t || is_among (kind_names rest) n) ≡ (is_among (phylum_names rest) n || (t || is_among (list_names rest) n))) [
      | true ↦ sym (or-true (is_among (phylum_names rest) n))
      | false ↦ kinds-named rest n
    ]
kinds-named (_ ∷ rest) n = kinds-named rest n

-- one more name
pub names-insert : (names : List Name) (old new : Names) (k name : Name) → AreNames names old → k ≡ name → has old k ≡ false → (has old k ≡ false → listed new ≡ listed old ++ k ∷ []) → AreNames (names ++ name ∷ []) new
names-insert names old new k name h e fresh last = last fresh ∙ ap (λ l. l ++ k ∷ []) h ∙ ap (λ n. names ++ n ∷ []) e

-- what changes behind a line
pub record IsBehind (line : Line) (old new : Above) : Type 0 where
  pub sorts : listed new.sorts ≡ listed old.sorts ++ sort_names (line ∷ [])
  pub constructors : listed new.constructors ≡ listed old.constructors ++ constructor_names (line ∷ [])
  pub phyla : listed new.phyla ≡ listed old.phyla ++ phylum_names (line ∷ [])
  pub lists : listed new.lists ≡ listed old.lists ++ list_names (line ∷ [])
  pub operators : listed new.operators ≡ listed old.operators ++ operator_names (line ∷ [])
  pub spaces : listed new.spaces ≡ listed old.spaces ++ space_names (line ∷ [])
  pub operator : (last : Option OpDecl) → option_map operator_told old.operator ≡ last → option_map operator_told new.operator ≡ last_operator last (line ∷ [])
  pub hole : (last : Option Name) → option_map name_told old.hole ≡ last → option_map name_told new.hole ≡ last_hole last (line ∷ [])

pub above-behind : (lines : List Line) (line : Line) (old new : Above) → IsAbove lines old → IsBehind line old new → IsAbove (lines ++ line ∷ []) new
above-behind above line old new h b = record {
  sorts = b.sorts ∙ ap (λ l. l ++ sort_names (line ∷ [])) h.sorts ∙ sym (sort_names-append above (line ∷ []));
  constructors = b.constructors ∙ ap (λ l. l ++ constructor_names (line ∷ [])) h.constructors ∙ sym (constructor_names-append above (line ∷ []));
  phyla = b.phyla ∙ ap (λ l. l ++ phylum_names (line ∷ [])) h.phyla ∙ sym (phylum_names-append above (line ∷ []));
  lists = b.lists ∙ ap (λ l. l ++ list_names (line ∷ [])) h.lists ∙ sym (list_names-append above (line ∷ []));
  operators = b.operators ∙ ap (λ l. l ++ operator_names (line ∷ [])) h.operators ∙ sym (operator_names-append above (line ∷ []));
  spaces = b.spaces ∙ ap (λ l. l ++ space_names (line ∷ [])) h.spaces ∙ sym (space_names-append above (line ∷ []));
  operator = b.operator (last_operator None above) h.operator ∙ sym (last_operator-append None above (line ∷ []));
  hole = b.hole (last_hole None above) h.hole ∙ sym (last_hole-append None above (line ∷ []));
}

stay : (s : Names) → listed s ≡ listed s ++ []
stay s = sym (append-nil (listed s))

-- the names take one more
abbrev pub Puts : Names → Names → Name → Type 0
Puts old new k = has old k ≡ false → listed new ≡ listed old ++ k ∷ []

put : (names : List Name) (old new : Names) (k name : Name) → AreNames names old → k ≡ name → is_among names name ≡ false → Puts old new k → listed new ≡ listed old ++ name ∷ []
put names old new k name h e fresh last = last (ap (λ l. is_among l k) h ∙ ap (is_among names) e ∙ fresh) ∙ ap (λ n. listed old ++ n ∷ []) e

pub behind-sort : (above : List Line) (line : Line) (a : Above) (d : SortDecl) (sorts cons : Names) (k : Name) (made : List ConDecl) → IsAbove above a → IsNew above line → line ≡ lines.Sort d → k ≡ d.name → made ≡ d.constructors → Puts a.sorts sorts k
    → ((before : List Name) → AreNames before a.constructors → AreFresh before made → AreNames (before ++ names_of made) cons) → IsBehind line a (record a { sorts = sorts; constructors = cons })
behind-sort above line a d sorts cons k made h new e ek em s c = subst (λ l. IsBehind l a (record a { sorts = sorts; constructors = cons })) (sym e) (record {
  sorts = put (sort_names above) a.sorts sorts k d.name h.sorts ek (subst (IsNew above) e new).0 s;
  constructors = c (constructor_names above) h.constructors (subst (AreFresh (constructor_names above)) (sym em) ((subst (IsNew above) e new).1, (subst (IsNew above) e new).2))
      ∙ ap (λ l. l ++ names_of made) (sym h.constructors) ∙ ap (λ l. listed a.constructors ++ l) (ap names_of em ∙ sym (append-nil (names_of d.constructors)));
  phyla = stay a.phyla;
  lists = stay a.lists;
  operators = stay a.operators;
  spaces = stay a.spaces;
  operator = λ last h. h;
  hole = λ last h. h;
})

pub behind-space : (above : List Line) (line : Line) (a : Above) (name sort : Name) (spaces : Names) (k : Name) → IsAbove above a → IsNew above line → line ≡ lines.Space name sort → k ≡ name → Puts a.spaces spaces k → IsBehind line a (record a { spaces = spaces })
behind-space above line a name sort spaces k h new e ek s = subst (λ l. IsBehind l a (record a { spaces = spaces })) (sym e) (record {
  sorts = stay a.sorts;
  constructors = stay a.constructors;
  phyla = stay a.phyla;
  lists = stay a.lists;
  operators = stay a.operators;
  spaces = put (space_names above) a.spaces spaces k name h.spaces ek (subst (IsNew above) e new) s;
  operator = λ last h. h;
  hole = λ last h. h;
})

pub behind-phylum : (above : List Line) (line : Line) (a : Above) (name sort : Name) (b : Bool) (phyla : Names) (k : Name) → IsAbove above a → IsNew above line → line ≡ lines.Phylum name sort b → k ≡ name → Puts a.phyla phyla k → IsBehind line a (record a { phyla = phyla })
behind-phylum above line a name sort b phyla k h new e ek s = subst (λ l. IsBehind l a (record a { phyla = phyla })) (sym e) (record {
  sorts = stay a.sorts;
  constructors = stay a.constructors;
  phyla = put (phylum_names above) a.phyla phyla k name h.phyla ek (or_parts _ _ (sym (kinds-named above name) ∙ subst (IsNew above) e new)).0 s;
  lists = stay a.lists;
  operators = stay a.operators;
  spaces = stay a.spaces;
  operator = λ last h. h;
  hole = λ last h. h;
})

pub behind-list : (above : List Line) (line : Line) (a : Above) (name sort elements separator : Name) (b f : Bool) (lists : Names) (k : Name) → IsAbove above a → IsNew above line → line ≡ lines.List name sort elements separator b f → k ≡ name → Puts a.lists lists k → IsBehind line a (record a { lists = lists })
behind-list above line a name sort elements separator b f lists k h new e ek s = subst (λ l. IsBehind l a (record a { lists = lists })) (sym e) (record {
  sorts = stay a.sorts;
  constructors = stay a.constructors;
  phyla = stay a.phyla;
  lists = put (list_names above) a.lists lists k name h.lists ek (or_parts _ _ (sym (kinds-named above name) ∙ subst (IsNew above) e new)).1 s;
  operators = stay a.operators;
  spaces = stay a.spaces;
  operator = λ last h. h;
  hole = λ last h. h;
})

pub behind-operator : (above : List Line) (line : Line) (a : Above) (name phylum : Name) (scope : Bool) (level : Level) (made : List LineItem) (operators : Names) (k : Name) (o : Operator) → IsAbove above a → IsNew above line → line ≡ lines.Operator name phylum scope level made → k ≡ name → o.phylum.now ≡ phylum → o.items.now ≡ made → Puts a.operators operators k → IsBehind line a (record a { operators = operators; operator = Some o })
behind-operator above line a name phylum scope level made operators k o h new e ek ep em s = subst (λ l. IsBehind l a (record a { operators = operators; operator = Some o })) (sym e) (record {
  sorts = stay a.sorts;
  constructors = stay a.constructors;
  phyla = stay a.phyla;
  lists = stay a.lists;
  operators = put (operator_names above) a.operators operators k name h.operators ek (subst (IsNew above) e new) s;
  spaces = stay a.spaces;
  operator = λ last h. ap Some (told o.phylum.now phylum o.items.now made ep em);
  hole = λ last h. h;
})
  where
    told : (p q : Name) (x y : List LineItem) → p ≡ q → x ≡ y → ◌≡◌ {A = OpDecl} (record { phylum = p; made = x }) (record { phylum = q; made = y })
    told p q x y f g = cc

pub behind-hole : (line : Line) (a : Above) (kind : Name) (term : WrittenTerm) (specimen : Option WrittenTree) (k : Bor (List ℕ)) → line ≡ lines.Hole kind term specimen → k.now ≡ kind → IsBehind line a (record a { hole = Some k })
behind-hole line a kind term specimen k e ek = subst (λ l. IsBehind l a (record a { hole = Some k })) (sym e) (record {
  sorts = stay a.sorts;
  constructors = stay a.constructors;
  phyla = stay a.phyla;
  lists = stay a.lists;
  operators = stay a.operators;
  spaces = stay a.spaces;
  operator = λ last h. h;
  hole = λ last h. ap Some ek;
})

same-row : (line : Line) (a : Above) → sort_names (line ∷ []) ≡ [] → constructor_names (line ∷ []) ≡ [] → phylum_names (line ∷ []) ≡ [] → list_names (line ∷ []) ≡ [] → operator_names (line ∷ []) ≡ [] → space_names (line ∷ []) ≡ []
    → ((last : Option OpDecl) → last ≡ last_operator last (line ∷ [])) → ((last : Option Name) → last ≡ last_hole last (line ∷ [])) → IsBehind line a a
same-row line a es ec ep el eo ee elo eh = record {
  sorts = stay a.sorts ∙ ap (λ l. listed a.sorts ++ l) (sym es);
  constructors = stay a.constructors ∙ ap (λ l. listed a.constructors ++ l) (sym ec);
  phyla = stay a.phyla ∙ ap (λ l. listed a.phyla ++ l) (sym ep);
  lists = stay a.lists ∙ ap (λ l. listed a.lists ++ l) (sym el);
  operators = stay a.operators ∙ ap (λ l. listed a.operators ++ l) (sym eo);
  spaces = stay a.spaces ∙ ap (λ l. listed a.spaces ++ l) (sym ee);
  operator = λ last h. h ∙ elo last;
  hole = λ last h. h ∙ eh last;
}

-- the other lines declare nothing
pub behind-other : (line : Line) (a : Above) → ((d : SortDecl) → line ≡ lines.Sort d → ⊥) → ((n s : Name) → line ≡ lines.Space n s → ⊥) → ((n s : Name) (b : Bool) → line ≡ lines.Phylum n s b → ⊥) → ((n s x w : Name) (b f : Bool) → line ≡ lines.List n s x w b f → ⊥)
    → ((n p : Name) (s : Bool) (l : Level) (m : List LineItem) → line ≡ lines.Operator n p s l m → ⊥) → ((k : Name) (t : WrittenTerm) (w : Option WrittenTree) → line ≡ lines.Hole k t w → ⊥) → IsBehind line a a
behind-other (lines.Sort d) a s e p l o h = absurd (s d refl)
behind-other (lines.Space n x) a s e p l o h = absurd (e n x refl)
behind-other (lines.Phylum n x b) a s e p l o h = absurd (p n x b refl)
behind-other (lines.List n x y w b f) a s e p l o h = absurd (l n x y w b f refl)
behind-other (lines.Operator n x c v m) a s e p l o h = absurd (o n x c v m refl)
behind-other (lines.Hole k t w) a s e p l o h = absurd (h k t w refl)
behind-other (lines.Row t cs) a s e p l o h = same-row (lines.Row t cs) a refl refl refl refl refl refl (λ last. refl) (λ last. refl)
behind-other (lines.Nil k t) a s e p l o h = same-row (lines.Nil k t) a refl refl refl refl refl refl (λ last. refl) (λ last. refl)
behind-other (lines.Cell k t x r) a s e p l o h = same-row (lines.Cell k t x r) a refl refl refl refl refl refl (λ last. refl) (λ last. refl)
behind-other (lines.Case t w) a s e p l o h = same-row (lines.Case t w) a refl refl refl refl refl refl (λ last. refl) (λ last. refl)
behind-other (lines.Declare n k x v w) a s e p l o h = same-row (lines.Declare n k x v w) a refl refl refl refl refl refl (λ last. refl) (λ last. refl)

-- a kind among the names of phyla and of lists
pub phylum-told : (above : List Line) (a : Above) (n : Name) (b : Bool) → IsAbove above a → b ≡ true → b ≡ has a.phyla n → true ≡ is_among (kind_names above) n
phylum-told above a n b h t is =
    sym (kinds-named above n ∙ ap (λ c. c || is_among (list_names above) n) (ap (λ l. is_among l n) (sym h.phyla) ∙ sym is ∙ t))

pub list-told : (above : List Line) (a : Above) (n : Name) (b d : Bool) → IsAbove above a → b ≡ false → b ≡ has a.phyla n → d ≡ has a.lists n → d ≡ is_among (kind_names above) n
list-told above a n b d h f is found =
    found ∙ ap (λ l. is_among l n) h.lists ∙ sym (kinds-named above n ∙ ap (λ c. c || is_among (list_names above) n) (ap (λ l. is_among l n) (sym h.phyla) ∙ sym is ∙ f))
