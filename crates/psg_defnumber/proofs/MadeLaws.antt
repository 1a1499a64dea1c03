-- What is made of a line's terms, part by part.
use Rattle.std.proofs.Common.{◌≡◌, refl, ℕ, List, [], ◌∷◌, ◌++◌, sym, subst, append-nil}
use Rattle.psg_terms.specs.Names.{Name}
use Rattle.psg_terms.specs.Terms.{Term}
use Rattle.psg_terms.specs.Canonical.{variables, variables_of}
use Rattle.psg_terms.proofs.RenamingLaws.{variables_of-append}
use Rattle.psg_grammar.specs.declared.types.Definition.{Definition}
use Rattle.psg_deflines.specs.WrittenTerms.{WrittenTerm}
use Rattle.psg_defnumber.specs.Numbers.{IsTerm, AreTerms, IsNaming}
use Rattle.psg_defnumber.specs.Growing.{Keeps, Lasts}
use Rattle.psg_defnumber.specs.Naming.{LineVariable, names_of, Meets, IsMadeTerm, AreMadeTerms}
use Rattle.psg_defnumber.specs.Fitting.{IsMade}
use Rattle.psg_defnumber.proofs.ListLaws.{grows-refl}
use Rattle.psg_defnumber.proofs.MeetLaws.{meets-none, meets-then, named-later, naming}

pub keeps-self : (d : Definition) → Keeps d d
keeps-self d = record { signature = refl; spaces = grows-refl d.spaces; phyla = grows-refl d.phyla; lists = grows-refl d.lists; operators = grows-refl d.operators }

-- nothing is made
pub made-empty : (def : Definition) (a : List LineVariable) (row : List Term) (P : Definition → List Name → Type 0) → row ≡ [] → ((full : Definition) (names : List Name) → Keeps def full → P full names) → IsMade def a a row P
made-empty def a row P e h = record { meets = subst (λ l. Meets a a (variables_of l)) (sym e) (meets-none a); is = λ names g full k. h full names k }

-- one behind the other
pub made-both : (def : Definition) (a b c : List LineVariable) (row more : List Term) (P Q : Definition → List Name → Type 0) → IsMade def a b row P → IsMade def b c more Q → IsMade def a c (row ++ more) (λ full names. P full names × Q full names)
made-both def a b c row more P Q h k = record {
  meets = subst (Meets a c) (sym (variables_of-append row more)) (meets-then a b c (variables_of row) (variables_of more) h.meets k.meets);
  is = λ names g full keeps. (named-later b c (variables_of more) (λ ns. Lasts def (λ d. P d ns)) k.meets h.is names g full keeps, k.is names g full keeps);
}

-- the same in other words
pub made-as : (def : Definition) (a b : List LineVariable) (row other : List Term) (P Q : Definition → List Name → Type 0) → row ≡ other → ((full : Definition) (names : List Name) → Keeps def full → P full names → Q full names) → IsMade def a b row P → IsMade def a b other Q
made-as def a b row other P Q e f h = record {
  meets = subst (λ l. Meets a b (variables_of l)) e h.meets;
  is = λ names g full k. f full names k (h.is names g full k);
}

pub made-term : (def : Definition) (a b : List LineVariable) (sort : ℕ) (w : WrittenTerm) (t : Term) → IsMadeTerm def.signature a b sort w t → IsMade def a b (t ∷ []) (λ full names. IsTerm full.signature names [] sort w t)
made-term def a b sort w t h = record {
  meets = subst (Meets a b) (sym (append-nil (variables t))) h.meets;
  is = λ names g full k. subst (λ s. IsTerm s names [] sort w t) k.signature (h.is names g);
}

pub made-terms : (def : Definition) (a b : List LineVariable) (sorts : List ℕ) (ws : List WrittenTerm) (ts : List Term) → AreMadeTerms def.signature a b sorts ws ts → IsMade def a b ts (λ full names. AreTerms full.signature names sorts ws ts)
made-terms def a b sorts ws ts h = record {
  meets = h.meets;
  is = λ names g full k. subst (λ s. AreTerms s names sorts ws ts) k.signature (h.are names g);
}

-- at a line's end
pub made-line : (def : Definition) (known : List LineVariable) (row : List Term) (P : Definition → List Name → Type 0) → IsMade def [] known row P → (full : Definition) → Keeps def full → (names : List Name) × P full names × IsNaming names row
made-line def known row P h full k = (names_of known, h.is (names_of known) (grows-refl (names_of known)) full k, naming known row h.meets)
