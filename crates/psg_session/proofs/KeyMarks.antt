-- The columns of a header that are not declared are the keys of the region that are not.
use Rattle.std.proofs.Common.{◌≡◌, Bool, true, false, cond, ◌||◌, ◌&&◌, List, [], ◌∷◌, map, bytes_eq, refl, sym, ◌∙◌, ap}
use Rattle.std.proofs.Math.Bool.{or-false, and-false, and-true}
use Rattle.psg_terms.specs.Names.{is_among}
use Rattle.psg_terms.specs.Relations.{IsIn, first, later}
use Rattle.psg_grammar.specs.declared.types.Definition.{Definition}
use Rattle.psg_grammar.specs.Fragments.{Fragment}
use Rattle.psg_grammar.specs.Keys.{Key}
use Rattle.psg_grammar.specs.Regions.{declared_in}
use Rattle.psg_scope.specs.declared.header.NameCol.{NameCol}
use Rattle.psg_scope.specs.declared.header.Header.{Header}
use Rattle.psg_scope.specs.Headers.{key_of, keys, is_declared, AreRising, IsBelow}
use Rattle.psg_scope.proofs.KeyLists.{key_refl, less-differs, below-absent}
use Rattle.psg_scope.proofs.MergeLaws.{undeclared as no_mark}
use Rattle.psg_scope.proofs.HeaderLaws.{header-rising}
use Rattle.psg_eval.specs.Summaries.{IsHeaderOf}
use Rattle.psg_session.specs.Answers.{key_text, undeclared, free_names}
use Rattle.psg_session.specs.Views.{names_without}

-- a member of a list of columns is above the key that is below all of them
differs : (c d : NameCol) (cols : List NameCol) → IsBelow (key_of c) (keys cols) → IsIn d cols
    → bytes_eq (key_of c) (key_of d) ≡ false
differs c d [] low h = elim h [ ]
differs c d (e ∷ cols) low first = less-differs (key_of c) (key_of d) low.0
differs c d (e ∷ cols) low (later h) = differs c d cols low.1 h

-- where the keys rise, a key is declared where its own column says so
own_mark : (cols : List NameCol) (c : NameCol) → AreRising (keys cols) → IsIn c cols
    → is_declared cols (key_of c) ≡ c.declared
own_mark [] c rising h = elim h [ ]
own_mark (d ∷ cols) c rising first =
    ap (λ b. (c.declared && b) || is_declared cols (key_of c)) (key_refl (key_of c))
    ∙ ap (λ b. (c.declared && true) || b) (no_mark cols (key_of c) (below-absent (key_of c) (keys cols) rising.0))
    ∙ or-false (c.declared && true) ∙ and-true c.declared
own_mark (d ∷ cols) c rising (later h) =
    ap (λ b. (d.declared && b) || is_declared cols (key_of c)) (differs d c cols rising.0 h)
    ∙ ap (λ b. b || is_declared cols (key_of c)) (and-false d.declared)
    ∙ own_mark cols c rising.1 h

-- each text stands where its key does
without_marks : (def : Definition) (declared : List Key) (cols : List NameCol)
    → ((c : NameCol) → IsIn c cols → is_among declared (key_of c) ≡ c.declared)
    → names_without def cols ≡ map (key_text def) (undeclared declared (keys cols))
without_marks def declared [] marks = refl
without_marks def declared (c ∷ cols) marks =
    go c.declared (is_among declared (key_of c)) (marks c first)
    (without_marks def declared cols (λ d h. marks d (later h)))
  where
    go : (a b : Bool) → b ≡ a → names_without def cols ≡ map (key_text def) (undeclared declared (keys cols))
        → cond a (names_without def cols) (key_text def (key_of c) ∷ names_without def cols)
        ≡ map (key_text def) (cond b (undeclared declared (keys cols)) (key_of c ∷ undeclared declared (keys cols)))
    go true true same rest = rest
    go true false same rest = absurd (cc)
    go false true same rest = absurd (cc)
    go false false same rest = ap (λ l. key_text def (key_of c) ∷ l) rest

pub free_are : (def : Definition) (f : Fragment) (h : Header) → IsHeaderOf def f h
    → names_without def h.names ≡ free_names def f
free_are def f h is =
    without_marks def (declared_in def f) h.names (λ c k. sym (is.declares (key_of c)) ∙ own_mark h.names c
    (header-rising is) k)
    ∙ ap (λ ks. map (key_text def) (undeclared (declared_in def f) ks)) is.keys_are
