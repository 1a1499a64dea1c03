-- No name is declared twice.
use Rattle.std.proofs.Common.{◌≡◌, ℕ, ◌+◌, false, List, [], ◌∷◌, ◌++◌, refl, ap, sym, ◌∙◌, subst, append_assoc, append-nil}
use Rattle.std.specs.List.{AllByRecursion}
use Rattle.std.specs.Str.{bytes_eq}
use Rattle.std.proofs.lemmas.Bool.{or_from, or_parts}
use Rattle.psg_terms.specs.Names.{Name, is_among, has_twice}
use Rattle.psg_terms.specs.Declarations as written
use Rattle.psg_terms.specs.declared.declare.ConDecl.{ConDecl}
use Rattle.psg_terms.proofs.DeclareLaws.{has_twice-push, names_in-append, bytes_eq-sym, is_among-append}
use Rattle.psg_deflines.specs.declared.lines.Line.{Line}
use Rattle.psg_deflines.specs.declared.lines.Line.TheVariants as lines
use Rattle.psg_defcheck.specs.Scopes.{sort_names, constructor_names, names_of, kind_names, operator_names, space_names}
use Rattle.psg_defcheck.specs.Meanings.{IsNew}
use Rattle.psg_defcheck.specs.Faults.{ArePassed}
use Rattle.psg_defcheck.proofs.AboveLaws.{sort_names-append, constructor_names-append, operator_names-append, space_names-append}
use Rattle.psg_defnumber.specs.Numbers.{sort_decls}

pub kind_names-append : (xs ys : List Line) → kind_names (xs ++ ys) ≡ kind_names xs ++ kind_names ys
kind_names-append [] ys = refl
kind_names-append (lines.Phylum name sort bracketed ∷ xs) ys = ap (λ l. name ∷ l) (kind_names-append xs ys)
kind_names-append (lines.List name sort elements separator on unfinished ∷ xs) ys = ap (λ l. name ∷ l) (kind_names-append xs ys)
kind_names-append (_ ∷ xs) ys = kind_names-append xs ys

-- a property of the lines above that each new line keeps
kept : (P : List Line → Type 0) → ((above : List Line) (line : Line) → IsNew above line → P above → P (above ++ line ∷ [])) → (file above rest : List Line) → ArePassed file above rest → P above → P (above ++ rest)
kept P step file above [] passed h = subst P (sym (append-nil above)) h
kept P step file above (line ∷ rest) (first, more) h = subst P (append_assoc above (line ∷ []) rest) (kept P step file (above ++ line ∷ []) rest more (step above line first.0 h))

add-none : (xs : List Name) → has_twice xs ≡ false → has_twice (xs ++ []) ≡ false
add-none xs h = ap has_twice (append-nil xs) ∙ h

kinds-step : (above : List Line) (line : Line) → IsNew above line → has_twice (kind_names above) ≡ false → has_twice (kind_names (above ++ line ∷ [])) ≡ false
kinds-step above line new h = ap has_twice (kind_names-append above (line ∷ [])) ∙ go line new
  where
    go : (line : Line) → IsNew above line → has_twice (kind_names above ++ kind_names (line ∷ [])) ≡ false
    go (lines.Phylum name sort bracketed) n = has_twice-push (kind_names above) name h n
    go (lines.List name sort elements separator on unfinished) n = has_twice-push (kind_names above) name h n
    go _ n = add-none (kind_names above) h

operators-step : (above : List Line) (line : Line) → IsNew above line → has_twice (operator_names above) ≡ false → has_twice (operator_names (above ++ line ∷ [])) ≡ false
operators-step above line new h = ap has_twice (operator_names-append above (line ∷ [])) ∙ go line new
  where
    go : (line : Line) → IsNew above line → has_twice (operator_names above ++ operator_names (line ∷ [])) ≡ false
    go (lines.Operator name phylum scope level parts) n = has_twice-push (operator_names above) name h n
    go _ n = add-none (operator_names above) h

spaces-step : (above : List Line) (line : Line) → IsNew above line → has_twice (space_names above) ≡ false → has_twice (space_names (above ++ line ∷ [])) ≡ false
spaces-step above line new h = ap has_twice (space_names-append above (line ∷ [])) ∙ go line new
  where
    go : (line : Line) → IsNew above line → has_twice (space_names above ++ space_names (line ∷ [])) ≡ false
    go (lines.Space name sort) n = has_twice-push (space_names above) name h n
    go _ n = add-none (space_names above) h

sorts-step : (above : List Line) (line : Line) → IsNew above line → has_twice (sort_names above) ≡ false → has_twice (sort_names (above ++ line ∷ [])) ≡ false
sorts-step above line new h = ap has_twice (sort_names-append above (line ∷ [])) ∙ go line new
  where
    go : (line : Line) → IsNew above line → has_twice (sort_names above ++ sort_names (line ∷ [])) ≡ false
    go (lines.Sort d) n = has_twice-push (sort_names above) d.name h n.0
    go _ n = add-none (sort_names above) h

-- two lists without a name twice, and no name in both
apart-from : (x : Name) (xs ys : List Name) → AllByRecursion (λ n. is_among (x ∷ xs) n ≡ false) ys → (is_among ys x ≡ false) × AllByRecursion (λ n. is_among xs n ≡ false) ys
apart-from x xs [] h = (refl, tt)
apart-from x xs (y ∷ ys) h =
    let here = or_parts (bytes_eq x y) (is_among xs y) h.0 in
    let rest = apart-from x xs ys h.1 in
    (or_from (bytes_eq y x) (is_among ys x) (bytes_eq-sym x y here.0) rest.0, (here.1, rest.1))

once-both : (xs ys : List Name) → has_twice xs ≡ false → has_twice ys ≡ false → AllByRecursion (λ n. is_among xs n ≡ false) ys → has_twice (xs ++ ys) ≡ false
once-both [] ys h k apart = k
once-both (x ∷ xs) ys h k apart =
    let both = or_parts (is_among xs x) (has_twice xs) h in
    let rest = apart-from x xs ys apart in
    or_from (is_among (xs ++ ys) x) (has_twice (xs ++ ys)) (is_among-append xs ys x ∙ or_from (is_among xs x) (is_among ys x) both.0 rest.0) (once-both xs ys both.1 k rest.1)

constructors-step : (above : List Line) (line : Line) → IsNew above line → has_twice (constructor_names above) ≡ false → has_twice (constructor_names (above ++ line ∷ [])) ≡ false
constructors-step above line new h = ap has_twice (constructor_names-append above (line ∷ [])) ∙ go line new
  where
    go : (line : Line) → IsNew above line → has_twice (constructor_names above ++ constructor_names (line ∷ [])) ≡ false
    go (lines.Sort d) n =
        ap (λ l. has_twice (constructor_names above ++ l)) (append-nil (names_of d.constructors)) ∙ once-both (constructor_names above) (names_of d.constructors) h n.1 n.2
    go _ n = add-none (constructor_names above) h

pub sorts-once : (file : List Line) → ArePassed file [] file → has_twice (sort_names file) ≡ false
sorts-once file passed = kept (λ l. has_twice (sort_names l) ≡ false) sorts-step file [] file passed refl

pub constructors-once : (file : List Line) → ArePassed file [] file → has_twice (constructor_names file) ≡ false
constructors-once file passed = kept (λ l. has_twice (constructor_names l) ≡ false) constructors-step file [] file passed refl

pub kinds-once : (file : List Line) → ArePassed file [] file → has_twice (kind_names file) ≡ false
kinds-once file passed = kept (λ l. has_twice (kind_names l) ≡ false) kinds-step file [] file passed refl

pub operators-once : (file : List Line) → ArePassed file [] file → has_twice (operator_names file) ≡ false
operators-once file passed = kept (λ l. has_twice (operator_names l) ≡ false) operators-step file [] file passed refl

pub spaces-once : (file : List Line) → ArePassed file [] file → has_twice (space_names file) ≡ false
spaces-once file passed = kept (λ l. has_twice (space_names l) ≡ false) spaces-step file [] file passed refl

-- the sorts and constructors that a signature is made of
pub decls-sorts : (file : List Line) → written.sort_names (sort_decls file) ≡ sort_names file
decls-sorts [] = refl
decls-sorts (lines.Sort d ∷ file) = ap (λ l. d.name ∷ l) (decls-sorts file)
decls-sorts (_ ∷ file) = decls-sorts file

names-own : (n : ℕ) (cs : List ConDecl) → written.names_in (written.with_sort n cs) ≡ names_of cs
names-own n [] = refl
names-own n (c ∷ cs) = ap (λ l. c.name ∷ l) (names-own n cs)

pub decls-constructors : (n : ℕ) (file : List Line) → written.names_in (written.in_order n (sort_decls file)) ≡ constructor_names file
decls-constructors n [] = refl
decls-constructors n (lines.Sort d ∷ file) =
    names_in-append (written.with_sort n d.constructors) (written.in_order (n + 1) (sort_decls file))
    ∙ ap (λ l. l ++ written.names_in (written.in_order (n + 1) (sort_decls file))) (names-own n d.constructors) ∙ ap (λ l. names_of d.constructors ++ l) (decls-constructors (n + 1) file)
decls-constructors n (_ ∷ file) = decls-constructors n file
