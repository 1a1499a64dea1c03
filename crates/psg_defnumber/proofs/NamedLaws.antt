-- Positions of names are those of what has the names in a definition.
use Rattle.std.proofs.Common.{◌≡◌, ◌⊎◌, inl, inr, ℕ, ◌<◌, false, zero, suc, List, [], ◌∷◌, map, length, slice_get, get_or, refl, ap, sym, ◌∙◌, subst, Option, Some, None, IsTrue, is_some, drop, arith}
use Rattle.std.proofs.lemmas.Bool.{false≢true, true≢false, or_parts}
use Rattle.std.proofs.lemmas.Option.{slice_get-map, slice_get_within, get_or_from_slice_get, same_Some}
use Rattle.std.specs.List.{AllByRecursion, list_any}
use Rattle.std.specs.Option.{option_map}
use Rattle.psg_terms.specs.Names.{Name}
use Rattle.psg_terms.specs.Signature.{Signature, Symbol}
use Rattle.psg_terms.specs.Declarations.{IsSpelled}
use Rattle.psg_grammar.specs.declared.types.Kind.{Kind}
use Rattle.psg_grammar.specs.declared.types.Kind.TheVariants as kinds
use Rattle.psg_grammar.specs.declared.types.Space.{Space}
use Rattle.psg_grammar.specs.declared.types.Phylum.{Phylum}
use Rattle.psg_grammar.specs.declared.types.ListKind.{ListKind}
use Rattle.psg_grammar.specs.declared.types.Operator.{Operator}
use Rattle.psg_grammar.specs.declared.types.Item.{Item}
use Rattle.psg_grammar.specs.declared.types.Definition.{Definition}
use Rattle.psg_grammar.specs.Sound.{HasKindSort, HasSpaceSort, IsItem}
use Rattle.psg_deflines.specs.declared.lines.LineItem.{LineItem}
use Rattle.psg_deflines.specs.declared.lines.LineItem.TheVariants as items
use Rattle.psg_deflines.specs.Entries.{Entry, written}
use Rattle.psg_deflines.specs.Forms.{HasForm}
use Rattle.psg_deflines.specs.WrittenTrees.{WrittenTree, operator, place}
use Rattle.psg_deflines.specs.TreeShapes.{with_parts}
use Rattle.psg_deflines.specs.declared.trees.LinePlace.{LinePlace}
use Rattle.psg_deflines.specs.declared.trees.LinePart.{LinePart}
use Rattle.psg_deflines.specs.declared.lines.Line.{Line}
use Rattle.psg_deflines.specs.declared.lines.Line.TheVariants as lines
use Rattle.psg_defcheck.specs.Scopes.{sort_names, entity_sort, space_names, phylum_names, list_names, operator_names, KindDecl, kind_declared, is_list, is_kind, operator_declared}
use Rattle.psg_defcheck.specs.Scopes as scopes
use Rattle.psg_defcheck.specs.Meanings.{IsKnown, KnowsTree, is_name_item}
use Rattle.psg_defcheck.specs.Parts.{KnowsPlace, KnowsEnd}
use Rattle.psg_defcheck.specs.Faults.{ArePassed}
use Rattle.psg_defcheck.specs.Checks.{IsKindAt}
use Rattle.psg_defcheck.proofs.KnownLaws.{knows-parts}
use Rattle.psg_defnumber.specs.Growing.{Lasts}
use Rattle.psg_defnumber.specs.Soundness.{AreOfFile}
use Rattle.psg_defnumber.specs.Declaring.{HasSorts, HasPhyla, AreListsOf, HasKinds, HasNames, IsSpaceAt, IsMeant, IsMeantEntry, HasElements}
use Rattle.psg_defnumber.specs.Numbers.{IsItem as IsItemNamed, AreItems, sort_decls, IsKind, IsSpaceNamed, IsOperatorNamed, AreSpaces, ArePhyla, AreLists, AreOperators}
use Rattle.psg_defnumber.proofs.OnceLaws.{decls-sorts}
use Rattle.psg_defnumber.proofs.LineSizes.{formed}

pub named-at : {X : Type 0} (f : X → Name) (xs : List X) (names : List Name) (p : ℕ) (n : Name) → map f xs ≡ names → slice_get names p ≡ Some n → (x : X) × (slice_get xs p ≡ Some x) × (f x ≡ n)
named-at {X} f xs names p n e h = go (slice_get xs p) refl
  where
    there : (o : Option X) → slice_get xs p ≡ o → option_map f o ≡ Some n
    there o is = ap (option_map f) (sym is) ∙ sym (slice_get-map f xs p) ∙ ap (λ l. slice_get l p) e ∙ h

    same : (x : X) → ◌≡◌ {A = Option Name} (Some (f x)) (Some n) → f x ≡ n
    same x q = cc

    none : ◌≡◌ {A = Option Name} None (Some n) → ⊥
    none q = cc

    go : (o : Option X) → slice_get xs p ≡ o → (x : X) × (slice_get xs p ≡ Some x) × (f x ≡ n)
    go (Some x) is = (x, is, same x (there (Some x) is))
    go None is = absurd (none (there None is))

pub sort-is : (file : List Line) (p : ℕ) (n : Name) → slice_get (sort_names file) p ≡ Some n → (def : Definition) → HasSorts file def → Lasts def (λ full. slice_get full.signature.sorts p ≡ Some n)
sort-is file p n at def h = λ full keeps. ap (λ s. slice_get s.sorts p) (sym keeps.signature) ∙ ap (λ l. slice_get l p) h ∙ at

pub phylum-is : (file : List Line) (p : ℕ) (n : Name) → slice_get (phylum_names file) p ≡ Some n → (def : Definition) → HasPhyla file def → Lasts def (λ full. IsKind full n (kinds.Phylum p))
phylum-is file p n at def h = λ full keeps.
    let found = named-at (λ (q : Phylum). q.name) def.phyla (phylum_names file) p n h at in (found.0, keeps.phyla p found.0 found.1, found.2)

pub list-is : (file : List Line) (l : ℕ) (n : Name) → slice_get (list_names file) l ≡ Some n → (def : Definition) → HasKinds file def → Lasts def (λ full. IsKind full n (kinds.List l))
list-is file l n at def h = λ full keeps.
    let found = named-at (λ (q : ListKind). q.name) def.lists (list_names file) l n h.lists at in (found.0, keeps.lists l found.0 found.1, found.2)

pub kind-is : (file : List Line) (k : Kind) (n : Name) → IsKindAt file n k → (def : Definition) → HasKinds file def → Lasts def (λ full. IsKind full n k)
kind-is file (kinds.Phylum p) n at def h = phylum-is file p n at def h.phyla
kind-is file (kinds.List l) n at def h = list-is file l n at def h

pub space-is : (file : List Line) (p : ℕ) (n : Name) → IsSpaceAt file n p → (def : Definition) → HasKinds file def → Lasts def (λ full. IsSpaceNamed full n p)
space-is file p [] at def h = λ full keeps. at
space-is file p (c ∷ cs) at def h = λ full keeps.
    let found = named-at (λ (s : Space). s.name) def.spaces (space_names file) p (c ∷ cs) h.spaces at in (found.0, keeps.spaces p found.0 found.1, found.2)

pub operator-is : (file : List Line) (p : ℕ) (n : Name) (def : Definition) (own : Operator) → slice_get (operator_names file) p ≡ Some n → HasNames file def → own ≡ get_or def.operators p own → Lasts def (λ full. IsOperatorNamed full n p own)
operator-is file p n def own at h e = λ full keeps.
    let found = named-at (λ (o : Operator). o.name) def.operators (operator_names file) p n h.operators at in
    let same : own ≡ found.0 = e ∙ get_or_from_slice_get def.operators p found.0 own found.1 in
    (keeps.operators p own (found.1 ∙ ap Some (sym same)), ap (λ (o : Operator). o.name) same ∙ found.2)

-- so a kind is there
pub kind-there : (file : List Line) (k : Kind) (n : Name) → IsKindAt file n k → (def : Definition) → HasKinds file def → (s : ℕ) × HasKindSort def k s
kind-there file (kinds.Phylum p) n at def h = let found = named-at (λ (q : Phylum). q.name) def.phyla (phylum_names file) p n h.phyla at in (found.0.sort.0, (found.0, found.1, refl))
kind-there file (kinds.List l) n at def h = let found = named-at (λ (q : ListKind). q.name) def.lists (list_names file) l n h.lists at in (found.0.sort.0, (found.0, found.1, refl))

-- and a space is there, where a line declares one
pub read-within : {X : Type 0} (xs : List X) (p : ℕ) → p < length xs → (x : X) × (slice_get xs p ≡ Some x)
read-within [] p lt = absurd (omega arith)
read-within (x ∷ xs) zero lt = (x, refl)
read-within (x ∷ xs) (suc p) lt = read-within xs p (omega arith)

space-first : (file : List Line) → IsTrue (is_some (entity_sort file)) → 0 < length (space_names file)
space-first [] h = absurd (false≢true h)
space-first (lines.Space name sort ∷ file) h = omega arith
space-first (_ ∷ file) h = space-first file h

space-within : (file : List Line) (p : ℕ) (n : Name) → IsTrue (is_some (entity_sort file)) → IsSpaceAt file n p → p < length (space_names file)
space-within file p [] some at = subst (λ q. q < length (space_names file)) (sym at) (space-first file some)
space-within file p (c ∷ cs) some at = slice_get_within (space_names file) p (c ∷ cs) at

pub space-there : (file : List Line) (p : ℕ) (n : Name) → IsTrue (is_some (entity_sort file)) → IsSpaceAt file n p → (def : Definition) → HasKinds file def → (s : ℕ) × HasSpaceSort def p s
space-there file p n some at def h =
    let found = read-within (space_names file) p (space-within file p n some at) in
    let space = named-at (λ (s : Space). s.name) def.spaces (space_names file) p found.0 h.spaces found.1 in (space.0.sort.0, (space.0, space.1, refl))

-- a position of a name is that of something
pub named-below : {X : Type 0} (f : X → Name) (xs : List X) (names : List Name) (p : ℕ) (n : Name) → map f xs ≡ names → slice_get names p ≡ Some n → p < length xs
named-below f xs names p n e h = let found = named-at f xs names p n e h in slice_get_within xs p found.0 found.1

pub symbol-is : (sig : Signature) (names : List Name) (p : ℕ) (k n own : Name) (args : List ℕ) (x : ℕ) → map (λ (s : Symbol). s.name) sig.symbols ≡ names → slice_get names p ≡ Some k → k ≡ n
    → slice_get sig.symbols p ≡ Some (record { name = own; arguments = args; sort = x }) → (s : Symbol) × (slice_get sig.symbols p ≡ Some s) × (s.name ≡ n) × (s.arguments ≡ args)
symbol-is sig names p k n own args x e at named is =
    let s : Symbol = record { name = own; arguments = args; sort = x } in
    let found = named-at (λ (s : Symbol). s.name) sig.symbols names p k e at in
    let one : ◌≡◌ {A = Option Symbol} (Some s) (Some found.0) = sym is ∙ found.1 in
    (s, is, ap (λ (y : Symbol). y.name) (same_Some s found.0 one) ∙ found.2 ∙ named, refl)

pub list-kind : (file : List Line) (n : Name) → IsTrue (is_list file n) → IsTrue (is_kind file n)
list-kind file n h = go (kind_declared file n) refl
  where
    go : (o : Option KindDecl) → kind_declared file n ≡ o → IsTrue (is_kind file n)
    go (Some d) e = ap is_some e
    go None e = absurd (false≢true (rw e at h))

-- the lines are known
pub meant-line : (file : List Line) (entry : Entry) (line own : Line) → IsMeantEntry file entry → entry ≡ Some line → line ≡ own → IsMeant file own
meant-line file entry line own h e d = subst (IsMeantEntry file) (e ∙ ap Some d) h

pub known-line : (file : List Line) (entry : Entry) (line own : Line) → IsMeantEntry file entry → entry ≡ Some line → line ≡ own → IsKnown file own
known-line file entry line own h e d = (meant-line file entry line own h e d).known

pub known-at : (file : List Line) (entries : List Entry) (i : ℕ) (e : Entry) → AllByRecursion (IsMeant file) (written entries) → i < length entries → e ≡ get_or entries i e → IsMeantEntry file e
known-at file [] i e h lt at = absurd (omega arith)
known-at file (None ∷ entries) zero e h lt at = subst (IsMeantEntry file) (sym at) tt
known-at file (Some line ∷ entries) zero e h lt at = subst (IsMeantEntry file) (sym at) h.0
known-at file (None ∷ entries) (suc i) e h lt at = known-at file entries i e h (omega arith) at
known-at file (Some line ∷ entries) (suc i) e h lt at = known-at file entries i e h.1 (omega arith) at

pub all-known : (file above rest : List Line) → AllByRecursion HasForm rest → ArePassed file above rest → AllByRecursion (IsMeant file) rest
all-known file above [] form h = tt
all-known file above (line ∷ rest) form h = (record { form = form.0; known = h.0.1.0; entity = h.0.1.1.1.1.0; above = above; sorted = h.0.1.1.1.0 }, all-known file _ rest form.1 h.1)

pub lines-known : (seen : List Line) (entries : List Entry) → written entries ≡ seen → AreOfFile seen → ArePassed seen [] seen → AllByRecursion (IsMeant seen) (written entries)
lines-known seen entries e few h = subst (AllByRecursion (IsMeant seen)) (sym e) (all-known seen [] seen (formed seen few) h)

pub known-drop : (file : List Line) (k : ℕ) (entries : List Entry) → AllByRecursion (IsMeant file) (written entries) → AllByRecursion (IsMeant file) (written (drop k entries))
known-drop file zero entries h = h
known-drop file (suc k) [] h = h
known-drop file (suc k) (None ∷ entries) h = known-drop file k entries h
known-drop file (suc k) (Some line ∷ entries) h = known-drop file k entries h.1

-- the names in specimens are known
pub operator-known : (file : List Line) (t : WrittenTree) (o : Name) (ps : List LinePart) → with_parts (operator o) ps ≡ t → KnowsTree file t → IsTrue (is_some (operator_declared file o))
operator-known file t o ps e h = ((knows-parts file (operator o) ps).0 (subst (KnowsTree file) (sym e) h)).0

pub place-known : (file : List Line) (t : WrittenTree) (p : LinePlace) → place p.kind p.term ≡ t → KnowsTree file t → KnowsPlace file p
place-known file t p e h = subst (KnowsTree file) (sym e) h

pub end-known : (file : List Line) (rest : Option LinePlace) (own : LinePlace) → rest ≡ Some own → KnowsEnd file rest → KnowsPlace file own
end-known file rest own e h = let both = subst (KnowsEnd file) e h in (list-kind file own.kind both.0, both.1)

-- a definition with the phyla of the lines has their names
pub phyla-names : (def : Definition) (file : List Line) (phyla : List Phylum) → ArePhyla def file phyla → map (λ (q : Phylum). q.name) phyla ≡ phylum_names file
phyla-names def [] phyla h = ap (map (λ (q : Phylum). q.name)) h
phyla-names def (lines.Phylum name sort b ∷ file) phyla (p, rest, e, is, more) =
    ap (map (λ (q : Phylum). q.name)) e ∙ ap (λ n. n ∷ map (λ (q : Phylum). q.name) rest) is.named ∙ ap (λ l. name ∷ l) (phyla-names def file rest more)
phyla-names def (_ ∷ file) phyla h = phyla-names def file phyla h

pub has-sorts : (file : List Line) (def : Definition) → IsSpelled (sort_decls file) def.signature → HasSorts file def
has-sorts file def spelled = spelled.sorts ∙ decls-sorts file

pub spaces-names : (def : Definition) (file : List Line) (spaces : List Space) → AreSpaces def (scopes.spaces file) spaces → map (λ (q : Space). q.name) spaces ≡ space_names file
spaces-names def [] spaces h = ap (map (λ (q : Space). q.name)) h
spaces-names def (lines.Space name sort ∷ file) spaces (s, rest, e, named, of_sort, more) =
    ap (map (λ (q : Space). q.name)) e ∙ ap (λ n. n ∷ map (λ (q : Space). q.name) rest) named ∙ ap (λ l. name ∷ l) (spaces-names def file rest more)
spaces-names def (_ ∷ file) spaces h = spaces-names def file spaces h

pub lists-names : (def : Definition) (rows file : List Line) (lists : List ListKind) → AreLists def rows file lists → AreListsOf file lists
lists-names def rows [] lists h = ap (map (λ (q : ListKind). q.name)) h
lists-names def rows (lines.List name sort element separator on unfinished ∷ file) lists (l, rest, e, is, more) =
    ap (map (λ (q : ListKind). q.name)) e ∙ ap (λ n. n ∷ map (λ (q : ListKind). q.name) rest) is.named ∙ ap (λ ns. name ∷ ns) (lists-names def rows file rest more)
lists-names def rows (_ ∷ file) lists h = lists-names def rows file lists h

-- and the phylum of each list's elements is there
pub lists-elements : (def : Definition) (rows file : List Line) (lists : List ListKind) → AreLists def rows file lists → AllByRecursion (HasElements def) lists
lists-elements def rows [] lists h = subst (AllByRecursion (HasElements def)) (sym h) tt
lists-elements def rows (lines.List name sort element separator on unfinished ∷ file) lists (l, rest, e, is, more) =
    subst (AllByRecursion (HasElements def)) (sym e) ((is.element_sort, is.elements_sort), lists-elements def rows file rest more)
lists-elements def rows (_ ∷ file) lists h = lists-elements def rows file lists h

pub operators-names : (def : Definition) (file : List Line) (operators : List Operator) → AreOperators def file operators → map (λ (q : Operator). q.name) operators ≡ operator_names file
operators-names def [] operators h = ap (map (λ (q : Operator). q.name)) h
operators-names def (lines.Operator name phylum scope level parts ∷ file) operators (o, rest, e, is, more) =
    ap (map (λ (q : Operator). q.name)) e ∙ ap (λ n. n ∷ map (λ (q : Operator). q.name) rest) is.named ∙ ap (λ l. name ∷ l) (operators-names def file rest more)
operators-names def (_ ∷ file) operators h = operators-names def file operators h

-- what items name is there, where a line declares a space
pub items-there : (file : List Line) (def : Definition) → HasKinds file def → (parts : List LineItem) (xs : List Item) → (list_any is_name_item parts ≡ false) ⊎ IsTrue (is_some (entity_sort file)) → AreItems def parts xs → AllByRecursion (IsItem def) xs
items-there file def has [] xs some h = subst (AllByRecursion (IsItem def)) (sym h) tt
items-there file def has (w ∷ ws) xs some (i, rest, e, h, hs) =
    subst (AllByRecursion (IsItem def)) (sym e) (one w i some h, items-there file def has ws rest (later some) hs)
  where
    later : (list_any is_name_item (w ∷ ws) ≡ false) ⊎ IsTrue (is_some (entity_sort file)) → (list_any is_name_item ws ≡ false) ⊎ IsTrue (is_some (entity_sort file))
    later (inl f) = inl (or_parts (is_name_item w) (list_any is_name_item ws) f).1
    later (inr s) = inr s

    kind : (k : Kind) (n : Name) → IsKind def n k → (s : ℕ) × HasKindSort def k s
    kind (kinds.Phylum p) n (x, at, named) = (x.sort.0, (x, at, refl))
    kind (kinds.List l) n (x, at, named) = (x.sort.0, (x, at, refl))

    space : (n : Name) (p : ℕ) → IsTrue (is_some (entity_sort file)) → IsSpaceNamed def n p → (s : ℕ) × HasSpaceSort def p s
    space [] p s at = space-there file p [] s at def has
    space (c ∷ cs) p s (x, at, named) = (x.sort.0, (x, at, refl))

    one : (w : LineItem) (i : Item) → (list_any is_name_item (w ∷ ws) ≡ false) ⊎ IsTrue (is_some (entity_sort file)) → IsItemNamed def w i → IsItem def i
    one (items.Slot n) i s (k, is, e) = subst (IsItem def) (sym e) (kind k n is)
    one (items.Refers n) i (inl f) h = absurd (true≢false f)
    one (items.Refers n) i (inr s) (p, is, e) = subst (IsItem def) (sym e) (space n p s is)
    one (items.Declares n) i (inl f) h = absurd (true≢false f)
    one (items.Declares n) i (inr s) (p, is, e) = subst (IsItem def) (sym e) (space n p s is)
    one _ i s h = subst (IsItem def) (sym h) tt
