-- A definition that is made in stages.
use Rattle.std.proofs.Common.{ℕ, ◌≡◌, false, List, [], map, refl, ap, sym, ◌∙◌, subst}
use Rattle.psg_terms.specs.Names.{has_twice}
use Rattle.psg_terms.specs.Signature.{Signature, Symbol}
use Rattle.psg_terms.specs.Declarations.{in_order, AreSpelled, IsSpelled}
use Rattle.psg_terms.specs.Sound.{IsSound}
use Rattle.psg_terms.proofs.DeclareFaults.{symbol_names}
use Rattle.psg_grammar.specs.declared.types.Space.{Space}
use Rattle.psg_grammar.specs.declared.types.Phylum.{Phylum}
use Rattle.psg_grammar.specs.declared.types.ListKind.{ListKind}
use Rattle.psg_grammar.specs.declared.types.Operator.{Operator}
use Rattle.psg_grammar.specs.declared.types.HoleRow.{HoleRow}
use Rattle.psg_grammar.specs.declared.types.DeclareRow.{DeclareRow}
use Rattle.psg_grammar.specs.declared.types.Definition.{Definition}
use Rattle.psg_deflines.specs.declared.lines.Line.{Line}
use Rattle.psg_defcheck.specs.Scopes.{sort_names, constructor_names, space_names, phylum_names, list_names, kind_names, operator_names}
use Rattle.psg_defcheck.specs.Scopes as scopes
use Rattle.psg_defcheck.specs.Faults.{ArePassed}
use Rattle.psg_defnumber.specs.Growing.{Keeps, Lasts}
use Rattle.psg_defnumber.specs.Soundness.{AreOfFile}
use Rattle.psg_defnumber.proofs.LineSizes.{formed}
use Rattle.psg_defnumber.specs.Filling.{Fills}
use Rattle.psg_defnumber.specs.Stages.{IsDeclared}
use Rattle.psg_defnumber.specs.Numbers.{sort_decls, AreSpaces, ArePhyla, AreLists, AreOperators, AreHoleRows, AreDeclareRows, IsNumbered}
use Rattle.psg_defnumber.proofs.ListLaws.{grows-refl, grows-nil, grows-trans}
use Rattle.psg_defnumber.specs.Declaring.{HasSorts, HasConstructors, HasPhyla, AreListsOf, HasKinds, HasNames, IsMeant, HasPhylumSort}
use Rattle.psg_defnumber.proofs.SortPlaces.{symbols-sorted, phyla-sorted, lists-sorted, spaces-sorted}
use Rattle.psg_defnumber.proofs.NamedLaws.{all-known, phyla-names, spaces-names, lists-names, lists-elements, operators-names}
use Rattle.psg_defnumber.proofs.MadeLaws.{keeps-self}
use Rattle.psg_defnumber.proofs.OperatorLaws.{each-columns, operators-items}
use Rattle.psg_defnumber.proofs.PlacingLaws.{AreMeant, kinds-meant, element-places, operator-declared, items-placed, kind-at}
use Rattle.psg_grammar.specs.declared.types.Kind.TheVariants as kinds
use Rattle.std.specs.List.{AllByRecursion}
use Rattle.psg_defnumber.proofs.OnceLaws.{decls-sorts, decls-constructors, kinds-once, operators-once, spaces-once, sorts-once, constructors-once}

abbrev pub staged : ℕ → Signature → List Space → List Phylum → List ListKind → List Operator → Definition
staged version sig spaces phyla lists operators = record { version = version; signature = sig; spaces = spaces; phyla = phyla; lists = lists; operators = operators; hole_rows = []; declare_rows = [] }

-- the definition with these parts
abbrev pub filled : Definition → List Space → List Phylum → List ListKind → List Operator → Definition
filled d spaces phyla lists operators = record { version = d.version; signature = d.signature; spaces = spaces; phyla = phyla; lists = lists; operators = operators; hole_rows = d.hole_rows; declare_rows = d.declare_rows }

keeps-then : (a b c : Definition) → Keeps a b → Keeps b c → Keeps a c
keeps-then a b c h k = record {
  signature = subst (λ s. a.signature ≡ s) k.signature h.signature;
  spaces = grows-trans a.spaces b.spaces c.spaces h.spaces k.spaces;
  phyla = grows-trans a.phyla b.phyla c.phyla h.phyla k.phyla;
  lists = grows-trans a.lists b.lists c.lists h.lists k.lists;
  operators = grows-trans a.operators b.operators c.operators h.operators k.operators;
}

-- what holds of a part holds of the whole
pub lasts-on : (a b : Definition) (P : Definition → Type 0) → Keeps a b → Lasts a P → Lasts b P
lasts-on a b P h k = λ full keeps. k full (keeps-then a b full h keeps)

pub is-declared : (version : ℕ) (file seen : List Line) (sig : Signature) (spaces : List Space) (phyla : List Phylum) (bare lists : List ListKind) (operators : List Operator) → file ≡ seen → ArePassed seen [] seen → IsSpelled (sort_decls file) sig → IsSound sig
    → ((def : Definition) → HasSorts seen def → Lasts def (λ full. AreSpaces full (scopes.spaces file) spaces))
    → ((def : Definition) → HasSorts seen def → Lasts def (λ full. ArePhyla full file phyla))
    → ((def : Definition) → HasSorts seen def → HasPhyla seen def → Lasts def (λ full. AreLists full [] file bare))
    → Fills (staged version sig spaces phyla [] []) [] file bare lists
    → Lasts (staged version sig spaces phyla lists []) (λ full. AreOperators full file operators)
    → IsDeclared version file (staged version sig spaces phyla lists operators)
is-declared version file seen sig spaces phyla bare lists operators e passed spelled sound of_spaces of_phyla of_bare of_lists of_operators = record {
  same_version = refl;
  signature = spelled;
  sound = sound;
  spaces = of_spaces whole has;
  phyla = of_phyla whole has;
  lists = lasts-on (staged version sig spaces phyla [] []) whole (λ full. AreLists full file file lists)
      (record { signature = refl; spaces = grows-refl spaces; phyla = grows-refl phyla; lists = grows-nil lists; operators = grows-nil operators }) (λ full k. of_lists file once full k (of_bare (staged version sig spaces phyla [] []) has phyla-there full k));
  operators = lasts-on (staged version sig spaces phyla lists []) whole (λ full. AreOperators full file operators)
      (record { signature = refl; spaces = grows-refl spaces; phyla = grows-refl phyla; lists = grows-refl lists; operators = grows-nil operators }) of_operators;
}
  where
    whole : Definition
    whole = staged version sig spaces phyla lists operators

    once : has_twice (kind_names file) ≡ false
    once = subst (λ f. has_twice (kind_names f) ≡ false) (sym e) (kinds-once seen passed)

    has : sig.sorts ≡ sort_names seen
    has = spelled.sorts ∙ decls-sorts file ∙ ap sort_names e

    phyla-there : map (λ (p : Phylum). p.name) phyla ≡ phylum_names seen
    phyla-there = phyla-names whole file phyla (of_phyla whole has whole (keeps-self whole)) ∙ ap phylum_names e

-- a signature that the lines spell has their constructors
pub constructors-there : (file seen : List Line) (sig : Signature) → file ≡ seen → ArePassed seen [] seen → IsSpelled (sort_decls file) sig → HasConstructors seen sig
constructors-there file seen sig e passed spelled = record {
  names = names;
  once = sorts-once seen passed;
  sorts = symbols-sorted seen sig
      (subst (λ f. AreSpelled (sort_names f) (in_order 0 (sort_decls f)) sig.symbols) e (subst (λ ns. AreSpelled ns (in_order 0 (sort_decls file)) sig.symbols) (decls-sorts file) spelled.symbols)) names (constructors-once seen passed);
}
  where
    names : map (λ (s : Symbol). s.name) sig.symbols ≡ constructor_names seen
    names = symbol_names (sort_decls file) sig spelled ∙ decls-constructors 0 file ∙ ap constructor_names e

-- The lists that are made are those of the lines, at first without rows.
module _ (version : ℕ) (file seen : List Line) (sig : Signature) (spaces : List Space) (phyla : List Phylum) (bare lists : List ListKind) (e : file ≡ seen) (passed : ArePassed seen [] seen) (few : AreOfFile seen) (spelled : IsSpelled (sort_decls file) sig) where
  pub has : sig.sorts ≡ sort_names seen
  has = spelled.sorts ∙ decls-sorts file ∙ ap sort_names e

  pub constructors-of : HasConstructors seen sig
  constructors-of = constructors-there file seen sig e passed spelled

  pub phyla-there : ((def : Definition) → HasSorts seen def → Lasts def (λ full. ArePhyla full file phyla)) → HasPhyla seen (staged version sig spaces phyla [] [])
  phyla-there of_phyla = let d = staged version sig spaces phyla [] [] in phyla-names d file phyla (of_phyla d has d (keeps-self d)) ∙ ap phylum_names e

  pub phyla-of : ((def : Definition) → HasSorts seen def → Lasts def (λ full. ArePhyla full file phyla)) → AllByRecursion (HasPhylumSort seen) phyla
  phyla-of of_phyla =
      let d = staged version sig spaces phyla [] [] in
      phyla-sorted seen d has seen phyla (kinds-meant seen (kinds-once seen passed)) (subst (λ f. ArePhyla d f phyla) e (of_phyla d has d (keeps-self d)))

  bare-there : ((def : Definition) → HasSorts seen def → Lasts def (λ full. ArePhyla full file phyla)) → ((def : Definition) → HasSorts seen def → HasPhyla seen def → Lasts def (λ full. AreLists full [] file bare))
      → AreLists (staged version sig spaces phyla [] []) [] file bare
  bare-there of_phyla of_bare = let d = staged version sig spaces phyla [] [] in of_bare d has (phyla-there of_phyla) d (keeps-self d)

  pub bare-of : ((def : Definition) → HasSorts seen def → Lasts def (λ full. ArePhyla full file phyla)) → ((def : Definition) → HasSorts seen def → HasPhyla seen def → Lasts def (λ full. AreLists full [] file bare))
      → AreLists (staged version sig spaces phyla [] []) [] seen bare
  bare-of of_phyla of_bare = subst (λ f. AreLists (staged version sig spaces phyla [] []) [] f bare) e (bare-there of_phyla of_bare)

  pub kinds-of : ((def : Definition) → HasSorts seen def → Lasts def (λ full. AreSpaces full (scopes.spaces file) spaces)) → ((def : Definition) → HasSorts seen def → Lasts def (λ full. ArePhyla full file phyla))
      → ((def : Definition) → HasSorts seen def → HasPhyla seen def → Lasts def (λ full. AreLists full [] file bare)) → Fills (staged version sig spaces phyla [] []) [] file bare lists → HasKinds seen (staged version sig spaces phyla lists [])
  kinds-of of_spaces of_phyla of_bare of_lists =
      let d = staged version sig spaces phyla [] [] in
      let once = subst (λ f. has_twice (kind_names f) ≡ false) (sym e) (kinds-once seen passed) in
      record {
        constructors = constructors-of;
        spaces = spaces-names d file spaces (of_spaces d has d (keeps-self d)) ∙ ap space_names e;
        phyla = phyla-there of_phyla;
        lists = lists-names d file file lists (of_lists file once d (keeps-self d) (bare-there of_phyla of_bare)) ∙ ap list_names e;
        elements = lists-elements d file file lists (of_lists file once d (keeps-self d) (bare-there of_phyla of_bare));
        once = kinds-once seen passed;
        places = element-places seen d (phyla-there of_phyla) seen seen lists (kinds-meant seen (kinds-once seen passed)) (all-known seen [] seen (formed seen few) passed)
            (subst (λ f. AreLists d f f lists) e (of_lists file once d (keeps-self d) (bare-there of_phyla of_bare)));
        phylum_sorts = phyla-of of_phyla;
        list_sorts = lists-sorted seen d has seen seen lists (kinds-meant seen (kinds-once seen passed)) (subst (λ f. AreLists d f f lists) e (of_lists file once d (keeps-self d) (bare-there of_phyla of_bare)));
        space_sorts = spaces-sorted seen d has spaces (subst (λ f. AreSpaces d (scopes.spaces f) spaces) e (of_spaces d has d (keeps-self d))) (spaces-once seen passed);
      }

-- a definition that is declared has the names of the lines
pub names-of : (version : ℕ) (file seen : List Line) (d : Definition) → file ≡ seen → AreOfFile seen → ArePassed seen [] seen → IsDeclared version file d → HasNames seen d
names-of version file seen d e few passed h = record {
  kinds = record {
    constructors = constructors-there file seen d.signature e passed h.signature;
    spaces = spaces-names d file d.spaces (h.spaces d (keeps-self d)) ∙ ap space_names e;
    phyla = phyla-names d file d.phyla (h.phyla d (keeps-self d)) ∙ ap phylum_names e;
    lists = lists-names d file file d.lists (h.lists d (keeps-self d)) ∙ ap list_names e;
    elements = lists-elements d file file d.lists (h.lists d (keeps-self d));
    once = kinds-once seen passed;
    places = element-places seen d phyla seen seen d.lists (kinds-meant seen (kinds-once seen passed)) known (subst (λ f. AreLists d f f d.lists) e (h.lists d (keeps-self d)));
    phylum_sorts = phyla-sorted seen d has seen d.phyla meant (subst (λ f. ArePhyla d f d.phyla) e (h.phyla d (keeps-self d)));
    list_sorts = lists-sorted seen d has seen seen d.lists meant (subst (λ f. AreLists d f f d.lists) e (h.lists d (keeps-self d)));
    space_sorts = spaces-sorted seen d has d.spaces (subst (λ f. AreSpaces d (scopes.spaces f) d.spaces) e (h.spaces d (keeps-self d))) (spaces-once seen passed);
  };
  operators = operators-names d file d.operators (h.operators d (keeps-self d)) ∙ ap operator_names e;
  items = operators-items d d.operators (each-columns d file d.operators (h.operators d (keeps-self d)));
  parts = λ n o says p own at named.
      let it = operator-declared seen d seen d.operators known (operators-once seen passed) (subst (λ f. AreOperators d f d.operators) e (h.operators d (keeps-self d))) n o says p own at named in
      record { phylum = kind-at seen d phyla lists o.phylum (kinds.Phylum own.phylum) it.phylum; placed = items-placed seen d phyla lists o.made own.items it.known it.items };
}
  where
    has : HasSorts seen d
    has = h.signature.sorts ∙ decls-sorts file ∙ ap sort_names e

    meant : AreMeant seen seen
    meant = kinds-meant seen (kinds-once seen passed)

    phyla : HasPhyla seen d
    phyla = phyla-names d file d.phyla (h.phyla d (keeps-self d)) ∙ ap phylum_names e

    lists : AreListsOf seen d.lists
    lists = lists-names d file file d.lists (h.lists d (keeps-self d)) ∙ ap list_names e

    known : AllByRecursion (IsMeant seen) seen
    known = all-known seen [] seen (formed seen few) passed

abbrev pub with_holes : Definition → List HoleRow → List DeclareRow → Definition
with_holes d holes declares = record { version = d.version; signature = d.signature; spaces = d.spaces; phyla = d.phyla; lists = d.lists; operators = d.operators; hole_rows = holes; declare_rows = declares }

pub is-numbered : (version : ℕ) (file : List Line) (d : Definition) (holes : List HoleRow) (declares : List DeclareRow) → ArePassed file [] file → IsDeclared version file d → Lasts d (λ full. AreHoleRows full file holes) → Lasts d (λ full. AreDeclareRows full file declares)
    → IsNumbered version file (with_holes d holes declares)
is-numbered version file d holes declares passed h of_holes of_declares =
    let k : Keeps d (with_holes d holes declares) = record { signature = refl; spaces = grows-refl d.spaces; phyla = grows-refl d.phyla; lists = grows-refl d.lists; operators = grows-refl d.operators } in
    let whole = with_holes d holes declares in record {
      sorts_once = sorts-once file passed;
      constructors_once = constructors-once file passed;
      kinds_once = kinds-once file passed;
      operators_once = operators-once file passed;
      spaces_once = spaces-once file passed;
      same_version = h.same_version;
      signature = h.signature;
      spaces = h.spaces whole k;
      phyla = h.phyla whole k;
      lists = h.lists whole k;
      operators = h.operators whole k;
      hole_rows = of_holes whole k;
      declare_rows = of_declares whole k;
    }
