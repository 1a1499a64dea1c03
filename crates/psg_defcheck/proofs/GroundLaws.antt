-- Laws of the marks of sorts that have terms without variables.
use Rattle.std.proofs.Common.{◌≡◌, ◌↔◌, ℕ, ◌+◌, ◌<◌, ◌≤◌, ◌||◌, Bool, true, false, cond, IsTrue, is_some, zero, suc, List, [], ◌∷◌, ◌++◌, take, get_or, length, refl, ap, sym, ◌∙◌, subst, inl, inr, Option, Some, None, MatchBool, arith}
use Rattle.std.proofs.lemmas.Bool.{or_cases, false≢true, true≢false}
use Rattle.psg_terms.proofs.Lists.{take_item, each_append}
use Rattle.std.specs.Bool.{OnTrue, OnFalse}
use Rattle.std.specs.List.{AllByRecursion}
use Rattle.std.specs.Option.{option_map}
use Rattle.std.specs.Str.{bytes_eq}
use Rattle.std.specs.Borrow.{Bor}
use Rattle.psg_terms.specs.Names.{Name, is_among}
use Rattle.psg_terms.specs.declared.declare.ConDecl.{ConDecl}
use Rattle.psg_terms.specs.declared.declare.SortDecl.{SortDecl}
use Rattle.psg_terms.proofs.DeclareLaws.{bytes_eq-same, bytes_eq-refl}
use Rattle.psg_deflines.specs.Entries.{Entry, written}
use Rattle.psg_deflines.specs.declared.lines.Line.{Line}
use Rattle.psg_deflines.specs.declared.lines.Line.TheVariants as lines
use Rattle.psg_defcheck.specs.Scopes.{sort_declared, sort_names}
use Rattle.psg_defcheck.specs.Meanings.{AreInhabited, none, more, HasGround}
use Rattle.psg_defcheck.specs.Tables.{sort_told}
use Rattle.psg_defcheck.specs.NameSets.{has}
use Rattle.psg_defcheck.specs.Grounds.{AreMarked, MakesGround, AreRight, Keeps, waiting, IsGround}
use Rattle.psg_defcheck.specs.declared.names.Names.{Names}
use Rattle.psg_defcheck.proofs.TableLaws.{sort-named}
use Rattle.psg_defcheck.proofs.AboveLaws.{sort_names-append}
use Rattle.psg_defcheck.proofs.SortLaws.{all-at}

-- several sorts that have terms
pub inhabited-more : (file : List Line) (n : Name) (names : List Name) → AreInhabited file (n ∷ []) → AreInhabited file names → AreInhabited file (n ∷ names)
inhabited-more file n names h k = go (n ∷ []) h n refl
  where
    go : (ns : List Name) → AreInhabited file ns → (m : Name) → ns ≡ m ∷ [] → AreInhabited file (m ∷ names)
    go ns none m e = absurd (cc)
    go ns (more sort rest d c found member args others) m e =
        let same : sort ≡ m = cc in
        subst (λ x. AreInhabited file (x ∷ names)) same (more sort names d c found member args k)

marked-inhabited : (file : List Line) (marks : Names) (names : List Name) → AreRight file marks → AreMarked marks names → AreInhabited file names
marked-inhabited file marks [] right h = none
marked-inhabited file marks (n ∷ names) right h = inhabited-more file n names (right n h.0) (marked-inhabited file marks names right h.1)

-- what a mark more keeps
pub right-insert : (file : List Line) (old new : Names) (k : Name) (d : SortDecl) → sort_declared file k ≡ Some d → MakesGround old d.constructors → ((n : Name) → has new n ≡ (bytes_eq k n || has old n)) → AreRight file old → AreRight file new
right-insert file old new k d found made step right n h =
    elim (or_cases (bytes_eq k n) (has old n) (sym (step n) ∙ h)) [
      | inl e ↦ subst (λ m. AreInhabited file (m ∷ [])) (bytes_eq-same k n e) (more k [] d made.0 found made.1 (marked-inhabited file old made.0.args right made.2) none)
      | inr e ↦ right n e
    ]

pub sort_found : (file : List Line) (k : Name) (o : Option (Bor SortDecl)) (d : Bor SortDecl) → option_map sort_told o ≡ sort_declared file k → o ≡ Some d → sort_declared file k ≡ Some d.now
sort_found file k o d e is = sym e ∙ ap (option_map sort_told) is

pub keeps_marked : (file : List Line) (marks : Names) (k : Name) (b : Bool) → b ≡ true → b ≡ has marks k → Keeps file marks k
keeps_marked file marks k b t is = λ d found made. sym is ∙ t

pub keeps_missing : (file : List Line) (marks : Names) (k : Name) (o : Option (Bor SortDecl)) → option_map sort_told o ≡ sort_declared file k → o ≡ None → Keeps file marks k
keeps_missing file marks k o e is = λ d found made. absurd (no d (ap (option_map sort_told) (sym is) ∙ e ∙ found))
  where
    no : (d : SortDecl) → ◌≡◌ {A = Option SortDecl} None (Some d) → ⊥
    no d q = absurd (cc)

pub keeps_waiting : (file : List Line) (marks : Names) (k : Name) (o : Option (Bor SortDecl)) (d : Bor SortDecl) (cs : List ConDecl) (b : Bool) → option_map sort_told o ≡ sort_declared file k → o ≡ Some d → cs ≡ d.now.constructors → b ≡ false → IsTrue b ↔ MakesGround marks cs → Keeps file marks k
keeps_waiting file marks k o d cs b e is same f tells = λ x found made.
    let q : ◌≡◌ {A = Option SortDecl} (Some d.now) (Some x) = sym (sort_found file k o d e is) ∙ found in
    let one : d.now ≡ x = cc in
    absurd (false≢true (sym f ∙ tells.1 (subst (MakesGround marks) (sym (same ∙ ap (λ (y : SortDecl). y.constructors) one)) made)))

-- fewer sorts wait
waiting-le : (old new : Names) (k : Name) (names : List Name) → ((n : Name) → has new n ≡ (bytes_eq k n || has old n)) → waiting new names ≤ waiting old names
waiting-le old new k [] step = omega arith
waiting-le old new k (n ∷ names) step =
    let rest = waiting-le old new k names step in
    let first : cond (has new n) 0 1 ≤ cond (has old n) 0 1 = subst (λ b. cond b 0 1 ≤ cond (has old n) 0 1) (sym (step n)) (one (bytes_eq k n) (has old n)) in
    omega arith
  where
    one : (a b : Bool) → cond (a || b) 0 1 ≤ cond b 0 1
    one true true = omega arith
    one true false = omega arith
    one false true = omega arith
    one false false = omega arith

waiting-less : (old new : Names) (k : Name) (names : List Name) → ((n : Name) → has new n ≡ (bytes_eq k n || has old n)) → has old k ≡ false → is_among names k ≡ true → waiting new names < waiting old names
waiting-less old new k [] step f among = absurd (false≢true among)
waiting-less old new k (n ∷ names) step f among =
    elim (or_cases (bytes_eq n k) (is_among names k) among) [
      | inl e ↦ here (bytes_eq-same n k e)
      | inr e ↦ later (waiting-less old new k names step f e)
    ]
  where
    marked : n ≡ k → has new n ≡ true
    marked same = step n ∙ ap (λ m. bytes_eq k m || has old n) same ∙ ap (λ b. b || has old n) (bytes_eq-refl k)

    here : n ≡ k → waiting new (n ∷ names) < waiting old (n ∷ names)
    here same =
        let was : ◌≡◌ {A = ℕ} (cond (has old n) 0 1) 1 = ap (λ b. cond b 0 1) (ap (has old) same ∙ f) in
        let is : ◌≡◌ {A = ℕ} (cond (has new n) 0 1) 0 = ap (λ b. cond b 0 1) (marked same) in
        let rest : waiting new names ≤ waiting old names = waiting-le old new k names step in
        omega arith

    later : waiting new names < waiting old names → waiting new (n ∷ names) < waiting old (n ∷ names)
    later rest = let one : waiting new (n ∷ []) ≤ waiting old (n ∷ []) = waiting-le old new k (n ∷ []) step in omega arith

-- a round so far: over the front entries among all
pub record IsRound (file : List Line) (first now : Names) (all front : List Entry) (b : Bool) : Type 0 where
  pub right : AreRight file first → AreRight file now
  pub rest : MatchBool b (waiting now (sort_names (written all)) < waiting first (sort_names (written all))) ((now ≡ first) × AllByRecursion (Keeps file now) (sort_names (written front)))

pub round-begin : (file : List Line) (first : Names) (all : List Entry) → IsRound file first first all [] false
round-begin file first all = record { right = λ h. h; rest = (refl, tt) }

pub written-append : (xs ys : List Entry) → written (xs ++ ys) ≡ written xs ++ written ys
written-append [] ys = refl
written-append (None ∷ xs) ys = written-append xs ys
written-append (Some l ∷ xs) ys = ap (λ q. l ∷ q) (written-append xs ys)

names-next : (all : List Entry) (i : ℕ) (e : Entry) → i < length all → e ≡ get_or all i e → sort_names (written (take (i + 1) all)) ≡ sort_names (written (take i all)) ++ sort_names (written (e ∷ []))
names-next all i e lt at =
    ap (λ es. sort_names (written es)) (take_item all i e lt at) ∙ ap sort_names (written-append (take i all) (e ∷ [])) ∙ sort_names-append (written (take i all)) (written (e ∷ []))

-- an entry that is no sort's line
pub round-other : (file : List Line) (first now : Names) (all : List Entry) (i : ℕ) (e : Entry) (b : Bool) → IsRound file first now all (take i all) b → i < length all → e ≡ get_or all i e → sort_names (written (e ∷ [])) ≡ [] → IsRound file first now all (take (i + 1) all) b
round-other file first now all i e true h lt at nothing = record { right = h.right; rest = h.rest }
round-other file first now all i e false h lt at nothing = record {
  right = h.right;
  rest = (
    h.rest.0,
    subst (AllByRecursion (Keeps file now)) (sym (names-next all i e lt at)) (each_append (Keeps file now) (sort_names (written (take i all))) (sort_names (written (e ∷ []))) h.rest.1
        (subst (AllByRecursion (Keeps file now)) (sym nothing) tt)),
  );
}

-- whether a sort was marked or not, its entry is passed
among-entry : (all : List Entry) (i : ℕ) (e : Entry) (d : SortDecl) → i < length all → e ≡ get_or all i e → e ≡ Some (lines.Sort d) → is_among (sort_names (written all)) d.name ≡ true
among-entry [] i e d lt at is = absurd (omega arith)
among-entry (x ∷ all) zero e d lt at is =
    subst (λ (y : Entry). is_among (sort_names (written (y ∷ all))) d.name ≡ true) (sym (sym at ∙ is)) (ap (λ b. b || is_among (sort_names (written all)) d.name) (bytes_eq-refl d.name))
among-entry (x ∷ all) (suc i) e d lt at is = past x (among-entry all i e d (omega arith) at is)
  where
    or-more : (a b : Bool) → b ≡ true → (a || b) ≡ true
    or-more true b h = refl
    or-more false b h = h

    past : (y : Entry) → is_among (sort_names (written all)) d.name ≡ true → is_among (sort_names (written (y ∷ all))) d.name ≡ true
    past None h = h
    past (Some (lines.Sort q)) h = or-more (bytes_eq q.name d.name) (is_among (sort_names (written all)) d.name) h
    past (Some _) h = h

-- what one mark gives
abbrev pub IsMark : List Line → Names → Names → Name → Bool → Type 0
IsMark file old new k b = MatchBool b ((has old k ≡ false) × ((n : Name) → has new n ≡ (bytes_eq k n || has old n))) ((new ≡ old) × Keeps file new k)

pub round-sort : (file : List Line) (first now after : Names) (all : List Entry) (i : ℕ) (e : Entry) (d : SortDecl) (k : Name) (b m r : Bool) → IsRound file first now all (take i all) b → i < length all → e ≡ get_or all i e → e ≡ Some (lines.Sort d) → k ≡ d.name
    → (AreRight file now → AreRight file after) → IsMark file now after k m → r ≡ (b || m) → IsRound file first after all (take (i + 1) all) r
round-sort file first now after all i e d k b m r h lt at is name right marks er = subst (IsRound file first after all (take (i + 1) all)) (sym er) (go b m h marks)
  where
    names : List Name
    names = sort_names (written all)

    to_name : (w : Names) → Keeps file w k → Keeps file w d.name
    to_name w q = subst (Keeps file w) name q

    kept : (w : Names) → AllByRecursion (Keeps file w) (sort_names (written (take i all))) → Keeps file w k → AllByRecursion (Keeps file w) (sort_names (written (take (i + 1) all)))
    kept w xs q = subst (AllByRecursion (Keeps file w)) (sym (names-next all i e lt at ∙ ap (λ (y : Entry). sort_names (written (take i all)) ++ sort_names (written (y ∷ []))) is))
        (each_append (Keeps file w) (sort_names (written (take i all))) (d.name ∷ []) xs (to_name w q, tt))

    less : (has now k ≡ false) × ((n : Name) → has after n ≡ (bytes_eq k n || has now n)) → waiting after names < waiting now names
    less q = waiting-less now after k names q.1 q.0 (ap (is_among names) name ∙ among-entry all i e d lt at is)

    go : (x y : Bool) → IsRound file first now all (take i all) x → IsMark file now after k y → IsRound file first after all (take (i + 1) all) (x || y)
    go true true g q = record { right = λ z. right (g.right z); rest = (let l = less q in let p = g.rest in omega arith) }
    go true false g q = record { right = λ z. right (g.right z); rest = subst (λ w. waiting w names < waiting first names) (sym q.0) g.rest }
    go false true g q = record { right = λ z. right (g.right z); rest = (let l = less q in let p = ap (λ w. waiting w names) g.rest.0 in omega arith) }
    go false false g q = record {
      right = λ z. right (g.right z);
      rest = (q.0 ∙ g.rest.0, kept after (subst (λ w. AllByRecursion (Keeps file w) (sort_names (written (take i all)))) (sym q.0) g.rest.1) q.1);
    }

-- the rounds so far
pub record IsMarking (file : List Line) (marks : Names) (b : Bool) : Type 0 where
  pub right : AreRight file marks
  pub keep : MatchBool b (Unit {0}) (AllByRecursion (Keeps file marks) (sort_names file))

pub marking-begin : (file : List Line) (marks : Names) → ((n : Name) → has marks n ≡ false) → IsMarking file marks true
marking-begin file marks h = record { right = λ n t. absurd (false≢true (sym (h n) ∙ t)); keep = tt }

pub marking-step : (file : List Line) (old new : Names) (entries : List Entry) (a b : Bool) → written entries ≡ file → IsMarking file old a → (AreRight file old → AreRight file new) → OnFalse b (AllByRecursion (Keeps file new) (sort_names (written entries))) → IsMarking file new b
marking-step file old new entries a true e h right keep = record { right = right h.right; keep = tt }
marking-step file old new entries a false e h right keep = record { right = right h.right; keep = subst (λ ls. AllByRecursion (Keeps file new) (sort_names ls)) e keep }

pub marking-end : (file : List Line) (marks : Names) (b : Bool) → IsMarking file marks b → b ≡ false → IsGround file marks
marking-end file marks true h f = absurd (true≢false f)
marking-end file marks false h f = record { right = h.right; keep = h.keep }

-- sorts with terms are marked
named-keeps : (file : List Line) (marks : Names) (names : List Name) (n : Name) → AllByRecursion (Keeps file marks) names → is_among names n ≡ true → Keeps file marks n
named-keeps file marks [] n h among = absurd (false≢true among)
named-keeps file marks (x ∷ names) n h among = elim (or_cases (bytes_eq x n) (is_among names n) among) [
  | inl e ↦ subst (Keeps file marks) (bytes_eq-same x n e) h.0
  | inr e ↦ named-keeps file marks names n h.1 e
]

inhabited-marked : (file : List Line) (marks : Names) → IsGround file marks → (names : List Name) → AreInhabited file names → AreMarked marks names
inhabited-marked file marks g names none = tt
inhabited-marked file marks g names (more sort rest d c found member args others) = (
  named-keeps file marks (sort_names file) sort g.keep (sym (sort-named file sort) ∙ ap is_some found) d found (c, member, inhabited-marked file marks g c.args args),
  inhabited-marked file marks g rest others,
)

pub ground-told : (file : List Line) (marks : Names) (line : Line) (d : SortDecl) (k : Name) (b : Bool) → IsGround file marks → line ≡ lines.Sort d → k ≡ d.name → b ≡ has marks k → IsTrue b ↔ HasGround file line
ground-told file marks line d k b g is name tells = subst (λ l. IsTrue b ↔ HasGround file l) (sym is) (
  λ t. g.right d.name (ap (has marks) (sym name) ∙ sym tells ∙ t),
  λ h. tells ∙ ap (has marks) name ∙ (inhabited-marked file marks g (d.name ∷ []) h).0,
)

-- constructors one by one
pub contains-at : (marks : Names) (cs : List ConDecl) (i : ℕ) (c : ConDecl) → i < length cs → c ≡ get_or cs i c → AreMarked marks c.args → MakesGround marks cs
contains-at marks cs i c lt at h = (c, (i, lt, sym at), h)

pub none-makes : (marks : Names) (cs : List ConDecl) → AllByRecursion (λ c. AreMarked marks c.args → ⊥) cs → MakesGround marks cs → ⊥
none-makes marks cs h made = all-at (λ c. AreMarked marks c.args → ⊥) cs made.1.0 made.0 h made.1.1 (sym made.1.2) made.2

-- the parts of a call's answer
pub mark-told : (file : List Line) (old new : Names) (k : Name) (b : Bool) → OnTrue b ((has old k ≡ false) × ((n : Name) → has new n ≡ (bytes_eq k n || has old n))) → OnFalse b (new ≡ old) → OnFalse b (Keeps file new k) → IsMark file old new k b
mark-told file old new k true t s f = t
mark-told file old new k false t s f = (s, f)

pub fewer-smaller : (old new : Names) (names : List Name) (a b : Bool) → a ≡ true → OnTrue b (waiting new names < waiting old names) → OnFalse b (new ≡ old) → waiting new names + cond b 1 0 < waiting old names + cond a 1 0
fewer-smaller old new names a true e t f = let h : ◌≡◌ {A = ℕ} (cond a 1 0) 1 = ap (λ b. cond b 1 0) e in omega arith
fewer-smaller old new names a false e t f = let h : ◌≡◌ {A = ℕ} (cond a 1 0) 1 = ap (λ b. cond b 1 0) e in let w : waiting new names ≡ waiting old names = ap (λ m. waiting m names) f in omega arith

pub round-keeps : (file : List Line) (first now : Names) (all front : List Entry) (b : Bool) → IsRound file first now all front b → front ≡ all → OnFalse b (AllByRecursion (Keeps file now) (sort_names (written all)))
round-keeps file first now all front true h e = tt
round-keeps file first now all front false h e = subst (λ es. AllByRecursion (Keeps file now) (sort_names (written es))) e h.rest.1

pub round-same : (file : List Line) (first now : Names) (all front : List Entry) (b : Bool) → IsRound file first now all front b → OnFalse b (now ≡ first)
round-same file first now all front true h = tt
round-same file first now all front false h = h.rest.0

pub round-fewer : (file : List Line) (first now : Names) (all front : List Entry) (b : Bool) → IsRound file first now all front b → OnTrue b (waiting now (sort_names (written all)) < waiting first (sort_names (written all)))
round-fewer file first now all front true h = h.rest
round-fewer file first now all front false h = tt
