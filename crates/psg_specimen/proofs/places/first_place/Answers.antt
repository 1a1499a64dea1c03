use Rattle.std.proofs.Common.{◌≡◌, ℕ, List, Option, Some, None, slice_get, sym, subst, arith}
use Rattle.psg_grammar.specs.declared.types.Case.{Case}
use Rattle.psg_grammar.specs.declared.types.DeclareRow.{DeclareRow}
use Rattle.psg_grammar.specs.declared.types.HoleRow.{HoleRow}
use Rattle.psg_grammar.specs.declared.types.Definition.{Definition}
use Rattle.psg_specimen.specs.Refusal.{IsFirstPlace}
use Rattle.psg_specimen.specs.Walks.{FindsThree, FindsTwo}
use Rattle.psg_specimen.specs.Wanted.{IsWantedPlace, Wants}
use Rattle.psg_specimen.specs.declared.fault.Site.TheVariants as sites
use Rattle.psg_specimen.specs.declared.places.Wanted.{Wanted}
use Rattle.psg_specimen.proofs.PlaceLaws.{case_in, case_row, declare_row, first_case, first_declare, no_place}
use Rattle.psg_specimen.proofs.places.first_place.Goals as goal

-- what is found in these rows
abbrev InRows : Definition → Wanted → List HoleRow → ℕ → ℕ → ℕ → Type 0
InRows def w rows r c h = (row : HoleRow) → slice_get rows r ≡ Some row → (one : Case) → slice_get row.cases c ≡ Some one → IsWantedPlace def w one.specimen one.term h

abbrev InDeclares : Definition → Wanted → List DeclareRow → ℕ → ℕ → Type 0
InDeclares def w rows k h = (d : DeclareRow) → slice_get rows k ≡ Some d → IsWantedPlace def w d.specimen d.term h

rows_found : (def : Definition) (w : Wanted) (rows : List HoleRow) (a b : Option (ℕ × (ℕ × ℕ))) → rows ≡ def.hole_rows → a ≡ b → FindsThree (InRows def w rows) a → FindsThree (InRows def w def.hole_rows) b
rows_found def w rows a b e is f = subst (λ l. FindsThree (InRows def w l) b) e (subst (FindsThree (InRows def w rows)) is f)

declares_found : (def : Definition) (w : Wanted) (rows : List DeclareRow) (a b : Option (ℕ × ℕ)) → rows ≡ def.declare_rows → a ≡ b → FindsTwo (InDeclares def w rows) a → FindsTwo (InDeclares def w def.declare_rows) b
declares_found def w rows a b e is f = subst (λ l. FindsTwo (InDeclares def w l) b) e (subst (FindsTwo (InDeclares def w rows)) is f)

pub overflow_cast-row : goal.overflow_cast-row
overflow_cast-row c =
    let first = rows_found c.args.definition.now c.args.wanted c.as_slice-rows.result.now _ (Some (c.in-Some.row, (c.in-Some.case, c.in-Some.place))) c.as_slice-rows.ensures c.in-Some.is c.in_ok-row.ensures in
    let h = case_row c.args.definition.now c.args.wanted c.in-Some.row c.in-Some.case c.in-Some.place first.0 in
    let k = c.requires.few_hole_rows in omega (arith, h, k)

pub overflow_cast-case : goal.overflow_cast-case
overflow_cast-case c =
    let first = rows_found c.args.definition.now c.args.wanted c.as_slice-rows.result.now _ (Some (c.in-Some.row, (c.in-Some.case, c.in-Some.place))) c.as_slice-rows.ensures c.in-Some.is c.in_ok-row.ensures in
    let h = case_in c.args.definition.now c.requires c.args.wanted c.in-Some.row c.in-Some.case c.in-Some.place first.0 in omega (arith, h)

pub returns-in-Some : goal.returns-in-Some
returns-in-Some c =
    let def = c.args.definition.now in
    let w = c.args.wanted in
    let first = rows_found def w c.as_slice-rows.result.now _ (Some (c.in-Some.row, (c.in-Some.case, c.in-Some.place))) c.as_slice-rows.ensures c.in-Some.is c.in_ok-row.ensures in
    subst (λ s. IsFirstPlace (Wants def w) s c.in_ok-number.number) (sym c.in_case.ensures)
    (subst (λ n. IsFirstPlace (Wants def w) (sites.Hole c.in-Some.row c.in-Some.case) n) (sym c.in_ok-number.ensures.number) (first_case def w c.in-Some.row c.in-Some.case c.in-Some.place first))

pub overflow_cast-row-in-Some-2 : goal.overflow_cast-row-in-Some-2
overflow_cast-row-in-Some-2 c =
    let first = declares_found c.args.definition.now c.args.wanted c.as_slice-declares.result.now _ (Some (c.in-Some-2.row, c.in-Some-2.place)) c.as_slice-declares.ensures c.in-Some-2.is c.in_ok-row-2.ensures in
    let h = declare_row c.args.definition.now c.args.wanted c.in-Some-2.row c.in-Some-2.place first.0 in
    let k = c.requires.few_declare_rows in omega (arith, h, k)

pub returns-in-Some-2 : goal.returns-in-Some-2
returns-in-Some-2 c =
    let def = c.args.definition.now in
    let w = c.args.wanted in
    let cases = rows_found def w c.as_slice-rows.result.now _ None c.as_slice-rows.ensures c.in_default.is c.in_ok-row.ensures in
    let first = declares_found def w c.as_slice-declares.result.now _ (Some (c.in-Some-2.row, c.in-Some-2.place)) c.as_slice-declares.ensures c.in-Some-2.is c.in_ok-row-2.ensures in
    subst (λ s. IsFirstPlace (Wants def w) s c.in_ok-number-2.number) (sym c.in_declare.ensures)
    (subst (λ n. IsFirstPlace (Wants def w) (sites.Declare c.in-Some-2.row) n) (sym c.in_ok-number-2.ensures.number) (first_declare def w cases c.in-Some-2.row c.in-Some-2.place first))

pub returns : goal.returns
returns c =
    let def = c.args.definition.now in
    let w = c.args.wanted in
    no_place def w (rows_found def w c.as_slice-rows.result.now _ None c.as_slice-rows.ensures c.in_default.is c.in_ok-row.ensures)
    (declares_found def w c.as_slice-declares.result.now _ None c.as_slice-declares.ensures c.in_default-2.is c.in_ok-row-2.ensures)
