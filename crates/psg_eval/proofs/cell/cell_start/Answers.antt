use Rattle.std.proofs.Common.{rules, Err, ◌≡◌, ◌∷◌, [], ◌∙◌, false, map, get_or, refl, slice_get, Some, Option, sym, subst, ap, List, ℕ}
use Rattle.psg_terms.proofs.Lists.{slice_get_item}
use Rattle.psg_terms.specs.Terms.{Term}
use Rattle.psg_terms.specs.Relations.{IsRelation}
use Rattle.psg_terms.specs.Weight.{PassesLimit}
use Rattle.psg_grammar.specs.Fragments.{anything}
use Rattle.psg_grammar.specs.declared.types.Kind.TheVariants as kinds
use Rattle.psg_grammar.specs.declared.types.ListKind.{ListKind}
use Rattle.psg_relation.specs.Choices.{AllHaveSorts, HasWide, IsOfRow}
use Rattle.psg_relation.proofs.Making.{maybe_wide}
use Rattle.psg_scope.specs.declared.header.Header.{Header}
use Rattle.psg_eval.specs.OwnRows.{whole_row}
use Rattle.psg_eval.specs.Partials.{IsPartial, MatchStep}
use Rattle.psg_eval.specs.Stages.{IsCellStart}
use Rattle.psg_eval.proofs.CellRows.{cell_partial, cell_sorts, cell_sorted}
use Rattle.psg_eval.proofs.Cells.{cell_first}
use Rattle.psg_eval.proofs.LeafAnswers.{no_header}
use Rattle.psg_eval.proofs.PartialSorts.{step_fault}
use Rattle.psg_eval.proofs.cell.cell_start.Goals as goal
use Rattle.psg_eval.proofs.cell.cell_start.Goals.{After-as_slice-3}

found : (c : After-as_slice-3) → slice_get c.args.definition.now.lists c.args.list ≡ Some c.index-as_slice-list.result
found c = slice_get_item c.args.definition.now.lists c.args.list c.index-as_slice-list.result c.requires.there
    (subst (λ (ls : List ListKind). c.index-as_slice-list.result ≡ get_or ls c.args.list c.index-as_slice-list.result) c.as_slice.ensures c.index-as_slice-list.is)

made : (c : After-as_slice-3) → c.as_slice-3.result.now ≡ map whole_row c.index-as_slice-list.result.cell_rows
made c = c.as_slice-3.ensures.value ∙ c.in_ok-rows.ensures ∙ ap (map whole_row) c.as_slice-2.ensures

sorted : (c : After-as_slice-3) → AllHaveSorts c.args.definition.now.signature c.as_slice-3.result.now (cell_sorts c.args.definition.now c.requires.sound c.args.list c.index-as_slice-list.result (found c))
sorted c = subst (λ rows. AllHaveSorts c.args.definition.now.signature rows (cell_sorts c.args.definition.now c.requires.sound c.args.list c.index-as_slice-list.result (found c))) (sym (made c))
    (cell_sorted c.args.definition.now c.requires.sound c.args.list c.index-as_slice-list.result (found c))

bare : (c : After-as_slice-3) → c.no_keys-header.result ≡ record { names = []; unfinished = []; twice = false }
bare c = c.no_keys-header.ensures ∙ (let empty : List ℕ → Header = λ u. record { names = []; unfinished = u; twice = false } in ap empty c.new.ensures.items)

-- the relation of the rows is what is possible for a cell without children
start : (c : After-as_slice-3) (rows : List (List Term)) → IsRelation c.args.definition.now.signature (cell_sorts c.args.definition.now c.requires.sound c.args.list c.index-as_slice-list.result (found c)) (IsOfRow c.args.definition.now.signature c.as_slice-3.result.now) rows
    → IsCellStart c.args.definition.now c.args.list c.no_keys-header.result rows
start c rows rel =
    let ss = cell_sorts c.args.definition.now c.requires.sound c.args.list c.index-as_slice-list.result (found c) in
    record {
      region = no_header (λ n. false) [] tt (λ n. refl) c.no_keys-header.result (bare c);
      sorts = ss;
      made = cell_first c.args.definition.now c.args.list anything anything ss c.index-as_slice-list.result rows c.requires.sound (found c)
          (subst (λ z. IsRelation c.args.definition.now.signature ss (IsOfRow c.args.definition.now.signature z) rows) (made c) rel);
    }

pub of-requires : goal.of-requires
of-requires c = (cell_sorts c.args.definition.now c.requires.sound c.args.list c.index-as_slice-list.result (found c), sorted c)

pub returns-in_err-rel-clause-step : goal.returns-in_err-rel-clause-step
returns-in_err-rel-clause-step c =
    let a = (goal.at.returns-in_err-rel-clause-step c).After-as_slice-3 in
    let def = c.args.definition.now in
    let ss = cell_sorts c.args.definition.now c.requires.sound c.args.list c.index-as_slice-list.result (found a) in
    let fault = c.in_err-rel.field-0.0 in
    let e : c.from_residual-in_err-rel.result ≡ Err fault = search rules in
    subst (MatchStep (IsCellStart def c.args.list)) (sym e)
    (step_fault (IsCellStart def c.args.list) fault
    (maybe_wide ((sorts : List ℕ) → AllHaveSorts def.signature c.as_slice-3.result.now sorts → HasWide def.signature sorts (IsOfRow def.signature c.as_slice-3.result.now))
    ((h : Header) × (rows : List (List Term)) × IsCellStart def c.args.list h rows × PassesLimit rows) fault
    (λ some. let (rows, rel, passes) = some ss (sorted a) in (c.no_keys-header.result, rows, start a rows rel, passes))
    c.in_err-rel.ensures.some))

pub returns-clause-step : goal.returns-clause-step
returns-clause-step c =
    let a = (goal.at.returns-clause-step c).After-as_slice-3 in
    let ss = cell_sorts c.args.definition.now c.requires.sound c.args.list c.index-as_slice-list.result (found a) in
    (start a c.in_ok-rel.rel (c.in_ok-rel.ensures.relation ss (sorted a)), c.in_ok-rel.ensures.within)

pub returns-clause-partial : goal.returns-clause-partial
returns-clause-partial c = λ kind at.
    let a = (goal.at.returns-clause-partial c).After-as_slice-3 in
    let def = c.args.definition.now in
    let list = c.index-as_slice-list.result in
    let same : list ≡ kind = let d : ◌≡◌ {A = Option ListKind} (Some list) (Some kind) = sym (found a) ∙ at in cc in
    let ss = cell_sorts def c.requires.sound c.args.list list (found a) in
    let rel = c.in_ok-rel.ensures.relation ss (sorted a) in
    subst (λ (k : ListKind). IsPartial def (kinds.List c.args.list) (kinds.Phylum k.element ∷ kinds.List c.args.list ∷ []) (record { header = c.no_keys-header.result; seen = 0; wanted = 2; rel = c.in_ok-rel.rel })) same
    (cell_partial def c.requires.sound c.args.list list (found a) c.no_keys-header.result c.in_ok-rel.rel (bare a) (λ row i. (rel.shapes row i).sorted))
