use Rattle.std.proofs.Common.{List, [], subst, sym, arith}
use Rattle.psg_terms.specs.Terms.{Term}
use Rattle.psg_terms.specs.Signature.{Signature}
use Rattle.psg_terms.specs.Canonical.{IsCanonical, IsNumberedFrom, noted_all, variables_of}
use Rattle.psg_terms.specs.Instances.{IsInstance}
use Rattle.psg_terms.proofs.Lists.{each_at, slice_get_item}
use Rattle.psg_explain.specs.Verdicts.{AreMade}
use Rattle.psg_explain.proofs.FitLaws.{none_fits, one_fits, one_more_looked}
use Rattle.psg_explain.proofs.UnderLaws.{match_none, match_some}
use Rattle.psg_explain.proofs.fitting.first_fitting.Goals as goal

pub values_for-requires : goal.values_for-requires
values_for-requires c =
    let row = c.index-rows-to.result in
    let (sig, canonical) =
    each_at (λ (row : List Term). (sig : Signature) × IsCanonical sig row) c.args.rows.now c.requires c.loop-to.to row (slice_get_item c.args.rows.now c.loop-to.to row c.loop-to-test.true c.index-rows-to.is) in
    subst (λ (l : List Term). IsNumberedFrom 1 (noted_all [] (variables_of l))) (sym c.as_slice-row.ensures) canonical.numbered

pub returns-in-Some : goal.returns-in-Some
returns-in-Some c =
    let row = c.index-rows-to.result in
    let at = slice_get_item c.args.rows.now c.loop-to.to row c.loop-to-test.true c.index-rows-to.is in
    let made = match_some c.in_ok-found.found c.in-Some.values c.in-Some.is _ _ c.in_ok-found.ensures in
    one_fits c.args.rows.now row c.args.columns.now c.in-Some.values.items c.loop-to.to at (each_at (λ (row : List Term). (sig : Signature) × IsCanonical sig row) c.args.rows.now c.requires c.loop-to.to row at)
    (subst (λ (l : List Term). AreMade c.in-Some.values.items l c.args.columns.now) c.as_slice-row.ensures made)

pub loop-to-preserved : goal.loop-to-preserved
loop-to-preserved c =
    let row = c.index-rows-to.result in
    let at = slice_get_item c.args.rows.now c.loop-to.to row c.loop-to-test.true c.index-rows-to.is in
    let no_instance = match_none c.in_ok-found.found c.in-None.is _ _ c.in_ok-found.ensures in
    one_more_looked c.args.rows.now c.args.columns.now row c.loop-to.to at (subst (λ (l : List Term). IsInstance c.args.columns.now l → ⊥) c.as_slice-row.ensures no_instance) c.loop-to.invariant

pub returns : goal.returns
returns c = none_fits c.args.rows.now c.args.columns.now c.loop-to.to (omega arith) c.loop-to.invariant
