use Rattle.std.proofs.Common.{◌≡◌, ◌<◌, Some, slice_get, length, sym, ap, ◌∙◌, subst, arith}
use Rattle.std.proofs.lemmas.Option.{slice_get-get_or}
use Rattle.psg_grammar.proofs.SoundParts.{phylum_in}
use Rattle.psg_parse.specs.Lookups.{opener_at}
use Rattle.psg_parse.proofs.Tabled.{all_found, has_none, more_none, more_put}
use Rattle.psg_parse.proofs.tables.openers.Goals as goal

pub loop-n-preserved-in_default : goal.loop-n-preserved-in_default
loop-n-preserved-in_default c = record {
  count = c.loop-n.invariant.count;
  finds = λ p t. more_none c.args.definition.now c.args.place c.loop-n.n p t (opener_at c.loop-n.found.items p t)
      (has_none c.args.definition.now c.args.place c.loop-n.n c.as_slice-operators.result.now c.as_slice-operators.ensures c.index-operators-n.result c.index-operators-n.is c.in_default.ensures p t)
      (c.loop-n.invariant.finds p t);
}

pub put_at-requires : goal.put_at-requires
put_at-requires c =
    let def = c.args.definition.now in
    let lt : c.loop-n.n < length c.as_slice-operators.result.now = omega (arith, c.loop-n-test.true) in
    let found : slice_get c.args.definition.now.operators c.loop-n.n ≡ Some c.index-operators-n.result =
    subst (λ xs. slice_get xs c.loop-n.n ≡ Some c.index-operators-n.result) c.as_slice-operators.ensures
    (slice_get-get_or c.as_slice-operators.result.now c.loop-n.n c.index-operators-n.result lt ∙ ap Some (sym c.index-operators-n.is)) in
    let in_range : c.index-operators-n.result.phylum < length c.args.definition.now.phyla = phylum_in def c.requires c.loop-n.n c.index-operators-n.result found in
    omega (arith, in_range, c.loop-n.invariant.count)

pub loop-n-preserved : goal.loop-n-preserved
loop-n-preserved c =
    let def = c.args.definition.now in
    let lt : c.loop-n.n < length c.as_slice-operators.result.now = omega (arith, c.loop-n-test.true) in
    let found : slice_get c.args.definition.now.operators c.loop-n.n ≡ Some c.index-operators-n.result =
    subst (λ xs. slice_get xs c.loop-n.n ≡ Some c.index-operators-n.result) c.as_slice-operators.ensures
    (slice_get-get_or c.as_slice-operators.result.now c.loop-n.n c.index-operators-n.result lt ∙ ap Some (sym c.index-operators-n.is)) in
    record {
      count = c.in_ok-put_at.ensures.count ∙ c.loop-n.invariant.count;
      finds = more_put def c.args.place c.loop-n.n c.as_slice-operators.result.now c.as_slice-operators.ensures c.index-operators-n.result c.index-operators-n.is c.in-Some.item.now c.in-Some.ensures found
          c.loop-n.found.items c.put_at.new.found.items c.in_ok-put_at.ensures.puts c.loop-n.invariant.finds;
    }

pub returns : goal.returns
returns c p t = all_found c.args.definition.now c.args.place c.loop-n.n
    (let e : length c.as_slice-operators.result.now ≡ length c.args.definition.now.operators = ap length c.as_slice-operators.ensures in omega (arith, e, c.loop-n-test.false))
    p t (opener_at c.loop-n.found.items p t) (c.loop-n.invariant.finds p t)
