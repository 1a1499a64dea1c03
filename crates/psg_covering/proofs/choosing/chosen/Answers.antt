use Rattle.std.proofs.Common.{[], ◌∷◌, length, sym, ap, subst, arith}
use Rattle.std.specs.Prelude.{All, ◌<◌}
use Rattle.psg_unify.specs.Pairs.{AreJoinable}
use Rattle.psg_covering.proofs.Joined.{first_chosen, first_fits, may_join, wide}
use Rattle.psg_covering.proofs.choosing.chosen.Goals as goal

pub kept-requires : goal.kept-requires
kept-requires c =
    let (kind, ks, fits) = c.requires.fits in
    let (t, u, ts, e) = wide c.args.definition.now c.args.hole.now c.requires.sound kind c.args.slot ks c.args.row.now fits in
    let l = ap length e in omega (arith, l)

pub with_join-requires-clause-joinable : goal.with_join-requires-clause-joinable
with_join-requires-clause-joinable c =
    let (kind, ks, fits) = c.requires.fits in
    subst (λ l. AreJoinable c.args.definition.now.signature c.args.row.now l ((1, 0) ∷ [])) (sym c.from_ref.ensures.value)
    (may_join c.args.definition.now c.args.hole.now c.requires.sound kind c.args.slot ks c.args.row.now c.requires.hole.0 fits c.requires.hole.1)

pub with_join-requires-clause-keep : goal.with_join-requires-clause-keep
with_join-requires-clause-keep c =
    λ k d lt. let same = ap length c.as_slice.ensures.value in let a = subst (λ l. All (λ n. n < length c.args.row.now) l) (sym c.as_slice.ensures.value) c.in_ok-keep.ensures.within k d lt in omega (arith, a)

pub returns-clause-made : goal.returns-clause-made
returns-clause-made c =
    let (kind, ks, fits) = c.requires.fits in
    first_chosen c.args.definition.now c.args.hole.now c.requires.sound kind c.args.slot ks c.args.row.now c.from_ref.result.now c.as_slice.result.now c.in_ok-keep.keep.items c.new.result.items c.in_ok-made.made.items c.as_slice-2.result.now c.in_ok-first.first
    fits c.from_ref.ensures.value c.as_slice.ensures.value c.in_ok-keep.ensures.columns c.new.ensures.items c.in_ok-made.ensures c.as_slice-2.ensures.value c.in_ok-first.ensures

pub returns-clause-fits : goal.returns-clause-fits
returns-clause-fits c kind ks fits =
    first_fits c.args.definition.now c.args.hole.now c.requires.sound kind c.args.slot ks c.args.row.now c.from_ref.result.now c.as_slice.result.now c.in_ok-keep.keep.items c.new.result.items c.in_ok-made.made.items c.as_slice-2.result.now c.in_ok-first.first
    c.requires.hole.0 fits c.requires.hole.1 c.from_ref.ensures.value c.as_slice.ensures.value c.in_ok-keep.ensures.columns c.new.ensures.items c.in_ok-made.ensures c.as_slice-2.ensures.value c.in_ok-first.ensures
