use Rattle.std.proofs.Common.{◌≡◌, ◌<◌, ◌-◌, suc, length, slice_index_or, arith}
use Rattle.std.proofs.lemmas.Option.{slice_get-get_or}
use Rattle.std.proofs.lemmas.List.Elements.{All-get_or}
use Rattle.psg_unify.specs.Pairs.{Pair}
use Rattle.psg_unify.proofs.Solution.{ask_none, ask_more}
use Rattle.psg_unify.proofs.regions.equations_of.Goals as goal

pub loop-k-init : goal.loop-k-init
loop-k-init c = (omega arith, ask_none c.args.lefts.now c.args.rights.now c.args.pairs.now c.in_ok-equations.equations.items c.in_ok-equations.ensures.items)

pub loop-k-preserved : goal.loop-k-preserved
loop-k-preserved c =
    let before : c.loop-k.k ≡ suc (c.loop-k.k - 1) = omega (arith, c.loop-k-test.true) in
    let least = c.loop-k.invariant.0 in
    let inside : c.loop-k.k - 1 < length c.args.pairs.now = omega (arith, before, least) in
    let p : Pair = slice_index_or c.args.pairs.now (c.loop-k.k - 1) (0, 0) in
    let both = All-get_or (λ (q : Pair). (q.0 < length c.args.lefts.now) × (q.1 < length c.args.rights.now)) c.args.pairs.now (c.loop-k.k - 1) (0, 0) inside c.requires in (
      omega (arith, least),
      ask_more c.args.lefts.now c.args.rights.now c.args.pairs.now c.loop-k.equations.items c.push.new.self.items c.loop-k.k (c.loop-k.k - 1) p
          (slice_index_or c.args.lefts.now p.0 (record { 0 = 0 })) (slice_index_or c.args.rights.now p.1 (record { 0 = 0 })) before
          (slice_get-get_or c.args.pairs.now (c.loop-k.k - 1) (0, 0) inside)
          (slice_get-get_or c.args.lefts.now p.0 (record { 0 = 0 }) both.0) (slice_get-get_or c.args.rights.now p.1 (record { 0 = 0 }) both.1)
          c.in_ok-push.ensures.items c.loop-k.invariant.1,
    )
