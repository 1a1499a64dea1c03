use Rattle.std.proofs.Common.{◌≡◌, ℕ, ◌<◌, Bool, Vec, length, get_or, vec_len, sym, ap, subst, ◌∙◌, arith}
use Rattle.std.specs.declared.alloc.Global.{Global}
use Rattle.std.proofs.lemmas.List.{get_or_default}
use Rattle.psg_grammar.specs.DeclaringTables.{Table, Adds, spaces_at}
use Rattle.psg_grammar.proofs.TableLaws.{AddsUpTo, Joins, joins_then, joins_else, adds_up_to_more, adds_all, spaces_at_get, vec_len-spaces_at}
use Rattle.psg_grammar.proofs.spaces.add_all.Goals as goal
use Rattle.psg_grammar.proofs.spaces.add_all.Goals.{then-branch, else-branch}

-- the spaces that are read have stayed, and the place is one of them
reads : (t u : Table) (p from n m : ℕ) (v w : Vec ℕ Global) (a : Bool) → AddsUpTo t p (spaces_at t from) n u a → (p ≡ from → ⊥) → from < length t
    → v ≡ get_or t from v → m ≡ vec_len v → n < m → w ≡ get_or u from w → (n < length (spaces_at t from)) × (n < vec_len w) × (w.items ≡ spaces_at t from)
reads t u p from n m v w a f ne inside is size lt now =
    let there : from < length u = omega (arith, inside, f.one_each) in
    let same : spaces_at u from ≡ spaces_at t from = f.others from (λ e. ne (sym e)) in
    let old : vec_len v ≡ length (spaces_at t from) = vec_len-spaces_at t from v inside is in
    let new : vec_len w ≡ length (spaces_at u from) = vec_len-spaces_at u from w there now in
    let sizes : length (spaces_at u from) ≡ length (spaces_at t from) = ap length same in
    (omega (arith, old, size, lt), omega (arith, old, new, sizes, size, lt), sym (spaces_at_get u from w there now) ∙ same)

pub index-space-requires : goal.index-space-requires
index-space-requires c =
    let facts = reads c.args.found.now.items c.loop-place.found.items c.args.phylum c.args.from c.loop-place.place c.len-place-end.result c.index.result.now c.index-in-loop-place.result.now c.loop-place.changed c.loop-place.invariant c.if-phylum-from.false (omega (arith, c.args.found.now.ok.0)) c.index.ensures c.len-place-end.ensures c.loop-place-test.true c.index-in-loop-place.ensures in
    facts.1

pub loop-place-preserved : goal.loop-place-preserved
loop-place-preserved c =
    let t = c.args.found.now.items in
    let u = c.loop-place.found.items in
    let n = c.loop-place.place in
    let xs = spaces_at t c.args.from in
    let (lt, inside, items) = reads t u c.args.phylum c.args.from n c.len-place-end.result c.index.result.now c.index-in-loop-place.result.now c.loop-place.changed c.loop-place.invariant c.if-phylum-from.false (omega (arith, c.args.found.now.ok.0)) c.index.ensures c.len-place-end.ensures c.loop-place-test.true c.index-in-loop-place.ensures in
    let read : c.index-space.result.now ≡ get_or xs n c.index-space.result.now = subst (λ ys. c.index-space.result.now ≡ get_or ys n c.index-space.result.now) items c.index-space.ensures in
    let space : c.index-space.result.now ≡ get_or xs n 0 = read ∙ get_or_default xs n c.index-space.result.now 0 lt in
    let added : Adds u c.args.phylum (λ s. s ≡ get_or xs n 0) c.add_space.new.found.items c.in_ok-add_space.field-0 = subst (λ k. Adds u c.args.phylum (λ s. s ≡ k) c.add_space.new.found.items c.in_ok-add_space.field-0) space c.in_ok-add_space.ensures in
    let more = λ (j : Joins c.loop-place.changed c.in_ok-add_space.field-0 c.if-branch.changed). adds_up_to_more t u c.add_space.new.found.items c.args.phylum xs n c.loop-place.changed c.in_ok-add_space.field-0 c.if-branch.changed c.loop-place.invariant lt added j in
    elim c.if-branch.branch [
      | then-branch w ↦ more (joins_then c.loop-place.changed c.in_ok-add_space.field-0 c.if-branch.changed w.if-branch.true w.changed-is)
      | else-branch w ↦ more (joins_else c.loop-place.changed c.in_ok-add_space.field-0 c.if-branch.changed w.if-branch.false w.changed-is)
    ]

pub returns : goal.returns
returns c =
    let t = c.args.found.now.items in
    let here : c.args.from < length t = omega (arith, c.args.found.now.ok.0) in
    let size : vec_len c.index.result.now ≡ length (spaces_at t c.args.from) = vec_len-spaces_at t c.args.from c.index.result.now here c.index.ensures in
    adds_all t c.loop-place.found.items c.args.phylum c.args.from c.loop-place.place c.loop-place.changed c.loop-place.invariant (omega (arith, size, c.len-place-end.ensures, c.loop-place-test.false))
