use Rattle.std.proofs.Common.{◌≡◌, ℕ, ◌<◌, ◌≤◌, length, get_or, set, sym, ap, subst, ◌∙◌, Contains, Ok, Err, arith}
use Rattle.std.specs.List.Sorted.{IsStrictlyIncreasing}
use Rattle.std.proofs.lemmas.List.{set-get_or}
use Rattle.std.proofs.lemmas.List.Elements.{Contains-get_or}
use Rattle.std.proofs.lemmas.List.Sorted.{searched}
use Rattle.psg_grammar.specs.DeclaringTables.{spaces_at}
use Rattle.psg_grammar.proofs.Increasing.{rising}
use Rattle.psg_grammar.proofs.TableLaws.{adds_none, adds_new, spaces_at_get}
use Rattle.psg_grammar.proofs.spaces.add_space.Goals as goal

pub returns-in-Ok : goal.returns-in-Ok
returns-in-Ok c =
    let t = c.args.found.now.items in
    let p = c.args.phylum in
    let v = c.index_mut-spaces.result.now in
    let inside : p < length t = omega (arith, c.args.found.now.ok.0) in
    let xs = c.deref.result.now in
    let found : spaces_at t p ≡ xs = spaces_at_get t p v inside c.index_mut-spaces.ensures.value ∙ sym c.deref.ensures.value in
    let rises : IsStrictlyIncreasing xs = subst IsStrictlyIncreasing found (c.requires.increasing p) in
    let (lt, same) = searched xs c.args.space (Ok c.in-Ok.field-0) c.in-Ok.ensures.position (rising xs rises) in
    let there : Contains (spaces_at t p) c.args.space = subst (λ ys. Contains ys c.args.space) (sym found) (subst (Contains xs) same (Contains-get_or xs c.in-Ok.field-0 0 lt)) in
    adds_none t (set t p v) p c.args.space (ap (set t p) c.index_mut-spaces.ensures.value ∙ set-get_or t p v) c.requires.increasing there

pub returns-in_ok-insert-in-Err : goal.returns-in_ok-insert-in-Err
returns-in_ok-insert-in-Err c =
    let t = c.args.found.now.items in
    let p = c.args.phylum in
    let v = c.index_mut-spaces.result.now in
    let inside : p < length t = omega (arith, c.args.found.now.ok.0) in
    let xs = c.deref.result.now in
    let same : xs ≡ v.items = c.deref.ensures.value in
    let found : spaces_at t p ≡ xs = spaces_at_get t p v inside c.index_mut-spaces.ensures.value ∙ sym same in
    let rises : IsStrictlyIncreasing xs = subst IsStrictlyIncreasing found (c.requires.increasing p) in
    let facts = searched xs c.args.space (Err c.in-Err.place) c.in-Err.ensures.position (rising xs rises) in
    let (le, below, above) = subst (λ ys. (c.in-Err.place ≤ length ys) × ((k : ℕ) → k < c.in-Err.place → get_or ys k 0 < c.args.space) × ((k : ℕ) → c.in-Err.place ≤ k → k < length ys → c.args.space < get_or ys k 0)) same facts in
    adds_new t p c.args.space c.in-Err.place v c.insert.new.self inside c.index_mut-spaces.ensures.value c.in_ok-insert-in-Err.ensures.items c.requires.increasing le below above
