use Rattle.std.proofs.Common.{◌≡◌, ◌↔◌, IsTrue, subst, ◌+◌, ◌∷◌, Bool, cond, drop, length, List, rules, refl, sym, ap, ◌∙◌, arith}
use Rattle.std.proofs.lemmas.List.{drop_all}
use Rattle.psg_grammar.specs.declared.types.Phylum.{Phylum}
use Rattle.psg_recover.specs.Reads.{is_declaring_name}
use Rattle.psg_recover.proofs.ReadsLaws.{declaring_here, declaring_next, declaring_none}
use Rattle.psg_recover.proofs.reading.is_declaring.Goals as goal

pub loop-place-init : goal.loop-place-init
loop-place-init c = ap (λ (l : List Phylum). is_declaring_name c.args.known.definition.now 0 l c.args.name.now) c.as_slice-phyla.ensures

pub returns-then-same : goal.returns-then-same
returns-then-same c =
    declaring_here c.args.known.definition.now c.as_slice-phyla.result.now c.loop-place.place c.index-phyla-place.result c.args.name.now c.loop-place-test.true c.index-phyla-place.is c.same.result c.if-same.true (subst (λ (p : Phylum). IsTrue c.same.result ↔ (p.name ≡ c.args.name.now)) (sym c.index-phyla-place.is) c.same.ensures) c.declares.result c.declares.ensures
    ∙ c.loop-place.invariant

pub loop-place-preserved : goal.loop-place-preserved
loop-place-preserved c =
    declaring_next c.args.known.definition.now c.as_slice-phyla.result.now c.loop-place.place c.index-phyla-place.result c.args.name.now c.loop-place-test.true c.index-phyla-place.is c.same.result c.if-same.false (subst (λ (p : Phylum). IsTrue c.same.result ↔ (p.name ≡ c.args.name.now)) (sym c.index-phyla-place.is) c.same.ensures)
    ∙ c.loop-place.invariant

pub returns : goal.returns
returns c = declaring_none c.args.known.definition.now c.as_slice-phyla.result.now c.loop-place.place c.args.name.now (omega arith) ∙ c.loop-place.invariant
