use Rattle.std.proofs.Common.{ℕ, subst}
use Rattle.std.proofs.lemmas.Option.{slice_get_within}
use Rattle.psg_grammar.specs.Sound.{HasKindSort}
use Rattle.psg_defnumber.proofs.lookups.kind_sort.Goals as goal

pub phylum_sort-sort-requires : goal.phylum_sort-sort-requires
phylum_sort-sort-requires c = subst (λ k. (s : ℕ) × HasKindSort c.args.definition.now k s) c.in-Phylum.is c.requires

pub list_at-own-requires : goal.list_at-own-requires
list_at-own-requires c =
    let there = subst (λ k. (s : ℕ) × HasKindSort c.args.definition.now k s) c.in-List.is c.requires in slice_get_within c.args.definition.now.lists c.in-List.list there.1.0 there.1.1
