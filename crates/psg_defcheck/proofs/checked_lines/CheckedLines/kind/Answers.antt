use Rattle.std.proofs.Common.{◌≡◌, ap, sym, ◌∙◌, subst, Some, is_some, slice_get}
use Rattle.std.specs.Prelude.{IfSome}
use Rattle.psg_terms.specs.Names.{is_among}
use Rattle.psg_defcheck.specs.Scopes.{phylum_names, list_names}
use Rattle.psg_defcheck.specs.NameSets.{listed}
use Rattle.psg_defcheck.proofs.CheckLaws.{is-there, is-placed, other-kind, few-phylum_names, few-list_names}
use Rattle.psg_defcheck.proofs.checked_lines.CheckedLines.kind.Goals as goal

pub found-requires : goal.found-requires
found-requires c = few-phylum_names c.self.inside.names.phyla c.self.inside.entries.now c.self.invariant.names.phyla c.self.invariant.few

pub number-list-requires-clause-few : goal.number-list-requires-clause-few
number-list-requires-clause-few c = few-list_names c.self.inside.names.lists c.self.inside.entries.now c.self.invariant.names.lists c.self.invariant.few

pub number-list-requires-clause-there : goal.number-list-requires-clause-there
number-list-requires-clause-there c =
    is-there c.self.inside.names.lists _ (list_names c.args.self.now) c.self.invariant.names.lists (ap list_names c.self.view_is) c.args.name.now
    (other-kind c.args.self.now c.args.name.now c.requires
    (ap (λ l. is_among l c.args.name.now) (sym (c.self.invariant.names.phyla ∙ ap phylum_names c.self.view_is)) ∙ sym c.found.ensures.there ∙ ap is_some c.in-None.is))

pub returns-in-None : goal.returns-in-None
returns-in-None c = is-placed c.self.inside.names.lists _ (list_names c.args.self.now) c.self.invariant.names.lists (ap list_names c.self.view_is) c.args.name.now c.number-list.result c.number-list.ensures

pub returns-in-Some : goal.returns-in-Some
returns-in-Some c =
    is-placed c.self.inside.names.phyla _ (phylum_names c.args.self.now) c.self.invariant.names.phyla (ap phylum_names c.self.view_is) c.args.name.now c.in-Some.phylum
    (subst (λ o. IfSome o (λ p. slice_get (listed c.self.inside.names.phyla) p ≡ Some c.args.name.now)) c.in-Some.is c.found.ensures.place)
