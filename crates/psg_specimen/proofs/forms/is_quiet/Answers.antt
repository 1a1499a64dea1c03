use Rattle.std.proofs.Common.{◌<◌, ◌==◌, length, sym, ap, subst, ◌∙◌}
use Rattle.psg_terms.proofs.Lists.{slice_get_item}
use Rattle.std.specs.Prelude.{◌↔◌, IsTrue}
use Rattle.psg_grammar.specs.Kinds.{HasKind}
use Rattle.psg_specimen.specs.Conditions.{IsQuiet}
use Rattle.psg_specimen.proofs.QuietLaws.{quiet_by, is_nil}
use Rattle.psg_specimen.proofs.forms.is_quiet.Goals as goal

pub returns-in-Phylum : goal.returns-in-Phylum
returns-in-Phylum c =
    let def = c.args.definition.now in
    let p = c.in-Phylum.phylum in
    let v = c.index-spaces-phylum.result in
    let there : p < length def.phyla = subst (HasKind def) c.in-Phylum.is c.requires.kind in
    let lt : p < length c.args.spaces.now = subst (λ n. p < n) (sym c.requires.tables.one_each) there in
    let both = quiet_by def p v.items (c.requires.tables.exact p v (slice_get_item c.args.spaces.now p v lt c.index-spaces-phylum.is)) in
    let nil = is_nil v.items c.is_empty.result (c.is_empty.ensures ∙ ap (λ l. length l == 0) c.as_slice.ensures.value) in
    subst (λ k. IsTrue c.is_empty.result ↔ IsQuiet def k) (sym c.in-Phylum.is) (λ t. both.0 (nil.0 t), λ q. nil.1 (both.1 q))
