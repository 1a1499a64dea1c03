use Rattle.std.proofs.Common.{◌↔◌, not, IsTrue, sym, subst}
use Rattle.psg_grammar.specs.Kinds.{HasKind}
use Rattle.psg_specimen.specs.Languages.{IsDeclaringPhylum}
use Rattle.psg_specimen.proofs.DeclaringPhyla.{phylum_declares}
use Rattle.psg_specimen.proofs.language.LanguageParts.is_declaring.Goals as goal

pub returns-in-Phylum : goal.returns-in-Phylum
returns-in-Phylum c =
    subst (λ k. IsTrue (not c.is_empty.result) ↔ IsDeclaringPhylum c.args.self.now.definition k) (sym c.in-Phylum.is)
    (phylum_declares c.args.self.now.definition c.requires.language.sound c.spaces.result.now
    (c.spaces.ensures c.args.self.now.definition c.requires.language.tables) c.in-Phylum.phylum
    (subst (HasKind c.args.self.now.definition) c.in-Phylum.is c.requires.kind) c.index-spaces-phylum.result
    c.is_empty.result c.index-spaces-phylum.is
    c.is_empty.ensures)
