use Rattle.psg_documents.proofs.UnitLaws.{text_units}
use Rattle.psg_documents.proofs.laws.columns_are_characters.Goals as goal

pub returns : goal.returns
returns c = λ e cs. text_units e cs
