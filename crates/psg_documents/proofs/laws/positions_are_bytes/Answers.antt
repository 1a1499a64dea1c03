use Rattle.psg_documents.proofs.FindLaws.{byte_back, byte_is, bytes_in_order, column_once, line_once, position_back}
use Rattle.psg_documents.proofs.laws.positions_are_bytes.Goals as goal

pub returns-clause-bytes : goal.returns-clause-bytes
returns-clause-bytes c = λ e text byte line column found stop one by. byte_back e text byte line column found stop one by

pub returns-clause-positions : goal.returns-clause-positions
returns-clause-positions c = λ e text byte l d found m f stop one by two. position_back e text byte l d found m f stop one by two

pub returns-clause-places : goal.returns-clause-places
returns-clause-places c = λ e text byte line column found stop one by. byte_is e text byte line column found stop one by

pub returns-clause-one : goal.returns-clause-one
returns-clause-one c = λ e text byte l d m f one two.
    (line_once e text byte l d m f one two, column_once e text byte l d m f one two)

pub returns-clause-order : goal.returns-clause-order
returns-clause-order c = λ e text l d byte m f other up one two. bytes_in_order e text l d byte m f other up one two
