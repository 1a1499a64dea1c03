-- What a page is of, where a text is a program.
use Rattle.std.proofs.Common.{◌≡◌, ℕ, List, ap, subst, ◌∙◌}
use Rattle.std.specs.Prelude.{Vec}
use Rattle.std.specs.declared.alloc.Global.{Global}
use Rattle.psg_grammar.specs.declared.types.Definition.{Definition}
use Rattle.psg_grammar.specs.declared.types.Kind.{Kind}
use Rattle.psg_grammar.specs.Fragments.{Fragment}
use Rattle.psg_lexis.specs.declared.token.Spanned.{Spanned}
use Rattle.psg_class.specs.Texts.{tokens_of}
use Rattle.psg_class.specs.Yields.{Yields}
use Rattle.psg_ranges.specs.declared.ranges.Ranges.{Ranges}
use Rattle.psg_ranges.specs.Forests.{nodes_of, ranges_in}
use Rattle.psg_program.specs.declared.fault.ProgramFault.{ProgramFault}
use Rattle.psg_program.specs.declared.fault.ProgramFault.TheVariants.{Syntax}
use Rattle.psg_program.specs.declared.fault.SyntaxError.{SyntaxError}
use Rattle.psg_program.specs.declared.reading.Program.{Program}
use Rattle.psg_program.specs.Decoding.{unmarked}
use Rattle.psg_program.specs.OneAnswer.{HasOneAnswer}
use Rattle.psg_program.specs.Programs.{IsProgram, IsProgramFault, IsReadFrom}
use Rattle.psg_links.specs.declared.link.Link.{Link}
use Rattle.psg_links.specs.Links.{links_of}
use Rattle.psg_links.specs.Spots.{IsPage}

pub no_program : (def : Definition) → HasOneAnswer def → (kind : Kind) (bytes : List ℕ) (f : Fragment) (fault : ProgramFault) (e : SyntaxError)
    → fault ≡ Syntax e → IsProgramFault def kind bytes fault → IsProgram def kind bytes f → ⊥
no_program def one kind bytes f fault e is faulty program =
    one.not_both kind bytes f e.place.line e.place.column _ program (subst (IsProgramFault def kind bytes) is faulty)

-- the ranges are those of each derivation of the tree from the tokens
abbrev AreRanges : Definition → Kind → Fragment → List Spanned → Ranges → Type 0
AreRanges def kind f row ranges = (level nesting : ℕ) (y : Yields def f kind level nesting (tokens_of row))
    → ranges.nodes ≡ ranges_in (nodes_of def f kind level nesting (tokens_of row) y)

pub page_is : (def own : Definition) (kind : Kind) (bytes : List ℕ) (p : Program) (row : List Spanned) (ranges : Ranges) (links : Vec Link Global)
    → own ≡ def → row ≡ p.tokens.items → AreRanges own kind p.tree row ranges → links.items ≡ links_of own p.tree
    → IsProgram def kind bytes p.tree → IsReadFrom def kind (unmarked bytes) p
    → IsPage def kind bytes (record { tree = p.tree; tokens = p.tokens; ranges = ranges; links = links })
page_is def own kind bytes p row ranges links same tokens made linked program read =
    let all : AreRanges def kind p.tree p.tokens.items ranges =
    subst (λ (ts : List Spanned). AreRanges def kind p.tree ts ranges) tokens
    (subst (λ (d : Definition). AreRanges d kind p.tree row ranges) same made) in
    record {
      program = program;
      tokens = read.tokens;
      nesting = read.nesting;
      yields = read.yields;
      nodes = all 0 read.nesting read.yields;
      links = linked ∙ ap (λ d. links_of d p.tree) same;
    }
