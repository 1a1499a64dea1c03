-- What is known of a text that was read, noted and judged.
use Rattle.std.proofs.Common.{◌≡◌, Bool, true, false, ℕ, List, [], Option, Some, None, IsTrue, IsUtf8, not, string_bytes, refl, sym, subst, ◌∙◌}
use Rattle.std.specs.Prelude.{◌↔◌}
use Rattle.std.proofs.lemmas.Bool.{false≢true, true≢false}
use Rattle.psg_grammar.specs.declared.types.Definition.{Definition}
use Rattle.psg_grammar.specs.declared.types.Kind.{Kind}
use Rattle.psg_grammar.specs.Fragments.{Fragment}
use Rattle.psg_grammar.specs.Legal.{IsCompletable}
use Rattle.psg_cache.specs.Annotated.{Annotated, tree_in, whole_in}
use Rattle.psg_cache.specs.Completed.{IsByCompletions}
use Rattle.psg_cache.specs.Notes.{IsNoteFault, IsNoteOf}
use Rattle.psg_cache.specs.declared.note.NoteFault.{NoteFault}
use Rattle.psg_cache.specs.declared.note.NoteFault.TheVariants as notes
use Rattle.psg_class.specs.Texts.{TextTokens, tokens_of}
use Rattle.psg_class.specs.Yields.{Yields}
use Rattle.psg_keymap.specs.declared.repair.Repair.{Repair}
use Rattle.psg_keymap.specs.Repairs.{IsAnswer, is_out}
use Rattle.psg_places.specs.Answers.{IsOfTree}
use Rattle.psg_program.specs.declared.fault.ProgramFault.{ProgramFault}
use Rattle.psg_program.specs.declared.fault.ProgramFault.TheVariants as faults
use Rattle.psg_program.specs.Programs.{IsProgramFault, IsProgramText}
use Rattle.psg_lexis.specs.declared.token.Spanned.{Spanned}
use Rattle.psg_ranges.specs.declared.ranges.Range.{Range}
use Rattle.psg_ranges.specs.Forests.{nodes_of, ranges_in}
use Rattle.psg_session.proofs.PrintableYields.{reads_printable}
use Rattle.psg_asking.specs.Asked.{IsKnown}
use Rattle.psg_pointing.specs.declared.judging.Judged.{Judged}
use Rattle.psg_pointing.specs.Judging.{IsJudged, IsLimited, IsNoProgram, is_memory}

pub no_program_by : (def : Definition) (kind : Kind) (text : List ℕ) (fault : ProgramFault) → is_memory fault ≡ false
    → IsProgramFault def kind text fault → IsNoProgram def kind text
no_program_by def kind text (faults.Syntax e) m h = (e.place.line, e.place.column, string_bytes e.message, h)
no_program_by def kind text faults.Memory m h = absurd (true≢false m)

real : (fault : NoteFault) → is_out fault ≡ false → IsOfTree fault
real notes.Deep e = tt
real notes.Big e = tt
real (notes.Wide path step) e = tt
real notes.Heavy e = tt
real notes.Memory e = absurd (true≢false e)

pub limited_by : (def : Definition) (f : Fragment) (fault : NoteFault) → is_out fault ≡ false → IsNoteFault def f fault
    → IsLimited def f
limited_by def f fault e h = (fault, h, real fault e)

not_both : (b : Bool) → not b ≡ true → IsTrue b → ⊥
not_both true e t = false≢true e
not_both false e t = false≢true t

one_is : (b : Bool) → not b ≡ false → IsTrue b
one_is true e = refl
one_is false e = absurd (true≢false e)

-- what is known of the tree that was read
pub record IsOfText (def : Definition) (kind : Kind) (own : List ℕ) (j : Judged) (f : Fragment) : Type 0 where
  pub program : IsProgramText def kind own f
  pub nesting : ℕ
  pub yields : Yields def f kind 0 nesting (tokens_of j.tokens.items)
  pub ranges : j.ranges.nodes ≡ ranges_in (nodes_of def f kind 0 nesting (tokens_of j.tokens.items) yields)
  pub noted : IsNoteOf def f j.note
  pub good : IsByCompletions def f j.note
  pub answer : j.wrong ≡ true → IsAnswer def f j.repair

module _ (def : Definition) (kind : Kind) (own : List ℕ) (utf8 : IsUtf8 own) (j : Judged) (good : Bool)
    (rows : IsTrue good ↔ ((whole_in j.note).rel ≡ [] → ⊥)) (wrong : j.wrong ≡ not good) where
  known_by : IsOfText def kind own j (tree_in j.note) → IsKnown def kind j.note j.wrong j.repair
  known_by is = record {
    program = record {
      formed = is.program.formed;
      noted = is.noted;
      printable = reads_printable def _ kind 0 is.program.nesting _ utf8 is.program.reads;
    };
    right = λ e. is.good.relation.1 (rows.0 (one_is good (sym wrong ∙ e)));
    not_right = λ e h. not_both good (sym wrong ∙ e) (rows.1 (is.good.relation.0 h));
    repair_is = is.answer;
  }

  judged_in : TextTokens def own j.tokens.items → IsOfText def kind own j (tree_in j.note) → IsJudged def kind own j
  judged_in tokens is = record {
    is_text = utf8;
    program = is.program;
    tokens = tokens;
    nesting = is.nesting;
    yields = is.yields;
    ranges = is.ranges;
    known = known_by is;
  }

  pub judged_by : TextTokens def own j.tokens.items → (f : Fragment) → IsOfText def kind own j f
      → IsJudged def kind own j
  judged_by tokens f is = judged_in tokens (subst (IsOfText def kind own j) (sym is.noted.tree) is)

-- where the nodes of each derivation of the tree from these tokens are
abbrev pub MadeFor : Definition → Kind → Fragment → List Spanned → List Range → Type 0
MadeFor def kind f ts ranges = (level nesting : ℕ) (y : Yields def f kind level nesting (tokens_of ts))
    → ranges ≡ ranges_in (nodes_of def f kind level nesting (tokens_of ts) y)

pub made_for : (def : Definition) (kind : Kind) (f : Fragment) (ranges : List Range) (d : Definition) (ts us : List Spanned)
    → d ≡ def → us ≡ ts → MadeFor d kind f us ranges → MadeFor def kind f ts ranges
made_for def kind f ranges d ts us same row made =
    subst (λ t. MadeFor def kind f t ranges) row (subst (λ e. MadeFor e kind f us ranges) same made)
