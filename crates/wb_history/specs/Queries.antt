-- What queries are answered, from the cells of the workbook and the history.
use Rattle.std.specs.Prelude.{◌≡◌, Bool, ℕ, ℤ, List, Option, Some, None, Result, Ok, Err, unwrap_or}
use Rattle.std.specs.FinMap.{get}
use Rattle.wb_cells.specs.declared.cells.cell.Cell.TheVariants.{Object, In, Implicit, Element}
use Rattle.wb_cells.specs.declared.cells.kind.DomainKind.{DomainKind}
use Rattle.wb_cells.specs.declared.cells.kind.Kind.{Kind}
use Rattle.wb_cells.specs.declared.cells.value.Value.{Value}
use Rattle.wb_cells.specs.declared.values.index.Index.{Index}
use Rattle.wb_cells.specs.Cells.{Name, Cells}
use Rattle.wb_cells.specs.Readers.{size_at}
use Rattle.wb_cells.specs.declared.refusal.WhyRefused as why
use Rattle.wb_edit.specs.Implicit.{has_implicit, parent_in}
use Rattle.wb_edit.specs.Numbers.{element_or_refusal}
use Rattle.wb_edit.specs.Looks.{domain_kind, array_kind, is_there, fits}
use Rattle.wb_history.specs.declared.query.Answer.{Answer}
use Rattle.wb_history.specs.declared.query.Answer.TheVariants.{Value as ValueIs, Size as SizeIs, InForce, Note as NoteIs}
use Rattle.wb_edit.specs.declared.query.Query.{Query}
use Rattle.wb_edit.specs.declared.query.Query.TheVariants.{Get, Size, Where, Piece, Reduce, State, Note}
use Rattle.wb_edit.specs.declared.refusal.Refusal.{Refusal}
use Rattle.wb_edit.specs.declared.refusal.Refusal.TheVariants.{Refused, NoSuchEdit}
use Rattle.wb_history.specs.Locales.{where_answer, locale_answer}
use Rattle.wb_history.specs.Pieces.{piece_of, piece_answer, OrNoMemory}
use Rattle.wb_history.specs.Reductions.{reduce_answer}
use Rattle.wb_history.specs.Restored.{numbered_at}
use Rattle.wb_log.specs.Past.{Numbered, force_of}
use Rattle.wb_edit.specs.Edits.{note_of}
use Rattle.wb_edit.specs.Trees.{plain}

-- the implicit value of an array
abbrev pub value_inside : Cells → Name → Result (Unit {0}) why.WhyRefused → Result ℤ why.WhyRefused
value_inside s a (Ok there) = element_or_refusal (get s (Implicit a))
value_inside s a (Err e) = Err e

-- the implicit value of an array at an index, where the index is one of the parent
abbrev pub value_within : Cells → Name → Index → Result Name why.WhyRefused → Result ℤ why.WhyRefused
value_within s a i (Ok parent) = value_inside s a (is_there (get s (In parent i)))
value_within s a i (Err e) = Err e

-- the implicit value of an array at an index, over the sparse domain d
abbrev pub value_over : Cells → (a d : Name) → Index → Result (Unit {0}) why.WhyRefused → Result ℤ why.WhyRefused
value_over s a d i (Ok sparse) = value_within s a i (parent_in (get s (Object d)))
value_over s a d i (Err e) = Err e

-- what stands in the element's cell, or else the implicit value, which arrays over sparse domains have
abbrev pub element_or_implicit : Cells → (a d : Name) → Kind → Index → Option Value → Result ℤ why.WhyRefused
element_or_implicit s a d kind i (Some v) = element_or_refusal (Some v)
element_or_implicit s a d kind i None = value_over s a d i (has_implicit kind)

-- the element at an index of the type and rank of the array's
abbrev pub element_at : Cells → (a d : Name) → Kind → Index → Result (Unit {0}) why.WhyRefused → Result ℤ why.WhyRefused
element_at s a d kind i (Ok fit) = element_or_implicit s a d kind i (get s (Element a i))
element_at s a d kind i (Err e) = Err e

abbrev pub get_from : Cells → Name → Index → Result (Name × Kind) why.WhyRefused → Result ℤ why.WhyRefused
get_from s a i (Ok (d, kind)) = element_at s a d kind i (fits kind i)
get_from s a i (Err e) = Err e

-- the name is an array's, the index fits, and the element is there, or the array has an implicit value at the index
abbrev pub get_answer : Cells → Name → Index → Result ℤ why.WhyRefused
get_answer s a i = get_from s a i (array_kind (get s (Object a)))

abbrev pub value_answer : Result ℤ why.WhyRefused → Result Answer Refusal
value_answer (Ok x) = Ok (ValueIs x)
value_answer (Err e) = Err (Refused (plain e))

abbrev pub size_from : Cells → Name → Result DomainKind why.WhyRefused → Result ℕ why.WhyRefused
size_from s d (Ok kind) = Ok (unwrap_or (size_at s d) 0)
size_from s d (Err e) = Err e

-- the name is a domain's, and the domain has so many indices
abbrev pub size_answer : Cells → Name → Result ℕ why.WhyRefused
size_answer s d = size_from s d (domain_kind (get s (Object d)))

-- the count as an answer, or why there is none
abbrev pub count_answer : Result ℕ why.WhyRefused → Result Answer Refusal
count_answer (Ok n) = Ok (SizeIs n)
count_answer (Err e) = Err (Refused (plain e))

abbrev pub force_answer : Option Bool → Result Answer Refusal
force_answer (Some b) = Ok (InForce b)
force_answer None = Err NoSuchEdit

-- the edit is there: its note, if it has one
abbrev pub note_answer : Option Numbered → Result Answer Refusal
note_answer (Some x) = Ok (NoteIs (note_of x.edit))
note_answer None = Err NoSuchEdit

-- the note that was looked up, if there is an edit
abbrev pub note_told : Option (Option (List ℕ)) → Result Answer Refusal
note_told (Some n) = Ok (NoteIs n)
note_told None = Err NoSuchEdit

abbrev pub answer : Cells → List Numbered → Query → Result Answer Refusal
answer s es (Get a i) = value_answer (get_answer s a i)
answer s es (Size d) = count_answer (size_answer s d)
answer s es (Where d i) = locale_answer (where_answer s d i)
answer s es (Piece a l) = piece_answer (piece_of s a l)
answer s es (Reduce a op) = value_answer (reduce_answer s a op)
answer s es (State k) = force_answer (force_of es k)
answer s es (Note k) = note_answer (numbered_at es k)

-- A query is answered so; memory may run out where the answer is a list or a note, and nowhere else.
abbrev pub QueryReply : Cells → List Numbered → Query → Result Answer Refusal → Type 0
QueryReply s es (Get a i) r = r ≡ answer s es (Get a i)
QueryReply s es (Size d) r = r ≡ answer s es (Size d)
QueryReply s es (Where d i) r = r ≡ answer s es (Where d i)
QueryReply s es (Piece a l) r = OrNoMemory (answer s es (Piece a l)) r
QueryReply s es (Reduce a op) r = r ≡ answer s es (Reduce a op)
QueryReply s es (State k) r = r ≡ answer s es (State k)
QueryReply s es (Note k) r = OrNoMemory (answer s es (Note k)) r
