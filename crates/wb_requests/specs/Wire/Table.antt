-- The requests of the protocol, one line each: the members that a request's JSON object has, keys ascending, and what the
-- value of each has to spell.
use Rattle.std.specs.Prelude.{ℕ, List, [], ◌∷◌, codes, Some, None}
use Rattle.wb_requests.specs.Encoding.Table.{edit_table}
use Rattle.wb_edit.specs.declared.query.Query.TheVariants.{Get, Size, Where, Piece, Reduce, State, Note}
use Rattle.wb_arrays.specs.declared.reduction.Op.{Op}
use Rattle.wb_arrays.specs.declared.reduction.Op.TheVariants as reductions
use Rattle.wb_requests.specs.declared.requests.request.Request.{Request}
use Rattle.wb_requests.specs.declared.requests.request.Request.TheVariants.{Change, Undo, Redo, Cascade, Dependents, Ask, Print, History, Edits, Explain}
pub use Rattle.wb_requests.specs.Encoding.Table.{Meaning, word, name, integer, number, index}
pub use Rattle.wb_requests.specs.Encoding.Table.{given, mapping, optional_mapping, book, numbers, some_set, some_numbers, note, edits}
pub use Rattle.wb_requests.specs.Encoding.Table.{Fields, op, type_word, operation_word, command_ops, command_table, transaction_table}

abbrev pub reduction_word : Op → List ℕ
reduction_word reductions.Sum = codes "+"
reduction_word reductions.Min = codes "min"
reduction_word reductions.Max = codes "max"

-- the members of each request
abbrev pub table : Request → Fields
table (Change e) = edit_table e
table (Undo None) = op (codes "undo") ∷ []
table (Undo (Some k)) = (codes "k", number k) ∷ op (codes "undo") ∷ []
table (Redo k) = (codes "k", number k) ∷ op (codes "redo") ∷ []
table (Cascade k) = (codes "k", number k) ∷ op (codes "cascade") ∷ []
table (Dependents k) = (codes "k", number k) ∷ op (codes "dependents") ∷ []
table (Ask (Get a i)) = (codes "a", name a) ∷ (codes "i", index i) ∷ op (codes "get") ∷ []
table (Ask (Where d i)) = (codes "d", name d) ∷ (codes "i", index i) ∷ op (codes "where") ∷ []
table (Ask (Size d)) = (codes "d", name d) ∷ op (codes "size") ∷ []
table (Ask (Piece a l)) = (codes "a", name a) ∷ (codes "l", number l) ∷ op (codes "piece") ∷ []
table (Ask (Reduce a how)) = (codes "a", name a) ∷ (codes "how", word (reduction_word how)) ∷ op (codes "reduce") ∷ []
table (Ask (State k)) = (codes "k", number k) ∷ op (codes "state") ∷ []
table (Ask (Note k)) = (codes "k", number k) ∷ op (codes "note") ∷ []
table Print = op (codes "print") ∷ []
table (History None) = op (codes "history") ∷ []
table (History (Some k)) = (codes "from", number k) ∷ op (codes "history") ∷ []
table Edits = op (codes "edits") ∷ []
table (Explain line) = (codes "line", word line) ∷ op (codes "explain") ∷ []
