-- What the words of the code stand for that tell what is wrong with a line.
use Rattle.std.specs.Prelude.{◌≡◌, ◌≢◌, Option, Some, None, Result, Ok, Err}
use Rattle.wb_cells.specs.declared.refusal.WhyRefused as edits
use Rattle.wb_edit.specs.declared.refusal.Refusal.{Refusal}
use Rattle.wb_edit.specs.declared.refusal.Refusal.TheVariants.{NoMemory}
use Rattle.wb_requests.specs.Explained as told
use Rattle.wb_requests.specs.Wire.Faults.{fault_told, edit_fault_told}
use Rattle.wb_requests.specs.Wire.Faults as faults
use Rattle.wb_requests.specs.declared.explaining.fault.Fault.{Fault}
use Rattle.wb_requests.specs.declared.explaining.fault.Fault.TheVariants as code_fault
use Rattle.wb_requests.specs.declared.explaining.kinds.Kind.{Kind}
use Rattle.wb_requests.specs.declared.explaining.kinds.Kind.TheVariants as code_kind
use Rattle.wb_requests.specs.declared.explaining.rules.Rule.{Rule}
use Rattle.wb_requests.specs.declared.explaining.rules.Rule.TheVariants as code_rule

abbrev pub said_fault : Fault → faults.Fault
said_fault code_fault.BadRequest = faults.bad_request
said_fault code_fault.BadLiteral = faults.bad_literal
said_fault code_fault.TooLarge = faults.too_large
said_fault code_fault.BadMapping = faults.bad_mapping

abbrev pub said_kind : Kind → faults.Kind
said_kind code_kind.Name = faults.plain faults.name
said_kind code_kind.Integer = faults.plain faults.integer
said_kind code_kind.Number = faults.plain faults.number
said_kind code_kind.Index = faults.plain faults.index
said_kind code_kind.Integers = faults.plain faults.integers
said_kind code_kind.Offsets = faults.plain faults.offsets
said_kind code_kind.KeyType = faults.plain faults.key_type
said_kind code_kind.Operation = faults.plain faults.operation
said_kind code_kind.Reduction = faults.plain faults.reduction
said_kind code_kind.AnyText = faults.plain faults.any_text
said_kind code_kind.Note = faults.plain faults.note
said_kind code_kind.Several = faults.plain faults.several
said_kind code_kind.Domain = faults.domain
said_kind code_kind.Mapping = faults.mapping
said_kind code_kind.Source = faults.source
said_kind code_kind.Workbook = faults.workbook

abbrev pub said_rule : Rule → told.Rule
said_rule code_rule.IsJson = told.is_json
said_rule code_rule.IsObject = told.is_object
said_rule code_rule.NamesOp = told.names_op
said_rule code_rule.HasNoMore = told.has_no_more
said_rule code_rule.HasAll = told.has_all
said_rule code_rule.HasOneOf = told.has_one_of
said_rule (code_rule.Spells kind) = told.spells (said_kind kind)
said_rule code_rule.AreCounted = told.are_counted
said_rule code_rule.NamesCommand = told.names_command

-- the fault that the refusal of an edit tells of
abbrev pub said_edit_fault : edits.WhyRefused → faults.Fault
said_edit_fault why = edit_fault_told why

-- a value is judged as it is wanted, unless memory ran out
abbrev pub IsJudged : {X : Type 0} → Option faults.Fault → Result X Refusal → Type 0
IsJudged wanted (Ok x) = wanted ≡ None
IsJudged wanted (Err why) = why ≢ NoMemory → wanted ≡ Some (fault_told why)
