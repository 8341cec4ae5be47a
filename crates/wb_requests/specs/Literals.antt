-- The literals that requests take: what they spell, and then, within the limits, what that stands for (Chapel Language
-- Specification, Ranges, Domains and Domain Maps).
use Rattle.std.specs.Prelude.{ℕ, List, Option, Some, None, Result, Ok, Err, if◌then◌else◌}
use Rattle.std.specs.Option.{ok_or}
use Rattle.wb_dist.specs.Maps.{LayoutMap}
use Rattle.wb_cells.specs.Shapes.{Range}
use Rattle.wb_cells.specs.declared.refusal.WhyRefused.TheVariants as edits
use Rattle.wb_edit.specs.Trees.{plain}
use Rattle.wb_edit.specs.declared.refusal.Refusal.{Refusal}
use Rattle.wb_edit.specs.declared.refusal.Refusal.TheVariants.{BadLiteral, Refused}
use Rattle.wb_literals.specs.Limits.Literals as limits
use Rattle.wb_literals.specs.Limits.Mappings as mapping_limits
use Rattle.wb_literals.specs.declared.limits.limit.LimitErr.{LimitErr}
use Rattle.wb_literals.specs.declared.limits.limit.LimitErr.TheVariants.{TooLarge, BadMapping}
use Rattle.wb_literals.specs.Domain.{Domain, domain_of}
use Rattle.wb_literals.specs.Mapping.{mapping_of}
use Rattle.wb_literals.specs.declared.mapping.MappingLiteral.{MappingLiteral}
use Rattle.wb_literals.specs.declared.mapping.MappingLiteral.TheVariants.{Whole}
use Rattle.wb_literals.specs.declared.rectangle.RectangleLiteral.{RectangleLiteral}
use Rattle.wb_text.specs.Texts.Books.{is_book_text}

-- ---- what is spelled

-- the rectangle or the set that a literal spells
abbrev pub literal_domain : List ℕ → Result Domain Refusal
literal_domain text = ok_or (domain_of text) BadLiteral

-- the mapping that a literal spells
abbrev pub literal_mapping : List ℕ → Result MappingLiteral Refusal
literal_mapping text = ok_or (mapping_of text) BadLiteral

-- the same, where there is a literal; all lies on one locale where there is none
abbrev pub optional_mapping : Option (List ℕ) → Result MappingLiteral Refusal
optional_mapping None = Ok Whole
optional_mapping (Some text) = literal_mapping text

-- the text, where it is a workbook's, whatever is wrong in it
abbrev pub text_of_book : List ℕ → Result (List ℕ) Refusal
text_of_book text = if is_book_text text then Ok text else Err BadLiteral

-- ---- what it stands for

-- a limit is one of edits
abbrev pub refusal_of_limit : LimitErr → Refusal
refusal_of_limit TooLarge = Refused (plain edits.TooLarge)
refusal_of_limit BadMapping = Refused (plain edits.BadMapping)

abbrev pub within : {X : Type 0} → Result X LimitErr → Result X Refusal
within (Ok x) = Ok x
within (Err why) = Err (refusal_of_limit why)

-- the domain that a literal stands for, within all limits
abbrev pub domain_within : RectangleLiteral → Result (List Range) Refusal
domain_within r = within (limits.domain_within r)

-- the mapping that a literal stands for, within all limits
abbrev pub mapping_within : MappingLiteral → Result LayoutMap Refusal
mapping_within m = within (mapping_limits.mapping_within m)
