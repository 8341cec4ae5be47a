use Rattle.std.proofs.Common.{ℤ, Ok, rules, w64, sym, ap, ◌∙◌}
use Rattle.std.proofs.lemmas.Int.{to_z-of_z}
use Rattle.std.specs.Option.{option_map}
use Rattle.wb_cells.specs.declared.cells.value.Value.TheVariants.{Number}
use Rattle.wb_history.proofs.Found.{element_found}
use Rattle.wb_history.proofs.query.element_of.Goals as goal

pub returns-in-Some : goal.returns-in-Some
returns-in-Some c =
    let n : ℤ = c.in-Some.number in
    ap Ok (to_z-of_z w64 n (search rules))
    ∙ sym (element_found c.args.book.now.cells c.requires c.args.array.now c.args.index.now n (c.element.ensures ∙ ap (option_map Number) c.in-Some.is))
