use Rattle.std.proofs.Common.{◌≡◌, ℤ, true, [], ◌∷◌, ◌++◌, Some, Ok, is_some, IsSome, length, rules, w64, arith, refl, sym, ap, subst, ◌∙◌}
use Rattle.std.proofs.lemmas.Int.{to_z-of_z}
use Rattle.std.proofs.lemmas.List.{length-append}
use Rattle.std.specs.FinMap.{get}
use Rattle.std.specs.Option.{option_map}
use Rattle.selective_undo.specs.Changes.{apply}
use Rattle.wb_book.specs.Kept.{element_set}
use Rattle.wb_cells.specs.declared.cells.cell.Cell.TheVariants.{Element}
use Rattle.wb_cells.specs.declared.cells.value.Value.TheVariants as value
use Rattle.wb_cells.specs.Cells.{Cells}
use Rattle.wb_cells.specs.WellFormed.{IsWellFormed}
use Rattle.wb_edit.specs.declared.command.Command.TheVariants.{Set}
use Rattle.wb_edit.specs.declared.edit.Edit.TheVariants.{Command as OneCommand}
use Rattle.wb_edit.specs.Edits.{meaning}
use Rattle.wb_log.specs.Kept.{numbered, numbered_entries}
use Rattle.wb_log.specs.Past.{Numbered, meant}
use Rattle.wb_log.specs.Replies.{EditReply}
use Rattle.wb_log.proofs.Appended.{keeps_set}
use Rattle.wb_log.proofs.Entries.{accepted_edit, numbers_more}
use Rattle.wb_log.proofs.Straight.{set_accepted}
use Rattle.wb_log.proofs.Valid.{planned_well_formed, well_formed}
use Rattle.wb_log.proofs.log.Log.set_there.Goals as goal

pub replace-requires : goal.replace-requires
replace-requires c = λ there.
    let es = c.self.inside.entries.items in
    let s : Cells = c.self.inside.book.cells in
    let a = c.args.array.now in
    let i = c.args.place.now in
    let v : ℤ = c.args.value.now in
    let shows = c.self.invariant.shows in
    let valid = c.self.invariant.valid in
    subst (λ (w : ℤ). IsWellFormed (apply (element_set a i w) s)) (sym (to_z-of_z w64 v (search rules)))
    (planned_well_formed es s (OneCommand (Set a i v)) (element_set a i v) shows valid c.requires
    (set_accepted s (well_formed es s shows valid) a i v there))

pub invariant_of-self-in-Some : goal.invariant_of-self-in-Some
invariant_of-self-in-Some c =
    let s : Cells = c.self.inside.book.cells in
    let a = c.args.array.now in
    let i = c.args.place.now in
    let v : ℤ = c.args.value.now in
    let was : ℤ = c.in-Some.was in
    let had : get s (Element a i) ≡ Some (value.Number was) = c.replace.ensures.was ∙ ap (option_map value.Number) c.in-Some.is in
    let set = to_z-of_z w64 v (search rules) in
    let stored = to_z-of_z w64 was (search rules) in
    rw (c.in-Some.ensures.cells, set, c.in-Ok-push.ensures.items, c.reserve.ensures.items, c.set.ensures, c.in-Ok.ensures, stored)
    (keeps_set s c.self.inside.index c.self.inside.entries.items a i v was c.self.invariant c.requires had)

pub returns-in-Ok-push-clause-reply : goal.returns-in-Ok-push-clause-reply
returns-in-Ok-push-clause-reply c =
    let es = c.self.inside.entries.items in
    let s : Cells = c.self.inside.book.cells in
    let a = c.args.array.now in
    let i = c.args.place.now in
    let v : ℤ = c.args.value.now in
    let k = c.len.result in
    let shows = c.self.invariant.shows in
    let had : get s (Element a i) ≡ Some (value.Number c.in-Some.was) = c.replace.ensures.was ∙ ap (option_map value.Number) c.in-Some.is in
    let there : IsSome (get s (Element a i)) = ap is_some had in
    let more = c.set.result ∷ [] in
    let items : c.push.new.self.items ≡ es ++ more = c.in-Ok-push.ensures.items ∙ ap (λ gs. gs ++ more) c.reserve.ensures.items in
    subst (λ p. EditReply (meant p.entries) (meaning (OneCommand (Set a i v))) (Ok (k, 1))) c.self.view_is
    (accepted_edit s es (OneCommand (Set a i v)) (element_set a i v) k 1 shows (set_accepted s (well_formed es s shows c.self.invariant.valid) a i v there) refl
    (omega (arith, c.len.ensures, ap length items, length-append es more)))

pub returns-in-Ok-push-clause-entries : goal.returns-in-Ok-push-clause-entries
returns-in-Ok-push-clause-entries c =
    let es = c.self.inside.entries.items in
    let y = c.set.result in
    let x : Numbered = record { edit = OneCommand (Set c.args.array.now c.args.place.now c.args.value.now); in_force = true } in
    let items : c.push.new.self.items ≡ es ++ y ∷ [] = c.in-Ok-push.ensures.items ∙ ap (λ gs. gs ++ y ∷ []) c.reserve.ensures.items in
    ap numbered_entries items ∙ numbers_more es y
    ∙ ap (λ z. numbered_entries es ++ numbered z ∷ []) (rw c.in-Ok.ensures at c.set.ensures) ∙ ap (λ p. p.entries ++ x ∷ []) c.self.view_is
