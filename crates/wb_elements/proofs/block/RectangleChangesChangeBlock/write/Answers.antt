use Rattle.std.proofs.Common.{rules, ◌≡◌, ℤ, map, Option, w64, to_z, of_z, sym, ap, ◌∙◌}
use Rattle.std.proofs.lemmas.Int.{to_z-of_z}
use Rattle.wb_cells.specs.declared.values.index.Index.TheVariants.{Point}
use Rattle.wb_cells.specs.Runs.{rectangle_entries}
use Rattle.wb_elements.specs.Entries.{with_all}
use Rattle.wb_elements.proofs.Blocks.{filled_is}
use Rattle.wb_elements.proofs.block.RectangleChangesChangeBlock.write.Goals as goal

pub returns-in-Some-clause-done : goal.returns-in-Some-clause-done
returns-in-Some-clause-done c = λ h.
    let b = c.args.self.now in
    let es = c.args.elements.now.0 in
    let v : ℤ = c.in-Some.number in
    let done : c.fill.new.self.0 ≡ map (λ e. (e.0, to_z w64 (of_z w64 v))) es = c.fill.ensures.done h in
    done ∙ ap (λ (n : ℤ). map (λ e. (e.0, n)) es) (to_z-of_z w64 v (search rules))
    ∙ sym (filled_is es b.ranges v c.len-ascending.ensures.ascending c.requires.ranged)
    ∙ ap (λ (n : Option ℤ). with_all Point es (rectangle_entries b.ranges n)) c.in-Some.ensures
