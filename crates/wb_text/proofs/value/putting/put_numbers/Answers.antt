use Rattle.std.proofs.Common.{◌≡◌, ◌<◌, ℤ, pos, length, get_or, SFits, w64, rules, arith, refl, sym, ap, ◌∙◌}
use Rattle.std.proofs.lemmas.Int.{to_z-of_z}
use Rattle.std.proofs.lemmas.List.{at_drop_all}
use Rattle.std.proofs.lemmas.Slice.Zip.{length-zip}
use Rattle.std.specs.FinMap.{insert}
use Rattle.std.specs.List.{zip}
use Rattle.wb_cells.specs.declared.cells.cell.Cell.TheVariants.{Element}
use Rattle.wb_cells.specs.declared.cells.value.Value.TheVariants.{Number}
use Rattle.wb_cells.specs.declared.values.index.Index.{Index}
use Rattle.wb_cells.specs.Cells.{state_of}
use Rattle.wb_text.specs.FromLines.Inserted.{inserted}
use Rattle.wb_text.specs.FromLines.Told.{element_cells}
use Rattle.wb_text.proofs.Texts.Steps.{put_more}
use Rattle.wb_text.proofs.Texts.Steps.{pair_at}
use Rattle.wb_text.proofs.value.putting.put_numbers.Goals as goal

pub loop-p-preserved : goal.loop-p-preserved
loop-p-preserved c =
    let a = c.args.array in
    let is = c.args.indices.now in
    let xs = c.args.elements.now in
    let p = c.loop-p.p in
    let i = c.index-indices-p.result in
    let x = get_or xs p (pos 0) in
    let s = state_of c.loop-p.cells in
    let t = state_of c.put.new.cells in
    let low : p < length is = omega arith in
    let fits : SFits w64 x = search rules in
    let within : p < length (zip is xs) = omega (arith, length-zip is xs) in
    let made : t ≡ insert s (Element a i) (Number x) = c.in_ok-put.ensures ∙ ap (λ z. insert s (Element a i) (Number z)) (to_z-of_z w64 x fits) in
    put_more (λ (q : Index × ℤ). (Element a q.0, Number q.1)) (zip is xs) p (i, x) s t (inserted (element_cells a (zip is xs)) (state_of c.args.cells.now))
    within
    (pair_at is xs p i (pos 0) x low c.requires c.index-indices-p.is refl) made c.loop-p.invariant

pub returns : goal.returns
returns c =
    let ps = zip c.args.indices.now c.args.elements.now in
    sym (at_drop_all (λ qs. inserted (element_cells c.args.array qs) (state_of c.loop-p.cells)) ps c.loop-p.p
    (omega (arith, length-zip c.args.indices.now c.args.elements.now))) ∙ c.loop-p.invariant
