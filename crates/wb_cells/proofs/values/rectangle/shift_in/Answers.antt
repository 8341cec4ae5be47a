use Rattle.std.proofs.Common.{true, false}
use Rattle.wb_rect.proofs.ShiftTests.{Decides-has_unit_strides, Decides-can_shift}
use Rattle.wb_cells.proofs.ShiftTests.{within_by_tests, strided_by_test, too_large_by_tests}
use Rattle.wb_cells.proofs.values.rectangle.shift_in.Goals as goal

pub returns-then-outward-clause-within : goal.returns-then-outward-clause-within
returns-then-outward-clause-within g c =
    let l = rw c.copy_from_slice.ensures.after at c.expand.ensures.too_large in
    rw c.if-outward.true (within_by_tests c.expand.result _ _ (Decides-has_unit_strides c.args.rect.now)
    (Decides-can_shift true c.args.offsets.now c.args.rect.now) c.expand.ensures.strided l)

pub returns-then-outward-clause-strided : goal.returns-then-outward-clause-strided
returns-then-outward-clause-strided g c =
    let l = rw c.copy_from_slice.ensures.after at c.expand.ensures.too_large in
    strided_by_test c.expand.result _ _ (Decides-has_unit_strides c.args.rect.now) (Decides-can_shift true c.args.offsets.now c.args.rect.now)
    c.expand.ensures.strided l

pub returns-then-outward-clause-too_large : goal.returns-then-outward-clause-too_large
returns-then-outward-clause-too_large g c =
    let l = rw c.copy_from_slice.ensures.after at c.expand.ensures.too_large in
    rw c.if-outward.true (too_large_by_tests c.expand.result _ _ (Decides-has_unit_strides c.args.rect.now)
    (Decides-can_shift true c.args.offsets.now c.args.rect.now) c.expand.ensures.strided l)

pub returns-else-outward-clause-within : goal.returns-else-outward-clause-within
returns-else-outward-clause-within g c =
    let l = rw c.copy_from_slice.ensures.after at c.translate.ensures.too_large in
    rw c.if-outward.false (within_by_tests c.translate.result _ _ (Decides-has_unit_strides c.args.rect.now)
    (Decides-can_shift false c.args.offsets.now c.args.rect.now) c.translate.ensures.strided l)

pub returns-else-outward-clause-strided : goal.returns-else-outward-clause-strided
returns-else-outward-clause-strided g c =
    let l = rw c.copy_from_slice.ensures.after at c.translate.ensures.too_large in
    strided_by_test c.translate.result _ _ (Decides-has_unit_strides c.args.rect.now) (Decides-can_shift false c.args.offsets.now c.args.rect.now)
    c.translate.ensures.strided l

pub returns-else-outward-clause-too_large : goal.returns-else-outward-clause-too_large
returns-else-outward-clause-too_large g c =
    let l = rw c.copy_from_slice.ensures.after at c.translate.ensures.too_large in
    rw c.if-outward.false (too_large_by_tests c.translate.result _ _ (Decides-has_unit_strides c.args.rect.now)
    (Decides-can_shift false c.args.offsets.now c.args.rect.now) c.translate.ensures.strided l)
