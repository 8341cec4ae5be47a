use Rattle.std.proofs.Common.{◌++◌, Some, subst}
use Rattle.std.proofs.lemmas.Result.{on_ok_weaker}
use Rattle.wb_cells.specs.Reads.{all_read}
use Rattle.wb_footprints.specs.Footprints.{IsIndexOf, footprint, with_footprint}
use Rattle.wb_log.specs.Records.{lent_footprint}
use Rattle.wb_log.proofs.Alike.{index_alike}
use Rattle.wb_log.proofs.index.by_footprint.add_listed.Goals as goal

pub returns-clause-ok : goal.returns-clause-ok
returns-clause-ok c =
    let k = lent_footprint c.args.kept.now in
    let named = c.reads.result.0.now ++ all_read c.reads.result.1.now in
    let now = c.add.new.self in
    let n = c.args.number in
    on_ok_weaker c.add.result
    (λ h footprints was none.
    let put = index_alike now footprints n k.reads named c.before-2.result.now c.reads.ensures (h footprints was none) in
    subst (λ bs. IsIndexOf now (with_footprint footprints n (Some (footprint k.reads bs)))) c.before-2.ensures.same put)
    c.add.ensures.ok
