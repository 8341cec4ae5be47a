use Rattle.std.proofs.Common.{ap, ◌∙◌, ◌∷◌}
use Rattle.wb_keep.specs.Disk.Noted.{calls_in}
use Rattle.wb_keep.proofs.Disks.Numbers.{noted_first}
use Rattle.wb_keep.proofs.disk.record.Record.note.Goals as goal

pub returns : goal.returns
returns c =
    ap calls_in c.of-tag.ensures ∙ noted_first c.args.kind c.args.at c.args.is_done c.args.bytes.now c.self.inside.tag.numbers
    ∙ ap (λ calls. (c.args.kind, c.args.at, c.args.is_done, c.args.bytes.now) ∷ calls) c.self.view_is
