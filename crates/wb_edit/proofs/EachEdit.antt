-- Every edit keeps a workbook well formed, and writes each cell once.
use Rattle.wb_edit.specs.declared.edit.Edit.TheVariants.{Command as OneCommand, Transaction, Load}
use Rattle.wb_edit.specs.Edits.{placed}
use Rattle.wb_edit.specs.Laws.{KeepsWellFormed, EachCellOnce}
use Rattle.wb_edit.proofs.Kept.{command_keeps}
use Rattle.wb_edit.proofs.Kept.Load.{load_kept}
use Rattle.wb_edit.proofs.OfAll.{all_formed, all_once}
use Rattle.wb_edit.proofs.Once.{command_once, load_once}

pub keeps_well_formed : KeepsWellFormed
keeps_well_formed (OneCommand c) s valid h = command_keeps c s valid h
keeps_well_formed (Transaction t) s valid h = all_formed placed t.0 s valid h
keeps_well_formed (Load text) s valid h = load_kept s text valid h

pub each_cell_once : EachCellOnce
each_cell_once (OneCommand c) s valid listed h = command_once c s valid listed h
each_cell_once (Transaction t) s valid listed h = all_once placed t.0 s valid listed h
each_cell_once (Load text) s valid listed h = load_once s text
