-- What a desk with a journal wrote.
use Rattle.std.proofs.Common.{inl, inr, ℕ, Bool, List}
use Rattle.std.specs.Io.KnownBytes.{Appends}
use Rattle.wb_keep.specs.declared.disk.device.Device as Device
use Rattle.wb_lines.specs.declared.sink.Sink as Sink
use Rattle.wb_lines.specs.declared.source.Source as Source
use Rattle.wb_sessions.specs.Keeping.{Streams}
use Rattle.wb_program.specs.KeptDays.{RunsDesk, UsesDesk}
use Rattle.wb_connections.specs.declared.accepting.Accepts as Accepts
use Rattle.wb_sessions.specs.declared.files.OpensFiles as OpensFiles
use Rattle.wb_sessions.specs.declared.keeping.KeptRun.{KeptRun}
use Rattle.wb_program.proofs.Used.{did_nothing}

module _ {I O N D : Type 0} (source : Source.Ghosts I) (sink : Sink.Ghosts O) (accepts : Accepts.Ghosts N I O) (device : Device.Ghosts D) where
  wrote_day : (file : D) (held : List ℕ) (seats : ℕ) (run : KeptRun D) (port_failed : Bool) (s : Streams)
      → RunsDesk source sink accepts device file held seats run port_failed s → (text : List ℕ) × Appends s.sent s.told text
  wrote_day file held seats run port_failed s (inl h) = (h.text, h.written)
  wrote_day file held seats run port_failed s (inr (inl h)) = (h.text, h.written)
  wrote_day file held seats run port_failed s (inr (inr (inl h))) = (did_nothing s h.nothing).1
  wrote_day file held seats run port_failed s (inr (inr (inr h))) = (did_nothing s h.nothing).1

  pub wrote : {J H : Type 0} (files : OpensFiles.Ghosts J D H) (path : List ℕ) (seats status : ℕ) (port_failed : Bool) (after : J) (s : Streams)
      → UsesDesk source sink accepts device files path seats status port_failed after s → (text : List ℕ) × Appends s.sent s.told text
  wrote files path seats status port_failed after s (inl h) = wrote_day h.file h.held seats h.run port_failed s h.runs
  wrote files path seats status port_failed after s (inr h) = (did_nothing s h.nothing).1
