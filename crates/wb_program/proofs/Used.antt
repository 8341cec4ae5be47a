-- What a session with a journal read and wrote, and how a command uses files.
use Rattle.std.proofs.Common.{◌≡◌, ◌∙◌, inl, inr, ℕ, Bool, true, false, List, [], ◌++◌, Option, None, Some, refl, sym, ap, subst}
use Rattle.std.proofs.KnownBytes.{Appends-nil}
use Rattle.std.specs.Io.KnownBytes.{Appends, Consumes}
use Rattle.wb_command.specs.declared.Asked.{Asked}
use Rattle.wb_command.specs.declared.Asked.TheVariants.{Compact, RunKept}
use Rattle.wb_keep.specs.declared.disk.device.Device as Device
use Rattle.wb_program.specs.Files.{UsesFiles}
use Rattle.wb_sessions.specs.Keeping.{DoesNothing, ReadsNothing, RunsKept, Streams, UsesFile, its_writer}
use Rattle.wb_history.specs.Past.{Past}
use Rattle.wb_sessions.specs.Beginning.{BeginsAt, RunsBegun}
use Rattle.wb_sessions.specs.Compacting.{Compacts, CompactsAt}
use Rattle.wb_sessions.specs.declared.files.OpensFiles as OpensFiles
use Rattle.wb_sessions.specs.declared.keeping.KeptRun.{KeptRun}
use Rattle.wb_sessions.proofs.Begun.{reads_behind}

pub nothing_consumed : (o : Option (List ℕ)) → Consumes o o []
nothing_consumed None = tt
nothing_consumed (Some xs) = refl

-- what was read and what was written
abbrev pub ReadsAndWrites : Streams → Type 0
ReadsAndWrites s = ((read : List ℕ) × Consumes s.unread s.left read) × ((text : List ℕ) × Appends s.sent s.told text)

read_nothing : (s : Streams) → ReadsNothing s → (read : List ℕ) × Consumes s.unread s.left read
read_nothing s h = ([], subst (λ o. Consumes s.unread o []) (sym h.0) (nothing_consumed s.unread))

pub did_nothing : (s : Streams) → DoesNothing s → ReadsAndWrites s
did_nothing s h = (read_nothing s h.0, ([], subst (λ o. Appends s.sent o []) (sym h.1) (Appends-nil s.sent)))

module _ {D : Type 0} (device : Device.Ghosts D) where
  pub ran : (file : D) (held : List ℕ) (run : KeptRun D) (s : Streams) → RunsKept device file held run s → ReadsAndWrites s
  ran file held run s (inl h) = ((h.serves.session.read, h.serves.session.consumed), (h.serves.session.text, h.serves.session.written))
  ran file held run s (inr (inl h)) = (read_nothing s h.nothing_read, (h.text, h.written))
  ran file held run s (inr (inr (inl h))) = did_nothing s h.nothing
  ran file held run s (inr (inr (inr h))) = did_nothing s h.nothing

  pub made_anew : (file : D) (held : List ℕ) (run : KeptRun D) (s : Streams) → Compacts device file held run s → ReadsAndWrites s
  made_anew file held run s (inl h) = did_nothing s h.nothing
  made_anew file held run s (inr (inl h)) = (read_nothing s h.nothing_read, (h.text, h.written))
  made_anew file held run s (inr (inr (inl h))) = did_nothing s h.nothing
  made_anew file held run s (inr (inr (inr h))) = did_nothing s h.nothing

  pub ran_begun : (past : Past) (file : D) (held : List ℕ) (run : KeptRun D) (s : Streams) → RunsBegun device past file held run s → ReadsAndWrites s
  ran_begun past file held run s (inl h) = ((h.serves.session.read, h.serves.session.consumed), (h.serves.session.text, h.serves.session.written))
  ran_begun past file held run s (inr (inl h)) = did_nothing s h.nothing
  ran_begun past file held run s (inr (inr (inl h))) = did_nothing s h.nothing
  ran_begun past file held run s (inr (inr (inr h))) = did_nothing s h.nothing

  module _ {J H : Type 0} (files : OpensFiles.Ghosts J D H) (Uses : (file : D) → (held : List ℕ) → KeptRun D → Streams → Type 0)
      (each : (file : D) (held : List ℕ) (run : KeptRun D) (s : Streams) → Uses file held run s → ReadsAndWrites s) where
    pub read_and_wrote : (path : List ℕ) (status : ℕ) (after : J) (s : Streams) → UsesFile device files Uses path status after s → ReadsAndWrites s
    read_and_wrote path status after s (inl h) = each h.file h.held h.run s h.uses
    read_and_wrote path status after s (inr h) = did_nothing s h.nothing

  -- a file that was found, or none
  pub renewed : {J H : Type 0} (files : OpensFiles.Ghosts J D H) (path : List ℕ) (status : ℕ) (after : J) (s : Streams)
      → CompactsAt device files path status after s → ReadsAndWrites s
  renewed files path status after s (inl h) = read_and_wrote files (Compacts device) made_anew path status after s h.1
  renewed files path status after s (inr h) = did_nothing s h.nothing

  -- the text of a history, and what came behind it
  pub began : {J H : Type 0} (files : OpensFiles.Ghosts J D H) (path : List ℕ) (status : ℕ) (before after : J) (s : Streams)
      → BeginsAt device files path status before after s → ReadsAndWrites s
  began files path status before after s (inl h) = ((h.read, h.consumed), (h.text, h.written))
  began files path status before after s (inr h) =
      let past = h.0 in
      let later = h.1 in
      let text = h.2 in
      let both = read_and_wrote files (RunsBegun device past) (ran_begun past) path status after later h.3 in
      let left_same = ap (λ (t : Streams). t.left) text.same in
      let sent_same = ap (λ (t : Streams). t.sent) text.same in
      let told_same = ap (λ (t : Streams). t.told) text.same in (
        (
          text.front ++ both.0.0,
          reads_behind s.unread later.unread s.left text.front both.0.0 text.consumed (subst (λ o. Consumes later.unread o both.0.0) left_same both.0.1),
        ),
        (both.1.0, subst (λ o. Appends o s.told both.1.0) sent_same (subst (λ o. Appends later.sent o both.1.0) told_same both.1.1)),
      )

  -- ---- what a command line asks for

  -- what holds of a session with a journal holds of the command line that was given
  of_kept : (P : Asked → Type 0) (asked : Asked) (path : List ℕ) (workers : ℕ) (resume b : Bool) → asked ≡ RunKept path resume workers → resume ≡ b
      → P (RunKept path b workers) → P asked
  of_kept P asked path workers resume b is e h = subst P (sym (is ∙ ap (λ b. RunKept path b workers) e)) h

  module _ {J H : Type 0} (files : OpensFiles.Ghosts J D H) where
    pub keeps_run : (asked : Asked) (path word : List ℕ) (workers : ℕ) (resume : Bool) (status : ℕ) (before after : J) (s : Streams)
        → asked ≡ RunKept path resume workers → resume ≡ false → word ≡ path → UsesFile device files (RunsKept device) word status after s
        → UsesFiles device files asked status before after s
    keeps_run asked path word workers resume status before after s is e same h =
        of_kept (λ a. UsesFiles device files a status before after s) asked path workers resume false is e
        (subst (λ p. UsesFile device files (RunsKept device) p status after s) same h)

    pub keeps_begun : (asked : Asked) (path word : List ℕ) (workers : ℕ) (resume : Bool) (status : ℕ) (before after : J) (s : Streams)
        → asked ≡ RunKept path resume workers → resume ≡ true → word ≡ path → BeginsAt device files word status before after s
        → UsesFiles device files asked status before after s
    keeps_begun asked path word workers resume status before after s is e same h =
        of_kept (λ a. UsesFiles device files a status before after s) asked path workers resume true is e
        (subst (λ p. BeginsAt device files p status before after s) same h)

    pub keeps_anew : (asked : Asked) (path word : List ℕ) (status : ℕ) (before after : J) (s : Streams) → asked ≡ Compact path → word ≡ path
        → ReadsNothing s → CompactsAt device files word status after (its_writer s) → UsesFiles device files asked status before after s
    keeps_anew asked path word status before after s is same nothing h =
        subst (λ a. UsesFiles device files a status before after s) (sym is)
        (nothing, subst (λ p. CompactsAt device files p status after (its_writer s)) same h)
