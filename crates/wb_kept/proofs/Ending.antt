-- What a session was, as it ends.
use Rattle.std.proofs.Common.{◌≡◌, ◌≤◌, ℕ, List, [], ◌++◌, length, take, Option, refl, sym, ap, ◌∙◌, subst}
use Rattle.std.specs.Io.KnownBytes.{Appends, Consumes}
use Rattle.wb_keep.specs.Disk.Device.{LeavesOnly}
use Rattle.wb_keep.specs.Lines.{recovered}
use Rattle.wb_keep.specs.Keep.{IsSettled}
use Rattle.wb_lines.specs.Lines.{finished_lines}
use Rattle.wb_lines.specs.declared.machine.Stop.TheVariants as stops
use Rattle.wb_kept.specs.Runs.{Leads, Step, Run, lines_asked, changes_of}
use Rattle.wb_kept.specs.Keeping.{IsKept, StandsFor}
use Rattle.wb_kept.specs.Sessions.{Serves, count_of, IfWell, Session}
use Rattle.wb_kept.specs.Turning.{HasFrom, IsCommitted, Goes, Halts}
use Rattle.wb_kept.specs.TurnLaws.{has_all, implied}
use Rattle.wb_kept.specs.declared.kept.Kept.{Kept}
use Rattle.wb_kept.specs.declared.session.DiskFault.{DiskFault}
use Rattle.wb_kept.specs.declared.session.KeptEnd.{KeptEnd}
use Rattle.wb_kept.specs.declared.session.KeptEnd.TheVariants as ends
use Rattle.wb_kept.proofs.Steps.{leads_append, run_front, run_leads}

well : (end : KeptEnd) (P : Type 0) → P → IfWell end P
well (ends.Done count) P p = p
well (ends.ReadFault count) P p = p
well (ends.TooManyReads count) P p = p
well (ends.WriteFault count) P p = p
well (ends.NoMemory count) P p = tt
well (ends.DiskFault count) P p = tt

module _ {S : Type 0} (start : S) (grants : S → List ℕ → S → Type 0) (answers : S → List ℕ → List ℕ → List (List ℕ) → S → Type 0)
    (leads : (s : S) (line reply : List ℕ) (made : List (List ℕ)) (t : S) → answers s line reply made t → Leads grants s made t) where
  stands : (before : List (List ℕ)) (old last : S) (steps : List Step) (k : ℕ) (file : List ℕ) → Leads grants start before old → Run answers old steps last
      → HasFrom before steps k file → StandsFor start grants answers before old steps k file
  stands before old last steps k file l r h =
      let front = run_front answers old last steps h.0 r in
      record {
        n = h.0;
        at_least = h.1;
        at_most = h.2;
        lines = h.3;
        state = front.0;
        run = front.1;
        leads = subst (λ (ls : List (List ℕ)). Leads grants start ls front.0) (sym h.3)
            (leads_append grants start old front.0 before (changes_of (take h.0 steps)) l
            (run_leads answers grants leads old front.0 (take h.0 steps) front.1));
      }

  module _ {D : Type 0} (seen : D → List ℕ) (may_leave : D → List ℕ → Type 0) (moment : D → ℕ) (left_since : D → ℕ → List ℕ → Type 0) (faults : D → ℕ)
      (old new : Kept S D) (unread left sent told : Option (List ℕ)) (read text : List ℕ) (k : IsKept start grants seen may_leave old)
      (consumed : Consumes unread left read) (written : Appends sent told text) where
    finish : (end : KeptEnd) (last : S) (steps : List Step) → Run answers old.state steps last → Serves end read left steps text
        → LeavesOnly moment left_since old.log.device new.log.device (HasFrom (recovered (seen old.log.device)) steps 0)
        → ((file : List ℕ) → may_leave new.log.device file → HasFrom (recovered (seen old.log.device)) steps (count_of end) file)
        → IfWell end (IsKept start grants seen may_leave new × (new.state ≡ last)
        × (recovered (seen new.log.device) ≡ recovered (seen old.log.device) ++ changes_of steps))
        → Session start grants answers seen may_leave moment left_since end old new unread left sent told
    finish end last steps run serves moments at_least kept =
        let before = recovered (seen old.log.device) in
        record {
          read = read;
          consumed = consumed;
          text = text;
          written = written;
          steps = steps;
          last = last;
          run = run;
          serves = serves;
          any_moment = implied moment left_since old.log.device new.log.device (HasFrom before steps 0)
              (StandsFor start grants answers before old.state steps 0) (λ c h. stands before old.state last steps 0 c k.leads run h) moments;
          at_least = λ c l. stands before old.state last steps (count_of end) c k.leads run (at_least c l);
          kept = kept;
        }

    is_kept : (last : S) (steps : List Step) (count : ℕ) → Run answers old.state steps last
        → IsCommitted answers seen may_leave moment left_since faults old new steps last count
        → IsKept start grants seen may_leave new × (new.state ≡ last) × (recovered (seen new.log.device) ≡ recovered (seen old.log.device) ++ changes_of steps)
    is_kept last steps count run c =
        let leads_now : Leads grants start (recovered (seen new.log.device)) new.state =
        subst (λ (ls : List (List ℕ)). Leads grants start ls new.state) (sym c.lines)
        (subst (λ s. Leads grants start (recovered (seen old.log.device) ++ changes_of steps) s) (sym c.state)
        (leads_append grants start old.state last (recovered (seen old.log.device)) (changes_of steps) k.leads
        (run_leads answers grants leads old.state last steps run))) in
        (record { settled = c.settled; leads = leads_now }, c.state, c.lines)

    -- each turn was whole
    pub ends_whole : (end : KeptEnd) (asked : List (List ℕ)) (count : ℕ) → (g : Goes answers seen may_leave moment left_since faults old asked text count new)
        → count_of end ≡ count → Serves end read left g.steps text
        → Session start grants answers seen may_leave moment left_since end old new unread left sent told
    ends_whole end asked count g e serves =
        let before = recovered (seen old.log.device) in
        finish end new.state g.steps g.takes.run serves g.takes.moments
        (λ c l. subst (λ (n : ℕ). HasFrom before g.steps n c) (sym (e ∙ g.kept.counted))
        (has_all before g.steps c (ap recovered (g.kept.settled.durable c l) ∙ g.kept.lines)))
        (well end _ (is_kept new.state g.steps count g.takes.run g.kept))

    -- the last was not
    pub ends_unsent : (count : ℕ) → Halts answers seen may_leave moment left_since faults stops.WriteFault old (finished_lines read left) text count new
        → Session start grants answers seen may_leave moment left_since (ends.WriteFault count) old new unread left sent told
    ends_unsent count h = finish (ends.WriteFault count) h.last h.steps h.takes.run (h.front, h.stops.1, h.stops.0.counted) h.takes.moments h.at_least
        (is_kept h.last h.steps count h.takes.run h.stops.0)

    pub ends_short : (count : ℕ) → Halts answers seen may_leave moment left_since faults stops.NoMemory old (finished_lines read left) text count new
        → Session start grants answers seen may_leave moment left_since (ends.NoMemory count) old new unread left sent told
    ends_short count h = finish (ends.NoMemory count) h.last h.steps h.takes.run (h.front, h.stops, h.few) h.takes.moments h.at_least tt

    pub ends_failed : (count : ℕ) (fault : DiskFault)
        → Halts answers seen may_leave moment left_since faults (stops.Other fault) old (finished_lines read left) text count new
        → Session start grants answers seen may_leave moment left_since (ends.DiskFault count) old new unread left sent told
    ends_failed count fault h = finish (ends.DiskFault count) h.last h.steps h.takes.run (h.front, h.stops.0, h.few) h.takes.moments h.at_least tt
