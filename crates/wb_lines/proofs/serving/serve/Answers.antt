use Rattle.std.proofs.Common.{◌≡◌, ◌⊎◌, [], ◌++◌, true, refl, sym, ◌∙◌, arith, rules}
use Rattle.std.proofs.KnownBytes.{Consumes-trans, Appends-trans, Appends-kept}
use Rattle.wb_lines.specs.Lines.{BeginsWithLine}
use Rattle.wb_lines.specs.Reading.{unread}
use Rattle.wb_lines.specs.declared.buffer.Line.TheVariants.{End}
use Rattle.wb_lines.specs.declared.machine.Stop.TheVariants.{WriteFault, NoMemory, Other}
use Rattle.wb_lines.proofs.Counting.{counts_more, counts_none, counts_all}
use Rattle.wb_lines.proofs.Outcomes.{text_of}
use Rattle.wb_lines.proofs.Running.{session_begins, running_end, running_fault, running_unsent, running_short, running_turn, running_halts, turn_less, turn_fits, halt_fits}
use Rattle.wb_lines.proofs.Waiting.{flushed_at}
use Rattle.wb_lines.proofs.Taking.{on_ok_at}
use Rattle.wb_lines.proofs.serving.serve.Goals as goal

pub turns-init : goal.turns-init
turns-init g c =
    let begins = session_begins _ _ _ g.met.T.Turns.turns c.args.state.now c.new-buffer.result (g.R.Hears.remaining c.args.reader.now)
    (g.W.Sends.contents c.args.writer.now) (g.R.Hears.reads c.args.reader.now) c.requires.rests c.new-buffer.ensures in
    (begins.0, begins.1, begins.2, c.requires.free, c.requires.unspent, c.requires.rests)

pub returns-in-Ok-End-clause-serves : goal.returns-in-Ok-End-clause-serves
returns-in-Ok-End-clause-serves g c =
    let so_far = c.turns.invariant.0 in
    let written = Appends-kept _ _ _ so_far.1 so_far.3 c.flush_before_wait.ensures.bytes in
    let taken = rw c.in-Ok-End.field-0-is at c.in-Ok-End.ensures.ok in (
      so_far.0 ++ taken.0,
      Consumes-trans _ _ _ so_far.0 taken.0 so_far.2 taken.1,
      (
        so_far.1,
        written,
        running_end _ _ _ g.met.T.Turns.turns _ _ so_far.0 taken.0 so_far.1 [] _ c.turns.buffer c.next_line.new.buffer
            (g.R.Hears.remaining c.next_line.new.reader) so_far.4 taken.2.0 taken.2.2,
      ),
    )

pub returns-then-is_err-clause-serves : goal.returns-then-is_err-clause-serves
returns-then-is_err-clause-serves g c =
    let so_far = c.turns.invariant.0 in
    let written = Appends-kept _ _ _ so_far.1 so_far.3 c.flush_before_wait.ensures.bytes in (
      so_far.0,
      so_far.2,
      (
        so_far.1,
        written,
        running_unsent _ _ _ g.met.T.Turns.turns _ _ so_far.0 [] so_far.1 [] _ c.turns.buffer c.turns.buffer (g.R.Hears.remaining c.turns.reader)
            so_far.4 c.turns.invariant.1,
      ),
    )

pub returns-in-Err-ReadFault-clause-serves : goal.returns-in-Err-ReadFault-clause-serves
returns-in-Err-ReadFault-clause-serves g c =
    let so_far = c.turns.invariant.0 in
    let written = Appends-kept _ _ _ so_far.1 so_far.3 c.flush_before_wait.ensures.bytes in
    let broken = (rw c.in-Err-ReadFault.field-0-is at (c.in-Err-ReadFault.ensures.err so_far.4.fault)).1 in (
      so_far.0 ++ broken.0,
      Consumes-trans _ _ _ so_far.0 broken.0 so_far.2 broken.1,
      (
        so_far.1,
        written,
        running_fault _ _ _ g.met.T.Turns.turns _ _ so_far.0 broken.0 so_far.1 broken.2.1.0 _ c.turns.buffer c.next_line.new.buffer
            (g.R.Hears.remaining c.next_line.new.reader) so_far.4 broken.2.0.0 broken.2.1.1 broken.2.1.2 broken.2.0.1,
      ),
    )

pub returns-in-Err-TooManyReads-clause-serves : goal.returns-in-Err-TooManyReads-clause-serves
returns-in-Err-TooManyReads-clause-serves g c =
    let so_far = c.turns.invariant.0 in
    let written = Appends-kept _ _ _ so_far.1 so_far.3 c.flush_before_wait.ensures.bytes in
    let broken = (rw c.in-Err-TooManyReads.field-0-is at (c.in-Err-TooManyReads.ensures.err so_far.4.fault)).1 in (
      so_far.0 ++ broken.0,
      Consumes-trans _ _ _ so_far.0 broken.0 so_far.2 broken.1,
      (
        so_far.1,
        written,
        running_fault _ _ _ g.met.T.Turns.turns _ _ so_far.0 broken.0 so_far.1 broken.2.1.0 _ c.turns.buffer c.next_line.new.buffer
            (g.R.Hears.remaining c.next_line.new.reader) so_far.4 broken.2.0.0 broken.2.1.1 broken.2.1.2 broken.2.0.1,
      ),
    )

pub returns-in-Err-NoMemory-clause-serves : goal.returns-in-Err-NoMemory-clause-serves
returns-in-Err-NoMemory-clause-serves g c =
    let so_far = c.turns.invariant.0 in
    let written = Appends-kept _ _ _ so_far.1 so_far.3 c.flush_before_wait.ensures.bytes in
    let broken = (rw c.in-Err-NoMemory.field-0-is at (c.in-Err-NoMemory.ensures.err so_far.4.fault)).1 in (
      so_far.0 ++ broken.0,
      Consumes-trans _ _ _ so_far.0 broken.0 so_far.2 broken.1,
      (
        so_far.1,
        Appends-kept _ _ _ so_far.1 written c.flush_at_fault-in-Err-NoMemory.ensures,
        running_short _ _ _ g.met.T.Turns.turns _ _ so_far.0 broken.0 so_far.1 broken.2.1.0 _ c.turns.buffer c.next_line.new.buffer
            (g.R.Hears.remaining c.next_line.new.reader) so_far.4 broken.2.1.2 (c.next_line.ensures.end c.turns.invariant.1),
      ),
    )

pub serve_turn-requires : goal.serve_turn-requires
serve_turn-requires g c =
    let taken = c.in-Ok.ensures.ok in
    let is_line : c.in-Ok.line ≡ End → ⊥ = search rules in
    let text = text_of c.in-Ok.line c.turns.buffer c.next_line.new.buffer taken.0 taken.2 is_line in
    record {
      ready = c.requires.ready;
      rests = c.turns.invariant.5;
      text = (text.0, text.2);
      free = c.turns.invariant.3;
      unspent = c.turns.invariant.4;
    }

pub turns-preserved : goal.turns-preserved
turns-preserved g c =
    let so_far = c.turns.invariant.0 in
    let taken = c.in-Ok.ensures.ok in
    let is_line : c.in-Ok.line ≡ End → ⊥ = search rules in
    let text = text_of c.in-Ok.line c.turns.buffer c.next_line.new.buffer taken.0 taken.2 is_line in
    let written = Appends-kept _ _ _ so_far.1 so_far.3 c.flush_before_wait.ensures.bytes in
    let turn = c.in-Ok-serve_turn.ensures.ok text.0 text.2 in
    let same = turn.1.same in (
      (
        so_far.0 ++ taken.0,
        so_far.1 ++ turn.2.0,
        Consumes-trans _ _ _ so_far.0 taken.0 so_far.2 taken.1,
        Appends-trans _ _ _ so_far.1 _ written turn.2.1,
        running_turn _ _ _ g.met.T.Turns.turns _ _ so_far.0 taken.0 so_far.1 text.0 turn.0 _ c.turns.buffer c.next_line.new.buffer c.serve_turn.new.buffer
            so_far.4 text.1 turn.1 _ turn.2.0 _ c.in-Ok.ensures.fresh.1 turn.2.2,
      ),
      λ e. c.next_line.ensures.end c.turns.invariant.1 (sym same.at_end ∙ e),
      counts_more unread _ _ _ _ _ (counts_more unread _ _ _ _ _ c.turns.invariant.2 c.next_line.ensures.counted) (counts_none _ _ _ same.reads),
      c.serve_turn.ensures.free,
      c.serve_turn.ensures.unspent,
      c.in-Ok-serve_turn.ensures.rests,
    )

pub turns-smaller : goal.turns-smaller
turns-smaller g c =
    let so_far = c.turns.invariant.0 in
    let taken = c.in-Ok.ensures.ok in
    let is_line : c.in-Ok.line ≡ End → ⊥ = search rules in
    let text = text_of c.in-Ok.line c.turns.buffer c.next_line.new.buffer taken.0 taken.2 is_line in
    let turn = c.in-Ok-serve_turn.ensures.ok text.0 text.2 in
    turn_less _ _ _ g.met.T.Turns.turns _ _ so_far.0 taken.0 so_far.1 text.0 turn.0 _ c.turns.buffer c.next_line.new.buffer c.serve_turn.new.buffer
    so_far.4 text.1 turn.1 c.serve_turn.new.state turn.2.0 c.in-Ok-serve_turn.count

pub overflow_add-answered : goal.overflow_add-answered
overflow_add-answered g c =
    let so_far = c.turns.invariant.0 in
    let taken = c.in-Ok.ensures.ok in
    let is_line : c.in-Ok.line ≡ End → ⊥ = search rules in
    let text = text_of c.in-Ok.line c.turns.buffer c.next_line.new.buffer taken.0 taken.2 is_line in
    let turn = c.in-Ok-serve_turn.ensures.ok text.0 text.2 in
    omega (
      arith,
      turn_fits _ _ _ g.met.T.Turns.turns _ _ so_far.0 taken.0 so_far.1 text.0 turn.0 _ c.turns.buffer c.next_line.new.buffer c.serve_turn.new.buffer
          so_far.4 text.1 turn.1 _ turn.2.0 _ turn.2.2,
    )

pub overflow_add-result : goal.overflow_add-result
overflow_add-result g c =
    let so_far = c.turns.invariant.0 in
    let taken = c.in-Ok.ensures.ok in
    let is_line : c.in-Ok.line ≡ End → ⊥ = search rules in
    let text = text_of c.in-Ok.line c.turns.buffer c.next_line.new.buffer taken.0 taken.2 is_line in
    let turn = c.in-Err-default-WriteFault.ensures.err text.0 text.2 in
    omega (
      arith,
      halt_fits _ _ _ g.met.T.Turns.turns _ _ so_far.0 taken.0 so_far.1 text.0 turn.0 _ c.turns.buffer c.next_line.new.buffer c.serve_turn.new.buffer
          so_far.4 text.1 turn.1 _ turn.2.0 _ WriteFault (rw c.in-Err-default-WriteFault.field-0-1-is at turn.2.2),
    )

pub overflow_add-result-in-Err-default-NoMemory : goal.overflow_add-result-in-Err-default-NoMemory
overflow_add-result-in-Err-default-NoMemory g c =
    let so_far = c.turns.invariant.0 in
    let taken = c.in-Ok.ensures.ok in
    let is_line : c.in-Ok.line ≡ End → ⊥ = search rules in
    let text = text_of c.in-Ok.line c.turns.buffer c.next_line.new.buffer taken.0 taken.2 is_line in
    let turn = c.in-Err-default-NoMemory.ensures.err text.0 text.2 in
    omega (
      arith,
      halt_fits _ _ _ g.met.T.Turns.turns _ _ so_far.0 taken.0 so_far.1 text.0 turn.0 _ c.turns.buffer c.next_line.new.buffer c.serve_turn.new.buffer
          so_far.4 text.1 turn.1 _ turn.2.0 _ NoMemory (rw c.in-Err-default-NoMemory.field-0-1-is at turn.2.2),
    )

pub overflow_add-result-in-Err-default-Other : goal.overflow_add-result-in-Err-default-Other
overflow_add-result-in-Err-default-Other g c =
    let so_far = c.turns.invariant.0 in
    let taken = c.in-Ok.ensures.ok in
    let is_line : c.in-Ok.line ≡ End → ⊥ = search rules in
    let text = text_of c.in-Ok.line c.turns.buffer c.next_line.new.buffer taken.0 taken.2 is_line in
    let turn = c.in-Err-default-Other.ensures.err text.0 text.2 in
    omega (
      arith,
      halt_fits _ _ _ g.met.T.Turns.turns _ _ so_far.0 taken.0 so_far.1 text.0 turn.0 _ c.turns.buffer c.next_line.new.buffer c.serve_turn.new.buffer
          so_far.4 text.1 turn.1 _ turn.2.0 _ (Other c.in-Err-default-Other.cause) (rw c.in-Err-default-Other.field-0-1-is at turn.2.2),
    )

pub returns-in-Err-default-WriteFault : goal.returns-in-Err-default-WriteFault
returns-in-Err-default-WriteFault g c =
    let so_far = c.turns.invariant.0 in
    let taken = c.in-Ok.ensures.ok in
    let is_line : c.in-Ok.line ≡ End → ⊥ = search rules in
    let text = text_of c.in-Ok.line c.turns.buffer c.next_line.new.buffer taken.0 taken.2 is_line in
    let written = Appends-kept _ _ _ so_far.1 so_far.3 c.flush_before_wait.ensures.bytes in
    let turn = c.in-Err-default-WriteFault.ensures.err text.0 text.2 in
    record {
      free = c.serve_turn.ensures.free;
      unspent = c.serve_turn.ensures.unspent;
      serves = (
        so_far.0 ++ taken.0,
        Consumes-trans _ _ _ so_far.0 taken.0 so_far.2 taken.1,
        (
          so_far.1 ++ turn.2.0,
          Appends-trans _ _ _ so_far.1 _ written turn.2.1,
          running_halts _ _ _ g.met.T.Turns.turns _ _ so_far.0 taken.0 so_far.1 text.0 turn.0 _ c.turns.buffer c.next_line.new.buffer c.serve_turn.new.buffer
              so_far.4 text.1 turn.1 _ turn.2.0 _ WriteFault _ (c.next_line.ensures.end c.turns.invariant.1) (rw c.in-Err-default-WriteFault.field-0-1-is at turn.2.2),
        ),
      );
      read = tt;
      written = search rules;
    }

pub returns-in-Err-default-NoMemory : goal.returns-in-Err-default-NoMemory
returns-in-Err-default-NoMemory g c =
    let so_far = c.turns.invariant.0 in
    let taken = c.in-Ok.ensures.ok in
    let is_line : c.in-Ok.line ≡ End → ⊥ = search rules in
    let text = text_of c.in-Ok.line c.turns.buffer c.next_line.new.buffer taken.0 taken.2 is_line in
    let written = Appends-kept _ _ _ so_far.1 so_far.3 c.flush_before_wait.ensures.bytes in
    let turn = c.in-Err-default-NoMemory.ensures.err text.0 text.2 in
    record {
      free = c.serve_turn.ensures.free;
      unspent = c.serve_turn.ensures.unspent;
      serves = (
        so_far.0 ++ taken.0,
        Consumes-trans _ _ _ so_far.0 taken.0 so_far.2 taken.1,
        (
          so_far.1 ++ turn.2.0,
          Appends-kept _ _ _ (so_far.1 ++ turn.2.0) (Appends-trans _ _ _ so_far.1 _ written turn.2.1) c.flush_at_fault.ensures,
          running_halts _ _ _ g.met.T.Turns.turns _ _ so_far.0 taken.0 so_far.1 text.0 turn.0 _ c.turns.buffer c.next_line.new.buffer c.serve_turn.new.buffer
              so_far.4 text.1 turn.1 _ turn.2.0 _ NoMemory _ (c.next_line.ensures.end c.turns.invariant.1) (rw c.in-Err-default-NoMemory.field-0-1-is at turn.2.2),
        ),
      );
      read = tt;
      written = tt;
    }

pub returns-in-Err-default-Other : goal.returns-in-Err-default-Other
returns-in-Err-default-Other g c =
    let so_far = c.turns.invariant.0 in
    let taken = c.in-Ok.ensures.ok in
    let is_line : c.in-Ok.line ≡ End → ⊥ = search rules in
    let text = text_of c.in-Ok.line c.turns.buffer c.next_line.new.buffer taken.0 taken.2 is_line in
    let written = Appends-kept _ _ _ so_far.1 so_far.3 c.flush_before_wait.ensures.bytes in
    let turn = c.in-Err-default-Other.ensures.err text.0 text.2 in
    record {
      free = c.serve_turn.ensures.free;
      unspent = c.serve_turn.ensures.unspent;
      serves = (
        so_far.0 ++ taken.0,
        Consumes-trans _ _ _ so_far.0 taken.0 so_far.2 taken.1,
        (
          so_far.1 ++ turn.2.0,
          Appends-kept _ _ _ (so_far.1 ++ turn.2.0) (Appends-trans _ _ _ so_far.1 _ written turn.2.1) c.flush_at_fault-in-Err-default-Other.ensures,
          running_halts _ _ _ g.met.T.Turns.turns _ _ so_far.0 taken.0 so_far.1 text.0 turn.0 _ c.turns.buffer c.next_line.new.buffer c.serve_turn.new.buffer
              so_far.4 text.1 turn.1 _ turn.2.0 _ (Other c.in-Err-default-Other.cause) _ (c.next_line.ensures.end c.turns.invariant.1) (rw c.in-Err-default-Other.field-0-1-is at turn.2.2),
        ),
      );
      read = tt;
      written = tt;
    }

pub returns-in-Ok-End-clause-written : goal.returns-in-Ok-End-clause-written
returns-in-Ok-End-clause-written g c =
    let may_wait : (g.W.Sends.flushed c.flush_before_wait.new.writer ≡ true) ⊎ BeginsWithLine c.turns.buffer.ahead =
    on_ok_at c.flush_before_wait.result _ c.is_err.result c.is_err.ensures.value c.if-is_err.false c.flush_before_wait.ensures.flushed in
    let taken = rw c.in-Ok-End.field-0-is at c.in-Ok-End.ensures.ok in
    flushed_at (g.W.Sends.flushed c.flush_before_wait.new.writer) c.turns.buffer c.next_line.new.buffer taken.0 [] may_wait taken.2.0 tt taken.2.2

pub returns-in-Err-ReadFault-clause-written : goal.returns-in-Err-ReadFault-clause-written
returns-in-Err-ReadFault-clause-written g c =
    let may_wait : (g.W.Sends.flushed c.flush_before_wait.new.writer ≡ true) ⊎ BeginsWithLine c.turns.buffer.ahead =
    on_ok_at c.flush_before_wait.result _ c.is_err.result c.is_err.ensures.value c.if-is_err.false c.flush_before_wait.ensures.flushed in
    let broken = (rw c.in-Err-ReadFault.field-0-is at (c.in-Err-ReadFault.ensures.err c.turns.invariant.0.4.fault)).1 in
    flushed_at (g.W.Sends.flushed c.flush_before_wait.new.writer) c.turns.buffer c.next_line.new.buffer broken.0 broken.2.1.0 may_wait broken.2.1.2
    broken.2.1.1 broken.2.0.1

pub returns-in-Err-TooManyReads-clause-written : goal.returns-in-Err-TooManyReads-clause-written
returns-in-Err-TooManyReads-clause-written g c =
    let may_wait : (g.W.Sends.flushed c.flush_before_wait.new.writer ≡ true) ⊎ BeginsWithLine c.turns.buffer.ahead =
    on_ok_at c.flush_before_wait.result _ c.is_err.result c.is_err.ensures.value c.if-is_err.false c.flush_before_wait.ensures.flushed in
    let broken = (rw c.in-Err-TooManyReads.field-0-is at (c.in-Err-TooManyReads.ensures.err c.turns.invariant.0.4.fault)).1 in
    flushed_at (g.W.Sends.flushed c.flush_before_wait.new.writer) c.turns.buffer c.next_line.new.buffer broken.0 broken.2.1.0 may_wait broken.2.1.2
    broken.2.1.1 broken.2.0.1

pub returns-in-Err-TooManyReads-clause-read : goal.returns-in-Err-TooManyReads-clause-read
returns-in-Err-TooManyReads-clause-read g c =
    let broken = (rw c.in-Err-TooManyReads.field-0-is at (c.in-Err-TooManyReads.ensures.err c.turns.invariant.0.4.fault)).1 in
    counts_all unread c.next_line.new.buffer _ _ refl broken.2.0.2 (counts_more unread _ _ _ _ _ c.turns.invariant.2 c.next_line.ensures.counted)
