use Rattle.std.proofs.Common.{rules, ◌≡◌, true, false, [], ◌∷◌, ◌++◌, length, take, ap, subst, arith, length-append}
use Rattle.wb_keep.specs.Lines.{lines_of, unstuffed, counted}
use Rattle.wb_keep.specs.Reading.{IsReadTo, next_of}
use Rattle.wb_keep.proofs.Reading.{none_behind, all_counted, batches_counted, batch_ended, none_waits, batches_stay, batch_goes_on}
use Rattle.wb_keep.proofs.lines.counted_lines.Goals as goal

pub loop-ends-preserved-then-ends : goal.loop-ends-preserved-then-ends
loop-ends-preserved-then-ends c =
    let inv = c.loop-ends.invariant in
    let lines = c.loop-ends.lines.items in
    let pushed = c.push.new.self.items in
    let value = c.in_ok-unstuffed.field-0 in
    let line = unstuffed c.in-Some.line.now in
    let bytes = c.args.bytes.now in
    let behind = c.loop-ends.behind.now in
    let rest = c.loop-ends.rest.now in
    let after = c.in-Some.after.now in
    let is : value.items ≡ line = c.in_ok-unstuffed.ensures in
    let are : pushed ≡ lines ++ value ∷ [] = search rules in
    let ends : c.in-Some.ends ≡ true = search rules in
    let next : IsReadTo rest after (next_of true line) = subst (λ b. IsReadTo rest after (next_of b line)) ends c.in-Some.ensures.0 in
    let size : c.len-whole.result ≡ length pushed = search rules in
    record {
      fits = omega (arith, size);
      batches = batch_ended bytes behind rest after c.loop-ends.whole lines inv.fits inv.batches inv.more line value is pushed are next c.len-whole.result size;
      more = none_waits bytes behind rest after c.loop-ends.whole lines inv.fits inv.batches inv.more line value is pushed are c.len-whole.result size;
    }

pub loop-ends-preserved : goal.loop-ends-preserved
loop-ends-preserved c =
    let inv = c.loop-ends.invariant in
    let lines = c.loop-ends.lines.items in
    let pushed = c.push.new.self.items in
    let value = c.in_ok-unstuffed.field-0 in
    let line = unstuffed c.in-Some.line.now in
    let bytes = c.args.bytes.now in
    let behind = c.loop-ends.behind.now in
    let rest = c.loop-ends.rest.now in
    let after = c.in-Some.after.now in
    let is : value.items ≡ line = c.in_ok-unstuffed.ensures in
    let are : pushed ≡ lines ++ value ∷ [] = search rules in
    let ends : c.in-Some.ends ≡ false = search rules in
    let next : IsReadTo rest after (next_of false line) = subst (λ b. IsReadTo rest after (next_of b line)) ends c.in-Some.ensures.0 in
    record {
      fits = omega (arith, inv.fits, ap length are, length-append lines (value ∷ []));
      batches = batches_stay bytes behind rest after c.loop-ends.whole lines inv.fits inv.batches inv.more line value is pushed are;
      more = batch_goes_on bytes behind rest after c.loop-ends.whole lines inv.fits inv.batches inv.more line value is pushed are next;
    }

pub returns-clause-lines : goal.returns-clause-lines
returns-clause-lines c =
    let inv = c.loop-ends.invariant in
    let none : counted (lines_of c.loop-ends.rest.now) ≡ [] = search rules in
    let is : c.truncate.new.self.items ≡ take c.loop-ends.whole c.loop-ends.lines.items = search rules in
    all_counted c.args.bytes.now c.loop-ends.behind.now c.loop-ends.rest.now c.loop-ends.rest.now c.loop-ends.whole c.loop-ends.lines.items inv.fits inv.batches inv.more none c.truncate.new.self.items is

pub returns-clause-front : goal.returns-clause-front
returns-clause-front c =
    let inv = c.loop-ends.invariant in
    let none : counted (lines_of c.loop-ends.rest.now) ≡ [] = search rules in
    batches_counted c.args.bytes.now c.loop-ends.behind.now c.loop-ends.rest.now c.loop-ends.rest.now c.loop-ends.whole c.loop-ends.lines.items inv.fits inv.batches inv.more none

pub returns-clause-rest : goal.returns-clause-rest
returns-clause-rest c =
    let inv = c.loop-ends.invariant in
    let none : counted (lines_of c.loop-ends.rest.now) ≡ [] = search rules in
    none_behind c.args.bytes.now c.loop-ends.behind.now c.loop-ends.rest.now c.loop-ends.rest.now c.loop-ends.whole c.loop-ends.lines.items inv.fits inv.batches inv.more none
