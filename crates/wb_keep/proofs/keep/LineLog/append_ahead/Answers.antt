use Rattle.std.proofs.Common.{◌≡◌, ◌+◌, ◌-◌, max, List, ℕ, ◌++◌, length, refl, sym, ◌∙◌, ap, rules}
use Rattle.std.proofs.lemmas.List.{append-nil}
use Rattle.wb_keep.specs.Lines.{lines_of, recovered}
use Rattle.wb_keep.proofs.Appending.{unmoved, moments, settled}
use Rattle.wb_keep.proofs.Crash.{no_new}
use Rattle.wb_keep.proofs.keep.LineLog.append_ahead.Goals as goal

-- the file was left alone
pub returns-in_err-block-clause-any_moment : goal.returns-in_err-block-clause-any_moment
returns-in_err-block-clause-any_moment g c =
    let D = g.D.Device in
    let d0 = c.args.self.now.device in
    unmoved D.seen D.moment D.left_since D.may_leave c.args.lines.now d0 c.requires.file c.requires.durable (g.met.D.Device.only_now d0)

pub returns-then-len-eq1-clause-any_moment : goal.returns-then-len-eq1-clause-any_moment
returns-then-len-eq1-clause-any_moment g c =
    let D = g.D.Device in
    let d0 = c.args.self.now.device in
    unmoved D.seen D.moment D.left_since D.may_leave c.args.lines.now d0 c.requires.file c.requires.durable (g.met.D.Device.only_now d0)

pub returns-then-mark-ge-MAX_LENGTH-clause-any_moment : goal.returns-then-mark-ge-MAX_LENGTH-clause-any_moment
returns-then-mark-ge-MAX_LENGTH-clause-any_moment g c =
    let D = g.D.Device in
    let d0 = c.args.self.now.device in
    unmoved D.seen D.moment D.left_since D.may_leave c.args.lines.now d0 c.requires.file c.requires.durable (g.met.D.Device.only_now d0)

-- no line was added
pub returns-then-len-eq1-clause-acknowledged : goal.returns-then-len-eq1-clause-acknowledged
returns-then-len-eq1-clause-acknowledged g c =
    let old = recovered (g.D.Device.seen c.args.self.now.device) in
    let one : length c.in_ok-block.block.items ≡ 1 = search rules in
    let none = no_new (lines_of c.args.lines.now) c.in_ok-block.block.items c.in_ok-block.ensures one in
    (c.requires, sym (ap (λ (ls : List (List ℕ)). old ++ ls) none ∙ append-nil old))

pub returns-in_err-bytes-clause-any_moment : goal.returns-in_err-bytes-clause-any_moment
returns-in_err-bytes-clause-any_moment g c =
    let D = g.D.Device in
    let d0 = c.args.self.now.device in
    unmoved D.seen D.moment D.left_since D.may_leave c.args.lines.now d0 c.requires.file c.requires.durable (g.met.D.Device.only_now d0)

pub returns-in_err-put-clause-any_moment : goal.returns-in_err-put-clause-any_moment
returns-in_err-put-clause-any_moment g c =
    let D = g.D.Device in
    let block = c.in_ok-block.block.items in
    let bytes = c.deref.result.now in
    let zeros = c.in_ok-bytes.ensures in
    moments D.seen c.args.lines.now c.args.self.now.mark c.args.self.now.device c.put.new.device c.requires.file c.requires.mark block c.in_ok-block.ensures
    zeros.0 bytes (c.deref.ensures.value ∙ zeros.1) D.moment D.left_since c.put.ensures.any_moment

pub returns-clause-any_moment : goal.returns-clause-any_moment
returns-clause-any_moment g c =
    let D = g.D.Device in
    let block = c.in_ok-block.block.items in
    let bytes = c.deref.result.now in
    let zeros = c.in_ok-bytes.ensures in
    moments D.seen c.args.lines.now c.args.self.now.mark c.args.self.now.device c.put.new.device c.requires.file c.requires.mark block c.in_ok-block.ensures
    zeros.0 bytes (c.deref.ensures.value ∙ zeros.1) D.moment D.left_since c.put.ensures.any_moment

pub returns-clause-acknowledged : goal.returns-clause-acknowledged
returns-clause-acknowledged g c =
    let D = g.D.Device in
    let block = c.in_ok-block.block.items in
    let bytes = c.deref.result.now in
    let zeros = c.in_ok-bytes.ensures in
    let size : c.len-more.result ≡ length block = search rules in
    let wide : c.len-2.result ≡ length bytes = search rules in
    settled D.seen c.args.lines.now c.args.self.now.mark c.args.self.now.device c.put.new.device c.requires.file c.requires.mark block c.in_ok-block.ensures
    zeros.0 bytes (c.deref.ensures.value ∙ zeros.1) D.may_leave _ c.args.self.now.last c.requires.last refl (ap (λ (n : ℕ). c.args.self.now.mark + (n - 1)) size)
    (c.max-self.ensures ∙ ap (λ (n : ℕ). max c.args.self.now.last (c.args.self.now.mark + (n - 1))) wide) c.in_ok-put.ensures.written c.in_ok-put.ensures.durable
