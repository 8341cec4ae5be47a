use Rattle.std.proofs.Common.{rules, ◌≡◌, ◌∷◌, true, false, inl, sym, subst}
use Rattle.wb_keep.specs.Disk.Calls.{made, made_durable, named, folder_synced}
use Rattle.wb_keep.proofs.Disks.Replaced.{Later, Either, beside_synced, unnamed_either, folder_either, synced_time, named_time, folder_time}
use Rattle.wb_keep.proofs.disk.disk_file.DiskFileReplaces.replace.Goals as goal

pub returns-in-Err-synced-clause-time : goal.returns-in-Err-synced-clause-time
returns-in-Err-synced-clause-time c =
    let calls = c.args.self.now.calls in
    let bytes = c.args.bytes.now in
    let all : c.give_up-in-Err-synced.new.self.calls ≡ made_durable false ∷ made bytes true ∷ calls = search rules in
    subst (Later calls) (sym all) (synced_time calls bytes false)

pub returns-in-Err-synced-clause-crash : goal.returns-in-Err-synced-clause-crash
returns-in-Err-synced-clause-crash c =
    let calls = c.args.self.now.calls in
    let bytes = c.args.bytes.now in
    let all : c.give_up-in-Err-synced.new.self.calls ≡ made_durable false ∷ made bytes true ∷ calls = search rules in
    subst (Either calls bytes) (sym all) (λ c now. inl (beside_synced calls bytes false c now))

pub returns-in-Err-named-clause-time : goal.returns-in-Err-named-clause-time
returns-in-Err-named-clause-time c =
    let calls = c.args.self.now.calls in
    let bytes = c.args.bytes.now in
    let all : c.give_up-in-Err-named.new.self.calls ≡ named false ∷ made_durable true ∷ made bytes true ∷ calls = search rules in
    subst (Later calls) (sym all) (named_time calls bytes false)

pub returns-in-Err-named-clause-crash : goal.returns-in-Err-named-clause-crash
returns-in-Err-named-clause-crash c =
    let calls = c.args.self.now.calls in
    let bytes = c.args.bytes.now in
    let all : c.give_up-in-Err-named.new.self.calls ≡ named false ∷ made_durable true ∷ made bytes true ∷ calls = search rules in
    subst (Either calls bytes) (sym all) (unnamed_either calls bytes)

pub returns-in-Err-settled-clause-time : goal.returns-in-Err-settled-clause-time
returns-in-Err-settled-clause-time c =
    let calls = c.args.self.now.calls in
    let bytes = c.args.bytes.now in
    let all : c.give_up-in-Err-settled.new.self.calls ≡ folder_synced false ∷ named true ∷ made_durable true ∷ made bytes true ∷ calls = search rules in
    subst (Later calls) (sym all) (folder_time calls bytes false)

pub returns-in-Err-settled-clause-crash : goal.returns-in-Err-settled-clause-crash
returns-in-Err-settled-clause-crash c =
    let calls = c.args.self.now.calls in
    let bytes = c.args.bytes.now in
    let all : c.give_up-in-Err-settled.new.self.calls ≡ folder_synced false ∷ named true ∷ made_durable true ∷ made bytes true ∷ calls = search rules in
    subst (Either calls bytes) (sym all) (folder_either calls bytes false)

pub returns-clause-time : goal.returns-clause-time
returns-clause-time c =
    let calls = c.args.self.now.calls in
    let bytes = c.args.bytes.now in
    let all : c.sync_folder.new.self ≡ folder_synced true ∷ named true ∷ made_durable true ∷ made bytes true ∷ calls = search rules in
    subst (Later calls) (sym all) (folder_time calls bytes true)

pub returns-clause-crash : goal.returns-clause-crash
returns-clause-crash c =
    let calls = c.args.self.now.calls in
    let bytes = c.args.bytes.now in
    let all : c.sync_folder.new.self ≡ folder_synced true ∷ named true ∷ made_durable true ∷ made bytes true ∷ calls = search rules in
    subst (Either calls bytes) (sym all) (folder_either calls bytes true)
