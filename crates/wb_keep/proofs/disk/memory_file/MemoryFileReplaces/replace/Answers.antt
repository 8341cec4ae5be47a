use Rattle.std.proofs.Common.{rules, ◌≡◌, ◌∷◌, true, false, inl, sym, subst}
use Rattle.wb_keep.specs.Disk.Calls.{made, made_durable, named, folder_synced}
use Rattle.wb_keep.proofs.Disks.Replaced.{Later, Either, beside_synced, unnamed_either, folder_either, synced_time, named_time, folder_time}
use Rattle.wb_keep.proofs.disk.memory_file.MemoryFileReplaces.replace.Goals as goal

pub returns-then-not-is_synced-clause-time : goal.returns-then-not-is_synced-clause-time
returns-then-not-is_synced-clause-time c =
    let calls = c.args.self.now.calls in
    let bytes = c.args.bytes.now in
    let all : c.sync_new.new.self ≡ made_durable false ∷ made bytes true ∷ calls = search rules in
    subst (Later calls) (sym all) (synced_time calls bytes false)

pub returns-then-not-is_synced-clause-crash : goal.returns-then-not-is_synced-clause-crash
returns-then-not-is_synced-clause-crash c =
    let calls = c.args.self.now.calls in
    let bytes = c.args.bytes.now in
    let all : c.sync_new.new.self ≡ made_durable false ∷ made bytes true ∷ calls = search rules in
    subst (Either calls bytes) (sym all) (λ c now. inl (beside_synced calls bytes false c now))

pub returns-then-not-is_named-clause-time : goal.returns-then-not-is_named-clause-time
returns-then-not-is_named-clause-time c =
    let calls = c.args.self.now.calls in
    let bytes = c.args.bytes.now in
    let all : c.name.new.self ≡ named false ∷ made_durable true ∷ made bytes true ∷ calls = search rules in
    subst (Later calls) (sym all) (named_time calls bytes false)

pub returns-then-not-is_named-clause-crash : goal.returns-then-not-is_named-clause-crash
returns-then-not-is_named-clause-crash c =
    let calls = c.args.self.now.calls in
    let bytes = c.args.bytes.now in
    let all : c.name.new.self ≡ named false ∷ made_durable true ∷ made bytes true ∷ calls = search rules in
    subst (Either calls bytes) (sym all) (unnamed_either calls bytes)

pub returns-then-not-is_settled-clause-time : goal.returns-then-not-is_settled-clause-time
returns-then-not-is_settled-clause-time c =
    let calls = c.args.self.now.calls in
    let bytes = c.args.bytes.now in
    let all : c.sync_folder.new.self ≡ folder_synced false ∷ named true ∷ made_durable true ∷ made bytes true ∷ calls = search rules in
    subst (Later calls) (sym all) (folder_time calls bytes false)

pub returns-then-not-is_settled-clause-crash : goal.returns-then-not-is_settled-clause-crash
returns-then-not-is_settled-clause-crash c =
    let calls = c.args.self.now.calls in
    let bytes = c.args.bytes.now in
    let all : c.sync_folder.new.self ≡ folder_synced false ∷ named true ∷ made_durable true ∷ made bytes true ∷ calls = search rules in
    subst (Either calls bytes) (sym all) (folder_either calls bytes false)

pub returns-clause-time : goal.returns-clause-time
returns-clause-time c =
    let calls = c.args.self.now.calls in
    let bytes = c.args.bytes.now in
    let all : c.sync_folder.new.self ≡ folder_synced true ∷ named true ∷ made_durable true ∷ made bytes true ∷ calls = search rules in
    subst (Later calls) (sym all) (folder_time calls bytes true)

pub returns-clause-crash : goal.returns-clause-crash
returns-clause-crash c =
    let calls = c.args.self.now.calls in
    let bytes = c.args.bytes.now in
    let all : c.sync_folder.new.self ≡ folder_synced true ∷ named true ∷ made_durable true ∷ made bytes true ∷ calls = search rules in
    subst (Either calls bytes) (sym all) (folder_either calls bytes true)
