use Rattle.std.proofs.Common.{rules, ◌≡◌, List, [], ◌∷◌, ◌++◌, Option, Some, None, refl, sym, subst, ℕ}
use Rattle.std.proofs.lemmas.List.{append-nil}
use Rattle.wb_dist.specs.Maps.{LayoutMap}
use Rattle.wb_cells.specs.Cells.{Name}
use Rattle.wb_book.specs.Joined.{stored_in}
use Rattle.wb_book.specs.After.{lies_at, IsAfter, AreFormed, AreAfter}
use Rattle.wb_book.specs.Groups.{Group}
use Rattle.wb_book.specs.Kept.{Pieced, array_in}
use Rattle.wb_book.proofs.Built.{walk_pushes, walk_passes}
use Rattle.wb_book.proofs.after.build_arrays.Goals as goal

pub loop-name-preserved-else-is_err : goal.loop-name-preserved-else-is_err
loop-name-preserved-else-is_err g c =
    let n : Name = c.in-Some.name.now in
    let xs : Group = c.in-Some.group.now in
    let q : Pieced = c.in-Some-fresh.fresh in
    let es = c.args.arrays.now.entries in
    let gs = c.args.groups.now.entries in
    let lies : Name → Option (LayoutMap × ℕ) = lies_at (stored_in c.args.cells.now.entries) in
    let rest : c.loop-name.name-iterator ≡ (n, xs) ∷ c.next.new.self = (search rules) in
    let pushed : c.push.new.self.items ≡ c.loop-name.built.items ++ (n, q) ∷ [] = (search rules) in
    let after : (p : Pieced) (l : LayoutMap × ℕ) → array_in es n ≡ Some p → lies n ≡ Some l → IsAfter xs l p (Some q) =
    λ p l found is. subst (λ (o : Option Pieced). IsAfter xs l p o) c.in-Some-fresh.is
    (c.in_ok-fresh.ensures.after p l found is) in
    let ahead : (ys : List (Name × Pieced)) → AreAfter lies es ((n, xs) ∷ c.next.new.self) ys → AreAfter lies es gs (c.loop-name.built.items ++ ys) =
    λ ys later. c.loop-name.invariant.ahead ys (subst (λ (hs : List (Name × Group)). AreAfter lies es hs ys) (sym rest) later) in
    record {
      ahead = walk_pushes lies es gs c.next.new.self n xs q c.loop-name.built.items c.push.new.self.items pushed after ahead;
      formed = (subst (λ (hs : List (Name × Group)). AreFormed lies es hs) rest c.loop-name.invariant.formed).1;
    }

pub loop-name-preserved : goal.loop-name-preserved
loop-name-preserved g c =
    let n : Name = c.in-Some.name.now in
    let xs : Group = c.in-Some.group.now in
    let es = c.args.arrays.now.entries in
    let gs = c.args.groups.now.entries in
    let lies : Name → Option (LayoutMap × ℕ) = lies_at (stored_in c.args.cells.now.entries) in
    let rest : c.loop-name.name-iterator ≡ (n, xs) ∷ c.next.new.self = (search rules) in
    let after : (p : Pieced) (l : LayoutMap × ℕ) → array_in es n ≡ Some p → lies n ≡ Some l → IsAfter xs l p None =
    λ p l found is. subst (λ (o : Option Pieced). IsAfter xs l p o) c.in-None-fresh.is
    (c.in_ok-fresh.ensures.after p l found is) in
    let ahead : (ys : List (Name × Pieced)) → AreAfter lies es ((n, xs) ∷ c.next.new.self) ys → AreAfter lies es gs (c.loop-name.built.items ++ ys) =
    λ ys later. c.loop-name.invariant.ahead ys (subst (λ (hs : List (Name × Group)). AreAfter lies es hs ys) (sym rest) later) in
    record {
      ahead = walk_passes lies es gs c.next.new.self n xs c.loop-name.built.items after ahead;
      formed = (subst (λ (hs : List (Name × Group)). AreFormed lies es hs) rest c.loop-name.invariant.formed).1;
    }

pub after_named-requires-after_bounds : goal.after_named-requires-after_bounds
after_named-requires-after_bounds g c κs within =
    let n : Name = c.in-Some.name.now in
    let xs : Group = c.in-Some.group.now in
    let es = c.args.arrays.now.entries in
    let lies : Name → Option (LayoutMap × ℕ) = lies_at (stored_in c.args.cells.now.entries) in
    let rest : c.loop-name.name-iterator ≡ (n, xs) ∷ c.next.new.self = (search rules) in
    (subst (λ (hs : List (Name × Group)). AreFormed lies es hs) rest c.loop-name.invariant.formed).0

pub returns-clause-built : goal.returns-clause-built
returns-clause-built g c =
    let es = c.args.arrays.now.entries in
    let gs = c.args.groups.now.entries in
    let lies : Name → Option (LayoutMap × ℕ) = lies_at (stored_in c.args.cells.now.entries) in
    let none : c.loop-name.name-iterator ≡ [] = (search rules) in
    let last : AreAfter lies es c.loop-name.name-iterator [] = subst (λ (hs : List (Name × Group)). AreAfter lies es hs []) (sym none) refl in
    subst (λ (ys : List (Name × Pieced)). AreAfter lies es gs ys) (append-nil c.loop-name.built.items) (c.loop-name.invariant.ahead [] last)
