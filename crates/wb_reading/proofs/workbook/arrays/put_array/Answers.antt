use Rattle.std.proofs.Common.{◌∷◌, map, refl, sym, subst}
use Rattle.wb_text.specs.Said.{line_of}
use Rattle.wb_text.specs.declared.said.ObjectLine.{ObjectLine}
use Rattle.wb_reading.specs.Laid.{IsColumn, AreArraysTold}
use Rattle.wb_reading.proofs.Linewise.{NoArray, other_line, array_line}
use Rattle.wb_reading.proofs.workbook.arrays.put_array.Goals as goal

pub returns-in-Rectangular : goal.returns-in-Rectangular
returns-in-Rectangular c = λ more new told.
    let ls = map line_of c.args.lines.now in
    other_line ls more (line_of c.args.line.now) c.args.arrays.now.entries c.args.arrays.now.entries
    (subst (λ (x : ObjectLine). NoArray ls (line_of x)) (sym c.in-Rectangular.is) (λ o none. none)) refl new told

pub returns-in-Sparse : goal.returns-in-Sparse
returns-in-Sparse c = λ more new told.
    let ls = map line_of c.args.lines.now in
    other_line ls more (line_of c.args.line.now) c.args.arrays.now.entries c.args.arrays.now.entries
    (subst (λ (x : ObjectLine). NoArray ls (line_of x)) (sym c.in-Sparse.is) (λ o none. none)) refl new told

pub returns-in-Associative : goal.returns-in-Associative
returns-in-Associative c = λ more new told.
    let ls = map line_of c.args.lines.now in
    other_line ls more (line_of c.args.line.now) c.args.arrays.now.entries c.args.arrays.now.entries
    (subst (λ (x : ObjectLine). NoArray ls (line_of x)) (sym c.in-Associative.is) (λ o none. none)) refl new told

pub returns-in-Ok-insert : goal.returns-in-Ok-insert
returns-in-Ok-insert c = λ more new told.
    let ls = map line_of c.args.lines.now in
    let a = c.in-Array.array in
    let d = c.in-Array.domain in
    let xs = c.in-Array.elements in
    let p = c.in-Ok.made in
    let column : IsColumn ls d xs p = c.in-Ok.ensures in
    subst (λ (x : ObjectLine). AreArraysTold ls (line_of x ∷ more) c.insert.new.self.entries) (sym c.in-Array.is)
    (array_line ls more a d xs c.in-Array.field-3 c.args.arrays.now.entries c.insert.new.self.entries p column (λ b. c.in-Ok-insert.ensures.updates.0 b) told)
