-- What follows where a result is Ok, and where it is an error.
use Rattle.std.proofs.Common.{Result, Ok, Err, OnOk}
use Rattle.std.specs.Prelude.{IfErr}

pub on_ok : {X Y A B : Type 0} (r : Result X Y) → (A → B) → OnOk r A → OnOk r B
on_ok (Ok x) f h = f h
on_ok (Err e) f h = h

pub if_err : {X Y : Type 0} {A B : Y → Type 0} (r : Result X Y) → ((y : Y) → A y → B y) → IfErr r A → IfErr r B
if_err (Ok x) f h = h
if_err (Err e) f h = f e h
