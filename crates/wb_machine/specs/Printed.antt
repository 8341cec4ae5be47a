-- The parts of replies that are written straight, with no JSON value of them in between.
use Rattle.std.specs.Prelude.{ℕ, ℤ, Bool, true, false, List, ◌++◌, codes, decimal}
use Rattle.std.specs.Fmt.{signed_decimal}
use Rattle.std.specs.List.{join_by}

-- two numbers, by their digits that of the second, each behind what stands before it
abbrev pub numbers_text : List ℕ → ℕ → List ℕ → List ℕ → List ℕ
numbers_text first a second digits = first ++ (decimal a ++ (second ++ (digits ++ codes "}")))

-- how many cells were set back, and the numbers of the edits that were undone
abbrev pub undone_text : ℕ → List ℕ → List ℕ
undone_text n ks = codes "{\"n\":" ++ (decimal n ++ (codes ",\"undone\":[" ++ (join_by decimal (codes ",") ks ++ codes "]}")))

-- the numbers of the dependents of an edit
abbrev pub dependents_text : List ℕ → List ℕ
dependents_text ks = codes "{\"dependents\":[" ++ (join_by decimal (codes ",") ks ++ codes "]}")

-- an element
abbrev pub value_text : ℤ → List ℕ
value_text z = codes "{\"value\":" ++ (signed_decimal z ++ codes "}")

-- how many indices there are
abbrev pub size_text : ℕ → List ℕ
size_text n = codes "{\"size\":" ++ (decimal n ++ codes "}")

-- a locale
abbrev pub locale_text : ℕ → List ℕ
locale_text l = codes "{\"locale\":" ++ (decimal l ++ codes "}")

-- whether an edit is in force
abbrev pub in_force_text : Bool → List ℕ
in_force_text true = codes "{\"in_force\":true}"
in_force_text false = codes "{\"in_force\":false}"
