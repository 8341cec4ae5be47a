-- How many fields an object has, by the map that keeps them.
use Rattle.std.proofs.Common.{◌≡◌, List, [], ◌∷◌, length, Some, String, refl, ap, sym, ◌∙◌, arith}
use Rattle.std.proofs.lemmas.List.{length-map}
use Rattle.std.specs.declared.alloc.Global.{Global}
use Rattle.serde_json.specs.Data.{Data, null, boolean, number, string, array, object, Members}
use Rattle.serde_json.specs.Find.{as_object}
use Rattle.serde_json.specs.View.{view, members_of, members_view}
use Rattle.serde_json.specs.declared.value.Value.{Value}
use Rattle.wb_company.specs.Words.{member_count, field_count}

count_of : (ms : List (String Global × Data)) → member_count (members_of ms) ≡ length ms
count_of [] = refl
count_of (m ∷ ms) = omega (arith, count_of ms)

by_object : (d : Data) (ms : Members) → Some ms ≡ as_object d → field_count d ≡ member_count ms
by_object null ms e = cc
by_object (boolean b) ms e = cc
by_object (number n) ms e = cc
by_object (string s) ms e = cc
by_object (array ds) ms e = cc
by_object (object ns) ms e = let f : ms ≡ ns = cc in ap member_count (sym f)

pub field_count-members : (d : Data) (entries : List (String Global × Value)) → Some (members_view entries) ≡ as_object d → field_count d ≡ length entries
field_count-members d entries e =
    let seen : String Global × Value → String Global × Data = λ m. (m.0, view m.1) in
    by_object d (members_view entries) e ∙ count_of _ ∙ length-map entries seen
