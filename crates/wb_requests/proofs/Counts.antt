-- How many fields an object has, by the map that keeps them, and how many values an array has.
use Rattle.std.proofs.Common.{◌≡◌, ◌≢◌, ℕ, Bool, true, false, List, [], ◌∷◌, length, Some, None, String, refl, ap, sym, ◌∙◌, arith, if◌then◌else◌}
use Rattle.std.proofs.lemmas.List.{length-map}
use Rattle.std.specs.declared.alloc.Global.{Global}
use Rattle.serde_json.specs.Data.{Data, null, boolean, number, string, array, object, Members}
use Rattle.serde_json.specs.Find.{as_object}
use Rattle.serde_json.specs.View.{view, members_of, members_view, items_view}
use Rattle.serde_json.specs.declared.value.Value.{Value}
use Rattle.serde_json.proofs.Views.{items_len-items_view}
use Rattle.wb_requests.specs.Fields.{member_count, field_count, tuple_of, is_several, several_of}

count_of : (ms : List (String Global × Data)) → member_count (members_of ms) ≡ length ms
count_of [] = refl
count_of (m ∷ ms) = omega (arith, count_of ms)

by_object : (d : Data) (ms : Members) → Some ms ≡ as_object d → field_count d ≡ member_count ms
by_object null ms e = cc
by_object (boolean b) ms e = cc
by_object (number n) ms e = cc
by_object (string s) ms e = cc
by_object (array ds) ms e = cc
by_object (object ns) ms e = let f : ms ≡ ns = cc in ap member_count (sym f)

pub field_count-members : (d : Data) (entries : List (String Global × Value)) → Some (members_view entries) ≡ as_object d → field_count d ≡ length entries
field_count-members d entries e =
    let seen : String Global × Value → String Global × Data = λ m. (m.0, view m.1) in
    by_object d (members_view entries) e ∙ count_of _ ∙ length-map entries seen

-- two or three integers stand in no other array
pub tuple_none : (vs : List Value) → length vs ≢ 2 → length vs ≢ 3 → None ≡ tuple_of (items_view vs)
tuple_none [] h g = refl
tuple_none (a ∷ []) h g = refl
tuple_none (a ∷ (b ∷ [])) h g = absurd (h refl)
tuple_none (a ∷ (b ∷ (c ∷ []))) h g = absurd (g refl)
tuple_none (a ∷ (b ∷ (c ∷ (d ∷ vs)))) h g = refl

-- an array of so many values, by how many there are
several_by : (vs : List Value) (b : Bool) → is_several (length vs) ≡ b → several_of (array (items_view vs)) ≡ (if b then Some (items_view vs) else None)
several_by vs b e =
    ap (λ n. if is_several n then Some (items_view vs) else None) (items_len-items_view vs) ∙ ap (λ (b : Bool). if b then Some (items_view vs) else None) e

pub several_there : (d : Data) (vs found : List Value) (n : ℕ) → d ≡ array (items_view vs) → found ≡ vs → n ≡ length vs → is_several n ≡ true →
    Some (items_view found) ≡ several_of d
several_there d vs found n is same many e = ap (λ vs. Some (items_view vs)) same ∙ sym (several_by vs true (ap is_several (sym many) ∙ e)) ∙ ap several_of (sym is)

pub several_not : (d : Data) (vs : List Value) (n : ℕ) → d ≡ array (items_view vs) → n ≡ length vs → is_several n ≡ false → None ≡ several_of d
several_not d vs n is many e = sym (several_by vs false (ap is_several (sym many) ∙ e)) ∙ ap several_of (sym is)
