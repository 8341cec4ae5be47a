-- Arrays of 1 to 4,096 values.
use Rattle.std.proofs.Common.{◌≡◌, ◌≤◌, ◌&&◌, ℕ, Bool, true, false, Option, Some, None, option_and_then, Ok, refl, ap, ◌∙◌, subst, nat_le, le-leb, leb-true, if◌then◌else◌}
use Rattle.std.specs.Option.{ok_or}
use Rattle.serde_json.specs.Data.{Data, null, boolean, number as json_number, string, array, object, Items}
use Rattle.serde_json.specs.Events.{items_len}
use Rattle.wb_edit.specs.declared.refusal.Refusal.TheVariants.{BadRequest}
use Rattle.wb_requests.specs.Fields.{is_several, several_of}
use Rattle.wb_requests.proofs.OnTheWire.Values.{no_ok, no_some, some_same, some_of_ok}

pub several_is : (n : ℕ) → 1 ≤ n → n ≤ 4096 → is_several n ≡ true
several_is n low high = ap (λ (b : Bool). b && nat_le n 4096) (le-leb 1 n low) ∙ le-leb n 4096 high

and_parts : (b c : Bool) → b && c ≡ true → (b ≡ true) × (c ≡ true)
and_parts true c e = (refl, e)
and_parts false c e = absurd (cc)

pub several_holds : (n : ℕ) → is_several n ≡ true → (1 ≤ n) × (n ≤ 4096)
several_holds n e = let p = and_parts (nat_le 1 n) (nat_le n 4096) e in (leb-true 1 n p.0, leb-true n 4096 p.1)

-- an array of so many values is read
pub several_told : (v : Data) (ds : Items) → v ≡ array ds → is_several (items_len ds) ≡ true → several_of v ≡ Some ds
several_told v ds e c = ap several_of e ∙ ap (λ (b : Bool). if b then Some ds else None) c

several_by : (b : Bool) (ds es : Items) → is_several (items_len ds) ≡ b → (if b then Some ds else None) ≡ Some es → (ds ≡ es) × (is_several (items_len ds) ≡ true)
several_by true ds es h e = (some_same ds es e, h)
several_by false ds es h e = no_some es e

several_of_found : (d : Data) (es : Items) → several_of d ≡ Some es → (d ≡ array es) × (is_several (items_len es) ≡ true)
several_of_found (array ds) es e =
    let x = several_by (is_several (items_len ds)) ds es refl e in (ap array x.0, subst (λ ds. is_several (items_len ds) ≡ true) x.0 x.1)
several_of_found null es e = no_some es e
several_of_found (boolean b) es e = no_some es e
several_of_found (json_number n) es e = no_some es e
several_of_found (string s) es e = no_some es e
several_of_found (object ms) es e = no_some es e

pub several_found : (o : Option Data) (es : Items) → ok_or (option_and_then several_of o) BadRequest ≡ Ok es →
    (o ≡ Some (array es)) × (is_several (items_len es) ≡ true)
several_found None es e = no_ok BadRequest es e
several_found (Some d) es e = let x = several_of_found d es (some_of_ok (several_of d) BadRequest es e) in (ap Some x.0, x.1)
