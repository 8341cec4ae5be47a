-- Lines are read as requests exactly where they are JSON of them.
use Rattle.std.proofs.Common.{◌≡◌, ℕ, List, Bool, true, false, Option, Some, None, Ok, Err, refl, if◌then◌else◌}
use Rattle.std.specs.Str.{is_utf8}
use Rattle.serde_json.specs.Data.{Data}
use Rattle.serde_json.specs.Read.{read}
use Rattle.wb_edit.specs.declared.refusal.Refusal.TheVariants.{BadRequest}
use Rattle.wb_requests.specs.Requests.{request_of, of_json, request}
use Rattle.wb_requests.specs.declared.requests.request.Request.{Request}
use Rattle.wb_requests.specs.Wire.Spelled.{IsRequest}
use Rattle.wb_requests.proofs.OnTheWire.Found.{request_found}
use Rattle.wb_requests.proofs.OnTheWire.Read.{request_read}
use Rattle.wb_requests.proofs.OnTheWire.Values.{no_ok}

json_found : (o : Option Data) (r : Request) → of_json o ≡ Ok r → (d : Data) × (o ≡ Some d) × (request_of d ≡ Ok r)
json_found None r e = no_ok BadRequest r e
json_found (Some d) r e = (d, refl, e)

line_by : (b : Bool) (line : List ℕ) (r : Request) → is_utf8 line ≡ b → (if b then of_json (read line) else Err BadRequest) ≡ Ok r
    → (d : Data) × (is_utf8 line ≡ true) × (read line ≡ Some d) × IsRequest d r
line_by true line r u e = let x = json_found (read line) r e in (x.0, u, x.1, request_found x.0 r x.2)
line_by false line r u e = no_ok BadRequest r e

pub line_found : (line : List ℕ) (r : Request) → request line ≡ Ok r → (d : Data) × (is_utf8 line ≡ true) × (read line ≡ Some d) × IsRequest d r
line_found line r e = line_by (is_utf8 line) line r refl e

pub line_read : (line : List ℕ) (r : Request) → ((d : Data) × (is_utf8 line ≡ true) × (read line ≡ Some d) × IsRequest d r) → request line ≡ Ok r
line_read line r h = rw (h.1, h.2) (request_read h.0 r h.3)
