-- What holds of requests and their JSON values.
use Rattle.std.specs.Prelude.{◌≡◌, ◌↔◌, ℕ, List, true, Some, Ok, Err}
use Rattle.std.specs.Str.{is_utf8}
use Rattle.serde_json.specs.Data.{Data}
use Rattle.serde_json.specs.Read.{read}
use Rattle.wb_edit.specs.declared.refusal.Refusal.{Refusal}
use Rattle.wb_requests.specs.Requests.{request_of, request}
use Rattle.wb_requests.specs.declared.requests.request.Request.{Request}
use Rattle.wb_requests.specs.Wire.Encoded.{request_data}
use Rattle.wb_requests.specs.Wire.Faults.{Fault, refusal_of, IsFault, IsLeastFault}
use Rattle.wb_requests.specs.Wire.Proper.{IsProperRequest}
use Rattle.wb_requests.specs.Wire.Spelled.{IsRequest}

-- A JSON value is read as a request exactly where it is that request.
abbrev pub ReadsExactly : Type 0
ReadsExactly = (d : Data) (r : Request) → (request_of d ≡ Ok r) ↔ IsRequest d r

-- A line is read as a request exactly where it is UTF-8 that is the JSON of that request.
abbrev pub ReadsLinesExactly : Type 0
ReadsLinesExactly = (line : List ℕ) (r : Request) → (request line ≡ Ok r) ↔ ((d : Data) × (is_utf8 line ≡ true) × (read line ≡ Some d) × IsRequest d r)

-- A JSON value is at most one request.
abbrev pub OneRequest : Type 0
OneRequest = (d : Data) (r s : Request) → IsRequest d r → IsRequest d s → r ≡ s

-- The canonical object of a request is that request.
abbrev pub EncodesRequests : Type 0
EncodesRequests = (r : Request) → IsProperRequest r → IsRequest (request_data r) r

-- A request that was read of a line is one that a line can say.
abbrev pub ReadsProper : Type 0
ReadsProper = (line : List ℕ) (r : Request) → request line ≡ Ok r → IsProperRequest r

-- A JSON value that isn't read is answered with the least code of all that is wrong with it.
abbrev pub RefusesByTheLeast : Type 0
RefusesByTheLeast = (d : Data) (why : Refusal) → (request_of d ≡ Err why) ↔ ((fault : Fault) × (why ≡ refusal_of fault) × IsLeastFault d fault)

-- A JSON value is read as a request exactly where nothing is wrong with it.
abbrev pub ReadsTheFaultless : Type 0
ReadsTheFaultless = (d : Data) → ((r : Request) × (request_of d ≡ Ok r)) ↔ ((fault : Fault) → IsFault d fault → ⊥)
