-- The line that is written of a request is read back.
use Rattle.std.proofs.Common.{◌≡◌, true, List, ℕ, Some, Ok}
use Rattle.std.specs.Str.{is_utf8}
use Rattle.serde_json.specs.Read.{read}
use Rattle.wb_requests.specs.Requests.{request}
use Rattle.wb_requests.specs.declared.requests.request.Request.{Request}
use Rattle.wb_requests.specs.Wire.Encoded.{request_data}
use Rattle.wb_requests.specs.Wire.Proper.{IsProperRequest}
use Rattle.wb_requests.proofs.OnTheWire.Encoded.{encoded}
use Rattle.wb_requests.proofs.OnTheWire.Lines.{line_read}

pub reads_back : (r : Request) (s : List ℕ) → (is_utf8 s ≡ true) × (read s ≡ Some (request_data r)) → IsProperRequest r → request s ≡ Ok r
reads_back r s h p = line_read s r (request_data r, h.0, h.1, encoded r p)
