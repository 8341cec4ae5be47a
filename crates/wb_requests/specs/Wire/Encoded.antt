-- The canonical line of a request: every field is written, keys ascending, literals canonical.
use Rattle.std.specs.Prelude.{ℕ, List}
use Rattle.serde_json.specs.Data.{Data, object}
use Rattle.serde_json.specs.Written.{compact_text}
use Rattle.wb_requests.specs.declared.requests.request.Request.{Request}
use Rattle.wb_requests.specs.Wire.Table.{table}
pub use Rattle.wb_requests.specs.Encoding.Encoded.{given_text, data_of, members_of}

-- the canonical object of a request
abbrev pub request_data : Request → Data
request_data r = object (members_of (table r))

-- its line, without a line end
abbrev pub request_line : Request → List ℕ
request_line r = compact_text (request_data r)
