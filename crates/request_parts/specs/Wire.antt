-- The request on the wire that a request and the bytes of its body are.
use Rattle.std.specs.Prelude.{ℕ, List, [], map, unwrap_or}
use Rattle.std.proofs.Common.{inl}
use Rattle.std.specs.Str.{chars}
use Rattle.std_collections.specs.BTreeMap.{BTreeMap}
use Rattle.std_collections.specs.Layout.BTreeMap.{btree_map}
use Rattle.header_lists.specs.HeaderLists.{Line}
use Rattle.http_uri.specs.Uri.{uri_query}
use Rattle.http_uri.specs.declared.uri.Uri.{Uri}
use Rattle.request_words.specs.declared.request.HeaderLine.{HeaderLine}
use Rattle.request_words.specs.declared.request.WireRequest.{WireRequest}
use Rattle.schema_values.specs.declared.variables.VariableValue.{VariableValue}
use Rattle.request_parts.specs.Requests.{Request, Variables}

-- the query of a target, empty where it has none (RFC 3986, section 3.4)
abbrev pub query_text : Uri → List ℕ
query_text uri = chars (unwrap_or (uri_query uri) [])

-- a line with the characters of its name and the bytes of its value
abbrev pub wire_line : Line → HeaderLine
wire_line line = record { name = chars line.0; value = line.1.bytes }

-- a map of these entries; how it lies in memory says nothing
abbrev pub variable_map : Variables → BTreeMap (List ℕ) VariableValue
variable_map variables = btree_map variables (inl tt)

-- what a request and its body are on the wire
abbrev pub wire_of : Request → List ℕ → WireRequest
wire_of request body = record {
  variables = variable_map request.variables;
  query = query_text request.info.uri;
  headers = map wire_line request.info.headers;
  body = body;
}
