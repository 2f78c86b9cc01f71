-- The body of an error's response, its JSON (RFC 8259), its tree, and what it is in a document
-- (OpenAPI 3.0.3, Schema Object).
use Rattle.std.specs.Prelude.{ℕ, false, List, [], ◌∷◌, ◌++◌, Option, Some, None, codes}
use Rattle.schema_values.specs.declared.json_value.Json.{Json, Text as Words, Object}
use Rattle.schema_values.specs.declared.json_value.Member.{Member}
use Rattle.schema_values.specs.Member.{member}
use Rattle.descriptors.specs.declared.desc.Desc.{Desc, Ref, Text as TextDesc, Struct}
use Rattle.descriptors.specs.declared.desc.Field.{Field}
use Rattle.descriptors.specs.declared.desc.Presence.{Presence}
use Rattle.descriptors.specs.declared.desc.Presence.TheVariants.{Required, Skipped}
use Rattle.descriptors.specs.declared.table.Definition.{Definition}
use Rattle.descriptors.specs.declared.tree.Tree.{Tree}
use Rattle.descriptors.specs.declared.tree.Tree.TheVariants as trees
use Rattle.http_status.specs.declared.error.HttpError.{HttpError}
use Rattle.http_status.specs.declared.error_body.HttpErrorResponseBody.{HttpErrorResponseBody}

-- the body tells the id of the request, the code where there is one, and the message for the client
abbrev pub error_body : HttpError → List ℕ → HttpErrorResponseBody
error_body error id =
    record { request_id = id; error_code = error.error_code; message = error.external_message }

-- the member of a code where there is one
abbrev pub code_members : Option (List ℕ) → List Member
code_members None = []
code_members (Some code) = member (codes "error_code") (Words code) ∷ []

-- the members in this order
abbrev pub error_body_json : HttpErrorResponseBody → Json
error_body_json body =
    Object ((member (codes "request_id") (Words body.request_id) ∷ code_members body.error_code)
    ++ member (codes "message") (Words body.message) ∷ [])

-- a text of any length
abbrev pub any_text : Desc
any_text = TextDesc None None None

-- a field that is a text, without a description
abbrev pub text_field : List ℕ → Presence → Field
text_field name presence =
    record { name = name; desc = any_text; presence = presence; description = None }

-- the id of the request, the code, which is left out where there is none, and the message
abbrev pub body_fields : List Field
body_fields =
    text_field (codes "request_id") Required ∷ text_field (codes "error_code") Skipped
    ∷ text_field (codes "message") Required ∷ []

-- the definition of the body, which allows other members
abbrev pub error_definition : Definition
error_definition = record {
  name = codes "Error";
  description = Some (codes "Error information from a response.");
  desc = Struct body_fields false;
}

-- the descriptor of the body, in a table that has the definition
abbrev pub error_desc : Desc
error_desc = Ref (codes "Error")

-- the tree of a code, where there is one
abbrev pub code_tree : Option (List ℕ) → Tree
code_tree None = trees.None
code_tree (Some code) = trees.Some (trees.Text code)

-- the tree of the body: those of its fields
abbrev pub error_body_tree : HttpErrorResponseBody → Tree
error_body_tree body =
    trees.Fields (trees.Text body.request_id ∷ code_tree body.error_code ∷ trees.Text body.message ∷ [])
