use Rattle.std.proofs.Common.{◌≡◌, ◌++◌, drop}
use Rattle.openapi_values.specs.Objects.{members_of}
use Rattle.openapi_values.specs.SchemaJson.{extension_entries}
use Rattle.openapi_values.proofs.schema_parts.add_extensions.Given as goal

abbrev pub invariant-loop-extension : goal.invariant-loop-extension
invariant-loop-extension l =
    l.members ++ members_of (extension_entries (drop l.extension-index l.extensions)) ≡ l.initial.members ++ members_of (extension_entries l.extensions)
