-- How an API is named in its document (OpenAPI 3.0.3, Info Object).
use Rattle.std.specs.Prelude.{List, [], ◌∷◌, Some, option_map, codes}
use Rattle.schema_values.specs.declared.json_value.Json.{Json, Text}
use Rattle.openapi_values.specs.declared.info.Contact.{Contact}
use Rattle.openapi_values.specs.declared.info.Info.{Info}
use Rattle.openapi_values.specs.declared.info.License.{License}
use Rattle.openapi_values.specs.Objects.{Entry, object_of}

-- whom to ask, as far as it is told (OpenAPI 3.0.3, Contact Object)
abbrev pub contact_json : Contact → Json
contact_json contact = object_of ((codes "name", option_map Text contact.name) ∷ (codes "url", option_map Text contact.url) ∷ (codes "email", option_map Text contact.email) ∷ [])

-- a name, and where the license is found (OpenAPI 3.0.3, License Object)
abbrev pub license_json : License → Json
license_json license = object_of ((codes "name", Some (Text license.name)) ∷ (codes "url", option_map Text license.url) ∷ [])

-- title and version, always, and between them what else is told
abbrev pub info_entries : Info → List Entry
info_entries info =
    (codes "title", Some (Text info.title))
    ∷ (codes "description", option_map Text info.description)
    ∷ (codes "termsOfService", option_map Text info.terms_of_service)
    ∷ (codes "contact", option_map contact_json info.contact)
    ∷ (codes "license", option_map license_json info.license)
    ∷ (codes "version", Some (Text info.version))
    ∷ []

-- how an API is named
unfoldable pub info_json : Info → Json
info_json info = object_of (info_entries info)
