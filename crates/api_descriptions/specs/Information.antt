-- What a document says of an API as a whole, and how it is changed (OpenAPI 3.0.3, Info Object, Contact Object and
-- License Object).
use Rattle.std.specs.Prelude.{ℕ, List, Some, None, chars, unwrap_or}
use Rattle.openapi_values.specs.declared.info.Contact.{Contact}
use Rattle.openapi_values.specs.declared.info.Info.{Info}
use Rattle.openapi_values.specs.declared.info.License.{License}
use Rattle.semver.specs.Identifiers.{parts_text}
use Rattle.semver.specs.Parse.{Parts}

-- a title and a version, and nothing else
abbrev pub info_of : List ℕ → Parts → Info
info_of title version = record {
  title = title;
  description = None;
  terms_of_service = None;
  contact = None;
  license = None;
  version = chars (parts_text version);
}

-- whom to ask so far
abbrev pub contact_of : Info → Contact
contact_of info = unwrap_or info.contact (record { name = None; url = None; email = None })

-- the same with this contact in place of the one before
abbrev pub with_contact : Info → Contact → Info
with_contact info contact = record info { contact = Some contact }

-- whom to ask, with a name, with a place to find more, with a place to write to
abbrev pub with_contact_name : List ℕ → Info → Info
with_contact_name name info = with_contact info (record (contact_of info) { name = Some name })

abbrev pub with_contact_url : List ℕ → Info → Info
with_contact_url url info = with_contact info (record (contact_of info) { url = Some url })

abbrev pub with_contact_email : List ℕ → Info → Info
with_contact_email email info = with_contact info (record (contact_of info) { email = Some email })

-- the licence so far, or one of this name: the first name that is given stays
abbrev pub license_or : List ℕ → Info → License
license_or name info = unwrap_or info.license (record { name = name; url = None })

-- with a licence of a name, and with one of a name and a place where its text is found
abbrev pub with_license_name : List ℕ → Info → Info
with_license_name name info = record info { license = Some (license_or name info) }

abbrev pub with_license : List ℕ → List ℕ → Info → Info
with_license name url info = record info { license = Some (record (license_or name info) { url = Some url }) }

-- with these texts
abbrev pub with_description : List ℕ → Info → Info
with_description description info = record info { description = Some description }

abbrev pub with_terms_of_service : List ℕ → Info → Info
with_terms_of_service terms info = record info { terms_of_service = Some terms }
