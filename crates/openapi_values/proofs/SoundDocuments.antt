-- A document of sound parts is written as sound JSON.
use Rattle.std.proofs.Common.{ℕ, List, [], ◌∷◌, map, Option, Some, None, option_map, MatchOption, codes, refl}
use Rattle.std.specs.List.{AllByRecursion}
use Rattle.std.specs.Option.{option_map_or}
use Rattle.std.specs.Prelude.{⊤}
use Rattle.schema_values.specs.declared.json_value.Json.{Json, Text, List as ListOf}
use Rattle.schema_values.specs.Sound.{IsSound}
use Rattle.schema_values.proofs.CallerLemmas.{IsSound-List, IsSound-Object}
use Rattle.openapi_values.specs.declared.document.Components.{Components}
use Rattle.openapi_values.specs.declared.document.OpenApi.{OpenApi}
use Rattle.openapi_values.specs.declared.info.Contact.{Contact}
use Rattle.openapi_values.specs.declared.info.Info.{Info}
use Rattle.openapi_values.specs.declared.info.License.{License}
use Rattle.openapi_values.specs.declared.media.MediaType.{MediaType}
use Rattle.openapi_values.specs.declared.media.RequestBody.{RequestBody}
use Rattle.openapi_values.specs.declared.media.ResponseObject.{ResponseObject}
use Rattle.openapi_values.specs.declared.operation.Operation.{Operation}
use Rattle.openapi_values.specs.declared.operation.PathItem.{PathItem}
use Rattle.openapi_values.specs.declared.parameter.HeaderObject.{HeaderObject}
use Rattle.openapi_values.specs.declared.parameter.Parameter.{Parameter}
use Rattle.openapi_values.specs.declared.tags.ExternalDocs.{ExternalDocs}
use Rattle.openapi_values.specs.declared.tags.TagObject.{TagObject}
use Rattle.openapi_values.specs.Document.{components_entries, components_json, open_api_entries, open_api_json}
use Rattle.openapi_values.specs.Info.{contact_json, info_entries, info_json, license_json}
use Rattle.openapi_values.specs.Objects.{map_members, reference_json, unless_empty}
use Rattle.openapi_values.specs.Operation.{content_json, described_json, media_type_entries, media_type_json, operation_entries, operation_json, pagination_json, path_item_entries, path_item_json, request_body_entries, request_body_json, response_json}
use Rattle.openapi_values.specs.Parameters.{header_entries, header_json, parameter_entries, parameter_json}
use Rattle.openapi_values.specs.Tags.{external_docs_json, tag_json}
use Rattle.openapi_values.specs.SoundParts.{HasSoundParts, IsSoundBody, IsSoundHeader, IsSoundItem, IsSoundMap, IsSoundMedia, IsSoundOperation, IsSoundParameter, IsSoundResponse}
use Rattle.openapi_values.proofs.SoundObjects.{IsSoundWhere, all_sound, each_text, list_where, map_sound, map_where, object_sound, reference_is_sound, some_sound, text_where, truth_where}

-- what is written soundly whatever it is
module _ {X : Type 0} (json : X → Json) (each : (x : X) → IsSound (json x)) where
  always : (o : Option X) → IsSoundWhere (option_map json o)
  always None = tt
  always (Some x) = each x

  every : (xs : List X) → AllByRecursion IsSound (map json xs)
  every [] = tt
  every (x ∷ xs) = (each x, every xs)

media_sound : (media : MediaType) → IsSoundMedia media → IsSound (media_type_json media)
media_sound media sound = object_sound (media_type_entries media) refl (sound, tt)

header_sound : (header : HeaderObject) → IsSoundHeader header → IsSound (header_json header)
unfolding header_json
header_sound header sound = object_sound (header_entries header) refl (text_where header.description, (tt, (truth_where header.required, (sound, tt))))

parameter_sound : (p : Parameter) → IsSoundParameter p → IsSound (parameter_json p)
unfolding parameter_json
parameter_sound p sound = object_sound (parameter_entries p) refl (tt, (tt, (text_where p.description, (truth_where p.required, (sound, tt)))))

body_sound : (body : RequestBody) → IsSoundBody body → IsSound (request_body_json body)
unfolding request_body_json
body_sound body sound = object_sound (request_body_entries body) refl (map_where IsSoundMedia media_type_json media_sound body.content sound, (truth_where body.required, tt))

response_sound : (response : ResponseObject) → IsSoundResponse response → IsSound (response_json response)
unfolding described_json
response_sound response sound = by_reference response.reference sound
  where
    by_reference : (o : Option (List ℕ)) → MatchOption o (IsSoundMap IsSoundHeader response.headers × IsSoundMap IsSoundMedia response.content) (λ reference. ⊤) → IsSound (option_map_or reference_json o (described_json response))
    by_reference None sound =
        object_sound ((codes "description", option_map Text response.description) ∷ (codes "headers", unless_empty (map_members header_json response.headers)) ∷ (codes "content", content_json response.content) ∷ []) refl (text_where response.description, (map_where IsSoundHeader header_json header_sound response.headers sound.0, (map_where IsSoundMedia media_type_json media_sound response.content sound.1, tt)))
    by_reference (Some reference) sound = reference_is_sound reference

pagination_sound : (names : List (List ℕ)) → IsSound (pagination_json names)
pagination_sound names = object_sound ((codes "required", Some (ListOf (map Text names))) ∷ []) refl ((IsSound-List (map Text names)).1 (each_text names), tt)

operation_sound : (operation : Operation) → IsSoundOperation operation → IsSound (operation_json operation)
unfolding operation_json
operation_sound operation sound = object_sound (operation_entries operation) refl (
  list_where (map Text operation.tags) (each_text operation.tags),
  (
    text_where operation.summary,
    (
      text_where operation.description,
      (
        tt,
        (
          list_where (map parameter_json operation.parameters) (all_sound IsSoundParameter parameter_json parameter_sound operation.parameters sound.parameters),
          (
            some_sound IsSoundBody request_body_json body_sound operation.request_body sound.body,
            (
              map_where IsSoundResponse response_json response_sound operation.responses sound.responses,
              (
                truth_where operation.deprecated,
                (
                  always pagination_json pagination_sound operation.pagination,
                  tt,
                ),
              ),
            ),
          ),
        ),
      ),
    ),
  ),
)

item_sound : (item : PathItem) → IsSoundItem item → IsSound (path_item_json item)
unfolding path_item_json
item_sound item sound = object_sound (path_item_entries item) refl (
  method item.get sound.get,
  (
    method item.put sound.put,
    (
      method item.post sound.post,
      (
        method item.delete sound.delete,
        (method item.options sound.options, (method item.head sound.head, (method item.patch sound.patch, (method item.trace sound.trace, tt)))),
      ),
    ),
  ),
)
  where
    method : (o : Option Operation) → MatchOption o ⊤ IsSoundOperation → IsSoundWhere (option_map operation_json o)
    method = some_sound IsSoundOperation operation_json operation_sound

-- ---- what has no schemas

docs_sound : (docs : ExternalDocs) → IsSound (external_docs_json docs)
docs_sound docs = object_sound ((codes "description", option_map Text docs.description) ∷ (codes "url", Some (Text docs.url)) ∷ []) refl (text_where docs.description, (tt, tt))

contact_sound : (contact : Contact) → IsSound (contact_json contact)
contact_sound contact = object_sound ((codes "name", option_map Text contact.name) ∷ (codes "url", option_map Text contact.url) ∷ (codes "email", option_map Text contact.email) ∷ []) refl (text_where contact.name, (text_where contact.url, (text_where contact.email, tt)))

license_sound : (license : License) → IsSound (license_json license)
license_sound license = object_sound ((codes "name", Some (Text license.name)) ∷ (codes "url", option_map Text license.url) ∷ []) refl (tt, (text_where license.url, tt))

tag_sound : (tag : TagObject) → IsSound (tag_json tag)
tag_sound tag = object_sound ((codes "name", Some (Text tag.name)) ∷ (codes "description", option_map Text tag.description) ∷ (codes "externalDocs", option_map external_docs_json tag.external_docs) ∷ []) refl (tt, (text_where tag.description, (always external_docs_json docs_sound tag.external_docs, tt)))

info_sound : (info : Info) → IsSound (info_json info)
unfolding info_json
info_sound info = object_sound (info_entries info) refl
    (tt, (text_where info.description, (text_where info.terms_of_service, (always contact_json contact_sound info.contact, (always license_json license_sound info.license, (tt, tt))))))

-- ---- a document

components_sound : (components : Components) → IsSoundMap IsSoundResponse components.responses → IsSoundMap IsSound components.schemas → IsSound (components_json components)
unfolding components_json
components_sound components responses schemas = object_sound (components_entries components) refl
    (map_where IsSoundResponse response_json response_sound components.responses responses, (map_where IsSound (λ schema. schema) (λ schema sound. sound) components.schemas schemas, tt))

pub document_sound : (document : OpenApi) → HasSoundParts document → IsSound (open_api_json document)
unfolding open_api_json
document_sound document sound = object_sound (open_api_entries document) refl (
  tt,
  (
    info_sound document.info,
    (
      (IsSound-Object (map_members path_item_json document.paths)).1 (map_sound IsSoundItem path_item_json item_sound document.paths sound.paths),
      (components_sound document.components sound.responses sound.schemas, (list_where (map tag_json document.tags) (every tag_json tag_sound document.tags), tt)),
    ),
  ),
)
