-- The code of a declaration: that of the tuple of its fields.
use Rattle.std.specs.Prelude.{◌≡◌, ◌⊎◌, ℕ, Bool, List, Option, Some, None, refl}
use Rattle.std.proofs.Common.{inl, inr}
use Rattle.std.specs.Coded.{Coded, code_by, coded×, coded⊎, coded_bool, coded_list, coded_option, coded_ℕ}
use Rattle.semver.specs.Parse.{Parts}
use Rattle.api_versions.specs.Ranges.{VersionRange, all, from, from_until, until}
use Rattle.handler_shapes.specs.contracts.shape.HandlerShape as shapes
use Rattle.handler_shapes.specs.declared.shape.HandlerShape.{HandlerShape}
use Rattle.request_parts.specs.contracts.content_type.ApiEndpointBodyContentType as kinds
use Rattle.request_parts.specs.declared.content_type.ApiEndpointBodyContentType.{ApiEndpointBodyContentType}
use Rattle.api_declarations.specs.Values.{DeclarationValue}

-- the code of a text
abbrev pub text_code : Coded (List ℕ)
text_code = coded_list coded_ℕ

-- the code of a version
abbrev pub version_code : Coded Parts
version_code = code_by (ℕ × (ℕ × (ℕ × (List ℕ × List ℕ)))) (coded× coded_ℕ (coded× coded_ℕ (coded× coded_ℕ (coded× text_code text_code))))
    (λ v. (v.0, (v.1, (v.2, (v.3, v.4))))) (λ p. (p.0, p.1.0, p.1.1.0, p.1.1.1.0, p.1.1.1.1)) (λ _. refl)

-- a range is stored as the bounds that its form has
abbrev pub RangeParts : Type 0
RangeParts = Option Parts ⊎ ((Parts × Parts) ⊎ Parts)

-- the bounds
abbrev pub parts_of_range : VersionRange → RangeParts
parts_of_range all = inl None
parts_of_range (from earliest) = inl (Some earliest)
parts_of_range (from_until earliest end) = inr (inl (earliest, end))
parts_of_range (until end) = inr (inr end)

-- the range of the bounds
abbrev pub range_of_parts : RangeParts → VersionRange
range_of_parts (inl None) = all
range_of_parts (inl (Some earliest)) = from earliest
range_of_parts (inr (inl bounds)) = from_until bounds.0 bounds.1
range_of_parts (inr (inr end)) = until end

-- the range of its parts is the range
pub stored_back : (range : VersionRange) → range_of_parts (parts_of_range range) ≡ range
stored_back all = refl
stored_back (from earliest) = refl
stored_back (from_until earliest end) = refl
stored_back (until end) = refl

-- the code of a range
abbrev pub range_code : Coded VersionRange
range_code = code_by RangeParts (coded⊎ (coded_option version_code) (coded⊎ (coded× version_code version_code) version_code))
    parts_of_range range_of_parts stored_back

-- the code of a declaration
abbrev pub declaration_code : Coded DeclarationValue
declaration_code = code_by
    (List ℕ × (List ℕ × (List ℕ × (ApiEndpointBodyContentType × (VersionRange × (Bool × (Bool
    × (List (List ℕ) × (Option (List ℕ) × (Option (List ℕ) × (Option ℕ × HandlerShape)))))))))))
    (coded× text_code (coded× text_code (coded× text_code (coded× kinds.the_row.coded (coded× range_code (coded× coded_bool (coded× coded_bool
    (coded× (coded_list text_code) (coded× (coded_option text_code) (coded× (coded_option text_code) (coded× (coded_option coded_ℕ) shapes.the_row.coded)))))))))))
    (λ d. (
      d.operation_id,
      (
        d.method,
        (
          d.path,
          (
            d.body_content_type,
            (
              d.versions,
              (
                d.visible,
                (
                  d.deprecated,
                  (d.tags, (d.summary, (d.description, (d.body_limit, d.shape)))),
                ),
              ),
            ),
          ),
        ),
      ),
    ))
    (λ p. record {
      operation_id = p.0;
      method = p.1.0;
      path = p.1.1.0;
      body_content_type = p.1.1.1.0;
      versions = p.1.1.1.1.0;
      visible = p.1.1.1.1.1.0;
      deprecated = p.1.1.1.1.1.1.0;
      tags = p.1.1.1.1.1.1.1.0;
      summary = p.1.1.1.1.1.1.1.1.0;
      description = p.1.1.1.1.1.1.1.1.1.0;
      body_limit = p.1.1.1.1.1.1.1.1.1.1.0;
      shape = p.1.1.1.1.1.1.1.1.1.1.1;
    })
    (λ _. refl)
