-- The schemas of parameters are sound, and the names of the fields that are shown of a struct are distinct.
use Rattle.std.proofs.Common.{◌≡◌, ℕ, zero, suc, pos, Bool, List, [], ◌∷◌, map, Option, Some, None}
use Rattle.std.proofs.Common.{option_map, option_and_then, unwrap_or, codes, refl, sym, ◌∙◌, ap, subst, arith}
use Rattle.std.specs.List.{AllByRecursion}
use Rattle.std.specs.Prelude.{Contains}
use Rattle.schema_values.specs.Order.{sorted_by}
use Rattle.schema_values.specs.Sound.{AreDistinct, IsSound}
use Rattle.schema_values.proofs.CallerLemmas.{all_sorted, contains_first, contains_later}
use Rattle.openapi_values.specs.SoundParts.{IsSoundParameter}
use Rattle.descriptors.specs.declared.desc.Desc.{Desc, Int, Option as OptionOf, Text as Words, out-Desc}
use Rattle.descriptors.specs.declared.desc.Desc.TheOpen.{Desc-F}
use Rattle.descriptors.specs.declared.desc.Desc.TheVariants as desc
use Rattle.descriptors.specs.declared.desc.Field.{Field}
use Rattle.descriptors.specs.declared.desc.IntKind.TheVariants.{U32}
use Rattle.descriptors.specs.declared.table.Definition.{Definition}
use Rattle.descriptors.specs.Definitions.{entry_of, field_name}
use Rattle.descriptors.proofs.CallerLemmas.{definition_is}
use Rattle.typed_values.specs.Checks.{DescPasses, TablePasses}
use Rattle.typed_values.specs.Denotes.{room}
use Rattle.typed_values.specs.Lengths.{HasShortLengths, TableHasShortLengths}
use Rattle.typed_values.specs.Levels.{DescLevel}
use Rattle.typed_values.specs.Parts.{in_field, the_whole}
use Rattle.typed_values.specs.Schemas.{in_header, in_query}
use Rattle.typed_values.specs.SchemaTable.{drawn, schema_json}
use Rattle.typed_values.proofs.CallerLemmas.{entry_inside, fields_distinct, stands_through}
use Rattle.flat_maps.specs.Flat.{resolved, resolved_at, resolved_by}
use Rattle.written_schemas.proofs.CallerLemmas.{drawn_row, IsSoundlyDrawn, drawn_sound, length_is_count, number_sound, text_sound, in_header_stands, in_query_stands, plain_sound, shown_plain_sound}
use Rattle.written_texts.specs.FieldParameters.{field_parameters, parameter_of}
use Rattle.written_texts.specs.PageParameters.{limit_field, parameter_name, scan_parameter, token_field}
use Rattle.handler_shapes.specs.declared.slot.Slot.{Slot}
use Rattle.handler_shapes.specs.declared.slot.Slot.TheVariants.{Path, Query, Header, PagedQuery, TypedBody, RawBody}
use Rattle.handler_shapes.specs.declared.slot.Slot.TheVariants.{StreamBody}
use Rattle.handler_shapes.specs.ShapeChecks.{SlotPasses}
use Rattle.handler_shapes.specs.ShapeLengths.{SlotHasShortLengths}
use Rattle.endpoint_metadata.specs.Shown.{slot_documented}
use Rattle.endpoint_metadata.specs.Structs.{fields_at, listed_fields}

-- ---- lists

each_contained : {X : Type 0} (P : X → Type 0) (xs : List X) → ((x : X) → Contains xs x → P x) → AllByRecursion P xs
each_contained P [] each = tt
each_contained P (x ∷ xs) each =
    (each x (contains_first x xs), each_contained P xs (λ y c. each y (contains_later x xs y c)))

each_made : {X Y : Type 0} (P : Y → Type 0) (f : X → Y) (xs : List X)
    → AllByRecursion (λ x. P (f x)) xs → AllByRecursion P (map f xs)
each_made P f [] h = tt
each_made P f (x ∷ xs) h = (h.0, each_made P f xs h.1)

-- ---- what pages ask, whose types are options without a table

option_sound : (x : Desc) → IsSoundlyDrawn (drawn [] x) → IsSound (schema_json [] (OptionOf x))
option_sound x h =
    drawn_sound (drawn [] (OptionOf x))
    (subst IsSoundlyDrawn (sym (drawn_row [] (OptionOf x) (Desc-F.Option x) (desc.outs-Option x)))
    (record { names = h.names; keyed = h.keyed; apart = h.apart; default_sound = h.default_sound }))

limit_sound : IsSound (schema_json [] limit_field.desc)
limit_sound =
    let x = Int U32 (Some (pos 1)) None in
    option_sound x
    (subst IsSoundlyDrawn
    (sym (drawn_row [] x (Desc-F.Int U32 (Some (pos 1)) None) (desc.outs-Int U32 (Some (pos 1)) None)))
    (number_sound U32 (Some (pos 1)) None (length_is_count 1 refl) tt))

token_sound : IsSound (schema_json [] token_field.desc)
token_sound =
    let x = Words None None None in
    option_sound x
    (subst IsSoundlyDrawn (sym (drawn_row [] x (Desc-F.Text None None None) (desc.outs-Text None None None)))
    (text_sound None None None tt tt))

module _ (table : List Definition) (passes : TablePasses table) (short : TableHasShortLengths table) where
  -- a descriptor passes its checks, and its lengths have 32 bits
  pub record IsFine (desc : Desc) : Type 0 where
    pub right : DescPasses table desc
    pub lengths : HasShortLengths desc

  definition_fine : (name : List ℕ) (e : Definition) → entry_of table name ≡ Some e → IsFine e.desc
  definition_fine name e found =
      let inside = entry_inside table name e found in
      record { right = passes.each e inside; lengths = short e inside }

  -- what a descriptor leads to is fine where the descriptor is
  behind_name : (next : Desc → Option Desc) (r : Desc) (name : List ℕ)
      → ((y : Desc) → IsFine y → next y ≡ Some r → IsFine r) → (o : Option Definition) → entry_of table name ≡ o
      → option_and_then next (option_map (λ e. e.desc) o) ≡ Some r → IsFine r
  behind_name next r name later None found led = absurd (cc led)
  behind_name next r name later (Some e) found led = later e.desc (definition_fine name e found) led

  led_by : (next : Desc → Option Desc) (d r : Desc) → IsFine d
      → ((y : Desc) → IsFine y → next y ≡ Some r → IsFine r)
      → (z : DescLevel) → resolved_by table next d z ≡ Some r → IsFine r
  led_by next d r fine later (Desc-F.Ref name) led =
      behind_name next r name later (entry_of table name) refl
      (ap (option_and_then next) (sym (definition_is table name)) ∙ led)
  led_by next d r fine later _ led = let same : d ≡ r = cc led in subst IsFine same fine

  led_fine : (n : ℕ) (d r : Desc) → IsFine d → resolved_at table n d ≡ Some r → IsFine r
  unfolding resolved_at
  led_fine zero d r fine led = absurd (cc led)
  led_fine (suc n) d r fine led =
      led_by (resolved_at table n) d r fine (λ y fine_y is. led_fine n y r fine_y is) (out-Desc d) led

  field_fine : (r : Desc) (fs : List Field) (deny : Bool) (f : Field)
      → out-Desc r ≡ Desc-F.Struct fs deny → Contains fs f → IsFine r → IsFine f.desc
  field_fine r fs deny f is c fine = record {
    right = λ d s. fine.right d (stands_through (in_field fs deny f the_whole is c) s);
    lengths = λ d s. fine.lengths d (stands_through (in_field fs deny f the_whole is c) s);
  }

  -- of what is shown of a struct each field is fine, and their names are distinct
  record AreFine (fs : List Field) : Type 0 where
    each : (f : Field) → Contains fs f → IsFine f.desc
    once : AreDistinct (map field_name fs)

  none_fine : AreFine []
  none_fine = record { each = λ f c. absurd (omega (arith, c.1)); once = tt }

  level_fine : (r : Desc) → IsFine r → (z : DescLevel) → out-Desc r ≡ z → AreFine (unwrap_or (fields_at z) [])
  level_fine r fine (Desc-F.Struct fs deny) is = record {
    each = λ f c. field_fine r fs deny f is c fine;
    once = fields_distinct table r fs deny is (fine.right r the_whole);
  }
  level_fine r fine _ is = none_fine

  struct_fine : (o : Option Desc) → ((r : Desc) → o ≡ Some r → IsFine r)
      → AreFine (unwrap_or (option_and_then (λ d. fields_at (out-Desc d)) o) [])
  struct_fine None led = none_fine
  struct_fine (Some r) led = level_fine r (led r refl) (out-Desc r) refl

  shown_fine : (desc : Desc) → IsFine desc → AreFine (listed_fields table desc)
  unfolding resolved
  shown_fine desc fine = struct_fine (resolved table desc) (λ r led. led_fine (room table desc) desc r fine led)

  pub names_once : (desc : Desc) → IsFine desc → AreDistinct (map field_name (listed_fields table desc))
  names_once desc fine = (shown_fine desc fine).once

  -- ---- the schemas of the fields, in each place

  in_path_sound : (d : Desc) → IsFine d → IsSound (schema_json table d)
  in_path_sound d fine = plain_sound table d passes fine.right fine.lengths

  pub in_query_sound : (d : Desc) → IsFine d → IsSound (schema_json table (in_query d))
  in_query_sound d fine = shown_plain_sound table d (in_query d) passes fine.right fine.lengths (in_query_stands d)

  in_header_sound : (d : Desc) → IsFine d → IsSound (schema_json table (in_header d))
  in_header_sound d fine = shown_plain_sound table d (in_header d) passes fine.right fine.lengths (in_header_stands d)

  module _ (desc : Desc) (fine : IsFine desc) where
    fields_sound : (shown : Desc → Desc) → ((d : Desc) → IsFine d → IsSound (schema_json table (shown d)))
        → AllByRecursion (λ f. IsSound (schema_json table (shown f.desc))) (listed_fields table desc)
    fields_sound shown sound =
        each_contained (λ f. IsSound (schema_json table (shown f.desc))) (listed_fields table desc)
        (λ f c. sound f.desc ((shown_fine desc fine).each f c))

    pub listed_sound : (place : List ℕ) (shown : Desc → Desc)
        → ((d : Desc) → IsFine d → IsSound (schema_json table (shown d)))
        → AllByRecursion IsSoundParameter (field_parameters place shown table (listed_fields table desc))
    listed_sound place shown sound =
        each_made IsSoundParameter (parameter_of place shown table) (sorted_by field_name (listed_fields table desc))
        (all_sorted (λ f. IsSound (schema_json table (shown f.desc))) field_name (listed_fields table desc)
        (fields_sound shown sound))

    scanned_sound : AllByRecursion IsSoundParameter (map (scan_parameter table) (listed_fields table desc))
    scanned_sound =
        each_made IsSoundParameter (scan_parameter table) (listed_fields table desc)
        (fields_sound in_query in_query_sound)

  pub slot_sound : (slot : Slot) → SlotPasses table slot → SlotHasShortLengths slot
      → AllByRecursion IsSoundParameter (slot_documented table slot)
  slot_sound (Path desc) right lengths =
      listed_sound desc (record { right = right; lengths = lengths }) (codes "path") (λ d. d) in_path_sound
  slot_sound (Query desc) right lengths =
      listed_sound desc (record { right = right; lengths = lengths }) (codes "query") in_query in_query_sound
  slot_sound (Header desc) right lengths =
      listed_sound desc (record { right = right; lengths = lengths }) (codes "header") in_header in_header_sound
  slot_sound (PagedQuery scan selector selector_table) right lengths =
      all_sorted IsSoundParameter parameter_name
      (parameter_of (codes "query") (λ desc. desc) [] limit_field
      ∷ parameter_of (codes "query") (λ desc. desc) [] token_field
      ∷ map (scan_parameter table) (listed_fields table scan))
      (limit_sound, (token_sound, scanned_sound scan (record { right = right.0; lengths = lengths.0 })))
  slot_sound (TypedBody desc name) right lengths = tt
  slot_sound RawBody right lengths = tt
  slot_sound StreamBody right lengths = tt
