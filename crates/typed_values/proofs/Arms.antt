-- What each arm of the decoder needs: its row, and that the descriptors that it goes on to are parts.
use Rattle.std.proofs.Common.{◌≡◌, ℕ, ℤ, List, Option, Some, None, Bool, false, refl, sym, ◌∙◌, ap, subst}
use Rattle.std.specs.declared.result.Result.TheVariants.{Ok}
use Rattle.schema_values.specs.declared.json_value.Json.{Json, out-Json}
use Rattle.schema_values.specs.declared.json_value.Json.TheOpen.{Json-F}
use Rattle.schema_values.specs.declared.json_value.Json.TheVariants as json
use Rattle.schema_values.specs.declared.json_value.Member.{Member}
use Rattle.descriptors.specs.declared.desc.Desc.{Desc, out-Desc}
use Rattle.descriptors.specs.declared.desc.Desc.TheOpen.{Desc-F}
use Rattle.descriptors.specs.declared.desc.Desc.TheVariants as desc
use Rattle.descriptors.specs.declared.desc.Field.{Field}
use Rattle.descriptors.specs.declared.desc.IntKind.{IntKind}
use Rattle.descriptors.specs.declared.desc.Named.{Named}
use Rattle.descriptors.specs.declared.desc.TaggedVariant.{TaggedVariant}
use Rattle.descriptors.specs.declared.desc.Variant.{Variant}
use Rattle.typed_values.specs.declared.fault.FaultKind.TheVariants.{WrongKind, NotListed}
use Rattle.typed_values.specs.declared.fault.Place.TheVariants.{Name}
use Rattle.descriptors.specs.declared.tree.Tree.{Any as Whole}
use Rattle.descriptors.specs.declared.table.Definition.{Definition}
use Rattle.descriptors.specs.Definitions.{definition, tagged_name, variant_name}
use Rattle.typed_values.specs.Denotes.{Told, told, below, refused, where_found, named_from, bare, without_payload, with_payload, chosen, at_tag, room, nought, truth, character, number, words, one_of_names, optional, just, items_told, entries_told, external, tagged, first_told, at_definition}
use Rattle.typed_values.specs.Resting.{Rests}
use Rattle.typed_values.specs.Parts.{IsPart, of_table, StandsIn, the_whole}
use Rattle.typed_values.specs.Rows.{list_row, map_row, struct_row, told_item}
use Rattle.descriptors.proofs.CallerLemmas.{entry_found}
use Rattle.typed_values.proofs.Listed.{found_named}
use Rattle.typed_values.proofs.Rows.{row_at}

pub not_null : (x : Json-F Json Member) (told : Told) → (x ≡ Json-F.Null → ⊥) → optional x told ≡ just told
not_null Json-F.Null told other = absurd (other refl)
not_null (Json-F.Bool b) told other = refl
not_null (Json-F.Int n) told other = refl
not_null (Json-F.Text s) told other = refl
not_null (Json-F.List js) told other = refl
not_null (Json-F.Object ms) told other = refl

module _ (table : List Definition) (whole : Desc) (j : Json) (d : Desc) (h : Rests table (room table whole) d) where
  pub row_any : d ≡ desc.Any → told table whole j d ≡ Ok (Whole j)
  row_any e = row_at table whole j d (out-Json j) Desc-F.Any h refl (ap out-Desc e ∙ desc.outs-Any)

  pub row_never : d ≡ desc.Never → told table whole j d ≡ refused WrongKind
  row_never e = row_at table whole j d (out-Json j) Desc-F.Never h refl (ap out-Desc e ∙ desc.outs-Never)

  pub row_nought : d ≡ desc.Null → told table whole j d ≡ nought (out-Json j)
  row_nought e = row_at table whole j d (out-Json j) Desc-F.Null h refl (ap out-Desc e ∙ desc.outs-Null)

  pub row_bool : d ≡ desc.Bool → told table whole j d ≡ truth (out-Json j)
  row_bool e = row_at table whole j d (out-Json j) Desc-F.Bool h refl (ap out-Desc e ∙ desc.outs-Bool)

  pub row_char : d ≡ desc.Char → told table whole j d ≡ character (out-Json j)
  row_char e = row_at table whole j d (out-Json j) Desc-F.Char h refl (ap out-Desc e ∙ desc.outs-Char)

  pub row_int : (kind : IntKind) (min max : Option ℤ) → d ≡ desc.Int kind min max → told table whole j d ≡ number kind min max (out-Json j)
  row_int kind min max e = row_at table whole j d (out-Json j) (Desc-F.Int kind min max) h refl (ap out-Desc e ∙ desc.outs-Int kind min max)

  pub row_text : (min max : Option ℕ) (format : Option (List ℕ)) → d ≡ desc.Text min max format → told table whole j d ≡ words min max (out-Json j)
  row_text min max format e = row_at table whole j d (out-Json j) (Desc-F.Text min max format) h refl (ap out-Desc e ∙ desc.outs-Text min max format)

  pub row_enumeration : (ns : List Named) → d ≡ desc.Enumeration ns → told table whole j d ≡ one_of_names ns (out-Json j)
  row_enumeration ns e = row_at table whole j d (out-Json j) (Desc-F.Enumeration ns) h refl (ap out-Desc e ∙ desc.outs-Enumeration ns)

  pub row_option : (x : Desc) → d ≡ desc.Option x → told table whole j d ≡ optional (out-Json j) (told table whole j x)
  row_option x e = row_at table whole j d (out-Json j) (Desc-F.Option x) h refl (ap out-Desc e ∙ desc.outs-Option x)

  pub row_list : (x : Desc) (min max : Option ℕ) → d ≡ desc.List x min max → told table whole j d ≡ list_row table whole x min max (out-Json j)
  row_list x min max e = row_at table whole j d (out-Json j) (Desc-F.List x min max) h refl (ap out-Desc e ∙ desc.outs-List x min max)

  pub row_map : (x : Desc) → d ≡ desc.Map x → told table whole j d ≡ map_row table whole x (out-Json j)
  row_map x e = row_at table whole j d (out-Json j) (Desc-F.Map x) h refl (ap out-Desc e ∙ desc.outs-Map x)

  pub row_struct : (fs : List Field) (deny : Bool) → d ≡ desc.Struct fs deny → told table whole j d ≡ struct_row table whole fs deny (out-Json j)
  row_struct fs deny e = row_at table whole j d (out-Json j) (Desc-F.Struct fs deny) h refl (ap out-Desc e ∙ desc.outs-Struct fs deny)

  pub row_external : (vs : List Variant) → d ≡ desc.External vs → told table whole j d ≡ external (told table whole) vs (out-Json j)
  row_external vs e = row_at table whole j d (out-Json j) (Desc-F.External vs) h refl (ap out-Desc e ∙ desc.outs-External vs)

  pub row_tagged : (tag : List ℕ) (vs : List TaggedVariant) → d ≡ desc.Tagged tag vs → told table whole j d ≡ tagged (λ json. json) (λ fs. struct_row table whole fs false (out-Json j)) tag vs (out-Json j)
  row_tagged tag vs e = row_at table whole j d (out-Json j) (Desc-F.Tagged tag vs) h refl (ap out-Desc e ∙ desc.outs-Tagged tag vs)

  pub row_untagged : (ds : List Desc) → d ≡ desc.Untagged ds → told table whole j d ≡ first_told 0 (told table whole j) ds
  row_untagged ds e = row_at table whole j d (out-Json j) (Desc-F.Untagged ds) h refl (ap out-Desc e ∙ desc.outs-Untagged ds)

  pub row_ref : (name : List ℕ) (o : Option Desc) → d ≡ desc.Ref name → definition table name ≡ o → told table whole j d ≡ at_definition (told table whole j) o
  row_ref name o e f = row_at table whole j d (out-Json j) (Desc-F.Ref name) h refl (ap out-Desc e ∙ desc.outs-Ref name) ∙ ap (at_definition (told table whole j)) f

-- what is told of a list, and of an object under a map, over the slice of its items or members
module _ (table : List Definition) (whole d : Desc) where
  pub list_at : (min max : Option ℕ) (j : Json) (js items : List Json) → j ≡ json.List js → items ≡ js → list_row table whole d min max (out-Json j) ≡ items_told (told_item table whole d) min max items
  list_at min max j js items e same = ap (list_row table whole d min max) (ap out-Json e ∙ json.outs-List js) ∙ ap (items_told (told_item table whole d) min max) (sym same)

  pub map_at : (j : Json) (ns ms : List Member) → j ≡ json.Object ns → ms ≡ ns → map_row table whole d (out-Json j) ≡ entries_told (λ value. told table whole value d) ms
  map_at j ns ms e same = ap (map_row table whole d) (ap out-Json e ∙ json.outs-Object ns) ∙ ap (entries_told (λ (value : Json). told table whole value d)) (sym same)

-- what a name is defined as is a part
pub definition_is_part : (table : List Definition) (whole : Desc) (name : List ℕ) (d : Desc) → definition table name ≡ Some d → IsPart table whole d
definition_is_part table whole name d e =
    let found = entry_found table name d e in
    of_table found.0 found.1.inside (subst (λ (x : Desc). StandsIn found.0.desc x) found.1.is the_whole)

-- ---- variants

module _ (k : ℕ) (v : Variant) where
  pub bare_told : v.payload ≡ None → without_payload k v ≡ bare k v
  bare_told e = rw e refl

  pub not_bare : (d : Desc) → v.payload ≡ Some d → without_payload k v ≡ refused NotListed
  not_bare d e = rw e refl

  module _ (told : Desc → Told) where
    pub payload_told : (d : Desc) → v.payload ≡ Some d → with_payload told k v ≡ chosen k (below (Name v.name) (told d))
    payload_told d e = rw e refl

    pub no_payload : v.payload ≡ None → with_payload told k v ≡ refused NotListed
    no_payload e = rw e refl

-- the payload of the variant of a name
pub payload_at : (told : Desc → Told) (vs : List Variant) (name : List ℕ) (k : ℕ) (v : Variant) (d : Desc) → named_from variant_name 0 vs name ≡ Some (k, v) → v.payload ≡ Some d
    → where_found (refused NotListed) (with_payload told) (named_from variant_name 0 vs name) ≡ chosen k (below (Name name) (told d))
payload_at told vs name k v d found e =
    ap (where_found (refused NotListed) (with_payload told)) found
    ∙ payload_told k v told d e
    ∙ ap (λ (n : List ℕ). chosen k (below (Name n) (told d))) (found_named variant_name vs name (k, v) found)

module _ (tag : List ℕ) (told : ℕ → TaggedVariant → Told) (vs : List TaggedVariant) (j : Json) where
  pub at_tag_text : (name : List ℕ) → out-Json j ≡ Json-F.Text name → at_tag tag told vs j ≡ where_found (below (Name tag) (refused NotListed)) told (named_from tagged_name 0 vs name)
  at_tag_text name e = rw e refl

  pub at_tag_other : (x : Json-F Json Member) → out-Json j ≡ x → ((name : List ℕ) → x ≡ Json-F.Text name → ⊥) → at_tag tag told vs j ≡ below (Name tag) (refused WrongKind)
  at_tag_other Json-F.Null e other = rw e refl
  at_tag_other (Json-F.Bool b) e other = rw e refl
  at_tag_other (Json-F.Int n) e other = rw e refl
  at_tag_other (Json-F.Text name) e other = absurd (other name refl)
  at_tag_other (Json-F.List js) e other = rw e refl
  at_tag_other (Json-F.Object ms) e other = rw e refl
