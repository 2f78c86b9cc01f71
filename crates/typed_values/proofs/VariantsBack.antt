-- What is written of a variant denotes it again: its name or its tag names its place.
use Rattle.std.proofs.Common.{◌≡◌, ℕ, zero, suc, Bool, true, List, [], ◌∷◌, map, Option, Some, None, refl, sym, ◌∙◌, ap, subst}
use Rattle.std.proofs.lemmas.Option.{slice_get_within, get_or_from_slice_get}
use Rattle.std.specs.Prelude.{Contains, slice_get}
use Rattle.schema_values.specs.declared.json_value.Json.{Json, Text as WordsJson, Object, out-Json}
use Rattle.schema_values.specs.declared.json_value.Json.TheOpen.{Json-F}
use Rattle.schema_values.specs.declared.json_value.Json.TheVariants as json
use Rattle.schema_values.specs.declared.json_value.Member.{Member}
use Rattle.schema_values.specs.Member.{member}
use Rattle.schema_values.specs.Sound.{AreDistinct}
use Rattle.schema_values.proofs.CallerLemmas.{IsSound-Object}
use Rattle.std.specs.declared.result.Result.TheVariants.{Ok}
use Rattle.descriptors.specs.declared.desc.Desc.{Desc}
use Rattle.descriptors.specs.declared.desc.Field.{Field}
use Rattle.descriptors.specs.declared.desc.TaggedVariant.{TaggedVariant}
use Rattle.descriptors.specs.declared.desc.Variant.{Variant}
use Rattle.typed_values.specs.declared.fault.FaultKind.TheVariants.{NotListed}
use Rattle.typed_values.specs.declared.fault.Place.TheVariants.{Name}
use Rattle.descriptors.specs.declared.tree.Tree.{Tree, Unit as Nought, Variant as Choice}
use Rattle.descriptors.specs.Definitions.{variant_name, tagged_name, tagged_fields}
use Rattle.typed_values.specs.Denotes.{Told, below, refused, where_found, without_payload, with_payload, chosen, at_tag, external, tagged, value_named}
use Rattle.typed_values.specs.Encoding.{variant_written}
use Rattle.typed_values.specs.Fits.{alternative_at, if_there}
use Rattle.typed_values.proofs.Arms.{bare_told, payload_told, at_tag_text}
use Rattle.descriptors.proofs.CallerLemmas.{same_name}
use Rattle.typed_values.proofs.ScalarsBack.{ReadsBack, named_first}
use Rattle.typed_values.proofs.ToldTrees.{Gives, gives_below}

-- what stands at a place is inside
pub at_place_inside : {X : Type 0} (xs : List X) (i : ℕ) (x : X) → slice_get xs i ≡ Some x → Contains xs x
at_place_inside xs i x there = (i, slice_get_within xs i x there, get_or_from_slice_get xs i x x there)

-- where an alternative that a thing gives passes, there is such a thing at its place
pub given_at : {X : Type 0} (passes : Desc → Bool) (desc_of : X → Desc) (xs : List X) (i : ℕ) → if_there passes (alternative_at (map desc_of xs) i) ≡ true → (x : X) × (slice_get xs i ≡ Some x) × (passes (desc_of x) ≡ true)
given_at passes desc_of [] i fit = absurd (cc fit)
given_at passes desc_of (x ∷ xs) zero fit = (x, refl, fit)
given_at passes desc_of (x ∷ xs) (suc i) fit = given_at passes desc_of xs i fit

module _ (Exact : Type 0) where
  pub gives_chosen : (i : ℕ) (told : Told) (tree : Tree) → Gives Exact told tree → Gives Exact (chosen i told) (Choice i tree)
  gives_chosen i told tree (read, is, same) = (Choice i read, ap (chosen i) is, λ h. ap (Choice i) (same h))

  module _ (told : Json → Desc → Told) (written : Desc → Json) (s : Tree) where
    -- a payload is read back; without one the tree is that of null
    abbrev pub PayloadBack : Option Desc → Type 0
    PayloadBack None = s ≡ Nought
    PayloadBack (Some d) = ReadsBack Exact (written d) (told (written d) d) s

    module _ (vs : List Variant) (distinct : AreDistinct (map variant_name vs)) (i : ℕ) (v : Variant) (there : slice_get vs i ≡ Some v) where
      abbrev VariantBack : Json → Type 0
      VariantBack j = ReadsBack Exact j (external told vs (out-Json j)) (Choice i s)

      name_alone : v.payload ≡ None → external told vs (out-Json (WordsJson v.name)) ≡ Ok (Choice i Nought)
      name_alone e =
          ap (external told vs) (json.outs-Text v.name) ∙ ap (where_found (refused NotListed) without_payload) (named_first variant_name vs i v distinct there) ∙ bare_told i v e

      paid_told : (d : Desc) (value : Json) → v.payload ≡ Some d → external told vs (out-Json (Object (member v.name value ∷ []))) ≡ chosen i (below (Name v.name) (told value d))
      paid_told d value e =
          ap (external told vs) (json.outs-Object (member v.name value ∷ [])) ∙ ap (where_found (refused NotListed) (with_payload (told value))) (named_first variant_name vs i v distinct there)
          ∙ payload_told i v (told value) d e

      -- the name of a variant alone, or an object of its name and its payload
      pub variant_back : (o : Option Desc) → v.payload ≡ o → PayloadBack o → VariantBack (variant_written written v)
      variant_back None e nought =
          let bare : variant_written written v ≡ WordsJson v.name = rw e refl in
          subst VariantBack (sym bare) (tt, (Choice i Nought, name_alone e, λ h. ap (Choice i) (sym nought)))
      variant_back (Some d) e (sound, gives) =
          let paid : variant_written written v ≡ Object (member v.name (written d) ∷ []) = rw e refl in
          subst VariantBack (sym paid) (
            (IsSound-Object (member v.name (written d) ∷ [])).1 ((sound, tt), (tt, tt)),
            subst (λ (o : Told). Gives Exact o (Choice i s)) (sym (paid_told d (written d) e))
                (gives_chosen i (below (Name v.name) (told (written d) d)) s (gives_below Exact (Name v.name) (told (written d) d) s gives)),
          )

module _ (tag : List ℕ) (vs : List TaggedVariant) (distinct : AreDistinct (map tagged_name vs)) (i : ℕ) (v : TaggedVariant) (there : slice_get vs i ≡ Some v) (struct : List Field → Told) where
  abbrev at_variant : ℕ → TaggedVariant → Told
  at_variant k w = chosen k (struct (tagged_fields w))

  name_told : at_tag tag at_variant vs (WordsJson (tagged_name v)) ≡ at_variant i v
  name_told =
      at_tag_text tag at_variant vs (WordsJson (tagged_name v)) (tagged_name v) (json.outs-Text (tagged_name v))
      ∙ ap (where_found (below (Name tag) (refused NotListed)) at_variant) (named_first tagged_name vs i v distinct there)

  -- the first member names the variant whose fields are told
  pub tag_told : (ms : List Member) → tagged (λ j. j) struct tag vs (Json-F.Object (member tag (WordsJson (tagged_name v)) ∷ ms)) ≡ at_variant i v
  tag_told ms =
      let first : value_named (member tag (WordsJson (tagged_name v)) ∷ ms) tag ≡ Some (WordsJson (tagged_name v)) = rw (same_name tag) refl in
      rw first name_told
