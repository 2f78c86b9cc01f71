-- Two tables that have the same definitions under the names that a descriptor reaches draw the same schemas, of it and
-- of what it reaches.
use Rattle.std.proofs.Common.{◌≡◌, ℕ, false, codes, List, [], ◌∷◌, map, Option, Some, None, option_map, refl, sym, ◌∙◌}
use Rattle.std.proofs.Common.{ap, ap₂, MatchOption}
use Rattle.std.specs.List.{AllByRecursion}
use Rattle.std.specs.Prelude.{⊤, Contains}
use Rattle.schema_values.specs.declared.json_value.Json.{Json, List as Items}
use Rattle.schema_values.specs.declared.json_value.Member.{Member}
use Rattle.schema_values.specs.Member.{member}
use Rattle.schema_values.proofs.CallerLemmas.{contains_first, contains_later}
use Rattle.descriptors.specs.declared.desc.Desc.{Desc, out-Desc}
use Rattle.descriptors.specs.declared.desc.Desc.TheOpen.{Desc-F}
use Rattle.descriptors.specs.declared.desc.Desc.TheViews.{roll-Desc, out-roll-Desc}
use Rattle.descriptors.specs.declared.desc.Field.{Field}
use Rattle.descriptors.specs.declared.desc.Presence.{Presence}
use Rattle.descriptors.specs.declared.desc.Presence.TheVariants.{Required, Nullable, Skipped, Default}
use Rattle.descriptors.specs.declared.desc.TaggedVariant.{TaggedVariant}
use Rattle.descriptors.specs.declared.desc.Variant.{Variant}
use Rattle.descriptors.specs.declared.table.Definition.{Definition}
use Rattle.descriptors.specs.Definitions.{entry_of, tagged_description, tagged_fields, tagged_name}
use Rattle.descriptors.proofs.CallerLemmas.{definition_is}
use Rattle.typed_values.specs.Checks.{DescPasses, TablePasses}
use Rattle.typed_values.specs.DescBeside.{Beside, VariantBeside, beside_with, field_with, tagged_with, variant_with}
use Rattle.typed_values.specs.DescBeside.{level_with}
use Rattle.typed_values.specs.Guarded.{IsGuarded}
use Rattle.typed_values.specs.Levels.{DescLevel}
use Rattle.typed_values.specs.Parts.{the_whole}
use Rattle.typed_values.specs.Reached.{Mentions, IsReached, directly, through}
use Rattle.typed_values.specs.SchemaTable.{Drawn, DrawnField, DrawnTagged, default_of, defaulted, described, drawn}
use Rattle.typed_values.specs.SchemaTable.{drawn_json, drawn_step, property, property_of, required_names, struct_drawn}
use Rattle.typed_values.specs.SchemaTable.{enumerated, plain, schema_json_described, schema_json_titled, tagged_choice}
use Rattle.typed_values.proofs.CallerLemmas.{IsNeeded, of_whole, of_reached, entry_inside, stands_through}
use Rattle.typed_values.proofs.CallerLemmas.{option_needed, list_needed, map_needed, field_needed, payload_needed}
use Rattle.typed_values.proofs.CallerLemmas.{variant_needed, alternative_needed, InField, InFields, InTagged, InVariant}
use Rattle.typed_values.proofs.CallerLemmas.{KnownLevel, firsts, by_levels, each_holds, made_row}
use Rattle.api_documents.specs.Accepted.{TablesAgree}
use Rattle.api_documents.proofs.SameTables.{AgreeOnReached, same_json}

-- what a descriptor mentions that stands in a whole one, or in what this reaches, the whole one reaches
mentioned : (table : List Definition) (whole inner : Desc) (name : List ℕ) → IsNeeded table whole inner
    → Mentions inner name → IsReached table whole name
mentioned table whole inner name (of_whole s) (d, t, e) = directly name (d, stands_through s t, e)
mentioned table whole inner name (of_reached other y r f s) (d, t, e) =
    through other name y r f (d, stands_through s t, e)

-- so with all that it reaches
reached_inside : (table : List Definition) (whole inner : Desc) (name : List ℕ) → IsNeeded table whole inner
    → IsReached table inner name → IsReached table whole name
reached_inside table whole inner name need (directly _ m) = mentioned table whole inner name need m
reached_inside table whole inner name need (through other _ y r f m) =
    through other name y (reached_inside table whole inner other need r) f m

module _ (table other : List Definition) (whole : Desc) (agree : AgreeOnReached table other whole)
    (guarded : IsGuarded table) (guarded_other : IsGuarded other) where
  -- ---- what a field adds to a schema

  same_default : (p : Presence) (d : Desc) → IsNeeded table whole d → default_of table p d ≡ default_of other p d
  same_default Required d need = refl
  same_default Nullable d need = refl
  same_default Skipped d need = refl
  same_default (Default tree) d need =
      ap Some (same_json table other d
      (λ name r. agree name (reached_inside table whole d name need r)) guarded guarded_other tree)

  module _ (g : Desc → Drawn) where
    same_properties : (fs : List Field) → ((f : Field) → Contains fs f → IsNeeded table whole f.desc)
        → map (property_of table) (map (field_with g) fs) ≡ map (property_of other) (map (field_with g) fs)
    same_properties [] need = refl
    same_properties (f ∷ fs) need =
        ap₂ (λ (o : Option Json) (ms : List Member). property f.name
        (defaulted o (described f.description (g f.desc))) ∷ ms)
        (same_default f.presence f.desc (need f (contains_first f fs)))
        (same_properties fs (λ x c. need x (contains_later f fs x c)))

    same_choices : (tag : List ℕ) (vs : List TaggedVariant)
        → ((v : TaggedVariant) (f : Field) → Contains vs v → Contains (tagged_fields v) f → IsNeeded table whole f.desc)
        → map (tagged_choice table tag) (map (tagged_with g) vs)
        ≡ map (tagged_choice other tag) (map (tagged_with g) vs)
    same_choices tag [] need = refl
    same_choices tag (v ∷ vs) need =
        ap₂ (λ (ms : List Member) (l : List Json).
        drawn_json
        (described (tagged_description v)
        (struct_drawn (property tag (enumerated (tagged_name v ∷ [])) ∷ ms)
        (tag ∷ required_names (map (field_with g) (tagged_fields v))) false)) ∷ l)
        (same_properties (tagged_fields v) (λ f c. need v f (contains_first v vs) c))
        (same_choices tag vs (λ w f c k. need w f (contains_later v vs w c) k))

    same_step : (d : Desc) (y : DescLevel) → out-Desc d ≡ y → IsNeeded table whole d
        → drawn_step table (level_with g y) ≡ drawn_step other (level_with g y)
    same_step d (Desc-F.Struct fs deny) e need =
        ap (λ (ms : List Member). struct_drawn ms (required_names (map (field_with g) fs)) deny)
        (same_properties fs (λ f c. field_needed table whole d fs deny f e c need))
    same_step d (Desc-F.Tagged tag vs) e need =
        ap (λ (js : List Json). plain (member (codes "oneOf") (Items js) ∷ []))
        (same_choices tag vs (λ v f c k. variant_needed table whole d tag vs v f e c k need))
    same_step d _ e need = refl

  -- ---- what a descriptor is made of is drawn the same

  abbrev Same : Desc → Type 0
  Same d = IsNeeded table whole d → drawn table d ≡ drawn other d

  same_beside : (d : Desc) → drawn table d ≡ drawn other d → beside_with (drawn table) d ≡ beside_with (drawn other) d
  same_beside d is = ap (λ (s : Drawn). record { desc = d; made = s }) is

  same_descs : (ds : List Desc) → AllByRecursion Same ds → ((x : Desc) → Contains ds x → IsNeeded table whole x)
      → map (beside_with (drawn table)) ds ≡ map (beside_with (drawn other)) ds
  same_descs [] h need = refl
  same_descs (d ∷ ds) h need =
      ap₂ (λ (a : Beside Drawn) (l : List (Beside Drawn)). a ∷ l) (same_beside d (h.0 (need d (contains_first d ds))))
      (same_descs ds h.1 (λ x c. need x (contains_later d ds x c)))

  same_fields : (fs : List Field) → InFields Same fs → ((f : Field) → Contains fs f → IsNeeded table whole f.desc)
      → map (field_with (drawn table)) fs ≡ map (field_with (drawn other)) fs
  same_fields [] h need = refl
  same_fields (f ∷ fs) h need =
      ap₂ (λ (a : Beside Drawn)
      (l : List DrawnField).
      record { name = f.name; desc = a; presence = f.presence; description = f.description } ∷ l)
      (same_beside f.desc (h.0 (need f (contains_first f fs))))
      (same_fields fs h.1 (λ x c. need x (contains_later f fs x c)))

  same_payload : (o : Option Desc) → MatchOption o ⊤ Same → ((x : Desc) → o ≡ Some x → IsNeeded table whole x)
      → option_map (beside_with (drawn table)) o ≡ option_map (beside_with (drawn other)) o
  same_payload None h need = refl
  same_payload (Some d) h need = ap Some (same_beside d (h (need d refl)))

  same_variants : (vs : List Variant) → AllByRecursion (InVariant Same) vs
      → ((v : Variant) (x : Desc) → Contains vs v → v.payload ≡ Some x → IsNeeded table whole x)
      → map (variant_with (drawn table)) vs ≡ map (variant_with (drawn other)) vs
  same_variants [] h need = refl
  same_variants (v ∷ vs) h need =
      ap₂ (λ (p : Option (Beside Drawn))
      (l : List (VariantBeside Drawn)). record { name = v.name; description = v.description; payload = p } ∷ l)
      (same_payload v.payload h.0 (λ x p. need v x (contains_first v vs) p))
      (same_variants vs h.1 (λ w x c p. need w x (contains_later v vs w c) p))

  same_tagged : (vs : List TaggedVariant) → AllByRecursion (InTagged Same) vs
      → ((v : TaggedVariant) (f : Field) → Contains vs v → Contains (tagged_fields v) f → IsNeeded table whole f.desc)
      → map (tagged_with (drawn table)) vs ≡ map (tagged_with (drawn other)) vs
  same_tagged [] h need = refl
  same_tagged (v ∷ vs) h need =
      ap₂ (λ (fs : List DrawnField)
      (l : List DrawnTagged). record { name = tagged_name v; description = tagged_description v; fields = fs } ∷ l)
      (same_fields (tagged_fields v) h.0 (λ f c. need v f (contains_first v vs) c))
      (same_tagged vs h.1 (λ w f c k. need w f (contains_later v vs w c) k))

  same_level : (d : Desc) (y : KnownLevel Same) → out-Desc d ≡ firsts Same y → IsNeeded table whole d
      → level_with (drawn table) (firsts Same y) ≡ level_with (drawn other) (firsts Same y)
  same_level d (Desc-F.Option x) e need =
      ap Desc-F.Option (same_beside x.0 (x.1 (option_needed table whole d x.0 e need)))
  same_level d (Desc-F.List x min max) e need =
      ap (λ (b : Beside Drawn). Desc-F.List b min max)
      (same_beside x.0 (x.1 (list_needed table whole d x.0 min max e need)))
  same_level d (Desc-F.Map x) e need = ap Desc-F.Map (same_beside x.0 (x.1 (map_needed table whole d x.0 e need)))
  same_level d (Desc-F.Struct fs deny) e need =
      ap (λ (l : List DrawnField). Desc-F.Struct l deny)
      (same_fields _ (each_holds (InField Same) fs) (λ f c. field_needed table whole d _ deny f e c need))
  same_level d (Desc-F.External vs) e need =
      ap Desc-F.External
      (same_variants _ (each_holds (InVariant Same) vs) (λ v x c p. payload_needed table whole d _ v x e c p need))
  same_level d (Desc-F.Tagged tag vs) e need =
      ap (Desc-F.Tagged tag)
      (same_tagged _ (each_holds (InTagged Same) vs) (λ v f c k. variant_needed table whole d tag _ v f e c k need))
  same_level d (Desc-F.Untagged ds) e need =
      ap Desc-F.Untagged (same_descs _ (each_holds Same ds) (λ x c. alternative_needed table whole d _ x e c need))
  same_level d _ e need = refl

  same_roll : (y : KnownLevel Same) → Same (roll-Desc (firsts Same y))
  same_roll y need =
      let d = roll-Desc (firsts Same y) in
      let out : out-Desc d ≡ firsts Same y = out-roll-Desc (firsts Same y) in
      made_row (drawn_step table) d
      ∙ ap (λ (z : DescLevel). drawn_step table (level_with (drawn table) z)) out
      ∙ ap (drawn_step table) (same_level d y out need)
      ∙ same_step (drawn other) d (firsts Same y) out need
      ∙ ap (λ (z : DescLevel). drawn_step other (level_with (drawn other) z)) (sym out)
      ∙ sym (made_row (drawn_step other) d)

  same_drawn : (d : Desc) → Same d
  same_drawn = by_levels Same same_roll

-- ---- tables in which each name that both define is defined the same

-- both define a name, and the same
abbrev pub BothHave : List Definition → List Definition → List ℕ → Type 0
BothHave table other name = (e : Definition) × (entry_of table name ≡ Some e) × (entry_of other name ≡ Some e)

module _ (table other : List Definition) (passes : TablePasses table) (passes_other : TablePasses other)
    (have : TablesAgree table other) where
  -- what a descriptor that passes its checks mentions is defined
  defined_by : (es : List Definition) (desc : Desc) → DescPasses es desc
      → (name : List ℕ) → Mentions desc name → (x : Definition) × (entry_of es name ≡ Some x)
  defined_by es desc right name (d, s, is) = by_entry (entry_of es name) refl
    where
      by_entry : (o : Option Definition) → entry_of es name ≡ o → (x : Definition) × (entry_of es name ≡ Some x)
      by_entry (Some x) g = (x, g)
      by_entry None g =
          absurd ((right d s).defined
          (name, is, definition_is es name ∙ ap (option_map (λ (x : Definition). x.desc)) g))

  -- in a table that passes its checks so is what a definition mentions
  defined_in : (es : List Definition) → TablePasses es → (at : List ℕ) (e : Definition) → entry_of es at ≡ Some e
      → (name : List ℕ) → Mentions e.desc name → (x : Definition) × (entry_of es name ≡ Some x)
  defined_in es ok at e f name m = defined_by es e.desc (ok.each e (entry_inside es at e f)) name m

  both_mentioned : (at : List ℕ) (e : Definition) → entry_of table at ≡ Some e → entry_of other at ≡ Some e
      → (name : List ℕ) → Mentions e.desc name → BothHave table other name
  both_mentioned at e f g name m =
      let (x, is) = defined_in table passes at e f name m in
      let (y, is_other) = defined_in other passes_other at e g name m in
      (x, is, is_other ∙ ap Some (sym (have name x y is is_other)))

  both_reached : (at : List ℕ) (e : Definition) → entry_of table at ≡ Some e → entry_of other at ≡ Some e
      → (name : List ℕ) → IsReached table e.desc name → BothHave table other name
  both_reached at e f g name (directly _ m) = both_mentioned at e f g name m
  both_reached at e f g name (through far _ y r is m) =
      let (x, here, there) = both_reached at e f g far r in
      let same : x ≡ y = cc (sym here ∙ is) in
      both_mentioned far y is (there ∙ ap Some same) name m

  -- they agree on what a definition reaches that they share
  pub agree_below : (at : List ℕ) (e : Definition) → entry_of table at ≡ Some e → entry_of other at ≡ Some e
      → AgreeOnReached table other e.desc
  agree_below at e f g name r = let (x, here, there) = both_reached at e f g name r in here ∙ sym there

  -- and draw it the same
  pub shared_schema : (at : List ℕ) (e f : Definition) → entry_of table at ≡ Some e → entry_of other at ≡ Some f
      → schema_json_described table e.description e.desc ≡ schema_json_described other f.description f.desc
  shared_schema at e f here there =
      let same : e ≡ f = have at e f here there in
      let agree = agree_below at e here (there ∙ ap Some (sym same)) in
      ap (λ (s : Drawn). drawn_json (described e.description s))
      (same_drawn table other e.desc agree passes.guarded passes_other.guarded e.desc (of_whole the_whole))
      ∙ ap (λ (x : Definition). schema_json_described other x.description x.desc) same

  -- ---- a descriptor that passes its checks in both

  module _ (desc : Desc) (right : DescPasses table desc) (right_other : DescPasses other desc) where
    both_led : (name : List ℕ) → IsReached table desc name → BothHave table other name
    both_led name (directly _ m) =
        let (x, is) = defined_by table desc right name m in
        let (y, is_other) = defined_by other desc right_other name m in
        (x, is, is_other ∙ ap Some (sym (have name x y is is_other)))
    both_led name (through far _ y r is m) =
        let (x, here, there) = both_led far r in
        let same : x ≡ y = cc (sym here ∙ is) in
        both_mentioned far y is (there ∙ ap Some same) name m

    agree_on : AgreeOnReached table other desc
    agree_on name r = let (x, here, there) = both_led name r in here ∙ sym there

    -- both draw it the same, with the name of its type
    pub shared_titled : (name : List ℕ) → schema_json_titled table name desc ≡ schema_json_titled other name desc
    shared_titled name = by_form (out-Desc desc) refl
      where
        same : drawn table desc ≡ drawn other desc
        same =
            same_drawn table other desc agree_on passes.guarded passes_other.guarded desc (of_whole the_whole)

        under : drawn_json (record (drawn table desc) { title = Some name })
            ≡ drawn_json (record (drawn other desc) { title = Some name })
        under = ap (λ (s : Drawn). drawn_json (record s { title = Some name })) same

        by_form : (z : DescLevel) → out-Desc desc ≡ z
            → schema_json_titled table name desc ≡ schema_json_titled other name desc
        by_form (Desc-F.Ref at) e = rw e (ap drawn_json same)
        by_form _ e = rw e under
