-- The derived comparison of descriptors tells whether they are equal.
use Rattle.std.proofs.Common.{◌≡◌, ◌↔◌, IsTrue, ◌∙◌, ℕ, List, Option, Some, None, Bool, true, ◌&&◌, map, nat_eq, bytes_eq, refl, sym, ap, subst}
use Rattle.std.specs.Bool.{beq}
use Rattle.std.specs.Cmp.Lexicographic.{pointwise}
use Rattle.std.specs.Option.{option_eq}
use Rattle.std.specs.Ordering.{int_eq}
use Rattle.schema_values.proofs.CallerLemmas.{IsSameBy, SameFields, ◌⨾◌, both, same_each, same_value}
use Rattle.descriptors.specs.contracts.desc.DescEq.TheImpl.Laws as desc_equal
use Rattle.descriptors.specs.contracts.desc.DescPartialEq.TheImpl as desc_test
use Rattle.descriptors.specs.contracts.desc.DescPartialEq.TheImpl.Laws as desc_laws
use Rattle.descriptors.specs.contracts.desc.FieldEq.TheImpl.Laws as field_equal
use Rattle.descriptors.specs.contracts.desc.FieldPartialEq.TheImpl as field_test
use Rattle.descriptors.specs.contracts.desc.FieldPartialEq.TheImpl.Laws as field_laws
use Rattle.descriptors.specs.contracts.desc.TaggedVariantEq.TheImpl.Laws as tagged_equal
use Rattle.descriptors.specs.contracts.desc.TaggedVariantPartialEq.TheImpl as tagged_test
use Rattle.descriptors.specs.contracts.desc.TaggedVariantPartialEq.TheImpl.Laws as tagged_laws
use Rattle.descriptors.specs.contracts.desc.VariantEq.TheImpl.Laws as variant_equal
use Rattle.descriptors.specs.contracts.desc.VariantPartialEq.TheImpl as variant_test
use Rattle.descriptors.specs.contracts.desc.VariantPartialEq.TheImpl.Laws as variant_laws
use Rattle.descriptors.specs.contracts.desc.NamedEq.TheImpl.Laws as named_equal
use Rattle.descriptors.specs.contracts.desc.NamedPartialEq.TheImpl as named_test
use Rattle.descriptors.specs.contracts.desc.PresenceEq.TheImpl.Laws as presence_equal
use Rattle.descriptors.specs.contracts.desc.PresencePartialEq.TheImpl as presence_test
use Rattle.descriptors.specs.contracts.desc.IntKindPartialEq.TheImpl as kind_test
use Rattle.descriptors.specs.contracts.desc.Desc.{enum}
use Rattle.descriptors.specs.contracts.desc.Presence.{enum as presences}
use Rattle.descriptors.specs.contracts.desc.IntKind.{the_type as kinds}
use Rattle.descriptors.specs.contracts.table.DefinitionEq.TheImpl.Laws as definition_equal
use Rattle.descriptors.specs.contracts.table.DefinitionPartialEq.TheImpl as definition_test
use Rattle.descriptors.specs.declared.desc.Desc.{Desc}
use Rattle.descriptors.specs.declared.desc.Desc.TheBlock.{split-Desc, the_members, the_sigs, the_carrier}
use Rattle.descriptors.specs.declared.desc.Desc.TheFolds.{ind-Desc, ind-Field, ind-TaggedVariant, ind-Variant, map-Desc, map-Field, map-TaggedVariant, map-Variant}
use Rattle.descriptors.specs.declared.desc.Desc.TheOpen.{Desc-F, Field-F, TaggedVariant-F, Variant-F}
use Rattle.descriptors.specs.declared.desc.Desc.TheViews.{roll-Desc, roll-Field, roll-TaggedVariant, roll-Variant, out-TaggedVariant, out-roll-Desc, out-roll-TaggedVariant, roll-out-TaggedVariant}
use Rattle.descriptors.specs.declared.desc.Field.{Field}
use Rattle.descriptors.specs.declared.desc.IntKind.{IntKind}
use Rattle.descriptors.specs.declared.desc.Named.{Named}
use Rattle.descriptors.specs.declared.desc.Presence.{Presence}
use Rattle.descriptors.specs.declared.desc.Presence.TheVariants.{Required, Nullable, Skipped, Default}
use Rattle.descriptors.specs.declared.desc.TaggedVariant.{TaggedVariant}
use Rattle.descriptors.specs.declared.desc.Variant.{Variant}
use Rattle.descriptors.specs.declared.table.Definition.{Definition}
use Rattle.descriptors.specs.Definitions.{definition_with}
use Rattle.descriptors.proofs.EqualParts.{same_truth, same_count, same_number, same_text, same_known, same_option, same_list}
use Rattle.descriptors.proofs.EqualTrees.{tree_eq, same_tree}
use denote.Enum.Bare.{same_true}
use denote.Enum.Compared.{Each}
use denote.Enum.Declared.{Choice}
use denote.Hole.Carrier.{Values as Held}

abbrev pub desc_eq : Desc → Desc → Bool
desc_eq = desc_test.ghosts.eq

abbrev pub field_eq : Field → Field → Bool
field_eq = field_test.ghosts.eq

abbrev pub tagged_eq : TaggedVariant → TaggedVariant → Bool
tagged_eq = tagged_test.ghosts.eq

abbrev pub variant_eq : Variant → Variant → Bool
variant_eq = variant_test.ghosts.eq

abbrev pub named_eq : Named → Named → Bool
named_eq = named_test.ghosts.eq

abbrev pub presence_eq : Presence → Presence → Bool
presence_eq = presence_test.ghosts.eq

abbrev kind_eq : IntKind → IntKind → Bool
kind_eq = kind_test.ghosts.eq

abbrev pub definition_eq : Definition → Definition → Bool
definition_eq = definition_test.ghosts.eq

same_kind : (k : IntKind) → IsSameBy kind_eq k
same_kind k other e = same_true kinds tt k other e

-- a name and what a document says of it
same_named : (n : Named) → IsSameBy named_eq n
same_named n other e =
    let b = both (bytes_eq n.name other.name) (option_eq bytes_eq n.description other.description) e in
    λ i. record { name = same_text n.name other.name b.0 i; description = same_option bytes_eq same_text n.description other.description b.1 i }

-- how two presences of one variant are compared
abbrev each_presence : Each Bool presences.parts
each_presence = (λ a b. true) ⨾ (λ a b. true) ⨾ (λ a b. true) ⨾ (λ a b. tree_eq a.0 b.0) ⨾ tt

same_presence : (p : Presence) → IsSameBy presence_eq p
same_presence p other e = same_value presences each_presence p other (presences.as_values p) refl (fields p) e
  where
    fields : (p : Presence) → SameFields presences.parts each_presence (presences.as_values p)
    fields Required = λ v e. refl
    fields Nullable = λ v e. refl
    fields Skipped = λ v e. refl
    fields (Default tree) = λ v e. ap (λ c. (c, tt)) (same_tree tree v.0 e)

abbrev KnownDesc : Type 0
KnownDesc = (x : Desc) × IsSameBy desc_eq x

abbrev KnownField : Type 0
KnownField = (x : Field) × IsSameBy field_eq x

abbrev KnownTagged : Type 0
KnownTagged = (x : TaggedVariant) × IsSameBy tagged_eq x

abbrev KnownVariant : Type 0
KnownVariant = (x : Variant) × IsSameBy variant_eq x

-- how two descriptors of one variant are compared
abbrev each : Each Bool enum.parts
each = (λ a b. true) ⨾ (λ a b. true) ⨾ (λ a b. true) ⨾ (λ a b. true) ⨾ (λ a b. true)
    ⨾ (λ a b. kind_eq a.0 b.0 && (option_eq int_eq a.1.0 b.1.0 && option_eq int_eq a.1.1.0 b.1.1.0))
    ⨾ (λ a b. option_eq nat_eq a.0 b.0 && (option_eq nat_eq a.1.0 b.1.0 && option_eq bytes_eq a.1.1.0 b.1.1.0))
    ⨾ (λ a b. pointwise named_eq a.0 b.0)
    ⨾ (λ a b. desc_eq a.0 b.0)
    ⨾ (λ a b. desc_eq a.0 b.0 && (option_eq nat_eq a.1.0 b.1.0 && option_eq nat_eq a.1.1.0 b.1.1.0))
    ⨾ (λ a b. desc_eq a.0 b.0)
    ⨾ (λ a b. pointwise field_eq a.0 b.0 && beq a.1.0 b.1.0)
    ⨾ (λ a b. pointwise variant_eq a.0 b.0)
    ⨾ (λ a b. bytes_eq a.0 b.0 && pointwise tagged_eq a.1.0 b.1.0)
    ⨾ (λ a b. pointwise desc_eq a.0 b.0)
    ⨾ (λ a b. bytes_eq a.0 b.0)
    ⨾ tt

abbrev Level : Type 0
Level = Desc-F Desc Field TaggedVariant Variant

abbrev KnownLevel : Type 0
KnownLevel = Desc-F KnownDesc KnownField KnownTagged KnownVariant

abbrev parts_of : Level → Choice enum.parts
parts_of level = split-Desc (Held the_members the_sigs the_carrier) level

same_level : (level : Level) → SameFields enum.parts each (parts_of level) → IsSameBy desc_eq (roll-Desc level)
same_level level same other e =
    same_value enum each (roll-Desc level) other (parts_of level) (ap parts_of (out-roll-Desc level)) same (sym (desc_laws.is (roll-Desc level) other) ∙ e)

row : (level : KnownLevel) → IsSameBy desc_eq (roll-Desc (map-Desc KnownDesc KnownField KnownTagged KnownVariant Desc Field TaggedVariant Variant (λ e. e.0) (λ e. e.0) (λ e. e.0) (λ e. e.0) level))
row Desc-F.Any = same_level Desc-F.Any (λ v e. refl)
row Desc-F.Never = same_level Desc-F.Never (λ v e. refl)
row Desc-F.Null = same_level Desc-F.Null (λ v e. refl)
row Desc-F.Bool = same_level Desc-F.Bool (λ v e. refl)
row Desc-F.Char = same_level Desc-F.Char (λ v e. refl)
row (Desc-F.Int kind min max) = same_level (Desc-F.Int kind min max) (λ v e.
    let b = both (kind_eq kind v.0) (option_eq int_eq min v.1.0 && option_eq int_eq max v.1.1.0) e in
    let c = both (option_eq int_eq min v.1.0) (option_eq int_eq max v.1.1.0) b.1 in
    λ i. (same_kind kind v.0 b.0 i, (same_option int_eq same_number min v.1.0 c.0 i, (same_option int_eq same_number max v.1.1.0 c.1 i, tt))))
row (Desc-F.Text min max format) = same_level (Desc-F.Text min max format) (λ v e.
    let b = both (option_eq nat_eq min v.0) (option_eq nat_eq max v.1.0 && option_eq bytes_eq format v.1.1.0) e in
    let c = both (option_eq nat_eq max v.1.0) (option_eq bytes_eq format v.1.1.0) b.1 in
    λ i. (same_option nat_eq same_count min v.0 b.0 i, (same_option nat_eq same_count max v.1.0 c.0 i, (same_option bytes_eq same_text format v.1.1.0 c.1 i, tt))))
row (Desc-F.Enumeration names) = same_level (Desc-F.Enumeration names) (λ v e. ap (λ c. (c, tt)) (same_list named_eq same_named names v.0 e))
row (Desc-F.Option d) = same_level (Desc-F.Option d.0) (λ v e. ap (λ c. (c, tt)) (d.1 v.0 e))
row (Desc-F.List item min max) = same_level (Desc-F.List item.0 min max) (λ v e.
    let b = both (desc_eq item.0 v.0) (option_eq nat_eq min v.1.0 && option_eq nat_eq max v.1.1.0) e in
    let c = both (option_eq nat_eq min v.1.0) (option_eq nat_eq max v.1.1.0) b.1 in
    λ i. (item.1 v.0 b.0 i, (same_option nat_eq same_count min v.1.0 c.0 i, (same_option nat_eq same_count max v.1.1.0 c.1 i, tt))))
row (Desc-F.Map d) = same_level (Desc-F.Map d.0) (λ v e. ap (λ c. (c, tt)) (d.1 v.0 e))
row (Desc-F.Struct fields deny) = same_level (Desc-F.Struct (map (λ e. e.0) fields) deny) (λ v e.
    let b = both (pointwise field_eq (map (λ k. k.0) fields) v.0) (beq deny v.1.0) e in
    λ i. (same_each field_eq fields v.0 b.0 i, (same_truth deny v.1.0 b.1 i, tt)))
row (Desc-F.External variants) = same_level (Desc-F.External (map (λ e. e.0) variants)) (λ v e. ap (λ c. (c, tt)) (same_each variant_eq variants v.0 e))
row (Desc-F.Tagged tag variants) = same_level (Desc-F.Tagged tag (map (λ e. e.0) variants)) (λ v e.
    let b = both (bytes_eq tag v.0) (pointwise tagged_eq (map (λ k. k.0) variants) v.1.0) e in
    λ i. (same_text tag v.0 b.0 i, (same_each tagged_eq variants v.1.0 b.1 i, tt)))
row (Desc-F.Untagged ds) = same_level (Desc-F.Untagged (map (λ e. e.0) ds)) (λ v e. ap (λ c. (c, tt)) (same_each desc_eq ds v.0 e))
row (Desc-F.Ref name) = same_level (Desc-F.Ref name) (λ v e. ap (λ c. (c, tt)) (same_text name v.0 e))

field_row : (level : Field-F KnownDesc KnownField KnownTagged KnownVariant) → IsSameBy field_eq (roll-Field (map-Field KnownDesc KnownField KnownTagged KnownVariant Desc Field TaggedVariant Variant (λ e. e.0) (λ e. e.0) (λ e. e.0) (λ e. e.0) level))
field_row level other e =
    let b = both (bytes_eq level.name other.name) (desc_eq level.desc.0 other.desc && (presence_eq level.presence other.presence && option_eq bytes_eq level.description other.description)) (sym (field_laws.is _ other) ∙ e) in
    let c = both (desc_eq level.desc.0 other.desc) (presence_eq level.presence other.presence && option_eq bytes_eq level.description other.description) b.1 in
    let d = both (presence_eq level.presence other.presence) (option_eq bytes_eq level.description other.description) c.1 in
    λ i. record {
      name = same_text level.name other.name b.0 i;
      desc = level.desc.1 other.desc c.0 i;
      presence = same_presence level.presence other.presence d.0 i;
      description = same_option bytes_eq same_text level.description other.description d.1 i;
    }

abbrev tagged_told : TaggedVariant-F Desc Field TaggedVariant Variant → TaggedVariant-F Desc Field TaggedVariant Variant → Bool
tagged_told l o = bytes_eq l.name o.name && (option_eq bytes_eq l.description o.description && pointwise field_eq l.fields o.fields)

tagged_row : (level : TaggedVariant-F KnownDesc KnownField KnownTagged KnownVariant) → IsSameBy tagged_eq (roll-TaggedVariant (map-TaggedVariant KnownDesc KnownField KnownTagged KnownVariant Desc Field TaggedVariant Variant (λ e. e.0) (λ e. e.0) (λ e. e.0) (λ e. e.0) level))
tagged_row level other e =
    let l : TaggedVariant-F Desc Field TaggedVariant Variant = map-TaggedVariant KnownDesc KnownField KnownTagged KnownVariant Desc Field TaggedVariant Variant (λ e. e.0) (λ e. e.0) (λ e. e.0) (λ e. e.0) level in
    let o = out-TaggedVariant other in
    let told : tagged_told l o ≡ true
    = subst (λ (x : TaggedVariant-F Desc Field TaggedVariant Variant). tagged_told x o ≡ true) (out-roll-TaggedVariant l) (sym (tagged_laws.is (roll-TaggedVariant l) other) ∙ e) in
    let b = both (bytes_eq l.name o.name) (option_eq bytes_eq l.description o.description && pointwise field_eq l.fields o.fields) told in
    let c = both (option_eq bytes_eq l.description o.description) (pointwise field_eq l.fields o.fields) b.1 in
    (λ i. roll-TaggedVariant (record {
      name = same_text level.name o.name b.0 i;
      description = same_option bytes_eq same_text level.description o.description c.0 i;
      fields = same_each field_eq level.fields o.fields c.1 i;
    })) ∙ roll-out-TaggedVariant other

-- a variant with a payload, and one without
with_payload : (name : List ℕ) (description : Option (List ℕ)) (payload : Option KnownDesc) → IsSameBy variant_eq (roll-Variant (map-Variant KnownDesc KnownField KnownTagged KnownVariant Desc Field TaggedVariant Variant (λ e. e.0) (λ e. e.0) (λ e. e.0) (λ e. e.0) (record { name = name; description = description; payload = payload })))
with_payload name description None other e =
    let b = both (bytes_eq name other.name) (option_eq bytes_eq description other.description && option_eq desc_eq None other.payload) (sym (variant_laws.is _ other) ∙ e) in
    let c = both (option_eq bytes_eq description other.description) (option_eq desc_eq None other.payload) b.1 in
    λ i. record {
      name = same_text name other.name b.0 i;
      description = same_option bytes_eq same_text description other.description c.0 i;
      payload = same_known desc_eq None other.payload c.1 i;
    }
with_payload name description (Some d) other e =
    let b = both (bytes_eq name other.name) (option_eq bytes_eq description other.description && option_eq desc_eq (Some d.0) other.payload) (sym (variant_laws.is _ other) ∙ e) in
    let c = both (option_eq bytes_eq description other.description) (option_eq desc_eq (Some d.0) other.payload) b.1 in
    λ i. record {
      name = same_text name other.name b.0 i;
      description = same_option bytes_eq same_text description other.description c.0 i;
      payload = same_known desc_eq (Some d) other.payload c.1 i;
    }

variant_row : (level : Variant-F KnownDesc KnownField KnownTagged KnownVariant) → IsSameBy variant_eq (roll-Variant (map-Variant KnownDesc KnownField KnownTagged KnownVariant Desc Field TaggedVariant Variant (λ e. e.0) (λ e. e.0) (λ e. e.0) (λ e. e.0) level))
variant_row level = with_payload level.name level.description level.payload

at_desc : (level : Desc-F Desc Field TaggedVariant Variant) (known : Desc-F KnownDesc KnownField KnownTagged KnownVariant) → map-Desc KnownDesc KnownField KnownTagged KnownVariant Desc Field TaggedVariant Variant (λ e. e.0) (λ e. e.0) (λ e. e.0) (λ e. e.0) known ≡ level → IsSameBy desc_eq (roll-Desc level)
at_desc level known is = subst (λ (l : Desc-F Desc Field TaggedVariant Variant). IsSameBy desc_eq (roll-Desc l)) is (row known)

at_field : (level : Field-F Desc Field TaggedVariant Variant) (known : Field-F KnownDesc KnownField KnownTagged KnownVariant) → map-Field KnownDesc KnownField KnownTagged KnownVariant Desc Field TaggedVariant Variant (λ e. e.0) (λ e. e.0) (λ e. e.0) (λ e. e.0) known ≡ level → IsSameBy field_eq (roll-Field level)
at_field level known is = subst (λ (l : Field-F Desc Field TaggedVariant Variant). IsSameBy field_eq (roll-Field l)) is (field_row known)

at_tagged : (level : TaggedVariant-F Desc Field TaggedVariant Variant) (known : TaggedVariant-F KnownDesc KnownField KnownTagged KnownVariant) → map-TaggedVariant KnownDesc KnownField KnownTagged KnownVariant Desc Field TaggedVariant Variant (λ e. e.0) (λ e. e.0) (λ e. e.0) (λ e. e.0) known ≡ level → IsSameBy tagged_eq (roll-TaggedVariant level)
at_tagged level known is = subst (λ (l : TaggedVariant-F Desc Field TaggedVariant Variant). IsSameBy tagged_eq (roll-TaggedVariant l)) is (tagged_row known)

at_variant : (level : Variant-F Desc Field TaggedVariant Variant) (known : Variant-F KnownDesc KnownField KnownTagged KnownVariant) → map-Variant KnownDesc KnownField KnownTagged KnownVariant Desc Field TaggedVariant Variant (λ e. e.0) (λ e. e.0) (λ e. e.0) (λ e. e.0) known ≡ level → IsSameBy variant_eq (roll-Variant level)
at_variant level known is = subst (λ (l : Variant-F Desc Field TaggedVariant Variant). IsSameBy variant_eq (roll-Variant l)) is (variant_row known)

pub desc_eq-tells : (x other : Desc) → IsTrue (desc_eq x other) ↔ (x ≡ other)
desc_eq-tells x other = (ind-Desc (IsSameBy desc_eq) (IsSameBy field_eq) (IsSameBy tagged_eq) (IsSameBy variant_eq) at_desc at_field at_tagged at_variant x other, λ is. subst (λ (o : Desc). desc_eq x o ≡ true) is (desc_equal.laws-law.refl x))

pub field_eq-tells : (x other : Field) → IsTrue (field_eq x other) ↔ (x ≡ other)
field_eq-tells x other = (ind-Field (IsSameBy desc_eq) (IsSameBy field_eq) (IsSameBy tagged_eq) (IsSameBy variant_eq) at_desc at_field at_tagged at_variant x other, λ is. subst (λ (o : Field). field_eq x o ≡ true) is (field_equal.laws-law.refl x))

pub tagged_eq-tells : (x other : TaggedVariant) → IsTrue (tagged_eq x other) ↔ (x ≡ other)
tagged_eq-tells x other = (ind-TaggedVariant (IsSameBy desc_eq) (IsSameBy field_eq) (IsSameBy tagged_eq) (IsSameBy variant_eq) at_desc at_field at_tagged at_variant x other, λ is. subst (λ (o : TaggedVariant). tagged_eq x o ≡ true) is (tagged_equal.laws-law.refl x))

pub variant_eq-tells : (x other : Variant) → IsTrue (variant_eq x other) ↔ (x ≡ other)
variant_eq-tells x other = (ind-Variant (IsSameBy desc_eq) (IsSameBy field_eq) (IsSameBy tagged_eq) (IsSameBy variant_eq) at_desc at_field at_tagged at_variant x other, λ is. subst (λ (o : Variant). variant_eq x o ≡ true) is (variant_equal.laws-law.refl x))

pub named_eq-tells : (x other : Named) → IsTrue (named_eq x other) ↔ (x ≡ other)
named_eq-tells x other = (same_named x other, λ is. subst (λ (o : Named). named_eq x o ≡ true) is (named_equal.laws-law.refl x))

pub presence_eq-tells : (x other : Presence) → IsTrue (presence_eq x other) ↔ (x ≡ other)
presence_eq-tells x other = (same_presence x other, λ is. subst (λ (o : Presence). presence_eq x o ≡ true) is (presence_equal.laws-law.refl x))

-- a definition whose description is this one is that of a descriptor under its name
pub says_tells : (x : Definition) (description : Option (List ℕ)) (desc : Desc) → option_eq bytes_eq x.description description ≡ true
    → IsTrue (desc_eq x.desc desc) ↔ (x ≡ definition_with x.name description desc)
says_tells x description desc e = (
  λ told. λ i. record { name = x.name; description = same_option bytes_eq same_text x.description description e i; desc = (desc_eq-tells x.desc desc).0 told i },
  λ is. (desc_eq-tells x.desc desc).1 (λ i. (is i).desc),
)

pub definition_eq-tells : (x other : Definition) → IsTrue (definition_eq x other) ↔ (x ≡ other)
definition_eq-tells x other = (same, λ is. subst (λ (o : Definition). definition_eq x o ≡ true) is (definition_equal.laws-law.refl x))
  where
    same : definition_eq x other ≡ true → x ≡ other
    same e =
        let b = both (bytes_eq x.name other.name) (option_eq bytes_eq x.description other.description && desc_eq x.desc other.desc) e in
        let c = both (option_eq bytes_eq x.description other.description) (desc_eq x.desc other.desc) b.1 in
        λ i. record { name = same_text x.name other.name b.0 i; description = same_option bytes_eq same_text x.description other.description c.0 i; desc = (desc_eq-tells x.desc other.desc).0 c.1 i }
