-- A tree that a sound JSON value denotes under a descriptor is a value of the descriptor.
use Rattle.std.proofs.Common.{◌≡◌, ℕ, zero, suc, Bool, true, false, List, [], ◌∷◌, map, Option, Some, None, option_map, bytes_eq, cond, refl, sym, ◌∙◌, ap, subst, MatchOption, arith, inl, inr}
use Rattle.std.proofs.lemmas.Bool.{true_from_ne_false}
use Rattle.std.specs.List.{AllByRecursion}
use Rattle.std.specs.Prelude.{⊤, Contains, IfSome}
use Rattle.schema_values.specs.declared.json_value.Json.{Json, out-Json}
use Rattle.schema_values.specs.declared.json_value.Json.TheFolds.{ind-Json, map-Json}
use Rattle.schema_values.specs.declared.json_value.Json.TheOpen.{Json-F, Member-F}
use Rattle.schema_values.specs.declared.json_value.Json.TheVariants.{rolls-List, rolls-Object}
use Rattle.schema_values.specs.declared.json_value.Json.TheViews.{roll-Json, out-roll-Json}
use Rattle.schema_values.specs.declared.json_value.Member.{Member}
use Rattle.schema_values.specs.Member.{name_of}
use Rattle.schema_values.specs.Sound.{IsSound, AreDistinct}
use Rattle.schema_values.specs.SoundMembers.{HasSoundValue, HasSoundMembers}
use Rattle.schema_values.proofs.CallerLemmas.{IsSound-List, IsSound-Object, contains_first, contains_later, contains_cases}
use Rattle.descriptors.specs.declared.desc.Desc.{Desc, Null as NullDesc, Option as OptionOf, out-Desc}
use Rattle.descriptors.specs.declared.desc.Desc.TheOpen.{Desc-F}
use Rattle.descriptors.specs.declared.desc.Desc.TheVariants as desc
use Rattle.descriptors.specs.declared.desc.Desc.TheViews.{roll-out-Desc, roll-Desc}
use Rattle.descriptors.specs.declared.desc.Field.{Field}
use Rattle.descriptors.specs.declared.desc.TaggedVariant.{TaggedVariant}
use Rattle.descriptors.specs.declared.desc.Presence.{Presence}
use Rattle.descriptors.specs.declared.desc.Presence.TheVariants.{Required, Nullable, Skipped, Default}
use Rattle.typed_values.specs.declared.fault.Place.TheVariants.{Name, Item}
use Rattle.descriptors.specs.declared.table.Definition.{Definition}
use Rattle.descriptors.specs.declared.tree.Tree.{Tree, Unit as Nought, None as Nothing, Fields as Parts, out-Tree}
use Rattle.descriptors.specs.declared.tree.Tree.TheOpen.{Tree-F}
use Rattle.descriptors.specs.declared.tree.Tree.TheVariants as tree
use Rattle.typed_values.specs.Checks.{IsOption, IsFieldOf, of_struct, of_variant, IsBadField, no_option, default_misfits, TablePasses, DescPasses}
use Rattle.descriptors.specs.Definitions.{definition, tagged_fields}
use Rattle.typed_values.specs.Denotes.{Told, below, just, as_tree, if_absent, if_present, by_presence, value_named, unless_denied, denied_name, at_definition, room, told, JsonDenotes}
use Rattle.typed_values.specs.Fits.{nought_fits, option_fits, field_desc, parts_fit, if_there, struct_of, fits_by, fits_under, Fits}
use Rattle.typed_values.specs.Parts.{the_whole, IsPart, of_whole}
use Rattle.typed_values.specs.Rows.{told_item, value_denotes, told_field, told_fields, told_struct, row, AreFieldsOf}
use Rattle.typed_values.specs.Resting.{RestsBy, Rests}
use Rattle.typed_values.specs.Levels.{DescLevel}
use Rattle.typed_values.proofs.Arms.{definition_is_part}
use Rattle.typed_values.proofs.DenotedRows.{Gives, shown, below_gives, undenied, trees_of, whole_gives, nought_gives, truth_gives, character_gives, number_gives, words_give, name_gives, just_gives, optional_gives, items_give, entries_give, fields_give, choice_gives, bare_gives, payload_gives, tagged_gives}
use Rattle.typed_values.proofs.FitRows.{skipped_desc}
use Rattle.typed_values.proofs.FitSteps.{fits_row, nought_row, skipped_row, struct_row}
use Rattle.typed_values.proofs.Inside.{part_of_option, part_of_list, part_of_map, parts_of_untagged, fields_of_struct, payloads_of_external, variants_of_tagged}
use Rattle.typed_values.proofs.Narrower.{same_fits}
use Rattle.typed_values.proofs.Rows.{row_at}
use Rattle.typed_values.proofs.Soundness.{each_of, guarded_rests, is_right}

-- ---- the parts of a level

found_by : (P : Json → Type 0) (b : Bool) (m : Member) (o : Option Json) (j : Json) → P m.value → (o ≡ Some j → P j) → cond b (Some m.value) o ≡ Some j → P j
found_by P true m o j here later e = subst P (cc e) here
found_by P false m o j here later e = later e

found_member : (P : Json → Type 0) (ms : List Member) → ((m : Member) → Contains ms m → P m.value) → (name : List ℕ) (j : Json) → value_named ms name ≡ Some j → P j
found_member P [] all name j e = absurd (cc e)
found_member P (m ∷ ms) all name j e =
    found_by P (bytes_eq m.name name) m (value_named ms name) j (all m (contains_first m ms)) (found_member P ms (λ n c. all n (contains_later m ms n c)) name j) e

each_member : (P : Member → Type 0) (ms : List Member) → ((m : Member) → Contains ms m → P m) → AllByRecursion P ms
each_member P [] all = tt
each_member P (m ∷ ms) all = (all m (contains_first m ms), each_member P ms (λ n c. all n (contains_later m ms n c)))

-- what soundness of a level says of the values that it is made of
abbrev SoundInside : Json-F Json Member → Type 0
SoundInside (Json-F.List js) = AllByRecursion IsSound js
SoundInside (Json-F.Object ms) = HasSoundMembers ms
SoundInside _ = Unit {0}

sound_inside : (x : Json-F Json Member) → IsSound (roll-Json x) → SoundInside x
sound_inside (Json-F.List js) sound = (IsSound-List js).0 (subst IsSound (rolls-List js) sound)
sound_inside (Json-F.Object ms) sound = (IsSound-Object ms).0 (subst IsSound (rolls-Object ms) sound)
sound_inside _ sound = tt

option_by : (d : Desc) (y : DescLevel) → out-Desc d ≡ y → ((IsOption d → ⊥) → ⊥) → IsOption d
option_by d (Desc-F.Option x) e h = (x, e)
option_by d _ e h = absurd (h (λ o. cc (e, o.1)))

rolled : (d : Desc) (y : DescLevel) → out-Desc d ≡ y → d ≡ roll-Desc y
rolled d y e = sym (roll-out-Desc d) ∙ ap roll-Desc e

required_desc : (f : Field) → f.presence ≡ Required → field_desc f ≡ f.desc
required_desc f e = rw e refl

nullable_desc : (f : Field) → f.presence ≡ Nullable → field_desc f ≡ f.desc
nullable_desc f e = rw e refl

default_desc : (f : Field) (tree : Tree) → f.presence ≡ Default tree → field_desc f ≡ f.desc
default_desc f tree e = rw e refl

module _ (table : List Definition) (whole : Desc) (passes : TablePasses table) (right : DescPasses table whole) where
  -- each tree that a value denotes under a part is a value of it
  abbrev Agrees : Json → Desc → Type 0
  Agrees j d = Gives (told table whole j d) (λ t. fits_under table whole t d)

  abbrev AgreesEverywhere : Json → Type 0
  AgreesEverywhere j = (d : Desc) → IsPart table whole d → Agrees j d

  -- the same of the values that a level is made of, whose names are distinct
  abbrev AgreesInside : Json-F Json Member → Type 0
  AgreesInside (Json-F.List js) = (j : Json) → Contains js j → AgreesEverywhere j
  AgreesInside (Json-F.Object ms) = ((m : Member) → Contains ms m → AgreesEverywhere m.value) × AreDistinct (map name_of ms)
  AgreesInside _ = Unit {0}

  rests : (d : Desc) → IsPart table whole d → Rests table (room table whole) d
  rests = guarded_rests table whole passes.guarded

  fits_at : (t : Tree) (d : Desc) → IsPart table whole d → (y : DescLevel) → out-Desc d ≡ y → fits_under table whole t d ≡ fits_by table (fits_under table whole) (fits_under table whole t) y (out-Tree t)
  fits_at t d part y e = fits_row table whole t d (rests d part) ∙ ap (λ (z : DescLevel). fits_by table (fits_under table whole) (fits_under table whole t) z (out-Tree t)) e

  nothing_fits : (d : Desc) → IsPart table whole d → IsOption d → fits_under table whole Nothing d ≡ true
  nothing_fits d part (x, e) = fits_at Nothing d part (Desc-F.Option x) e ∙ ap (option_fits (λ t. fits_under table whole t x)) tree.outs-None

  nought_is_null : fits_under table whole Nought NullDesc ≡ true
  nought_is_null = nought_row table whole Nought ∙ ap nought_fits tree.outs-Unit

  nothing_skipped : (d : Desc) → fits_under table whole Nothing (OptionOf d) ≡ true
  nothing_skipped d = skipped_row table whole Nothing d ∙ ap (option_fits (λ t. fits_under table whole t d)) tree.outs-None

  just_skipped : (d : Desc) (o : Told) → Gives o (λ t. fits_under table whole t d) → Gives (just o) (λ t. fits_under table whole t (OptionOf d))
  just_skipped d o gives t e = skipped_row table whole t d ∙ just_gives (λ s. fits_under table whole s d) o gives t e

  module _ (f : Field) (part : IsPart table whole f.desc) (not_bad : IsBadField table f → ⊥) where
    absent_gives : (p : Presence) → f.presence ≡ p → Gives (if_absent p f.name) (λ t. fits_under table whole t (field_desc f))
    absent_gives Required q t e = absurd (cc e)
    absent_gives Nullable q t e =
        let is : Nothing ≡ t = cc e in
        let option : IsOption f.desc = option_by f.desc (out-Desc f.desc) refl (λ none. not_bad (no_option q none)) in
        rw (nullable_desc f q) (subst (λ (s : Tree). fits_under table whole s f.desc ≡ true) is (nothing_fits f.desc part option))
    absent_gives Skipped q t e =
        let is : Nothing ≡ t = cc e in
        rw (skipped_desc f q) (subst (λ (s : Tree). fits_under table whole s (OptionOf f.desc) ≡ true) is (nothing_skipped f.desc))
    absent_gives (Default tree) q t e =
        let is : tree ≡ t = cc e in
        let fit : fits_under table f.desc tree f.desc ≡ true = true_from_ne_false _ (λ no. not_bad (default_misfits tree q (λ yes. let w : false ≡ true = sym no ∙ yes in cc w))) in
        rw (default_desc f tree q) (subst (λ (s : Tree). fits_under table whole s f.desc ≡ true) is (same_fits table whole f.desc part passes.guarded tree ∙ fit))

    present_gives : (p : Presence) → f.presence ≡ p → (o : Told) → Gives o (λ t. fits_under table whole t f.desc) → Gives (if_present p o) (λ t. fits_under table whole t (field_desc f))
    present_gives Required q o gives t e = rw (required_desc f q) (gives t e)
    present_gives Nullable q o gives t e = rw (nullable_desc f q) (gives t e)
    present_gives Skipped q o gives t e = rw (skipped_desc f q) (just_skipped f.desc o gives t e)
    present_gives (Default tree) q o gives t e = rw (default_desc f tree q) (gives t e)

    field_gives : (o : Option Json) → ((j : Json) → o ≡ Some j → Agrees j f.desc) → Gives (by_presence f (value_denotes table whole f.desc o)) (λ t. fits_under table whole t (field_desc f))
    field_gives None agrees = absent_gives f.presence refl
    field_gives (Some j) agrees =
        present_gives f.presence refl (below (Name f.name) (told table whole j f.desc)) (λ t e. agrees j refl t (below_gives (Name f.name) (told table whole j f.desc) t e))

  struct_gives : (fs : List Field) (deny : Bool) (ms : List Member) → AreFieldsOf table whole fs → ((f : Field) → Contains fs f → IsBadField table f → ⊥)
      → ((m : Member) → Contains ms m → AgreesEverywhere m.value) → Gives (unless_denied (denied_name deny fs ms) (as_tree Parts (told_fields table whole ms fs))) (λ t. parts_fit (fits_under table whole) fs (out-Tree t))
  struct_gives fs deny ms parts none_bad agrees t e =
      let (ts, all, is) = trees_of Parts (told_fields table whole ms fs) t (undenied (denied_name deny fs ms) (as_tree Parts (told_fields table whole ms fs)) t e) in
      let fit = fields_give (fits_under table whole) (λ i f. told_field table whole ms f) 0 fs ts
      (λ f c i. field_gives f (parts f c) (none_bad f c) (value_named ms f.name) (λ j found. found_member AgreesEverywhere ms agrees f.name j found f.desc (parts f c))) all in
      shown (parts_fit (fits_under table whole) fs) t (Parts ts) (Tree-F.Fields ts) is (tree.outs-Fields ts) fit

  never_bad : (d : Desc) → IsPart table whole d → (f : Field) → IsFieldOf d f → IsBadField table f → ⊥
  never_bad d part f field bad = (is_right table whole d passes right part).presences (f, field, bad)

  -- the struct of a tagged variant, whose descriptor is one of no table
  variant_gives : (d : Desc) → IsPart table whole d → (tag : List ℕ) (vs : List TaggedVariant) → out-Desc d ≡ Desc-F.Tagged tag vs → (ms : List Member) → ((m : Member) → Contains ms m → AgreesEverywhere m.value)
      → (v : TaggedVariant) → Contains vs v → Gives (told_struct table whole (tagged_fields v) false ms) (λ t. fits_under table whole t (struct_of v))
  variant_gives d part tag vs e ms agrees v c t q =
      struct_row table whole t (tagged_fields v) false
      ∙ struct_gives (tagged_fields v) false ms (variants_of_tagged part tag vs (rolled d _ e ∙ desc.rolls-Tagged tag vs) v c) (λ f k. never_bad d part f (of_variant tag vs v e c k)) agrees t q

  found_gives : (j : Json) (n : ℕ) → ((d : Desc) → Rests table n d → IsPart table whole d → Agrees j d) → (o : Option Desc) → ((d : Desc) → o ≡ Some d → IsPart table whole d) → MatchOption o ⊤ (Rests table n)
      → Gives (at_definition (told table whole j) o) (λ t. if_there (fits_under table whole t) o)
  found_gives j n next None part h = λ t e. absurd (cc e)
  found_gives j n next (Some d) part h = next d h (part d refl)

  -- one row for each descriptor
  row_gives : (j : Json) (x : Json-F Json Member) → IsSound j → AgreesInside x → (n : ℕ) → ((d : Desc) → Rests table n d → IsPart table whole d → Agrees j d) → (d : Desc) → IsPart table whole d
      → (y : DescLevel) → out-Desc d ≡ y → RestsBy table (Rests table n) y → Gives (row table whole j x y) (λ t. fits_by table (fits_under table whole) (fits_under table whole t) y (out-Tree t))
  row_gives j x sound inside n next d part Desc-F.Any e h t q = whole_gives j sound t q
  row_gives j x sound inside n next d part Desc-F.Never e h t q = absurd (cc q)
  row_gives j x sound inside n next d part Desc-F.Null e h t q = nought_gives x t q
  row_gives j x sound inside n next d part Desc-F.Bool e h t q = truth_gives x t q
  row_gives j x sound inside n next d part Desc-F.Char e h t q = character_gives x t q
  row_gives j x sound inside n next d part (Desc-F.Int kind min max) e h t q = number_gives kind min max x t q
  row_gives j x sound inside n next d part (Desc-F.Text min max format) e h t q = words_give min max x t q
  row_gives j x sound inside n next d part (Desc-F.Enumeration ns) e h t q = name_gives (λ t. fits_under table whole t NullDesc) ns nought_is_null x t q
  row_gives j x sound inside n next d part (Desc-F.Option i) e h t q =
      optional_gives (λ t. fits_under table whole t i) x (told table whole j i) (next i h (part_of_option part i (rolled d _ e ∙ desc.rolls-Option i))) t q
  row_gives j (Json-F.List js) sound inside n next d part (Desc-F.List i min max) e h t q =
      items_give (λ t. fits_under table whole t i) (told_item table whole i) min max js
      (λ k c p s o. inside k c i (part_of_list part i min max (rolled d _ e ∙ desc.rolls-List i min max)) s (below_gives (Item p) (told table whole k i) s o)) t q
  row_gives j _ sound inside n next d part (Desc-F.List i min max) e h t q = absurd (cc q)
  row_gives j (Json-F.Object ms) sound inside n next d part (Desc-F.Map i) e h t q =
      entries_give (λ t. fits_under table whole t i) (λ k. told table whole k i) ms inside.1
      (each_member (λ m. Agrees m.value i) ms (λ m c. inside.0 m c i (part_of_map part i (rolled d _ e ∙ desc.rolls-Map i)))) t q
  row_gives j _ sound inside n next d part (Desc-F.Map i) e h t q = absurd (cc q)
  row_gives j (Json-F.Object ms) sound inside n next d part (Desc-F.Struct fs deny) e h t q =
      struct_gives fs deny ms (fields_of_struct part fs deny (rolled d _ e ∙ desc.rolls-Struct fs deny)) (λ f c. never_bad d part f (of_struct fs deny e c)) inside.0 t q
  row_gives j _ sound inside n next d part (Desc-F.Struct fs deny) e h t q = absurd (cc q)
  row_gives j (Json-F.Text s) sound inside n next d part (Desc-F.External vs) e h t q = bare_gives (fits_under table whole) vs nought_is_null s t q
  row_gives j (Json-F.Object (m ∷ [])) sound inside n next d part (Desc-F.External vs) e h t q =
      let parts = payloads_of_external part vs (rolled d _ e ∙ desc.rolls-External vs) in
      payload_gives (fits_under table whole) vs (told table whole m.value)
      (λ v c i is. inside.0 m (contains_first m []) i (subst (λ (o : Option Desc). IfSome o (IsPart table whole)) is (parts v c))) m.name t q
  row_gives j _ sound inside n next d part (Desc-F.External vs) e h t q = absurd (cc q)
  row_gives j (Json-F.Object ms) sound inside n next d part (Desc-F.Tagged tag vs) e h t q =
      tagged_gives (fits_under table whole) tag vs (λ fs. told_struct table whole fs false ms) (variant_gives d part tag vs e ms inside.0) (option_map (λ k. k) (value_named ms tag)) t q
  row_gives j _ sound inside n next d part (Desc-F.Tagged tag vs) e h t q = absurd (cc q)
  row_gives j x sound inside n next d part (Desc-F.Untagged ds) e h t q =
      choice_gives (fits_under table whole) (told table whole j) ds (λ i c. next i (each_of (Rests table n) ds i h c) (parts_of_untagged part ds (rolled d _ e ∙ desc.rolls-Untagged ds) i c)) t q
  row_gives j x sound inside n next d part (Desc-F.Ref name) e h t q =
      found_gives j n next (definition table name) (λ i found. definition_is_part table whole name i found) h t q

  agrees_within : (j : Json) (x : Json-F Json Member) → out-Json j ≡ x → IsSound j → AgreesInside x → (n : ℕ) (d : Desc) → Rests table n d → IsPart table whole d → Agrees j d
  unfolding Rests
  agrees_within j x is sound inside zero d h part t e = absurd h
  agrees_within j x is sound inside (suc n) d h part t e =
      fits_at t d part (out-Desc d) refl
      ∙ row_gives j x sound inside n (agrees_within j x is sound inside n) d part (out-Desc d) refl h t (sym (row_at table whole j d x (out-Desc d) (rests d part) is refl) ∙ e)

  -- where it is sound
  abbrev AgreesIfSound : Json → Type 0
  AgreesIfSound j = IsSound j → AgreesEverywhere j

  abbrev Known : Type 0
  Known = (j : Json) × AgreesIfSound j

  abbrev KnownMember : Type 0
  KnownMember = (m : Member) × AgreesIfSound m.value

  known_items : (es : List Known) → AllByRecursion IsSound (map (λ (e : Known). e.0) es) → (j : Json) → Contains (map (λ (e : Known). e.0) es) j → AgreesEverywhere j
  known_items [] sound j c = absurd (omega (arith, c.1))
  known_items (e ∷ es) sound j c = elim (contains_cases e.0 (map (λ (e : Known). e.0) es) j c) [ inl q ↦ subst AgreesEverywhere q (e.1 sound.0) | inr k ↦ known_items es sound.1 j k ]

  known_members : (es : List KnownMember) → AllByRecursion HasSoundValue (map (λ (e : KnownMember). e.0) es) → (m : Member) → Contains (map (λ (e : KnownMember). e.0) es) m → AgreesEverywhere m.value
  known_members [] sound m c = absurd (omega (arith, c.1))
  known_members (e ∷ es) sound m c =
      elim (contains_cases e.0 (map (λ (e : KnownMember). e.0) es) m c) [ inl q ↦ subst (λ (n : Member). AgreesEverywhere n.value) q (e.1 sound.0) | inr k ↦ known_members es sound.1 m k ]

  abbrev plain : Json-F Known KnownMember → Json-F Json Member
  plain = map-Json Known KnownMember Json Member (λ e. e.0) (λ e. e.0)

  known_inside : (y : Json-F Known KnownMember) → SoundInside (plain y) → AgreesInside (plain y)
  known_inside Json-F.Null sound = tt
  known_inside (Json-F.Bool b) sound = tt
  known_inside (Json-F.Int n) sound = tt
  known_inside (Json-F.Text s) sound = tt
  known_inside (Json-F.List es) sound = known_items es sound
  known_inside (Json-F.Object es) sound = (known_members es sound.0, sound.1)

  agrees : (j : Json) → AgreesIfSound j
  agrees = ind-Json AgreesIfSound (λ m. AgreesIfSound m.value)
      (λ x y is sound d part.
      agrees_within (roll-Json x) x (out-roll-Json x) sound (subst (λ (z : Json-F Json Member). SoundInside z → AgreesInside z) is (known_inside y) (sound_inside x sound)) (room table whole) d (rests d part) part)
      (λ x y is. subst (λ (z : Member-F Json Member). AgreesIfSound z.value) is y.value.1)

-- a tree that a sound JSON value denotes is a value of the descriptor
pub denoted_fits : (table : List Definition) (desc : Desc) (json : Json) (tree : Tree) → TablePasses table → DescPasses table desc → IsSound json → JsonDenotes table desc json tree → Fits table desc tree
denoted_fits table desc json tree passes right sound denotes = agrees table desc passes right json sound desc (of_whole the_whole) tree denotes
