-- A tree that flat names denote is a value of the descriptor.
use Rattle.std.proofs.Common.{◌≡◌, ℕ, zero, suc, ◌+◌, Bool, true, false, ◌&&◌, List, [], ◌∷◌, length, Option, Some, None, option_map, option_and_then, refl, sym, ◌∙◌, ap, subst, MatchOption}
use Rattle.std.proofs.lemmas.Bool.{true_from_ne_false}
use Rattle.std.specs.Prelude.{⊤, Contains}
use Rattle.std.specs.declared.result.Result.{Result}
use Rattle.std.specs.declared.result.Result.TheVariants.{Ok, Err}
use Rattle.schema_values.specs.declared.variables.VariableValue.{VariableValue}
use Rattle.schema_values.specs.declared.variables.VariableValue.TheVariants.{String, Components}
use Rattle.schema_values.proofs.CallerLemmas.{contains_first, contains_later}
use Rattle.descriptors.specs.declared.desc.Desc.{Desc, Option as OptionOf, out-Desc}
use Rattle.descriptors.specs.declared.desc.Desc.TheOpen.{Desc-F}
use Rattle.descriptors.specs.declared.desc.Desc.TheVariants as desc
use Rattle.descriptors.specs.declared.desc.Desc.TheViews.{roll-Desc, roll-out-Desc}
use Rattle.descriptors.specs.declared.desc.Field.{Field}
use Rattle.descriptors.specs.declared.desc.Presence.{Presence}
use Rattle.descriptors.specs.declared.desc.Presence.TheVariants.{Required, Nullable, Skipped, Default}
use Rattle.descriptors.specs.declared.table.Definition.{Definition}
use Rattle.descriptors.specs.declared.tree.Tree.{Tree, None as Nothing, List as Items, Fields as Parts, out-Tree}
use Rattle.descriptors.specs.declared.tree.Tree.TheOpen.{Tree-F}
use Rattle.descriptors.specs.declared.tree.Tree.TheVariants as tree
use Rattle.descriptors.specs.Definitions.{definition}
use Rattle.typed_values.specs.declared.fault.FaultKind.TheVariants.{BadLength}
use Rattle.typed_values.specs.declared.fault.Place.{Place}
use Rattle.typed_values.specs.declared.fault.Place.TheVariants.{Name, Item}
use Rattle.typed_values.specs.Bounds.{is_length_within}
use Rattle.typed_values.specs.Checks.{IsOption, IsFieldOf, of_struct, IsBadField, no_option, default_misfits, TablePasses, DescPasses}
use Rattle.typed_values.specs.Denotes.{Told, below, at_definition, and_then, all_told, as_tree, by_presence, if_absent, if_present, if_holds, items_told, room}
use Rattle.typed_values.specs.Faults.{Trouble}
use Rattle.typed_values.specs.Fits.{option_fits, each_fits, items_fit, field_desc, fields_fit, parts_fit, fits_under, Fits}
use Rattle.typed_values.specs.Levels.{DescLevel}
use Rattle.typed_values.specs.Parts.{the_whole, in_list, in_field, IsPart, of_whole, of_table}
use Rattle.typed_values.specs.Resting.{RestsBy, Rests}
use Rattle.typed_values.proofs.CallerLemmas.{is_right, same_fits, fits_option, fits_list, fits_struct, fits_ref, skipped_row}
use Rattle.flat_maps.specs.Flat.{resolved, told_item, texts_by, texts_told, given_told, fields_by, flat_fields, looked_up, fields_told, under_struct, flat_told}
use Rattle.flat_maps.specs.Given.{Names}
use Rattle.scalar_texts.specs.Texts.{text_told}
use Rattle.flat_maps.proofs.ResolveSteps.{at_name, here}
use Rattle.scalar_texts.proofs.CallerLemmas.{Gives, shown, just_gives, named_part, rests, text_gives, text_row}

below_ok : (place : Place) (o : Told) (t : Tree) → below place o ≡ Ok t → o ≡ Ok t
below_ok place (Ok s) t e = e
below_ok place (Err k) t e = absurd (cc e)

-- the parts of what is told in turn
record IsOneAndRest (o : Told) (r : Result (List Tree) Trouble) (ts : List Tree) : Type 0 where
  one : Tree
  rest : List Tree
  told : o ≡ Ok one
  others : r ≡ Ok rest
  is : one ∷ rest ≡ ts

one_and_rest : (o : Told) (r : Result (List Tree) Trouble) (ts : List Tree) → and_then o r ≡ Ok ts → IsOneAndRest o r ts
one_and_rest (Ok s) (Ok ss) ts e = record { one = s; rest = ss; told = refl; others = refl; is = cc e }
one_and_rest (Ok s) (Err k) ts e = absurd (cc e)
one_and_rest (Err k) r ts e = absurd (cc e)

both : (a b : Bool) → a ≡ true → b ≡ true → (a && b) ≡ true
both true b e f = f
both false b e f = absurd (cc e)

-- each item of a list passes, and there are as many
each_gives : {X : Type 0} (passes : Tree → Bool) (f : ℕ → X → Told) → ((i : ℕ) (x : X) → Gives (f i x) passes) → (i : ℕ) (xs : List X) (ts : List Tree) → all_told f i xs ≡ Ok ts → (length ts ≡ length xs) × (each_fits passes ts ≡ true)
each_gives passes f gives i [] ts e = subst (λ (us : List Tree). (length us ≡ 0) × (each_fits passes us ≡ true)) {x = []} (cc e) (refl, refl)
each_gives {X} passes f gives i (x ∷ xs) ts e =
    let h = one_and_rest (f i x) (all_told f (i + 1) xs) ts e in
    let later = each_gives passes f gives (i + 1) xs h.rest h.others in
    subst (λ (us : List Tree). (length us ≡ length (x ∷ xs)) × (each_fits passes us ≡ true)) h.is (ap suc later.0, both (passes h.one) (each_fits passes h.rest) (gives i x h.one h.told) later.1)

-- each field's tree passes
fields_give : (fits : Tree → Desc → Bool) (f : ℕ → Field → Told) (i : ℕ) (fs : List Field) (ts : List Tree)
    → ((x : Field) → Contains fs x → (k : ℕ) → Gives (f k x) (λ t. fits t (field_desc x))) → all_told f i fs ≡ Ok ts → fields_fit fits fs ts ≡ true
fields_give fits f i [] ts gives e = subst (λ (us : List Tree). fields_fit fits [] us ≡ true) {x = []} (cc e) refl
fields_give fits f i (x ∷ fs) ts gives e =
    let h = one_and_rest (f i x) (all_told f (i + 1) fs) ts e in
    subst (λ (us : List Tree). fields_fit fits (x ∷ fs) us ≡ true) h.is (
    both (fits h.one (field_desc x)) (fields_fit fits fs h.rest) (gives x (contains_first x fs) i h.one h.told) (fields_give fits f (i + 1) fs h.rest (λ y c. gives y (contains_later x fs y c)) h.others))

tree_of : (node : List Tree → Tree) (r : Result (List Tree) Trouble) (t : Tree) → as_tree node r ≡ Ok t → (ts : List Tree) × (r ≡ Ok ts) × (node ts ≡ t)
tree_of node (Ok ts) t e = (ts, refl, cc e)
tree_of node (Err k) t e = absurd (cc e)

held : (b : Bool) (o : Told) (t : Tree) → if_holds b BadLength o ≡ Ok t → (b ≡ true) × (o ≡ Ok t)
held true o t e = (refl, e)
held false o t e = absurd (cc e)

items_give : {X : Type 0} (passes : Tree → Bool) (f : ℕ → X → Told) (min max : Option ℕ) (xs : List X) → ((i : ℕ) (x : X) → Gives (f i x) passes) → Gives (items_told f min max xs) (λ t. items_fit passes min max (out-Tree t))
items_give passes f min max xs gives t e =
    let (within, told) = held (is_length_within min max (length xs)) (as_tree Items (all_told f 0 xs)) t e in
    let (ts, all, is) = tree_of Items (all_told f 0 xs) t told in
    let each = each_gives passes f gives 0 xs ts all in
    shown (items_fit passes min max) t (Items ts) (Tree-F.List ts) is (tree.outs-List ts) (both _ _ (ap (is_length_within min max) each.0 ∙ within) each.1)

option_by : (d : Desc) (x : DescLevel) → out-Desc d ≡ x → ((IsOption d → ⊥) → ⊥) → IsOption d
option_by d (Desc-F.Option x) e h = (x, e)
option_by d _ e h = absurd (h (λ o. cc (e, o.1)))

pub required_desc : (f : Field) → f.presence ≡ Required → field_desc f ≡ f.desc
required_desc f e = rw e refl

pub nullable_desc : (f : Field) → f.presence ≡ Nullable → field_desc f ≡ f.desc
nullable_desc f e = rw e refl

pub skipped_desc : (f : Field) → f.presence ≡ Skipped → field_desc f ≡ OptionOf f.desc
skipped_desc f e = rw e refl

pub default_desc : (f : Field) (t : Tree) → f.presence ≡ Default t → field_desc f ≡ f.desc
default_desc f t e = rw e refl

module _ (table : List Definition) (whole : Desc) (passes : TablePasses table) (right : DescPasses table whole) where
  -- what references lead to is a part with the same values, of which texts denote the same
  pub record IsSameAs (d r : Desc) : Type 0 where
    pub part : IsPart table whole r
    pub same : (t : Tree) → fits_under table whole t d ≡ fits_under table whole t r
    pub told : (text : List ℕ) → text_told table text d ≡ text_told table text r

  same_behind : (d : Desc) (name : List ℕ) → IsPart table whole d → d ≡ desc.Ref name → (o : Option Desc) → definition table name ≡ o → ((y : Desc) → o ≡ Some y → (r : Desc) → resolved table y ≡ Some r → IsSameAs y r)
      → (r : Desc) → option_and_then (resolved table) o ≡ Some r → IsSameAs d r
  same_behind d name part e None f later r q = absurd (cc q)
  same_behind d name part e (Some y) f later r q =
      let h = later y refl r q in
      record {
        part = h.part;
        same = λ t. fits_ref table whole t d (rests table whole passes.guarded d part) name (Some y) e f ∙ h.same t;
        told = λ text. text_row table text passes.guarded d (Desc-F.Ref name) (ap out-Desc e ∙ desc.outs-Ref name) ∙ ap (at_definition (text_told table text)) f ∙ h.told text;
      }

  same_by : (n : ℕ) → ((d : Desc) → Rests table n d → IsPart table whole d → (r : Desc) → resolved table d ≡ Some r → IsSameAs d r) → (d : Desc) → IsPart table whole d → (x : DescLevel) → out-Desc d ≡ x
      → ((name : List ℕ) (y : Desc) → x ≡ Desc-F.Ref name → definition table name ≡ Some y → Rests table n y) → (r : Desc) → resolved table d ≡ Some r → IsSameAs d r
  same_by n next d part (Desc-F.Ref name) e less r q =
      let is : d ≡ desc.Ref name = sym (roll-out-Desc d) ∙ ap roll-Desc e ∙ desc.rolls-Ref name in
      same_behind d name part is (definition table name) refl (λ y f s g. next y (less name y refl f) (named_part table whole name y f) s g) r (sym (at_name table passes.guarded d name (definition table name) is refl) ∙ q)
  same_by n next d part _ e less r q =
      let there : resolved table d ≡ Some d = here table passes.guarded d (λ name is. cc (sym e ∙ ap out-Desc is ∙ desc.outs-Ref name)) in
      let it : d ≡ r = cc (sym there ∙ q) in
      subst (IsSameAs d) it (record { part = part; same = λ t. refl; told = λ text. refl })

  same_within : (n : ℕ) (d : Desc) → Rests table n d → IsPart table whole d → (r : Desc) → resolved table d ≡ Some r → IsSameAs d r
  unfolding Rests
  same_within zero d h part r q = absurd h
  same_within (suc n) d h part r q =
      same_by n (same_within n) d part (out-Desc d) refl (λ name y e f. subst (λ (o : Option Desc). MatchOption o ⊤ (Rests table n)) f (behind name (out-Desc d) e h)) r q
    where
      behind : (name : List ℕ) (x : DescLevel) → x ≡ Desc-F.Ref name → RestsBy table (Rests table n) x → MatchOption (definition table name) ⊤ (Rests table n)
      behind name x e h = subst (RestsBy table (Rests table n)) e h

  pub same_as : (d r : Desc) → IsPart table whole d → resolved table d ≡ Some r → IsSameAs d r
  same_as d r part q = same_within (room table whole) d (rests table whole passes.guarded d part) part r q

  list_part : (r x : Desc) (min max : Option ℕ) → IsPart table whole r → out-Desc r ≡ Desc-F.List x min max → IsPart table whole x
  list_part r x min max (of_whole s) e = of_whole (in_list x min max s e)
  list_part r x min max (of_table y c s) e = of_table y c (in_list x min max s e)

  pub field_part : (r : Desc) (fs : List Field) (deny : Bool) (f : Field) → IsPart table whole r → out-Desc r ≡ Desc-F.Struct fs deny → Contains fs f → IsPart table whole f.desc
  field_part r fs deny f (of_whole s) e c = of_whole (in_field fs deny f s e c)
  field_part r fs deny f (of_table y k s) e c = of_table y k (in_field fs deny f s e c)

  texts_give : (texts : List (List ℕ)) (r : Desc) → IsPart table whole r → (x : DescLevel) → out-Desc r ≡ x → Gives (texts_by table texts x) (λ t. fits_under table whole t r)
  texts_give texts r part (Desc-F.List d min max) e t q =
      fits_list table whole t r (rests table whole passes.guarded r part) d min max (sym (roll-out-Desc r) ∙ ap roll-Desc e ∙ desc.rolls-List d min max)
      ∙ items_give (λ s. fits_under table whole s d) (told_item table d) min max texts (λ i text s f. text_gives table whole passes.guarded text d (list_part r d min max part e) s (below_ok (Item i) (text_told table text d) s f)) t q
  texts_give texts r part _ e t q = absurd (cc q)

  -- what is given under a name denotes a value of the descriptor
  given_gives : (d : Desc) → IsPart table whole d → (given : VariableValue) → Gives (given_told table d given) (λ t. fits_under table whole t d)
  given_gives d part (String text) t e = text_gives table whole passes.guarded text d part t e
  given_gives d part (Components texts) t e = by_resolved (resolved table d) refl e
    where
      by_resolved : (o : Option Desc) → resolved table d ≡ o → texts_told table texts o ≡ Ok t → fits_under table whole t d ≡ true
      by_resolved None q f = absurd (cc f)
      by_resolved (Some r) q f = let h = same_as d r part q in h.same t ∙ texts_give texts r h.part (out-Desc r) refl t f

  nothing_fits : (d : Desc) → IsPart table whole d → IsOption d → fits_under table whole Nothing d ≡ true
  nothing_fits d part (x, e) =
      fits_option table whole Nothing d (rests table whole passes.guarded d part) x (sym (roll-out-Desc d) ∙ ap roll-Desc e ∙ desc.rolls-Option x) ∙ ap (option_fits (λ t. fits_under table whole t x)) tree.outs-None

  module _ (f : Field) (part : IsPart table whole f.desc) (not_bad : IsBadField table f → ⊥) where
    absent_gives : (p : Presence) → f.presence ≡ p → Gives (if_absent p f.name) (λ t. fits_under table whole t (field_desc f))
    absent_gives Required q t e = absurd (cc e)
    absent_gives Nullable q t e =
        let is : Nothing ≡ t = cc e in
        let option : IsOption f.desc = option_by f.desc (out-Desc f.desc) refl (λ none. not_bad (no_option q none)) in
        rw (nullable_desc f q) (subst (λ (s : Tree). fits_under table whole s f.desc ≡ true) is (nothing_fits f.desc part option))
    absent_gives Skipped q t e =
        let is : Nothing ≡ t = cc e in
        let fit : fits_under table whole Nothing (OptionOf f.desc) ≡ true = skipped_row table whole Nothing f.desc ∙ ap (option_fits (λ s. fits_under table whole s f.desc)) tree.outs-None in
        rw (skipped_desc f q) (subst (λ (s : Tree). fits_under table whole s (OptionOf f.desc) ≡ true) is fit)
    absent_gives (Default s) q t e =
        let is : s ≡ t = cc e in
        let fit : fits_under table f.desc s f.desc ≡ true = true_from_ne_false _ (λ no. not_bad (default_misfits s q (λ yes. let w : false ≡ true = sym no ∙ yes in cc w))) in
        rw (default_desc f s q) (subst (λ (u : Tree). fits_under table whole u f.desc ≡ true) is (same_fits table whole f.desc part passes.guarded s ∙ fit))

    present_gives : (p : Presence) → f.presence ≡ p → (o : Told) → Gives o (λ t. fits_under table whole t f.desc) → Gives (if_present p o) (λ t. fits_under table whole t (field_desc f))
    present_gives Required q o gives t e = rw (required_desc f q) (gives t e)
    present_gives Nullable q o gives t e = rw (nullable_desc f q) (gives t e)
    present_gives Skipped q o gives t e = rw (skipped_desc f q) (skipped_row table whole t f.desc ∙ just_gives (λ s. fits_under table whole s f.desc) o gives t e)
    present_gives (Default s) q o gives t e = rw (default_desc f s q) (gives t e)

    field_gives : (o : Option VariableValue) → Gives (by_presence f (option_map (given_told table f.desc) o)) (λ t. fits_under table whole t (field_desc f))
    field_gives None = absent_gives f.presence refl
    field_gives (Some given) = present_gives f.presence refl (below (Name f.name) (given_told table f.desc given)) (λ t e. given_gives f.desc part given t (below_ok (Name f.name) (given_told table f.desc given) t e))

  never_bad : (d : Desc) → IsPart table whole d → (f : Field) → IsFieldOf d f → IsBadField table f → ⊥
  never_bad d part f field bad = (is_right table whole d passes right part).presences (f, field, bad)

  module _ (names : Names) where
    struct_gives : (r : Desc) → IsPart table whole r → (x : DescLevel) → out-Desc r ≡ x → Gives (under_struct (fields_told (looked_up table names)) (fields_by x)) (λ t. fits_under table whole t r)
    struct_gives r part (Desc-F.Struct fs false) e t q =
        let (ts, all, is) = tree_of Parts (all_told (λ i f. by_presence f (looked_up table names f)) 0 fs) t q in
        let fit = fields_give (fits_under table whole) (λ i f. by_presence f (looked_up table names f)) 0 fs ts (λ f c i. field_gives f (field_part r fs false f part e c) (never_bad r part f (of_struct fs false e c)) (names f.name)) all in
        fits_struct table whole t r (rests table whole passes.guarded r part) fs false (sym (roll-out-Desc r) ∙ ap roll-Desc e ∙ desc.rolls-Struct fs false)
        ∙ shown (parts_fit (fits_under table whole) fs) t (Parts ts) (Tree-F.Fields ts) is (tree.outs-Fields ts) fit
    struct_gives r part _ e t q = absurd (cc q)

    flat_gives : (o : Option Desc) → resolved table whole ≡ o → Gives (under_struct (fields_told (looked_up table names)) (flat_fields o)) (λ t. fits_under table whole t whole)
    flat_gives None q t e = absurd (cc e)
    flat_gives (Some r) q t e = let h = same_as whole r (of_whole the_whole) q in h.same t ∙ struct_gives r h.part (out-Desc r) refl t e

-- a tree that flat names denote is a value of the descriptor
pub flat_fits : (table : List Definition) (d : Desc) (names : Names) (t : Tree) → TablePasses table → DescPasses table d → flat_told table names d ≡ Ok t → Fits table d t
flat_fits table d names t passes right e = flat_gives table d passes right names (resolved table d) refl t e
