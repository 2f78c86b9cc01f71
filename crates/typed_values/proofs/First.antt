-- Which error is told first, and what none of them leaves.
use Rattle.std.proofs.Common.{ℕ, ◌<◌, ◌≤◌, List, map, arith}
use Rattle.std.proofs.lemmas.Option.{slice_get_within, get_or_from_slice_get}
use Rattle.std.specs.Prelude.{Contains}
use Rattle.schema_values.specs.Sound.{AreDistinct}
use Rattle.typed_values.specs.declared.check.TableError.{TableError}
use Rattle.typed_values.specs.declared.check.TableError.TheVariants.{DoubledName, BadName, Dangling, Unguarded, EmptyEnumeration, NullOfNull, TagClash, BadRange, BadPresence}
use Rattle.descriptors.specs.declared.desc.Desc.{Desc}
use Rattle.descriptors.specs.declared.table.Definition.{Definition}
use Rattle.descriptors.specs.Definitions.{definition_name}
use Rattle.typed_values.specs.Causes.{AppliesToDesc, IsFirst, IsFirstOnCycle, order}
use Rattle.typed_values.specs.Checks.{IsName, DescPasses, TablePasses}
use Rattle.typed_values.specs.Guarded.{IsGuarded}

module _ (A : TableError → Type 0) where
  NoneBefore : ℕ → Type 0
  NoneBefore n = (other : TableError) → order other < n → A other → ⊥

  -- where those told before do not apply
  none_before : (n : ℕ) → n ≤ 8 → (0 < n → A DoubledName → ⊥) → (1 < n → A BadName → ⊥) → (2 < n → A Dangling → ⊥) → ((name : _) → 3 < n → A (Unguarded name) → ⊥)
      → (4 < n → A EmptyEnumeration → ⊥) → (5 < n → A NullOfNull → ⊥) → (6 < n → A TagClash → ⊥) → (7 < n → A BadRange → ⊥) → NoneBefore n
  unfolding NoneBefore
  none_before n le doubled bad dangling unguarded empty null clash range DoubledName lt = doubled lt
  none_before n le doubled bad dangling unguarded empty null clash range BadName lt = bad lt
  none_before n le doubled bad dangling unguarded empty null clash range Dangling lt = dangling lt
  none_before n le doubled bad dangling unguarded empty null clash range (Unguarded name) lt = unguarded name lt
  none_before n le doubled bad dangling unguarded empty null clash range EmptyEnumeration lt = empty lt
  none_before n le doubled bad dangling unguarded empty null clash range NullOfNull lt = null lt
  none_before n le doubled bad dangling unguarded empty null clash range TagClash lt = clash lt
  none_before n le doubled bad dangling unguarded empty null clash range BadRange lt = range lt
  none_before n le doubled bad dangling unguarded empty null clash range BadPresence lt = absurd (omega arith)

  pub first_doubled : A DoubledName → IsFirst A DoubledName
  unfolding NoneBefore
  first_doubled applies = record {
    applies = applies;
    none_before = none_before 0 (omega arith) (λ lt. absurd (omega arith)) (λ lt. absurd (omega arith)) (λ lt. absurd (omega arith)) (λ name lt. absurd (omega arith)) (λ lt. absurd (omega arith)) (λ lt. absurd (omega arith)) (λ lt. absurd (omega arith)) (λ lt. absurd (omega arith));
  }

  pub first_bad : (A DoubledName → ⊥) → A BadName → IsFirst A BadName
  unfolding NoneBefore
  first_bad doubled applies = record {
    applies = applies;
    none_before = none_before 1 (omega arith) (λ lt. doubled) (λ lt. absurd (omega arith)) (λ lt. absurd (omega arith)) (λ name lt. absurd (omega arith)) (λ lt. absurd (omega arith)) (λ lt. absurd (omega arith)) (λ lt. absurd (omega arith)) (λ lt. absurd (omega arith));
  }

  module _ (doubled : A DoubledName → ⊥) (bad : A BadName → ⊥) where
    pub first_dangling : A Dangling → IsFirst A Dangling
    unfolding NoneBefore
    first_dangling applies = record {
      applies = applies;
      none_before = none_before 2 (omega arith) (λ lt. doubled) (λ lt. bad) (λ lt. absurd (omega arith)) (λ name lt. absurd (omega arith)) (λ lt. absurd (omega arith)) (λ lt. absurd (omega arith)) (λ lt. absurd (omega arith)) (λ lt. absurd (omega arith));
    }

    module _ (dangling : A Dangling → ⊥) where
      pub first_unguarded : (name : _) → A (Unguarded name) → IsFirst A (Unguarded name)
      unfolding NoneBefore
      first_unguarded name applies = record {
        applies = applies;
        none_before = none_before 3 (omega arith) (λ lt. doubled) (λ lt. bad) (λ lt. dangling) (λ name lt. absurd (omega arith)) (λ lt. absurd (omega arith)) (λ lt. absurd (omega arith)) (λ lt. absurd (omega arith)) (λ lt. absurd (omega arith));
      }

      module _ (unguarded : (name : _) → A (Unguarded name) → ⊥) where
        pub first_empty : A EmptyEnumeration → IsFirst A EmptyEnumeration
        unfolding NoneBefore
        first_empty applies = record {
          applies = applies;
          none_before = none_before 4 (omega arith) (λ lt. doubled) (λ lt. bad) (λ lt. dangling) (λ name lt. unguarded name) (λ lt. absurd (omega arith)) (λ lt. absurd (omega arith)) (λ lt. absurd (omega arith)) (λ lt. absurd (omega arith));
        }

        module _ (empty : A EmptyEnumeration → ⊥) where
          pub first_null : A NullOfNull → IsFirst A NullOfNull
          unfolding NoneBefore
          first_null applies = record {
            applies = applies;
            none_before = none_before 5 (omega arith) (λ lt. doubled) (λ lt. bad) (λ lt. dangling) (λ name lt. unguarded name) (λ lt. empty) (λ lt. absurd (omega arith)) (λ lt. absurd (omega arith)) (λ lt. absurd (omega arith));
          }

          module _ (null : A NullOfNull → ⊥) where
            pub first_clash : A TagClash → IsFirst A TagClash
            unfolding NoneBefore
            first_clash applies = record {
              applies = applies;
              none_before = none_before 6 (omega arith) (λ lt. doubled) (λ lt. bad) (λ lt. dangling) (λ name lt. unguarded name) (λ lt. empty) (λ lt. null) (λ lt. absurd (omega arith)) (λ lt. absurd (omega arith));
            }

            module _ (clash : A TagClash → ⊥) where
              pub first_range : A BadRange → IsFirst A BadRange
              unfolding NoneBefore
              first_range applies = record {
                applies = applies;
                none_before = none_before 7 (omega arith) (λ lt. doubled) (λ lt. bad) (λ lt. dangling) (λ name lt. unguarded name) (λ lt. empty) (λ lt. null) (λ lt. clash) (λ lt. absurd (omega arith));
              }

              pub first_presence : (A BadRange → ⊥) → A BadPresence → IsFirst A BadPresence
              unfolding NoneBefore
              first_presence range applies = record {
                applies = applies;
                none_before = none_before 8 (omega arith) (λ lt. doubled) (λ lt. bad) (λ lt. dangling) (λ name lt. unguarded name) (λ lt. empty) (λ lt. null) (λ lt. clash) (λ lt. range);
              }

-- a descriptor to which none applies passes
pub desc_passes : (table : List Definition) (desc : Desc) → (AppliesToDesc table desc DoubledName → ⊥) → (AppliesToDesc table desc Dangling → ⊥) → (AppliesToDesc table desc EmptyEnumeration → ⊥)
    → (AppliesToDesc table desc NullOfNull → ⊥) → (AppliesToDesc table desc TagClash → ⊥) → (AppliesToDesc table desc BadRange → ⊥) → (AppliesToDesc table desc BadPresence → ⊥) → DescPasses table desc
desc_passes table desc doubled dangling empty null clash range presence d s = record {
  names_distinct = λ h. doubled (d, s, h);
  defined = λ h. dangling (d, s, h);
  some_alternative = λ h. empty (d, s, h);
  null_once = λ h. null (d, s, h);
  tags = λ h. clash (d, s, h);
  ranges = λ h. range (d, s, h);
  presences = λ h. presence (d, s, h);
}

-- a descriptor to which one applies does not pass
pub desc_fails : (table : List Definition) (desc : Desc) (error : TableError) → AppliesToDesc table desc error → DescPasses table desc → ⊥
desc_fails table desc DoubledName h passes = (passes h.0 h.1).names_distinct h.2
desc_fails table desc BadName h passes = h.2
desc_fails table desc Dangling h passes = (passes h.0 h.1).defined h.2
desc_fails table desc (Unguarded name) h passes = h.2
desc_fails table desc EmptyEnumeration h passes = (passes h.0 h.1).some_alternative h.2
desc_fails table desc NullOfNull h passes = (passes h.0 h.1).null_once h.2
desc_fails table desc TagClash h passes = (passes h.0 h.1).tags h.2
desc_fails table desc BadRange h passes = (passes h.0 h.1).ranges h.2
desc_fails table desc BadPresence h passes = (passes h.0 h.1).presences h.2

-- an error applies to some definition
abbrev AppliesSomewhere : List Definition → TableError → Type 0
AppliesSomewhere table error = (e : Definition) × Contains table e × AppliesToDesc table e.desc error

-- a table to which none applies passes
pub table_passes : (table : List Definition) → AreDistinct (map definition_name table) → ((e : Definition) → Contains table e → IsName e.name) → IsGuarded table
    → (AppliesSomewhere table DoubledName → ⊥) → (AppliesSomewhere table Dangling → ⊥) → (AppliesSomewhere table EmptyEnumeration → ⊥)
    → (AppliesSomewhere table NullOfNull → ⊥) → (AppliesSomewhere table TagClash → ⊥) → (AppliesSomewhere table BadRange → ⊥) → (AppliesSomewhere table BadPresence → ⊥) → TablePasses table
table_passes table once named guarded doubled dangling empty null clash range presence = record {
  once = once;
  named = named;
  guarded = guarded;
  each = λ e c. desc_passes table e.desc (λ h. doubled (e, c, h)) (λ h. dangling (e, c, h)) (λ h. empty (e, c, h)) (λ h. null (e, c, h)) (λ h. clash (e, c, h)) (λ h. range (e, c, h)) (λ h. presence (e, c, h));
}

-- a table with a definition to which one applies does not pass
pub table_fails : (table : List Definition) (error : TableError) → AppliesSomewhere table error → TablePasses table → ⊥
table_fails table error h passes = desc_fails table h.0.desc error h.2 (passes.each h.0 h.1)

-- where the first on a cycle is found, the table is not guarded
pub on_cycle_unguarded : (table : List Definition) (e : Definition) → IsFirstOnCycle table e → IsGuarded table → ⊥
on_cycle_unguarded table e first guarded =
    guarded e (first.place, slice_get_within table first.place e first.found, get_or_from_slice_get table first.place e e first.found) first.cycle
