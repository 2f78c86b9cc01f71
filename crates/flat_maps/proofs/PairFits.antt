-- Where pairs denote a tree, the last values of their names denote it as flat names, and it fits.
use Rattle.std.proofs.Common.{◌≡◌, ℕ, List, Option, Some, None, refl, sym, ◌∙◌, ap}
use Rattle.std.specs.declared.result.Result.TheVariants.{Ok}
use Rattle.request_words.specs.declared.pairs.NamedText.{NamedText}
use Rattle.descriptors.specs.declared.desc.Desc.{Desc}
use Rattle.descriptors.specs.declared.desc.Field.{Field}
use Rattle.descriptors.specs.declared.table.Definition.{Definition}
use Rattle.descriptors.specs.declared.tree.Tree.{Tree}
use Rattle.typed_values.specs.Checks.{TablePasses, DescPasses}
use Rattle.typed_values.specs.Denotes.{Told}
use Rattle.typed_values.specs.Fits.{Fits}
use Rattle.flat_maps.specs.declared.repeats.Repeats.{Repeats}
use Rattle.flat_maps.specs.declared.repeats.Repeats.TheVariants.{Refuse, Last}
use Rattle.flat_maps.specs.Flat.{resolved, flat_fields, fields_told, looked_up, under_struct, FlatDenotes}
use Rattle.flat_maps.specs.Pairs.{last_values, first_doubled, unless_doubled, by_repeats, pairs_fields, PairsDenote, StandOnce}
use Rattle.flat_maps.proofs.FlatFits.{flat_fits}

undoubled : (repeats : Repeats) (name : Option (List ℕ)) (told : Told) (t : Tree) → by_repeats repeats name told ≡ Ok t → told ≡ Ok t
undoubled Refuse None told t e = e
undoubled Refuse (Some name) told t e = absurd (cc e)
undoubled Last name told t e = e

-- the last value of each name denotes the tree
pub pairs_flat : (table : List Definition) (d : Desc) (repeats : Repeats) (pairs : List NamedText) (t : Tree) → PairsDenote table d repeats pairs t → FlatDenotes table d (last_values pairs) t
pairs_flat table d repeats pairs t = by_fields (flat_fields (resolved table d))
  where
    by_fields : (o : Option (List Field)) → under_struct (pairs_fields table repeats pairs) o ≡ Ok t → under_struct (fields_told (looked_up table (last_values pairs))) o ≡ Ok t
    by_fields None e = e
    by_fields (Some fs) e = undoubled repeats (first_doubled pairs fs) (fields_told (looked_up table (last_values pairs)) fs) t e

none_doubled : (name : Option (List ℕ)) (told : Told) (t : Tree) → unless_doubled name told ≡ Ok t → name ≡ None
none_doubled None told t e = refl
none_doubled (Some name) told t e = absurd (cc e)

-- where repeats are refused, each field's name stands at most once
pub pairs_once : (table : List Definition) (d : Desc) (pairs : List NamedText) (t : Tree) → PairsDenote table d Refuse pairs t → StandOnce table d pairs
pairs_once table d pairs t e fs f =
    none_doubled (first_doubled pairs fs) (fields_told (looked_up table (last_values pairs)) fs) t (ap (under_struct (pairs_fields table Refuse pairs)) (sym f) ∙ e)

-- a tree that pairs denote is a value of the descriptor
pub pairs_fit : (table : List Definition) (d : Desc) (repeats : Repeats) (pairs : List NamedText) (t : Tree) → TablePasses table → DescPasses table d → PairsDenote table d repeats pairs t → Fits table d t
pairs_fit table d repeats pairs t passes right e = flat_fits table d (last_values pairs) t passes right (pairs_flat table d repeats pairs t e)
