-- What is reached by so many steps along references, in any table: a count that always ends.
use Rattle.std.specs.Prelude.{◌≡◌, ℕ, suc, Bool, true, false, IsTrue, List, Some}
use Rattle.descriptors.specs.declared.desc.Desc.{Desc, out-Desc}
use Rattle.descriptors.specs.declared.desc.Desc.TheOpen.{Desc-F}
use Rattle.descriptors.specs.declared.table.Definition.{Definition}
use Rattle.descriptors.specs.Definitions.{definition}
use Rattle.typed_values.specs.Levels.{DescLevel}

-- So many references at most, and what passes on in place, lead from a descriptor to one where they end.
pub data Leads (Ends : Desc → Type 0) (Passes : Desc → Desc → Type 0) (table : List Definition)
    : ℕ → Desc → Type 0 where
  here : {n : ℕ} {d : Desc} → Ends d → Leads Ends Passes table n d
  passed : {n : ℕ} {d : Desc} (x : Desc) → Passes d x → Leads Ends Passes table n x → Leads Ends Passes table n d
  referred : {n : ℕ} {d : Desc} (name : List ℕ) (y : Desc) → out-Desc d ≡ Desc-F.Ref name
      → definition table name ≡ Some y → Leads Ends Passes table n y → Leads Ends Passes table (suc n) d

-- whether the values of a descriptor are written as one text, by its own form
abbrev pub is_scalar_level : DescLevel → Bool
is_scalar_level Desc-F.Bool = true
is_scalar_level Desc-F.Char = true
is_scalar_level (Desc-F.Int kind min max) = true
is_scalar_level (Desc-F.Text min max format) = true
is_scalar_level (Desc-F.Enumeration names) = true
is_scalar_level _ = false

-- the form of a descriptor is such
abbrev pub HasScalarForm : Desc → Type 0
HasScalarForm d = IsTrue (is_scalar_level (out-Desc d))

-- a descriptor is an option over another
abbrev pub IsOptionOf : Desc → Desc → Type 0
IsOptionOf d x = out-Desc d ≡ Desc-F.Option x

-- along so many references at most, and behind options, stands a scalar form
abbrev pub IsScalarWithin : List Definition → ℕ → Desc → Type 0
IsScalarWithin = Leads HasScalarForm IsOptionOf

-- what stands behind the options that a descriptor begins with
pub data IsBehindOptions : Desc → Desc → Type 0 where
  itself : {d : Desc} → ((x : Desc) → ¬ IsOptionOf d x) → IsBehindOptions d d
  behind : {d : Desc} (x y : Desc) → IsOptionOf d x → IsBehindOptions x y → IsBehindOptions d y
