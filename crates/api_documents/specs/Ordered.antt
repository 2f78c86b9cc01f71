-- Names and what stands under names, in the order of their characters, which is that of their bytes in UTF-8, each name
-- once. The order of the members of a document is this project's own (OpenAPI 3.0.3 asks for none).
use Rattle.std.specs.Prelude.{ℕ, Bool, List, [], fold, is_some, if◌then◌else◌}
use Rattle.std.specs.BTreeMap.{insert_entry, is_at}
use Rattle.std.specs.BTreeSet.{insert_key}
use Rattle.std.specs.List.{list_any}
use Rattle.std.specs.Map.{lookup}
pub use Rattle.path_templates.specs.Places.{text_order}

-- more texts among texts that stand in order, each once
abbrev pub with_texts : List (List ℕ) → List (List ℕ) → List (List ℕ)
with_texts = fold (insert_key text_order)

-- texts in order, each once
abbrev pub in_text_order : List (List ℕ) → List (List ℕ)
in_text_order = with_texts []

-- whether a name is one of some names
abbrev pub is_among : List ℕ → List (List ℕ) → Bool
is_among name names = list_any (is_at (text_order name)) names

-- one more entry at its place in the order of names, unless its name is there
abbrev pub with_entry : {X : Type 0} → List (List ℕ × X) → List ℕ × X → List (List ℕ × X)
with_entry entries entry =
    if is_some (lookup (is_at (text_order entry.0)) entries) then entries
    else insert_entry text_order entries entry.0 entry.1

-- entries in the order of names, each name once; where several have one name, the first stands
abbrev pub by_name : {X : Type 0} → List (List ℕ × X) → List (List ℕ × X)
by_name = fold with_entry []
