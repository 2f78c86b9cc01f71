-- What proofs of the crates above take from here: lemmas over the words of specs/.

-- the names that a descriptor reaches
pub use Rattle.api_types.proofs.Leaves.{truth_reaches, number_reaches, words_reach, character_reaches, whole_reaches}
pub use Rattle.api_types.proofs.Composites.{option_reaches, list_reaches, map_reaches}
pub use Rattle.api_types.proofs.Names.{names_reach}
pub use Rattle.api_types.proofs.Structs.{struct_reaches}
pub use Rattle.api_types.proofs.References.{ref_reaches}
pub use Rattle.api_types.proofs.OwnReferences.{MentionsOnly, only_ref, only_reached, only_list, only_struct, own_reaches}
-- the trees that fit a descriptor
pub use Rattle.api_types.proofs.Leaves.{truth_each, number_each, words_each, character_each, whole_each, kind_holds}
pub use Rattle.api_types.proofs.Composites.{none_each, some_each, list_each, map_each}
pub use Rattle.api_types.proofs.Names.{name_each}
pub use Rattle.api_types.proofs.Structs.{struct_each}
pub use Rattle.api_types.proofs.References.{ref_each}
pub use Rattle.api_types.proofs.OwnReferences.{own_each}
-- the form of a tree that fits
pub use Rattle.api_types.proofs.Leaves.{truth_one, number_one, number_at, kind_bounds, words_one, words_at, character_one, character_at, whole_one, whole_at}
pub use Rattle.api_types.proofs.Composites.{some_one, none_one, list_one, items_one, map_one, entries_one}
pub use Rattle.api_types.proofs.Names.{name_one, name_at}
pub use Rattle.api_types.proofs.Structs.{struct_one, struct_at}
pub use Rattle.api_types.proofs.References.{ref_one}
pub use Rattle.api_types.proofs.OwnReferences.{own_one}
-- adding definitions one by one
pub use Rattle.api_types.proofs.AddedInOrder.{entry_stays}
-- definitions that are added in two calls
pub use Rattle.api_types.proofs.Added.{adds_both, first_refused, second_refused, told}
-- structs by their heads and the types of their fields
pub use Rattle.api_types.proofs.StructTypes.{type_at, type_each, type_one, type_reaches}
