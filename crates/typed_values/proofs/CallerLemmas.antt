-- What proofs of the crates above take from here: lemmas over the words of specs/, and the notions that they are stated in.

-- names, and what they are defined as
pub use Rattle.typed_values.proofs.FirstNamed.{first_sorted, denied_sorted, value_of_first}
pub use Rattle.typed_values.proofs.Ordered.{sorted_ascends, sorted_stays}
pub use Rattle.typed_values.proofs.AscendingKeys.{keys_sorted}
pub use Rattle.typed_values.proofs.Fields.{AreDistinct-cons, names_apart, distinct_at, fields_distinct}
pub use Rattle.typed_values.proofs.WrittenMembers.{new_name}
-- the descriptors that stand in another, or that it reaches
pub use Rattle.typed_values.proofs.Within.{SomeChild, stands_through, parts_at}
pub use Rattle.typed_values.proofs.Narrower.{inner_passes, same_fits}
pub use Rattle.typed_values.proofs.Needed.{IsNeeded, of_whole, of_reached, entry_inside, needed_part, option_needed, list_needed, map_needed, field_needed, payload_needed, variant_needed, alternative_needed, reference_reached, reference_needed, definition_needed}
pub use Rattle.typed_values.proofs.Tops.{nodes_at, through_option, through_alternative}
pub use Rattle.typed_values.proofs.Soundness.{each_of, is_right, guarded_rests}
pub use Rattle.typed_values.proofs.Induction.{InField, InFields, InTagged, InVariant, KnownLevel, firsts, by_levels, each_holds}
-- what a value denotes, descriptor by descriptor
pub use Rattle.typed_values.proofs.Rows.{two_maps, row_at}
pub use Rattle.typed_values.proofs.Denoted.{ok_below, ok_just, ok_all, ok_items, ok_entries, ok_struct, ok_first}
pub use Rattle.typed_values.proofs.DenotedFits.{denoted_fits}
-- which trees fit, descriptor by descriptor
pub use Rattle.typed_values.proofs.FitRows.{below_true, place_row, fits_any, fits_bool, fits_char, fits_int, fits_text, fits_enumeration, fits_option, fits_list, fits_map, fits_struct, fits_ref, alternative_inside, skipped_desc}
pub use Rattle.typed_values.proofs.FitSteps.{nought_row, skipped_row}
-- what is written, and that it is read back
pub use Rattle.typed_values.proofs.ScalarsBack.{kind_whole}
pub use Rattle.typed_values.proofs.WrittenBack.{read_back}
-- the schema of a descriptor, descriptor by descriptor
pub use Rattle.typed_values.proofs.DescBesides.{made_row}
pub use Rattle.typed_values.proofs.SchemaRows.{parts_row, sketch_level, sketch_row}
-- where a name stands among things that have names
pub use Rattle.typed_values.proofs.Listed.{found_inside}
-- what each arm of the decoder needs: its row, and that the descriptors that it goes on to are parts
pub use Rattle.typed_values.proofs.Arms.{at_tag_other, at_tag_text, no_payload, payload_told}
-- what holds of each tree that it holds of the parts of
pub use Rattle.typed_values.proofs.TreeParts.{OfParts, by_parts, parts_weaker}
-- on a sound table the steps are never spent: each row of what is written holds with no steps in it
pub use Rattle.typed_values.proofs.EncodeSteps.{is_none_tree, skipped_written, struct_written, written_row}
-- what each arm of the encoder needs: its row
pub use Rattle.typed_values.proofs.EncodeRows.{written_ref, written_scalar}
