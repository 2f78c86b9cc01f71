-- What proofs of the crates above take from here: lemmas over the words of specs/, and the notions that they are stated in.

-- annotations in front of a schema's members change what it admits at null alone
pub use Rattle.written_schemas.proofs.Notes.{before_members, noted, notes_passed}
-- what the schemas of null, truth values, numbers and texts admit, and those that admit all or nothing
pub use Rattle.written_schemas.proofs.Scalars.{bounds, character_admits, lengths, number_admits, numbers, ok_holds, texts, words_admit}
-- how many things pass a test of which one at most does
pub use Rattle.written_schemas.proofs.Counted.{count, one_counted}
-- what the schemas of enumerations admit: a text that is one of the names, which exactly one of their choices has
pub use Rattle.written_schemas.proofs.Enumerations.{choices_counted, enumerated_is, is_named, named_once, names_admit, ok_named}
-- what stands in a sorted list is what stands in the list
pub use Rattle.written_schemas.proofs.Sorted.{all_sorted, any_sorted}
-- how many steps of a document the schema of a descriptor takes at one value
unfoldable pub use Rattle.written_schemas.proofs.Costs.{cost}
pub use Rattle.written_schemas.proofs.Costs.{cost_after, cost_by}
-- the schema of each form of descriptor, with the schemas of those that it is made of
pub use Rattle.written_schemas.proofs.Forms.{drawn_row, field_property, fields_drawn, names_required, properties_drawn}
-- how many JSON values the schema of a descriptor has, beside the steps that its top takes
pub use Rattle.written_schemas.proofs.Sizes.{bare, bare_fits}
-- the steps that a needed descriptor's schema takes are within the room of its document
pub use Rattle.written_schemas.proofs.Rooms.{cost_bounded}
-- the agreement in a whole document, whose room is enough
pub use Rattle.written_schemas.proofs.Whole.{plain_agrees, titled_agrees}
-- the members of a schema object have distinct names
pub use Rattle.written_schemas.proofs.KeyedMembers.{IsSoundlyDrawn, drawn_sound}
-- the schema of each form of descriptor is sound, where those that it is made of are
pub use Rattle.written_schemas.proofs.SoundForms.{appended, length_is_count, number_sound, text_sound}
-- the schema of a descriptor that passes its checks is sound
pub use Rattle.written_schemas.proofs.SoundSchemas.{in_header_stands, in_query_stands, plain_sound, schema_described_sound, schema_titled_sound, shown_plain_sound}
