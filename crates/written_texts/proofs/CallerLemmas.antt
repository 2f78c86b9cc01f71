-- What the crates above cite of this one's proofs. Other files of proofs are its own.

-- ---- one text under one descriptor
pub use Rattle.written_texts.proofs.Whole.{true_where, holds_where, plain_texts, header_texts, query_texts, plain_agree, titled_agree, described_agree, header_agree, query_agree}
-- ---- a struct of scalar fields
pub use Rattle.written_texts.proofs.FlatFields.{fields_defined, field_written}
-- ---- the parameters of its fields, in each place
pub use Rattle.written_texts.proofs.ParameterLists.{listed_fields, path_told, query_told, header_lines_told, variables_are, queries_are, headers_are}
pub use Rattle.written_texts.proofs.PageTexts.{first_pages, later_pages}
-- ---- its forms
pub use Rattle.written_texts.proofs.FormSchemas.{plain_are, titled_are, described_are}
