-- Pages of results as a document describes them.
use Rattle.std.specs.Prelude.{◌++◌, ℕ, List, [], ◌∷◌, codes, None, false}
use Rattle.descriptors.specs.declared.desc.Desc.{Desc}
use Rattle.descriptors.specs.declared.desc.Desc.TheVariants as descs
use Rattle.descriptors.specs.declared.table.Definition.{Definition}
use Rattle.api_types.specs.declared.struct_head.StructHead.{StructHead}
use Rattle.api_types.specs.Heads.{described, described_struct, nullable, required, struct_of}
use Rattle.api_types.specs.Kinds.{Kind, kept}
use Rattle.api_types.specs.StructTypes.{struct_definition, struct_definitions}

-- the name of the items' type, and then `ResultsPage`
abbrev pub page_name : List ℕ → List ℕ
page_name item = item ++ codes "ResultsPage"

-- the two members with their descriptions
abbrev pub page_head : StructHead
page_head =
    described_struct (codes "A single page of results")
    (struct_of
    (described (codes "token used to fetch the next page of results (if any)") (nullable (codes "next_page"))
    ∷ described (codes "list of items on this page of results") (required (codes "items"))
    ∷ []))

-- their types: an option of a text, and a list of items, whose definitions and descriptor are given
abbrev pub page_kinds : List Definition → Desc → List Kind
page_kinds definitions desc =
    kept [] (descs.Option (descs.Text None None None)) ∷ kept definitions (descs.List desc None None) ∷ []

-- the definition of pages of items of a type, by its name, definitions and descriptor
abbrev pub page_definition : List ℕ → List Definition → Desc → Definition
page_definition item definitions desc =
    struct_definition (page_name item) page_head (page_kinds definitions desc)

-- the definitions behind it: those of the items, and its own
abbrev pub page_definitions : List ℕ → List Definition → Desc → List Definition
page_definitions item definitions desc =
    struct_definitions false (page_name item) page_head (page_kinds definitions desc)

-- the descriptor of pages: the reference to their definition
abbrev pub page_desc : List ℕ → Desc
page_desc item = descs.Ref (page_name item)
