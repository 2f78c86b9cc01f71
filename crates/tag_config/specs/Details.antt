-- What documents say of a tag, as JSON has it (OpenAPI 3.0.3, Tag Object and External Documentation Object). The
-- names are those of the Rust fields.
use Rattle.std.specs.Prelude.{[], ◌∷◌, codes, None, false}
use Rattle.descriptors.specs.declared.desc.Desc.{Desc}
use Rattle.descriptors.specs.declared.desc.Desc.TheVariants as descs
use Rattle.descriptors.specs.declared.tree.Tree.{Tree}
use Rattle.descriptors.specs.declared.tree.Tree.TheVariants as trees
use Rattle.api_types.specs.Heads.{nullable, required}
use Rattle.api_types.specs.Options.{option_tree}
use Rattle.api_types.specs.StructTypes.{field_with}
use Rattle.tag_config.specs.declared.details.TagDetails.{TagDetails}
use Rattle.tag_config.specs.declared.details.TagExternalDocs.{TagExternalDocs}

-- any text
abbrev pub text_desc : Desc
text_desc = descs.Text None None None

-- where more is said: a text, maybe, and an address
abbrev pub docs_desc : Desc
docs_desc = descs.Struct
    (field_with (nullable (codes "description")) (descs.Option text_desc)
    ∷ field_with (required (codes "url")) text_desc
    ∷ []) false

-- what is said of a tag: a text, maybe, and where more is said, maybe
abbrev pub details_desc : Desc
details_desc = descs.Struct
    (field_with (nullable (codes "description")) (descs.Option text_desc)
    ∷ field_with (nullable (codes "external_docs")) (descs.Option docs_desc)
    ∷ []) false

-- the tree of where more is said
abbrev pub docs_tree : TagExternalDocs → Tree
docs_tree docs = trees.Fields (option_tree trees.Text docs.description ∷ trees.Text docs.url ∷ [])

-- the tree of what is said of a tag
abbrev pub details_tree : TagDetails → Tree
details_tree details =
    trees.Fields (option_tree trees.Text details.description ∷ option_tree docs_tree details.external_docs ∷ [])
