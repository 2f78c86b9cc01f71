-- What the handler of each operation allows: the reply to some arguments, and the store that it leaves.
use Rattle.std.specs.Prelude.{◌≡◌, ◌⊎◌, ◌-◌, ◌^◌, ℕ, pos, List, [], ◌∷◌, length, min, true, None, IsSome, codes}
use Rattle.std.specs.Str.{encode_utf8_all}
use Rattle.descriptors.specs.declared.tree.Tree.{Tree}
use Rattle.descriptors.specs.declared.tree.Tree.TheVariants as trees
use Rattle.http_status.specs.Errors.{not_found}
use Rattle.handler_shapes.specs.declared.arguments.Arg.{Arg}
use Rattle.handler_shapes.specs.declared.arguments.Arg.TheVariants as arguments
use Rattle.tree_store.specs.Tables.{Tables, changed, pairs_with, pairs_without, stored}
use Rattle.api_respond.specs.declared.reply.Content.{Content}
use Rattle.api_respond.specs.declared.reply.Content.TheVariants.{Empty, Json}
use Rattle.api_respond.specs.declared.reply.ErrorReply.TheVariants.{Http}
use Rattle.api_respond.specs.declared.reply.Reply.{Reply}
use Rattle.api_respond.specs.declared.reply.Reply.TheVariants.{Failure, Success}
use Rattle.own_types.specs.declared.folder.Folder.{Folder}
use Rattle.own_types.specs.Folders.{folder_tree}
use Rattle.sample_types.specs.declared.operation.Operation.{Operation}
use Rattle.sample_types.specs.declared.operation.Operation.TheVariants as operations
use Rattle.sample_types.specs.Folders.{folder_count}
use Rattle.sample_types.specs.Types.{point_tree}

-- ---- replies

-- a success of a code, with this content and no other header lines
abbrev pub replied : ℕ → Content → Reply
replied code content = Success (record { status = code; content = content; named = None; others = [] })

-- a success that is JSON
abbrev pub gives : ℕ → Tree → Reply
gives code tree = replied code (Json tree)

-- ---- points

-- the one argument is a point, which is stored under its label and given back with status 201
pub record CreatesPoint (args : List Arg) (before : Tables) (reply : Reply) (after : Tables) : Type 0 where
  pub label : List ℕ
  pub n : Tree
  pub on : Tree
  pub given : args ≡ arguments.Tree (point_tree label n on) ∷ []
  pub reply_is : reply ≡ gives 201 (point_tree label n on)
  pub stored : after ≡ changed (codes "points") (pairs_with (encode_utf8_all label) (point_tree label n on)) before

-- the label of the path, the two numbers of the query and the one of the header are given back, and the store stays
pub record Probes (args : List Arg) (before : Tables) (reply : Reply) (after : Tables) : Type 0 where
  pub label : Tree
  pub n : Tree
  pub i : Tree
  pub a : Tree
  pub given : args ≡ arguments.Tree (trees.Fields (label ∷ []))
      ∷ arguments.Tree (trees.Fields (n ∷ i ∷ []))
      ∷ arguments.Tree (trees.Fields (a ∷ [])) ∷ []
  pub reply_is : reply ≡ gives 200 (trees.Fields (label ∷ n ∷ i ∷ a ∷ []))
  pub stays : after ≡ before

-- a point of this label is there: it is dropped, with status 204
pub record IsDropped (label : List ℕ) (before : Tables) (reply : Reply) (after : Tables) : Type 0 where
  pub there : IsSome (stored (codes "points") (encode_utf8_all label) before)
  pub reply_is : reply ≡ replied 204 Empty
  pub dropped : after ≡ changed (codes "points") (pairs_without (encode_utf8_all label)) before

-- none is there: that is told by the error of status 404, and the store stays
pub record IsAbsent (label : List ℕ) (before : Tables) (reply : Reply) (after : Tables) : Type 0 where
  pub absent : stored (codes "points") (encode_utf8_all label) before ≡ None
  pub reply_is : reply ≡ Failure (Http (not_found None (codes "Not Found")))
  pub stays : after ≡ before

-- the one argument is the label of a path
pub record DropsPoint (args : List Arg) (before : Tables) (reply : Reply) (after : Tables) : Type 0 where
  pub label : List ℕ
  pub given : args ≡ arguments.Tree (trees.Fields (trees.Text label ∷ [])) ∷ []
  pub outcome : IsDropped label before reply after ⊎ IsAbsent label before reply after

-- ---- the others

-- the number of bytes is given back
pub record TellsSize (args : List Arg) (before : Tables) (reply : Reply) (after : Tables) : Type 0 where
  pub bytes : List ℕ
  pub given : args ≡ arguments.Raw bytes ∷ []
  pub reply_is : reply ≡ gives 200 (trees.Int (pos (length bytes)))
  pub stays : after ≡ before

-- The number of folders is given back, or 2^32-1 where there are more. Folders of one tree are as many, as
-- `trees_tell_counts` of `sample_types` says, so that is one number.
pub record CountsFolders (args : List Arg) (before : Tables) (reply : Reply) (after : Tables) : Type 0 where
  pub folder : Folder
  pub given : args ≡ arguments.Tree (folder_tree folder) ∷ []
  pub reply_is : reply ≡ gives 200 (trees.Int (pos (min (folder_count folder) (2 ^ 32 - 1))))
  pub stays : after ≡ before

-- `true` is given back
pub record TellsTrue (args : List Arg) (before : Tables) (reply : Reply) (after : Tables) : Type 0 where
  pub given : args ≡ []
  pub reply_is : reply ≡ gives 200 (trees.Bool true)
  pub stays : after ≡ before

-- ---- all

-- what the handler of an operation may reply to arguments, and which store it may leave
abbrev pub allowed : Operation → List Arg → Tables → Reply → Tables → Type 0
allowed operations.PointCreate = CreatesPoint
allowed operations.PointProbe = Probes
allowed operations.PointDrop = DropsPoint
allowed operations.RawSize = TellsSize
allowed operations.FolderCount = CountsFolders
allowed operations.Inner = TellsTrue
