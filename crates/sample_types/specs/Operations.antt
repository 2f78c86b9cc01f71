-- The operations of the sample: the name of each, and its shape.
use Rattle.std.specs.Prelude.{ℕ, List, codes}
use Rattle.handler_shapes.specs.declared.shape.HandlerShape.{HandlerShape}
use Rattle.sample_types.specs.declared.operation.Operation.{Operation}
use Rattle.sample_types.specs.declared.operation.Operation.TheVariants as operations
use Rattle.sample_types.specs.Shapes.{folder_count_shape, inner_shape, point_create_shape, point_drop_shape}
use Rattle.sample_types.specs.Shapes.{point_probe_shape, raw_size_shape}

abbrev pub name_of : Operation → List ℕ
name_of operations.PointCreate = codes "point_create"
name_of operations.PointProbe = codes "point_probe"
name_of operations.PointDrop = codes "point_drop"
name_of operations.RawSize = codes "raw_size"
name_of operations.FolderCount = codes "folder_count"
name_of operations.Inner = codes "inner"

abbrev pub shape_of : Operation → HandlerShape
shape_of operations.PointCreate = point_create_shape
shape_of operations.PointProbe = point_probe_shape
shape_of operations.PointDrop = point_drop_shape
shape_of operations.RawSize = raw_size_shape
shape_of operations.FolderCount = folder_count_shape
shape_of operations.Inner = inner_shape
