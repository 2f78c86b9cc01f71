use Rattle.std.proofs.Common.{◌≡◌, Bor, Result, Ok, Err, IfOk, None}
use Rattle.std.specs.HashMap.{get_by_text}
use Rattle.schema_values.specs.declared.schema.Schema.{Schema}
use Rattle.schema_util.specs.Code.{resolve_value}
use Rattle.schema_util.specs.References.{reference_of}
use Rattle.schema_util.specs.declared.references.ResolveError.{ResolveError}
use Rattle.schema_util.proofs.Once.{no_reference}
use Rattle.schema_util.proofs.references.resolve.Goals as goal

found_none : (r : Result (Bor Schema) ResolveError) → IfOk (resolve_value r) (λ found. reference_of found ≡ None) → IfOk r (λ found. reference_of found.now ≡ None)
found_none (Ok found) h = h
found_none (Err error) h = tt

pub returns-clause-settled : goal.returns-clause-settled
returns-clause-settled c = found_none c.resolve_behind.result (no_reference (get_by_text c.args.definitions.now) c.resolve_behind.ensures)
