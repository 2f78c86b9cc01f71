use Rattle.std.proofs.Common.{◌∙◌, ◌++◌, String, Global, ap, map, sym}
use Rattle.std.specs.Map.Iter.{deref_pair}
use Rattle.std.proofs.lemmas.Iterator.Consumers.{YieldsList-end, YieldsList-from_rest}
use Rattle.std.proofs.lemmas.Map.Iter.{rest_so_far}
use Rattle.schema_values.specs.declared.schema.Schema.{Schema}
use Rattle.endpoint_metadata.specs.ByBytes.{entries_by_bytes}
use Rattle.endpoint_metadata.proofs.SchemasInOrder.{named_same, next_is_new_copy}
use Rattle.endpoint_metadata.proofs.definitions.copy_definitions.Goals as goal

pub define-requires : goal.define-requires
define-requires c =
    let l = c.loop-name in
    let start = c.into_iter-name-iterator.ensures.into_iter_gives in
    let done = map deref_pair l.yielded in
    let entry : String Global × Schema = (c.in-Some.name.now, c.in-Some.schema.now) in
    let split =
    sym start.0 ∙ rest_so_far deref_pair l.yielded c.into_iter-name-iterator.result l.name-iterator l.yielded_by
    ∙ ap (λ es. done ++ es) c.in-Some.ensures.steps in
    rw c.as_str.ensures.value
    (next_is_new_copy c.args.definitions.now.entries done entry c.next.new.self l.copies.entries split start.4
    l.invariant)

pub returns : goal.returns
returns c =
    let l = c.loop-name in
    let start = c.into_iter-name-iterator.ensures.into_iter_gives in
    let entries = c.args.definitions.now.entries in
    let all =
    YieldsList-end
    (YieldsList-from_rest entries start.0) l.yielded l.name-iterator l.yielded_by c.next.result c.next.new.self
    c.in-None.is c.next.ensures.steps in
    named_same l.copies.entries entries (l.invariant ∙ ap entries_by_bytes all.0)
