use Rattle.std.proofs.Common.{◌≡◌, drop, filter, fold}
use Rattle.std.specs.Prelude.{not}
use Rattle.std.specs.BTreeSet.{insert_key}
use Rattle.endpoint_checks.specs.Names.{is_among, missing_in, name_order}
use Rattle.endpoint_checks.proofs.names.missing_in.Given as goal

abbrev pub invariant-loop-name : goal.invariant-loop-name
invariant-loop-name l =
    missing_in l.others l.names ≡ fold (insert_key name_order) l.missing.keys (filter (λ name. not (is_among name l.others)) (drop l.name-index l.names))
