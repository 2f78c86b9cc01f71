-- What is written or read is admitted, and what is admitted is read.
use Rattle.std.proofs.Common.{◌≡◌, List, Result, Ok, Err, IfOk, sym, subst}
use Rattle.schema_values.specs.declared.json_value.Json.{Json}
use Rattle.schema_values.specs.Sound.{IsSound}
use Rattle.openapi_values.specs.JsonAdmits.{JsonAdmits}
use Rattle.descriptors.specs.declared.desc.Desc.{Desc}
use Rattle.descriptors.specs.declared.table.Definition.{Definition}
use Rattle.typed_values.specs.declared.fault.DecodeError.{DecodeError}
use Rattle.typed_values.specs.declared.fault.DecodeError.TheVariants as error
use Rattle.descriptors.specs.declared.tree.Tree.{Tree}
use Rattle.typed_values.specs.Answer.{IfFault}
use Rattle.typed_values.specs.Denotes.{JsonDenotes}
use Rattle.written_schemas.specs.Written.{AdmitsDenoted}

pub admitted : {E : Type 0} (doc schema : Json) (table : List Definition) (desc : Desc) → AdmitsDenoted doc schema table desc → (r : Result Json E)
    → IfOk r IsSound → IfOk r (λ json. (read : Tree) × JsonDenotes table desc json read) → IfOk r (JsonAdmits doc schema)
admitted doc schema table desc agrees (Ok json) sound denotes = (agrees json sound).1 denotes
admitted doc schema table desc agrees (Err e) sound denotes = tt

pub none_refused : (doc schema : Json) (table : List Definition) (desc made : Desc) → made ≡ desc → AdmitsDenoted doc schema table desc → (json : Json) → IsSound json → JsonAdmits doc schema json → (e : DecodeError)
    → IfFault e (λ fault. (tree : Tree) → JsonDenotes table made json tree → ⊥) → IfFault e (λ fault. ⊥)
none_refused doc schema table desc made is agrees json sound admits (error.Fault fault) refused =
    let (tree, denotes) = (agrees json sound).0 admits in
    refused tree (subst (λ d. JsonDenotes table d json tree) (sym is) denotes)
none_refused doc schema table desc made is agrees json sound admits error.OutOfMemory refused = tt

pub read_admitted : (doc schema : Json) (table : List Definition) (desc made : Desc) → made ≡ desc → AdmitsDenoted doc schema table desc → (json : Json) → IsSound json → (tree : Tree) → JsonDenotes table made json tree → JsonAdmits doc schema json
read_admitted doc schema table desc made is agrees json sound tree denotes = (agrees json sound).1 (tree, subst (λ d. JsonDenotes table d json tree) is denotes)
