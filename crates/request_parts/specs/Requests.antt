-- Requests without their bodies, as contracts see them.
use Rattle.std.specs.Prelude.{ℕ, List}
use Rattle.semver.specs.Parse.{Parts}
use Rattle.schema_values.specs.declared.variables.VariableValue.{VariableValue}
use Rattle.request_parts.specs.declared.info.RequestInfo.{RequestInfo}

-- names with what they stand for, in the order of the names
abbrev pub Variables : Type 0
Variables = List (List ℕ × VariableValue)

-- the version as its parts, the template, the variables of the path, the id, and the head
pub record Request : Type 0 where
  pub version : Parts
  pub template : List ℕ
  pub variables : Variables
  pub request_id : List ℕ
  pub info : RequestInfo
