use Rattle.std.proofs.Common.{◌++◌, codes, take}
use Rattle.std.specs.Fmt.{HasWritten, IsPlainFormatter}
use Rattle.std.specs.List.{flat_map}
use Rattle.api_registration.specs.Texts.{error_line}
use Rattle.api_registration.proofs.error.ApiDescriptionBuildErrorsDisplay.fmt.Given as goal

-- the heading and the lines so far are written
abbrev pub invariant-loop-error : goal.invariant-loop-error
invariant-loop-error g l =
    IsPlainFormatter l.fn.f → HasWritten g.W.Write.write_str_gives l.fn.f (codes "failed to register endpoints: \n" ++ flat_map error_line (take l.error-index l.self.errors)) l.f
