use Rattle.std.proofs.Common.{◌≡◌, List, Option, Some, None, Bor, refl}
use Rattle.std.specs.Fmt.{debug_list, debug_option}
use Rattle.std.specs.Option.{option_copied}
use Rattle.header_lists.specs.HeaderLists.{Line}
use Rattle.http_status.specs.Texts.{lines_debug}
use Rattle.http_status.proofs.error.HttpErrorDebug.fmt.Goals as goal

-- lent lines have the debug text of the lines
lent : (lines : Option (Bor (List Line)))
    → debug_option (λ list. debug_list (λ line. None) list.now) lines ≡ lines_debug (option_copied lines)
lent None = refl
lent (Some lines) = refl

-- the lines that are written are lent by the error
pub returns : goal.returns
returns g c = record { writes = rw (← c.listed-headers.ensures, ← lent c.listed-headers.result) c.write.ensures.writes }
