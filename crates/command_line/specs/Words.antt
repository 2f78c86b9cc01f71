-- The command line: what is to be done, and a version by Semantic Versioning 2.0.0.
use Rattle.std.specs.Prelude.{◌≡◌, ◌⊎◌, ℕ, List, [], ◌∷◌, string_bytes, codes, Ok}
use Rattle.std.specs.declared.alloc.Global.{Global}
use Rattle.std.specs.declared.string.String.{String}
use Rattle.semver.specs.Identifiers.{parts_of}
use Rattle.semver.specs.Parse.{Parts, version_parts}
use Rattle.command_line.specs.declared.words.Command.{Command}
use Rattle.command_line.specs.declared.words.Command.TheVariants as commands

-- the words are this one, and behind it a version of these parts
pub record AskFor (command : List ℕ) (words : List (String Global)) (version : Parts) : Type 0 where
  pub first : String Global
  pub second : String Global
  pub two : words ≡ first ∷ second ∷ []
  pub asked : string_bytes first ≡ command
  pub read : version_parts (string_bytes second) ≡ Ok version

-- a session at a version is asked for
abbrev pub AskForSession : List (String Global) → Parts → Type 0
AskForSession = AskFor (codes "session")

-- the document of a version alone is asked for
abbrev pub AskForDocument : List (String Global) → Parts → Type 0
AskForDocument = AskFor (codes "document")

-- the words are a command
abbrev pub IsCommand : List (String Global) → Type 0
IsCommand words = (version : Parts) × (AskForSession words version ⊎ AskForDocument words version)

-- a normal version: without a prerelease and without build metadata (Semantic Versioning 2.0.0, sections 2, 9 and 10)
abbrev pub IsNormalVersion : Parts → Type 0
IsNormalVersion version = (version.3 ≡ []) × (version.4 ≡ [])

-- the words are a command with a normal version
abbrev pub IsNormalCommand : List (String Global) → Type 0
IsNormalCommand words =
    (version : Parts) × IsNormalVersion version × (AskForSession words version ⊎ AskForDocument words version)

-- they are this one
abbrev pub IsCommandOf : List (String Global) → Command → Type 0
IsCommandOf words (commands.Session version) = AskForSession words (parts_of version)
IsCommandOf words (commands.Document version) = AskForDocument words (parts_of version)
