-- Two words, and what they ask for.
use Rattle.std.proofs.Common.{◌≡◌, ◌≢◌, ◌⊎◌, ℕ, List, [], ◌∷◌, String, Global, Ok, Err, Result, string_bytes, codes}
use Rattle.std.proofs.Common.{Bool, true, bytes_eq, subst}
use Rattle.std.proofs.Common.{◌<◌, ◌≤◌, length, get_or, arith, sym, ◌∙◌, ap, inl, inr}
use Rattle.std.proofs.lemmas.Slice.Eq.{bytes_eq-Decides}
use Rattle.semver.specs.Identifiers.{parts_of}
use Rattle.semver.specs.Parse.{Parts, version_parts, IsPlain}
use Rattle.semver.specs.declared.error.Error.{Error}
use Rattle.command_line.specs.declared.words.Command.{Command}
use Rattle.command_line.specs.declared.words.Command.TheVariants as commands
use Rattle.command_line.specs.Words.{AskFor, AskForDocument, AskForSession, IsCommand, IsCommandOf, IsNormalVersion}

-- two items
pub two_items : {A : Type 0} (xs : List A) (one two : A) → 2 ≤ length xs → length xs < 3 → one ≡ get_or xs 0 one
    → two ≡ get_or xs 1 two → xs ≡ one ∷ two ∷ []
two_items [] one two least most p q = absurd (omega (arith, least))
two_items (a ∷ []) one two least most p q = absurd (omega (arith, least))
two_items (a ∷ b ∷ []) one two least most p q = cc (p, q)
two_items (a ∷ b ∷ c ∷ rest) one two least most p q = absurd (omega (arith, most))

-- a test of equal bytes that was passed
pub named_so : (word : String Global) (text name : List ℕ) (b : Bool) → text ≡ string_bytes word
    → b ≡ bytes_eq text name
    → b ≡ true → string_bytes word ≡ name
named_so word text name b same is passed = sym same ∙ (bytes_eq-Decides text name).0 (sym is ∙ passed)

module _ (words : List (String Global)) (one two : String Global) (text : List ℕ) (are : words ≡ one ∷ two ∷ [])
    (same : text ≡ string_bytes two) where
  pub asked_so : (command : List ℕ) (version : Parts) → string_bytes one ≡ command → version_parts text ≡ Ok version
      → AskFor command words version
  asked_so command version named read =
      record { first = one; second = two; two = are; asked = named; read = ap version_parts (sym same) ∙ read }

  -- a command has a version
  text_read : (command : List ℕ) (version : Parts) → AskFor command words version → version_parts text ≡ Ok version
  text_read command version asked =
      let lists : one ∷ two ∷ [] ≡ asked.first ∷ asked.second ∷ [] = sym are ∙ asked.two in
      let second : two ≡ asked.second = cc lists in
      ap version_parts (same ∙ ap string_bytes second) ∙ asked.read

  pub version_read : (version : Parts) → AskForSession words version ⊎ AskForDocument words version
      → version_parts text ≡ Ok version
  version_read version (inl asked) = text_read (codes "session") version asked
  version_read version (inr asked) = text_read (codes "document") version asked

  pub no_command : ((version : Parts) → version_parts text ≢ Ok version) → ¬ IsCommand words
  no_command none (version, asked) = none version (version_read version asked)

-- a normal version is not refused
pub normal_taken : (T : Type 0) (read : Result Parts Error) (error : Error) (parts : Parts)
    → IsPlain {T = T} read (Err error) → read ≡ Ok parts → IsNormalVersion parts → ⊥
normal_taken T read error parts plain is (pre, build) =
    let refused = subst (λ (r : Result Parts Error). IsPlain {T = T} r (Err error)) is plain in
    cc (refused (ap length pre) (ap length build))

-- a command asks for one version
pub asked_once : (command other : List ℕ) (words : List (String Global)) (one two : Parts) → AskFor command words one
    → AskFor other words two → (one ≡ two) × (command ≡ other)
asked_once command other words one two a b =
    let lists : a.first ∷ a.second ∷ [] ≡ b.first ∷ b.second ∷ [] = sym a.two ∙ b.two in
    let firsts : a.first ≡ b.first = cc lists in
    let seconds : a.second ≡ b.second = cc lists in
    let same : Ok one ≡ Ok two =
    sym a.read ∙ ap (λ (w : String Global). version_parts (string_bytes w)) seconds ∙ b.read in
    (cc same, sym a.asked ∙ ap string_bytes firsts ∙ b.asked)

-- no words ask for both
pub not_both : (words : List (String Global)) (one two : Parts) → AskForSession words one → AskForDocument words two → ⊥
not_both words one two a b =
    let same : codes "session" ≡ codes "document" =
    (asked_once (codes "session") (codes "document") words one two a b).1 in
    cc same

-- each is a command
pub command_is : (words : List (String Global)) (command : Command) → IsCommandOf words command → IsCommand words
command_is words (commands.Session version) asked = (parts_of version, inl asked)
command_is words (commands.Document version) asked = (parts_of version, inr asked)
