use Rattle.std.proofs.Common.{List, subst, sym}
use Rattle.std.proofs.lemmas.Result.{IfOk-weaker}
use Rattle.schema_values.specs.declared.json_value.Member.{Member}
use Rattle.schema_values.specs.Sound.{IsSound}
use Rattle.schema_values.specs.SoundMembers.{HasSoundMembers}
use Rattle.schema_values.proofs.CallerLemmas.{IsSound-Object}
use Rattle.request_lines.specs.Said.{Says}
use Rattle.request_lines.proofs.SaidLemmas.{object_same}
use Rattle.request_lines.proofs.request_line.request_in.Goals as goal

pub request_of-requires : goal.request_of-requires
request_of-requires c =
    subst HasSoundMembers (sym c.into_vec-members.ensures)
    ((IsSound-Object c.in-Object.members).0 (subst IsSound c.in-Object.is c.requires))

pub returns-in_default-clause-bad : goal.returns-in_default-clause-bad
returns-in_default-clause-bad c bad said says at request frames made = c.in_default.not-Object says.0 says.1

pub returns-clause-memory : goal.returns-clause-memory
returns-clause-memory c memory = (c.in-Object.members, c.in-Object.is)

pub returns-clause-made : goal.returns-clause-made
returns-clause-made c =
    IfOk-weaker c.request_of.result _ _
    (λ asked made. (
      made.0,
      (
        c.in-Object.members,
        c.in-Object.is,
        subst (λ (ms : List Member). Says ms made.0) c.into_vec-members.ensures made.1,
      ),
      made.2,
    )) c.request_of.ensures.made

pub returns-clause-bad : goal.returns-clause-bad
returns-clause-bad c bad said says at request frames made =
    let same = object_same c.args.json says.0 c.in-Object.members says.1 c.in-Object.is in
    c.request_of.ensures.bad bad said
    (subst (λ (ms : List Member). Says ms said) (sym c.into_vec-members.ensures)
    (subst (λ (ms : List Member). Says ms said) same says.2)) at request frames made
