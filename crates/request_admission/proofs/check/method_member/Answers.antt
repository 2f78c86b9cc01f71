use Rattle.std.proofs.Common.{codes, refl}
use Rattle.request_admission.proofs.MethodLemmas.{member_named, member_missing}
use Rattle.request_admission.proofs.check.method_member.Goals as goal

pub returns-in-GET : goal.returns-in-GET
returns-in-GET c = member_named c.args.method.now (codes "GET") (codes "get") c.in-GET.is refl refl refl

pub returns-in-PUT : goal.returns-in-PUT
returns-in-PUT c = member_named c.args.method.now (codes "PUT") (codes "put") c.in-PUT.is refl refl refl

pub returns-in-POST : goal.returns-in-POST
returns-in-POST c = member_named c.args.method.now (codes "POST") (codes "post") c.in-POST.is refl refl refl

pub returns-in-DELETE : goal.returns-in-DELETE
returns-in-DELETE c = member_named c.args.method.now (codes "DELETE") (codes "delete") c.in-DELETE.is refl refl refl

pub returns-in-OPTIONS : goal.returns-in-OPTIONS
returns-in-OPTIONS c = member_named c.args.method.now (codes "OPTIONS") (codes "options") c.in-OPTIONS.is refl refl refl

pub returns-in-HEAD : goal.returns-in-HEAD
returns-in-HEAD c = member_named c.args.method.now (codes "HEAD") (codes "head") c.in-HEAD.is refl refl refl

pub returns-in-PATCH : goal.returns-in-PATCH
returns-in-PATCH c = member_named c.args.method.now (codes "PATCH") (codes "patch") c.in-PATCH.is refl refl refl

pub returns-in-TRACE : goal.returns-in-TRACE
returns-in-TRACE c = member_named c.args.method.now (codes "TRACE") (codes "trace") c.in-TRACE.is refl refl refl

pub returns-in_default : goal.returns-in_default
returns-in_default c =
    member_missing c.args.method.now c.utf8.method c.in_default.not-GET c.in_default.not-PUT c.in_default.not-POST c.in_default.not-DELETE
    c.in_default.not-OPTIONS c.in_default.not-HEAD c.in_default.not-PATCH c.in_default.not-TRACE
