-- The last item's selector, and why it has no token.
use Rattle.std.proofs.Common.{◌≡◌, ◌-◌, List, length, Some, refl, subst, sym}
use Rattle.std.specs.Fn.{Shared}
use Rattle.std.specs.Prelude.{ℕ, Result, IfErr, IsErrAnd, slice_get}
use Rattle.std.specs.declared.alloc.AllocError.{AllocError}
use Rattle.std.specs.declared.alloc.Global.{Global}
use Rattle.std.specs.declared.result.Result.TheVariants.{Ok, Err}
use Rattle.http_status.specs.declared.refusal.HttpRefusal.{HttpRefusal}
use Rattle.http_status.specs.declared.refusal.HttpRefusal.TheVariants.{Http, OutOfMemory}
use denote.Ref.{Bor}
use Rattle.result_pages.specs.NextPages.{IsNoPage, IsNoToken, Selects, SelectsLast}

pub selects_last : {F T S P : Type 0} (calls : Shared F (Global × (Bor T × (Bor S × Unit {0}))) (Result P AllocError)) (f : F) (alloc : Global) (scan : Bor S) (items : List T) (item : Bor T) (selector : P)
    → Some item.now ≡ slice_get items (length items - 1) → calls.post f (alloc, (item, (scan, tt))) (Ok selector) → SelectsLast (Selects calls f scan.now) items selector
selects_last calls f alloc scan items item selector last answers = record {
  last = item.now;
  is_last = sym last;
  selected = record {
    alloc = alloc;
    item_lent = item;
    scan_lent = scan;
    lends = (refl, refl);
    answers = answers;
  };
}

module _ {T P : Type 0} (Selected : T → P → Type 0) (token : P → List ℕ) (items : List T) (selector : P) (last : SelectsLast Selected items selector) where
  no_page : (refusal : HttpRefusal) → IsNoToken (token selector) refusal → IsNoPage Selected token items refusal
  no_page (Http error) none = (selector, last, none)
  no_page OutOfMemory none = tt

  -- where the selector has no token, whatever that is an answer of, there is no page
  pub no_token_told : {R : Type 0} (result : Result R HttpRefusal) (refusal : HttpRefusal) → IsErrAnd result (λ e. e ≡ refusal) → IsNoToken (token selector) refusal → IfErr result (IsNoPage Selected token items)
  no_token_told (Ok value) refusal is none = absurd is
  no_token_told (Err e) refusal is none = subst (IsNoPage Selected token items) (sym is) (no_page refusal none)
