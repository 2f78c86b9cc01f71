use Rattle.std.proofs.Common.{◌≡◌, Some, None, ap, arith, subst, sym, take, ◌∙◌}
use Rattle.std.proofs.lemmas.List.Elements.{Contains-get_or}
use Rattle.std.proofs.lemmas.Result.{err_from_is_err_and}
use Rattle.std.specs.Prelude.{Contains}
use Rattle.handler_shapes.specs.declared.slot.Slot.{Slot}
use Rattle.endpoint_metadata.specs.Modes.{AskAlike, AskFor, mode_of, PageNames, first_asked, asked_names}
use Rattle.endpoint_metadata.proofs.AskedNames.{alike_last, ask_within, first_asks, mode_joined, mode_kept}
use Rattle.endpoint_metadata.proofs.AskedNames.{one_more_slot, paginated}
use Rattle.endpoint_metadata.proofs.modes.joint_mode.Goals as goal
use Rattle.endpoint_metadata.proofs.modes.joint_mode.Goals.{in-Some+in_ok-mode, in_default}

pub loop-slot-preserved : goal.loop-slot-preserved
loop-slot-preserved c =
    let table = c.args.table.now in
    let slot = c.slot-item.result in
    let before = take c.loop-slot.slot-index c.args.slots.now in
    let so_far = c.loop-slot.invariant in
    let more = one_more_slot c.args.slots.now c.loop-slot.slot-index slot (omega arith) c.slot-item.is in
    elim c.match-branch-2.branch [
      | in-Some+in_ok-mode w ↦
          let names = w.in-Some.names in
          let some : asked_names table slot ≡ Some names = sym c.in_ok-names.ensures ∙ w.in-Some.is in
          let same : (first : PageNames) → first_asked table before ≡ Some first → first ≡ names =
          λ first is. w.in_ok-mode.ensures.same first (so_far.mode ∙ ap mode_of is) in
          record {
            mode = w.mode-is ∙ w.in_ok-mode.ensures.joined ∙ mode_joined table before slot names some same
                ∙ ap (λ slots. mode_of (first_asked table slots)) (sym more);
            alike = subst (AskAlike table) (sym more)
                (alike_last table before slot so_far.alike
                (λ first other is asked. let asked_too = sym some ∙ asked in same first is ∙ cc asked_too));
          }
      | in_default w ↦
          let none : asked_names table slot ≡ None = sym c.in_ok-names.ensures ∙ w.in_default.is in
          record {
            mode = w.mode-is ∙ mode_kept table before slot c.loop-slot.mode none so_far.mode
                ∙ ap (λ slots. mode_of (first_asked table slots)) (sym more);
            alike = subst (AskAlike table) (sym more)
                (alike_last table before slot so_far.alike (λ first other is asked. absurd (cc (sym none ∙ asked))));
          }
    ]

pub returns-in_err-mode-clause-incompatible : goal.returns-in_err-mode-clause-incompatible
returns-in_err-mode-clause-incompatible c =
    let table = c.args.table.now in
    let slots = c.args.slots.now in
    let i = c.loop-slot.slot-index in
    let slot = c.slot-item.result in
    let names = c.in-Some.names in
    let differ = c.in_err-mode.ensures.differ in
    let first_is : first_asked table (take i slots) ≡ Some differ.0 =
    paginated (first_asked table (take i slots)) differ.0 (sym c.loop-slot.invariant.mode ∙ differ.1) in
    let inside : Contains slots slot =
    subst (λ (s : Slot). Contains slots s) (sym c.slot-item.is) (Contains-get_or slots i slot (omega arith)) in
    let asks : AskFor table slots names = (slot, inside, sym c.in_ok-names.ensures ∙ c.in-Some.is) in
    let exit = err_from_is_err_and c.from_residual-in_err-mode.result c.from_residual-in_err-mode.ensures.1 in
    rw exit.1
    (λ is. (
      differ.0,
      names,
      ask_within table slots i differ.0 (first_asks table (take i slots) differ.0 first_is),
      asks,
      differ.2,
    ))
