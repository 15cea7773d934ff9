use Rattle.std.proofs.Common.{◌≡◌, ◌+◌, ◌<◌, true, false, ◌∷◌, ◌++◌, [], length, sym, subst, ap, ◌∙◌, arith, take}
use Rattle.std.proofs.lemmas.List.{take_all, take_more}
use Rattle.std.proofs.lemmas.List.Elements.{All-get_or}
use Rattle.bt_grids.specs.Grids.{AreGrids, IsWithin}
use Rattle.bt_layout.specs.inner.Progressing.{AskSmall}
use Rattle.bt_layout.proofs.Smaller.{ask_each, ask_more, ask_none, ask_same}
use Rattle.bt_layout.proofs.small.small_requests.Goals.{then-has_fewer+in_ok-request_on+in_ok-push, else-has_fewer}
use Rattle.bt_layout.proofs.small.small_requests.Goals as goal

pub loop-place-init : goal.loop-place-init
loop-place-init c = subst (AskSmall c.args.request.now c.args.cells []) (sym c.new-requests.ensures.items) (ask_none c.args.request.now c.args.cells)

pub loop-place-preserved : goal.loop-place-preserved
loop-place-preserved c =
    let r = c.args.request.now in
    let cells = c.args.cells in
    let grids = c.in_ok-grids.grids.items in
    let place = c.loop-place.place in
    let grid = c.index-grid.result.now in
    let asked = c.loop-place.requests.items in
    let inside : place < length grids = omega (arith, c.loop-place-test.true, c.len-place-end.ensures, c.in_ok-grids.grids.ok.0) in
    let next = take_more grids place grid inside ∙ ap (λ g. take place grids ++ g ∷ []) (sym c.index-grid.ensures) in
    let are = subst (λ most. AreGrids most grids) c.rect.ensures.rect c.in_ok-grids.ensures in
    elim c.if-has_fewer.branch [
      | then-has_fewer+in_ok-request_on+in_ok-push w ↦
          let within = subst (IsWithin r.rect) (sym c.index-grid.ensures) (All-get_or (IsWithin r.rect) grids place grid inside are.within) in
          let few = c.has_fewer.ensures.0 w.if-has_fewer.true in
          subst (AskSmall r cells (take (place + 1) grids)) (sym (ap (λ requests. requests.items) w.requests-is ∙ w.in_ok-push.ensures.items))
          (subst (λ seen. AskSmall r cells seen (asked ++ w.in_ok-request_on.field-0 ∷ [])) (sym next)
          (subst (λ one. AskSmall r cells (take place grids ++ grid ∷ []) (asked ++ one ∷ [])) (sym w.in_ok-request_on.ensures)
          (ask_more r cells (take place grids) asked grid (within, few) c.loop-place.invariant)))
      | else-has_fewer w ↦
          subst (AskSmall r cells (take (place + 1) grids)) (sym (ap (λ requests. requests.items) w.requests-is))
          (subst (λ seen. AskSmall r cells seen asked) (sym next)
          (ask_same r cells (take place grids) asked grid (λ few. let may : c.has_fewer.result ≡ true = c.has_fewer.ensures.1 few in let not : c.has_fewer.result ≡ false = w.if-has_fewer.false in absurd cc) c.loop-place.invariant))
    ]

pub returns : goal.returns
returns c =
    let r = c.args.request.now in
    let cells = c.args.cells in
    let grids = c.in_ok-grids.grids.items in
    let are = subst (λ most. AreGrids most grids) c.rect.ensures.rect c.in_ok-grids.ensures in
    let ended = c.loop-place-test.false in
    let all = take_all c.loop-place.place grids (omega (arith, ended, c.len-place-end.ensures, c.loop-place.auto.place-end, c.in_ok-grids.grids.ok.0)) in
    ask_each r cells grids c.loop-place.requests.items are (subst (λ seen. AskSmall r cells seen c.loop-place.requests.items) all c.loop-place.invariant)
