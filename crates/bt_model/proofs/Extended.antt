-- A layout in every greater rectangle: column by column, and with rows and columns exchanged also row by row.
use Rattle.std.proofs.Common.{◌≡◌, inl, inr, ℕ, zero, suc, ◌+◌, ◌-◌, subst, arith}
use Rattle.bt_parts.specs.declared.part.Rect.{Rect}
use Rattle.bt_model.specs.Requests.{LayoutRequest}
use Rattle.bt_model.specs.Extending.{AsksNothing, HasLayout, in_rect, exchanged, Extends, HasNoneInside}
use Rattle.bt_model.proofs.Column.{has_wider}
use Rattle.bt_model.proofs.Exchanged.{has_exchanged}

abbrev so_wide : ℕ → Rect → Rect
so_wide width rect = record { width = width; height = rect.height }

asks_nothing : (r : LayoutRequest) (rect : Rect) → AsksNothing r → AsksNothing (in_rect rect r)
asks_nothing r rect none = record { demands = none.demands; blocks = none.blocks }

has_wide : (n width : ℕ) (r : LayoutRequest) → AsksNothing r → n + r.rect.width ≡ width → HasLayout r → HasLayout (in_rect (so_wide width r.rect) r)
has_wide zero width r none e laid = subst (λ w. HasLayout (in_rect (so_wide w r.rect) r)) (omega arith) laid
has_wide (suc n) width r none e laid =
    has_wide n width (in_rect (so_wide (suc r.rect.width) r.rect) r) (asks_nothing r (so_wide (suc r.rect.width) r.rect) none) (omega arith) (has_wider r none laid)

pub has_greater : Extends
has_greater r rect none wide high laid =
    let wider = in_rect (so_wide rect.width r.rect) r in
    let is_wider = has_wide (rect.width - r.rect.width) rect.width r none (omega arith) laid in
    let turned = in_rect (exchanged wider.rect) r in
    let is_turned = has_exchanged wider (asks_nothing r wider.rect none) is_wider in
    let higher = has_wide (rect.height - r.rect.height) rect.height turned (asks_nothing r turned.rect none) (omega arith) is_turned in
    has_exchanged (in_rect (so_wide rect.height turned.rect) r) (asks_nothing r (so_wide rect.height turned.rect) none) higher

pub none_inside : HasNoneInside
none_inside r rect none (inl fits) without laid =
    without (has_greater (in_rect rect r) r.rect (asks_nothing r rect none) fits.0 fits.1 laid)
none_inside r rect none (inr fits) without laid =
    let turned = has_exchanged (in_rect rect r) (asks_nothing r rect none) laid in
    without (has_greater (in_rect (exchanged rect) r) r.rect (asks_nothing r (exchanged rect) none) fits.1 fits.0 turned)
