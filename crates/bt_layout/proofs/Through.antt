-- Requests that are refuted, from the last one downwards.
use Rattle.std.proofs.Common.{◌≡◌, ℕ, ◌+◌, ◌<◌, ◌≤◌, List, [], ◌∷◌, length, map, Some, sym, ap, subst, ◌∙◌, arith}
use Rattle.std.specs.Prelude.{drop, slice_get, take}
use Rattle.std.proofs.lemmas.List.{drop_all, drop_more, get_or-take, length-take, take_all}
use Rattle.std.proofs.lemmas.List.Sums.{sum_by-cons}
use Rattle.std.proofs.lemmas.Option.{get_or_from_slice_get, slice_get_within}
use Rattle.bt_log.specs.Logs.{Step}
use Rattle.bt_model.specs.Requests.{LayoutRequest}
use Rattle.bt_layout.specs.Early.{AreRefuted, IsRefuted}

-- of no requests nothing has to be shown
none_refuted : (most : ℕ) → AreRefuted [] most
none_refuted most = record { logs = []; each = tt; few = omega arith }

-- more steps are enough too
pub refuted_by_more : (requests : List LayoutRequest) (few most : ℕ) → few ≤ most → AreRefuted requests few → AreRefuted requests most
refuted_by_more requests few most more are = let was = are.few in record { logs = are.logs; each = are.each; few = omega (arith, more, was) }

-- one request more
more_refuted : (requests : List LayoutRequest) (r : LayoutRequest) (log : List Step) (most : ℕ) → IsRefuted r log → AreRefuted requests most → AreRefuted (r ∷ requests) (most + length log)
more_refuted requests r log most is are =
    let more = sum_by-cons (λ (n : ℕ). n) (length log) (map length are.logs) in
    let was = are.few in
    record { logs = log ∷ are.logs; each = (is, are.each); few = omega (arith, more, was) }

-- the first so many requests from a place on begin with the one at that place
begin_at : (requests : List LayoutRequest) (count place : ℕ) (r : LayoutRequest) → place < count → slice_get requests place ≡ Some r
    → drop place (take count requests) ≡ r ∷ drop (place + 1) (take count requests)
begin_at requests count place r before is =
    let within = slice_get_within requests place r is in
    let size = length-take count requests in
    let inside : place < length (take count requests) = omega (arith, size, within, before) in
    drop_more (take count requests) place r inside
    ∙ ap (λ x. x ∷ drop (place + 1) (take count requests)) (get_or-take count requests place r before ∙ get_or_from_slice_get requests place r r is)

pub refuted_at : (requests : List LayoutRequest) (count place most : ℕ) (r : LayoutRequest) (log : List Step) → place < count → slice_get requests place ≡ Some r → IsRefuted r log
    → AreRefuted (drop (place + 1) (take count requests)) most → AreRefuted (drop place (take count requests)) (most + length log)
refuted_at requests count place most r log before is refuted are =
    subst (λ rs. AreRefuted rs (most + length log)) (sym (begin_at requests count place r before is)) (more_refuted (drop (place + 1) (take count requests)) r log most refuted are)

-- from where they end on there are none
pub ended : (requests : List LayoutRequest) (count most : ℕ) → AreRefuted (drop count (take count requests)) most
ended requests count most =
    let size = length-take count requests in
    subst (λ rs. AreRefuted rs most) (sym (drop_all count (take count requests) (omega (arith, size)))) (none_refuted most)

-- all of them are left where none was laid
pub all_left : (requests : List LayoutRequest) (steps : ℕ) → AreRefuted (drop 0 (take (length requests) requests)) steps → AreRefuted requests steps
all_left requests steps are = subst (λ rs. AreRefuted rs steps) (take_all (length requests) requests (omega arith)) are
