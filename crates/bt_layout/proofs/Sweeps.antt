-- Places that ascend.
use Rattle.std.proofs.Common.{◌≡◌, ◌⊎◌, inl, inr, ℕ, ◌+◌, ◌-◌, ◌^◌, ◌<◌, ◌≤◌, List, get_or, length, Option, Some, None, sym, ap, subst, ◌∙◌, arith}
use Rattle.std.specs.Prelude.{All, AllPairs, IfSome, Vec, slice_get, take}
use Rattle.std.specs.declared.alloc.Global.{Global}
use Rattle.std.specs.List.{remove}
use Rattle.std.proofs.lemmas.Bool.{cases_lt}
use Rattle.std.proofs.lemmas.List.Edits.{get_or-remove_above, get_or-remove_below, length-remove}
use Rattle.std.proofs.lemmas.List.{get_or_default, get_or-take, length-take}
use Rattle.std.proofs.lemmas.Option.{slice_get-get_or}
use Rattle.bt_parts.specs.declared.part.Part.{Part}
use Rattle.bt_model.specs.Requests.{LayoutRequest}
use Rattle.bt_layout.specs.Early.{IsLaid}
use Rattle.bt_layout.specs.declared.likely.Tried.{Tried}
use Rattle.bt_layout.specs.declared.likely.Trial.TheVariants.{Found}
use Rattle.bt_layout.specs.declared.progress.Laid.{Laid}
use Rattle.bt_layout.specs.declared.sweep.Sweep.{Sweep}
use Rattle.bt_layout.specs.inner.Likely.{IsLaidOut, IsTrial, IsTried}
use Rattle.bt_layout.specs.inner.Progressing.{ArePaid, IsSearched, IsSweep, at_index, lesser_of}
use Rattle.bt_layout.proofs.Told.{lesser_within}

abbrev Ascend : List ℕ → Type 0
Ascend xs = AllPairs (λ one other. one < other) xs

-- the first of them ascend
pub first_ascend : (xs : List ℕ) (n : ℕ) → Ascend xs → Ascend (take n xs)
first_ascend xs n are = λ i j d before within.
    let size = length-take n xs in
    let inside : j < length xs = omega (arith, size, within) in
    let below : j < n = omega (arith, size, within) in
    let both = are i j d before inside in
    let one = get_or-take n xs i d (omega (arith, before, below)) in
    let other = get_or-take n xs j d below in
    omega (arith, both, one, other)

-- and are less than the next one
pub first_less : (xs : List ℕ) (n : ℕ) → n < length xs → Ascend xs → All (λ x. x < get_or xs n 0) (take n xs)
first_less xs n inside are = λ i d within.
    let size = length-take n xs in
    let below : i < n = omega (arith, size, within) in
    let both = are i n 0 below inside in
    let one = get_or-take n xs i d below in
    let same = get_or_other xs i d (omega (arith, below, inside)) in
    omega (arith, both, one, same)
  where
    get_or_other : (xs : List ℕ) (i : ℕ) (d : ℕ) → i < length xs → get_or xs i d ≡ get_or xs i 0
    get_or_other xs i d lt = get_or_default xs i d 0 lt

-- a place that is less than all that aren't lesser is less than the one that was laid
pub is_lesser : (count place : ℕ) (found : Option Laid) → place < lesser_of count found → IfSome found (λ laid. place < laid.place)
is_lesser count place (Some laid) less = less
is_lesser count place None less = tt

-- what holds of each place holds of each that is left where one is taken out
pub all_left : (P : ℕ → Type 0) (xs : List ℕ) (n : ℕ) → n < length xs → All P xs → All P (remove xs n)
all_left P xs n inside all = λ i d within. by_place i d within (cases_lt i n)
  where
    by_place : (i : ℕ) (d : ℕ) → i < length (remove xs n) → (i < n) ⊎ (n ≤ i) → P (get_or (remove xs n) i d)
    by_place i d within (inl below) = subst P (sym (get_or-remove_below xs n d i below inside)) (all i d (omega (arith, below, inside)))
    by_place i d within (inr above) =
        let size = length-remove xs n inside in
        subst P (sym (get_or-remove_above xs n d i above inside)) (all (i + 1) d (omega (arith, size, within)))

-- what a search came to is paid with the steps that are left
pub searched_paid : (requests : List LayoutRequest) (learnt : ℕ) (sweep : Sweep) (at : ℕ) (tried : Tried) → IsSearched requests learnt sweep at tried
    → ArePaid learnt sweep.progress.steps tried.steps
searched_paid requests learnt sweep at tried is =
    let few = is.is_tried.1 in
    let left = is.left in
    record { few = omega (arith, few, left); limit = is.limit }

-- parts that were found lay the request
pub searched_laid : (requests : List LayoutRequest) (learnt : ℕ) (sweep : Sweep) (at : ℕ) (tried : Tried) (parts : Vec Part Global) → IsSearched requests learnt sweep at tried
    → tried.trial ≡ Found parts → IsLaid requests (at_index sweep at) parts
searched_laid requests learnt sweep at tried parts is found =
    let laid : IsLaidOut is.request parts.items = subst (IsTrial is.request) found is.is_tried.0 in
    record { request = is.request; at_place = is.is; lays = laid.0; in_order = laid.1 }

-- so is what it came to, at the place that is at an index
pub searched_at : (requests : List LayoutRequest) (learnt : ℕ) (sweep : Sweep) (at place most : ℕ) (request : LayoutRequest) (tried : Tried) → IsSweep requests learnt sweep
    → at < length sweep.places.items → place ≡ get_or sweep.places.items at place → request ≡ get_or requests place request → IsTried request most tried
    → most ≡ learnt - sweep.progress.steps → learnt < 2 ^ 64 → IsSearched requests learnt sweep at tried
searched_at requests learnt sweep at place most request tried is inside at_index_is is_request is_tried left limit =
    let same : place ≡ get_or sweep.places.items at 0 = at_index_is ∙ get_or_default sweep.places.items at place 0 inside in
    let less = is.lesser at 0 inside in
    let all = lesser_within requests sweep.progress.found is.progress.found in
    let within : place < length requests = omega (arith, same, less, all) in
    let few = is.progress.few in
    let read : slice_get requests place ≡ Some request = slice_get-get_or requests place request within ∙ ap (λ x. Some x) (sym is_request) in
    record {
      request = request;
      is = subst (λ p. slice_get requests p ≡ Some request) same read;
      most = most;
      is_tried = is_tried;
      left = omega (arith, left, few);
      limit = limit;
    }
