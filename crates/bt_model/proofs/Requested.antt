-- Requests and why there is none: one answer is right, and nothing is refused of a request.
use Rattle.std.proofs.Common.{◌≡◌, ◌≢◌, ℕ, ◌<◌, max, List, length, All, AllPairs, Some, refl, sym, ◌∙◌, ap, subst, inl, inr, ⊎_elim, arith, get_or}
use Rattle.std.specs.Prelude.{slice_get, Result, Ok, Err}
use Rattle.std.proofs.lemmas.Bool.{cases_lt, cases_order}
use Rattle.std.proofs.lemmas.Int.{ints}
use Rattle.std.proofs.lemmas.Option.{same_Some, slice_get_within, slice_get-get_or, get_or_from_slice_get}
use Rattle.bt_text.specs.Answers.{AnswersAlways, HasOneAnswer}
use Rattle.bt_text.proofs.OneAnswer.{answers_always_of}
use Rattle.bt_parts.specs.declared.part.Rect.{Rect}
use Rattle.bt_parts.specs.Cells.{IsInside, cell_at}
use Rattle.bt_net.specs.declared.network.Demand.{Demand}
use Rattle.bt_net.specs.declared.network.Demand.TheVariants as demand
use Rattle.bt_net.specs.declared.network.Edge.{Edge}
use Rattle.bt_net.specs.declared.network.End.{End}
use Rattle.bt_net.specs.declared.network.End.TheVariants as end
use Rattle.bt_net.specs.declared.network.Ends.{Ends}
use Rattle.bt_net.specs.declared.network.Ends.TheVariants.{One, Inputs, Outputs}
use Rattle.bt_net.specs.Network.{Network, IsNetwork, HasEnd}
use Rattle.bt_model.specs.declared.fault.RequestFault.{RequestFault}
use Rattle.bt_model.specs.declared.fault.RequestFault.TheVariants as fault
use Rattle.bt_model.specs.declared.request.TheConstants.{MOST_EDGES, MOST_SPLITTERS}
use Rattle.bt_model.specs.Requests.{LayoutRequest, HasEnds, IsGrid, IsRequest, ends_of, line_of, IsPinnedTo, IsPinnedInside, blocked}
use Rattle.bt_model.specs.RequestFaults.{HasNone, IsLeast, IsTooLarge, HasOtherCap, IsLineOfBad, IsLaterOfTwo, IsOutOfPlace, NameOneEnd, IsPinRefused, IsInTheWay, BlockOneCell, IsBlockRefused, IsMade}

-- an edge of another cap, as it is found
pub other_cap_here : (net : Network) (edges : List Edge) (k : ℕ) (edge : Edge) → edges ≡ net.edges → slice_get edges k ≡ Some edge → edge.cap ≢ 1 → HasOtherCap net k
other_cap_here net edges k edge same is other = (edge, ap (λ all. slice_get all k) (sym same) ∙ is, other)

pub no_other_cap_here : (net : Network) (edges : List Edge) (k : ℕ) (edge : Edge) → edges ≡ net.edges → slice_get edges k ≡ Some edge → edge.cap ≡ 1 → HasOtherCap net k → ⊥
no_other_cap_here net edges k edge same is one other = other.2 (ap (λ e. e.cap) (same_Some other.0 edge (sym other.1 ∙ ap (λ all. slice_get all k) (sym same) ∙ is)) ∙ one)

-- what holds of each element holds of one that stands there
holds_at : {X : Type 0} (P : X → Type 0) (xs : List X) (k : ℕ) (x : X) → slice_get xs k ≡ Some x → All P xs → P x
holds_at P xs k x is all = subst P (get_or_from_slice_get xs k x x is) (all k x (slice_get_within xs k x is))

holds_between : {X : Type 0} (R : X → X → Type 0) (xs : List X) (i j : ℕ) (x y : X) → slice_get xs i ≡ Some x → slice_get xs j ≡ Some y → i < j → AllPairs R xs → R x y
holds_between R xs i j x y is_x is_y lt all =
    subst (λ b. R x b) (get_or_from_slice_get xs j y x is_y) (subst (λ a. R a (get_or xs j x)) (get_or_from_slice_get xs i x x is_x) (all i j x lt (slice_get_within xs j y is_y)))

-- where no line is refused, none of the list is bad, and no two clash
all_good : {X : Type 0} (IsBad P : X → Type 0) (line_of : X → ℕ) (xs : List X) → ((x : X) → (IsBad x → ⊥) → P x) → HasNone (IsLineOfBad IsBad line_of xs) → All P xs
all_good IsBad P line_of xs good none = λ k d lt. good (get_or xs k d) (λ bad. none (line_of (get_or xs k d)) (record { place = k; one = get_or xs k d; is_one = slice_get-get_or xs k d lt; bad = bad; line_is = refl }))

all_apart : {X : Type 0} (Clash : X → X → Type 0) (line_of : X → ℕ) (xs : List X) → HasNone (IsLaterOfTwo Clash line_of xs) → AllPairs (λ one other. Clash one other → ⊥) xs
all_apart Clash line_of xs none = λ i j d lt within clash. none (max (line_of (get_or xs i d)) (line_of (get_or xs j d))) (record {
  first_place = i;
  second_place = j;
  apart = lt;
  one = get_or xs i d;
  is_one = slice_get-get_or xs i d (omega arith);
  other = get_or xs j d;
  is_other = slice_get-get_or xs j d within;
  clash = clash;
  line_is = refl;
})

-- of two least numbers neither is less
one_least : (P : ℕ → Type 0) (m n : ℕ) → IsLeast P m → IsLeast P n → m ≡ n
one_least P m n p q = let le = p.1 n q.0 in let ge = q.1 m p.0 in omega arith

-- a cell of the rectangle, by its two numbers
pub inside_at : (rect : Rect) (x y : ℕ) → x < rect.width → y < rect.height → IsInside rect (cell_at x y)
inside_at rect x y across down = (omega (arith, ints), omega (arith, ints), omega (arith, ints), omega (arith, ints))

pub at_inside : (rect : Rect) (x y : ℕ) → IsInside rect (cell_at x y) → (x < rect.width) × (y < rect.height)
at_inside rect x y inside = (omega (arith, ints, inside.1), omega (arith, ints, inside.3))

-- what isn't outside is inside, and what isn't missing is there
not_outside : (rect : Rect) (x y : ℕ) → ((IsInside rect (cell_at x y) → ⊥) → ⊥) → IsInside rect (cell_at x y)
not_outside rect x y h = ⊎_elim
    (λ across. ⊎_elim (λ down. inside_at rect x y across down) (λ le. absurd (h (λ inside. let lt = (at_inside rect x y inside).1 in omega arith))) (cases_lt y rect.height))
    (λ le. absurd (h (λ inside. let lt = (at_inside rect x y inside).0 in omega arith))) (cases_lt x rect.width)

not_missing : (net : Network) (e : End) → ((HasEnd net e → ⊥) → ⊥) → HasEnd net e
not_missing net (end.Input k) h = ⊎_elim (λ lt. lt) (λ le. absurd (h (λ lt. omega arith))) (cases_lt k net.inputs)
not_missing net (end.Output k) h = ⊎_elim (λ lt. lt) (λ le. absurd (h (λ lt. omega arith))) (cases_lt k net.outputs)

not_missed : (net : Network) (e : Ends) → ((HasEnds net e → ⊥) → ⊥) → HasEnds net e
not_missed net (One e) h = not_missing net e h
not_missed net Inputs h = tt
not_missed net Outputs h = tt

not_pinned_outside : (rect : Rect) (d : Demand) → ((IsPinnedInside rect d → ⊥) → ⊥) → IsPinnedInside rect d
not_pinned_outside rect (demand.Pin pin) h = not_outside rect pin.x pin.y h
not_pinned_outside rect (demand.Side side) h = tt
not_pinned_outside rect (demand.Row row) h = tt

-- all caps are 1, where no edge has another
caps_of_one : (net : Network) → HasNone (HasOtherCap net) → All (λ edge. edge.cap ≡ 1) net.edges
caps_of_one net none = λ k d lt. ⊎_elim (λ eq. eq) (λ apart. absurd (none k (get_or net.edges k d, slice_get-get_or net.edges k d lt, λ eq. ⊎_elim (λ l. omega (arith, eq, l)) (λ g. omega (arith, eq, g)) apart)))
    (cases_order (get_or net.edges k d).cap 1)

module _ (r : LayoutRequest) where
  -- a request, where nothing of it is refused
  pub request_where_none : IsNetwork r.net → IsGrid r.rect → (IsTooLarge r.net → ⊥) → HasNone (HasOtherCap r.net)
      → HasNone (IsPinRefused r.net r.rect r.demands) → HasNone (IsBlockRefused r.rect r.demands r.blocks) → IsRequest r
  request_where_none net grid small caps demands blocks = record {
    net = net;
    grid = grid;
    few_edges = ⊎_elim (λ lt. absurd (small (inl lt))) (λ le. le) (cases_lt MOST_EDGES (length r.net.edges));
    few_splitters = ⊎_elim (λ lt. absurd (small (inr lt))) (λ le. le) (cases_lt MOST_SPLITTERS r.net.splitters);
    caps = caps_of_one r.net caps;
    ends = all_good (IsOutOfPlace r.net r.rect) (λ d. HasEnds r.net (ends_of d)) line_of r.demands (λ d good. not_missed r.net (ends_of d) (λ missing. good (inl missing))) (λ line bad. demands line (inl bad));
    pins_inside = all_good (IsOutOfPlace r.net r.rect) (IsPinnedInside r.rect) line_of r.demands (λ d good. not_pinned_outside r.rect d (λ out. good (inr out))) (λ line bad. demands line (inl bad));
    demands_apart = all_apart NameOneEnd line_of r.demands (λ line two. demands line (inr two));
    blocks_inside = all_good (IsInTheWay r.rect r.demands) (λ block. IsInside r.rect (blocked block)) (λ block. block.line) r.blocks (λ block good. not_outside r.rect block.x block.y (λ out. good (inl out))) (λ line bad. blocks line (inl bad));
    blocks_apart = all_apart BlockOneCell (λ block. block.line) r.blocks (λ line two. blocks line (inr two));
    blocks_unpinned = all_good (IsInTheWay r.rect r.demands) (λ block. All (λ d. IsPinnedTo (blocked block) d → ⊥) r.demands) (λ block. block.line) r.blocks
        (λ block good k d lt same. good (inr (record { place = k; demand = get_or r.demands k d; is_demand = slice_get-get_or r.demands k d lt; same = same }))) (λ line bad. blocks line (inl bad));
  }

  module _ (request : IsRequest r) where
    -- of a request nothing is refused
    request_small : IsTooLarge r.net → ⊥
    request_small large = ⊎_elim (λ lt. omega (arith, request.few_edges, lt)) (λ lt. omega (arith, request.few_splitters, lt)) large

    request_caps : HasNone (HasOtherCap r.net)
    request_caps k other = other.2 (holds_at (λ edge. edge.cap ≡ 1) r.net.edges k other.0 other.1 request.caps)

    request_demands : HasNone (IsPinRefused r.net r.rect r.demands)
    request_demands line refused = ⊎_elim
        (λ bad. ⊎_elim
        (λ missing. missing (holds_at (λ d. HasEnds r.net (ends_of d)) r.demands bad.place bad.one bad.is_one request.ends))
        (λ outside. outside (holds_at (IsPinnedInside r.rect) r.demands bad.place bad.one bad.is_one request.pins_inside)) bad.bad)
        (λ two. holds_between (λ one other. NameOneEnd one other → ⊥) r.demands two.first_place two.second_place two.one two.other two.is_one two.is_other two.apart request.demands_apart two.clash)
        refused

    request_blocks : HasNone (IsBlockRefused r.rect r.demands r.blocks)
    request_blocks line refused = ⊎_elim
        (λ bad. ⊎_elim
        (λ outside. outside (holds_at (λ block. IsInside r.rect (blocked block)) r.blocks bad.place bad.one bad.is_one request.blocks_inside))
        (λ on. holds_at (λ d. IsPinnedTo (blocked bad.one) d → ⊥) r.demands on.place on.demand on.is_demand
        (holds_at (λ block. All (λ d. IsPinnedTo (blocked block) d → ⊥) r.demands) r.blocks bad.place bad.one bad.is_one request.blocks_unpinned) on.same) bad.bad)
        (λ two. holds_between (λ one other. blocked one ≢ blocked other) r.blocks two.first_place two.second_place two.one two.other two.is_one two.is_other two.apart request.blocks_apart two.clash)
        refused

  -- what comes in a place of a request that is made
  no_fault : (f : RequestFault) → IsRequest r → IsMade r (Err f) → ⊥
  no_fault fault.TooLarge request q = request_small request q
  no_fault (fault.Cap k) request q = request_caps request k q.1.0
  no_fault (fault.Pin line) request q = request_demands request line q.2.0
  no_fault (fault.Block line) request q = request_blocks request line q.3.0

  -- one fault is right
  one_fault : (f g : RequestFault) → IsMade r (Err f) → IsMade r (Err g) → f ≡ g
  one_fault fault.TooLarge fault.TooLarge p q = refl
  one_fault fault.TooLarge (fault.Cap k) p q = absurd (q.0 p)
  one_fault fault.TooLarge (fault.Pin k) p q = absurd (q.0 p)
  one_fault fault.TooLarge (fault.Block k) p q = absurd (q.0 p)
  one_fault (fault.Cap j) fault.TooLarge p q = absurd (p.0 q)
  one_fault (fault.Cap j) (fault.Cap k) p q = ap fault.Cap (one_least (HasOtherCap r.net) j k p.1 q.1)
  one_fault (fault.Cap j) (fault.Pin k) p q = absurd (q.1 j p.1.0)
  one_fault (fault.Cap j) (fault.Block k) p q = absurd (q.1 j p.1.0)
  one_fault (fault.Pin j) fault.TooLarge p q = absurd (p.0 q)
  one_fault (fault.Pin j) (fault.Cap k) p q = absurd (p.1 k q.1.0)
  one_fault (fault.Pin j) (fault.Pin k) p q = ap fault.Pin (one_least (IsPinRefused r.net r.rect r.demands) j k p.2 q.2)
  one_fault (fault.Pin j) (fault.Block k) p q = absurd (q.2 j p.2.0)
  one_fault (fault.Block j) fault.TooLarge p q = absurd (p.0 q)
  one_fault (fault.Block j) (fault.Cap k) p q = absurd (p.1 k q.1.0)
  one_fault (fault.Block j) (fault.Pin k) p q = absurd (p.2 k q.2.0)
  one_fault (fault.Block j) (fault.Block k) p q = ap fault.Block (one_least (IsBlockRefused r.rect r.demands r.blocks) j k p.3 q.3)

  -- one answer is right
  pub one_made : HasOneAnswer (IsMade r)
  one_made (Ok a) (Ok b) p q = ap Ok (p.0 ∙ sym q.0)
  one_made (Ok a) (Err g) p q = absurd (no_fault g (subst IsRequest p.0 p.1) q)
  one_made (Err f) (Ok b) p q = absurd (no_fault f (subst IsRequest q.0 q.1) p)
  one_made (Err f) (Err g) p q = ap Err (one_fault f g p q)

  -- what a call that makes a request owes
  pub made_answers : (told : Result LayoutRequest RequestFault) → IsMade r told → AnswersAlways (IsMade r) told
  made_answers told right = answers_always_of (IsMade r) one_made told right
