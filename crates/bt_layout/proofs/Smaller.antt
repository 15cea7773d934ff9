-- Small grids on which parts that show a network are looked for.
use Rattle.std.proofs.Common.{◌≡◌, ℕ, ◌≤◌, inl, inr, ⊎_elim, List, [], ◌∷◌, ◌++◌, get_or, None, Some, refl, sym, subst, ◌∙◌, ap, arith}
use Rattle.std.specs.Prelude.{Contains, MatchOption, Option, Vec, option_map, slice_get}
use Rattle.std.specs.declared.alloc.Global.{Global}
use Rattle.std.proofs.lemmas.Bool.{cases_lt}
use Rattle.std.proofs.lemmas.Nat.{mul-le}
use Rattle.std.proofs.lemmas.List.{map-append}
use Rattle.std.proofs.lemmas.List.Elements.{All-nil, All-push, Contains-append_left, Contains-push, Contains-push_cases}
use Rattle.std.proofs.lemmas.Option.{get_or_from_slice_get, slice_get-map, slice_get_within}
use Rattle.bt_parts.specs.declared.part.Part.{Part}
use Rattle.bt_parts.specs.declared.part.Rect.{Rect}
use Rattle.bt_model.specs.Laying.{Lays}
use Rattle.bt_model.specs.Requests.{LayoutRequest}
use Rattle.bt_grids.specs.declared.outcome.Small.TheVariants.{Found, Spent}
use Rattle.bt_grids.specs.declared.outcome.Early.TheVariants as early
use Rattle.bt_layout.specs.Early.{AreRefuted, IsEarly}
use Rattle.bt_grids.specs.Grids.{AreGrids, area_of}
use Rattle.bt_layout.specs.Small.{HasFewer, IsBeyond, IsSmall, MayBeAsked}
use Rattle.bt_grids.specs.Asked.{request_on}
use Rattle.bt_layout.specs.inner.Progressing.{AskEach, AskSmall}
use Rattle.bt_layout.proofs.Written.{laid_within}

-- what is said of an answer where there is one, and something else where there is none
pub said_or : {X : Type 0} (answer : Option X) (N : Type 0) (S : X → Type 0) → N → MatchOption answer (Unit {0}) S → MatchOption answer N S
said_or None N S none said = none
said_or (Some x) N S none said = said

module _ (r : LayoutRequest) (cells : Option ℕ) where
  -- a grid that may be asked has few cells, where none are beyond
  few_cells : (cells : Option ℕ) (grid : Rect) → (IsBeyond r cells → ⊥) → MayBeAsked r cells grid → area_of grid ≤ 1024
  few_cells None grid few may =
      let area = mul-le grid.width grid.height r.rect.width r.rect.height may.0.few_across may.0.few_down in
      ⊎_elim (λ lt. omega (arith, lt)) (λ gt. absurd (few (inr (inr (omega (arith, gt, area)))))) (cases_lt (area_of grid) 1025)
  few_cells (Some n) grid few may = ⊎_elim (λ lt. omega (arith, lt)) (λ gt. let less = may.1 in absurd (few (inr (inr (omega (arith, gt, less)))))) (cases_lt (area_of grid) 1025)

  module _ (requests : List LayoutRequest) (asks : AskEach r cells requests) (few : IsBeyond r cells → ⊥) where
    -- the grid of a request that is one of the list
    grid_at : (place : ℕ) (request : LayoutRequest) → slice_get requests place ≡ Some request
        → (grid : Rect) × (slice_get asks.grids place ≡ Some grid) × MayBeAsked r cells grid × (request ≡ request_on r grid)
    grid_at place request is = by_grid (slice_get asks.grids place) refl (sym (slice_get-map (request_on r) asks.grids place) ∙ ap (λ rs. slice_get rs place) (sym asks.are) ∙ is)
      where
        by_grid : (found : Option Rect) → slice_get asks.grids place ≡ found → option_map (request_on r) found ≡ Some request
            → (grid : Rect) × (slice_get asks.grids place ≡ Some grid) × MayBeAsked r cells grid × (request ≡ request_on r grid)
        by_grid None there none = absurd cc
        by_grid (Some grid) there some =
            let same : request ≡ request_on r grid = cc in
            let inside = slice_get_within asks.grids place grid there in
            let only = subst (MayBeAsked r cells) (get_or_from_slice_get asks.grids place grid grid there) (asks.only place grid inside) in
            (grid, there, only, same)

    -- parts that lay one of the requests are right to say
    pub laid_small : (learnt : ℕ) (place : ℕ) (parts : Vec Part Global) (request : LayoutRequest) (grid : Rect) → IsEarly requests learnt (early.Laid place parts)
        → request ≡ get_or requests place request → grid ≡ request.rect → IsSmall r cells learnt (Found grid parts)
    laid_small learnt place parts request grid is at rect =
        let asked = grid_at place is.request is.at_place in
        let one : request ≡ is.request = at ∙ get_or_from_slice_get requests place is.request request is.at_place in
        let same : asked.0 ≡ grid = sym (ap (λ (x : LayoutRequest). x.rect) asked.3) ∙ sym (ap (λ (x : LayoutRequest). x.rect) one) ∙ sym rect in
        let may = subst (MayBeAsked r cells) same asked.2 in
        let lays = subst (λ g. Lays parts.items (request_on r g)) same (subst (λ x. Lays parts.items x) asked.3 is.lays) in
        let fit = laid_within (request_on r grid) parts.items lays in
        let area = few_cells cells grid few may in
        (may, lays, is.in_order, omega (arith, fit, area))

    -- and so is that none was found
    pub spent_small : (learnt steps : ℕ) → IsEarly requests learnt (early.Spent steps) → IsSmall r cells learnt (Spent steps)
    spent_small learnt steps is = (
      few,
      is.few,
      λ less. record { grids = asks.grids; all = asks.all; refuted = subst (λ rs. AreRefuted rs steps) asks.are (is.none less) },
    )

  -- ---- the requests for grids

  -- for no grids there are none
  pub ask_none : AskSmall r cells [] []
  ask_none = record {
    asked = [];
    are = refl;
    only = All-nil (MayBeAsked r cells);
    all = λ grid among few. among;
  }

  -- one more grid that may be asked
  pub ask_more : (grids : List Rect) (requests : List LayoutRequest) (grid : Rect) → MayBeAsked r cells grid → AskSmall r cells grids requests
      → AskSmall r cells (grids ++ grid ∷ []) (requests ++ request_on r grid ∷ [])
  ask_more grids requests grid may ask = record {
    asked = ask.asked ++ grid ∷ [];
    are = ap (λ rs. rs ++ request_on r grid ∷ []) ask.are ∙ sym (map-append (request_on r) ask.asked (grid ∷ []));
    only = All-push (MayBeAsked r cells) ask.asked grid ask.only may;
    all = λ other among fewer. elim (Contains-push_cases grids grid other among) [
      | inl before ↦ Contains-append_left ask.asked (grid ∷ []) other (ask.all other before fewer)
      | inr same ↦ subst (Contains (ask.asked ++ grid ∷ [])) same (Contains-push ask.asked grid)
    ];
  }

  -- one more that may not
  pub ask_same : (grids : List Rect) (requests : List LayoutRequest) (grid : Rect) → (HasFewer cells grid → ⊥) → AskSmall r cells grids requests → AskSmall r cells (grids ++ grid ∷ []) requests
  ask_same grids requests grid many ask = record {
    asked = ask.asked;
    are = ask.are;
    only = ask.only;
    all = λ other among fewer. elim (Contains-push_cases grids grid other among) [
      | inl before ↦ ask.all other before fewer
      | inr same ↦ absurd (many (subst (HasFewer cells) (sym same) fewer))
    ];
  }

  -- and all of them
  pub ask_each : (grids : List Rect) (requests : List LayoutRequest) → AreGrids r.rect grids → AskSmall r cells grids requests → AskEach r cells requests
  ask_each grids requests are ask = record {
    grids = ask.asked;
    are = ask.are;
    only = ask.only;
    all = λ grid may. ask.all grid (are.all grid may.0) may.1;
  }
