-- On no grid that a search left behind do any parts show the network.
use Rattle.std.proofs.Common.{ℕ, List, [], ◌∷◌, ◌++◌, inl, inr, sym, subst, ⊎_elim, arith}
use Rattle.std.specs.List.{All, AllPairs, Contains}
use Rattle.std.specs.declared.option.Option.{Option}
use Rattle.std.proofs.lemmas.List.Elements.{All-tail, Contains-append_cases}
use Rattle.bt_parts.specs.declared.part.Rect.{Rect}
use Rattle.bt_model.proofs.Sorted.{contains_cases, contains_none, pairs_head, pairs_tail}
use Rattle.bt_model.specs.Requests.{LayoutRequest}
use Rattle.bt_layout.specs.Layouts.{HasNoLayout}
use Rattle.bt_grids.specs.declared.outcome.RuledOut.{RuledOut}
use Rattle.bt_grids.specs.declared.outcome.Smallest.TheVariants.{Found, Nowhere, Spent}
use Rattle.bt_grids.specs.Grids.{AreGridsFrom, ComesBefore, IsSkipped, IsWithin}
use Rattle.bt_grids.specs.Asked.{request_on}
use Rattle.bt_layout.specs.Smallest.{IsFirstLeft, IsRuledOut, PassedHasNoLayout, grids_of}

-- no two grids come before each other
not_both : (one other : Rect) → ComesBefore one other → ComesBefore other one → ⊥
not_both one other (inl less) (inl more) = omega (arith, less, more)
not_both one other (inl less) (inr more) = let e = more.0 in omega (arith, less, e)
not_both one other (inr less) (inl more) = let e = less.0 in omega (arith, more, e)
not_both one other (inr less) (inr more) = let a = less.1 in let b = more.1 in omega (arith, a, b)

-- in a list of grids in order, none behind one comes before it
not_behind : (front behind : List Rect) (grid other : Rect) → AllPairs ComesBefore (front ++ grid ∷ behind) → Contains (grid ∷ behind) other → ComesBefore other grid → ⊥
not_behind [] behind grid other ordered has before =
    ⊎_elim (λ same. let twice = subst (λ x. ComesBefore x grid) same before in not_both grid grid twice twice)
    (λ there. not_both grid other (pairs_head ComesBefore grid behind other ordered there) before) (contains_cases grid behind other has)
not_behind (first ∷ front) behind grid other ordered has before =
    not_behind front behind grid other (pairs_tail ComesBefore first (front ++ grid ∷ behind) ordered) has before

module _ (r : LayoutRequest) (learnt : ℕ) (grid : Rect) where
  -- a grid that is ruled out
  passed_none : (earlier : List RuledOut) → All (IsRuledOut r learnt) earlier → Contains (grids_of earlier) grid → HasNoLayout (request_on r grid)
  passed_none [] ruled has = absurd (contains_none grid has)
  passed_none (one ∷ earlier) ruled has =
      ⊎_elim (λ same. subst (λ g. HasNoLayout (request_on r g)) (sym same) (ruled 0 one (omega arith)).none)
      (λ there. passed_none earlier (All-tail (IsRuledOut r learnt) one earlier ruled) there)
      (contains_cases one.grid (grids_of earlier) grid has)

  -- a grid that comes before the first that is left
  before_none : (first : Option Rect) (earlier : List RuledOut) (left : Rect) (later : List Rect) → All (IsRuledOut r learnt) earlier
      → AreGridsFrom first r.rect (grids_of earlier ++ left ∷ later) → IsWithin r.rect grid → (IsSkipped first grid → ⊥) → ComesBefore grid left → HasNoLayout (request_on r grid)
  before_none first earlier left later ruled are within taken before =
      ⊎_elim (passed_none earlier ruled) (λ behind. absurd (not_behind (grids_of earlier) later left grid are.in_order behind before))
      (Contains-append_cases (grids_of earlier) (left ∷ later) grid (are.all grid within taken))

-- what holds of all items of a list holds of one among them
among : {X : Type 0} (P : X → Type 0) (front behind : List X) (x : X) → All P (front ++ x ∷ behind) → P x
among P [] behind x all = all 0 x (omega arith)
among P (y ∷ front) behind x all = among P front behind x (All-tail P y (front ++ x ∷ behind) all)

-- the first grid that is left is within the greatest one
pub left_within : (first : Option Rect) (r : LayoutRequest) (learnt : ℕ) (earlier : List RuledOut) (grid : Rect) → IsFirstLeft first r learnt earlier grid → IsWithin r.rect grid
left_within first r learnt earlier grid is = among (IsWithin r.rect) (grids_of earlier) is.later grid is.in_order.within

-- and isn't passed by
pub left_taken : (first : Option Rect) (r : LayoutRequest) (learnt : ℕ) (earlier : List RuledOut) (grid : Rect) → IsFirstLeft first r learnt earlier grid → IsSkipped first grid → ⊥
left_taken first r learnt earlier grid is = among (λ g. IsSkipped first g → ⊥) (grids_of earlier) is.later grid is.in_order.none_skipped

pub passed_has_no_layout : PassedHasNoLayout
passed_has_no_layout first r learnt (Found earlier left parts) grid is within taken before =
    before_none r learnt grid first earlier.items left is.0.later is.0.ruled_out is.0.in_order within taken before
passed_has_no_layout first r learnt (Nowhere earlier) grid is within taken before = passed_none r learnt grid earlier.items is.1 (is.0.all grid within taken)
passed_has_no_layout first r learnt (Spent earlier left log) grid is within taken before =
    before_none r learnt grid first earlier.items left is.0.later is.0.ruled_out is.0.in_order within taken before
